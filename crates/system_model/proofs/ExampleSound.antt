-- The example is sound.
use Rattle.std.proofs.Common.{◌≡◌, ℕ, zero, suc, ◌<◌, Bool, true, false, [], ◌∷◌, length, refl, sym, ◌∙◌, ap, subst, arith, All, Contains, nat_eq}
use Rattle.std.specs.Prelude.{Option, Some, None, IsSomeAnd, slice_get}
use Rattle.std.specs.List.{AllZip, IsDistinct}
use Rattle.std.proofs.lemmas.Option.{none-some as none_some, same_Some}
use Rattle.std.proofs.lemmas.List.Elements.{All-nil, All-cons, All-contains}
use Rattle.std.proofs.lemmas.Map.Keys.{IsDistinct-cons}
use Rattle.value_types.specs.Shape.{variable_at, is_at, is_clock, is_declared}
use Rattle.value_types.specs.declared.shape.Shape.{Shape}
use Rattle.value_types.specs.declared.shape.Variable.{Variable}
use Rattle.system_model.specs.declared.system.Component.{Component}
use Rattle.system_model.specs.declared.system.Port.{Port}
use Rattle.system_model.specs.Ports.{port_numbers, source_of, is_output_role}
use Rattle.system_model.specs.Needs.{Needs, ByFeed, ByClock, ByDependency, NeedsInitially, InitiallyByFeed, InitiallyByDependency, DependsOn, is_unclocked_at}
use Rattle.system_model.specs.Shapes.{IsSoundShape, HasFittingStart, HasNames, NamesClocks}
use Rattle.system_model.specs.Ports.{feed_of}
use Rattle.system_model.specs.declared.system.Feed.{Feed}
use Rattle.system_model.specs.Sound.{IsSound, IsRole, IsUnder, IsFeed, HasSoundComponents, HasSoundPorts}
use Rattle.system_model.specs.Example.{variable_c, variable_u, variable_y, sampling_shape, sampling_component, port_c, port_u, port_y, sampling_system}
use Rattle.system_model.proofs.EarlyLemmas.{none_early}
use Rattle.system_model.proofs.Lists.{true_false}
use Rattle.system_model.proofs.OrderLemmas.{order_by}

all3 : {X : Type 0} (P : X → Type 0) (x y z : X) → P x → P y → P z → All P (x ∷ y ∷ z ∷ [])
all3 P x y z a b c = All-cons P x (y ∷ z ∷ []) a (All-cons P y (z ∷ []) b (All-cons P z [] c (All-nil P)))

all1 : {X : Type 0} (P : X → Type 0) (x : X) → P x → All P (x ∷ [])
all1 P x a = All-cons P x [] a (All-nil P)

-- ---- the shape

distinct_last : IsDistinct nat_eq (3 ∷ [])
unfolding IsDistinct
distinct_last = (tt, tt)

sound_shape : IsSoundShape sampling_shape
sound_shape = record {
  variables = record {
    named = all3 HasNames variable_c variable_u variable_y (omega arith, All-nil _) (omega arith, All-nil _) (omega arith, All-nil _);
    distinct = IsDistinct-cons nat_eq 1 (2 ∷ 3 ∷ []) (refl, (refl, tt)) (IsDistinct-cons nat_eq 2 (3 ∷ []) (refl, tt) distinct_last);
    starts = all3 HasFittingStart variable_c variable_u variable_y tt tt tt;
    clocks = all3 (NamesClocks sampling_shape) variable_c variable_u variable_y (λ e. All-nil _) (λ e. all1 (λ r. is_at is_clock sampling_shape.variables r ≡ true) 1 refl) (λ e. All-nil _);
  };
  clocks = (
    record {
      reference = refl;
      events = refl;
      causality = refl;
      described = λ e. (refl, refl);
      interval = λ apart. (omega arith, (10, record { known = omega arith; whole = refl }));
      shift = λ apart. (0, record { known = omega arith; whole = refl });
    },
    tt,
  );
  dependencies = (record { output = refl; on = All-nil _ }, tt);
  initial_dependencies = (record { output = refl; on = All-nil _ }, tt);
  serialized = λ e. absurd (true_false (sym e));
}

one_late : (i : ℕ) (s : Shape) → slice_get (sampling_shape ∷ []) i ≡ Some s → s.might_return_early ≡ false
one_late zero s e = ap (λ (x : Shape). x.might_return_early) (sym (same_Some sampling_shape s e))
one_late (suc i) s e = absurd (none_some s e)

sound_components : HasSoundComponents sampling_system
sound_components = record {
  few = omega arith;
  named = all1 (λ (c : Component). 0 < length c.name) sampling_component (omega arith);
  shapes = all1 (λ (c : Component). IsSoundShape c.shape) sampling_component sound_shape;
  per_second = 1000;
  above = omega arith;
  within = omega arith;
  resolutions = all1 (λ (c : Component). c.shape.resolution ≡ 1000) sampling_component refl;
  saved = λ two. absurd (let none = none_early (sampling_shape ∷ []) one_late in omega (arith, none, two));
}

-- ---- the ports

at_port : (P : Port → Type 0) → P port_c → P port_u → P port_y → (p : ℕ) (port : Port) → slice_get sampling_system.ports p ≡ Some port → P port
at_port P c u y zero port e = subst P (same_Some _ _ e) c
at_port P c u y (suc zero) port e = subst P (same_Some _ _ e) u
at_port P c u y (suc (suc zero)) port e = subst P (same_Some _ _ e) y
at_port P c u y (suc (suc (suc p))) port e = absurd (none_some _ e)

-- what holds of a port's variable
abbrev Holds : (Component → Variable → Port → Type 0) → Port → Type 0
Holds P port = (c : Component) (v : Variable) → slice_get sampling_system.components port.component.0 ≡ Some c → variable_at c.shape.variables port.reference ≡ Some v → P c v port

holds : (P : Component → Variable → Port → Type 0) (port : Port) (v : Variable) → slice_get sampling_system.components port.component.0 ≡ Some sampling_component → variable_at sampling_shape.variables port.reference ≡ Some v →
    P sampling_component v port → Holds P port
holds P port v here there h c w of under =
    let same : sampling_component ≡ c = same_Some _ _ (sym here ∙ of) in
    let same_v : v ≡ w = same_Some _ _ (sym there ∙ ap (λ (x : Component). variable_at x.shape.variables port.reference) same ∙ under) in
    subst (λ (x : Component). P x w port) same (subst (λ x. P sampling_component x port) same_v h)

abbrev HasRole : Component → Variable → Port → Type 0
HasRole c v port = IsRole c.shape v port.role

abbrev HasClocks : Component → Variable → Port → Type 0
HasClocks c v port = AllZip (IsUnder sampling_system port.component.0) v.clocks port.clocks

role_c : HasRole sampling_component variable_c port_c
role_c = (
  refl,
  refl,
  record {
    described = refl;
    interval_counts = record { known = omega arith; whole = refl };
    shift_counts = record { known = omega arith; whole = refl };
    interval_above = omega arith;
    interval_within = omega arith;
    shift_within = omega arith;
  },
)

sound_ports : HasSoundPorts sampling_system
sound_ports = record {
  few = omega arith;
  numbered = refl;
  roles = λ p port c v at. at_port (Holds HasRole) (holds HasRole port_c variable_c refl refl role_c) (holds HasRole port_u variable_u refl refl (refl, refl)) (holds HasRole port_y variable_y refl refl (refl, refl)) p port at.at c v at.of at.there;
  clocks = λ p port c v at. at_port (Holds HasClocks) (holds HasClocks port_c variable_c refl refl tt) (holds HasClocks port_u variable_u refl refl ((refl, refl), tt)) (holds HasClocks port_y variable_y refl refl tt) p port at.at c v at.of at.there;
}

-- ---- what is needed

-- the output depends on nothing
depends_none : (b : Bool) (p q : ℕ) → DependsOn sampling_system b p q → ⊥
depends_none b p q d = at_port (λ port. (c : Component) → slice_get sampling_system.components port.component.0 ≡ Some c → is_output_role port.role ≡ true → (v : Variable) → is_declared c.shape b port.reference v ≡ true → ⊥)
    (λ c of o v h. true_false (sym o)) (λ c of o v h. true_false (sym o))
    (λ c of o v h. true_false (sym h ∙ ap (λ (x : Component). is_declared x.shape b 3 v) (sym (same_Some sampling_component c of)) ∙ nothing b v))
    p d.port d.at d.component d.of d.output (some_of (variable_at d.component.shape.variables d.on.reference) d.declared).0 (some_of (variable_at d.component.shape.variables d.on.reference) d.declared).1
  where
    nothing : (e : Bool) (v : Variable) → is_declared sampling_shape e 3 v ≡ false
    nothing true v = refl
    nothing false v = refl

    some_of : (o : Option Variable) → IsSomeAnd o (λ (v : Variable). is_declared d.component.shape b d.port.reference v ≡ true) → (v : Variable) × (is_declared d.component.shape b d.port.reference v ≡ true)
    some_of None h = absurd h
    some_of (Some v) h = (v, h)

no_clocks : (q : ℕ) → Contains (port_numbers []) q → ⊥
no_clocks q m = let less : m.0 < 0 = m.1 in omega (arith, less)

-- what each port needs: by its feed and its Clocks
abbrev NeedsAlone : Port → (ℕ → Type 0) → Type 0
NeedsAlone port P = ((q : ℕ) → source_of port.role ≡ Some q → P q) × ((q : ℕ) → Contains (port_numbers port.clocks) q → P q)

needs_by : (p : ℕ) (port : Port) → slice_get sampling_system.ports p ≡ Some port → (P : ℕ → Type 0) → NeedsAlone port P → (q : ℕ) → Needs sampling_system p q → P q
needs_by p port is P h q (ByFeed other at from) = h.0 q (ap (λ (x : Port). source_of x.role) (same_Some _ _ (sym is ∙ at)) ∙ from)
needs_by p port is P h q (ByClock other at among) = h.1 q (subst (λ (x : Port). Contains (port_numbers x.clocks) q) (sym (same_Some _ _ (sym is ∙ at))) among)
needs_by p port is P h q (ByDependency d events) = absurd (depends_none false p q d)

initially_by : (p : ℕ) (port : Port) → slice_get sampling_system.ports p ≡ Some port → (P : ℕ → Type 0) → ((q : ℕ) → source_of port.role ≡ Some q → P q) → (q : ℕ) → NeedsInitially sampling_system p q → P q
initially_by p port is P h q (InitiallyByFeed here there other at from) = h q (ap (λ (x : Port). source_of x.role) (same_Some _ _ (sym is ∙ at)) ∙ from)
initially_by p port is P h q (InitiallyByDependency here there d) = absurd (depends_none true p q d)

pub example_sound : IsSound sampling_system
example_sound = record {
  components = sound_components;
  ports = sound_ports;
  feeds = λ p port feed at from. at_port (λ x. feed_of x.role ≡ Some feed → IsSomeAnd (slice_get sampling_system.ports feed.from.0) (λ (source : Port). IsFeed feed source x))
      (λ e. absurd (none_some _ e))
      (λ e. subst (λ (f : Feed). IsSomeAnd (slice_get sampling_system.ports f.from.0) (λ (source : Port). IsFeed f source port_u)) (same_Some _ _ e) (record { output = refl; same_class = refl; changes = λ k d lt. absurd (omega (arith, lt)); range = λ none x h. h }))
      (λ e. absurd (none_some _ e)) p port at from;
  instant_order = order_by (λ p. p < 3) (Needs sampling_system) (0 ∷ 2 ∷ 1 ∷ []) each only (
    λ m. no_clocks 0 m,
    needs_by 0 port_c refl (Contains []) (λ q e. absurd (none_some _ e), λ q m. m),
    (
      λ m. All-contains (λ x. x ≡ 2 → ⊥) (0 ∷ []) 2 (all1 (λ x. x ≡ 2 → ⊥) 0 (λ e. absurd (omega (arith, e)))) m refl,
      needs_by 2 port_y refl (Contains (0 ∷ [])) (λ q e. absurd (none_some _ e), λ q m. absurd (no_clocks q m)),
      (
        λ m. All-contains (λ x. x ≡ 1 → ⊥) (0 ∷ 2 ∷ []) 1 (All-cons (λ x. x ≡ 1 → ⊥) 0 (2 ∷ []) (λ e. absurd (omega (arith, e))) (all1 (λ x. x ≡ 1 → ⊥) 2 (λ e. absurd (omega (arith, e))))) m refl,
        needs_by 1 port_u refl (Contains (0 ∷ 2 ∷ [])) (
          λ q e. subst (Contains (0 ∷ 2 ∷ [])) (same_Some _ _ e) (1, omega arith, refl),
          λ q m. All-contains (Contains (0 ∷ 2 ∷ [])) (0 ∷ []) q (all1 (Contains (0 ∷ 2 ∷ [])) 0 (0, omega arith, refl)) m,
        ),
        tt,
      ),
    ),
  );
  initial_order = order_by (λ p. is_unclocked_at sampling_system.ports p ≡ true) (NeedsInitially sampling_system) (2 ∷ []) each_initially only_initially
      (λ m. no_clocks 2 m, initially_by 2 port_y refl (Contains []) (λ q e. absurd (none_some _ e)), tt);
}
  where
    each : (p : ℕ) → p < 3 → Contains (0 ∷ 2 ∷ 1 ∷ []) p
    each zero h = (0, omega arith, refl)
    each (suc zero) h = (2, omega arith, refl)
    each (suc (suc zero)) h = (1, omega arith, refl)
    each (suc (suc (suc p))) h = absurd (omega (arith, h))

    only : (p : ℕ) → Contains (0 ∷ 2 ∷ 1 ∷ []) p → p < 3
    only p m = All-contains (λ x. x < 3) (0 ∷ 2 ∷ 1 ∷ []) p (all3 (λ x. x < 3) 0 2 1 (omega arith) (omega arith) (omega arith)) m

    each_initially : (p : ℕ) → is_unclocked_at sampling_system.ports p ≡ true → Contains (2 ∷ []) p
    each_initially zero e = absurd (true_false (sym e))
    each_initially (suc zero) e = absurd (true_false (sym e))
    each_initially (suc (suc zero)) e = (0, omega arith, refl)
    each_initially (suc (suc (suc p))) e = absurd (true_false (sym e))

    only_initially : (p : ℕ) → Contains (2 ∷ []) p → is_unclocked_at sampling_system.ports p ≡ true
    only_initially p m = All-contains (λ x. is_unclocked_at sampling_system.ports x ≡ true) (2 ∷ []) p (all1 (λ x. is_unclocked_at sampling_system.ports x ≡ true) 2 refl) m
