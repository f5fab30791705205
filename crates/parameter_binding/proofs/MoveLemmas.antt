-- From one place of the walk to the next.
use Rattle.std.proofs.Common.{◌≡◌, ◌⊎◌, ◌↔◌, ◌<◌, ◌≤◌, ◌+◌, ℕ, List, [], ◌++◌, length, Option, Some, None, refl, sym, ap, ◌∙◌, subst, inl, inr, arith}
use Rattle.std.specs.List.{slice_get}
use Rattle.std.specs.Option.{option_map, unwrap_or}
use Rattle.std.proofs.lemmas.Bool.{cases_lt}
use Rattle.std.proofs.lemmas.List.{append_cancel_left, length-map}
use Rattle.std.proofs.lemmas.Option.{same_Some, slice_get_within, slice_get-map}
use Rattle.value_types.specs.declared.shape.Shape.{Shape}
use Rattle.doc_tree.specs.declared.rule.ParameterRule.{ParameterRule}
use Rattle.doc_tree.specs.declared.rule.ParameterRule.TheVariants as r
use Rattle.parameter_values.specs.declared.change.Change.{Change}
use Rattle.parameter_values.specs.declared.set.Mapping.{Mapping}
use Rattle.parameter_values.specs.declared.set.MappingEntry.{MappingEntry}
use Rattle.parameter_values.specs.declared.set.Parameter.{Parameter}
use Rattle.ssd_tree.specs.declared.tree.Binding.{Binding}
use Rattle.ssd_tree.specs.declared.tree.SystemTree.{SystemTree}
use Rattle.parameter_targets.specs.declared.target.Target.{Target}
use Rattle.parameter_targets.specs.Chains.{FindsFrom, text_at}
use Rattle.parameter_binding.specs.declared.fault.Fault.{Fault}
use Rattle.parameter_binding.specs.declared.gathered.Gathered.{Gathered}
use Rattle.parameter_binding.specs.declared.sets.BindingSets.{BindingSets}
use Rattle.parameter_binding.specs.declared.walk.Walk.{Walk}
use Rattle.parameter_binding.specs.Binds.{IsCandidate, IsLater, IsMapped, ReachesTarget, Triple, mapping_of, prefixed}
use Rattle.parameter_binding.specs.Rules.{Breaks, Place}
use Rattle.parameter_binding.specs.Walk.{AreAllGathered, AreGathered, FindsFault, IsCounted, IsGathered, IsNothing, IsUpToTriple, IsGatheredTo, IsWinner, best_of, names_in, triple_at}
use Rattle.parameter_binding.proofs.GatherLemmas.{counted_as, counted_zero}

-- a triple of a binding and a parameter that there are
pub record IsReal (t : SystemTree) (sets : List BindingSets) (c : Triple) : Type 0 where
  pub binding : Binding
  pub parameter : Parameter
  pub name : List ℕ
  pub change : Option Change
  pub is : IsCandidate t sets c binding parameter name change

real_of_reached : (t : SystemTree) (shapes : List Shape) (sets : List BindingSets) (target : Target) (c : Triple) → ReachesTarget t shapes sets target c → IsReal t sets c
real_of_reached t shapes sets target c h = record { binding = h.binding; parameter = h.parameter; name = h.name; change = h.change; is = h.is }

pub real_of_broken : (t : SystemTree) (shapes : List Shape) (sets : List BindingSets) (rule : ParameterRule) (p : Place) (c : Triple) → Breaks t shapes sets rule p c → IsReal t sets c
real_of_broken t shapes sets r.Structure p c h = absurd h
real_of_broken t shapes sets r.Incomplete p c h = absurd h
real_of_broken t shapes sets r.OtherClass p c h = real_of_reached t shapes sets h.of.target c h.of.reaches
real_of_broken t shapes sets r.OutOfRange p c h = real_of_reached t shapes sets h.of.target c h.of.reaches
real_of_broken t shapes sets r.Transformation p c h = real_of_reached t shapes sets h.of.target c h.of.reaches
real_of_broken t shapes sets r.NoMapEntry p c h = real_of_reached t shapes sets h.of.target c h.of.reaches
real_of_broken t shapes sets r.NamesTwo p c h = real_of_reached t shapes sets h.target c h.reaches

-- the same of the triples that there are
pub gathered_as : (t : SystemTree) (shapes : List Shape) (sets : List BindingSets) (Done More : Triple → Type 0) (g : Gathered) → ((c : Triple) → IsReal t sets c → Done c ↔ More c) → AreGathered t shapes sets Done g → AreGathered t shapes sets More g
gathered_as t shapes sets Done More g same was = record {
  fault = fault g.fault was.fault;
  winners = λ none target. winner (best_of g.winners target) target (was.winners none target);
  unreached = λ none. counted_as t shapes sets Done More g.unreached (λ c u. same c (record { binding = u.binding; parameter = u.parameter; name = u.name; change = u.change; is = u.is })) (was.unreached none);
}
  where
    fault : (o : Option Fault) → FindsFault t shapes sets Done o → FindsFault t shapes sets More o
    fault None finds = λ c rule p done broken. finds c rule p ((same c (real_of_broken t shapes sets rule p c broken)).1 done) broken
    fault (Some f) finds = record {
      triple = finds.triple;
      done = (same finds.triple (real_of_broken t shapes sets f.rule _ finds.triple finds.broken)).0 finds.done;
      broken = finds.broken;
      told = finds.told;
      least = λ c rule p done broken. finds.least c rule p ((same c (real_of_broken t shapes sets rule p c broken)).1 done) broken;
    }

    winner : (o : Option _) (target : Target) → IsWinner t shapes sets Done target o → IsWinner t shapes sets More target o
    winner None target none = λ d done reaches. none d ((same d (real_of_reached t shapes sets target d reaches)).1 done) reaches
    winner (Some b) target w = record {
      triple = w.triple;
      done = (same w.triple (real_of_reached t shapes sets target w.triple w.reaches)).0 w.done;
      reaches = w.reaches;
      level = w.level;
      kind = w.kind;
      reference = w.reference;
      taken = w.taken;
      beats = λ d done reaches. w.beats d ((same d (real_of_reached t shapes sets target d reaches)).1 done) reaches;
    }

-- ---- places of the walk

same_triple : (d : Triple) (b e p : ℕ) → d.binding ≡ b → d.entry ≡ e → d.parameter ≡ p → d ≡ triple_at b e p
same_triple d b e p x y z = ap (λ n. triple_at n d.entry d.parameter) x ∙ ap (λ n. triple_at b n d.parameter) y ∙ ap (λ n. triple_at b e n) z

pub past_itself : (b e p : ℕ) (d : Triple) → IsUpToTriple (triple_at b e p) d ↔ IsLater (triple_at b e (p + 1)) d
past_itself b e p d = (there, back)
  where
    there : IsUpToTriple (triple_at b e p) d → IsLater (triple_at b e (p + 1)) d
    there (inl (inl h)) = inl h
    there (inl (inr (x, inl y))) = inr (x, inl y)
    there (inl (inr (x, inr y))) = let l = y.1 in inr (x, inr (y.0, omega (arith, l)))
    there (inr h) = let n = ap (λ (z : Triple). z.parameter) h in inr (ap (λ (z : Triple). z.binding) h, inr (ap (λ (z : Triple). z.entry) h, omega (arith, n)))

    or_same : d.binding ≡ b → d.entry ≡ e → (d.parameter < p) ⊎ (p ≤ d.parameter) → d.parameter < p + 1 → IsUpToTriple (triple_at b e p) d
    or_same x y (inl less) l = inl (inr (x, inr (y, less)))
    or_same x y (inr more) l = inr (same_triple d b e p x y (omega (arith, more, l)))

    back : IsLater (triple_at b e (p + 1)) d → IsUpToTriple (triple_at b e p) d
    back (inl h) = inl (inl h)
    back (inr (x, inl y)) = inl (inr (x, inl y))
    back (inr (x, inr y)) = or_same x y.0 (cases_lt d.parameter p) y.1

-- the next parameter
pub next_parameter : (t : SystemTree) (shapes : List Shape) (sets : List BindingSets) (b e p : ℕ) (g : Gathered) → AreGathered t shapes sets (IsUpToTriple (triple_at b e p)) g → IsGathered t shapes sets (triple_at b e (p + 1)) g
next_parameter t shapes sets b e p g was = gathered_as t shapes sets (IsUpToTriple (triple_at b e p)) (IsLater (triple_at b e (p + 1))) g (λ c real. past_itself b e p c) was

-- nothing stands between two parameters of one entry
pub later_parameter : (t : SystemTree) (shapes : List Shape) (sets : List BindingSets) (b e m n : ℕ) (g : Gathered) → m ≤ n → ((p : ℕ) → m ≤ p → p < n → IsReal t sets (triple_at b e p) → ⊥) → IsGathered t shapes sets (triple_at b e m) g → IsGathered t shapes sets (triple_at b e n) g
later_parameter t shapes sets b e m n g up none was = gathered_as t shapes sets (IsLater (triple_at b e m)) (IsLater (triple_at b e n)) g (λ c real. (there c, back c real)) was
  where
    there : (c : Triple) → IsLater (triple_at b e m) c → IsLater (triple_at b e n) c
    there c (inl h) = inl h
    there c (inr (x, inl y)) = inr (x, inl y)
    there c (inr (x, inr y)) = let l = y.1 in inr (x, inr (y.0, omega (arith, l, up)))

    by : (c : Triple) → IsReal t sets c → c.binding ≡ b → c.entry ≡ e → c.parameter < n → (c.parameter < m) ⊎ (m ≤ c.parameter) → IsLater (triple_at b e m) c
    by c real x y l (inl less) = inr (x, inr (y, less))
    by c real x y l (inr more) = absurd (none c.parameter more l (subst (IsReal t sets) (same_triple c b e c.parameter x y refl) real))

    back : (c : Triple) → IsReal t sets c → IsLater (triple_at b e n) c → IsLater (triple_at b e m) c
    back c real (inl h) = inl h
    back c real (inr (x, inl y)) = inr (x, inl y)
    back c real (inr (x, inr y)) = by c real x y.0 y.1 (cases_lt c.parameter m)

-- no more parameters of an entry
pub next_entry : (t : SystemTree) (shapes : List Shape) (sets : List BindingSets) (b e n : ℕ) (g : Gathered) → ((p : ℕ) → n ≤ p → IsReal t sets (triple_at b e p) → ⊥) → IsGathered t shapes sets (triple_at b e n) g → IsGathered t shapes sets (triple_at b (e + 1) 0) g
next_entry t shapes sets b e n g none was = gathered_as t shapes sets (IsLater (triple_at b e n)) (IsLater (triple_at b (e + 1) 0)) g (λ c real. (there c, back c real)) was
  where
    there : (c : Triple) → IsLater (triple_at b e n) c → IsLater (triple_at b (e + 1) 0) c
    there c (inl h) = inl h
    there c (inr (x, inl y)) = inr (x, inl (omega (arith, y)))
    there c (inr (x, inr y)) = let l = y.0 in inr (x, inl (omega (arith, l)))

    last : (c : Triple) → IsReal t sets c → c.binding ≡ b → c.entry ≡ e → (c.parameter < n) ⊎ (n ≤ c.parameter) → IsLater (triple_at b e n) c
    last c real x y (inl less) = inr (x, inr (y, less))
    last c real x y (inr more) = absurd (none c.parameter more (subst (IsReal t sets) (same_triple c b e c.parameter x y refl) real))

    by : (c : Triple) → IsReal t sets c → c.binding ≡ b → c.entry < e + 1 → (c.entry < e) ⊎ (e ≤ c.entry) → IsLater (triple_at b e n) c
    by c real x l (inl less) = inr (x, inl less)
    by c real x l (inr more) = last c real x (omega (arith, l, more)) (cases_lt c.parameter n)

    back : (c : Triple) → IsReal t sets c → IsLater (triple_at b (e + 1) 0) c → IsLater (triple_at b e n) c
    back c real (inl h) = inl h
    back c real (inr (x, inl y)) = by c real x y (cases_lt c.entry e)
    back c real (inr (x, inr y)) = absurd (let l = y.1 in omega (arith, l))

-- no more entries of a binding
pub next_binding : (t : SystemTree) (shapes : List Shape) (sets : List BindingSets) (b e n : ℕ) (g : Gathered) → ((c : Triple) → IsReal t sets c → c.binding ≡ b → IsLater (triple_at b e n) c) → IsGathered t shapes sets (triple_at b e n) g → IsGathered t shapes sets (triple_at (b + 1) 0 0) g
next_binding t shapes sets b e n g all was = gathered_as t shapes sets (IsLater (triple_at b e n)) (IsLater (triple_at (b + 1) 0 0)) g (λ c real. (there c, back c real)) was
  where
    there : (c : Triple) → IsLater (triple_at b e n) c → IsLater (triple_at (b + 1) 0 0) c
    there c (inl h) = inl (omega (arith, h))
    there c (inr h) = let x = h.0 in inl (omega (arith, x))

    by : (c : Triple) → IsReal t sets c → c.binding < b + 1 → (c.binding < b) ⊎ (b ≤ c.binding) → IsLater (triple_at b e n) c
    by c real l (inl less) = inl less
    by c real l (inr more) = all c real (omega (arith, l, more))

    back : (c : Triple) → IsReal t sets c → IsLater (triple_at (b + 1) 0 0) c → IsLater (triple_at b e n) c
    back c real (inl h) = by c real h (cases_lt c.binding b)
    back c real (inr (x, inl y)) = absurd (omega (arith, y))
    back c real (inr (x, inr y)) = absurd (let l = y.1 in omega (arith, l))

-- at first nothing has come
pub gathered_none : (t : SystemTree) (shapes : List Shape) (sets : List BindingSets) (g : Gathered) → IsNothing g → IsGathered t shapes sets (triple_at 0 0 0) g
gathered_none t shapes sets g nothing = record {
  fault = subst (FindsFault t shapes sets (IsLater (triple_at 0 0 0))) (sym nothing.fault_none) (λ c rule p done broken. none c done);
  winners = λ e target. subst (IsWinner t shapes sets (IsLater (triple_at 0 0 0)) target) (sym (nothing.winners_none target)) (λ d done reaches. none d done);
  unreached = λ e. subst (λ o. IsCounted t shapes sets (IsLater (triple_at 0 0 0)) o) (sym nothing.count_zero) (counted_zero t shapes sets (IsLater (triple_at 0 0 0)) none);
}
  where
    none : (c : Triple) → IsLater (triple_at 0 0 0) c → ⊥
    none c (inl h) = omega (arith, h)
    none c (inr (x, inl y)) = omega (arith, y)
    none c (inr (x, inr y)) = let l = y.1 in omega (arith, l)

-- where there are no bindings that is all
pub gathered_nothing : (t : SystemTree) (shapes : List Shape) (sets : List BindingSets) (g : Gathered) → IsNothing g → length t.bindings ≡ 0 → AreAllGathered t shapes sets g
gathered_nothing t shapes sets g nothing none = record { b = 0; come = gathered_none t shapes sets g nothing; all = λ e. omega (arith, none) }

-- ---- which triples there are

-- without a mapping one for each parameter
pub real_plain : (t : SystemTree) (sets : List BindingSets) (b : ℕ) (given : BindingSets) → slice_get sets b ≡ Some given → given.mapping ≡ None → (c : Triple) → IsReal t sets c → c.binding ≡ b → IsLater (triple_at b 0 (length given.values.set.parameters)) c
real_plain t sets b given has plain c real e =
    let same : real.is.given ≡ given = same_Some real.is.given given (sym real.is.has ∙ ap (slice_get sets) e ∙ has) in
    let within = slice_get_within given.values.set.parameters c.parameter real.parameter (ap (λ (z : BindingSets). slice_get z.values.set.parameters c.parameter) (sym same) ∙ real.is.at) in
    let mapped = subst (λ m. IsMapped m c.entry (prefixed real.binding real.parameter) real.name real.change) (ap mapping_of same ∙ ap (option_map (λ m. m.mapping)) plain) real.is.mapped in
    inr (e, inr (mapped.0, within))

pub real_entry : (t : SystemTree) (sets : List BindingSets) (b : ℕ) (given : BindingSets) (mapping : Mapping) → slice_get sets b ≡ Some given → mapping_of given ≡ Some mapping → (c : Triple) → IsReal t sets c → c.binding ≡ b → IsLater (triple_at b (length mapping.entries) 0) c
real_entry t sets b given mapping has maps c real e =
    let same : real.is.given ≡ given = same_Some real.is.given given (sym real.is.has ∙ ap (slice_get sets) e ∙ has) in
    let mapped = subst (λ m. IsMapped m c.entry (prefixed real.binding real.parameter) real.name real.change) (ap mapping_of same ∙ maps) real.is.mapped in
    inr (e, inl (slice_get_within mapping.entries c.entry mapped.0 mapped.1))

-- with one the parameters that an entry names
pub real_named : (t : SystemTree) (sets : List BindingSets) (b e p : ℕ) (binding : Binding) (given : BindingSets) (mapping : Mapping) (entry : MappingEntry) → slice_get t.bindings b ≡ Some binding → slice_get sets b ≡ Some given → mapping_of given ≡ Some mapping
    → slice_get mapping.entries e ≡ Some entry → IsReal t sets (triple_at b e p) → (rest : List ℕ) × ((entry.source ≡ binding.prefix ++ rest) × (p < length given.values.set.parameters) × (text_at (names_in given.values.set.parameters) p ≡ rest))
real_named t sets b e p binding given mapping entry is has maps there real =
    let same : real.is.given ≡ given = same_Some real.is.given given (sym real.is.has ∙ has) in
    let own : real.binding ≡ binding = same_Some real.binding binding (sym real.is.is ∙ is) in
    let at : slice_get given.values.set.parameters p ≡ Some real.parameter = ap (λ (z : BindingSets). slice_get z.values.set.parameters p) (sym same) ∙ real.is.at in
    let mapped = subst (λ m. IsMapped m e (prefixed real.binding real.parameter) real.name real.change) (ap mapping_of same ∙ maps) real.is.mapped in
    let one : mapped.0 ≡ entry = same_Some mapped.0 entry (sym mapped.1 ∙ there) in (
      real.parameter.name,
      (
        ap (λ (z : MappingEntry). z.source) (sym one) ∙ mapped.2 ∙ ap (λ (z : Binding). z.prefix ++ real.parameter.name) own,
        slice_get_within given.values.set.parameters p real.parameter at,
        ap (λ o. unwrap_or o []) (slice_get-map (λ (z : Parameter). z.name) given.values.set.parameters p ∙ ap (option_map (λ (z : Parameter). z.name)) at),
      ),
    )

-- ---- the walk over the parameters that an entry names

module _ (w : Walk) (b e : ℕ) (binding : Binding) (given : BindingSets) (mapping : Mapping) (entry : MappingEntry) (is : slice_get w.tree.now.bindings b ≡ Some binding) (has : slice_get w.sets.now b ≡ Some given) (maps : mapping_of given ≡ Some mapping)
    (there : slice_get mapping.entries e ≡ Some entry) where
  names : List (List ℕ)
  names = names_in given.values.set.parameters

  -- no parameter that the entry names is one without the name
  none_named : (name : List ℕ) → entry.source ≡ binding.prefix ++ name → (p : ℕ) → IsReal w.tree.now w.sets.now (triple_at b e p) → (p < length (names_in given.values.set.parameters)) × (text_at (names_in given.values.set.parameters) p ≡ name)
  none_named name source p real =
      let h = real_named w.tree.now w.sets.now b e p binding given mapping entry is has maps there real in
      let same : h.0 ≡ name = append_cancel_left binding.prefix h.0 name (sym h.1.0 ∙ source) in
      (let l = h.1.1 in let n = length-map given.values.set.parameters (λ (z : Parameter). z.name) in omega (arith, l, n), h.1.2 ∙ same)

  -- at the next that there is
  pub come_to : (g : Gathered) (place : ℕ) (n : ℕ) (name : List ℕ) → entry.source ≡ binding.prefix ++ name → FindsFrom (names_in given.values.set.parameters) n name (Some place) → IsGatheredTo w b e n g → IsGatheredTo w b e place g
  come_to g place n name source finds come =
      later_parameter w.tree.now w.shapes.now w.sets.now b e n place g finds.0 (λ p low high real. finds.3 p low high (none_named name source p real).1) come

  -- past the last
  pub come_all : (g : Gathered) (n : ℕ) (name : List ℕ) → entry.source ≡ binding.prefix ++ name → FindsFrom (names_in given.values.set.parameters) n name None → IsGatheredTo w b e n g → IsGatheredTo w b (e + 1) 0 g
  come_all g n name source finds come =
      next_entry w.tree.now w.shapes.now w.sets.now b e n g (λ p low real. let h = none_named name source p real in finds p low h.0 h.1) come

  -- the entry names none
  pub come_none : (g : Gathered) → ((name : List ℕ) → entry.source ≡ binding.prefix ++ name → ⊥) → IsGatheredTo w b e 0 g → IsGatheredTo w b (e + 1) 0 g
  come_none g none come =
      next_entry w.tree.now w.shapes.now w.sets.now b e 0 g (λ p low real. let h = real_named w.tree.now w.sets.now b e p binding given mapping entry is has maps there real in none h.0 h.1.0) come

-- the parameter at a place has its name
pub named_at : (parameters : List Parameter) (p : ℕ) (parameter : Parameter) (name : List ℕ) → slice_get parameters p ≡ Some parameter → text_at (names_in parameters) p ≡ name → parameter.name ≡ name
named_at parameters p parameter name at is = sym (ap (λ o. unwrap_or o []) (slice_get-map (λ (z : Parameter). z.name) parameters p ∙ ap (option_map (λ (z : Parameter). z.name)) at)) ∙ is
