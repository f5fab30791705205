-- A walk in which calls wait: how it goes on with a port, and what holds after the sending of those that wait.
use Rattle.std.proofs.Common.{◌≡◌, ℕ, ◌+◌, ◌==◌, ◌⊎◌, inl, inr, ℤ, Bool, true, false, List, [], ◌∷◌, ◌++◌, Option, Some, None, Contains, refl, sym, ap, ap₂, ◌∙◌, subst, arith, append_assoc, append-nil, map, take, drop}
use Rattle.std.specs.Prelude.{All, slice_get, slice_set}
use Rattle.std.specs.List.{list_any}
use Rattle.std.specs.Option.{option_and_then, option_map_or}
use Rattle.std.proofs.lemmas.List.Elements.{All-contains, Contains-append_right}
use Rattle.std.proofs.lemmas.Map.Made.{Contains-tail}
use Rattle.std.proofs.lemmas.Option.{same_Some}
use Rattle.fmi_calls.specs.declared.call.Call.{Call}
use Rattle.fmi_calls.specs.declared.call.Reply.{Reply}
use Rattle.fmu_peer.specs.declared.peer.Exchange.{Exchange}
use Rattle.fmu_peer.specs.Talk.{calls_in}
use Rattle.system_model.specs.declared.system.Component.{Component}
use Rattle.system_model.specs.declared.system.Port.{Port}
use Rattle.system_model.specs.declared.system.Role.{Role}
use Rattle.system_model.specs.declared.system.Role.TheVariants.{Input, Output, ClockInput, ClockOutput, TimeClock}
use Rattle.system_model.specs.declared.system.System.{System}
use Rattle.system_model.specs.Ports.{is_clock_role, is_output_role, port_numbers, source_of}
use Rattle.system_model.specs.Sound.{IsSound}
use Rattle.system_model.specs.Values.{value}
use Rattle.system_model.proofs.CallerLemmas.{clock_at, place_of, source_at, true_false}
use Rattle.run_model.proofs.CallerLemmas.{none_in}
use Rattle.slot_calls.specs.Log.{Sent}
use Rattle.event_iteration.specs.declared.walk.Waiting.{Waiting}
use Rattle.event_iteration.specs.Explains.{call_at}
use Rattle.event_iteration.specs.Turns.{IsPaired, Rules, Walked, Went, sent_of}
use Rattle.event_iteration.specs.Waits.{AreTurns, IsInput, IsPlain, IsSilent, OfClock, OfSource, ReadsPort, StandsAfterReads, call_in, is_fed, is_fed_by, passed_in, turned, value_after, waits_in}
use Rattle.event_iteration.proofs.Activity.{any_from}
use Rattle.event_iteration.proofs.Turned.{contains_first, contains_next, turned_beside, turned_set, value_after-is, value_after_same}
use Rattle.event_iteration.proofs.Walking.{by_number, call_at-is, more_order, split_order}

-- ---- lists

pub contains_split : (xs : List ℕ) (q : ℕ) → Contains xs q → (a : List ℕ) × (b : List ℕ) × (xs ≡ a ++ q ∷ b)
contains_split [] q m = absurd (none_in q m)
contains_split (x ∷ xs) q m = by_number x q
    (λ same. ([], xs, ap (λ (n : ℕ). n ∷ xs) same))
    (λ other. let r = contains_split xs q (Contains-tail x xs q other m) in (x ∷ r.0, r.1, ap (λ (l : List ℕ). x ∷ l) r.2))

pub map_alike : {X : Type 0} (f g : ℕ → X) (xs : List ℕ) → ((x : ℕ) → Contains xs x → f x ≡ g x) → map f xs ≡ map g xs
map_alike f g [] h = refl
map_alike f g (x ∷ xs) h = ap₂ (λ y ys. y ∷ ys) (h x (contains_first x xs)) (map_alike f g xs (λ y m. h y (contains_next x y xs m)))

-- the call after the others, or one of them
pub cut : (xs ys : List Call) (c call : Call) (left : List Call) → xs ++ c ∷ [] ≡ ys ++ call ∷ left → ((xs ≡ ys) × (c ≡ call)) ⊎ ((rest : List Call) × (xs ≡ ys ++ call ∷ rest))
cut [] [] c call left e = inl (refl, cc)
cut [] (y ∷ []) c call left e = absurd (cc)
cut [] (y ∷ z ∷ ys) c call left e = absurd (cc)
cut (x ∷ xs) [] c call left e = let same : x ≡ call = cc in inr (xs, ap (λ (h : Call). h ∷ xs) same)
cut (x ∷ xs) (y ∷ ys) c call left e =
    let heads : x ≡ y = cc in
    let tails : xs ++ c ∷ [] ≡ ys ++ call ∷ left = cc in
    elim (cut xs ys c call left tails) as (λ r. ((x ∷ xs ≡ y ∷ ys) × (c ≡ call)) ⊎ ((rest : List Call) × (x ∷ xs ≡ (y ∷ ys) ++ call ∷ rest))) [
      | inl both ↦ inl (ap₂ (λ (h : Call) (t : List Call). h ∷ t) heads both.0, both.1)
      | inr more ↦ inr (more.0, ap₂ (λ (h : Call) (t : List Call). h ∷ t) heads more.1)
    ]

-- exchanges whose calls are these and one more
pub record Pushed (es : List Exchange) (cs : List Call) (c : Call) : Type 0 where
  pub prefix : List Exchange
  pub last : Exchange
  pub is : es ≡ prefix ++ last ∷ []
  pub calls : calls_in prefix ≡ cs
  pub call : last.call ≡ c

pub pushed : (cs : List Call) (c : Call) (es : List Exchange) → calls_in es ≡ cs ++ c ∷ [] → Pushed es cs c
pushed [] c [] h = absurd (cc)
pushed [] c (e ∷ []) h = record { prefix = []; last = e; is = refl; calls = refl; call = cc }
pushed [] c (e ∷ f ∷ es) h = absurd (cc)
pushed (x ∷ cs) c [] h = absurd (cc)
pushed (x ∷ cs) c (e ∷ es) h =
    let head : e.call ≡ x = cc in
    let tail : calls_in es ≡ cs ++ c ∷ [] = cc in
    let r = pushed cs c es tail in
    record { prefix = e ∷ r.prefix; last = r.last; is = ap (λ (l : List Exchange). e ∷ l) r.is; calls = ap₂ (λ (y : Call) (l : List Call). y ∷ l) head r.calls; call = r.call }

pub no_calls : (es : List Exchange) → calls_in es ≡ [] → es ≡ []
no_calls [] h = refl
no_calls (e ∷ es) h = absurd (cc)

-- ---- inputs that are fed by ports that wait

same_itself : (q : ℕ) → (q == q) ≡ true
same_itself q = grind (arith)

-- by the port itself
pub is_fed-is : (system : System) (ports : List ℕ) (p : ℕ) (port : Port) → slice_get system.ports p ≡ Some port → is_fed system ports p ≡ is_fed_by ports port.role
is_fed-is system ports p port is = ap (λ (o : Option Port). option_map_or (λ (x : Port). is_fed_by ports x.role) o false) is

fed_role : (ports : List ℕ) (q : ℕ) → Contains ports q → (role : Role) → source_of role ≡ Some q → is_clock_role role ≡ false → is_fed_by ports role ≡ true
fed_role ports q m (Input None) from plain = absurd (cc)
fed_role ports q m (Input (Some feed)) from plain = any_from (λ (x : ℕ). x == feed.from.0) ports q m (ap (λ (n : ℕ). q == n) (same_Some feed.from.0 q from) ∙ same_itself q)
fed_role ports q m Output from plain = absurd (cc)
fed_role ports q m (ClockInput feed) from plain = absurd (true_false plain)
fed_role ports q m ClockOutput from plain = absurd (cc)
fed_role ports q m (TimeClock timing) from plain = absurd (cc)

-- such a port is an input
input_role : (ports : List ℕ) (role : Role) → is_fed_by ports role ≡ true → (is_clock_role role ≡ false) × (is_output_role role ≡ false)
input_role ports (Input feed) g = (refl, refl)
input_role ports Output g = absurd (true_false (sym g))
input_role ports (ClockInput feed) g = absurd (true_false (sym g))
input_role ports ClockOutput g = absurd (true_false (sym g))
input_role ports (TimeClock timing) g = absurd (true_false (sym g))

pub fed_input : (system : System) (ports : List ℕ) (p : ℕ) → is_fed system ports p ≡ true → IsInput system p
fed_input system ports p h = by (slice_get system.ports p) refl h
  where
    by : (o : Option Port) → slice_get system.ports p ≡ o → option_map_or (λ (x : Port). is_fed_by ports x.role) o false ≡ true → IsInput system p
    by None is g = absurd (true_false (sym g))
    by (Some port) is g = let role = input_role ports port.role g in record { port = port; is = is; plain = role.0; output = role.1 }

none_role : (role : Role) → is_fed_by [] role ≡ false
none_role (Input None) = refl
none_role (Input (Some feed)) = refl
none_role Output = refl
none_role (ClockInput feed) = refl
none_role ClockOutput = refl
none_role (TimeClock timing) = refl

pub none_fed : (system : System) (x : ℕ) → is_fed system [] x ≡ false
none_fed system x = by (slice_get system.ports x)
  where
    by : (o : Option Port) → option_map_or (λ (y : Port). is_fed_by [] y.role) o false ≡ false
    by None = refl
    by (Some port) = none_role port.role

-- ---- a turn of the walk

pub call_in-is : (system : System) (rules : Rules) (V : List (Option ℤ)) (p : ℕ) (port : Port) (c : Component) → slice_get system.ports p ≡ Some port → slice_get system.components port.component.0 ≡ Some c → call_in system rules V p ≡ rules.asks p port c V
call_in-is system rules V p port c is of = ap (λ (o : Option Port). option_and_then (λ (x : Port). call_at system rules V p x) o) is ∙ call_at-is system rules V p port c of

module _ (system : System) (rules : Rules) (before : List (Option ℤ)) (order : List ℕ) (k p : ℕ) (at : slice_get order k ≡ Some p) (port : Port) (is : slice_get system.ports p ≡ Some port) (c : Component) (of : slice_get system.components port.component.0 ≡ Some c) where
  pub goes : (W : List (Option ℤ)) (log : List Sent) (reply : Option Reply) → Walked system rules before (take k order) W log → IsPaired c.shape (rules.asks p port c W) reply →
      Walked system rules before (take (k + 1) order) (slice_set W p (value_after system rules W p reply)) (log ++ sent_of port.component.0 (rules.asks p port c W) reply)
  goes W log reply walked paired =
      Went (take (k + 1) order) (take k order) p reply W _ _ log (sent_of port.component.0 (rules.asks p port c W) reply) (more_order order k p at) refl walked (record {
        port = port;
        is = is;
        component = c;
        of = of;
        paired = paired;
        sent_is = refl;
        next_is = ap (λ (v : Option ℤ). slice_set W p v) (value_after-is system rules W p port reply is);
      })

  -- it sends nothing
  pub goes_silently : (W : List (Option ℤ)) (log : List Sent) → Walked system rules before (take k order) W log → rules.asks p port c W ≡ None →
      Walked system rules before (take (k + 1) order) (slice_set W p (value_after system rules W p None)) log
  goes_silently W log walked none =
      subst (λ (l : List Sent). Walked system rules before (take (k + 1) order) (slice_set W p (value_after system rules W p None)) l)
      (ap (λ (o : Option Call). log ++ sent_of port.component.0 o None) none ∙ append-nil log)
      (goes W log None walked (subst (λ (o : Option Call). IsPaired c.shape o None) (sym none) tt))

-- ---- where ports wait, and others were passed that they feed

module _ (system : System) (sound : IsSound system) (rules : Rules) (turns : AreTurns system rules) (order : List ℕ) (ordered : StandsAfterReads system order) (k p : ℕ) (at : slice_get order k ≡ Some p) (w : Waiting)
    (plain : All (IsPlain system w.component) (waits_in w)) (among : (q : ℕ) → Contains (waits_in w) q → Contains (take k order) q) (passed : (q : ℕ) → Contains (passed_in w) q → Contains (take k order) q × IsInput system q) where
  abbrev queue : List ℕ
  queue = waits_in w

  abbrev skips : List ℕ
  skips = passed_in w

  pub fresh : Contains (take k order) p → ⊥
  fresh m = ordered.once (take k order) (drop (k + 1) order) p (split_order order k p at) m

  pub unread : (x : ℕ) → Contains (take k order) x → ReadsPort system x p → ⊥
  unread x m reads =
      let r = contains_split (take k order) x m in
      let there : order ≡ r.0 ++ x ∷ (r.1 ++ p ∷ drop (k + 1) order) =
      split_order order k p at ∙ ap (λ (l : List ℕ). l ++ p ∷ drop (k + 1) order) r.2 ∙ append_assoc r.0 (x ∷ r.1) (p ∷ drop (k + 1) order) in
      ordered.after r.0 (r.1 ++ p ∷ drop (k + 1) order) x p there reads (Contains-append_right r.1 (p ∷ drop (k + 1) order) p (contains_first p (drop (k + 1) order)))

  -- those that were passed were taken
  pub skips_among : (q : ℕ) → Contains skips q → Contains (take k order) q
  skips_among q m = (passed q m).0

  skips_input : (q : ℕ) → Contains skips q → IsInput system q
  skips_input q m = (passed q m).1

  plain_at : (q : ℕ) → Contains queue q → IsPlain system w.component q
  plain_at q m = All-contains (IsPlain system w.component) queue q plain m

  same_port : (q : ℕ) (a b : Port) → slice_get system.ports q ≡ Some a → slice_get system.ports q ≡ Some b → a ≡ b
  same_port q a b x y = same_Some a b (sym x ∙ y)

  -- a Clock neither waits nor was passed
  module _ (port : Port) (is : slice_get system.ports p ≡ Some port) where
    pub clock_apart : (q : ℕ) → Contains (port_numbers port.clocks) q → (Contains queue q → ⊥) × (Contains skips q → ⊥)
    clock_apart q m =
        let clock = clock_at system sound p port (place_of system sound p port is) q m in (
          (λ waits. let there = plain_at q waits in absurd (true_false (sym clock.role ∙ ap (λ (x : Port). is_clock_role x.role) (same_port q clock.clock there.port clock.is there.is) ∙ there.role))),
          (λ skipped. let there = skips_input q skipped in absurd (true_false (sym clock.role ∙ ap (λ (x : Port). is_clock_role x.role) (same_port q clock.clock there.port clock.is there.is) ∙ there.plain))),
        )

    -- where none that waits feeds it, its source doesn't wait, and was not passed
    pub source_apart : is_fed system queue p ≡ false → (q : ℕ) → source_of port.role ≡ Some q → (Contains queue q → ⊥) × (Contains skips q → ⊥)
    source_apart unfed q from =
        let source = source_at system sound p q port is from in (
          (λ waits.
              let there = plain_at q waits in
              let role : is_clock_role port.role ≡ false = sym source.clock ∙ ap (λ (x : Port). is_clock_role x.role) (same_port q source.source there.port source.is there.is) ∙ there.role in
              true_false (sym (is_fed-is system queue p port is ∙ fed_role queue q waits port.role from role) ∙ unfed)),
          (λ skipped. let there = skips_input q skipped in true_false (sym source.feed.output ∙ ap (λ (x : Port). is_output_role x.role) (same_port q source.source there.port source.is there.is) ∙ there.output)),
        )

    pub reads_apart : is_fed system queue p ≡ false → (q : ℕ) → ReadsPort system p q → (Contains queue q → ⊥) × (Contains skips q → ⊥)
    reads_apart unfed q (OfSource x x_is from) = source_apart unfed q (ap (λ (y : Port). source_of y.role) (same_port p port x is x_is) ∙ from)
    reads_apart unfed q (OfClock x x_is m) = clock_apart q (subst (λ (y : Port). Contains (port_numbers y.clocks) q) (same_port p x port x_is is) m)

  -- ---- the values by answers that may come

  module _ (V : List (Option ℤ)) (os : List (Option Reply)) where
    abbrev pub filled : List (Option ℤ)
    filled = turned system rules queue os V

    abbrev pub whole : List (Option ℤ)
    whole = turned system rules skips [] filled

    pub whole_beside : (q : ℕ) → (Contains queue q → ⊥) × (Contains skips q → ⊥) → value whole q ≡ value V q
    whole_beside q apart = turned_beside system rules skips [] filled q apart.1 ∙ turned_beside system rules queue os V q apart.0

    pub own_beside : value whole p ≡ value V p
    own_beside = whole_beside p ((λ m. fresh (among p m)), (λ m. fresh (skips_among p m)))

    -- a port that is about none of them may be taken before
    pub write_before : (v : Option ℤ) → turned system rules skips [] (turned system rules queue os (slice_set V p v)) ≡ slice_set whole p v
    write_before v =
        ap (turned system rules skips []) (turned_set system rules turns queue os V p v (λ m. fresh (among p m)) (λ q m reads. unread q (among q m) reads))
        ∙ turned_set system rules turns skips [] filled p v (λ m. fresh (skips_among p m)) (λ q m reads. unread q (skips_among q m) reads)

    pub asks_before : (port : Port) (c : Component) → slice_get system.ports p ≡ Some port → is_fed system queue p ≡ false → rules.asks p port c whole ≡ rules.asks p port c V
    asks_before port c is unfed = turns.asks_same p port c whole V is (λ q reads. whole_beside q (reads_apart port is unfed q reads))

    pub after_before : (port : Port) (reply : Option Reply) → slice_get system.ports p ≡ Some port → is_fed system queue p ≡ false → value_after system rules whole p reply ≡ value_after system rules V p reply
    after_before port reply is unfed = value_after_same system rules turns whole V p reply (λ q reads. whole_beside q (reads_apart port is unfed q reads)) own_beside

    -- and so may one that waits, before those that were passed
    pub after_filled : (port : Port) (reply : Option Reply) → slice_get system.ports p ≡ Some port → is_fed system queue p ≡ false → value_after system rules whole p reply ≡ value_after system rules filled p reply
    after_filled port reply is unfed =
        value_after_same system rules turns whole filled p reply (λ q reads. turned_beside system rules skips [] filled q (reads_apart port is unfed q reads).1) (turned_beside system rules skips [] filled p (λ m. fresh (skips_among p m)))

    pub silent_before : (port : Port) (c : Component) → slice_get system.ports p ≡ Some port → slice_get system.components port.component.0 ≡ Some c → IsSilent system rules p V → rules.asks p port c whole ≡ None
    silent_before port c is of silent = silent port c whole is of (λ q m. whole_beside q (clock_apart port is q m))
