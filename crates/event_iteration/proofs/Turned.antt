-- The values after several turns.
use Rattle.std.proofs.Common.{◌≡◌, ℕ, ◌<◌, ℤ, List, [], ◌∷◌, ◌++◌, Option, Some, None, Contains, refl, sym, ap, ap₂, ◌∙◌, subst, arith, length, drop, take, map, get_or, ◌+◌}
use Rattle.std.specs.Prelude.{IfSome, option_map, slice_get, slice_set}
use Rattle.std.specs.Option.{option_and_then}
use Rattle.std.proofs.lemmas.List.{drop_more, get_or-set_other, get_or-set_same, length-map, length-set, set_comm, take_more, take_more_set}
use Rattle.std.proofs.lemmas.List.Elements.{Contains-append_left, Contains-append_right, Contains-push}
use Rattle.std.proofs.lemmas.Option.{same_Some, slice_get-get_or, slice_get-map, slice_get_within}
use Rattle.value_types.specs.Values.{Fits}
use Rattle.fmi_calls.specs.declared.call.Call.{Call}
use Rattle.fmi_calls.specs.declared.call.Reply.{Reply}
use Rattle.fmu_peer.specs.Many.{exchanges}
use Rattle.fmu_peer.specs.Talk.{calls_in}
use Rattle.system_model.specs.declared.system.Port.{Port}
use Rattle.system_model.specs.declared.system.System.{System}
use Rattle.system_model.specs.Values.{value}
use Rattle.run_model.specs.Machines.{AreFitting}
use Rattle.event_iteration.specs.Turns.{Rules}
use Rattle.event_iteration.specs.Waits.{AreTurns, ReadsPort, replies_in, turned, value_after}
use Rattle.event_iteration.proofs.Fmus.{got}
use Rattle.event_iteration.proofs.Walking.{by_number}

pub contains_next : (x q : ℕ) (xs : List ℕ) → Contains xs q → Contains (x ∷ xs) q
contains_next x q xs m = Contains-append_right (x ∷ []) xs q m

pub contains_first : (x : ℕ) (xs : List ℕ) → Contains (x ∷ xs) x
contains_first x xs = Contains-append_left (x ∷ []) xs x (Contains-push [] x)

-- ---- calls and their replies

pub beside : (calls : List Call) (replies : List Reply) → length replies ≡ length calls → calls_in (exchanges calls replies) ≡ calls
beside [] replies len = refl
beside (c ∷ calls) [] len = absurd (omega (arith, len))
beside (c ∷ calls) (r ∷ replies) len = ap (λ (cs : List Call). c ∷ cs) (beside calls replies (omega (arith, len)))

pub replies_beside : (calls : List Call) (replies : List Reply) → length replies ≡ length calls → replies_in (exchanges calls replies) ≡ map (λ (r : Reply). Some r) replies
replies_beside [] [] len = refl
replies_beside [] (r ∷ replies) len = absurd (omega (arith, len))
replies_beside (c ∷ calls) [] len = absurd (omega (arith, len))
replies_beside (c ∷ calls) (r ∷ replies) len = ap (λ (rs : List (Option Reply)). Some r ∷ rs) (replies_beside calls replies (omega (arith, len)))

-- ---- one turn

pub value_after-is : (system : System) (rules : Rules) (V : List (Option ℤ)) (p : ℕ) (port : Port) (reply : Option Reply) → slice_get system.ports p ≡ Some port → value_after system rules V p reply ≡ rules.takes p port V (value V p) reply
value_after-is system rules V p port reply is = ap (λ o. option_and_then (λ (x : Port). rules.takes p x V (value V p) reply) o) is

module _ (system : System) (rules : Rules) (turns : AreTurns system rules) where
  pub value_after_same : (V W : List (Option ℤ)) (p : ℕ) (reply : Option Reply) → ((q : ℕ) → ReadsPort system p q → value V q ≡ value W q) → value V p ≡ value W p → value_after system rules V p reply ≡ value_after system rules W p reply
  value_after_same V W p reply reads own = by (slice_get system.ports p) refl
    where
      by : (o : Option Port) → slice_get system.ports p ≡ o → option_and_then (λ (x : Port). rules.takes p x V (value V p) reply) o ≡ option_and_then (λ (x : Port). rules.takes p x W (value W p) reply) o
      by None is = refl
      by (Some port) is = turns.takes_same p port V W (value V p) reply is reads ∙ ap (λ (last : Option ℤ). rules.takes p port W last reply) own

  -- what a turn leaves fits
  pub turn_fits : (V : List (Option ℤ)) → length V ≡ length system.ports → AreFitting system V → (p : ℕ) (reply : Option Reply) → AreFitting system (slice_set V p (value_after system rules V p reply))
  turn_fits V len fits p reply q port is = by_number q p
      (λ same.
      let here : slice_get system.ports p ≡ Some port = subst (λ (n : ℕ). slice_get system.ports n ≡ Some port) same is in
      let v = value_after system rules V p reply in
      let w = slice_get_within system.ports p port here in
      let taken : value (slice_set V p v) q ≡ rules.takes p port V (value V p) reply =
      ap (value (slice_set V p v)) same ∙ get_or-set_same V p v None (subst (λ (n : ℕ). p < n) (sym len) w) ∙ value_after-is system rules V p port reply here in
      subst (λ (o : Option ℤ). IfSome o (Fits port.kind)) (sym taken) (turns.fitting p port V (value V p) reply here fits (fits p port here)))
      (λ other. subst (λ (o : Option ℤ). IfSome o (Fits port.kind)) (sym (get_or-set_other V p q _ None other)) (fits q port is))

-- ---- several turns

module _ (system : System) (rules : Rules) where
  pub turned_long : (ps : List ℕ) (os : List (Option Reply)) (V : List (Option ℤ)) → length (turned system rules ps os V) ≡ length V
  turned_long [] os V = refl
  turned_long (p ∷ ps) [] V = turned_long ps [] _ ∙ length-set V p _
  turned_long (p ∷ ps) (o ∷ os) V = turned_long ps os _ ∙ length-set V p _

  -- other ports keep their values
  pub turned_beside : (ps : List ℕ) (os : List (Option Reply)) (V : List (Option ℤ)) (q : ℕ) → (Contains ps q → ⊥) → value (turned system rules ps os V) q ≡ value V q
  turned_beside [] os V q h = refl
  turned_beside (p ∷ ps) [] V q h =
      turned_beside ps [] _ q (λ m. h (contains_next p q ps m)) ∙ get_or-set_other V p q _ None (λ e. h (subst (Contains (p ∷ ps)) (sym e) (contains_first p ps)))
  turned_beside (p ∷ ps) (o ∷ os) V q h =
      turned_beside ps os _ q (λ m. h (contains_next p q ps m)) ∙ get_or-set_other V p q _ None (λ e. h (subst (Contains (p ∷ ps)) (sym e) (contains_first p ps)))

  -- one turn more
  pub turned_push : (ps : List ℕ) (os : List (Option Reply)) (V : List (Option ℤ)) (p : ℕ) (o : Option Reply) → length os ≡ length ps →
      turned system rules (ps ++ p ∷ []) (os ++ o ∷ []) V ≡ slice_set (turned system rules ps os V) p (value_after system rules (turned system rules ps os V) p o)
  turned_push [] [] V p o len = refl
  turned_push [] (x ∷ os) V p o len = absurd (omega (arith, len))
  turned_push (x ∷ ps) [] V p o len = absurd (omega (arith, len))
  turned_push (x ∷ ps) (y ∷ os) V p o len = turned_push ps os _ p o (omega (arith, len))

  pub turned_push_none : (ps : List ℕ) (V : List (Option ℤ)) (p : ℕ) → turned system rules (ps ++ p ∷ []) [] V ≡ slice_set (turned system rules ps [] V) p (value_after system rules (turned system rules ps [] V) p None)
  turned_push_none [] V p = refl
  turned_push_none (x ∷ ps) V p = turned_push_none ps _ p

module _ (system : System) (rules : Rules) (turns : AreTurns system rules) where
  pub turned_fits : (ps : List ℕ) (os : List (Option Reply)) (V : List (Option ℤ)) → length V ≡ length system.ports → AreFitting system V → AreFitting system (turned system rules ps os V)
  turned_fits [] os V len fits = fits
  turned_fits (p ∷ ps) [] V len fits = turned_fits ps [] _ (length-set V p _ ∙ len) (turn_fits system rules turns V len fits p None)
  turned_fits (p ∷ ps) (o ∷ os) V len fits = turned_fits ps os _ (length-set V p _ ∙ len) (turn_fits system rules turns V len fits p o)

  -- the value of a port that none of them is about may be written before or after
  swaps : (V : List (Option ℤ)) (p : ℕ) (v : Option ℤ) (q : ℕ) (o : Option Reply) → (q ≡ p → ⊥) → (ReadsPort system q p → ⊥) →
      slice_set (slice_set V p v) q (value_after system rules (slice_set V p v) q o) ≡ slice_set (slice_set V q (value_after system rules V q o)) p v
  swaps V p v q o other apart =
      let same : value_after system rules (slice_set V p v) q o ≡ value_after system rules V q o =
      value_after_same system rules turns (slice_set V p v) V q o (λ r reads. get_or-set_other V p r v None (λ e. apart (subst (ReadsPort system q) e reads))) (get_or-set_other V p q v None other) in
      ap (λ (x : Option ℤ). slice_set (slice_set V p v) q x) same ∙ set_comm V p q v _ (λ e. other (sym e))

  pub turned_set : (ps : List ℕ) (os : List (Option Reply)) (V : List (Option ℤ)) (p : ℕ) (v : Option ℤ) → (Contains ps p → ⊥) → ((q : ℕ) → Contains ps q → ReadsPort system q p → ⊥) →
      turned system rules ps os (slice_set V p v) ≡ slice_set (turned system rules ps os V) p v
  turned_set [] os V p v fresh apart = refl
  turned_set (q ∷ ps) [] V p v fresh apart =
      ap (turned system rules ps []) (swaps V p v q None (λ e. fresh (subst (Contains (q ∷ ps)) e (contains_first q ps))) (apart q (contains_first q ps)))
      ∙ turned_set ps [] _ p v (λ m. fresh (contains_next q p ps m)) (λ r m. apart r (contains_next q r ps m))
  turned_set (q ∷ ps) (o ∷ os) V p v fresh apart =
      ap (turned system rules ps os) (swaps V p v q o (λ e. fresh (subst (Contains (q ∷ ps)) e (contains_first q ps))) (apart q (contains_first q ps)))
      ∙ turned_set ps os _ p v (λ m. fresh (contains_next q p ps m)) (λ r m. apart r (contains_next q r ps m))

-- ---- step by step

-- the value that the port takes, by what is said of it
pub value_by : (system : System) (rules : Rules) (V : List (Option ℤ)) (p : ℕ) (reply : Option Reply) (v last : Option ℤ) → p < length system.ports → last ≡ value V p → ((port : Port) → slice_get system.ports p ≡ Some port → v ≡ rules.takes p port V last reply) → v ≡ value_after system rules V p reply
value_by system rules V p reply v last lt read h =
    let port = got system.ports p lt in
    h port.0 port.1 ∙ ap (λ (x : Option ℤ). rules.takes p port.0 V x reply) read ∙ sym (value_after-is system rules V p port.0 reply port.1)

-- over ports with their replies, one after the other
pub replied_more : (system : System) (rules : Rules) (ports : List ℕ) (replies : List Reply) (i : ℕ) (V : List (Option ℤ)) (r : Reply) (v : Option ℤ) → i < length ports → length replies ≡ length ports → v ≡ value_after system rules V (get_or ports i 0) (Some (get_or replies i r)) →
    turned system rules (drop (i + 1) ports) (map (λ (x : Reply). Some x) (drop (i + 1) replies)) (slice_set V (get_or ports i 0) v) ≡ turned system rules (drop i ports) (map (λ (x : Reply). Some x) (drop i replies)) V
replied_more system rules ports replies i V r v lt len v_is =
    ap (λ (x : Option ℤ). turned system rules (drop (i + 1) ports) (map (λ (x : Reply). Some x) (drop (i + 1) replies)) (slice_set V (get_or ports i 0) x)) v_is
    ∙ sym (ap₂ (λ (ps : List ℕ) (rs : List Reply). turned system rules ps (map (λ (x : Reply). Some x) rs) V) (drop_more ports i 0 lt) (drop_more replies i r (omega (arith, lt, len))))

-- and without replies
pub silent_more : (system : System) (rules : Rules) (ports : List ℕ) (i : ℕ) (V : List (Option ℤ)) (v : Option ℤ) → i < length ports → v ≡ value_after system rules V (get_or ports i 0) None →
    turned system rules (drop (i + 1) ports) [] (slice_set V (get_or ports i 0) v) ≡ turned system rules (drop i ports) [] V
silent_more system rules ports i V v lt v_is =
    ap (λ (x : Option ℤ). turned system rules (drop (i + 1) ports) [] (slice_set V (get_or ports i 0) x)) v_is
    ∙ sym (ap (λ (ps : List ℕ). turned system rules ps [] V) (drop_more ports i 0 lt))

-- the calls that were made so far are those that are wanted
pub made_more : {X : Type 0} (f : X → Option Call) (xs : List X) (made calls : List Call) (i : ℕ) (x : X) (d call : Call) → map f xs ≡ map (λ (c : Call). Some c) made → i < length xs → length calls ≡ length xs → take i calls ≡ take i made → (f (get_or xs i x) ≡ Some (get_or made i d) → call ≡ get_or made i d) →
    take (i + 1) (slice_set calls i call) ≡ take (i + 1) made
made_more f xs made calls i x d call all lt len so_far here =
    let long : length made ≡ length xs = (let a = ap length all in let b = length-map xs f in let e = length-map made (λ (c : Call). Some c) in omega (arith, a, b, e)) in
    let its : Some (f (get_or xs i x)) ≡ Some (Some (get_or made i d)) =
    sym (slice_get-map f xs i ∙ ap (option_map f) (slice_get-get_or xs i x lt)) ∙ ap (λ l. slice_get l i) all ∙ slice_get-map (λ (c : Call). Some c) made i ∙ ap (option_map (λ (c : Call). Some c)) (slice_get-get_or made i d (omega (arith, lt, long))) in
    take_more_set calls i call (omega (arith, lt, len)) ∙ ap₂ (λ (l : List Call) (c : Call). l ++ c ∷ []) so_far (here (same_Some _ _ its)) ∙ sym (take_more made i d (omega (arith, lt, long)))
