-- What a log tells of a walk is how the walk went.
use Rattle.std.proofs.Common.{◌≡◌, ℕ, zero, suc, ◌<◌, arith, ℤ, Bool, true, false, List, [], ◌∷◌, ◌++◌, Option, Some, None, Contains, refl, sym, ap, ◌∙◌, subst, append_assoc, append-nil, length}
use Rattle.std.specs.Prelude.{slice_set}
use Rattle.std.specs.List.{slice_get}
use Rattle.std.proofs.lemmas.List.{ext_get_or, length-map, length-set}
use Rattle.std.proofs.lemmas.List.Elements.{Contains-append_left, Contains-append_right, Contains-push}
use Rattle.fmi_calls.specs.declared.call.Reply.{Reply}
use Rattle.system_model.specs.declared.system.Component.{Component}
use Rattle.system_model.specs.declared.system.Port.{Port}
use Rattle.system_model.specs.declared.system.System.{System}
use Rattle.system_model.specs.Needs.{Needs, NeedsInitially, is_unclocked_at}
use Rattle.system_model.specs.Orders.{IsOrder}
use Rattle.system_model.specs.Ports.{port_numbers}
use Rattle.system_model.specs.Sound.{IsSound}
use Rattle.system_model.proofs.CallerLemmas.{true_false, place_of}
use Rattle.system_model.specs.Values.{value}
use Rattle.run_model.specs.Walk.{is_taken}
use Rattle.run_model.proofs.CallerLemmas.{is-taken, taken-is, none_in, push_cases}
use Rattle.slot_calls.specs.Log.{Sent}
use Rattle.event_iteration.specs.Explains.{Explains, all_said, said}
use Rattle.event_iteration.specs.Initialization.{initially, no_values}
use Rattle.event_iteration.specs.Instants.{in_instant}
use Rattle.event_iteration.specs.Settings.{before_step, port_order}
use Rattle.event_iteration.specs.Turns.{Begun, IsPaired, Rules, Turn, Walked, Went, sent_of}
use Rattle.event_iteration.proofs.InInstant.{about_instant}
use Rattle.event_iteration.proofs.Setting.{NoNeeds, about_setting, in_order}
use Rattle.event_iteration.proofs.Walking.{AreAbout, call_at-is, next_beside, next_here, said-is}
use Rattle.event_iteration.proofs.Fmus.{got}
use Rattle.event_iteration.proofs.Finding.{about_initially}

-- a port and its component
pub record There (system : System) (p : ℕ) : Type 0 where
  pub port : Port
  pub is : slice_get system.ports p ≡ Some port
  pub component : Component
  pub of : slice_get system.components port.component.0 ≡ Some component

there_at : (system : System) → IsSound system → (p : ℕ) → p < length system.ports → There system p
there_at system sound p w =
    let x = got system.ports p w in
    let placed = place_of system sound p x.0 x.1 in
    record { port = x.0; is = x.1; component = placed.component; of = placed.is.of }

contains_here : (pre : List ℕ) (p : ℕ) (rest : List ℕ) → Contains (pre ++ p ∷ rest) p
contains_here pre p rest = Contains-append_right pre (p ∷ rest) p (Contains-append_left (p ∷ []) rest p (Contains-push [] p))

-- the walk through the first ports of the order, which leaves these values at each port
pub record IsWalked (system : System) (rules : Rules) (before : List (Option ℤ)) (taken : List ℕ) (values : List (Option ℤ)) (log : List Sent) : Type 0 where
  pub next : List (Option ℤ)
  pub walked : Walked system rules before taken next log
  pub places : length next ≡ length system.ports
  pub same : (q : ℕ) → value next q ≡ value values q

module _ (IsAmong : ℕ → Type 0) (NeedsOf : ℕ → ℕ → Type 0) (system : System) (rules : Rules) (about : AreAbout NeedsOf system rules) (before : List (Option ℤ)) (order : List ℕ) (ordered : IsOrder IsAmong NeedsOf order)
    (len : length before ≡ length system.ports) (there : (p : ℕ) → Contains order p → There system p) where
  module _ (taken left : List ℕ) (is : order ≡ taken ++ left) (values : List (Option ℤ)) (log : List Sent) (told : Explains system rules before taken values log) where
    -- so far
    record SoFar (pre : List ℕ) (next : List (Option ℤ)) (prefix : List Sent) : Type 0 where
      walked : Walked system rules before pre next prefix
      places : length next ≡ length system.ports
      new : (q : ℕ) → Contains pre q → value next q ≡ value values q
      old : (q : ℕ) → (Contains pre q → ⊥) → value next q ≡ value before q

    module _ (pre rest : List ℕ) (p : ℕ) (split : taken ≡ pre ++ p ∷ rest) (next : List (Option ℤ)) (prefix : List Sent) (far : SoFar pre next prefix) where
      in_order_at : order ≡ pre ++ p ∷ (rest ++ left)
      in_order_at = is ∙ ap (λ (xs : List ℕ). xs ++ left) split ∙ append_assoc pre (p ∷ rest) left

      here : There system p
      here = there p (subst (λ (xs : List ℕ). Contains xs p) (sym in_order_at) (contains_here pre p (rest ++ left)))

      in_taken : Contains taken p
      in_taken = subst (λ (xs : List ℕ). Contains xs p) (sym split) (contains_here pre p rest)

      fresh : Contains pre p → ⊥
      fresh = ordered.once pre (rest ++ left) p in_order_at

      alike : (q : ℕ) → NeedsOf p q → value values q ≡ value next q
      alike q n = sym (far.new q (ordered.after pre (rest ++ left) p q in_order_at n))

      abbrev reply : Option Reply
      reply = told.replies p

      calls_same : rules.asks p here.port here.component values ≡ rules.asks p here.port here.component next
      calls_same = about.asks_same p here.port here.component values next here.is alike

      abbrev after : List (Option ℤ)
      after = slice_set next p (rules.takes p here.port next (value next p) reply)

      abbrev turn : Turn system rules p reply next after (said system rules values told.replies p)
      turn = record {
        port = here.port;
        is = here.is;
        component = here.component;
        of = here.of;
        paired = subst (λ call. IsPaired here.component.shape call reply) calls_same (told.paired p here.port here.component here.is here.of in_taken);
        sent_is = said-is system rules values told.replies p here.port here.is
            ∙ ap (λ call. sent_of here.port.component.0 call reply) (call_at-is system rules values p here.port here.component here.of ∙ calls_same);
        next_is = refl;
      }

      value_here : value after p ≡ value values p
      value_here =
          next_here turn far.places
          ∙ sym (about.takes_same p here.port values next (value next p) reply here.is alike)
          ∙ ap (λ o. rules.takes p here.port values o reply) (far.old p fresh)
          ∙ sym (told.taken_values p here.port here.is in_taken)

      farther : SoFar (pre ++ p ∷ []) after (prefix ++ said system rules values told.replies p)
      farther = record {
        walked = Went (pre ++ p ∷ []) pre p reply next after (prefix ++ said system rules values told.replies p) prefix (said system rules values told.replies p) refl refl far.walked turn;
        places = length-set next p _ ∙ far.places;
        new = λ q m. push_cases pre p q m
            (λ before_it. next_beside turn q (λ same. fresh (subst (Contains pre) same before_it)) ∙ far.new q before_it)
            (λ same. subst (λ x. value after x ≡ value values x) same value_here);
        old = λ q m. next_beside turn q (λ same. m (subst (Contains (pre ++ p ∷ [])) (sym same) (Contains-push pre p))) ∙ far.old q (λ before_it. m (Contains-append_left pre (p ∷ []) q before_it));
      }

    goes : (pre rest : List ℕ) → taken ≡ pre ++ rest → (next : List (Option ℤ)) (prefix : List Sent) → SoFar pre next prefix → (last : List (Option ℤ)) × SoFar taken last (prefix ++ all_said system rules values told.replies rest)
    goes pre [] split next prefix far =
        (next, subst (λ (xs : List ℕ). SoFar xs next (prefix ++ [])) (sym (split ∙ append-nil pre)) (subst (SoFar pre next) (sym (append-nil prefix)) far))
    goes pre (p ∷ rest) split next prefix far =
        let more = goes (pre ++ p ∷ []) rest (split ∙ sym (append_assoc pre (p ∷ []) rest)) (after pre rest p split next prefix far) (prefix ++ said system rules values told.replies p) (farther pre rest p split next prefix far) in
        (more.0, subst (SoFar taken more.0) (append_assoc prefix (said system rules values told.replies p) (all_said system rules values told.replies rest)) more.1)

    all_along : (last : List (Option ℤ)) × SoFar taken last (all_said system rules values told.replies taken)
    all_along = goes [] taken refl before [] (record { walked = Begun [] before [] refl refl refl; places = len; new = λ q m. absurd (none_in q m); old = λ q m. refl })

    by_taken : (q : ℕ) (b : Bool) → is_taken taken q ≡ b → value all_along.0 q ≡ value values q
    by_taken q true is_in = all_along.1.new q (is-taken taken q is_in)
    by_taken q false is_out =
        let out : Contains taken q → ⊥ = (λ m. true_false (sym (taken-is taken q m) ∙ is_out)) in
        all_along.1.old q out ∙ sym (told.left q out)

    pub walked_back : IsWalked system rules before taken values log
    walked_back = record {
      next = all_along.0;
      walked = subst (Walked system rules before taken all_along.0) (sym told.log_is) all_along.1.walked;
      places = all_along.1.places;
      same = λ q. by_taken q (is_taken taken q) refl;
    }

-- with a value for each port, the values are these
pub walked_to : (system : System) (rules : Rules) (before : List (Option ℤ)) (taken : List ℕ) (values : List (Option ℤ)) (log : List Sent) → length values ≡ length system.ports → IsWalked system rules before taken values log → Walked system rules before taken values log
walked_to system rules before taken values log len w =
    subst (λ (vs : List (Option ℤ)). Walked system rules before taken vs log) (ext_get_or None w.next values (w.places ∙ sym len) (λ q lt. w.same q)) w.walked

-- ---- the walks of a run

module _ (system : System) (sound : IsSound system) where
  within_of : (p : ℕ) → is_unclocked_at system.ports p ≡ true → p < length system.ports
  within_of p h = at system.ports p h where
    at : (ports : List Port) (q : ℕ) → is_unclocked_at ports q ≡ true → q < length ports
    at [] q e = absurd (cc)
    at (x ∷ ports) zero e = omega arith
    at (x ∷ ports) (suc q) e = let more = at ports q e in omega (arith, more)

  -- of Initialization Mode, as far as it went
  pub finding_back : (taken left : List ℕ) → port_numbers system.initial_order ≡ taken ++ left → (values : List (Option ℤ)) (log : List Sent) → Explains system (initially system) (no_values system) taken values log →
      IsWalked system (initially system) (no_values system) taken values log
  finding_back taken left is values log told =
      walked_back (λ q. is_unclocked_at system.ports q ≡ true) (NeedsInitially system) system (initially system) (about_initially system) (no_values system) (port_numbers system.initial_order) sound.initial_order
      (length-map system.ports (λ (x : Port). None)) (λ p m. there_at system sound p (within_of p (sound.initial_order.only p m))) taken left is values log told

  -- of an instant, as far as it went
  pub instant_back : (ticks : ℕ → Bool) (is_first : Bool) (before : List (Option ℤ)) → length before ≡ length system.ports → (taken left : List ℕ) → port_numbers system.instant_order ≡ taken ++ left → (values : List (Option ℤ)) (log : List Sent) →
      Explains system (in_instant ticks is_first) before taken values log → IsWalked system (in_instant ticks is_first) before taken values log
  instant_back ticks is_first before len taken left is values log told =
      walked_back (λ q. q < length system.ports) (Needs system) system (in_instant ticks is_first) (about_instant system ticks is_first) before (port_numbers system.instant_order) sound.instant_order len
      (λ p m. there_at system sound p (sound.instant_order.only p m)) taken left is values log told

  -- of the Sets before a step
  pub setting_back : (now : List (Option ℤ)) → length now ≡ length system.ports → (taken left : List ℕ) → port_order system ≡ taken ++ left → (values : List (Option ℤ)) (log : List Sent) → Explains system (before_step now) now taken values log →
      IsWalked system (before_step now) now taken values log
  setting_back now len taken left is values log told =
      walked_back (λ q. q < length system.ports) NoNeeds system (before_step now) (about_setting system now) now (port_order system) (in_order system) len
      (λ p m. there_at system sound p ((in_order system).only p m)) taken left is values log told
