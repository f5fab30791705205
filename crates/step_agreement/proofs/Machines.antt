-- The agreed step of told machines.
use Rattle.std.proofs.Common.{◌≡◌, ◌≢◌, ◌⊎◌, inl, inr, ℕ, zero, suc, ◌+◌, ◌-◌, ◌<◌, ◌≤◌, ◌==◌, Bool, true, false, List, [], ◌∷◌, ◌++◌, Option, Some, refl, sym, ap, ap₂, ◌∙◌, subst, arith, map}
use Rattle.std.specs.Prelude.{All, if◌then◌else◌}
use Rattle.std.specs.List.{list_any, slice_get}
use Rattle.std.specs.Option.{option_map}
use Rattle.std.proofs.lemmas.Bool.Decides.{nat_tests}
use Rattle.std.proofs.lemmas.Option.{none-some as none_some, same_Some, slice_get-map, get_or_from_slice_get}
use Rattle.value_types.specs.declared.shape.Shape.{Shape}
use Rattle.fmu_peer.specs.declared.peer.Exchange.{Exchange}
use Rattle.fmu_peer.specs.Machine.{IgnoresSlot, Machine, MachineState, SavedMachine, after}
use Rattle.system_model.specs.EarlyReturn.{early_count}
use Rattle.system_model.specs.declared.system.Component.{Component}
use Rattle.system_model.proofs.CallerLemmas.{counts_two}
use Rattle.run_model.specs.Run.{IsFmu, Run, each_from}
use Rattle.run_model.specs.Steps.{Agree, Stepper, StopsShort, least_or}
use Rattle.run_model.specs.Stepping.{asked_first, end_in, ending, is_terminating, kept_at, step_to}
use Rattle.run_model.proofs.CallerLemmas.{each-get}
use Rattle.slot_calls.specs.Log.{Sent, part}
use Rattle.slot_calls.specs.Replies.{AreReplies, RepliesBy, state_by}
use Rattle.slot_calls.specs.Stage.{shapes_of}
use Rattle.slot_calls.proofs.CallerLemmas.{part_append}
use Rattle.slot_calls.proofs.CallerLemmas.{replies_prefix}
use Rattle.step_agreement.specs.Agreement.{Agrees, Asks, Fails, FirstMeet, FirstStops, GoesAnew, InBack, InStep, IsUnfit, Meets, NextMeet, NextStops, Outcome, Stand, Unfit, are_at, comes_first, end_at, ends_elsewhere, everyone, is_elsewhere, moved, reached, stand_by, stands_by, stands_from}
use Rattle.step_agreement.specs.Ends.{AllOfThem, AreEnds, ComeFirst, OneAlone, EndsAs, Fmu, ResultAt, asks_in, standing, stepper_of}
use Rattle.step_agreement.specs.OverMachines.{AgreesOverMachines, IgnoreSlots, MachinesCome, RestoresSaved, asks_last, fmus_of, saved_states, slot_in, steppers_of, with_slot}
use Rattle.step_agreement.proofs.Agreed.{agrees_by_log, all_back, all_prefix}
use Rattle.step_agreement.proofs.Lists.{Each, Holds, all_each, least_is}
use Rattle.step_agreement.proofs.Moves.{IsEnd, FromAway, FromHere, Own, Skips, good_end, own}
use Rattle.step_agreement.proofs.Tracks as T
use Rattle.step_agreement.proofs.Tracks.{IsGoodOutcome, shape_kept, stand_here}

equal : (a b : ℕ) → (a == b) ≡ true → a ≡ b
equal a b q = grind (arith, nat_tests)

unequal : (a b : ℕ) → (a == b) ≡ false → a ≢ b
unequal a b q = grind (arith, nat_tests)

-- ---- no FMU stands before t

-- one after a log stood somewhere before it
pub stood_from : (t k : ℕ) (ss : List Stand) (log : List Sent) (i : ℕ) (y : Stand) → slice_get (stands_from t k ss log) i ≡ Some y → (s : Stand) × (slice_get ss i ≡ Some s) × (y ≡ stand_by t s (part (k + i) log))
stood_from t k [] log i y at = absurd (none_some y at)
stood_from t k (x ∷ ss) log zero y at =
    let place : k ≡ k + 0 = omega arith in
    (x, refl, sym (same_Some (stand_by t x (part k log)) y at) ∙ ap (λ (n : ℕ). stand_by t x (part n log)) place)
stood_from t k (x ∷ ss) log (suc i) y at =
    let more = stood_from t (suc k) ss log i y at in
    let place : suc k + i ≡ k + suc i = omega arith in
    (more.0, more.1, more.2 ∙ ap (λ (n : ℕ). stand_by t more.0 (part n log)) place)

abbrev pub NotBefore : ℕ → Stand → Type 0
NotBefore t s = t ≤ s.point

own_later : (t e : ℕ) (b : Bool) (s : Stand) (es : List Exchange) → Own t e b s es → NotBefore t s → NotBefore t (stand_by t s es)
own_later t e b s es (Skips un is) h = subst (λ (xs : List Exchange). NotBefore t (stand_by t s xs)) (sym is) h
own_later t e b s es (FromHere asked home x is call good) h =
    subst (λ (xs : List Exchange). NotBefore t (stand_by t s xs)) (sym is)
    (subst (NotBefore t) (sym (ap (λ c. moved t s c x.result) call)) (let l = (good_end s.shape t (e - t) x good call).later in omega (arith, l)))
own_later t e b s es (FromAway asked away y x is back y_good call good) h =
    subst (λ (xs : List Exchange). NotBefore t (stand_by t s xs)) (sym is)
    (subst (NotBefore t) (sym (ap (λ c. moved t (moved t s y.call y.result) c x.result) call)) (let l = (good_end s.shape t (e - t) x good call).later in omega (arith, l)))

pub asks_later : (t step : ℕ) (sized test : Stand → Bool) (e : ℕ) (stands : List Stand) (log : List Sent) → Asks t step sized test e stands log → Each (NotBefore t) stands → Each (NotBefore t) (stands_by t stands log)
asks_later t step sized test e stands log asks h i y at =
    let was = stood_from t 0 stands log i y at in
    let place : 0 + i ≡ i = omega arith in
    subst (NotBefore t) (sym (was.2 ∙ ap (λ (n : ℕ). stand_by t was.0 (part n log)) place))
    (own_later t e (test was.0) was.0 (part i log) (own t step sized test e stands log asks i was.0 was.1) (h i was.0 was.1))

pub reached_later : (t b : ℕ) (ss : List Stand) → t < b → Each (NotBefore t) ss → t < reached t b ss
reached_later t b ss later h = by (least_is (end_at t b) b ss) where
  end_later : (s : Stand) → NotBefore t s → (x : Bool) → (s.point == t) ≡ x → t < end_at t b s
  end_later s n true is = subst (λ (k : ℕ). t < k) (sym (ap (λ (y : Bool). if y then b else s.point) is)) later
  end_later s n false is = subst (λ (k : ℕ). t < k) (sym (ap (λ (y : Bool). if y then b else s.point) is)) (let u = unequal s.point t is in omega (arith, n, u))

  by : ((least_or b (map (end_at t b) ss) ≡ b) × (ss ≡ [])) ⊎ ((s : Stand) × Holds ss s × (least_or b (map (end_at t b) ss) ≡ end_at t b s)) → t < least_or b (map (end_at t b) ss)
  by (inl none) = let e = none.0 in omega (arith, e, later)
  by (inr one) = let l = end_later one.0 (h one.1.0 one.0 one.1.1) (one.0.point == t) refl in let e = one.2 in omega (arith, e, l)

-- ---- one machine along the log

module _ (m : Machine) (ignores : IgnoresSlot m) (before : MachineState) (slot : Option SavedMachine) (t : ℕ) (f : Fmu) (f_is : (e : ℕ) → IsEnd f.shape t (e - t) (end_in m before t e) → f.end e ≡ end_in m before t e) (step : ℕ) (first : Shape → Bool) (i : ℕ) where
  abbrev Here : Stand → MachineState → Bool → Type 0
  Here s state asks = T.IsHere m ignores before slot t f f_is s state asks

  abbrev Leads : Stand → MachineState → Bool → List Exchange → Type 0
  Leads s state asks es = T.Leads m ignores before slot t f f_is s state asks es

  abbrev Saved : Exchange → Type 0
  Saved e = T.IsSaved m ignores before slot t f f_is e

  pub leads_none : (s : Stand) (state : MachineState) (asks : Bool) (log : List Sent) → log ≡ [] → Here s state asks → Leads s state asks (part i log)
  leads_none s state asks log is here =
      subst (λ (l : List Sent). Leads s state asks (part i l)) (sym is) (record { ends = λ k d w. absurd (omega (arith, w)); here = here; replies = λ rest h. h })

  pub leads_asked : (sized test : Stand → Bool) (e : ℕ) (stands : List Stand) (log : List Sent) → Asks t step sized test e stands log → t < e → (s : Stand) → slice_get stands i ≡ Some s → s.shape ≡ f.shape → (state : MachineState) (asks : Bool) → Here s state asks →
      All Saved (part i log) → RepliesBy m state (part i log) → Leads s state asks (part i log)
  leads_asked sized test e stands log asked later s at shape_is state asks here saved replies =
      T.leads_by m ignores before slot t f f_is e later (test s) s shape_is state asks (part i log) (own t step sized test e stands log asked i s at) here saved replies

  -- an asking, and what follows it
  pub leads_then : (sized test : Stand → Bool) (e : ℕ) (stands : List Stand) (prefix back : List Sent) → Asks t step sized test e stands prefix → t < e → (s : Stand) → slice_get stands i ≡ Some s → s.shape ≡ f.shape → (state : MachineState) (asks : Bool) → Here s state asks →
      All Saved (part i (prefix ++ back)) → RepliesBy m state (part i (prefix ++ back)) →
      ((y : Stand) (z : MachineState) (a : Bool) → slice_get (stands_by t stands prefix) i ≡ Some y → y.shape ≡ f.shape → Here y z a → All Saved (part i back) → RepliesBy m z (part i back) → Leads y z a (part i back)) →
      Leads s state asks (part i (prefix ++ back))
  leads_then sized test e stands prefix back asked later s at shape_is state asks here saved replies on =
      let split = part_append i prefix back in
      let saved' = subst (All Saved) split saved in
      let replies' = subst (RepliesBy m state) split replies in
      let one = leads_asked sized test e stands prefix asked later s at shape_is state asks here (all_prefix Saved (part i prefix) (part i back) saved') (replies_prefix m state (part i prefix) (part i back) replies') in
      let rest = on (stand_by t s (part i prefix)) (state_by m state (part i prefix)) (asks_last asks (part i prefix)) (stand_here t stands prefix i s at) (shape_kept t s (part i prefix) ∙ shape_is) one.here (all_back Saved (part i prefix) (part i back) saved') (one.replies (part i back) replies') in
      subst (Leads s state asks) (sym split) (T.leads_on m ignores before slot t f f_is s state asks (part i prefix) (part i back) one rest)

  pub track : {b : ℕ} {stands : List Stand} {log : List Sent} {outcome : Outcome} → Agrees t step first b stands log outcome → IsGoodOutcome outcome → t < b → Each (NotBefore t) stands → (s : Stand) → slice_get stands i ≡ Some s → s.shape ≡ f.shape →
      (state : MachineState) (asks : Bool) → Here s state asks → All Saved (part i log) → RepliesBy m state (part i log) → Leads s state asks (part i log)
  track (FirstStops b stands log outcome (IsUnfit k h log_is is)) good later low s at shape_is state asks here saved replies = leads_none s state asks log log_is here
  track (FirstStops b stands log outcome (InBack bad fits fails is)) good later low s at shape_is state asks here saved replies = absurd (subst IsGoodOutcome is good)
  track (FirstStops b stands log outcome (InStep bad backs steps fits back fails log_is is)) good later low s at shape_is state asks here saved replies = absurd (subst IsGoodOutcome is good)
  track (FirstMeet b stands log outcome p asked p_is there is) good later low s at shape_is state asks here saved replies = leads_asked everyone (comes_first first) b stands log asked later s at shape_is state asks here saved replies
  track (NextStops b stands log outcome p prefix back mids asked mids_are p_is apart (IsUnfit k h log_is is) whole) good later low s at shape_is state asks here saved replies =
      subst (λ (l : List Sent). Leads s state asks (part i l)) (sym whole)
      (leads_then everyone (comes_first first) b stands prefix back asked later s at shape_is state asks here (subst (λ (l : List Sent). All Saved (part i l)) whole saved) (subst (λ (l : List Sent). RepliesBy m state (part i l)) whole replies)
      (λ y z a y_at y_shape y_here y_saved y_replies. leads_none y z a back log_is y_here))
  track (NextStops b stands log outcome p prefix back mids asked mids_are p_is apart (InBack bad fits fails is) whole) good later low s at shape_is state asks here saved replies = absurd (subst IsGoodOutcome is good)
  track (NextStops b stands log outcome p prefix back mids asked mids_are p_is apart (InStep bad backs steps fits backed fails log_is is) whole) good later low s at shape_is state asks here saved replies = absurd (subst IsGoodOutcome is good)
  track (NextMeet b stands log outcome p prefix back mids asked mids_are p_is apart asked2 there is whole) good later low s at shape_is state asks here saved replies =
      let low_mids = subst (Each (NotBefore t)) (sym mids_are) (asks_later t step everyone (comes_first first) b stands prefix asked low) in
      let p_later = subst (λ (n : ℕ). t < n) (sym p_is) (reached_later t b mids later low_mids) in
      subst (λ (l : List Sent). Leads s state asks (part i l)) (sym whole)
      (leads_then everyone (comes_first first) b stands prefix back asked later s at shape_is state asks here (subst (λ (l : List Sent). All Saved (part i l)) whole saved) (subst (λ (l : List Sent). RepliesBy m state (part i l)) whole replies)
      (λ y z a y_at y_shape y_here y_saved y_replies. leads_asked (ends_elsewhere t b p) (is_elsewhere p) p mids back asked2 p_later y (ap (λ (ss : List Stand). slice_get ss i) mids_are ∙ y_at) y_shape z a y_here y_saved y_replies))
  track (GoesAnew b stands log outcome p c prefix back rest mids lasts asked mids_are p_is apart asked2 lasts_are beyond c_is more whole) good later low s at shape_is state asks here saved replies =
      let low_mids = subst (Each (NotBefore t)) (sym mids_are) (asks_later t step everyone (comes_first first) b stands prefix asked low) in
      let p_later = subst (λ (n : ℕ). t < n) (sym p_is) (reached_later t b mids later low_mids) in
      let low_lasts = subst (Each (NotBefore t)) (sym lasts_are) (asks_later t step (ends_elsewhere t b p) (is_elsewhere p) p mids back asked2 low_mids) in
      let c_later = subst (λ (n : ℕ). t < n) (sym c_is) (reached_later t p lasts p_later low_lasts) in
      subst (λ (l : List Sent). Leads s state asks (part i l)) (sym whole)
      (leads_then everyone (comes_first first) b stands prefix (back ++ rest) asked later s at shape_is state asks here (subst (λ (l : List Sent). All Saved (part i l)) whole saved) (subst (λ (l : List Sent). RepliesBy m state (part i l)) whole replies)
      (λ y z a y_at y_shape y_here y_saved y_replies. leads_then (ends_elsewhere t b p) (is_elsewhere p) p mids back rest asked2 p_later y (ap (λ (ss : List Stand). slice_get ss i) mids_are ∙ y_at) y_shape z a y_here y_saved y_replies
      (λ u v d u_at u_shape u_here u_saved u_replies. track more good c_later low_lasts u (ap (λ (ss : List Stand). slice_get ss i) lasts_are ∙ u_at) u_shape v d u_here u_saved u_replies)))

-- ---- all of them

pub each_here : {X : Type 0} (g : ℕ → Component → Machine → MachineState → X) (k i : ℕ) (cs : List Component) (ms : List Machine) (ss : List MachineState) (c : Component) (m : Machine) (s : MachineState) →
    slice_get cs i ≡ Some c → slice_get ms i ≡ Some m → slice_get ss i ≡ Some s → slice_get (each_from g k cs ms ss) i ≡ Some (g (k + i) c m s)
each_here g k i [] ms ss c m s a b d = absurd (none_some c a)
each_here g k i (x ∷ cs) [] ss c m s a b d = absurd (none_some m b)
each_here g k i (x ∷ cs) (y ∷ ms) [] c m s a b d = absurd (none_some s d)
each_here g k zero (x ∷ cs) (y ∷ ms) (z ∷ ss) c m s a b d =
    let place : k ≡ k + 0 = omega arith in
    ap Some (ap (λ n. g n x y z) place ∙ ap (λ w. g (k + 0) w y z) (same_Some x c a) ∙ ap (λ w. g (k + 0) c w z) (same_Some y m b) ∙ ap (λ w. g (k + 0) c m w) (same_Some z s d))
each_here g k (suc i) (x ∷ cs) (y ∷ ms) (z ∷ ss) c m s a b d =
    let place : suc k + i ≡ k + suc i = omega arith in
    each_here g (suc k) i cs ms ss c m s a b d ∙ ap (λ n. Some (g n c m s)) place

each_alike : {X : Type 0} (g h : ℕ → Component → Machine → MachineState → X) (k : ℕ) (cs : List Component) (ms : List Machine) (ss : List MachineState) →
    ((i : ℕ) (c : Component) (m : Machine) (s : MachineState) → slice_get cs i ≡ Some c → slice_get ms i ≡ Some m → slice_get ss i ≡ Some s → g (k + i) c m s ≡ h (k + i) c m s) → each_from g k cs ms ss ≡ each_from h k cs ms ss
each_alike g h k [] ms ss is = refl
each_alike g h k (c ∷ cs) [] ss is = refl
each_alike g h k (c ∷ cs) (m ∷ ms) [] is = refl
each_alike g h k (c ∷ cs) (m ∷ ms) (s ∷ ss) is =
    let place : k + 0 ≡ k = omega arith in
    ap₂ ◌∷◌ (ap (λ n. g n c m s) (sym place) ∙ is 0 c m s refl refl refl ∙ ap (λ n. h n c m s) place)
    (each_alike g h (suc k) cs ms ss (λ i d n z a b e. let here : suc k + i ≡ k + suc i = omega arith in ap (λ j. g j d n z) here ∙ is (suc i) d n z a b e ∙ ap (λ j. h j d n z) (sym here)))

each_twice : {X : Type 0} (g : ℕ → Component → Machine → MachineState → MachineState) (h : ℕ → Component → Machine → MachineState → X) (k : ℕ) (cs : List Component) (ms : List Machine) (ss : List MachineState) →
    each_from h k cs ms (each_from g k cs ms ss) ≡ each_from (λ i c m s. h i c m (g i c m s)) k cs ms ss
each_twice g h k [] ms ss = refl
each_twice g h k (c ∷ cs) [] ss = refl
each_twice g h k (c ∷ cs) (m ∷ ms) [] = refl
each_twice g h k (c ∷ cs) (m ∷ ms) (s ∷ ss) = ap (λ xs. h k c m (g k c m s) ∷ xs) (each_twice g h (suc k) cs ms ss)

each_map : {X Y : Type 0} (g : ℕ → Component → Machine → MachineState → X) (h : X → Y) (k : ℕ) (cs : List Component) (ms : List Machine) (ss : List MachineState) → map h (each_from g k cs ms ss) ≡ each_from (λ i c m s. h (g i c m s)) k cs ms ss
each_map g h k [] ms ss = refl
each_map g h k (c ∷ cs) [] ss = refl
each_map g h k (c ∷ cs) (m ∷ ms) [] = refl
each_map g h k (c ∷ cs) (m ∷ ms) (s ∷ ss) = ap (λ xs. h (g k c m s) ∷ xs) (each_map g h (suc k) cs ms ss)

-- where an FMU ends is where its machine does, if that end is good
pub known_end : (t : ℕ) (c : Component) (m : Machine) (s : MachineState) (e : ℕ) → IsEnd c.shape t (e - t) (end_in m s t e) → ending t c m s e ≡ end_in m s t e
known_end t c m s e h = by c.shape.might_return_early refl where
  by : (x : Bool) → c.shape.might_return_early ≡ x → ending t c m s e ≡ end_in m s t e
  by true is = ap (λ (y : Bool). if y then end_in m s t e else e) is
  by false is = ap (λ (y : Bool). if y then end_in m s t e else e) is ∙ (let w = h.whole is in let l = h.later in omega (arith, w, l))

module _ (first : Shape → Bool) (r : Run) (ss : List MachineState) (t : ℕ) (who : ComeFirst first t (fmus_of r ss t))
    (step b : ℕ) (saves : ℕ → Bool) (log : List Sent) (outcome : Outcome) (ignore : IgnoreSlots r) (later : t < b) (agrees : Agrees t step first b (standing t (fmus_of r ss t)) log outcome)
    (restores : RestoresSaved saves log) (replies : AreReplies r (saved_states r ss saves) log) where
  abbrev fmu_of : ℕ → Component → Machine → MachineState → Fmu
  fmu_of i c m s = record { shape = c.shape; end = ending t c m s }

  abbrev stand_of : Fmu → Stand
  stand_of f = record { shape = f.shape; point = t; ask = t }

  abbrev save_of : ℕ → Component → Machine → MachineState → MachineState
  save_of i c m s = with_slot (slot_in (saves i) s) s

  low : Each (NotBefore t) (standing t (fmus_of r ss t))
  low i y at = by i y (fmus_of r ss t) at where
    by : (i : ℕ) (y : Stand) (fs : List Fmu) → slice_get (standing t fs) i ≡ Some y → NotBefore t y
    by i y [] at = absurd (none_some y at)
    by zero y (f ∷ fs) at = subst (NotBefore t) (same_Some (stand_of f) y at) (omega arith)
    by (suc i) y (f ∷ fs) at = by i y fs at

  module _ (good : IsGoodOutcome outcome) (i : ℕ) (c : Component) (m : Machine) (s : MachineState) (fmu : IsFmu r ss i c m s) where
    fmu_here : slice_get (fmus_of r ss t) i ≡ Some (fmu_of i c m s)
    fmu_here = let place : 0 + i ≡ i = omega arith in each_here fmu_of 0 i r.system.components r.machines ss c m s fmu.component fmu.machine fmu.state ∙ ap (λ n. Some (fmu_of n c m s)) place

    stood : slice_get (standing t (fmus_of r ss t)) i ≡ Some (stand_of (fmu_of i c m s))
    stood = slice_get-map stand_of (fmus_of r ss t) i ∙ ap (option_map stand_of) fmu_here

    saved_fmu : IsFmu r (saved_states r ss saves) i c m (save_of i c m s)
    saved_fmu = record {
      component = fmu.component;
      machine = fmu.machine;
      state = let place : 0 + i ≡ i = omega arith in each_here save_of 0 i r.system.components r.machines ss c m s fmu.component fmu.machine fmu.state ∙ ap (λ n. Some (save_of n c m s)) place;
    }

    tracked : Leads m (ignore i m fmu.machine) s (slot_in (saves i) s) t (fmu_of i c m s) (λ e. known_end t c m s e) step first i (stand_of (fmu_of i c m s)) (save_of i c m s) false (part i log)
    tracked =
        track m (ignore i m fmu.machine) s (slot_in (saves i) s) t (fmu_of i c m s) (λ e. known_end t c m s e) step first i agrees good later low (stand_of (fmu_of i c m s)) stood refl (save_of i c m s) false (T.Home refl refl)
        (λ k d w h. ap (λ (x : Bool). slot_in x s) (restores i k d w h)) (replies i c m (save_of i c m s) saved_fmu)

  ends : IsGoodOutcome outcome → AreEnds t (fmus_of r ss t) log
  ends good i f at =
      let x = each-get fmu_of 0 i r.system.components r.machines ss f at in
      let fmu : IsFmu r ss i x.component x.machine x.state = record { component = x.of_c; machine = x.of_m; state = x.of_s } in
      subst (λ (g : Fmu). EndsAs t g (part i log)) (sym x.is) (tracked good i x.component x.machine x.state fmu).ends

  steppers_are : map stepper_of (fmus_of r ss t) ≡ steppers_of r ss t
  steppers_are = each_map fmu_of stepper_of 0 r.system.components r.machines ss

  abbrev lasts : List Stand
  lasts = stands_by t (standing t (fmus_of r ss t)) log

  module _ (good : IsGoodOutcome outcome) (p : ℕ) (p_later : t < p) (there : are_at p lasts ≡ true) (i : ℕ) (c : Component) (m : Machine) (s : MachineState) (fmu : IsFmu r ss i c m s) where
    abbrev last : Stand
    last = stand_by t (stand_of (fmu_of i c m s)) (part i log)

    last_here : slice_get lasts i ≡ Some last
    last_here = stand_here t (standing t (fmus_of r ss t)) log i (stand_of (fmu_of i c m s)) (stood good i c m s fmu)

    at_p : last.point ≡ p
    at_p = equal last.point p (all_each (λ (z : Stand). z.point == p) lasts there i last last_here)

    ask_is : kept_at (asks_in lasts) i ≡ last.ask
    ask_is = get_or_from_slice_get (asks_in lasts) i last.ask 0 (slice_get-map (λ (z : Stand). z.ask) lasts i ∙ ap (option_map (λ (z : Stand). z.ask)) last_here)

    abbrev Ended : Type 0
    Ended = (state_by m (save_of i c m s) (part i log) ≡ with_slot (slot_in (saves i) s) (after m s (step_to t (kept_at (asks_in lasts) i)))) × (asks_last false (part i log) ≡ is_terminating (m.look s (step_to t (kept_at (asks_in lasts) i))))

    ended_by : Here m (ignore i m fmu.machine) s (slot_in (saves i) s) t (fmu_of i c m s) (λ e. known_end t c m s e) step first i last (state_by m (save_of i c m s) (part i log)) (asks_last false (part i log)) → Ended
    ended_by (T.Home h is) = absurd (let e = at_p in omega (arith, e, h, p_later))
    ended_by (T.Away h is asks) =
        (is ∙ ap (λ (n : ℕ). with_slot (slot_in (saves i) s) (after m s (step_to t n))) (sym ask_is), asks ∙ ap (λ (n : ℕ). is_terminating (m.look s (step_to t n))) (sym ask_is))

    ended : Ended
    ended = ended_by (tracked good i c m s fmu).here

  come_by : (o : Outcome) → outcome ≡ o → ResultAt t step b (fmus_of r ss t) lasts o → MachinesCome r ss t step b saves log o
  come_by (Meets p) is h =
      let good : IsGoodOutcome outcome = subst IsGoodOutcome (sym is) tt in (
        asks_in lasts,
        subst (λ (xs : List Stepper). Agree xs t step b (asks_in lasts) p) steppers_are h.0,
        h.1,
        each_twice save_of (λ i c m s. state_by m s (part i log)) 0 r.system.components r.machines ss
            ∙ each_alike (λ i c m s. state_by m (save_of i c m s) (part i log)) (λ i c m s. with_slot (slot_in (saves i) s) (after m s (step_to t (kept_at (asks_in lasts) i)))) 0 r.system.components r.machines ss
            (λ i c m s x y z. let place : 0 + i ≡ i = omega arith in
            subst (λ n. state_by m (save_of n c m s) (part n log) ≡ with_slot (slot_in (saves n) s) (after m s (step_to t (kept_at (asks_in lasts) n)))) (sym place) (ended good p h.1 h.2 i c m s (record { component = x; machine = y; state = z })).0),
        ap (list_any (λ u. u)) (each_alike (λ i c m s. asks_last false (part i log)) (λ i c m s. is_terminating (m.look s (step_to t (kept_at (asks_in lasts) i)))) 0 r.system.components r.machines ss
            (λ i c m s x y z. let place : 0 + i ≡ i = omega arith in
            subst (λ n. asks_last false (part n log) ≡ is_terminating (m.look s (step_to t (kept_at (asks_in lasts) n)))) (sym place) (ended good p h.1 h.2 i c m s (record { component = x; machine = y; state = z })).1)),
      )
  come_by (Unfit i e) is h = subst (λ (xs : List Stepper). StopsShort xs t step b i e) steppers_are h
  come_by (Fails bad) is h = tt

  result : (o : Outcome) → outcome ≡ o → MachinesCome r ss t step b saves log o
  result (Meets p) is =
      come_by (Meets p) is (subst (λ (o : Outcome). ResultAt t step b (fmus_of r ss t) lasts o) is (agrees_by_log first t step b (fmus_of r ss t) log outcome later who agrees (ends (subst IsGoodOutcome (sym is) tt))))
  result (Unfit i e) is =
      come_by (Unfit i e) is (subst (λ (o : Outcome). ResultAt t step b (fmus_of r ss t) lasts o) is (agrees_by_log first t step b (fmus_of r ss t) log outcome later who agrees (ends (subst IsGoodOutcome (sym is) tt))))
  result (Fails bad) is = tt

-- who comes first, of all that might return early
pub who_first : (r : Run) (ss : List MachineState) (t : ℕ) → ComeFirst (asked_first (early_count (shapes_of r.system))) t (fmus_of r ss t)
who_first r ss t = by (early_count (shapes_of r.system) == 1) refl where
  by : (x : Bool) → (early_count (shapes_of r.system) == 1) ≡ x → ComeFirst (asked_first (early_count (shapes_of r.system))) t (fmus_of r ss t)
  by false several = AllOfThem (λ i f at. ap (λ (x : Bool). if x then f.shape.might_return_early else true) several)
  by true alone = OneAlone (λ i j f g a b x y. one i j f g a b (early_of f x) (early_of g y)) (λ i f e at un later. ends i f e at (late_of f un)) where
    early_of : (f : Fmu) → asked_first (early_count (shapes_of r.system)) f.shape ≡ true → f.shape.might_return_early ≡ true
    early_of f h = sym (ap (λ (x : Bool). if x then f.shape.might_return_early else true) alone) ∙ h

    late_of : (f : Fmu) → asked_first (early_count (shapes_of r.system)) f.shape ≡ false → f.shape.might_return_early ≡ false
    late_of f h = sym (ap (λ (x : Bool). if x then f.shape.might_return_early else true) alone) ∙ h

    shape_at : (i : ℕ) (c : Component) → slice_get r.system.components i ≡ Some c → slice_get (shapes_of r.system) i ≡ Some c.shape
    shape_at i c at = slice_get-map (λ (d : Component). d.shape) r.system.components i ∙ ap (option_map (λ (d : Component). d.shape)) at

    one : (i j : ℕ) (f g : Fmu) → slice_get (fmus_of r ss t) i ≡ Some f → slice_get (fmus_of r ss t) j ≡ Some g → f.shape.might_return_early ≡ true → g.shape.might_return_early ≡ true → i ≡ j
    one i j f g a b x y = same (i == j) refl where
      same : (z : Bool) → (i == j) ≡ z → i ≡ j
      same true h = equal i j h
      same false h =
          let u = each-get (λ i c m s. record { shape = c.shape; end = ending t c m s }) 0 i r.system.components r.machines ss f a in
          let v = each-get (λ i c m s. record { shape = c.shape; end = ending t c m s }) 0 j r.system.components r.machines ss g b in
          let two = counts_two (shapes_of r.system) i j u.component.shape v.component.shape (unequal i j h) (shape_at i u.component u.of_c) (shape_at j v.component v.of_c)
          (sym (ap (λ (w : Fmu). w.shape.might_return_early) u.is) ∙ x) (sym (ap (λ (w : Fmu). w.shape.might_return_early) v.is) ∙ y) in
          let single = equal (early_count (shapes_of r.system)) 1 alone in
          absurd (omega (arith, two, single))

    ends : (i : ℕ) (f : Fmu) (e : ℕ) → slice_get (fmus_of r ss t) i ≡ Some f → f.shape.might_return_early ≡ false → f.end e ≡ e
    ends i f e at un =
        let u = each-get (λ i c m s. record { shape = c.shape; end = ending t c m s }) 0 i r.system.components r.machines ss f at in
        ap (λ (z : Fmu). z.end e) u.is ∙ ap (λ (y : Bool). if y then end_in u.machine u.state t e else e) (sym (ap (λ (z : Fmu). z.shape.might_return_early) u.is) ∙ un)

pub agrees_over_machines : AgreesOverMachines
agrees_over_machines r ss t step b saves log outcome ignore later agrees restores replies =
    result (asked_first (early_count (shapes_of r.system))) r ss t (who_first r ss t) step b saves log outcome ignore later agrees restores replies outcome refl
