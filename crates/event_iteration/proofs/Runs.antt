-- Sending a run, with the instances in their slots.
use Rattle.std.proofs.Common.{◌≡◌, inl, inr, ℕ, ◌<◌, ◌≤◌, ◌+◌, ◌-◌, ℤ, List, [], ◌∷◌, ◌++◌, Option, Some, None, Result, Ok, Err, Contains, refl, sym, ap, ◌∙◌, subst, arith, length, map, take, drop, get_or, set}
use Rattle.std.specs.Prelude.{All, IsTrue, slice_get, slice_set}
use Rattle.std.proofs.lemmas.List.{get_or-set_other, length-map, map-set}
use Rattle.std.proofs.lemmas.List.Elements.{All-contains, All-head, Contains-append_left, Contains-push}
use Rattle.std.proofs.lemmas.Option.{same_Some, slice_get-get_or, slice_get_within}
use Rattle.sim_base.specs.declared.numbers.PortId.{PortId}
use Rattle.fmi_calls.specs.declared.call.Call.{Call}
use Rattle.fmi_calls.specs.declared.call.Reply.{Reply}
use Rattle.fmu_peer.specs.declared.ended.Why.{Why}
use Rattle.fmu_peer.specs.CloseAll.{Instance}
use Rattle.fmu_peer.specs.Many.{AreOfOneSort, MayAskAll}
use Rattle.system_model.specs.declared.system.System.{System}
use Rattle.system_model.specs.declared.system.Port.{Port}
use Rattle.system_model.specs.Ports.{is_clock_role, port_numbers}
use Rattle.system_model.specs.Sound.{IsSound}
use Rattle.system_model.specs.Values.{value}
use Rattle.system_model.proofs.CallerLemmas.{at_contains, place_of, true_false}
use Rattle.run_model.specs.Machines.{AreFitting}
use Rattle.slot_calls.specs.declared.bad_answer.BadAnswer.{BadAnswer}
use Rattle.slot_calls.specs.Log.{AnswersAll, StopsAfter}
use Rattle.event_iteration.specs.declared.walk.Waiting.{Waiting}
use Rattle.event_iteration.specs.declared.walk.Way.{Way}
use Rattle.event_iteration.specs.declared.walk.Way.TheVariants.{Send, Skip, Wait, Quiet, Ask}
use Rattle.event_iteration.specs.Turns.{Rules, TakesTurn}
use Rattle.event_iteration.specs.Waits.{EndsBadly, Gathered, Gathers, GathersSome, IsPlain, IsReady, IsWay, KeepsOthers, Moves, ReadsOrSets, Sends, StandsAfterReads, call_in, emptied, passed_in, place, turned, waits_in}
use Rattle.event_iteration.proofs.Rounds.{number_at}
use Rattle.event_iteration.proofs.Steps.{asked, ends, failed, sent}
use Rattle.event_iteration.proofs.Taking.{instance_at, slots_many}
use Rattle.event_iteration.proofs.Turned.{turned_beside}
use Rattle.event_iteration.proofs.Walking.{more_order, split_order}

module _ {A : Type 0} (f : A → Instance) (system : System) (rules : Rules) (before : List (Option ℤ)) (order : List ℕ) (olds : List Instance) (k : ℕ) (w : Waiting) (values : List (Option ℤ)) (xs : List A) (g : Gathers system rules before order olds k w values (map f xs)) where
  -- as many calls as wait
  pub calls_long : length g.calls ≡ w.count
  calls_long =
      let a = length-map g.calls (λ (c : Call). Some c) in
      let b = ap length g.each in
      let c = length-map (waits_in w) (call_in system rules values) in
      let d = g.many in
      omega (arith, a, b, c, d)

  pub waits_within : All (λ (p : ℕ). p < length system.ports) (waits_in w)
  waits_within j d lt = let there = g.plain j d lt in slice_get_within system.ports (get_or (waits_in w) j d) there.port there.is

  -- their FMU is there
  pub slot_there : IsSound system → 0 < w.count → w.component.0 < length xs
  slot_there sound some = by (waits_in w) g.many g.plain
    where
      by : (queue : List ℕ) → length queue ≡ w.count → All (IsPlain system w.component) queue → w.component.0 < length xs
      by [] len plain = absurd (omega (arith, len, some))
      by (q ∷ queue) len plain =
          let first = All-head (IsPlain system w.component) q queue plain in
          let there = place_of system sound q first.port first.is in
          let lt : first.port.component.0 < length system.components = slice_get_within system.components first.port.component.0 there.component there.is.of in
          let n = slots_many f system xs g.alike in
          let same : first.port.component.0 ≡ w.component.0 = ap (λ x. x.0) first.of in
          omega (arith, lt, n, same)

  pub one_sort : 0 < w.count → AreOfOneSort g.calls
  one_sort some = record {
    some = (let n = calls_long in omega (arith, n, some));
    few = (let n = calls_long in let m = g.few in omega (arith, n, m));
    one = w.kind;
    reads_or_sets = g.kind;
    each = g.kinds;
  }

  -- one that waits alone is the first
  pub alone : w.count ≡ 1 → g.calls ≡ w.first ∷ []
  alone one = by g.calls (calls_long ∙ one) g.alone
    where
      by : (calls : List Call) → length calls ≡ 1 → ((call : Call) → calls ≡ call ∷ [] → w.first ≡ call) → calls ≡ w.first ∷ []
      by [] len is = absurd (omega (arith, len))
      by (c ∷ []) len is = ap (λ (x : Call). x ∷ []) (sym (is c refl))
      by (c ∷ d ∷ calls) len is = absurd (omega (arith, len))

  pub may_ask : (d : A) → w.component.0 < length xs → MayAskAll (f (get_or xs w.component.0 d)).view.fixed.shape (f (get_or xs w.component.0 d)).view.phase g.calls
  may_ask d lt = g.asked (f (get_or xs w.component.0 d)) (instance_at f xs w.component.0 d lt)

  module _ (d y : A) (lt : w.component.0 < length xs) (made : List Call) (made_is : made ≡ g.calls) where
    pub run_sent : (replies : List Reply) → length replies ≡ length made → AnswersAll made replies (f (get_or xs w.component.0 d)) (f y) → (taken next : List (Option ℤ)) → taken ≡ turned system rules (waits_in w) (map (λ (r : Reply). Some r) replies) values →
        next ≡ turned system rules (passed_in w) [] taken → Gathers system rules before order olds k (emptied w) next (map f (set xs w.component.0 y))
    run_sent replies len all taken next taken_is next_is =
        subst (λ (l : List Instance). Gathers system rules before order olds k (emptied w) next l) (sym (map-set f xs w.component.0 y))
        (subst (λ (V : List (Option ℤ)). Gathers system rules before order olds k (emptied w) V (set (map f xs) w.component.0 (f y)))
        (sym (next_is ∙ ap (turned system rules (passed_in w) []) taken_is))
        (sent system rules before order olds k w values (map f xs) g (f (get_or xs w.component.0 d)) (f y) (instance_at f xs w.component.0 d lt) replies (len ∙ ap length made_is)
        (subst (λ (cs : List Call). AnswersAll cs replies (f (get_or xs w.component.0 d)) (f y)) made_is all) (emptied w) refl refl (omega arith) g.kind))

    pub run_failed : (why : Why) → StopsAfter made why (f (get_or xs w.component.0 d)) (f y) → AreFitting system values × EndsBadly system rules before order olds (map f (set xs w.component.0 y)) (record { component = w.component; why = why })
    run_failed why stops = (
      g.fits,
      subst (λ (l : List Instance). EndsBadly system rules before order olds l (record { component = w.component; why = why })) (sym (map-set f xs w.component.0 y))
          (failed system rules before order olds k w values (map f xs) g (f (get_or xs w.component.0 d)) (f y) (instance_at f xs w.component.0 d lt) why
          (subst (λ (cs : List Call). StopsAfter cs why (f (get_or xs w.component.0 d)) (f y)) made_is stops) (record { component = w.component; why = why }) refl refl),
    )

-- ---- what keeps its value

-- where no value changes
pub keeps_all : (system : System) (order : List ℕ) (k n : ℕ) (w next : Waiting) (values : List (Option ℤ)) (is news : List Instance) → KeepsOthers system order (place k w values is) (place n next values news)
keeps_all system order k n w next values is news = record { clocks = λ q port m at role. refl; untaken = λ q m. refl }

-- where that of the port changes that is taken
pub keeps_but : (system : System) (order : List ℕ) → StandsAfterReads system order → (k p : ℕ) (at : slice_get order k ≡ Some p) (w next : Waiting) (values : List (Option ℤ)) (v : Option ℤ) (is news : List Instance) → KeepsOthers system order (place k w values is) (place (k + 1) next (slice_set values p v) news)
keeps_but system order ordered k p at w next values v is news = record {
  clocks = λ q port m q_is role. get_or-set_other values p q v None (λ e. ordered.once (take k order) (drop (k + 1) order) p (split_order order k p at) (subst (Contains (take k order)) e m));
  untaken = λ q m. get_or-set_other values p q v None (λ e. m (subst (Contains (take (k + 1) order)) (sym e) (subst (λ (l : List ℕ). Contains l p) (sym (more_order order k p at)) (Contains-push (take k order) p))));
}

-- where those change that wait, and those that were passed
pub keeps_sent : (system : System) (rules : Rules) (before : List (Option ℤ)) (order : List ℕ) (olds : List Instance) (k : ℕ) (w next : Waiting) (values : List (Option ℤ)) (is news : List Instance) → Gathers system rules before order olds k w values is → (os : List (Option Reply)) →
    KeepsOthers system order (place k w values is) (place k next (turned system rules (passed_in w) [] (turned system rules (waits_in w) os values)) news)
keeps_sent system rules before order olds k w next values is news g os = record {
  clocks = λ q port m q_is role. both q
      (λ waits. let there = All-contains (IsPlain system w.component) (waits_in w) q g.plain waits in true_false (sym role ∙ ap (λ (x : Port). is_clock_role x.role) (same_Some port there.port (sym q_is ∙ there.is)) ∙ there.role))
      (λ passed. let there = (g.passed q passed).1 in true_false (sym role ∙ ap (λ (x : Port). is_clock_role x.role) (same_Some port there.port (sym q_is ∙ there.is)) ∙ there.plain));
  untaken = λ q m. both q (λ waits. m (g.among q waits)) (λ passed. m (g.passed q passed).0);
}
  where
    both : (q : ℕ) → (Contains (waits_in w) q → ⊥) → (Contains (passed_in w) q → ⊥) → value (turned system rules (passed_in w) [] (turned system rules (waits_in w) os values)) q ≡ value values q
    both q waits passed = turned_beside system rules (passed_in w) [] (turned system rules (waits_in w) os values) q passed ∙ turned_beside system rules (waits_in w) os values q waits

-- ---- whatever was walked before

-- the port at a place of the order
pub port_there : {system : System} {rules : Rules} {k : ℕ} {w : Waiting} {values : List (Option ℤ)} {is : List Instance} (order : List PortId) → Gathered system rules (port_numbers order) k w values is → k < length order → (d : PortId) → (get_or order k d).0 < length system.ports
port_there {k = k} order so lt d = so.2.ordered.within (get_or order k d).0 (at_contains (port_numbers order) k (get_or order k d).0 (number_at order order k d refl lt))

-- the FMU of the calls that wait, and what it may be asked
module _ {A : Type 0} {system : System} {rules : Rules} {w : Waiting} {values : List (Option ℤ)} (f : A → Instance) (xs : List A) (so : GathersSome system rules w values (map f xs)) where
  pub slot_of : IsSound system → 0 < w.count → w.component.0 < length xs
  slot_of = slot_there f system rules so.before so.order so.olds so.k w values xs so.gathers

  pub waiting_within : All (λ (p : ℕ). p < length system.ports) (waits_in w)
  waiting_within = waits_within f system rules so.before so.order so.olds so.k w values xs so.gathers

  -- and those that were passed are ports
  pub inputs_within : All (λ (p : ℕ). p < length system.ports) (passed_in w)
  inputs_within j d lt = let there = (so.gathers.passed (get_or (passed_in w) j d) (at_contains (passed_in w) j (get_or (passed_in w) j d) (slice_get-get_or (passed_in w) j d lt))).1 in slice_get_within system.ports (get_or (passed_in w) j d) there.port there.is

-- what was made are the calls that wait
pub moves_sent : {A : Type 0} (f : A → Instance) (system : System) (rules : Rules) (w : Waiting) (values taken next : List (Option ℤ)) (xs : List A) (d y : A) → w.component.0 < length xs → (made : List Call) →
    ((before : List (Option ℤ)) (order : List ℕ) (olds : List Instance) (k : ℕ) (g : Gathers system rules before order olds k w values (map f xs)) → made ≡ g.calls) → (replies : List Reply) → length replies ≡ length made → AnswersAll made replies (f (get_or xs w.component.0 d)) (f y) →
    taken ≡ turned system rules (waits_in w) (map (λ (r : Reply). Some r) replies) values → next ≡ turned system rules (passed_in w) [] taken → Sends system rules w (emptied w) values next (map f xs) (map f (set xs w.component.0 y)) (Ok tt)
moves_sent f system rules w values taken next xs d y lt made made_is replies len all taken_is next_is order k before olds g = (
  run_sent f system rules before order olds k w values xs g d y lt made (made_is before order olds k g) replies len all taken next taken_is next_is,
  subst (λ (V : List (Option ℤ)). KeepsOthers system order (place k w values (map f xs)) (place k (emptied w) V (map f (set xs w.component.0 y)))) (sym (next_is ∙ ap (turned system rules (passed_in w) []) taken_is))
      (keeps_sent system rules before order olds k w (emptied w) values (map f xs) (map f (set xs w.component.0 y)) g (map (λ (r : Reply). Some r) replies)),
)

pub moves_failed : {A : Type 0} (f : A → Instance) (system : System) (rules : Rules) (w : Waiting) (values : List (Option ℤ)) (xs : List A) (d y : A) → w.component.0 < length xs → (made : List Call) →
    ((before : List (Option ℤ)) (order : List ℕ) (olds : List Instance) (k : ℕ) (g : Gathers system rules before order olds k w values (map f xs)) → made ≡ g.calls) → (why : Why) → StopsAfter made why (f (get_or xs w.component.0 d)) (f y) → (bad : BadAnswer) → bad ≡ record { component = w.component; why = why } →
    Sends system rules w (emptied w) values values (map f xs) (map f (set xs w.component.0 y)) (Err bad)
moves_failed f system rules w values xs d y lt made made_is why stops bad told_is =
    subst (λ (b : BadAnswer). Sends system rules w (emptied w) values values (map f xs) (map f (set xs w.component.0 y)) (Err b)) (sym told_is)
    (λ order k before olds g. run_failed f system rules before order olds k w values xs g d y lt made (made_is before order olds k g) why stops)

-- such a walk is somewhere
pub somewhere : {system : System} {rules : Rules} {order : List ℕ} {k : ℕ} {w : Waiting} {values : List (Option ℤ)} {is : List Instance} → Gathered system rules order k w values is → GathersSome system rules w values is
somewhere {order = order} {k = k} so = record { before = so.0; order = order; olds = so.1; k = k; gathers = so.2 }

-- a call that was sent at once
pub moves_asked : (system : System) (rules : Rules) (order : List ℕ) (k : ℕ) (w : Waiting) (values : List (Option ℤ)) (is : List Instance) (p : ℕ) → slice_get order k ≡ Some p → w.count ≡ 0 → (next : List (Option ℤ)) (news : List Instance) (r : Result (Unit {0}) BadAnswer) →
    TakesTurn system rules p values next is news r → Moves system rules order (record { k = k; waiting = w; values = values; instances = is }) (record { k = k + 1; waiting = w; values = next; instances = news }) r
moves_asked system rules order k w values is p at count next news (Ok x) turn = λ before olds g. (
  asked system rules before order olds k w values is g p at count next news turn,
  subst (λ (V : List (Option ℤ)). KeepsOthers system order (place k w values is) (place (k + 1) w V news)) (sym turn.says.1.next_is) (keeps_but system order g.ordered k p at w w values _ is news),
)
moves_asked system rules order k w values is p at count next news (Err bad) turn = λ before olds g. ends system rules before order olds k w values is g p at count next news bad turn

-- what waits was sent, and then it went on with the port
pub moves_on : (system : System) (rules : Rules) (order : List ℕ) (k p : ℕ) → slice_get order k ≡ Some p → (w x y : Waiting) (values mid next : List (Option ℤ)) (is mids news : List Instance) (r : Result (Unit {0}) BadAnswer) →
    Sends system rules w x values mid is mids (Ok tt) → Moves system rules order (place k x mid mids) (place (k + 1) y next news) r → Moves system rules order (place k w values is) (place (k + 1) y next news) r
moves_on system rules order k p at w x y values mid next is mids news (Ok u) first then = λ before olds g.
    let there = first order k before olds g in
    let here = then before olds there.0 in
    let a = there.1 in
    let b = here.1 in (
      here.0,
      record {
        clocks = λ q port m q_is role. b.clocks q port m q_is role ∙ a.clocks q port m q_is role;
        untaken = λ q m. b.untaken q m ∙ a.untaken q (λ taken. m (subst (λ (l : List ℕ). Contains l q) (sym (more_order order k p at)) (Contains-append_left (take k order) (p ∷ []) q taken)));
      },
    )
moves_on system rules order k p at w x y values mid next is mids news (Err bad) first then = λ before olds g. then before olds (first order k before olds g).0

-- ---- what comes next

-- where none waits nothing has to be sent first
pub is_ready : (system : System) (rules : Rules) (w : Waiting) (p : ℕ) (values : List (Option ℤ)) (way : Way) → IsWay system rules w p values way → w.count ≡ 0 → IsReady way
is_ready system rules w p values Send h none = absurd (omega (arith, h, none))
is_ready system rules w p values Skip h none = tt
is_ready system rules w p values (Wait call) h none = tt
is_ready system rules w p values Quiet h none = tt
is_ready system rules w p values (Ask call) h none = tt

pub other_ready : (way : Way) → (way ≡ Send → ⊥) → IsReady way
other_ready Send other = other refl
other_ready Skip other = tt
other_ready (Wait call) other = tt
other_ready Quiet other = tt
other_ready (Ask call) other = tt
