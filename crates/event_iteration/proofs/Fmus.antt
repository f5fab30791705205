-- The FMUs of a run as machines: one call of an FMU and the state after it, and what a log of told machines leaves.
use Rattle.std.proofs.Common.{◌≡◌, ℕ, zero, suc, ◌<◌, ◌+◌, ℤ, Bool, true, false, List, [], ◌∷◌, ◌++◌, Option, Some, None, Result, Ok, Err, refl, sym, ap, ap₂, ◌∙◌, subst, append-nil, arith, length, get_or}
use Rattle.std.specs.Prelude.{All, MatchResult, if◌then◌else◌, option_and_then, option_map, slice_get, ◌==◌}
use Rattle.std.proofs.lemmas.List.Elements.{All-head, All-tail, All-cons, All-nil}
use Rattle.std.proofs.lemmas.Option.{get_or_from_slice_get, same_Some, slice_get_within}
use Rattle.std.proofs.lemmas.Bool.{eqb-true}
use Rattle.value_types.specs.declared.shape.Shape.{Shape}
use Rattle.fmi_calls.specs.declared.call.Call.{Call}
use Rattle.fmi_calls.specs.declared.call.Call.TheVariants as C
use Rattle.fmi_calls.specs.declared.call.Grade.TheVariants as G
use Rattle.fmi_calls.specs.declared.call.Reply.{Reply}
use Rattle.fmi_calls.specs.Worth.{grade_of}
use Rattle.fmu_peer.specs.declared.peer.Exchange.{Exchange}
use Rattle.fmu_peer.specs.declared.peer.PeerFault.{PeerFault}
use Rattle.fmu_peer.specs.CloseAll.{Instance}
use Rattle.fmu_peer.specs.Machine.{Machine, MachineState, after}
use Rattle.fmu_peer.specs.Talk as T
use Rattle.fmu_peer.specs.View.{AnswersAs, Asked, Fixed, View}
use Rattle.system_model.specs.declared.system.Component.{Component}
use Rattle.system_model.specs.declared.system.Port.{Port}
use Rattle.system_model.specs.declared.system.System.{System}
use Rattle.run_model.specs.Run.{IsFmu, Run, at_fmu, each, each_from}
use Rattle.run_model.specs.Walk.{write_if}
use Rattle.slot_calls.specs.Log.{Sent, Talks, Told, part}
use Rattle.slot_calls.specs.Replies.{AreReplies, state_by}
use Rattle.slot_calls.specs.Stage.{IsGoodOf, shapes_of}
use Rattle.slot_calls.proofs.CallerLemmas.{part_append, part_other, part_own, state_by_append, talks_fixed, replies_of}
use Rattle.event_iteration.specs.Machines.{AreAt}
use Rattle.event_iteration.specs.Turns.{IsPaired, Rules, Turn, sent_of}
use Rattle.event_iteration.proofs.Walking.{by_number}

-- ---- lists over the FMUs

pub got : {X : Type 0} (xs : List X) (i : ℕ) → i < length xs → (x : X) × (slice_get xs i ≡ Some x)
got [] i w = absurd (omega (arith, w))
got (x ∷ xs) zero w = (x, refl)
got (x ∷ xs) (suc i) w = got xs i (omega (arith, w))

pub each_at : {X : Type 0} (f : ℕ → Component → Machine → MachineState → X) (k i : ℕ) (cs : List Component) (ms : List Machine) (ss : List MachineState) (c : Component) (m : Machine) (s : MachineState) →
    slice_get cs i ≡ Some c → slice_get ms i ≡ Some m → slice_get ss i ≡ Some s → slice_get (each_from f k cs ms ss) i ≡ Some (f (k + i) c m s)
each_at f k zero (x ∷ cs) (y ∷ ms) (z ∷ ss) c m s of_c of_m of_s =
    let place : k ≡ k + 0 = omega arith in
    ap Some (ap (λ n. f n x y z) place ∙ ap (λ (w : Component). f (k + 0) w y z) (same_Some _ _ of_c) ∙ ap (λ (w : Machine). f (k + 0) c w z) (same_Some _ _ of_m) ∙ ap (f (k + 0) c m) (same_Some _ _ of_s))
each_at f k (suc i) (x ∷ cs) (y ∷ ms) (z ∷ ss) c m s of_c of_m of_s =
    let place : suc k + i ≡ k + suc i = omega arith in
    each_at f (suc k) i cs ms ss c m s of_c of_m of_s ∙ ap (λ n. Some (f n c m s)) place
each_at f k i cs ms ss c m s of_c of_m of_s = absurd (cc)

pub fmu_on : (r : Run) (states : List MachineState) (f : ℕ → Component → Machine → MachineState → MachineState) (i : ℕ) (c : Component) (m : Machine) (s : MachineState) → IsFmu r states i c m s → IsFmu r (each r states f) i c m (f i c m s)
fmu_on r states f i c m s fmu =
    let place : 0 + i ≡ i = omega arith in
    record {
      component = fmu.component;
      machine = fmu.machine;
      state = each_at f 0 i r.system.components r.machines states c m s fmu.component fmu.machine fmu.state ∙ ap (λ n. Some (f n c m s)) place;
    }

pub at_fmu-is : {X : Type 0} (r : Run) (states : List MachineState) (i : ℕ) (c : Component) (m : Machine) (s : MachineState) (f : Component → Machine → MachineState → Option X) → IsFmu r states i c m s → at_fmu r states i f ≡ f c m s
at_fmu-is r states i c m s f fmu =
    ap (λ o. option_and_then (λ x. option_and_then (λ y. option_and_then (λ z. f x y z) (slice_get states i)) (slice_get r.machines i)) o) fmu.component
    ∙ ap (λ o. option_and_then (λ y. option_and_then (λ z. f c y z) (slice_get states i)) o) fmu.machine
    ∙ ap (λ o. option_and_then (λ z. f c m z) o) fmu.state

-- what is given for each FMU is the same where it is for each
pub each_same : {X : Type 0} (r : Run) (states : List MachineState) (f g : ℕ → Component → Machine → MachineState → X) → ((i : ℕ) (c : Component) (m : Machine) (s : MachineState) → IsFmu r states i c m s → f i c m s ≡ g i c m s) →
    each r states f ≡ each r states g
each_same {X} r states f g h = from 0 r.system.components r.machines states (λ i c m s of_c of_m of_s.
    let place : i ≡ 0 + i = omega arith in
    subst (λ n. f n c m s ≡ g n c m s) place (h i c m s (record { component = of_c; machine = of_m; state = of_s })))
  where
    from : (k : ℕ) (cs : List Component) (ms : List Machine) (ss : List MachineState) →
        ((i : ℕ) (c : Component) (m : Machine) (s : MachineState) → slice_get cs i ≡ Some c → slice_get ms i ≡ Some m → slice_get ss i ≡ Some s → f (k + i) c m s ≡ g (k + i) c m s) → each_from f k cs ms ss ≡ each_from g k cs ms ss
    from k (c ∷ cs) (m ∷ ms) (s ∷ ss) same =
        let here : f k c m s ≡ g k c m s = (let place : k + 0 ≡ k = omega arith in subst (λ n. f n c m s ≡ g n c m s) place (same 0 c m s refl refl refl)) in
        ap (λ x. x ∷ each_from f (suc k) cs ms ss) here
        ∙ ap (λ xs. g k c m s ∷ xs) (from (suc k) cs ms ss (λ i d n z of_d of_n of_z.
        let place : k + suc i ≡ suc k + i = omega arith in
        subst (λ j. f j d n z ≡ g j d n z) place (same (suc i) d n z of_d of_n of_z)))
    from k cs ms ss same = refl

-- something for each component
pub each_many : {X : Type 0} (r : Run) (states : List MachineState) (f : ℕ → Component → Machine → MachineState → X) → length r.machines ≡ length r.system.components → length states ≡ length r.system.components →
    length (each r states f) ≡ length r.system.components
each_many {X} r states f few many = from 0 r.system.components r.machines states few many
  where
    from : (k : ℕ) (cs : List Component) (ms : List Machine) (ss : List MachineState) → length ms ≡ length cs → length ss ≡ length cs → length (each_from f k cs ms ss) ≡ length cs
    from k [] ms ss a b = refl
    from k (c ∷ cs) [] ss a b = absurd (omega (arith, a))
    from k (c ∷ cs) (m ∷ ms) [] a b = absurd (omega (arith, b))
    from k (c ∷ cs) (m ∷ ms) (s ∷ ss) a b = ap suc (from (suc k) cs ms ss (omega (arith, a)) (omega (arith, b)))

-- ---- an FMU's part of a log

pub part_all : (P : Exchange → Type 0) (i : ℕ) (log : List Sent) → All (λ (s : Sent). s.component ≡ i → P s.exchange) log → All P (part i log)
part_all P i [] all = All-nil P
part_all P i (s ∷ log) all =
    by (s.component == i) refl (All-head (λ (s : Sent). s.component ≡ i → P s.exchange) s log all) (part_all P i log (All-tail (λ (s : Sent). s.component ≡ i → P s.exchange) s log all))
  where
    by : (b : Bool) → (s.component == i) ≡ b → (s.component ≡ i → P s.exchange) → All P (part i log) → All P (if b then s.exchange ∷ part i log else part i log)
    by true same head rest = All-cons P s.exchange (part i log) (head (eqb-true s.component i same)) rest
    by false other head rest = rest

-- good answers
pub good_in_part : (shapes : List Shape) (log : List Sent) → All (IsGoodOf shapes) log → (i : ℕ) (d : Shape) → T.AllGood (get_or shapes i d) (part i log)
good_in_part shapes log all i d = part_all (T.IsGood (get_or shapes i d)) i log (λ k x w here. subst (λ n. T.IsGood (get_or shapes n d) (get_or log k x).exchange) here (all k x w d))

-- ---- one call and the state after it

abbrev pub exchanges_of : Option Call → Option Reply → List Exchange
exchanges_of None reply = []
exchanges_of (Some call) None = []
exchanges_of (Some call) (Some reply) = record { call = call; result = Ok reply } ∷ []

pub part_own_of : (i : ℕ) (call : Option Call) (reply : Option Reply) → part i (sent_of i call reply) ≡ exchanges_of call reply
part_own_of i None reply = refl
part_own_of i (Some call) None = refl
part_own_of i (Some call) (Some reply) = part_own i (record { call = call; result = Ok reply })

pub part_other_of : (i k : ℕ) (call : Option Call) (reply : Option Reply) → (i ≡ k → ⊥) → part i (sent_of k call reply) ≡ []
part_other_of i k None reply other = refl
part_other_of i k (Some call) None other = refl
part_other_of i k (Some call) (Some reply) other = part_other i k (record { call = call; result = Ok reply }) (λ e. other (sym e))

abbrev pub after_if : Machine → MachineState → Option Call → MachineState
after_if m s None = s
after_if m s (Some call) = after m s call

pub state_by_one : (shape : Shape) (m : Machine) (s : MachineState) (call : Option Call) (reply : Option Reply) → IsPaired shape call reply → state_by m s (exchanges_of call reply) ≡ after_if m s call
state_by_one shape m s None reply paired = refl
state_by_one shape m s (Some call) None paired = absurd paired
state_by_one shape m s (Some call) (Some reply) paired = refl

-- a Set writes its value, and a Get nothing
pub set_writes : (m : Machine) (z : MachineState) (port : Port) (o : Option ℤ) → after_if m z (option_map (λ x. C.Set port.kind port.reference x) o) ≡ write_if m port.reference z o
set_writes m z port None = refl
set_writes m z port (Some x) = refl

pub get_stays : (m : Machine) (z : MachineState) (port : Port) (b : Bool) → after_if m z (if b then Some (C.Get port.kind port.reference) else None) ≡ z
get_stays m z port true = refl
get_stays m z port false = refl

pub none_reply : (shape : Shape) (reply : Option Reply) → IsPaired shape None reply → reply ≡ None
none_reply shape None paired = refl
none_reply shape (Some reply) paired = absurd paired

-- ---- one turn and the states after it

module _ {system : System} {rules : Rules} {p : ℕ} {reply : Option Reply} {values next : List (Option ℤ)} {sent : List Sent} (turn : Turn system rules p reply values next sent) (prefix : List Sent) where
  abbrev asked : Option Call
  asked = rules.asks p turn.port turn.component values

  abbrev own : ℕ
  own = turn.port.component.0

  pub part_more : part own (prefix ++ sent) ≡ part own prefix ++ exchanges_of asked reply
  part_more = part_append own prefix sent ∙ ap (λ es. part own prefix ++ es) (ap (part own) turn.sent_is ∙ part_own_of own asked reply)

  -- where the call leads its FMU from this state to that, and each other FMU has the same, they are so after the turn
  pub state_more : (m : Machine) (z : MachineState) (old new : ℕ → Component → MachineState) → after_if m (old own turn.component) asked ≡ new own turn.component → ((i : ℕ) (c : Component) → (i ≡ own → ⊥) → old i c ≡ new i c) →
      (i : ℕ) (c : Component) → slice_get system.components i ≡ Some c → state_by m z (part i prefix) ≡ old i c → state_by m z (part i (prefix ++ sent)) ≡ new i c
  state_more m z old new here beside i c of was = by_number i own
      (λ same.
      let its : turn.component ≡ c = same_Some _ _ (sym turn.of ∙ ap (slice_get system.components) (sym same) ∙ of) in
      let so_far : state_by m z (part own prefix) ≡ old own turn.component = ap (λ k. state_by m z (part k prefix)) (sym same) ∙ was ∙ ap₂ old same (sym its) in
      ap (λ k. state_by m z (part k (prefix ++ sent))) same ∙ ap (state_by m z) part_more ∙ state_by_append m z (part own prefix) (exchanges_of asked reply)
      ∙ ap (λ y. state_by m y (exchanges_of asked reply)) so_far ∙ state_by_one turn.component.shape m (old own turn.component) asked reply turn.paired ∙ here ∙ ap₂ new (sym same) its)
      (λ other. ap (state_by m z) (part_append i prefix sent ∙ ap (λ es. part i prefix ++ es) (ap (part i) turn.sent_is ∙ part_other_of i own asked reply other) ∙ append-nil (part i prefix)) ∙ was ∙ beside i c other)

-- ---- told machines

-- after good answers a told machine is in the state after them
pub told_state : (shape : Shape) (m : Machine) (v w : View) (es : List Exchange) → Talks v es w → T.AllGood shape es → (s : MachineState) → v.fixed.machine ≡ Some m → v.state ≡ Some s → w.state ≡ Some (state_by m s es)
told_state shape m v w [] t good s machine state = ap (λ (x : View). x.state) t ∙ state
told_state shape m v w (e ∷ es) (mid, may, asked, rest) good s machine state =
    told_state shape m mid w es rest (All-tail (T.IsGood shape) e es good) (after m s e.call) (ap (λ (f : Fixed). f.machine) asked.fixed ∙ machine)
    (next e.result asked (All-head (T.IsGood shape) e es good))
  where
    next : (x : Result Reply PeerFault) → Asked v e.call x mid → MatchResult x (λ reply. grade_of shape e.call reply ≡ G.Good) (λ fault. ⊥) → mid.state ≡ Some (after m s e.call)
    next (Ok reply) asked g =
        let here : AnswersAs (Some m) (Some s) e.call (Ok reply) mid.state =
        subst (λ (o : Option MachineState). AnswersAs (Some m) o e.call (Ok reply) mid.state) state (subst (λ (o : Option Machine). AnswersAs o v.state e.call (Ok reply) mid.state) machine asked.state) in
        here.1
    next (Err fault) asked g = absurd g

-- what became of an FMU after a log
pub record After (news : List Instance) (i : ℕ) (m : Machine) (s : MachineState) : Type 0 where
  pub instance : Instance
  pub is : slice_get news i ≡ Some instance
  pub machine : instance.view.fixed.machine ≡ Some m
  pub state : instance.view.state ≡ Some s

module _ (r : Run) (states : List MachineState) (olds news : List Instance) (at : AreAt r states olds) (log : List Sent) (told : Told log olds news) where
  has_at : (i : ℕ) (x : Instance) → slice_get olds i ≡ Some x → (y : Instance) × (slice_get news i ≡ Some y) × Talks x.view (part i log) y.view
  has_at i x here =
      let within = slice_get_within olds i x here in
      let y = got news i (let e = told.len in omega (arith, e, within)) in (
        y.0,
        y.1,
        subst (λ (a : Instance). Talks a.view (part i log) y.0.view) (get_or_from_slice_get olds i x x here)
            (subst (λ (b : Instance). Talks (get_or olds i x).view (part i log) b.view) (get_or_from_slice_get news i y.0 x y.1) (told.each i x within).talks),
      )

  -- the replies are the machines'
  pub are_replies : AreReplies r states log
  are_replies i c m s fmu =
      let x = at i c m s fmu in
      let y = has_at i x.0 x.1 in
      replies_of m x.0.view (part i log) y.0.view y.2 s x.2 x.3

  -- after good ones each tells its machine in the state after them
  pub told_at : All (IsGoodOf (shapes_of r.system)) log → (i : ℕ) (c : Component) (m : Machine) (s : MachineState) → IsFmu r states i c m s → After news i m (state_by m s (part i log))
  told_at good i c m s fmu =
      let x = at i c m s fmu in
      let y = has_at i x.0 x.1 in
      record {
        instance = y.0;
        is = y.1;
        machine = ap (λ (f : Fixed). f.machine) (talks_fixed x.0.view (part i log) y.0.view y.2) ∙ x.2;
        state = told_state (get_or (shapes_of r.system) i c.shape) m x.0.view y.0.view (part i log) y.2 (good_in_part (shapes_of r.system) log good i c.shape) s x.2 x.3;
      }
