-- Calls of a walk that wait, and are sent together: those that read outputs of one FMU, or set inputs of it (FMI 3.0, 2.2.6.2: fmi3Get and fmi3Set take several variables at once).
use Rattle.std.specs.Prelude.{◌≡◌, ◌⊎◌, ◌==◌, ℕ, ◌<◌, ◌≤◌, ℤ, Bool, true, false, List, [], ◌∷◌, ◌++◌, All, Option, Some, None, IfSome, Result, Ok, Err, Contains, length, map, take, slice_set}
use Rattle.std.specs.List.{list_any, slice_get}
use Rattle.std.specs.Option.{option_and_then, option_map_or}
use Rattle.std.specs.Result.{result_ok}
use Rattle.value_types.specs.Values.{Fits}
use Rattle.sim_base.specs.declared.numbers.CompId.{CompId}
use Rattle.fmi_calls.specs.declared.call.Call.{Call}
use Rattle.fmi_calls.specs.declared.call.Kind.{Kind}
use Rattle.fmi_calls.specs.declared.call.Kind.TheVariants as K
use Rattle.fmi_calls.specs.declared.call.Reply.{Reply}
use Rattle.fmi_calls.specs.Kinds.{kind_of}
use Rattle.fmu_peer.specs.declared.peer.Exchange.{Exchange}
use Rattle.fmu_peer.specs.CloseAll.{Instance}
use Rattle.fmu_peer.specs.Many.{MayAskAll}
use Rattle.fmu_peer.specs.Talk.{IsGood, calls_in}
use Rattle.system_model.specs.declared.system.Component.{Component}
use Rattle.system_model.specs.declared.system.Port.{Port}
use Rattle.system_model.specs.declared.system.Role.{Role}
use Rattle.system_model.specs.declared.system.Role.TheVariants.{Input, Output, ClockInput, ClockOutput, TimeClock}
use Rattle.system_model.specs.declared.system.System.{System}
use Rattle.system_model.specs.Ports.{is_clock_role, is_output_role, port_numbers, source_of}
use Rattle.system_model.specs.Values.{value}
use Rattle.run_model.specs.Machines.{AreFitting}
use Rattle.slot_calls.specs.declared.bad_answer.BadAnswer.{BadAnswer}
use Rattle.slot_calls.specs.Log.{Sent, Told}
use Rattle.slot_calls.specs.Stage.{shapes, shapes_of}
use Rattle.event_iteration.specs.declared.walk.Waiting.{Waiting}
use Rattle.event_iteration.specs.declared.walk.Way.{Way}
use Rattle.event_iteration.specs.declared.walk.Way.TheVariants.{Send, Skip, Wait, Quiet, Ask}
use Rattle.event_iteration.specs.Explains.{call_at}
use Rattle.event_iteration.specs.Turns.{MayTurn, Rules, Stops, Walked}

-- ---- the ports that wait

abbrev pub waits_in : Waiting → List ℕ
waits_in waiting = take waiting.count waiting.ports

-- the inputs that were passed since: each is fed by one that waits
abbrev pub passed_in : Waiting → List ℕ
passed_in waiting = take waiting.passed waiting.inputs

-- nothing waits any more
abbrev pub emptied : Waiting → Waiting
emptied waiting = record waiting { count = 0; passed = 0 }

-- a call of this kind to this component may wait with those that do: none does, or there is room, and they are alike
abbrev pub IsOpen : Waiting → CompId → Kind → Type 0
IsOpen waiting component kind =
    (waiting.count ≡ 0) ⊎
    ((waiting.count < 64) × (waiting.component ≡ component) × (waiting.kind ≡ kind))

-- it reads a variable, or sets one
abbrev pub ReadsOrSets : Kind → Type 0
ReadsOrSets kind = (kind ≡ K.Get) ⊎ (kind ≡ K.Set)

-- whether one of these feeds a port of this role, an input
abbrev pub is_fed_by : List ℕ → Role → Bool
is_fed_by ports (Input None) = false
is_fed_by ports (Input (Some feed)) = list_any (λ (x : ℕ). x == feed.from.0) ports
is_fed_by ports Output = false
is_fed_by ports (ClockInput feed) = false
is_fed_by ports ClockOutput = false
is_fed_by ports (TimeClock timing) = false

abbrev pub is_fed : System → List ℕ → ℕ → Bool
is_fed system ports p =
    option_map_or (λ (port : Port). is_fed_by ports port.role) (slice_get system.ports p) false

-- ---- what a turn is about

-- the ports whose values a port's turn is about: its source, and its Clocks
pub data ReadsPort (system : System) (p q : ℕ) : Type 0 where
  OfSource : (port : Port) → slice_get system.ports p ≡ Some port →
      source_of port.role ≡ Some q → ReadsPort system p q
  OfClock : (port : Port) → slice_get system.ports p ≡ Some port →
      Contains (port_numbers port.clocks) q → ReadsPort system p q

-- each turn is about these alone; a Clock is neither read nor set as a variable is; and what a port takes is of its type
pub record AreTurns (system : System) (rules : Rules) : Type 0 where
  pub asks_same : (p : ℕ) (port : Port) (c : Component) (V W : List (Option ℤ)) →
      slice_get system.ports p ≡ Some port →
      ((q : ℕ) → ReadsPort system p q → value V q ≡ value W q) →
      rules.asks p port c V ≡ rules.asks p port c W
  pub takes_same : (p : ℕ) (port : Port) (V W : List (Option ℤ)) (last : Option ℤ)
      (reply : Option Reply) → slice_get system.ports p ≡ Some port →
      ((q : ℕ) → ReadsPort system p q → value V q ≡ value W q) →
      rules.takes p port V last reply ≡ rules.takes p port W last reply
  pub plain : (p : ℕ) (port : Port) (c : Component) (values : List (Option ℤ)) (call : Call) →
      is_clock_role port.role ≡ true → rules.asks p port c values ≡ Some call →
      ReadsOrSets (kind_of call) → ⊥
  pub fitting : (p : ℕ) (port : Port) (values : List (Option ℤ)) (last : Option ℤ)
      (reply : Option Reply) → slice_get system.ports p ≡ Some port → AreFitting system values →
      IfSome last (Fits port.kind) → IfSome (rules.takes p port values last reply) (Fits port.kind)

-- each port stands once in the order, and none before one that its turn is about
pub record StandsAfterReads (system : System) (order : List ℕ) : Type 0 where
  pub within : (p : ℕ) → Contains order p → p < length system.ports
  pub once : (taken rest : List ℕ) (p : ℕ) → order ≡ taken ++ p ∷ rest → Contains taken p → ⊥
  pub after : (taken rest : List ℕ) (p q : ℕ) → order ≡ taken ++ p ∷ rest →
      ReadsPort system p q → Contains rest q → ⊥

-- the port sends nothing, whatever its source's value is
abbrev pub IsSilent : System → Rules → ℕ → List (Option ℤ) → Type 0
IsSilent system rules p values =
    (port : Port) (c : Component) (others : List (Option ℤ)) →
    slice_get system.ports p ≡ Some port →
    slice_get system.components port.component.0 ≡ Some c →
    ((q : ℕ) → Contains (port_numbers port.clocks) q → value others q ≡ value values q) →
    rules.asks p port c others ≡ None

-- the port sends nothing and keeps its value, whatever values others have that are no Clocks of it
abbrev pub IsIdle : System → Rules → ℕ → List (Option ℤ) → Type 0
IsIdle system rules p values =
    (port : Port) (c : Component) (others : List (Option ℤ)) →
    slice_get system.ports p ≡ Some port →
    slice_get system.components port.component.0 ≡ Some c →
    ((q : ℕ) → Contains (port_numbers port.clocks) q → value others q ≡ value values q) →
    (rules.asks p port c others ≡ None) ×
    (rules.takes p port others (value values p) None ≡ value values p)

-- an instance whose machine isn't told
abbrev pub untold : Instance → Instance
untold x =
    record x { view = record x.view { fixed = record x.view.fixed { machine = None }; state = None } }

-- the call of each turn may be sent, when those before it in the order were answered well, by a machine or not
abbrev pub MayWalk : System → Rules → List (Option ℤ) → List ℕ → List Instance → Type 0
MayWalk system rules before order olds =
    (taken : List ℕ) (p : ℕ) (rest : List ℕ) (values : List (Option ℤ)) (log : List Sent)
    (mids : List Instance) → order ≡ taken ++ p ∷ rest →
    Walked system rules before taken values log → Told log (map untold olds) mids →
    MayTurn system rules p values mids

-- ---- values after several turns

-- the value that a port takes
abbrev pub value_after : System → Rules → List (Option ℤ) → ℕ → Option Reply → Option ℤ
value_after system rules values p reply =
    option_and_then (λ (port : Port). rules.takes p port values (value values p) reply)
    (slice_get system.ports p)

-- the values after the turns of these ports with these replies, one after the other; where the replies end there are none
abbrev pub turned : System → Rules → List ℕ → List (Option Reply) → List (Option ℤ) →
    List (Option ℤ)
turned system rules [] replies values = values
turned system rules (p ∷ ps) [] values =
    turned system rules ps [] (slice_set values p (value_after system rules values p None))
turned system rules (p ∷ ps) (reply ∷ replies) values =
    turned system rules ps replies (slice_set values p (value_after system rules values p reply))

-- the call of a port's turn, by its number
abbrev pub call_in : System → Rules → List (Option ℤ) → ℕ → Option Call
call_in system rules values p =
    option_and_then (λ (port : Port). call_at system rules values p port) (slice_get system.ports p)

-- ---- what comes next

-- so it goes on with this port
abbrev pub IsWay : System → Rules → Waiting → ℕ → List (Option ℤ) → Way → Type 0
IsWay system rules waiting p values Send = 0 < waiting.count
IsWay system rules waiting p values Skip =
    (is_fed system (waits_in waiting) p ≡ true) × IsSilent system rules p values ×
    (waiting.passed < 64)
IsWay system rules waiting p values (Wait call) =
    (is_fed system (waits_in waiting) p ≡ false) × ReadsOrSets (kind_of call) ×
    ((port : Port) (c : Component) → slice_get system.ports p ≡ Some port →
    slice_get system.components port.component.0 ≡ Some c →
    IsOpen waiting port.component (kind_of call) × (rules.asks p port c values ≡ Some call))
IsWay system rules waiting p values Quiet =
    (is_fed system (waits_in waiting) p ≡ false) ×
    ((port : Port) (c : Component) → slice_get system.ports p ≡ Some port →
    slice_get system.components port.component.0 ≡ Some c → rules.asks p port c values ≡ None)
IsWay system rules waiting p values (Ask call) =
    (waiting.count ≡ 0) × ((port : Port) (c : Component) → slice_get system.ports p ≡ Some port →
    slice_get system.components port.component.0 ≡ Some c →
    rules.asks p port c values ≡ Some call)

-- so it goes on with this call to this component
abbrev pub IsWayOfCall : Waiting → CompId → Call → Way → Type 0
IsWayOfCall waiting component call Send = 0 < waiting.count
IsWayOfCall waiting component call (Wait sent) =
    ReadsOrSets (kind_of call) × IsOpen waiting component (kind_of call) × (sent ≡ call)
IsWayOfCall waiting component call (Ask sent) = (waiting.count ≡ 0) × (sent ≡ call)
IsWayOfCall waiting component call way = ⊥

-- nothing has to be sent first
abbrev pub IsReady : Way → Type 0
IsReady Send = ⊥
IsReady way = Unit {0}

-- ---- where a walk is

-- exchanges with one component
abbrev pub sents : ℕ → List Exchange → List Sent
sents i es = map (λ (e : Exchange). record { component = i; exchange = e }) es

abbrev pub replies_in : List Exchange → List (Option Reply)
replies_in es = map (λ (e : Exchange). result_ok e.result) es

-- that component's answers are good
abbrev pub IsGoodAt : System → ℕ → Exchange → Type 0
IsGoodAt system i e =
    (c : Component) → slice_get system.components i ≡ Some c → IsGood c.shape e

abbrev pub AreGoodAt : System → ℕ → List Exchange → Type 0
AreGoodAt system i es = All (IsGoodAt system i) es

-- a port of this component that is no Clock
pub record IsPlain (system : System) (component : CompId) (p : ℕ) : Type 0 where
  pub port : Port
  pub is : slice_get system.ports p ≡ Some port
  pub of : port.component ≡ component
  pub role : is_clock_role port.role ≡ false

-- after this log the walk comes to a port of this component that has this call
pub record ComesTo (system : System) (rules : Rules) (before : List (Option ℤ)) (order : List ℕ)
    (i : ℕ) (call : Call) (log : List Sent) : Type 0 where
  pub taken : List ℕ
  pub p : ℕ
  pub rest : List ℕ
  pub values : List (Option ℤ)
  pub order_is : order ≡ taken ++ p ∷ rest
  pub walked : Walked system rules before taken values log
  pub port : Port
  pub is : slice_get system.ports p ≡ Some port
  pub component : Component
  pub of : slice_get system.components port.component.0 ≡ Some component
  pub at : port.component.0 ≡ i
  pub asks : rules.asks p port component values ≡ Some call

-- an input that is no Clock
pub record IsInput (system : System) (p : ℕ) : Type 0 where
  pub port : Port
  pub is : slice_get system.ports p ≡ Some port
  pub plain : is_clock_role port.role ≡ false
  pub output : is_output_role port.role ≡ false

-- the walk has come so far in the order, while some calls wait: by any good answers to these it was walked so far, or up to each of them by good answers to those before it
pub record Gathers (system : System) (rules : Rules) (before : List (Option ℤ)) (order : List ℕ)
    (olds : List Instance) (k : ℕ) (waiting : Waiting) (values : List (Option ℤ))
    (is : List Instance) : Type 0 where
  pub turns : AreTurns system rules
  pub ordered : StandsAfterReads system order
  pub may : MayWalk system rules before order olds
  pub alike : shapes is ≡ shapes_of system
  pub places : length values ≡ length system.ports
  pub fits : AreFitting system values
  pub log : List Sent
  pub told : Told log olds is
  pub within : k ≤ length order
  pub few : waiting.count ≤ 64
  pub passed_few : waiting.passed ≤ 64
  pub none_passed : waiting.count ≡ 0 → passed_in waiting ≡ []
  pub passed : (q : ℕ) → Contains (passed_in waiting) q →
      Contains (take k order) q × IsInput system q
  pub many : length (waits_in waiting) ≡ waiting.count
  pub kind : ReadsOrSets waiting.kind
  pub calls : List Call
  pub each : map (call_in system rules values) (waits_in waiting) ≡ map (λ (c : Call). Some c) calls
  pub alone : (call : Call) → calls ≡ call ∷ [] → waiting.first ≡ call
  pub kinds : All (λ (c : Call). kind_of c ≡ waiting.kind) calls
  pub plain : All (IsPlain system waiting.component) (waits_in waiting)
  pub among : (q : ℕ) → Contains (waits_in waiting) q → Contains (take k order) q
  pub asked : (x : Instance) → slice_get is waiting.component.0 ≡ Some x →
      MayAskAll x.view.fixed.shape x.view.phase calls
  pub walked : (es : List Exchange) → calls_in es ≡ calls →
      AreGoodAt system waiting.component.0 es →
      Walked system rules before (take k order) (turned system rules (passed_in waiting)
      [] (turned system rules (waits_in waiting) (replies_in es) values))
      (log ++ sents waiting.component.0 es)
  pub comes : (es : List Exchange) (call : Call) (left : List Call) →
      calls ≡ calls_in es ++ call ∷ left → AreGoodAt system waiting.component.0 es →
      ComesTo system rules before order waiting.component.0 call
      (log ++ sents waiting.component.0 es)

-- whatever came before
abbrev pub Gathered : System → Rules → List ℕ → ℕ → Waiting → List (Option ℤ) → List Instance →
    Type 0
Gathered system rules order k waiting values is =
    (before : List (Option ℤ)) × (olds : List Instance) ×
    Gathers system rules before order olds k waiting values is

-- somewhere in some order
pub record GathersSome (system : System) (rules : Rules) (waiting : Waiting)
    (values : List (Option ℤ)) (is : List Instance) : Type 0 where
  pub before : List (Option ℤ)
  pub order : List ℕ
  pub olds : List Instance
  pub k : ℕ
  pub gathers : Gathers system rules before order olds k waiting values is

-- the walk ended with an answer that isn't good
pub record EndsBadly (system : System) (rules : Rules) (before : List (Option ℤ)) (order : List ℕ)
    (olds news : List Instance) (bad : BadAnswer) : Type 0 where
  pub taken : List ℕ
  pub p : ℕ
  pub rest : List ℕ
  pub values : List (Option ℤ)
  pub order_is : order ≡ taken ++ p ∷ rest
  pub prefix : List Sent
  pub last : Sent
  pub walked : Walked system rules before taken values prefix
  pub told : Told (prefix ++ last ∷ []) olds news
  pub stops : Stops system rules p bad values last

-- where a walk was and is, in one step of it
pub record Place : Type 0 where
  pub k : ℕ
  pub waiting : Waiting
  pub values : List (Option ℤ)
  pub instances : List Instance

abbrev pub place : ℕ → Waiting → List (Option ℤ) → List Instance → Place
place k waiting values is =
    record { k = k; waiting = waiting; values = values; instances = is }

abbrev pub GathersAt : System → Rules → List (Option ℤ) → List ℕ → List Instance → Place → Type 0
GathersAt system rules before order olds at =
    Gathers system rules before order olds at.k at.waiting at.values at.instances

-- a Clock that was taken keeps its value, and so does a port that isn't taken yet
pub record KeepsOthers (system : System) (order : List ℕ) (from to : Place) : Type 0 where
  pub clocks : (q : ℕ) (port : Port) → Contains (take from.k order) q →
      slice_get system.ports q ≡ Some port → is_clock_role port.role ≡ true →
      value to.values q ≡ value from.values q
  pub untaken : (q : ℕ) → (Contains (take to.k order) q → ⊥) →
      value to.values q ≡ value from.values q

-- from one place it comes to the other, or ends with a bad answer
abbrev pub Moves : System → Rules → List ℕ → Place → Place → Result (Unit {0}) BadAnswer → Type 0
Moves system rules order from to (Ok x) =
    (before : List (Option ℤ)) (olds : List Instance) →
    GathersAt system rules before order olds from →
    GathersAt system rules before order olds to × KeepsOthers system order from to
Moves system rules order from to (Err bad) =
    (before : List (Option ℤ)) (olds : List Instance) →
    GathersAt system rules before order olds from → AreFitting system to.values ×
    EndsBadly system rules before order olds to.instances bad

-- what waits is sent, wherever the walk is
abbrev pub Sends : System → Rules → Waiting → Waiting → (values next : List (Option ℤ)) →
    (olds news : List Instance) → Result (Unit {0}) BadAnswer → Type 0
Sends system rules waiting left values next olds news result =
    (order : List ℕ) (k : ℕ) →
    Moves system rules order (place k waiting values olds) (place k left next news) result

-- a walk through the order, up to the first answer that isn't good
abbrev pub WalkOutcome : System → Rules → List (Option ℤ) → List ℕ → List (Option ℤ) →
    List Instance →
    List Instance → Result (Unit {0}) BadAnswer → Type 0
WalkOutcome system rules before order values olds news (Ok x) =
    (log : List Sent) × Told log olds news × Walked system rules before order values log
WalkOutcome system rules before order values olds news (Err bad) =
    EndsBadly system rules before order olds news bad
