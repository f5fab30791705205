-- A walk through the ports of a system in an order, and the turn of each: the call that it sends, and the value that the port takes (FMI 3.0, 4.2.1: Initialization Mode, Event Mode; SSP 1.0: connections).
use Rattle.std.specs.Prelude.{◌≡◌, ℕ, ℤ, List, [], ◌∷◌, ◌++◌, Option, Some, None, Result, Ok, Err, IsTrue, slice_set}
use Rattle.std.specs.List.{slice_get}
use Rattle.value_types.specs.declared.shape.Shape.{Shape}
use Rattle.fmi_calls.specs.declared.call.Call.{Call}
use Rattle.fmi_calls.specs.declared.call.Grade.TheVariants as G
use Rattle.fmi_calls.specs.declared.call.Reply.{Reply}
use Rattle.fmi_calls.specs.Worth.{grade_of}
use Rattle.fmu_peer.specs.declared.ended.Why.{Why}
use Rattle.fmu_peer.specs.Answer.{IsWhy}
use Rattle.fmi_calls.specs.Permission.{Permitted}
use Rattle.fmu_peer.specs.CloseAll.{Instance}
use Rattle.fmu_peer.specs.View.{View}
use Rattle.system_model.specs.declared.system.Component.{Component}
use Rattle.system_model.specs.declared.system.Port.{Port}
use Rattle.system_model.specs.declared.system.System.{System}
use Rattle.system_model.specs.Values.{value}
use Rattle.slot_calls.specs.declared.bad_answer.BadAnswer.{BadAnswer}
use Rattle.slot_calls.specs.Carried.{reply_in}
use Rattle.slot_calls.specs.Slots.{reads_or_sets}
use Rattle.slot_calls.specs.Log.{One, Sent, Told}

-- what the turn of each port is, by its number: the call that it sends once the values are these, and the value that it takes, by these, its last one and the reply to its call
pub record Rules : Type 0 where
  pub asks : ℕ → Port → Component → List (Option ℤ) → Option Call
  pub takes : ℕ → Port → List (Option ℤ) → Option ℤ → Option Reply → Option ℤ

-- ---- one turn

-- there is a reply exactly where there is a call, and it is good
abbrev pub IsPaired : Shape → Option Call → Option Reply → Type 0
IsPaired shape None None = Unit {0}
IsPaired shape None (Some reply) = ⊥
IsPaired shape (Some call) None = ⊥
IsPaired shape (Some call) (Some reply) = grade_of shape call reply ≡ G.Good

-- the call of a component with its reply, where there is one
abbrev pub sent_of : ℕ → Option Call → Option Reply → List Sent
sent_of i None reply = []
sent_of i (Some call) None = []
sent_of i (Some call) (Some reply) =
    record { component = i; exchange = record { call = call; result = Ok reply } } ∷ []

-- a port's turn: its call was answered well, and it has its value
pub record Turn (system : System) (rules : Rules) (p : ℕ) (reply : Option Reply)
    (values next : List (Option ℤ)) (sent : List Sent) : Type 0 where
  pub port : Port
  pub is : slice_get system.ports p ≡ Some port
  pub component : Component
  pub of : slice_get system.components port.component.0 ≡ Some component
  pub paired : IsPaired component.shape (rules.asks p port component values) reply
  pub sent_is : sent ≡ sent_of port.component.0 (rules.asks p port component values) reply
  pub next_is : next ≡ slice_set values p (rules.takes p port values (value values p) reply)

-- a port's turn whose call got an answer that isn't good
pub record Stops (system : System) (rules : Rules) (p : ℕ) (bad : BadAnswer)
    (values : List (Option ℤ)) (last : Sent) : Type 0 where
  pub port : Port
  pub is : slice_get system.ports p ≡ Some port
  pub component : Component
  pub of : slice_get system.components port.component.0 ≡ Some component
  pub asks : rules.asks p port component values ≡ Some last.exchange.call
  pub sent_to : last.component ≡ port.component.0
  pub told_of : bad.component.0 ≡ port.component.0
  pub why : IsWhy component.shape bad.why last.exchange

-- a port's turn with its log, and the values after it
abbrev pub TurnSays : System → Rules → ℕ → List (Option ℤ) → List (Option ℤ) → List Sent →
    Result (Unit {0}) BadAnswer → Type 0
TurnSays system rules p values next log (Ok x) =
    (reply : Option Reply) × Turn system rules p reply values next log
TurnSays system rules p values next log (Err bad) =
    (last : Sent) × (log ≡ last ∷ []) × (next ≡ values) × Stops system rules p bad values last

pub record TakesTurn (system : System) (rules : Rules) (p : ℕ) (values next : List (Option ℤ))
    (olds news : List Instance) (result : Result (Unit {0}) BadAnswer) : Type 0 where
  pub log : List Sent
  pub told : Told log olds news
  pub says : TurnSays system rules p values next log result

-- the call, if there is one, reads or sets a variable or a Clock, and is permitted
abbrev pub MayAsk : Option Call → View → Type 0
MayAsk None v = Unit {0}
MayAsk (Some call) v = Permitted v.fixed.shape v.phase call × IsTrue (reads_or_sets call)

-- the call of a port's turn may be sent
abbrev pub MayTurn : System → Rules → ℕ → List (Option ℤ) → List Instance → Type 0
MayTurn system rules p values is =
    (port : Port) (c : Component) (x : Instance) → slice_get system.ports p ≡ Some port →
    slice_get system.components port.component.0 ≡ Some c → slice_get is port.component.0 ≡ Some x →
    MayAsk (rules.asks p port c values) x.view

-- an instance was asked this call alone, if there is one
abbrev pub AsksIf : Option Call → Instance → Instance → Result (Option Reply) Why → Type 0
AsksIf None old new (Ok reply) = (reply ≡ None) × (new ≡ old)
AsksIf None old new (Err why) = ⊥
AsksIf (Some call) old new result = One call reply_in old new result

-- ---- the walk

-- the ports were taken, one after the other, and these are the values and the log after the last
pub data Walked (system : System) (rules : Rules) (before : List (Option ℤ)) : List ℕ →
    List (Option ℤ) → List Sent → Type 0 where
  Begun : (taken : List ℕ) (values : List (Option ℤ)) (log : List Sent) → taken ≡ [] →
      values ≡ before → log ≡ [] → Walked system rules before taken values log
  Went : (taken pre : List ℕ) (p : ℕ) (reply : Option Reply) (values next : List (Option ℤ))
      (log prefix sent : List Sent) → taken ≡ pre ++ p ∷ [] → log ≡ prefix ++ sent →
      Walked system rules before pre values prefix → Turn system rules p reply values next sent →
      Walked system rules before taken next log
