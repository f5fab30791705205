-- What the log of a walk tells, for any replies: the values are the answers, each input has what its path makes of its source's value, and nothing is read or set twice.
use Rattle.std.specs.Prelude.{◌≡◌, ℕ, ℤ, List, [], ◌∷◌, ◌++◌, Option, Some, Result, Ok, Err, Contains}
use Rattle.std.specs.List.{slice_get}
use Rattle.std.specs.Option.{option_and_then, option_map_or}
use Rattle.fmi_calls.specs.declared.call.Call.{Call}
use Rattle.fmi_calls.specs.declared.call.Reply.{Reply}
use Rattle.fmu_peer.specs.CloseAll.{Instance}
use Rattle.system_model.specs.declared.system.Component.{Component}
use Rattle.system_model.specs.declared.system.Port.{Port}
use Rattle.system_model.specs.declared.system.System.{System}
use Rattle.system_model.specs.Values.{value}
use Rattle.slot_calls.specs.declared.bad_answer.BadAnswer.{BadAnswer}
use Rattle.slot_calls.specs.Log.{Sent, Told}
use Rattle.event_iteration.specs.Turns.{IsPaired, Rules, Stops, sent_of}

-- the call of a port's turn, where the values are these
abbrev pub call_at : System → Rules → List (Option ℤ) → ℕ → Port → Option Call
call_at system rules values p port =
    option_and_then (λ (c : Component). rules.asks p port c values)
    (slice_get system.components port.component.0)

-- what is sent for a port
abbrev pub said : System → Rules → List (Option ℤ) → (ℕ → Option Reply) → ℕ → List Sent
said system rules values replies p =
    option_map_or (λ (port : Port).
    sent_of port.component.0 (call_at system rules values p port) (replies p))
    (slice_get system.ports p) []

-- and for several, in their order
abbrev pub all_said : System → Rules → List (Option ℤ) → (ℕ → Option Reply) → List ℕ → List Sent
all_said system rules values replies [] = []
all_said system rules values replies (p ∷ ps) =
    said system rules values replies p ++ all_said system rules values replies ps

-- the log tells the values of these ports: each of their calls, by these very values, was sent once in their order and was answered well; each port has its value by that reply; and each other keeps its value
pub record Explains (system : System) (rules : Rules) (before : List (Option ℤ)) (taken : List ℕ)
    (values : List (Option ℤ)) (log : List Sent) : Type 0 where
  pub replies : ℕ → Option Reply
  pub log_is : log ≡ all_said system rules values replies taken
  pub paired : (p : ℕ) (port : Port) (c : Component) → slice_get system.ports p ≡ Some port →
      slice_get system.components port.component.0 ≡ Some c → Contains taken p →
      IsPaired c.shape (rules.asks p port c values) (replies p)
  pub taken_values : (p : ℕ) (port : Port) → slice_get system.ports p ≡ Some port →
      Contains taken p → value values p ≡ rules.takes p port values (value before p) (replies p)
  pub left : (p : ℕ) → (Contains taken p → ⊥) → value values p ≡ value before p

-- the log tells the first ports of the order, and ends with the call of the one after them, whose answer isn't good
pub record ExplainsUntil (system : System) (rules : Rules) (before : List (Option ℤ))
    (order : List ℕ) (bad : BadAnswer) (values : List (Option ℤ)) (log : List Sent) : Type 0 where
  pub taken : List ℕ
  pub p : ℕ
  pub rest : List ℕ
  pub order_is : order ≡ taken ++ p ∷ rest
  pub prefix : List Sent
  pub last : Sent
  pub log_is : log ≡ prefix ++ last ∷ []
  pub told : Explains system rules before taken values prefix
  pub stops : Stops system rules p bad values last

-- a walk through the order, up to the first answer that isn't good. What the values are after that doesn't matter: the log tells those up to it
abbrev pub WalkSays : System → Rules → List (Option ℤ) → List ℕ → List (Option ℤ) → List Sent →
    Result (Unit {0}) BadAnswer → Type 0
WalkSays system rules before order values log (Ok x) = Explains system rules before order values log
WalkSays system rules before order values log (Err bad) =
    (told : List (Option ℤ)) × ExplainsUntil system rules before order bad told log

pub record Walks (system : System) (rules : Rules) (before : List (Option ℤ)) (order : List ℕ)
    (values : List (Option ℤ)) (olds news : List Instance)
    (result : Result (Unit {0}) BadAnswer) : Type 0 where
  pub log : List Sent
  pub told : Told log olds news
  pub says : WalkSays system rules before order values log result
