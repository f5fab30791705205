-- What a round gives once one more component has answered.
use Rattle.std.specs.Prelude.{Bool, ◌||◌, Result, Ok, Err}
use Rattle.sim_base.specs.declared.numbers.CompId.{CompId}
use Rattle.fmu_peer.specs.declared.ended.Why.{Why}
use Rattle.slot_calls.specs.declared.bad_answer.BadAnswer.{BadAnswer}

-- whether one of the answers asks for the end, or the first that isn't good
abbrev pub joined : Result Bool BadAnswer → CompId → Result Bool Why → Result Bool BadAnswer
joined (Ok some_ask) component (Ok asks) = Ok (some_ask || asks)
joined (Ok some_ask) component (Err why) = Err (record { component = component; why = why })
joined (Err bad) component answer = Err bad
