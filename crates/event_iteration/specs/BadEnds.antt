-- An answer that isn't good stands in a place that was lent, so that what is told in the good case is one word.
use Rattle.std.specs.Prelude.{Option, Some, None, Result, Ok, Err}
use Rattle.slot_calls.specs.declared.bad_answer.BadAnswer.{BadAnswer}

-- what is told by a value, or where there is none by the answer that isn't good
abbrev pub or_bad : {T : Type 0} → Option T → BadAnswer → Result T BadAnswer
or_bad (Some x) bad = Ok x
or_bad None bad = Err bad
