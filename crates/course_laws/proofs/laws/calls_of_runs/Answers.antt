use Rattle.course_laws.proofs.CallsOnce.{no_call_twice}
use Rattle.course_laws.proofs.FirstBad.{first_bad_answer}
use Rattle.course_laws.proofs.OneWay.{goes_one_way}
use Rattle.course_laws.proofs.RunEnds.{ends_come, holds_come, rests_come}
use Rattle.course_laws.proofs.StatesKept.{states_are_left}
use Rattle.course_laws.proofs.Unsaved.{nothing_saved}
use Rattle.course_laws.proofs.UpdatesAlong.{updates_asked_for}
use Rattle.course_laws.proofs.laws.calls_of_runs.Goals as goal

pub returns : goal.returns
returns c = record {
  ends = ends_come;
  holds = holds_come;
  rests = rests_come;
  answers = first_bad_answer;
  once = no_call_twice;
  updates = updates_asked_for;
  left = states_are_left;
  way = goes_one_way;
  unsaved = nothing_saved;
}
