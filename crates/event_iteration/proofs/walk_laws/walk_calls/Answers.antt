use Rattle.event_iteration.proofs.WalkAnswers.{last_alone_is_bad}
use Rattle.event_iteration.proofs.WalkOnce.{each_call_once}
use Rattle.event_iteration.proofs.walk_laws.walk_calls.Goals as goal

pub returns : goal.returns
returns c = record {
  once = each_call_once;
  answers = last_alone_is_bad;
}
