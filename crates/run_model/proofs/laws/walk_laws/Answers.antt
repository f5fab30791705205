use Rattle.run_model.proofs.Midst.{nothing_at_first, writes_at_port, keeps_beside, all_at_last, all_at_last_initially, looks_in_midst, looks_initially, present_by_needs, value_by_needs}
use Rattle.run_model.proofs.laws.walk_laws.Goals as goal

pub returns : goal.returns
returns c = record {
  first = nothing_at_first;
  written = writes_at_port;
  beside = keeps_beside;
  last = all_at_last;
  last_initially = all_at_last_initially;
  looks = looks_in_midst;
  looks_initially = looks_initially;
  present = present_by_needs;
  value = value_by_needs;
}
