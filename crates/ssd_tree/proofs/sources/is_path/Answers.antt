use Rattle.std.proofs.Common.{sym, ◌∙◌}
use Rattle.ssd_tree.proofs.SourceLemmas.{path_when, no_path}
use Rattle.ssd_tree.proofs.sources.is_path.Goals as goal

pub returns-then-has_left_out : goal.returns-then-has_left_out
returns-then-has_left_out c = no_path c.args.source.now (sym c.has_left_out.ensures ∙ c.if-has_left_out.true)

pub returns : goal.returns
returns c =
    path_when c.args.source.now c.in_ok-segments.segments.items c.leads_down.result (sym c.has_left_out.ensures ∙ c.if-has_left_out.false) c.in_ok-segments.ensures
    (rw c.as_slice.ensures.value at c.leads_down.ensures)
