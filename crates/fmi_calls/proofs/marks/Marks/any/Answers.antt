use Rattle.std.proofs.Common.{nat_lt, ap, ◌∙◌}
use Rattle.std.specs.List.{list_any}
use Rattle.fmi_calls.proofs.MarkLemmas.{any-count}
use Rattle.fmi_calls.proofs.marks.Marks.any.Goals as goal

pub returns : goal.returns
returns c = ap (nat_lt 0) c.self.invariant ∙ any-count c.self.inside.flags.items ∙ ap (list_any (λ flag. flag)) c.self.view_is
