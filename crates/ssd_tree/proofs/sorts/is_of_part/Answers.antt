use Rattle.std.proofs.Common.{sym}
use Rattle.ssd_tree.proofs.ElementLemmas.{part_else}
use Rattle.ssd_tree.proofs.sorts.is_of_part.Goals as goal

pub returns-else-is_listed : goal.returns-else-is_listed
returns-else-is_listed c =
    let systems = c.requires.systems in
    let components = c.requires.components in
    let part = c.in-Some.part in
    let one = c.is_listed.ensures in
    let other = c.is_listed-else-is_listed.ensures in
    part_else c.args.tree.now c.args.node part c.args.list.now c.is_listed.result c.is_listed-else-is_listed.result (sym c.in-Some.ensures.holder) c.if-is_listed.false
    (λ e. (systems.each part).0 (one.0 e), λ is. one.1 ((systems.each part).1 is))
    (λ e. (components.each part).0 (other.0 e), λ is. other.1 ((components.each part).1 is))
