use Rattle.std.proofs.Common.{sym}
use Rattle.fmu_description.proofs.MisreadLemmas.{decimal_misread}
use Rattle.fmu_description.proofs.misread.misreads_decimal.Goals as goal

pub returns-in-Some : goal.returns-in-Some
returns-in-Some c =
    decimal_misread c.args.tree.now c.args.node c.args.name.now c.in-Some.text.now _ _ (sym c.in-Some.ensures) c.from_decimal.ensures.value c.from_decimal.ensures.exact c.is_none.ensures
