use Rattle.std.proofs.Common.{arith}
use Rattle.run_program.proofs.NameLemmas.{escaped_short, name_after}
use Rattle.run_program.proofs.message.append_name.Goals as goal

pub returns-clause-end : goal.returns-clause-end
returns-clause-end c = omega (arith, escaped_short c.args.name.now, c.escape-length.ensures.written)

pub returns-clause-text : goal.returns-clause-text
returns-clause-text c =
    let short = escaped_short c.args.name.now in
    let same = c.escape-length.auto.out in
    name_after c.args.at c.escape-length.result c.args.text.now c.escape-length.new.out c.args.name.now (omega arith) (omega arith)
    (omega (arith, c.escape-length.ensures.written)) c.escape-length.ensures.prefix
