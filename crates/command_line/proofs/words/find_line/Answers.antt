use Rattle.std.proofs.Common.{sym, subst}
use Rattle.clap.specs.Words.{App}
use Rattle.command_line.specs.Line.{commands}
use Rattle.command_line.specs.Table.{IsTable}
use Rattle.command_line.proofs.Program.{program_table}
use Rattle.command_line.proofs.words.find_line.Goals as goal

pub returns-in-Ok-clause-ok : goal.returns-in-Ok-clause-ok
returns-in-Ok-clause-ok c = c.read_line.ensures.ok commands (subst (λ (a : App). IsTable a commands) (sym c.in-Ok.ensures) program_table)

pub returns-in-Ok-clause-none : goal.returns-in-Ok-clause-none
returns-in-Ok-clause-none c = c.read_line.ensures.none commands (subst (λ (a : App). IsTable a commands) (sym c.in-Ok.ensures) program_table)
