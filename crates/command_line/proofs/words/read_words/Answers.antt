use Rattle.std.proofs.Common.{sym, subst, List}
use Rattle.std.specs.Prelude.{Option}
use Rattle.clap.specs.Walk.{Row}
use Rattle.command_line.specs.App.{app_of_rows}
use Rattle.command_line.specs.Line.{Asked, Asks, IsAsked, Lookup, commands}
use Rattle.command_line.specs.Table.{GivesLine, SubAsks}
use Rattle.command_line.specs.Words.{Word}
use Rattle.clap.specs.declared.parser.matches.ArgMatches.{ArgMatches}
use Rattle.clap.specs.Words.{subcommand_rows_of}
use Rattle.command_line.proofs.Program.{program_table}
use Rattle.command_line.proofs.Tables.{unique_line}
use Rattle.command_line.proofs.words.read_words.Goals as goal

-- what a line asks for is what the matches ask for
asks_by_matches : (words : List Word) (m : ArgMatches) (line : Asked) → GivesLine commands words m → IsAsked words line → SubAsks (subcommand_rows_of m) line
asks_by_matches words m line gives is_line =
    let one = unique_line (app_of_rows commands) commands program_table words _ _ _ _ is_line.is gives.line in
    subst (λ (s : Option (Word × List Row)). SubAsks s line) (sym gives.sub)
    (subst (λ (g : Lookup). Asks gives.name g line) one.1 (subst (λ (n : Word). Asks n is_line.get line) one.0 is_line.asks))

pub returns-in-Some-clause-only : goal.returns-in-Some-clause-only
returns-in-Some-clause-only c = λ line is_line. c.in-Some.ensures.only line (asks_by_matches _ c.in-Ok.matches line c.in-Ok.ensures.ok is_line)

pub returns-in-Ok-clause-none : goal.returns-in-Ok-clause-none
returns-in-Ok-clause-none c = λ _ line is_line. c.in-None.ensures.only line (asks_by_matches _ c.in-Ok.matches line c.in-Ok.ensures.ok is_line)

pub returns-clause-none : goal.returns-clause-none
returns-clause-none c = λ no_line line is_line. c.in-Err.ensures.none no_line is_line.name is_line.get is_line.is
