use Rattle.std.proofs.Common.{◌≡◌, List, Some, IfSome, sym, subst}
use Rattle.std.specs.Prelude.{Option}
use Rattle.clap.specs.Words.{found_of, rows_of, subcommand_rows_of}
use Rattle.clap.specs.Walk.{Row}
use Rattle.command_line.specs.Line.{asked_of}
use Rattle.command_line.specs.Table.{SubAsks}
use Rattle.command_line.specs.Words.{Word}
use Rattle.command_line.proofs.Tables.{whole_rows}
use Rattle.command_line.proofs.words.read_matches.Goals as goal

pub returns-in-Some-clause-ok : goal.returns-in-Some-clause-ok
returns-in-Some-clause-ok c =
    let sub : subcommand_rows_of c.args.matches.now ≡ Some (c.in-Some.name.now, rows_of (found_of c.in-Some.inner.now)) = whole_rows _ _ _ c.in-Some.ensures.name c.in-Some.ensures.rows in
    subst (λ (s : Option (Word × List Row)). IfSome c.read_command.result (λ o. SubAsks s (asked_of o))) (sym sub) c.read_command.ensures.ok

pub returns-in-Some-clause-only : goal.returns-in-Some-clause-only
returns-in-Some-clause-only c =
    let sub : subcommand_rows_of c.args.matches.now ≡ Some (c.in-Some.name.now, rows_of (found_of c.in-Some.inner.now)) = whole_rows _ _ _ c.in-Some.ensures.name c.in-Some.ensures.rows in
    λ line asks. c.read_command.ensures.only line (subst (λ (s : Option (Word × List Row)). SubAsks s line) sub asks)
