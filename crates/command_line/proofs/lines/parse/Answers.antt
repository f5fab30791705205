use Rattle.clap.specs.Words.{app_of, is_simple}
use Rattle.clap.proofs.WalkLemmas.{both}
use Rattle.command_line.proofs.lines.parse.Goals as goal

pub returns-in-Ok-clause-ok : goal.returns-in-Ok-clause-ok
returns-in-Ok-clause-ok c = (c.in-Ok.ensures.kinds c.requires, (c.in-Ok.ensures.matches (both (is_simple (app_of c.args.command)) _ c.requires).0).1)
