-- What clap reads of the program's commands has their table.
use Rattle.std.proofs.Common.{refl, List, [], ◌∷◌, ℕ, zero, suc}
use Rattle.clap.specs.Simple.{Shape, built}
use Rattle.command_line.specs.App.{app_of_rows}
use Rattle.command_line.specs.Line.{bench_row, check_row, checkpoint_row, commands, one_row, resume_row, run_row, trace_check_row}
use Rattle.command_line.specs.Table.{IsPart, IsTable}

abbrev nth : List Shape → ℕ → Shape
nth [] k = (built (app_of_rows commands)).top
nth (s ∷ ss) zero = s
nth (s ∷ ss) (suc k) = nth ss k

one_part : IsPart (nth (built (app_of_rows commands)).subs 0) one_row
one_part = record {
  named = refl;
  no_alias = refl;
  command = refl;
  options = refl;
  places = (_, refl, refl, refl);
  bare = refl;
  again = refl;
  help = refl;
  subcommand = refl;
  negates = refl;
  proper = refl;
  plain = refl;
}

run_part : IsPart (nth (built (app_of_rows commands)).subs 1) run_row
run_part = record {
  named = refl;
  no_alias = refl;
  command = refl;
  options = refl;
  places = (_, refl, refl, refl);
  bare = refl;
  again = refl;
  help = refl;
  subcommand = refl;
  negates = refl;
  proper = refl;
  plain = refl;
}

check_part : IsPart (nth (built (app_of_rows commands)).subs 2) check_row
check_part = record {
  named = refl;
  no_alias = refl;
  command = refl;
  options = refl;
  places = (_, refl, refl, refl);
  bare = refl;
  again = refl;
  help = refl;
  subcommand = refl;
  negates = refl;
  proper = refl;
  plain = refl;
}

trace_check_part : IsPart (nth (built (app_of_rows commands)).subs 3) trace_check_row
trace_check_part = record {
  named = refl;
  no_alias = refl;
  command = refl;
  options = refl;
  places = (_, refl, refl, (_, refl, refl, refl));
  bare = refl;
  again = refl;
  help = refl;
  subcommand = refl;
  negates = refl;
  proper = refl;
  plain = refl;
}

bench_part : IsPart (nth (built (app_of_rows commands)).subs 4) bench_row
bench_part = record {
  named = refl;
  no_alias = refl;
  command = refl;
  options = refl;
  places = (_, refl, refl, (_, refl, refl, refl));
  bare = refl;
  again = refl;
  help = refl;
  subcommand = refl;
  negates = refl;
  proper = refl;
  plain = refl;
}

checkpoint_part : IsPart (nth (built (app_of_rows commands)).subs 5) checkpoint_row
checkpoint_part = record {
  named = refl;
  no_alias = refl;
  command = refl;
  options = refl;
  places = (_, refl, refl, refl);
  bare = refl;
  again = refl;
  help = refl;
  subcommand = refl;
  negates = refl;
  proper = refl;
  plain = refl;
}

resume_part : IsPart (nth (built (app_of_rows commands)).subs 6) resume_row
resume_part = record {
  named = refl;
  no_alias = refl;
  command = refl;
  options = refl;
  places = (_, refl, refl, (_, refl, refl, refl));
  bare = refl;
  again = refl;
  help = refl;
  subcommand = refl;
  negates = refl;
  proper = refl;
  plain = refl;
}

pub program_table : IsTable (app_of_rows commands) commands
program_table = record {
  whole_words = refl;
  top = record { rules = refl; no_help = refl; answer = refl };
  parts = (one_part, (run_part, (check_part, (trace_check_part, (bench_part, (checkpoint_part, (resume_part, tt)))))));
}
