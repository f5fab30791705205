-- What clap reads of the commands that it is given.
use Rattle.std.specs.Prelude.{◌≡◌, ◌||◌, false, true, List, [], Some, codes, fold}
use Rattle.clap.specs.Walk.{Rule}
use Rattle.clap.specs.declared.builder.command.Command.{Command}
use Rattle.clap.specs.declared.builder.command.Command.TheViews.{out-Command}
use Rattle.clap.specs.Simple.{App, Shape, app_of, new_app, new_rule, with_rule, with_subcommand}
use Rattle.command_line.specs.Words.{Word}
use Rattle.command_line.specs.Line.{CommandRow, option_names}

-- an option that takes one value
abbrev pub option_rule : Word → Rule
option_rule name = record (new_rule name) { long = Some name }

abbrev pub with_positional_rule : App → Word → App
with_positional_rule a name = with_rule a (new_rule name)

abbrev pub with_option_rule : App → Word → App
with_option_rule a name = with_rule a (option_rule name)

-- a subcommand with positionals and options of these names
abbrev pub sub_app : Word → List Word → List Word → App
sub_app name positionals options =
    fold with_option_rule (fold with_positional_rule (new_app name) positionals) options

-- the whole, which is a subcommand and nothing else
abbrev pub top_shape : Shape
top_shape = record (new_app (codes "ssprun")).top {
  no_binary_name = true;
  disable_help_flag = true;
  disable_help_subcommand = true;
  disable_version_flag = true;
  subcommand_required = true;
}

abbrev pub with_sub : App → Word → List Word → List Word → App
with_sub a name positionals options = with_subcommand a (sub_app name positionals options).top

abbrev pub with_row : App → CommandRow → App
with_row a row = with_sub a row.name row.positionals (option_names row)

abbrev pub app_of_rows : List CommandRow → App
app_of_rows rows = fold with_row (record { top = top_shape; subs = [] }) rows

-- clap reads this of the command, which has no global argument
abbrev pub IsMadeAs : App → Command → Type 0
IsMadeAs a c = (app_of c ≡ a) × ((out-Command c).has_globals ≡ false)

-- new is old with one more argument, which isn't global
abbrev pub AddsRule : Command → Rule → Command → Type 0
AddsRule old r new = (app_of new ≡ with_rule (app_of old) r)
    × ((out-Command new).has_globals ≡ ((out-Command old).has_globals || false))

-- new is old with one more subcommand
abbrev pub AddsSub : Command → Word → List Word → List Word → Command → Type 0
AddsSub old name positionals options new =
    (app_of new ≡ with_sub (app_of old) name positionals options)
    × ((out-Command new).has_globals ≡ ((out-Command old).has_globals || false))
