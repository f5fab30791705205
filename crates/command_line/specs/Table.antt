-- When what clap reads has the lines of a table of commands.
use Rattle.std.specs.Prelude.{◌≡◌, ◌==◌, ◌&&◌, ◌+◌, ◌∷◌, ℕ, Bool, true, false, not, List, [], Option, Some, None, is_some, nat_lt}
use Rattle.std.specs.Option.{option_map_or}
use Rattle.std.specs.List.{list_all}
use Rattle.std.specs.Str.{bytes_eq}
use Rattle.clap.specs.Lexer.{has_byte, usize_max}
use Rattle.clap.specs.Facts.{parser_of_value, unwrap_or_range}
use Rattle.clap.specs.Simple.{App, Shape, built, subcommand_rows_of}
use Rattle.clap.specs.Walk.{Row, Rule, action_of, arg_by_index, arg_by_long, first_of, is_empty, most_values, takes_several, takes_values}
use Rattle.clap.specs.declared.builder.action.ArgAction.{ArgAction}
use Rattle.clap.specs.declared.builder.action.ArgAction.TheVariants.{Set}
use Rattle.clap.specs.declared.builder.value_parser.ValueParser.{ValueParser}
use Rattle.clap.specs.declared.builder.value_parser.ValueParser.TheVariants as vp
use Rattle.clap.specs.declared.parser.matches.ArgMatches.{ArgMatches}
use Rattle.command_line.specs.Words.{Word, is_plain}
use Rattle.command_line.specs.Line.{CommandRow, IsLineOf, Asks, Asked, option_names}

abbrev pub is_set : ArgAction → Bool
is_set Set = true
is_set _ = false

abbrev pub is_string : ValueParser → Bool
is_string vp.String = true
is_string _ = false

-- an argument that takes one value, of any text
abbrev pub is_usual : Rule → Bool
is_usual a =
    takes_values a && (most_values a == 1 &&
    (is_set (action_of a) && ((unwrap_or_range a.range).start_inclusive == 1
    && (is_string (parser_of_value a.parser) &&
    (not (takes_several a) && not a.trailing_var_arg)))))

-- an option has its id for its name, and a positional has another id than the options
abbrev pub is_placed : List Rule → Rule → Bool
is_placed c a =
    option_map_or (λ k. nat_lt k usize_max && not (is_some (arg_by_long c a.id))) a.index
    (is_empty a.aliases && option_map_or (λ s. bytes_eq s a.id) a.long false)

-- no two rules have one id
abbrev pub is_apart : List Rule → Bool
is_apart [] = true
is_apart (a ∷ rest) = list_all (λ b. not (bytes_eq a.id b.id)) rest && is_apart rest

-- all of that
abbrev pub is_command : List Rule → Bool
is_command c = list_all is_usual c && (list_all (is_placed c) c && is_apart c)

abbrev pub name_before : Option ℕ → Option Word → List Word → List Word
name_before None (Some name) names = name ∷ names
name_before _ _ names = names

-- the names of the options
abbrev pub names_in : List Rule → List Word
names_in [] = []
names_in (a ∷ rest) = name_before a.index a.long (names_in rest)

-- a name that an option can be written with
abbrev pub is_proper : Word → Bool
is_proper [] = false
is_proper (x ∷ xs) = not (has_byte 61 (x ∷ xs))

-- a rule without a default, which isn't required
abbrev pub is_bare : Rule → Bool
is_bare a = is_empty a.defaults && not a.required

-- the whole has subcommands alone, and no help
pub record IsTop (b : App) : Type 0 where
  pub rules : b.top.rules ≡ []
  pub no_help : b.top.disable_help_subcommand ≡ true
  pub answer : b.top.arg_required_else_help ≡ false

-- from p on the positionals have these ids, and there is no other
abbrev pub HasPlaces : List Rule → ℕ → List Word → Type 0
HasPlaces c p [] = arg_by_index c p ≡ None
HasPlaces c p (q ∷ qs) =
    (a : Rule) × (arg_by_index c p ≡ Some a) × (a.id ≡ q) × HasPlaces c (p + 1) qs

-- clap's subcommand is that of a row: it has its name, positionals and options, asks for none, and gives none by itself
pub record IsPart (s : Shape) (g : CommandRow) : Type 0 where
  pub named : s.name ≡ g.name
  pub no_alias : s.aliases ≡ []
  pub command : is_command s.rules ≡ true
  pub options : names_in s.rules ≡ option_names g
  pub places : HasPlaces s.rules 1 g.positionals
  pub bare : list_all is_bare s.rules ≡ true
  pub again : s.args_override_self ≡ false
  pub help : s.arg_required_else_help ≡ false
  pub subcommand : s.subcommand_required ≡ false
  pub negates : s.subcommand_negates_reqs ≡ false
  pub proper : list_all is_proper (option_names g) ≡ true
  pub plain : is_plain g.name ≡ true

abbrev pub Parts : List Shape → List CommandRow → Type 0
Parts [] [] = Unit {0}
Parts [] (g ∷ gs) = ⊥
Parts (s ∷ ss) [] = ⊥
Parts (s ∷ ss) (g ∷ gs) = IsPart s g × Parts ss gs

-- clap reads whole lines, and its subcommands are the rows of the table
pub record IsTable (app : App) (commands : List CommandRow) : Type 0 where
  pub whole_words : app.top.no_binary_name ≡ true
  pub top : IsTop (built app)
  pub parts : Parts (built app).subs commands

-- the subcommand of the matches, with the values that they have, is a line of these arguments
pub record GivesLine (rows : List CommandRow) (words : List Word) (m : ArgMatches) : Type 0 where
  pub name : Word
  pub values : List Row
  pub sub : subcommand_rows_of m ≡ Some (name, values)
  pub line : IsLineOf rows words name (λ n. first_of n values)

-- what the values of a subcommand ask for
abbrev pub SubAsks : Option (Word × List Row) → Asked → Type 0
SubAsks None asked = ⊥
SubAsks (Some sub) asked = Asks sub.0 (λ n. first_of n sub.1) asked
