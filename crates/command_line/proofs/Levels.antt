-- What a level of clap's parse makes of arguments that are items.
use Rattle.std.proofs.Common.{◌≡◌, ◌∙◌, ◌&&◌, ◌||◌, not, Bool, true, false, List, [], ◌∷◌, Some, None, refl, ap, ap₂, cond, arith, fold, length, suc, ◌==◌}
use Rattle.std.proofs.lemmas.Bool.Decides.{nat_tests}
use Rattle.clap.specs.declared.error.kind.ErrorKind.TheVariants.{MissingRequiredArgument}
use Rattle.clap.specs.Takes.{is_given}
use Rattle.std.specs.List.{list_all, list_any}
use Rattle.clap.specs.Kinds.{Kinds, or_else}
use Rattle.clap.specs.Faults.{default_fault, defaults_fault, level_fault, check_fault, settle_fault, walk_fault}
use Rattle.clap.specs.Simple.{Shape}
use Rattle.clap.specs.Walk.{Row, Rule, finished, has_row, is_empty, nothing_held, rows_after, settled, walk, walk_from, with_default}
use Rattle.clap.proofs.WalkLemmas.{both}
use Rattle.command_line.specs.Table.{is_bare}
use Rattle.command_line.specs.Words.{Item, Word, has_each_once, positionals_of}
use Rattle.command_line.specs.Form.{items_from}
use Rattle.command_line.proofs.Walks.{and_true, not_true, follows, items_pass, makes, no_kinds, no_kinds-or_else}
use Rattle.command_line.proofs.Items.{IsCommand, Stands, fits, items_pass_is, new_rows, rows_are}

or_true : (b : Bool) → (b || true) ≡ true
or_true true = refl
or_true false = refl

no_default : (rows : List Row) (a : Rule) → is_empty a.defaults ≡ true → default_fault rows a ≡ []
no_default rows a e = rw (e, or_true) refl

kept_default : (rows : List Row) (a : Rule) → a.defaults ≡ [] → with_default rows a ≡ rows
kept_default rows a e = rw e (elim (has_row a.id rows) as (λ b. cond b rows rows ≡ rows) [ true ↦ refl | false ↦ refl ])

nil : (xs : List Word) → is_empty xs ≡ true → xs ≡ []
nil [] e = refl
nil (x ∷ xs) e = let bad : (suc (length xs) == 0) ≡ true = e in grind (arith, nat_tests)

no_defaults : (rows : List Row) (rules : List Rule) → list_all is_bare rules ≡ true → defaults_fault rows rules ≡ []
unfolding defaults_fault
no_defaults rows [] e = refl
no_defaults rows (a ∷ rest) e =
    let h = both (is_bare a) (list_all is_bare rest) e in
    let bare = both (is_empty a.defaults) _ h.0 in
    rw (no_default rows a bare.0, kept_default rows a (nil a.defaults bare.0)) (no_defaults rows rest h.1)

kept_defaults : (rows : List Row) (rules : List Rule) → list_all is_bare rules ≡ true → fold with_default rows rules ≡ rows
kept_defaults rows [] e = refl
kept_defaults rows (a ∷ rest) e =
    let h = both (is_bare a) (list_all is_bare rest) e in
    let bare = both (is_empty a.defaults) _ h.0 in
    ap (λ r. fold with_default r rest) (kept_default rows a (nil a.defaults bare.0)) ∙ kept_defaults rows rest h.1

none_required : (p : Rule → Bool) (rules : List Rule) → list_all is_bare rules ≡ true → list_any (λ a. a.required && p a) rules ≡ false
none_required p [] e = refl
none_required p (a ∷ rest) e =
    let h = both (is_bare a) (list_all is_bare rest) e in
    let bare = both (is_empty a.defaults) _ h.0 in
    let optional : a.required ≡ false = not_true a.required bare.1 in rw optional (none_required p rest h.1)

-- a leaf whose arguments are all optional
pub record IsLoose (s : Shape) : Type 0 where
  pub bare : list_all is_bare s.rules ≡ true
  pub again : s.args_override_self ≡ false
  pub help : s.arg_required_else_help ≡ false
  pub subcommand : s.subcommand_required ≡ false
  pub negates : s.subcommand_negates_reqs ≡ false

module _ (s : Shape) (names : List Word) (command : IsCommand s.rules names) (loose : IsLoose s) where
  empty_stands : Stands s.rules names command [] 1 []
  empty_stands = record { named = λ n a e. refl; free = λ q a le e. refl }

  nothing_checked : (rows : List Row) → check_fault s rows false ≡ []
  nothing_checked rows =
      rw (loose.help, loose.subcommand) (ap (λ b. cond {A = Kinds} (not (s.subcommand_negates_reqs && false) && b) (MissingRequiredArgument ∷ []) [])
      (none_required (λ a. not (is_given a.id rows)) s.rules loose.bare)
      ∙ elim s.subcommand_negates_reqs as (λ b. cond {A = Kinds} (not (b && false) && false) (MissingRequiredArgument ∷ []) [] ≡ []) [ true ↦ refl | false ↦ refl ])

  pub level_is : (words : List Word) (items : List Item) → items_from None words ≡ Some items
      → no_kinds (level_fault s [] nothing_held words false []) ≡ (has_each_once names [] items && fits s.rules 1 (positionals_of items))
  level_is words items e =
      let end = (walk s.rules [] nothing_held words).held in
      let settle = settle_fault s.rules s.args_override_self end in
      let walking = walk_fault s [] (walk_from nothing_held) words in
      ap₂ (λ d k. no_kinds (or_else walking (or_else settle (or_else d k)))) (no_defaults (settled s.rules end).rows s.rules loose.bare) (nothing_checked (finished s.rules end))
      ∙ no_kinds-or_else walking (or_else settle [])
      ∙ ap (λ b. no_kinds walking && b) (no_kinds-or_else settle [] ∙ and_true (no_kinds settle))
      ∙ (follows s command.usual_long command.usual_index words).resting_passes nothing_held 1 items e
      ∙ ap (λ b. items_pass s.rules b [] 1 items) loose.again
      ∙ items_pass_is s.rules names command items [] 1 [] empty_stands

  pub level_rows : (words : List Word) (items : List Item) → items_from None words ≡ Some items
      → (has_each_once names [] items && fits s.rules 1 (positionals_of items)) ≡ true → rows_after s.rules [] words ≡ new_rows s.rules names command 1 items
  level_rows words items e ok =
      let passing : items_pass s.rules false [] 1 items ≡ true = items_pass_is s.rules names command items [] 1 [] empty_stands ∙ ok in
      kept_defaults _ s.rules loose.bare
      ∙ (makes s command.usual_long command.usual_index words).resting_rows nothing_held 1 items e (ap (λ b. items_pass s.rules b [] 1 items) loose.again ∙ passing)
      ∙ rows_are s.rules names command items [] 1 [] empty_stands passing
