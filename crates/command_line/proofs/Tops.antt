-- What clap makes of a command's name and the arguments after it.
use Rattle.std.proofs.Common.{◌≡◌, ◌∙◌, Bool, true, false, List, [], ◌∷◌, Option, Some, None, option_map, refl, sym, ap, ap₂, is_some, fold, cond}
use Rattle.std.specs.Prelude.{find}
use Rattle.clap.specs.Kinds.{Kinds, or_else}
use Rattle.clap.specs.Faults.{stray_fault, defaults_fault, settle_fault, built_fault, check_fault, entered_fault, level_fault, turn_fault, walk_fault}
use Rattle.clap.specs.Simple.{App, Shape, entered, label_of, names_of}
use Rattle.clap.specs.Walk.{settled, finished, Row, Walk, answers_to, nothing_held, rows_after, stop_after, walk, walk_from, walked}
use Rattle.clap.proofs.WalkLemmas.{find-map, walk_stopped}
use Rattle.clap.proofs.FaultLemmas.{stopped_fault}
use Rattle.clap.specs.declared.error.kind.ErrorKind.TheVariants.{UnknownArgument, InvalidSubcommand}
use Rattle.command_line.specs.Table.{IsTop}
use Rattle.command_line.specs.Words.{Word, is_plain}
use Rattle.command_line.proofs.Walks.{and_false, and_true, no_kinds, no_kinds-or_else, plain_word}

abbrev pub sub_of : App → Word → Option Shape
sub_of b word = find (λ s. answers_to word (label_of s)) b.subs

met_is : (b : App) (word : Word) → find (answers_to word) (names_of b) ≡ option_map label_of (sub_of b word)
met_is b word = sym (find-map (answers_to word) label_of b.subs)

fails_first : (k l : Kinds) → no_kinds k ≡ false → no_kinds (or_else k l) ≡ false
fails_first [] l e = cc
fails_first (k ∷ ks) l e = refl

module _ (b : App) (top : IsTop b) where
  abbrev entering : Word → List Word → Walk
  entering word rest = record (walk_from nothing_held) { stopped = Some (word, rest) }

  module _ (word : Word) (s : Shape) (found : sub_of b word ≡ Some s) (named : s.name ≡ word) where
    step : walked b.top.rules (names_of b) (walk_from nothing_held) word ≡ entering word []
    unfolding walked
    step = rw (met_is b word, found) (ap (λ n. entering n []) named)

    turn : turn_fault b.top (names_of b) (walk_from nothing_held) word ≡ []
    turn = rw (met_is b word, found, top.no_help, and_false) refl

    pub walk_is : (rest : List Word) → walk b.top.rules (names_of b) nothing_held (word ∷ rest) ≡ entering word rest
    walk_is rest = ap (λ w. fold (walked b.top.rules (names_of b)) w rest) step ∙ sym (walk_stopped b.top.rules (names_of b) (walk_from nothing_held) word [] rest)

    pub known_rows : (rest : List Word) → entered b (stop_after b.top.rules (names_of b) (word ∷ rest)) ≡ Some (word, rows_after s.rules [] rest)
    known_rows rest = ap (λ (w : Walk). entered b w.stopped) (walk_is rest) ∙ rw found (ap (λ n. Some (n, rows_after s.rules [] rest)) named)

    walking : (rest : List Word) → walk_fault b.top (names_of b) (walk_from nothing_held) (word ∷ rest) ≡ []
    unfolding walk_fault
    walking rest =
        ap₂ (λ k w. or_else k (walk_fault b.top (names_of b) w rest)) turn step
        ∙ stopped_fault b.top (names_of b) (walk_from nothing_held) (word, []) rest

    -- what follows the walk
    ends : (w : Walk) → Kinds
    ends w = or_else (entered_fault b w.stopped) (or_else (settle_fault b.top.rules b.top.args_override_self w.held)
        (or_else (defaults_fault (settled b.top.rules w.held).rows b.top.rules) (check_fault b.top (finished b.top.rules w.held) (is_some (entered b w.stopped)))))

    checked : (rows : List Row) → check_fault b.top rows true ≡ []
    checked rows = rw (top.rules, and_false) refl

    defaulted : (rows : List Row) → defaults_fault rows b.top.rules ≡ []
    unfolding defaults_fault
    defaulted rows = rw top.rules refl

    pub known_faults : (rest : List Word) → no_kinds (built_fault b nothing_held (word ∷ rest)) ≡ no_kinds (level_fault s [] nothing_held rest false [])
    unfolding ends
    known_faults rest =
        ap₂ (λ k w. no_kinds (or_else k (ends w))) (walking rest) (walk_is rest)
        ∙ rw (found, defaulted, checked) (no_kinds-or_else _ [] ∙ and_true _)

  stray : no_kinds (stray_fault b.top) ≡ false
  stray = stray_at b.top.is_leaf
    where
      stray_at : (x : Bool) → no_kinds (cond x (UnknownArgument ∷ []) (UnknownArgument ∷ (InvalidSubcommand ∷ []))) ≡ false
      stray_at true = refl
      stray_at false = refl

  turn_unknown : (word : Word) → is_plain word ≡ true → sub_of b word ≡ None → no_kinds (turn_fault b.top (names_of b) (walk_from nothing_held) word) ≡ false
  turn_unknown word plain none = let shape = plain_word word plain in rw (met_is b word, none, shape.dashes, shape.long, shape.short, top.rules) stray

  pub unknown_fails : (word : Word) (rest : List Word) → is_plain word ≡ true → sub_of b word ≡ None → no_kinds (built_fault b nothing_held (word ∷ rest)) ≡ false
  unfolding walk_fault
  unknown_fails word rest plain none = fails_first _ _ (fails_first _ _ (turn_unknown word plain none))
