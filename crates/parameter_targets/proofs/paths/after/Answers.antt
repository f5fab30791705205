use Rattle.std.proofs.Common.{◌≡◌, ℕ, Bor, List, ◌∷◌, ◌++◌, Option, Some, None, sym, ap, ◌∙◌, arith}
use Rattle.std.specs.Option.{IfNone, MatchOption}
use Rattle.std.proofs.lemmas.List.{append_cancel_left}
use Rattle.std.proofs.lemmas.Str.Pattern.{strip_prefix_char}
use Rattle.parameter_targets.proofs.paths.after.Goals as goal

none_after : (text name middle : List ℕ) (r : Option (Bor (List ℕ))) → text ≡ name ++ middle → MatchOption r ((rest : List ℕ) → middle ≡ 46 ∷ rest → ⊥) (λ x. middle ≡ 46 ∷ x.now) → IfNone r ((rest : List ℕ) → text ≡ name ++ 46 ∷ rest → ⊥)
none_after text name middle None is cases = λ rest e. cases rest (append_cancel_left name middle (46 ∷ rest) (sym is ∙ e))
none_after text name middle (Some x) is cases = tt

pub returns-clause-none : goal.returns-clause-none
returns-clause-none c =
    let a = c.in_ok-strip_prefix.ensures.cases in
    none_after c.args.text.now c.args.name.now c.in_ok-strip_prefix.field-0.now c.strip_prefix-2.result (a.1.1 ∙ ap (λ z. c.args.name.now ++ z) (sym a.2)) (strip_prefix_char 46 c.in_ok-strip_prefix.field-0.now c.strip_prefix-2.result c.strip_prefix-2.ensures.cases (omega arith))
