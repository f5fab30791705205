use Rattle.std.proofs.Common.{◌≡◌, ℕ, Bor, List, ◌∷◌, ◌++◌, Option, Some, None, sym, ap, ◌∙◌, refl, arith}
use Rattle.std.specs.Option.{IfNone, IfSome, IsSome}
use Rattle.parameter_targets.proofs.ListLemmas.{read_at}
use Rattle.parameter_targets.proofs.PathLemmas.{begins_above, left_after, path_at_top, path_below}
use Rattle.parameter_targets.proofs.paths.+path_from.Goals as goal

is_left : (o : Option (Bor (List ℕ))) (text name rest : List ℕ) → IfNone o ((rest : List ℕ) → text ≡ name ++ 46 ∷ rest → ⊥) → text ≡ name ++ 46 ∷ rest → IsSome o
is_left None text name rest none e = absurd (none rest e)
is_left (Some x) text name rest none e = refl

found_left : (o : Option (Bor (List ℕ))) (x : Bor (List ℕ)) (text name : List ℕ) → IfSome o (λ rest. text ≡ name ++ 46 ∷ rest.now) → o ≡ Some x → text ≡ name ++ 46 ∷ x.now
found_left None x text name found e = cc
found_left (Some y) x text name found e = found ∙ ap (λ (o : Option (Bor (List ℕ))). name ++ 46 ∷ now_of o) e
  where
    now_of : Option (Bor (List ℕ)) → List ℕ
    now_of None = y.now
    now_of (Some z) = z.now

pub path_from-requires : goal.path_from-requires
path_from-requires t c =
    let tree = c.args.tree.now in
    let part = c.index-as_slice-system.result in
    let is = read_at tree.systems c.as_slice.result.now c.args.system part c.as_slice.ensures c.requires.1.1.1.0 c.index-as_slice-system.is in
    let less = c.requires.1.1.0.outer c.args.system c.in-Some.above part is c.in-Some.is in
    let measure = c.requires.0 in
    let second = c.requires.1.0 in
    let within = c.requires.1.1.1.0 in
    (omega (arith, less, measure, second), (c.requires.1.1.0, (omega (arith, less, within), begins_above tree c.args.system c.in-Some.above part c.args.name.now is c.in-Some.is c.requires.1.1.1.1)))

pub unwrap-requires : goal.unwrap-requires
unwrap-requires t c =
    let tree = c.args.tree.now in
    let part = c.index-as_slice-system.result in
    let is = read_at tree.systems c.as_slice.result.now c.args.system part c.as_slice.ensures c.requires.1.1.1.0 c.index-as_slice-system.is in
    let rest = left_after tree c.args.system c.in-Some.above part c.args.name.now c.path_from.result.now is c.in-Some.is c.requires.1.1.1.1 c.path_from.ensures in
    is_left c.after.result c.path_from.result.now c.as_str.result.now rest.0 c.after.ensures.none (rest.1 ∙ ap (λ z. z ++ 46 ∷ rest.0) (sym c.as_str.ensures))

pub returns-in-None : goal.returns-in-None
returns-in-None t c =
    let tree = c.args.tree.now in
    let part = c.index-as_slice-system.result in
    let is = read_at tree.systems c.as_slice.result.now c.args.system part c.as_slice.ensures c.requires.1.1.1.0 c.index-as_slice-system.is in
    path_at_top tree c.args.system part c.args.name.now is c.in-None.is

pub returns-in-Some : goal.returns-in-Some
returns-in-Some t c =
    let tree = c.args.tree.now in
    let part = c.index-as_slice-system.result in
    let is = read_at tree.systems c.as_slice.result.now c.args.system part c.as_slice.ensures c.requires.1.1.1.0 c.index-as_slice-system.is in
    let found = found_left c.after.result c.unwrap.result c.path_from.result.now c.as_str.result.now c.after.ensures.found c.unwrap.ensures in
    path_below tree c.args.system c.in-Some.above part c.args.name.now c.path_from.result.now c.unwrap.result.now is c.in-Some.is c.path_from.ensures
    (found ∙ ap (λ z. z ++ 46 ∷ c.unwrap.result.now) c.as_str.ensures)
