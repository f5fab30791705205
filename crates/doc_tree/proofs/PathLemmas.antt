-- The levels of a path, and the place of an element among those beside it.
use Rattle.std.proofs.Common.{◌≡◌, ℕ, suc, zero, ◌+◌, ◌-◌, ◌<◌, List, [], ◌∷◌, ◌++◌, length, Option, None, IfSome, get_or, take, true, false, refl, subst, arith}
use Rattle.std.specs.Prelude.{count_by, slice_get}
use Rattle.std.specs.Option.{option_map_or}
use Rattle.std.proofs.lemmas.List.Sums.{count_by_more_yes, count_by_more_no}
use Rattle.doc_grammar.specs.Nodes.{Node}
use Rattle.doc_tree.specs.Path.{parent_at, is_same, step_text, path_within}

pub path_none : (t : List Node) (k : ℕ) → path_within 0 t k ≡ []
unfolding path_within
path_none t k = refl

pub path_suc : (levels : ℕ) (t : List Node) (k : ℕ) → path_within (suc levels) t k ≡ option_map_or (path_within levels t) (parent_at t k) [] ++ step_text t k
unfolding path_within
path_suc levels t k = refl

pub path_some : (levels : ℕ) (t : List Node) (k : ℕ) → 0 < levels → path_within levels t k ≡ option_map_or (path_within (levels - 1) t) (parent_at t k) [] ++ step_text t k
path_some zero t k h = absurd (omega arith)
path_some (suc levels) t k h = subst (λ (n : ℕ). path_within (suc levels) t k ≡ option_map_or (path_within n t) (parent_at t k) [] ++ step_text t k) (omega arith) (path_suc levels t k)

at_place : (t : List Node) (i : ℕ) (parent : Option ℕ) (d : Node) → i < length t → IfSome (slice_get t i) (λ (n : Node). parent ≡ n.parent) → parent ≡ (get_or t i d).parent
at_place [] i parent d h e = absurd (omega arith)
at_place (n ∷ ns) zero parent d h e = e
at_place (n ∷ ns) (suc i) parent d h e = at_place ns i parent d (omega arith) e

no_node : Node
no_node = record { name = []; attrs = []; parent = None }

pub counts_yes : (t : List Node) (i : ℕ) (parent own : Option ℕ) → i < length t → IfSome (slice_get t i) (λ (n : Node). parent ≡ n.parent) → is_same parent own ≡ true →
    count_by (λ (n : Node). is_same n.parent own) (take (i + 1) t) ≡ count_by (λ (n : Node). is_same n.parent own) (take i t) + 1
counts_yes t i parent own h e same =
    count_by_more_yes (λ (n : Node). is_same n.parent own) t i no_node h (subst (λ (p : Option ℕ). is_same p own ≡ true) (at_place t i parent no_node h e) same)

pub counts_no : (t : List Node) (i : ℕ) (parent own : Option ℕ) → i < length t → IfSome (slice_get t i) (λ (n : Node). parent ≡ n.parent) → is_same parent own ≡ false →
    count_by (λ (n : Node). is_same n.parent own) (take (i + 1) t) ≡ count_by (λ (n : Node). is_same n.parent own) (take i t)
counts_no t i parent own h e other =
    count_by_more_no (λ (n : Node). is_same n.parent own) t i no_node h (subst (λ (p : Option ℕ). is_same p own ≡ false) (at_place t i parent no_node h e) other)
