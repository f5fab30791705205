-- The ports of a loop, written one after another.
use Rattle.std.proofs.Common.{◌≡◌, ℕ, ◌+◌, List, [], ◌∷◌, ◌++◌, Some, take, codes, sym, ap, ◌∙◌, append_assoc, append-nil as append_nil}
use Rattle.std.specs.Prelude.{decimal, slice_get}
use Rattle.sim_base.specs.declared.numbers.PortId.{PortId}
use Rattle.run_program.specs.Message.{numbers_text}
use Rattle.run_program.proofs.PeerLemmas.{take_more_at}

-- a number with a space before it
abbrev spaced : PortId → List ℕ
spaced port = codes " " ++ decimal port.0

numbers_text-append : (ports : List PortId) (port : PortId) → numbers_text (ports ++ port ∷ []) ≡ numbers_text ports ++ spaced port
numbers_text-append [] port = append_nil (spaced port)
numbers_text-append (p ∷ ports) port =
    ap (λ (xs : List ℕ). spaced p ++ xs) (numbers_text-append ports port) ∙ sym (append_assoc (spaced p) (numbers_text ports) (spaced port))

-- one more port is written
pub one_more : (prefix a b c : List ℕ) (ports : List PortId) (k : ℕ) (port : PortId) → slice_get ports k ≡ Some port → a ≡ prefix ++ numbers_text (take k ports) →
    b ≡ a ++ codes " " → c ≡ b ++ decimal port.0 → c ≡ prefix ++ numbers_text (take (k + 1) ports)
one_more prefix a b c ports k port here first second third =
    third ∙ ap (λ (xs : List ℕ). xs ++ decimal port.0) second ∙ append_assoc a (codes " ") (decimal port.0)
    ∙ ap (λ (xs : List ℕ). xs ++ spaced port) first ∙ append_assoc prefix (numbers_text (take k ports)) (spaced port)
    ∙ ap (λ (xs : List ℕ). prefix ++ xs) (sym (numbers_text-append (take k ports) port) ∙ ap numbers_text (sym (take_more_at ports k port here)))
