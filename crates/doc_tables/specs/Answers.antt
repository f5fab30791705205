-- What a reading of a document answers: what the document says, or the first rule that it breaks.
use Rattle.std.specs.Prelude.{◌≡◌, ℕ, [], Result, Ok, Err, ⊤}
use Rattle.doc_tree.specs.declared.refusal.Refusal.{Refusal}
use Rattle.doc_tree.specs.declared.refusal.Refusal.TheVariants.{At, Memory}
use Rattle.doc_tree.specs.declared.rule.Rule.{Rule}

-- the refusal is this rule at this element of the first file, and names no ports
abbrev pub IsRefusal : Refusal → Rule → ℕ → Type 0
IsRefusal (At file node rule ports) broken k =
    (file ≡ 0) × (node ≡ k) × (rule ≡ broken) × (ports ≡ [])
IsRefusal Memory broken k = ⊥

-- the refusal is the first violation, unless memory ran out
abbrev pub Faults : {R : Type 0} → (R → Rule) → (ℕ → R → Type 0) → Refusal → Type 0
Faults {R} rule_of IsFirst (At file node rule ports) =
    (broken : R) × IsFirst node broken × IsRefusal (At file node rule ports) (rule_of broken) node
Faults rule_of IsFirst Memory = ⊤

-- the answer is this rule at this element, unless memory ran out
abbrev pub Refuses : {A : Type 0} → Result A Refusal → Rule → ℕ → Type 0
Refuses (Ok read) broken k = ⊥
Refuses (Err (At file node rule ports)) broken k = IsRefusal (At file node rule ports) broken k
Refuses (Err Memory) broken k = ⊤

-- the answer is this, unless memory ran out
abbrev pub Gives : {A : Type 0} → Result A Refusal → A → Type 0
Gives (Ok read) wanted = read ≡ wanted
Gives (Err (At file node rule ports)) wanted = ⊥
Gives (Err Memory) wanted = ⊤
