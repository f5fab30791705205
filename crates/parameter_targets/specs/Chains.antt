-- The places of each name in a list, one after another.
use Rattle.std.specs.Prelude.{◌≡◌, ◌<◌, ◌≤◌, ◌+◌, ℕ, List, [], Option, Some, None, get_or, length, slice_get}
use Rattle.std.specs.Ordering.{nat_cmp}
use Rattle.std.specs.Option.{unwrap_or}
use Rattle.std.specs.Cmp.Lexicographic.{slice_cmp}
use Rattle.std.specs.BTreeMap.{get_by}
use Rattle.parameter_targets.specs.declared.chains.NameChains.{NameChains}

-- the first place of the name
abbrev pub first_of : NameChains → List ℕ → Option ℕ
first_of chains name = get_by (λ k. slice_cmp nat_cmp name k.now) chains.first

-- the next place with the name of this one
abbrev pub next_of : NameChains → ℕ → Option ℕ
next_of chains place = get_or chains.next.items place None

abbrev pub text_at : List (List ℕ) → ℕ → List ℕ
text_at texts k = unwrap_or (slice_get texts k) []

-- the first of the places from n to the end that has the name
abbrev pub FindsFrom : List (List ℕ) → ℕ → List ℕ → Option ℕ → Type 0
FindsFrom texts n x None = (k : ℕ) → n ≤ k → k < length texts → text_at texts k ≡ x → ⊥
FindsFrom texts n x (Some k) =
    (n ≤ k) × (k < length texts) × (text_at texts k ≡ x) ×
    ((j : ℕ) → n ≤ j → j < k → text_at texts j ≡ x → ⊥)

-- from n on each name has its first place, and each place the next one with its name
pub record IsChainedFrom (texts : List (List ℕ)) (n : ℕ) (chains : NameChains) : Type 0 where
  pub same_length : length chains.next.items ≡ length texts
  pub finds : (x : List ℕ) → FindsFrom texts n x (first_of chains x)
  pub goes_on : (p : ℕ) → n ≤ p → p < length texts →
      FindsFrom texts (p + 1) (text_at texts p) (next_of chains p)

abbrev pub AreChains : List (List ℕ) → NameChains → Type 0
AreChains texts chains = IsChainedFrom texts 0 chains
