-- What is reached along links, and from where.
use Rattle.std.specs.Prelude.{◌≡◌, ℕ, Bool, true, false, List, slice_index_or, Contains, All, Option, Some, None}
use Rattle.dependency_order.specs.Graph.{Needs, Leads}

-- along links from a to b, between them through these nodes alone
pub record Reaches {A : Type 0} (Link : A → A → Type 0) (Through : A → Type 0)
    (a b : A) : Type 0 where
  pub between : List A
  pub through : All Through between
  pub leads : Leads Link a between b

abbrev pub IsMarked : List Bool → ℕ → Type 0
IsMarked marks p = slice_index_or marks p false ≡ true

-- along the links of a graph, between the two through marked nodes alone
abbrev pub IsReached : List (List ℕ) → List Bool → ℕ → ℕ → Type 0
IsReached links through a b = Reaches (Needs links) (IsMarked through) a b

abbrev pub at : List (Option ℕ) → ℕ → Option ℕ
at found x = slice_index_or found x None

-- what is found is a start from which the node is reached, and nothing where there is none
pub record IsSpread (links : List (List ℕ)) (through : List Bool) (starts : List ℕ)
    (found : List (Option ℕ)) : Type 0 where
  pub start : (x s : ℕ) → at found x ≡ Some s → Contains starts s × IsReached links through s x
  pub none : (x s : ℕ) → at found x ≡ None → Contains starts s → IsReached links through s x → ⊥

-- each node has one link into it at most
abbrev pub IsSingle : List (List ℕ) → Type 0
IsSingle links = (a b x : ℕ) → Needs links a x → Needs links b x → a ≡ b
