-- Who needs whom, and what an order and a loop are.
use Rattle.std.specs.Prelude.{◌≡◌, ℕ, ◌<◌, ◌≤◌, List, [], ◌∷◌, ◌++◌, length, take, drop, slice_index_or, map, Contains, All}
use Rattle.std.specs.declared.vec.Vec.{Vec}
use Rattle.std.specs.declared.alloc.Global.{Global}

-- the lists that a table's rows hold
abbrev pub lists_of : List (Vec ℕ Global) → List (List ℕ)
lists_of rows = map (λ (row : Vec ℕ Global). row.items) rows

-- ---- needs

-- a graph has a list for each node: the nodes that it needs
abbrev pub Needs : List (List ℕ) → ℕ → ℕ → Type 0
Needs graph p q = Contains (slice_index_or graph p []) q

-- the lists name numbers below this one alone
abbrev pub AreBelow : List (List ℕ) → ℕ → Type 0
AreBelow lists limit = (p q : ℕ) → Needs lists p q → q < limit

-- the lists name nodes alone
pub record IsClosed (graph : List (List ℕ)) : Type 0 where
  pub below : AreBelow graph (length graph)

-- ---- orders

-- no node stands among those before it
abbrev pub IsOnce : List ℕ → Type 0
IsOnce order = (i : ℕ) → i < length order → Contains (take i order) (slice_index_or order i 0) → ⊥

-- each node comes after all that it needs
abbrev pub IsAfter : (ℕ → ℕ → Type 0) → List ℕ → Type 0
IsAfter NeedsOf order =
    (i q : ℕ) → i < length order → NeedsOf (slice_index_or order i 0) q → Contains (take i order) q

-- an order of certain nodes: all of them and no others, each once and after all that it needs
pub record IsOrder (IsAmong : ℕ → Type 0) (NeedsOf : ℕ → ℕ → Type 0) (order : List ℕ) : Type 0 where
  pub each : (p : ℕ) → IsAmong p → Contains order p
  pub only : (p : ℕ) → Contains order p → IsAmong p
  pub once : IsOnce order
  pub after : IsAfter NeedsOf order

-- ---- loops

-- from a through the list to b, each leads to the next
abbrev pub Leads : {A : Type 0} → (A → A → Type 0) → A → List A → A → Type 0
Leads R a [] b = R a b
Leads R a (x ∷ xs) b = R a x × Leads R x xs b

-- each leads to the next, the last to the first
abbrev pub IsLoop : {A : Type 0} → (A → A → Type 0) → List A → Type 0
IsLoop R [] = ⊥
IsLoop R (x ∷ xs) = Leads R x xs x

-- the first is the least
abbrev pub BeginsLeast : List ℕ → Type 0
BeginsLeast [] = ⊥
BeginsLeast (x ∷ xs) = All (λ y. x ≤ y) xs

-- the same loop, begun at another of its nodes
abbrev pub IsRotated : List ℕ → List ℕ → Type 0
IsRotated old new = (m : ℕ) × (m < length old) × (new ≡ drop m old ++ take m old)
