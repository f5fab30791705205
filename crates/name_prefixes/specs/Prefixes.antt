-- Which of some paths begin a name.
use Rattle.std.specs.Prelude.{◌≡◌, ℕ, ◌<◌, ◌≤◌, ◌++◌, false, List, Option, Some, None, length, map, slice_get, Contains}
use Rattle.std.specs.Borrow.{Bor}
use Rattle.std.specs.Cmp.Lexicographic.{slice_cmp}
use Rattle.std.specs.Ordering.{is_lt, nat_cmp}

-- the bytes of each path
abbrev pub texts : List (Bor (List ℕ)) → List (List ℕ)
texts paths = map (λ (p : Bor (List ℕ)). p.now) paths

-- a text begins with another
abbrev pub IsPrefix : List ℕ → List ℕ → Type 0
IsPrefix prefix text = (rest : List ℕ) × (text ≡ prefix ++ rest)

-- the path at the place begins the name
pub record IsPrefixAt (paths : List (List ℕ)) (name : List ℕ) (place : ℕ) : Type 0 where
  pub path : List ℕ
  pub at : slice_get paths place ≡ Some path
  pub prefix : IsPrefix path name

-- the places of all paths that begin the name, each once
pub record ArePrefixes (paths : List (List ℕ)) (name : List ℕ) (places : List ℕ) : Type 0 where
  pub each : (place : ℕ) → IsPrefixAt paths name place → Contains places place
  pub only : (place : ℕ) → Contains places place → IsPrefixAt paths name place
  pub once : (i j place : ℕ) → slice_get places i ≡ Some place →
      slice_get places j ≡ Some place → i ≡ j

-- ---- in order

-- a path with its place
abbrev pub Entry : Type 0
Entry = Bor (List ℕ) × ℕ

-- no path comes after a greater one
abbrev pub IsRising : List Entry → Type 0
IsRising sorted =
    (i j : ℕ) (a b : Entry) → i ≤ j → slice_get sorted i ≡ Some a → slice_get sorted j ≡ Some b →
    is_lt (slice_cmp nat_cmp b.0.now a.0.now) ≡ false

-- no two entries have one place
abbrev pub HasOnce : List Entry → Type 0
HasOnce sorted =
    (i j : ℕ) (a b : Entry) → slice_get sorted i ≡ Some a →
    slice_get sorted j ≡ Some b → a.1 ≡ b.1 → i ≡ j

-- each path with its place, once
pub record IsSortedOf (paths : List (List ℕ)) (sorted : List Entry) : Type 0 where
  pub rising : IsRising sorted
  pub told : (i : ℕ) (e : Entry) → slice_get sorted i ≡ Some e → slice_get paths e.1 ≡ Some e.0.now
  pub whole : (place : ℕ) (path : List ℕ) → slice_get paths place ≡ Some path → (i : ℕ) ×
      ((e : Entry) × (slice_get sorted i ≡ Some e) × (e.1 ≡ place))
  pub once : HasOnce sorted

-- the path of this entry begins the text
pub record BeginsAt (sorted : List Entry) (text : List ℕ) (i : ℕ) : Type 0 where
  pub entry : Entry
  pub at : slice_get sorted i ≡ Some entry
  pub prefix : IsPrefix entry.0.now text

-- the path of an entry with this place begins the name
pub record IsPrefixAmong (sorted : List Entry) (name : List ℕ) (place : ℕ) : Type 0 where
  pub i : ℕ
  pub entry : Entry
  pub at : slice_get sorted i ≡ Some entry
  pub place_is : entry.1 ≡ place
  pub prefix : IsPrefix entry.0.now name

-- the places of all entries whose paths begin the name, each once
pub record ArePrefixesAmong (sorted : List Entry) (name : List ℕ) (places : List ℕ) : Type 0 where
  pub each : (place : ℕ) → IsPrefixAmong sorted name place → Contains places place
  pub only : (place : ℕ) → Contains places place → IsPrefixAmong sorted name place
  pub once : (i j place : ℕ) → slice_get places i ≡ Some place →
      slice_get places j ≡ Some place → i ≡ j

-- the last below n that is so
abbrev pub FindsLastBelow : (ℕ → Type 0) → ℕ → Option ℕ → Type 0
FindsLastBelow P n None = (k : ℕ) → k < n → P k → ⊥
FindsLastBelow P n (Some k) = (k < n) × P k × ((j : ℕ) → k < j → j < n → P j → ⊥)

-- the path of this entry isn't above the text
pub record IsUpTo (sorted : List Entry) (text : List ℕ) (i : ℕ) : Type 0 where
  pub entry : Entry
  pub at : slice_get sorted i ≡ Some entry
  pub below : is_lt (slice_cmp nat_cmp text entry.0.now) ≡ false

-- the first entries have the last one before each that begins it
abbrev pub AreLinks : List Entry → List (Option ℕ) → Type 0
AreLinks sorted shorter =
    (i : ℕ) (e : Entry) (last : Option ℕ) → slice_get sorted i ≡ Some e →
    slice_get shorter i ≡ Some last →
    FindsLastBelow (BeginsAt sorted e.0.now) i last

-- all entries have
pub record AreRows (paths : List (List ℕ)) (sorted : List Entry)
    (shorter : List (Option ℕ)) : Type 0 where
  pub is : IsSortedOf paths sorted
  pub len : length shorter ≡ length sorted
  pub links : AreLinks sorted shorter
