-- What a table of the inner connectors finds is the one that stands for a connector of the Component.
use Rattle.std.proofs.Common.{◌≡◌, ◌∙◌, ℕ, ◌+◌, ◌<◌, ◌≤◌, ◌==◌, ◌&&◌, nat_lt, cond, Bool, true, false, not, List, [], ◌∷◌, length, map, get_or, slice_get, position, find, Option, Some, None, is_some, option_map, option_and_then, unwrap_or, refl, sym, ap, arith, if◌then◌else◌}
use Rattle.std.specs.List.{position_or_len}
use Rattle.std.specs.Str.{bytes_eq}
use Rattle.std.proofs.lemmas.Bool.{eq-eqb, eqb-true}
use Rattle.std.proofs.lemmas.Bool.Decides.{nat_tests}
use Rattle.std.proofs.lemmas.List.{length-drop, length-map, length-take}
use Rattle.std.proofs.lemmas.List.Sums.{position_or_len_is}
use Rattle.std.proofs.lemmas.Option.{get_or_from_slice_get, same_Some, slice_get-get_or, slice_get_within}
use Rattle.std.proofs.lemmas.Slice.Eq.{bytes_eq-Decides}
use Rattle.doc_tables.specs.declared.scopes.ScopedPlaces.{ScopedPlaces}
use Rattle.doc_tables.specs.Elements.{key_if}
use Rattle.doc_tables.specs.Places.{found_in}
use Rattle.doc_tables.specs.Tables.{Finds, IsTable}
use Rattle.ssd_tree.specs.declared.tree.Connector.{Connector}
use Rattle.ssd_tree.specs.declared.tree.ConnectorKind.{ConnectorKind}
use Rattle.ssd_tree.specs.declared.tree.ConnectorKind.TheVariants.{Input, Output, Parameter, CalculatedParameter}
use Rattle.nested_documents.specs.declared.seam.Seam.{Seam}
use Rattle.nested_documents.specs.Inlining.{inner_end, inner_ends, inner_place, is_inner, is_outermost, is_same_kind}
use Rattle.nested_documents.specs.Inner.{first_unfound, found_ends, found_for, inner_key, kind_scope, outermost_key}
use Rattle.nested_documents.specs.Nest.{first_lacking}

-- ---- the first that passes

fails : (b : Bool) → (b ≡ true → ⊥) → b ≡ false
fails true h = absurd (h refl)
fails false h = refl

none_at : {X : Type 0} (p : X → Bool) (xs : List X) (d : X) → ((k : ℕ) → k < length xs → p (get_or xs k d) ≡ true → ⊥) → position p xs ≡ None
none_at p xs d none =
    let n = length xs in
    let e : position_or_len p xs ≡ n = position_or_len_is p xs n d (omega arith) (λ k less. fails (p (get_or xs k d)) (none k less)) (λ less. absurd (omega (arith, less))) in
    let f : nat_lt n n ≡ false = grind (arith, nat_tests) in
    ap (λ (m : ℕ). cond (nat_lt m n) (Some m) None) e ∙ ap (λ (b : Bool). cond b (Some n) None) f

some_at : {X : Type 0} (p : X → Bool) (xs : List X) (k : ℕ) (d : X) → k < length xs → p (get_or xs k d) ≡ true → ((j : ℕ) → j < k → p (get_or xs j d) ≡ true → ⊥) → position p xs ≡ Some k
some_at p xs k d less here before =
    let e : position_or_len p xs ≡ k = position_or_len_is p xs k d (omega (arith, less)) (λ j below. fails (p (get_or xs j d)) (before j below)) (λ _. here) in
    let f : nat_lt k (length xs) ≡ true = grind (arith, nat_tests) in
    ap (λ (m : ℕ). cond (nat_lt m (length xs)) (Some m) None) e ∙ ap (λ (b : Bool). cond b (Some k) None) f

-- ---- kinds and names

same_kinds : (a b : ConnectorKind) → is_same_kind a b ≡ (kind_scope a == kind_scope b)
same_kinds Input Input = refl
same_kinds Input Output = refl
same_kinds Input Parameter = refl
same_kinds Input CalculatedParameter = refl
same_kinds Output Input = refl
same_kinds Output Output = refl
same_kinds Output Parameter = refl
same_kinds Output CalculatedParameter = refl
same_kinds Parameter Input = refl
same_kinds Parameter Output = refl
same_kinds Parameter Parameter = refl
same_kinds Parameter CalculatedParameter = refl
same_kinds CalculatedParameter Input = refl
same_kinds CalculatedParameter Output = refl
same_kinds CalculatedParameter Parameter = refl
same_kinds CalculatedParameter CalculatedParameter = refl

both : (a b : Bool) → a ≡ true → b ≡ true → a && b ≡ true
both a b e f = ap (λ (x : Bool). x && b) e ∙ f

first_of_both : (a b : Bool) → a && b ≡ true → a ≡ true
first_of_both true b e = refl
first_of_both false b e = e

second_of_both : (a b : Bool) → a && b ≡ true → b ≡ true
second_of_both true b e = e
second_of_both false b e = cc

abbrev pair : ℕ → List ℕ → ℕ × List ℕ
pair k name = (k, name)

key_of : (x : Connector) (k : ℕ) (name : List ℕ) → outermost_key x ≡ Some (pair k name) → (is_outermost x.owner ≡ true) × (kind_scope x.kind ≡ k) × (x.name ≡ name)
key_of x k name e = at (is_outermost x.owner) e
  where
    at : (b : Bool) → key_if b (Some (pair (kind_scope x.kind) x.name)) ≡ Some (pair k name) → (b ≡ true) × (kind_scope x.kind ≡ k) × (x.name ≡ name)
    at true e =
        let same = same_Some (pair (kind_scope x.kind) x.name) (pair k name) e in
        (refl, ap (λ (y : ℕ × List ℕ). y.0) same, ap (λ (y : ℕ × List ℕ). y.1) same)
    at false e = cc

-- a connector with the kind and the name of another at the outermost System is the one that stands for it
keyed_inner : (wanted x : Connector) → outermost_key x ≡ Some (pair (kind_scope wanted.kind) wanted.name) → is_inner wanted x ≡ true
keyed_inner wanted x e =
    let key = key_of x (kind_scope wanted.kind) wanted.name e in
    let named : bytes_eq x.name wanted.name ≡ true = (bytes_eq-Decides x.name wanted.name).1 key.2 in
    let kind : is_same_kind x.kind wanted.kind ≡ true = same_kinds x.kind wanted.kind ∙ eq-eqb (kind_scope x.kind) (kind_scope wanted.kind) key.1 in
    both (is_outermost x.owner) (bytes_eq x.name wanted.name && is_same_kind x.kind wanted.kind) key.0 (both (bytes_eq x.name wanted.name) (is_same_kind x.kind wanted.kind) named kind)

inner_keyed : (wanted x : Connector) → is_inner wanted x ≡ true → outermost_key x ≡ Some (pair (kind_scope wanted.kind) wanted.name)
inner_keyed wanted x e =
    let rest = bytes_eq x.name wanted.name && is_same_kind x.kind wanted.kind in
    let outer : is_outermost x.owner ≡ true = first_of_both (is_outermost x.owner) rest e in
    let others : rest ≡ true = second_of_both (is_outermost x.owner) rest e in
    let named : x.name ≡ wanted.name = (bytes_eq-Decides x.name wanted.name).0 (first_of_both (bytes_eq x.name wanted.name) (is_same_kind x.kind wanted.kind) others) in
    let same : is_same_kind x.kind wanted.kind ≡ true = second_of_both (bytes_eq x.name wanted.name) (is_same_kind x.kind wanted.kind) others in
    let kind : kind_scope x.kind ≡ kind_scope wanted.kind = eqb-true (kind_scope x.kind) (kind_scope wanted.kind) (sym (same_kinds x.kind wanted.kind) ∙ same) in
    ap (λ (b : Bool). key_if b (Some (pair (kind_scope x.kind) x.name))) outer ∙ (ap (λ (k : ℕ). Some (pair k x.name)) kind ∙ ap (λ (n : List ℕ). Some (pair (kind_scope wanted.kind) n)) named)

-- ---- the table

-- what has a key is among the connectors
pub key_within : (inner : List Connector) (k : ℕ) (y : ℕ × List ℕ) → inner_key inner k ≡ Some y → k < length inner
key_within inner k y e = at (slice_get inner k) refl e
  where
    at : (o : Option Connector) → slice_get inner k ≡ o → option_and_then outermost_key o ≡ Some y → k < length inner
    at None f e = cc
    at (Some x) f e = slice_get_within inner k x f

-- the connector at a place with the wanted kind and name
passes_at : (inner : List Connector) (wanted : Connector) (k : ℕ) → inner_key inner k ≡ Some (pair (kind_scope wanted.kind) wanted.name) → is_inner wanted (get_or inner k wanted) ≡ true
passes_at inner wanted k e = at (slice_get inner k) refl e
  where
    at : (o : Option Connector) → slice_get inner k ≡ o → option_and_then outermost_key o ≡ Some (pair (kind_scope wanted.kind) wanted.name) → is_inner wanted (get_or inner k wanted) ≡ true
    at None f e = cc
    at (Some x) f e = ap (λ (c : Connector). is_inner wanted c) (get_or_from_slice_get inner k x wanted f) ∙ keyed_inner wanted x e

key_at : (inner : List Connector) (wanted : Connector) (k : ℕ) → k < length inner → is_inner wanted (get_or inner k wanted) ≡ true → inner_key inner k ≡ Some (pair (kind_scope wanted.kind) wanted.name)
key_at inner wanted k less e =
    ap (λ (o : Option Connector). option_and_then outermost_key o) (slice_get-get_or inner k wanted less) ∙ inner_keyed wanted (get_or inner k wanted) e

finds_inner : (inner : List Connector) (wanted : Connector) (o : Option ℕ) → Finds (inner_key inner) (pair (kind_scope wanted.kind) wanted.name) o → o ≡ inner_place inner wanted
finds_inner inner wanted None none = sym (none_at (is_inner wanted) inner wanted (λ k less e. none (k, key_at inner wanted k less e)))
finds_inner inner wanted (Some k) found =
    let less : k < length inner = key_within inner k (pair (kind_scope wanted.kind) wanted.name) found.0 in
    sym (some_at (is_inner wanted) inner k wanted less (passes_at inner wanted k found.0) (λ j below e. found.1 j below (key_at inner wanted j (omega (arith, less, below)) e)))

module _ (inner : List Connector) (places : ScopedPlaces) (table : IsTable (inner_key inner) (found_in places)) where
  pub found_is : (wanted : Connector) → found_for places wanted ≡ inner_place inner wanted
  found_is wanted = finds_inner inner wanted (found_for places wanted) (table (pair (kind_scope wanted.kind) wanted.name))

  pub unfound_is : (own : List Connector) → first_unfound own places ≡ first_lacking own inner
  unfound_is [] = refl
  unfound_is (x ∷ own) =
      ap (λ (o : Option ℕ). option_map (λ (x : Connector). x.node) (if not (is_some o) then Some x else find (λ (x : Connector). not (is_some (found_for places x))) own)) (found_is x)
      ∙ rest (not (is_some (inner_place inner x))) (unfound_is own)
    where
      rest : (b : Bool) → first_unfound own places ≡ first_lacking own inner → option_map (λ (x : Connector). x.node) (if b then Some x else find (λ (x : Connector). not (is_some (found_for places x))) own) ≡ option_map (λ (x : Connector). x.node) (if b then Some x else find (λ (x : Connector). not (is_some (inner_place inner x))) own)
      rest true more = refl
      rest false more = more

  pub ends_are : (s : Seam) (own : List Connector) → found_ends s places own ≡ map (inner_end s inner) own
  ends_are s [] = refl
  ends_are s (x ∷ own) =
      ap (λ (o : Option ℕ). (unwrap_or o 0 + s.connectors_before) ∷ found_ends s places own) (found_is x) ∙ ap (λ (es : List ℕ). inner_end s inner x ∷ es) (ends_are s own)

-- ---- how many

pub ends_within : (s : Seam) (outer inner : List Connector) → s.connectors_before ≤ length outer → s.connectors_before + length (inner_ends s outer inner) ≤ length outer
ends_within s outer inner le = simp (length-map, length-take, length-drop) (omega arith)
