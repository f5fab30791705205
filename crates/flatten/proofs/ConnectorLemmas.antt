-- What the numbered points of connectors tell, and how they are made.
use Rattle.std.proofs.Common.{◌≡◌, ◌⊎◌, ℕ, ◌+◌, ◌<◌, ◌≤◌, List, [], ◌∷◌, ◌++◌, length, map, get_or, Option, Some, None, position, refl, sym, ap, ◌∙◌, subst, inl, inr, arith, Bor}
use Rattle.std.specs.List.{slice_get}
use Rattle.std.specs.Option.{option_and_then}
use Rattle.std.proofs.lemmas.Bool.{cases_lt}
use Rattle.std.proofs.lemmas.List.{length-map}
use Rattle.std.proofs.lemmas.Option.{slice_get_within, slice_get_past, same_Some}
use Rattle.value_types.specs.declared.shape.Variable.{Variable}
use Rattle.value_types.specs.declared.shape.Shape.{Shape}
use Rattle.value_types.proofs.CallerLemmas.{placed_within}
use Rattle.connection_paths.specs.declared.point.Point as paths
use Rattle.connection_paths.specs.declared.point.Point.TheVariants.{Variable as Numbered, OfSystem}
use Rattle.connection_paths.specs.Paths as numbers
use Rattle.ssd_tree.specs.declared.tree.Owner.{Owner}
use Rattle.ssd_tree.specs.declared.tree.Owner.TheVariants.{System, Component}
use Rattle.ssd_tree.specs.declared.tree.Connector.{Connector}
use Rattle.ssd_tree.specs.declared.tree.SystemTree.{SystemTree}
use Rattle.flatten.specs.declared.connectors.Variables.{Variables}
use Rattle.flatten.specs.Points.{Itself, IsOfSystem, has_name, variable_of}
use Rattle.flatten.specs.Broken.{number_of}
use Rattle.flatten.specs.Indexed.{AreNumbered, AreVariables, IsPlaceIn, all_variables, begin_of, number_for, place_for, variables_in}
use Rattle.flatten.proofs.PieceLemmas.{element_at, get_left, get_piece, get_right, read_at}
use Rattle.flatten.proofs.StandsLemmas.{IsItself, IsNamed, number_within, sort_of}

-- ---- what they tell

module _ (t : SystemTree) (shapes : List Shape) (points : List paths.Point) (are : AreNumbered t shapes points) where
  pub kind_of : (c : ℕ) (n : paths.Point) → slice_get points c ≡ Some n → IsItself t shapes points c ⊎ IsNamed t shapes points c
  kind_of c n there =
      let len = are.len in
      let within = slice_get_within points c n there in
      let k = element_at t.connectors c (omega arith) in
      sort_of t shapes points are c k.0 k.1

  -- the variable that a connector names is the one with its number
  pub variable_numbered : (c n : ℕ) → slice_get points c ≡ Some (Numbered n) → slice_get (all_variables shapes) n ≡ variable_of t shapes c
  variable_numbered c n there = by (kind_of c (Numbered n) there)
    where
      by : IsItself t shapes points c ⊎ IsNamed t shapes points c → slice_get (all_variables shapes) n ≡ variable_of t shapes c
      by (inl i) =
          let number : i.number ≡ Numbered n = same_Some i.number (Numbered n) (sym i.numbered ∙ there) in
          let after = ap (number_of (length (all_variables shapes))) number in
          let past = i.after in
          slice_get_past (all_variables shapes) n (omega arith) ∙ sym i.names
      by (inr m) =
          let same : Numbered (begin_of shapes m.component + m.place) ≡ Numbered n = same_Some (Numbered (begin_of shapes m.component + m.place)) (Numbered n) (sym m.numbered ∙ there) in
          let number : begin_of shapes m.component + m.place ≡ n = cc in
          ap (slice_get (all_variables shapes)) (sym number) ∙ get_piece variables_in shapes m.component m.place m.shape m.variable m.of m.at ∙ sym m.names

  -- a connector of a System names none
  pub none_numbered : (c s : ℕ) → slice_get points c ≡ Some (OfSystem s) → variable_of t shapes c ≡ None
  none_numbered c s there = by (kind_of c (OfSystem s) there)
    where
      by : IsItself t shapes points c ⊎ IsNamed t shapes points c → variable_of t shapes c ≡ None
      by (inl i) = i.names
      by (inr m) = let un : Some (Numbered (begin_of shapes m.component + m.place)) ≡ Some (OfSystem s) = sym m.numbered ∙ there in cc

  pub system_numbered : (c s : ℕ) → slice_get points c ≡ Some (OfSystem s) → IsOfSystem t (Itself c)
  system_numbered c s there = by (kind_of c (OfSystem s) there)
    where
      by : IsItself t shapes points c ⊎ IsNamed t shapes points c → IsOfSystem t (Itself c)
      by (inl i) = i.system.0 (subst numbers.IsOfSystem (same_Some (OfSystem s) i.number (sym there ∙ i.numbered)) tt)
      by (inr m) = let un : Some (Numbered (begin_of shapes m.component + m.place)) ≡ Some (OfSystem s) = sym m.numbered ∙ there in cc

  pub other_numbered : (c n : ℕ) → slice_get points c ≡ Some (Numbered n) → IsOfSystem t (Itself c) → ⊥
  other_numbered c n there = by (kind_of c (Numbered n) there)
    where
      by : IsItself t shapes points c ⊎ IsNamed t shapes points c → IsOfSystem t (Itself c) → ⊥
      by (inl i) = λ of. subst numbers.IsOfSystem (same_Some i.number (Numbered n) (sym i.numbered ∙ there)) (i.system.1 of)
      by (inr m) = m.other

-- ---- how they are made

-- the place of a variable that is named is among those of its component
pub placed_in : (shapes : List Shape) (v : Variables) (owner : Owner) (name : List ℕ) → AreVariables shapes v → IsPlaceIn v owner (place_for shapes owner name)
placed_in shapes v (System system) name are = tt
placed_in shapes v (Component component) name are = by (slice_get shapes component) refl
  where
    none : (s : Option Shape) → slice_get shapes component ≡ s → option_and_then (λ (z : Shape). position (has_name name) z.variables) s ≡ None → IsPlaceIn v (Component component) (place_for shapes (Component component) name)
    none s e nothing = subst (IsPlaceIn v (Component component)) (sym (ap (option_and_then (λ (z : Shape). position (has_name name) z.variables)) e ∙ nothing)) tt

    at : (s : Shape) → slice_get shapes component ≡ Some s → (o : Option ℕ) → position (has_name name) s.variables ≡ o → IsPlaceIn v (Component component) (place_for shapes (Component component) name)
    at s e None f = none (Some s) e f
    at s e (Some place) f =
        let within = slice_get_within shapes component s e in
        let count : length v.all.items ≡ length (map (λ (x : Bor Variable). x.now) v.all.items) = sym (length-map v.all.items (λ (x : Bor Variable). x.now)) in
        let all = ap length are.all in
        let len = are.len in
        let begins = are.begins component (omega arith) in
        let below = number_within shapes component place s e (placed_within (has_name name) s.variables place f) in
        let placed : place_for shapes (Component component) name ≡ Some place = ap (option_and_then (λ (z : Shape). position (has_name name) z.variables)) e ∙ f in
        subst (IsPlaceIn v (Component component)) (sym placed) (omega arith, omega arith)

    by : (s : Option Shape) → slice_get shapes component ≡ s → IsPlaceIn v (Component component) (place_for shapes (Component component) name)
    by None e = none None e refl
    by (Some s) e = at s e (position (has_name name) s.variables) refl

-- the points of the connectors so far
abbrev pub AreNumberedBelow : SystemTree → List Shape → ℕ → List paths.Point → Type 0
AreNumberedBelow t shapes i points =
    (c : ℕ) (k : Connector) → c < i → slice_get t.connectors c ≡ Some k → slice_get points c ≡ Some (number_for shapes c k.owner (place_for shapes k.owner k.name))

pub numbered_more : (t : SystemTree) (shapes : List Shape) (points : List paths.Point) (i : ℕ) (k : Connector) (p : paths.Point) → length points ≡ i → i < length t.connectors → k ≡ get_or t.connectors i k → p ≡ number_for shapes i k.owner (place_for shapes k.owner k.name)
    → AreNumberedBelow t shapes i points → AreNumberedBelow t shapes (i + 1) (points ++ p ∷ [])
numbered_more t shapes points i k p len within read is below = λ c z less there. by c z there (cases_lt c i) less
  where
    by : (c : ℕ) (z : Connector) → slice_get t.connectors c ≡ Some z → (c < i) ⊎ (i ≤ c) → c < i + 1 → slice_get (points ++ p ∷ []) c ≡ Some (number_for shapes c z.owner (place_for shapes z.owner z.name))
    by c z there (inl h) less = get_left points (p ∷ []) c (number_for shapes c z.owner (place_for shapes z.owner z.name)) (below c z h there)
    by c z there (inr h) less =
        let here : c ≡ i = omega arith in
        let at : length points + 0 ≡ c = omega arith in
        let same : k ≡ z = same_Some k z (sym (read_at t.connectors (length t.connectors) i k k refl within read refl) ∙ ap (slice_get t.connectors) (sym here) ∙ there) in
        ap (slice_get (points ++ p ∷ [])) (sym at) ∙ get_right points (p ∷ []) 0 ∙ ap Some is ∙ ap (λ n. Some (number_for shapes n k.owner (place_for shapes k.owner k.name))) (sym here) ∙ ap (λ (y : Connector). Some (number_for shapes c y.owner (place_for shapes y.owner y.name))) same

pub numbered_whole : (t : SystemTree) (shapes : List Shape) (points : List paths.Point) (i : ℕ) → length points ≡ i → i ≡ length t.connectors → AreNumberedBelow t shapes i points → AreNumbered t shapes points
numbered_whole t shapes points i len end below = record {
  len = omega arith;
  each = λ c k there. let w = slice_get_within t.connectors c k there in below c k (omega arith) there;
}
