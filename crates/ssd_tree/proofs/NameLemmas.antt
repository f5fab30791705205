-- The full name of an element, from its last name out.
use Rattle.std.proofs.Common.{◌≡◌, ◌∙◌, ℕ, ◌+◌, ◌<◌, List, ◌∷◌, ◌++◌, length, Option, Some, None, IfSome, codes, sym, ap, subst, arith, length-append}
use Rattle.std.proofs.lemmas.Option.{same_Some, none-some}
use Rattle.doc_grammar.specs.Nodes.{Node}
use Rattle.doc_tables.specs.Elements.{attribute, parent}
use Rattle.ssd_tree.specs.Elements.{holder}
use Rattle.ssd_tree.specs.Names.{HasNameLength}
use Rattle.ssd_tree.specs.Parts.{IsFullName, InOutermost, InInner}
use Rattle.ssd_tree.proofs.ElementLemmas.{holder_cases}

-- the full name of an element is that of an outer one with so many bytes after it
pub record IsNameAfter (t : List Node) (k outer after : ℕ) : Type 0 where
  pub grows : (above : List ℕ) → IsFullName t outer above → (name : List ℕ) × IsFullName t k name × (length name ≡ length above + after)
  pub begins : (name : List ℕ) → IsFullName t k name → (above : List ℕ) × IsFullName t outer above × (length name ≡ length above + after)

full_held : (t : List Node) (k : ℕ) (name : List ℕ) → IsFullName t k name → (outer : ℕ) × (holder t k (codes "Elements") ≡ Some outer)
full_held t k name (InOutermost _ outer _ up root named) = (outer, up)
full_held t k name (InInner _ system outer above own up inner is named) = (system, up)

full_named : (t : List Node) (k : ℕ) (name : List ℕ) → IsFullName t k name → (own : List ℕ) × (attribute t k (codes "name") ≡ Some own)
full_named t k name (InOutermost _ outer _ up root named) = (name, named)
full_named t k name (InInner _ system outer above own up inner is named) = (own, named)

-- an element within one that doesn't stand in the root
name_inside : (t : List Node) (k system : ℕ) (own name : List ℕ) → holder t k (codes "Elements") ≡ Some system → attribute t k (codes "name") ≡ Some own → (parent t system ≡ Some 0 → ⊥) → IsFullName t k name
    → (above : List ℕ) × IsFullName t system above × (length name ≡ length above + (length own + 1))
name_inside t k system own name up named inside (InOutermost _ outer _ up' root named') =
    absurd (inside (subst (λ (z : ℕ). parent t z ≡ Some 0) (same_Some outer system (sym up' ∙ up)) root))
name_inside t k system own name up named inside (InInner _ system' outer above own' up' inner is named') =
    let same : system' ≡ system = same_Some system' system (sym up' ∙ up) in
    let last : length own' ≡ length own = ap (λ (z : List ℕ). length z) (same_Some own' own (sym named' ∙ named)) in
    let long = length-append above (46 ∷ own') in
    (above, subst (λ (z : ℕ). IsFullName t z above) same is, omega (arith, last, long))

pub name_more : (t : List Node) (k current outer after more : ℕ) (own : List ℕ) → holder t current (codes "Elements") ≡ Some outer → attribute t current (codes "name") ≡ Some own → (parent t outer ≡ Some 0 → ⊥) → more ≡ (length own + 1) + after → IsNameAfter t k current after
    → IsNameAfter t k outer more
name_more t k current outer after more own up named inside e b = record {
  grows = λ above is.
      let held = full_held t outer above is in
      let rest = b.grows (above ++ 46 ∷ own) (InInner current outer held.0 above own up held.1 is named) in
      let long = length-append above (46 ∷ own) in
      let len = rest.2 in
      (rest.0, rest.1, omega (arith, e, long, len));
  begins = λ name is.
      let here = b.begins name is in
      let out = name_inside t current outer own here.0 up named inside here.1 in
      let one = here.2 in
      let two = out.2 in
      (out.0, out.1, omega (arith, e, one, two));
}

module _ (t : List Node) (top : (p : ℕ) → parent t 0 ≡ Some p → ⊥) where
  -- what stands directly in the root stands in no list of another element
  in_root_alone : (k p : ℕ) → parent t k ≡ Some 0 → holder t k (codes "Elements") ≡ Some p → ⊥
  in_root_alone k p root up =
      let parts = holder_cases t k p (codes "Elements") up in
      let same : parts.0 ≡ 0 = same_Some parts.0 0 (sym parts.1 ∙ root) in
      top p (subst (λ (z : ℕ). parent t z ≡ Some p) same parts.3)

  name_last : (k outer : ℕ) (own name : List ℕ) → holder t k (codes "Elements") ≡ Some outer → attribute t k (codes "name") ≡ Some own → parent t outer ≡ Some 0 → IsFullName t k name → length name ≡ length own
  name_last k outer own name up named root (InOutermost _ outer' _ up' root' named') =
      ap (λ (z : List ℕ). length z) (same_Some name own (sym named' ∙ named))
  name_last k outer own name up named root (InInner _ system outer' above own' up' inner is named') =
      absurd (in_root_alone outer outer' root (subst (λ (z : ℕ). holder t z (codes "Elements") ≡ Some outer') (same_Some system outer (sym up' ∙ up)) inner))

  pub name_ended : (k current outer after n : ℕ) (own : List ℕ) → holder t current (codes "Elements") ≡ Some outer → attribute t current (codes "name") ≡ Some own → parent t outer ≡ Some 0 → n ≡ length own + after → IsNameAfter t k current after → HasNameLength t k n
  name_ended k current outer after n own up named root e b =
      let whole = b.grows own (InOutermost current outer own up root named) in record {
        name = whole.0;
        is = whole.1;
        each = λ other is.
            let here = b.begins other is in
            let last = name_last current outer own here.0 up named root here.1 in
            let long = here.2 in
            omega (arith, e, last, long);
      }

pub none_held : (t : List Node) (k current after : ℕ) → holder t current (codes "Elements") ≡ None → IsNameAfter t k current after → (name : List ℕ) → IsFullName t k name → ⊥
none_held t k current after none b name is =
    let here = b.begins name is in
    let held = full_held t current here.0 here.1 in
    none-some held.0 (sym none ∙ held.1)

pub none_named : (t : List Node) (k current after : ℕ) → attribute t current (codes "name") ≡ None → IsNameAfter t k current after → (name : List ℕ) → IsFullName t k name → ⊥
none_named t k current after none b name is =
    let here = b.begins name is in
    let named = full_named t current here.0 here.1 in
    none-some named.0 (sym none ∙ named.1)

-- nothing stands before the root
pub root_top : (t : List Node) (o : Option ℕ) → o ≡ parent t 0 → IfSome o (λ p. p < 0) → (p : ℕ) → parent t 0 ≡ Some p → ⊥
root_top t None e before p up = none-some p (e ∙ up)
root_top t (Some q) e before p up = absurd (omega (arith, before))
