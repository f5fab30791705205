-- A map after an insertion, at the key and at every other.
use Rattle.std.proofs.Common.{◌≡◌, ◌⊎◌, Bool, true, false, cond, Option, refl, sym, ap, ◌∙◌, inl, inr}
use Rattle.std.specs.BTreeMap.{BTreeMap, get, UpdatesBy}
use Rattle.std.specs.Cmp.{IsTotalOrder}
use Rattle.std.specs.Ordering.{is_eq}
use Rattle.std.specs.declared.cmp.Ordering.{Ordering}
use Rattle.std.proofs.lemmas.Bool.{false≢true}
use Rattle.std.proofs.lemmas.Cmp.{tied_itself}
use Rattle.std.proofs.lemmas.Map.Lookups.{CmpEqualImpliesEq}
use Rattle.std.proofs.lemmas.Map.Views.{tells_apart}

pub updated_each : {K X : Type 0} (R : K → K → Ordering) → IsTotalOrder R → CmpEqualImpliesEq R → (old new : BTreeMap K X) (key : K) (w : Option X) → UpdatesBy R (R key) old new w
    → (x : K) → ((x ≡ key) × (get R new x ≡ w)) ⊎ ((x ≡ key → ⊥) × (get R new x ≡ get R old x))
updated_each {K} {X} R total exact old new key w u x = by (is_eq (R key x)) refl
  where
    by : (b : Bool) → is_eq (R key x) ≡ b → ((x ≡ key) × (get R new x ≡ w)) ⊎ ((x ≡ key → ⊥) × (get R new x ≡ get R old x))
    by true e = inl (sym (tells_apart exact key x e), u.0 x ∙ ap (λ b. cond b w (get R old x)) e)
    by false e = inr (λ same. false≢true (sym e ∙ ap (λ z. is_eq (R key z)) same ∙ ap is_eq (tied_itself total key)), u.0 x ∙ ap (λ b. cond b w (get R old x)) e)
