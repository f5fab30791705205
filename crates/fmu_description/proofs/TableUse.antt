-- What a table tells of a list of references.
use Rattle.std.proofs.Common.{◌≡◌, ℕ, ◌<◌, Bool, true, false, not, is_some, List, Option, Some, None, length, get_or, sym, ap, ◌∙◌, refl, subst}
use Rattle.std.proofs.lemmas.Bool.{both_ways}
use Rattle.std.proofs.lemmas.List.{get_or_read}
use Rattle.std.proofs.lemmas.List.Elements.{Contains-get_or}
use Rattle.doc_tables.specs.Tables.{Finds, IsTable}
use Rattle.fmu_description.specs.Rules.{NamesNone}

pub one_missing : (p : ℕ → Option ℕ) (refs : List ℕ) (i : ℕ) → i < length refs → p (get_or refs i 0) ≡ None
    → (key : ℕ → Option ℕ) → IsTable key p → NamesNone key refs
one_missing p refs i h e key table =
    (get_or refs i 0, Contains-get_or refs i 0 h, subst (λ (o : Option ℕ). Finds key (get_or refs i 0) o) e (table (get_or refs i 0)))

pub none_missing : (p : ℕ → Option ℕ) (refs : List ℕ) → ((j : ℕ) → j < length refs → p (get_or refs j 0) ≡ None → ⊥)
    → (key : ℕ → Option ℕ) → IsTable key p → NamesNone key refs → ⊥
none_missing p refs all key table n = go (p n.0) refl
  where
    is : n.0 ≡ get_or refs n.1.0 0
    is = get_or_read refs n.1.0 n.0 n.1.1 (sym n.1.2) 0

    go : (o : Option ℕ) → p n.0 ≡ o → ⊥
    go None e = all n.1.0 n.1.1 (ap p (sym is) ∙ e)
    go (Some k) e = n.2 (k, (subst (λ (o : Option ℕ). Finds key n.0 o) e (table n.0)).0)

pub none_from : {A : Type 0} (o : Option A) (b : Bool) → is_some o ≡ not b → b ≡ true → o ≡ None
none_from None b e h = refl
none_from (Some x) true e h = absurd (both_ways _ e refl)
none_from (Some x) false e h = absurd (both_ways _ refl h)
