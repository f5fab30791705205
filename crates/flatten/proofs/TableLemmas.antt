-- A table by numbers: empty, and after an insertion.
use Rattle.std.proofs.Common.{◌≡◌, ℕ, Bool, true, false, cond, Option, Some, None, [], refl, sym, ap, eqb, ltb}
use Rattle.std.specs.BTreeMap.{BTreeMap, UpdatesBy, is_at}
use Rattle.std.specs.Map.{lookup}
use Rattle.std.specs.Ordering.{is_eq, nat_cmp}
use Rattle.std.specs.declared.cmp.Ordering.TheVariants.{Less, Equal, Greater}
use Rattle.std.proofs.lemmas.Bool.{eqb-true}
use Rattle.flatten.specs.Ports.{at_number}

apart : (k n : ℕ) → (n ≡ k → ⊥) → is_eq (nat_cmp k n) ≡ false
apart k n other = by (ltb k n) (eqb k n) refl
  where
    by : (l c : Bool) → eqb k n ≡ c → is_eq (cond l Less (cond c Equal Greater)) ≡ false
    by true c e = refl
    by false true e = absurd (other (sym (eqb-true k n e)))
    by false false e = refl

pub none_under : {X : Type 0} (table : BTreeMap ℕ X) → table.entries ≡ [] → (n : ℕ) → at_number table n ≡ None
none_under table empty n = ap (lookup (is_at (nat_cmp n))) empty

module _ {X : Type 0} (old new : BTreeMap ℕ X) (k : ℕ) (x : X) (updates : UpdatesBy nat_cmp (nat_cmp k) old new (Some x)) where
  pub put_here : at_number new k ≡ Some x
  put_here = updates.1

  pub put_apart : (n : ℕ) → (n ≡ k → ⊥) → at_number new n ≡ at_number old n
  put_apart n other = updates.2 n (apart k n other)
