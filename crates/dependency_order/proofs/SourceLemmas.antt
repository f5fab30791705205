-- Where each node has one link into it at most, it is reached from one start at most.
use Rattle.std.proofs.Common.{◌≡◌, ◌↔◌, ℕ, Bool, List, [], ◌∷◌, Option, Some, None, Result, Ok, Err, refl, ap, ◌∙◌, subst}
use Rattle.std.specs.List.{Contains, All}
use Rattle.std.specs.Result.{IfOk}
use Rattle.std.specs.declared.alloc.Global.{Global}
use Rattle.std.specs.declared.vec.Vec.{Vec}
use Rattle.std.proofs.lemmas.List.Elements.{All-head, All-tail}
use Rattle.dependency_order.specs.Graph.{Needs, Leads}
use Rattle.dependency_order.specs.Paths.{IsMarked, at, IsReached, IsSpread, IsSingle, Reaches}

module _ {A : Type 0} (Link : A → A → Type 0) (Through : A → Type 0) where
  -- a path read from its end: the nodes between, the last first
  abbrev Back : A → List A → A → Type 0
  Back a [] b = Link a b
  Back a (y ∷ ys) b = Back a ys y × Through y × Link y b

  onto : (a m : A) (ys xs : List A) (b : A) → Back a ys m → Through m → All Through xs → Leads Link m xs b → (zs : List A) × Back a zs b
  onto a m ys [] b p t all leads = (m ∷ ys, (p, t, leads))
  onto a m ys (x ∷ xs) b p t all leads = onto a x (m ∷ ys) xs b (p, t, leads.0) (All-head Through x xs all) (All-tail Through x xs all) leads.1

  back : (a : A) (xs : List A) (b : A) → All Through xs → Leads Link a xs b → (zs : List A) × Back a zs b
  back a [] b all leads = ([], leads)
  back a (x ∷ xs) b all leads = onto a x [] xs b leads.0 (All-head Through x xs all) (All-tail Through x xs all) leads.1

  same_start : (a b : A) → ((p q x : A) → Link p x → Link q x → p ≡ q) → (Through a → ⊥) → (Through b → ⊥) → (ys zs : List A) (x : A) → Back a ys x → Back b zs x → a ≡ b
  same_start a b single na nb [] [] x p q = single a b x p q
  same_start a b single na nb [] (z ∷ zs) x p q = absurd (na (subst Through (single z a x q.2 p) q.1))
  same_start a b single na nb (y ∷ ys) [] x p q = absurd (nb (subst Through (single y b x p.2 q) p.1))
  same_start a b single na nb (y ∷ ys) (z ∷ zs) x p q = same_start a b single na nb ys zs y p.0 (subst (Back b zs) (single z y x q.2 p.2) q.0)

  pub source_alone : (a b x : A) → ((p q y : A) → Link p y → Link q y → p ≡ q) → (Through a → ⊥) → (Through b → ⊥) → Reaches Link Through a x → Reaches Link Through b x → a ≡ b
  source_alone a b x single na nb r q =
      let p = back a r.between x r.through r.leads in
      let o = back b q.between x q.through q.leads in
      same_start a b single na nb p.0 o.0 x p.1 o.1

pub sources_exact : {E : Type 0} (r : Result (Vec (Option ℕ) Global) E) (links : List (List ℕ)) (through : List Bool) (starts : List ℕ) → IsSingle links → ((s : ℕ) → Contains starts s → IsMarked through s → ⊥)
    → IfOk r (λ found. IsSpread links through starts found.items) → IfOk r (λ found. (x s : ℕ) → (at found.items x ≡ Some s) ↔ (Contains starts s × IsReached links through s x))
sources_exact (Err e) links through starts single apart spread = tt
sources_exact (Ok found) links through starts single apart spread =
    λ x s. (λ e. spread.start x s e, λ h. by x s h (at found.items x) refl)
  where
    by : (x s : ℕ) → Contains starts s × IsReached links through s x → (o : Option ℕ) → at found.items x ≡ o → at found.items x ≡ Some s
    by x s h None e = absurd (spread.none x s e h.0 h.1)
    by x s h (Some t) e =
        let was = spread.start x t e in
        e ∙ ap Some (source_alone (Needs links) (IsMarked through) t s x single (apart t was.0) (apart s h.0) was.1 h.1)
