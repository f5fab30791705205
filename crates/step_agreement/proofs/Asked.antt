-- Who is asked for what on the way to an agreement: where each step that is asked for ends well, each ask is after the beginning, and so is the point; and each FMU keeps one that it was asked.
use Rattle.std.proofs.Common.{◌≡◌, ◌≢◌, ◌⊎◌, inl, inr, ℕ, ◌<◌, ◌≤◌, ◌==◌, Bool, true, false, not, List, [], Some, refl, sym, ap, ◌∙◌, subst, arith, map}
use Rattle.std.specs.Prelude.{if◌then◌else◌}
use Rattle.std.specs.List.{list_all, slice_get}
use Rattle.std.specs.Option.{option_map}
use Rattle.std.proofs.lemmas.Bool.Decides.{nat_tests}
use Rattle.std.proofs.lemmas.Option.{get_or_from_slice_get, slice_get-map}
use Rattle.run_model.specs.Stepping.{kept_at}
use Rattle.run_model.specs.Steps.{Agree, AllMeet, AskedAgain, AskedFirst, AskedLater, Falls, IsAsked, MayAsk, MayAskAgain, OthersMeet, Stepper, fallen_bound, is_other, kept_ask, met, others}
use Rattle.step_agreement.specs.Exists.{EndWell}
use Rattle.step_agreement.proofs.Agreed.{all_of_each}
use Rattle.step_agreement.proofs.Existence.{fallen_within, later_well, met_within}
use Rattle.step_agreement.proofs.Lists.{Holds, all_each, filter_from, least_is, not_all}

equal : (a b : ℕ) → (a == b) ≡ true → a ≡ b
equal a b q = grind (arith, nat_tests)

unequal : (a b : ℕ) → (a == b) ≡ false → a ≢ b
unequal a b q = grind (arith, nat_tests)

unnot : (x : Bool) → not x ≡ true → x ≡ false
unnot true h = absurd (cc)
unnot false h = refl

module _ (fmus : List Stepper) (t step : ℕ) where
  -- a step that is asked for an end after t ends after t, and at that at most
  abbrev pub EndWhereAsked : ℕ → Type 0
  EndWhereAsked b = (i e : ℕ) (f : Stepper) → IsAsked fmus (λ k. true) t step b i e → t < e → slice_get fmus i ≡ Some f → (t < f.end e) × (f.end e ≤ e)

  module _ (b : ℕ) (later : t < b) (well : EndWhereAsked b) (may : MayAsk fmus t step b) where
    met_later : t < met fmus b
    met_later = by (least_is (λ (f : Stepper). f.end b) b fmus) where
      by : ((met fmus b ≡ b) × (fmus ≡ [])) ⊎ ((x : Stepper) × Holds fmus x × (met fmus b ≡ x.end b)) → t < met fmus b
      by (inl none) = let e = none.0 in omega (arith, e, later)
      by (inr one) = let l = (well one.1.0 b one.0 (AskedFirst b one.1.0 b may (inl refl) refl) later one.1.1).0 in let e = one.2 in omega (arith, e, l)

    fallen_later : met fmus b ≢ b → MayAskAgain fmus t step b → t < fallen_bound fmus b
    fallen_later apart again = by (least_is (λ (f : Stepper). f.end (met fmus b)) b (others fmus b)) where
      by : ((fallen_bound fmus b ≡ b) × (others fmus b ≡ [])) ⊎ ((x : Stepper) × Holds (others fmus b) x × (fallen_bound fmus b ≡ x.end (met fmus b))) → t < fallen_bound fmus b
      by (inl none) = let e = none.0 in omega (arith, e, later)
      by (inr one) =
          let from = filter_from (is_other b (met fmus b)) fmus one.1.0 one.0 one.1.1 in
          let ne = unequal (one.0.end b) (met fmus b) (unnot (one.0.end b == met fmus b) from.1) in
          let l = (well from.0.0 (met fmus b) one.0 (AskedAgain b from.0.0 (met fmus b) may apart again one.0 from.0.1 ne refl) met_later from.0.1).0 in
          let e = one.2 in
          omega (arith, e, l)

  pub asked_later : (b i e : ℕ) → IsAsked fmus (λ k. true) t step b i e → t < b → EndWhereAsked b → t < e
  asked_later _ _ _ (AskedFirst b i e may who is) later well = omega (arith, is, later)
  asked_later _ _ _ (AskedAgain b i e may apart again f at ne is) later well = let l = met_later b later well may in omega (arith, is, l)
  asked_later _ _ _ (AskedLater b i e may apart again never more) later well =
      asked_later (fallen_bound fmus b) i e more (fallen_later b later well may apart again) (λ j x f asked above at. well j x f (AskedLater b j x may apart again never asked) above at)

  pub end_well : (b : ℕ) → t < b → EndWhereAsked b → EndWell fmus t step b
  end_well b later well i e f asked at = well i e f asked (asked_later b i e asked later well) at

  -- ---- the point

  pub agree_within : (b : ℕ) (kept : List ℕ) (point : ℕ) → Agree fmus t step b kept point → t < b → EndWell fmus t step b → (t < point) × (point ≤ b)
  agree_within _ _ _ (AllMeet b kept point may meets kept_is is) later well = (omega (arith, is, later), omega (arith, is))
  agree_within _ _ _ (OthersMeet b kept point may apart again ended kept_is is) later well =
      let w = met_within fmus t step b later well may in let low = w.0 in let high = w.1 in (omega (arith, is, low), omega (arith, is, high))
  agree_within _ _ _ (Falls b kept point may apart again never more) later well =
      by (list_all (λ (f : Stepper). f.end (met fmus b) == met fmus b) (others fmus b)) refl (λ low fell. agree_within (fallen_bound fmus b) kept point more low fell) where
        by : (x : Bool) → list_all (λ (f : Stepper). f.end (met fmus b) == met fmus b) (others fmus b) ≡ x → (t < fallen_bound fmus b → EndWell fmus t step (fallen_bound fmus b) → (t < point) × (point ≤ fallen_bound fmus b)) → (t < point) × (point ≤ b)
        by true all go = absurd (never (all_of_each (λ (f : Stepper). f.end (met fmus b) ≡ met fmus b) (others fmus b) (λ i f at. equal (f.end (met fmus b)) (met fmus b) (all_each (λ (f : Stepper). f.end (met fmus b) == met fmus b) (others fmus b) all i f at))))
        by false some go =
            let w = fallen_within fmus t step b later well may apart again (not_all (λ (f : Stepper). f.end (met fmus b) == met fmus b) (others fmus b) some) in
            let low = w.0 in let high = w.1 in
            let on = go low (later_well fmus t step b later well may apart again never) in
            let after = on.0 in let inside = on.1 in
            (after, omega (arith, inside, high))

  -- ---- the asks that are kept

  kept_of : (h : Stepper → ℕ) (i : ℕ) (f : Stepper) → slice_get fmus i ≡ Some f → kept_at (map h fmus) i ≡ h f
  kept_of h i f at = get_or_from_slice_get (map h fmus) i (h f) 0 (slice_get-map h fmus i ∙ ap (option_map h) at)

  pub kept_asked : (b : ℕ) (kept : List ℕ) (point : ℕ) → Agree fmus t step b kept point → (i : ℕ) (f : Stepper) → slice_get fmus i ≡ Some f → IsAsked fmus (λ k. true) t step b i (kept_at kept i)
  kept_asked _ _ _ (AllMeet b kept point may meets kept_is is) i f at = AskedFirst b i (kept_at kept i) may (inl refl) (ap (λ (xs : List ℕ). kept_at xs i) kept_is ∙ kept_of (λ (x : Stepper). b) i f at)
  kept_asked _ _ _ (OthersMeet b kept point may apart again ended kept_is is) i f at =
      subst (IsAsked fmus (λ k. true) t step b i) (sym (ap (λ (xs : List ℕ). kept_at xs i) kept_is ∙ kept_of (kept_ask b (met fmus b)) i f at)) (by (f.end b == met fmus b) refl) where
        by : (x : Bool) → (f.end b == met fmus b) ≡ x → IsAsked fmus (λ k. true) t step b i (if x then b else met fmus b)
        by true h = AskedFirst b i b may (inl refl) refl
        by false h = AskedAgain b i (met fmus b) may apart again f at (unequal (f.end b) (met fmus b) h) refl
  kept_asked _ _ _ (Falls b kept point may apart again never more) i f at = AskedLater b i (kept_at kept i) may apart again never (kept_asked (fallen_bound fmus b) kept point more i f at)
