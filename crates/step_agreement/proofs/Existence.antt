-- An agreement or a stop is there, since the bounds fall.
use Rattle.std.proofs.Common.{◌≡◌, ◌≢◌, ◌⊎◌, inl, inr, ℕ, zero, suc, ◌-◌, ◌<◌, ◌≤◌, ◌==◌, Bool, true, false, not, List, [], Option, Some, None, refl, sym, ◌∙◌, arith, map, position}
use Rattle.std.specs.Prelude.{◌&&◌}
use Rattle.std.specs.List.{list_all}
use Rattle.std.proofs.lemmas.Bool.Decides.{nat_tests}
use Rattle.std.proofs.lemmas.Option.{none-some as none_some}
use Rattle.run_model.specs.Steps.{Agree, AllMeet, AskedAgain, AskedFirst, AskedLater, Falls, FixedStep, MayAsk, MayAskAgain, OthersEnd, OthersMeet, Stepper, StopsAgain, StopsFirst, StopsLater, StopsShort, fallen_bound, is_other, kept_ask, met, others}
use Rattle.step_agreement.specs.Exists.{AgreesOrStops, EndWell}
use Rattle.step_agreement.proofs.Agreed.{all_of_each, each_of_all}
use Rattle.step_agreement.proofs.Lists.{Each, Holds, Passes, all_each, filter_from, least_is, least_low, least_one, not_all}

equal : (a b : ℕ) → (a == b) ≡ true → a ≡ b
equal a b q = grind (arith, nat_tests)

unequal : (a b : ℕ) → (a == b) ≡ false → a ≢ b
unequal a b q = grind (arith, nat_tests)

module _ (fmus : List Stepper) (t step : ℕ) where
  -- all of some may be asked, or the least that can't is there
  fixed_or_none : (is_asked : Stepper → Bool) (e : ℕ) → ((i : ℕ) → FixedStep fmus is_asked t step i e → ⊥) ⊎ ((i : ℕ) × FixedStep fmus is_asked t step i e)
  fixed_or_none is_asked e = by ((e - t) == step) (position (λ (f : Stepper). is_asked f && not f.has_variable_steps) fmus) refl refl where
    by : (x : Bool) (o : Option ℕ) → ((e - t) == step) ≡ x → position (λ (f : Stepper). is_asked f && not f.has_variable_steps) fmus ≡ o → ((i : ℕ) → FixedStep fmus is_asked t step i e → ⊥) ⊎ ((i : ℕ) × FixedStep fmus is_asked t step i e)
    by true o same is = inl (λ i f. f.other_size (equal (e - t) step same))
    by false None same is = inl (λ i f. none_some i (sym is ∙ f.least))
    by false (Some i) same is = inr (i, record { other_size = unequal (e - t) step same; least = is })

  Result : ℕ → Type 0
  Result b = ((kept : List ℕ) × (point : ℕ) × Agree fmus t step b kept point) ⊎ ((i e : ℕ) × StopsShort fmus t step b i e)

  module _ (b : ℕ) (later : t < b) (well : EndWell fmus t step b) (may : MayAsk fmus t step b) where
    end_of : Stepper → ℕ
    end_of f = f.end b

    first : Each (λ (f : Stepper). (t < f.end b) × (f.end b ≤ b)) fmus
    first i f at = well i b f (AskedFirst b i b may (inl refl) refl) at

    met_least : ((met fmus b ≡ b) × (fmus ≡ [])) ⊎ ((x : Stepper) × Holds fmus x × (met fmus b ≡ x.end b))
    met_least = least_is (λ (f : Stepper). f.end b) b fmus

    pub met_within : (t < met fmus b) × (met fmus b ≤ b)
    met_within = by met_least where
      by : ((met fmus b ≡ b) × (fmus ≡ [])) ⊎ ((x : Stepper) × Holds fmus x × (met fmus b ≡ x.end b)) → (t < met fmus b) × (met fmus b ≤ b)
      by (inl none) = let e = none.0 in (omega (arith, e, later), omega (arith, e))
      by (inr one) = let w = first one.1.0 one.0 one.1.1 in let e = one.2 in let l = w.0 in let h = w.1 in (omega (arith, e, l), omega (arith, e, h))

    module _ (apart : met fmus b ≢ b) (again : MayAskAgain fmus t step b) where
      m : ℕ
      m = met fmus b

      second : Each (λ (f : Stepper). is_other b (met fmus b) f ≡ true → (t < f.end (met fmus b)) × (f.end (met fmus b) ≤ met fmus b)) fmus
      second i f at other = well i (met fmus b) f (AskedAgain b i (met fmus b) may apart again f at (unequal (f.end b) (met fmus b) (unnot (f.end b == met fmus b) other)) refl) at where
        unnot : (x : Bool) → not x ≡ true → x ≡ false
        unnot true h = absurd (cc)
        unnot false h = refl

      -- where one of the others ends elsewhere, the next bound is past t and below this one
      pub fallen_within : Passes (λ (f : Stepper). f.end (met fmus b) == met fmus b) false (others fmus b) → (t < fallen_bound fmus b) × (fallen_bound fmus b < b)
      fallen_within missed =
          let one = least_one (λ (f : Stepper). f.end (met fmus b)) b (others fmus b) missed.1 (missed.0, missed.2) in
          let from = filter_from (is_other b (met fmus b)) fmus one.1.0 one.0 one.1.1 in
          let w = second from.0.0 one.0 from.0.1 from.1 in
          let here = filter_from (is_other b (met fmus b)) fmus missed.0 missed.1 missed.2 in
          let v = second here.0.0 missed.1 here.0.1 here.1 in
          let low = least_low (λ (f : Stepper). f.end (met fmus b)) b (others fmus b) missed.0 missed.1 missed.2 in
          let ne = unequal (missed.1.end (met fmus b)) (met fmus b) missed.3 in
          let e = one.2 in let l = w.0 in let h = v.1 in let k = met_within.1 in
          (omega (arith, e, l), omega (arith, low, h, ne, k))

      pub later_well : (OthersEnd fmus b → ⊥) → EndWell fmus t step (fallen_bound fmus b)
      later_well not_end i e f asked at = well i e f (AskedLater b i e may apart again not_end asked) at

  comes_by : (n b : ℕ) → b ≤ n → t < b → EndWell fmus t step b → ((kept : List ℕ) × (point : ℕ) × Agree fmus t step b kept point) ⊎ ((i e : ℕ) × StopsShort fmus t step b i e)
  comes_by zero b within later well = absurd (omega (arith, within, later))
  comes_by (suc n) b within later well =
      first_by b within later well (fixed_or_none (λ f. true) b) (λ c c_within c_later c_well. comes_by n c c_within c_later c_well) where
        Out : ℕ → Type 0
        Out b = ((kept : List ℕ) × (point : ℕ) × Agree fmus t step b kept point) ⊎ ((i e : ℕ) × StopsShort fmus t step b i e)

        first_by : (b : ℕ) → b ≤ suc n → t < b → EndWell fmus t step b → ((i : ℕ) → FixedStep fmus (λ f. true) t step i b → ⊥) ⊎ ((i : ℕ) × FixedStep fmus (λ f. true) t step i b) →
            ((c : ℕ) → c ≤ n → t < c → EndWell fmus t step c → ((kept : List ℕ) × (point : ℕ) × Agree fmus t step c kept point) ⊎ ((i e : ℕ) × StopsShort fmus t step c i e)) →
            ((kept : List ℕ) × (point : ℕ) × Agree fmus t step b kept point) ⊎ ((i e : ℕ) × StopsShort fmus t step b i e)
        first_by b within later well (inr one) go = inr (one.0, b, StopsFirst b one.0 b one.1 refl)
        first_by b within later well (inl may) go = met_by (met fmus b == b) refl where
          met_by : (x : Bool) → (met fmus b == b) ≡ x → ((kept : List ℕ) × (point : ℕ) × Agree fmus t step b kept point) ⊎ ((i e : ℕ) × StopsShort fmus t step b i e)
          met_by true is = inl (map (λ (f : Stepper). b) fmus, b, AllMeet b (map (λ (f : Stepper). b) fmus) b may (equal (met fmus b) b is) refl refl)
          met_by false is = again_by (fixed_or_none (is_other b (met fmus b)) (met fmus b)) where
            apart : met fmus b ≢ b
            apart = unequal (met fmus b) b is

            again_by : ((i : ℕ) → FixedStep fmus (is_other b (met fmus b)) t step i (met fmus b) → ⊥) ⊎ ((i : ℕ) × FixedStep fmus (is_other b (met fmus b)) t step i (met fmus b)) →
                ((kept : List ℕ) × (point : ℕ) × Agree fmus t step b kept point) ⊎ ((i e : ℕ) × StopsShort fmus t step b i e)
            again_by (inr one) = inr (one.0, met fmus b, StopsAgain b one.0 (met fmus b) may apart one.1 refl)
            again_by (inl again) = end_by (list_all (λ (f : Stepper). f.end (met fmus b) == met fmus b) (others fmus b)) refl where
              end_by : (x : Bool) → list_all (λ (f : Stepper). f.end (met fmus b) == met fmus b) (others fmus b) ≡ x → ((kept : List ℕ) × (point : ℕ) × Agree fmus t step b kept point) ⊎ ((i e : ℕ) × StopsShort fmus t step b i e)
              end_by true all =
                  inl (
                    map (kept_ask b (met fmus b)) fmus,
                    met fmus b,
                    OthersMeet b (map (kept_ask b (met fmus b)) fmus) (met fmus b) may apart again
                        (all_of_each (λ (f : Stepper). f.end (met fmus b) ≡ met fmus b) (others fmus b) (λ i f at. equal (f.end (met fmus b)) (met fmus b) (all_each (λ (f : Stepper). f.end (met fmus b) == met fmus b) (others fmus b) all i f at))) refl refl,
                  )
              end_by false some =
                  let missed = not_all (λ (f : Stepper). f.end (met fmus b) == met fmus b) (others fmus b) some in
                  let w = fallen_within b later well may apart again missed in
                  let low = w.0 in let high = w.1 in
                  fall (go (fallen_bound fmus b) (omega (arith, high, within)) low (later_well b later well may apart again (not_end missed))) (not_end missed) where
                    not_end : Passes (λ (f : Stepper). f.end (met fmus b) == met fmus b) false (others fmus b) → OthersEnd fmus b → ⊥
                    not_end missed ended =
                        unequal (missed.1.end (met fmus b)) (met fmus b) missed.3 (each_of_all (λ (f : Stepper). f.end (met fmus b) ≡ met fmus b) (others fmus b) ended missed.0 missed.1 missed.2)

                    fall : ((kept : List ℕ) × (point : ℕ) × Agree fmus t step (fallen_bound fmus b) kept point) ⊎ ((i e : ℕ) × StopsShort fmus t step (fallen_bound fmus b) i e) → (OthersEnd fmus b → ⊥) →
                        ((kept : List ℕ) × (point : ℕ) × Agree fmus t step b kept point) ⊎ ((i e : ℕ) × StopsShort fmus t step b i e)
                    fall (inl h) ne = inl (h.0, h.1, Falls b h.0 h.1 may apart again ne h.2)
                    fall (inr h) ne = inr (h.0, h.1, StopsLater b h.0 h.1 may apart again ne h.2)

pub agrees_or_stops : AgreesOrStops
agrees_or_stops fmus t step b later well = comes_by fmus t step b b (omega arith) later well
