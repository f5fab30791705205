-- Who is asked first in a step, and what is asked of those.
use Rattle.std.proofs.Common.{◌≡◌, ◌⊎◌, inl, inr, ℕ, ◌<◌, ◌==◌, Bool, true, false, List, Option, Some, refl, ap, ◌∙◌, arith}
use Rattle.std.specs.Prelude.{if◌then◌else◌, map, slice_get}
use Rattle.std.specs.Option.{option_map_or}
use Rattle.std.proofs.lemmas.Bool.Decides.{nat_tests}
use Rattle.value_types.specs.declared.shape.Shape.{Shape}
use Rattle.system_model.specs.EarlyReturn.{early_count}
use Rattle.system_model.specs.declared.system.Component.{Component}
use Rattle.run_model.specs.Run.{Run}
use Rattle.run_model.specs.Steps.{AskedAgain, AskedFirst, AskedLater, IsAsked, Stepper, fallen_bound}
use Rattle.run_model.specs.Stepping.{asked_first, is_asked_first}

equal : (a b : ℕ) → (a == b) ≡ true → a ≡ b
equal a b q = grind (arith, nat_tests)

-- of those that might return early each is asked first, and where they are two or more everyone is
pub first_by : (early : ℕ) (shape : Shape) → (shape.might_return_early ≡ true) ⊎ (1 < early) → asked_first early shape ≡ true
first_by early shape h = by (early == 1) refl h where
  by : (x : Bool) → (early == 1) ≡ x → (shape.might_return_early ≡ true) ⊎ (1 < early) → asked_first early shape ≡ true
  by false several k = ap (λ (y : Bool). if y then shape.might_return_early else true) several
  by true alone (inl might) = ap (λ (y : Bool). if y then shape.might_return_early else true) alone ∙ might
  by true alone (inr two) = absurd (let one = equal early 1 alone in omega (arith, two, one))

pub comes_first : (r : Run) (i : ℕ) (c : Component) → slice_get r.system.components i ≡ Some c → (c.shape.might_return_early ≡ true) ⊎ (1 < early_count (map (λ (d : Component). d.shape) r.system.components)) → is_asked_first r i ≡ true
comes_first r i c at h =
    ap (λ (o : Option Component). option_map_or (λ (d : Component). asked_first (early_count (map (λ (x : Component). x.shape) r.system.components)) d.shape) o false) at
    ∙ first_by (early_count (map (λ (d : Component). d.shape) r.system.components)) c.shape h

-- what is asked where all come first, one that comes first is asked
pub asked_as_first : (fmus : List Stepper) (t step : ℕ) (first : ℕ → Bool) (b i e : ℕ) → IsAsked fmus (λ k. true) t step b i e → first i ≡ true → IsAsked fmus first t step b i e
asked_as_first fmus t step first _ _ _ (AskedFirst b i e may who is) h = AskedFirst b i e may (inl h) is
asked_as_first fmus t step first _ _ _ (AskedAgain b i e may apart again f at ne is) h = AskedAgain b i e may apart again f at ne is
asked_as_first fmus t step first _ _ _ (AskedLater b i e may apart again never more) h = AskedLater b i e may apart again never (asked_as_first fmus t step first (fallen_bound fmus b) i e more h)
