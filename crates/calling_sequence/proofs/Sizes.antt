-- An element at a place, and the least component that takes no step of a size.
use Rattle.std.proofs.Common.{◌≡◌, ℕ, zero, suc, ◌<◌, ◌==◌, List, [], ◌∷◌, Option, None, refl, ap, ◌∙◌, arith, length, get_or, not}
use Rattle.std.specs.Prelude.{◌&&◌, if◌then◌else◌}
use Rattle.value_types.specs.declared.shape.Shape.{Shape}
use Rattle.value_types.proofs.CallerLemmas.{position-map}
use Rattle.system_model.specs.declared.plan.Plan.{Plan}
use Rattle.system_model.specs.declared.system.Component.{Component}
use Rattle.system_model.specs.declared.system.System.{System}
use Rattle.slot_calls.specs.Stage.{shapes_of}
use Rattle.step_agreement.specs.Agreement.{Stand, everyone, shapes_in, unfit}
use Rattle.rollback.specs.StepsBy.{all_at}
use Rattle.calling_sequence.specs.Calls.{first_unfit}

-- an element at a place
pub there_is : {A : Type 0} (xs : List A) (i : ℕ) → i < length xs → (x : A) × (x ≡ get_or xs i x)
there_is [] i w = absurd (omega (arith, w))
there_is (x ∷ xs) zero w = (x, refl)
there_is (x ∷ xs) (suc i) w = there_is xs i (omega (arith, w))

abbrev shape_in : Component → Shape
shape_in c = c.shape

-- where all stand at one point, it is that of the components
pub unfit_is : (system : System) (plan : Plan) (t size : ℕ) → unfit plan.step size everyone (all_at t (shapes_of system)) ≡ first_unfit system plan size
unfit_is system plan t size =
    ap (λ (o : Option ℕ). if size == plan.step then None else o)
    (position-map (stand_at t) (λ (s : Stand). everyone s && not s.shape.has_variable_steps) (shapes_of system) ∙ position-map shape_in (λ (s : Shape). not s.has_variable_steps) system.components)
  where
    stand_at : ℕ → Shape → Stand
    stand_at t s = record { shape = s; point = t; ask = t }

-- the shapes of those that stand at one point
pub shapes_all : (t : ℕ) (ss : List Shape) → shapes_in (all_at t ss) ≡ ss
shapes_all t [] = refl
shapes_all t (s ∷ ss) = ap (λ (xs : List Shape). s ∷ xs) (shapes_all t ss)
