use Rattle.std.proofs.Common.{◌≡◌, ℤ, List, [], ◌∷◌, Option, None, ap, length, map, refl, ◌∙◌}
use Rattle.std.specs.Prelude.{replicate}
use Rattle.system_model.specs.declared.system.Port.{Port}
use Rattle.event_iteration.proofs.initialization.initialize.Goals as goal

none_each : (ports : List Port) → replicate {A = Option ℤ} (length ports) None ≡ map (λ (x : Port). None) ports
none_each [] = refl
none_each (x ∷ ports) = ap (λ (l : List (Option ℤ)). None ∷ l) (none_each ports)

pub walk_all-requires-clause-none : goal.walk_all-requires-clause-none
walk_all-requires-clause-none g c κs lives = c.clear.ensures ∙ ap (λ n. replicate {A = Option ℤ} n None) c.requires.values ∙ none_each c.args.system.now.ports
