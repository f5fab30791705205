-- Where a run can be held the header passes no limit, and each FMU can put its state as bytes.
use Rattle.std.proofs.Common.{◌≡◌, ℕ, ◌≤◌, true, List, [], ◌∷◌, refl, sym, ap, subst, arith, length}
use Rattle.std.specs.Prelude.{All}
use Rattle.std.specs.List.{list_all}
use Rattle.std.proofs.lemmas.List.{take_all}
use Rattle.std.proofs.lemmas.List.Elements.{All-head, All-tail}
use Rattle.sim_base.specs.declared.numbers.CompId.{CompId}
use Rattle.system_model.specs.declared.plan.Plan.{Plan}
use Rattle.system_model.specs.declared.system.Component.{Component}
use Rattle.system_model.specs.declared.system.Port.{Port}
use Rattle.system_model.specs.declared.system.System.{System}
use Rattle.system_model.specs.Text.{header_line, header_text, lines_text, port_lines_from}
use Rattle.trace_text.specs.Holding.{IsHoldable, PassesWith, header_up_to, held_header_max}
use Rattle.trace_text.proofs.HoldingLemmas.{passes_none}

whole_header : (system : System) (plan : Plan) → header_up_to system.components system.ports plan (length system.ports) ≡ header_text system plan.resolution plan.start plan.stop
whole_header system plan =
    ap (λ (ports : List Port). lines_text (header_line plan.resolution plan.start plan.stop ∷ port_lines_from system.components 0 ports)) (take_all (length system.ports) system.ports (omega arith))

pub none_passes : (system : System) (plan : Plan) → IsHoldable system plan → (id : CompId) → PassesWith system.components system.ports plan id.0 → ⊥
none_passes system plan can id =
    passes_none system.components system.ports plan (length system.ports) (omega arith) (subst (λ (bytes : List ℕ). length bytes ≤ held_header_max) (sym (whole_header system plan)) can.header) id.0

pub all_put : (cs : List Component) → All (λ (c : Component). c.shape.can_serialize_state ≡ true) cs → list_all (λ (c : Component). c.shape.can_serialize_state) cs ≡ true
all_put [] all = refl
all_put (c ∷ cs) all = rw (All-head (λ (x : Component). x.shape.can_serialize_state ≡ true) c cs all, all_put cs (All-tail (λ (x : Component). x.shape.can_serialize_state ≡ true) c cs all)) refl
