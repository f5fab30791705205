use Rattle.std.proofs.Common.{◌≡◌, ◌<◌, ℕ, List, length, get_or, replicate, take, position, None, sym, ap, ◌∙◌, subst, arith}
use Rattle.std.proofs.lemmas.Grind.{common_steps}
use Rattle.value_types.specs.declared.shape.Variable.{Variable}
use Rattle.value_types.specs.declared.shape.Shape.{Shape}
use Rattle.ssd_tree.specs.declared.tree.Owner.TheVariants.{Component}
use Rattle.flatten.specs.Points.{has_name}
use Rattle.flatten.specs.Indexed.{LeadTo, place_for, with_places}
use Rattle.flatten.proofs.FeedLemmas.{only_none}
use Rattle.flatten.proofs.NameLemmas.{lead_none, lead_component, names_whole}
use Rattle.flatten.proofs.names.VariableNames.new.Goals as goal

pub loop-component-init : goal.loop-component-init
loop-component-init c =
    let none : c.in_ok-vec.field-0.items ≡ replicate (length c.args.connectors.now) None = c.in_ok-vec.ensures.items_if_clones_equal (only_none _ (λ x h. h)) in
    lead_none c.args.connectors.now (record { wanted = c.in_ok-wanted_places.field-0; places = c.in_ok-vec.field-0 }) c.in_ok-wanted_places.ensures none

pub loop-component-preserved : goal.loop-component-preserved
loop-component-preserved c =
    let connectors = c.args.connectors.now in
    let shapes = c.args.shapes.now in
    let i = c.loop-component.component in
    let s = c.index-shapes-component.result in
    let within : i < length shapes = omega arith in
    let read : s ≡ get_or shapes i s = grind (arith, common_steps) in
    let variables : c.as_slice.result.now ≡ s.variables = c.as_slice.ensures ∙ ap (λ (z : Shape). z.variables) (sym read) in
    lead_component connectors c.note_component.new.self shapes i s within read
    (subst (λ (vs : List Variable). LeadTo connectors (with_places (λ (component : ℕ) (name : List ℕ). place_for (take i shapes) (Component component) name) i (λ name. position (has_name name) vs)) c.note_component.new.self) variables (c.note_component.ensures connectors _ c.loop-component.invariant))

pub returns : goal.returns
returns c = names_whole c.args.connectors.now c.loop-component.names c.args.shapes.now c.loop-component.component (omega arith) c.loop-component.invariant
