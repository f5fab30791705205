use Rattle.std.proofs.Common.{◌≡◌, ◌*◌, ◌≤◌, length, arith}
use Rattle.generated_system.proofs.Making.{few_ports, made_more, none_made, parts_count}
use Rattle.generated_system.proofs.parts.made_parts.Goals as goal

pub loop-number-init : goal.loop-number-init
loop-number-init c = none_made c.args.seed _ c.new.ensures.items c.new-2.ensures.items c.new-3.ensures.items c.new-4.ensures.items

pub add-requires : goal.add-requires
add-requires c =
    let count : length c.loop-number.parts.components.items ≡ c.loop-number.number = parts_count c.args.seed c.loop-number.number _ c.loop-number.invariant.has in
    let few : length c.loop-number.parts.ports.items ≤ 2 * c.loop-number.number = few_ports c.args.seed c.loop-number.number _ c.loop-number.invariant.has in
    record { few = omega (arith, count); ports = omega (arith, few) }

pub loop-number-preserved : goal.loop-number-preserved
loop-number-preserved c =
    made_more c.args.seed c.loop-number.number _ _ c.draw_component-drawn.result _ _ c.loop-number.invariant c.draw_component-drawn.ensures.drawn c.draw_component-drawn.ensures.number c.in_ok-add.ensures
