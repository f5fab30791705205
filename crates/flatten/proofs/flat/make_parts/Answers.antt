use Rattle.std.proofs.Common.{length, sym, ◌∙◌, ap, subst, arith}
use Rattle.flatten.specs.Flat.{AreComponentsOf}
use Rattle.flatten.proofs.SoundLemmas.{are_placed}
use Rattle.flatten.proofs.flat.make_parts.Goals as goal

pub components-requires : goal.components-requires
components-requires c = record {
  few = omega (arith, ap length c.as_slice.ensures, c.requires.indexed.whole.few);
  len = c.requires.indexed.shapes.len ∙ ap length (sym c.as_slice.ensures);
}

pub returns-clause-placed : goal.returns-clause-placed
returns-clause-placed c =
    let tree = c.args.flat.now.tree.now in
    let shapes = c.args.flat.now.shapes.now in
    let components = c.in_ok-components.field-0 in
    let ports = c.in_ok-ports.field-0 in
    let are = subst (λ parts. AreComponentsOf parts shapes components) c.as_slice.ensures c.in_ok-components.ensures in
    are_placed tree shapes components ports c.requires.indexed.whole c.requires.indexed.shapes (record { components = are; ports = c.in_ok-ports.ensures.ports components are; feeds = c.in_ok-ports.ensures.feeds })
