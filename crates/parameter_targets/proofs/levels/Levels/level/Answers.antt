use Rattle.std.proofs.Common.{◌+◌, ◌<◌, ◌^◌, length, sym, subst, refl, arith, rules}
use Rattle.ssd_tree.specs.Named.{IsOwner}
use Rattle.parameter_targets.specs.Scopes.{IsLevel}
use Rattle.parameter_targets.proofs.LevelLemmas.{depth_of_part, depth_read}
use Rattle.parameter_targets.proofs.ListLemmas.{read_at}
use Rattle.parameter_targets.proofs.levels.Levels.level.Goals as goal

pub overflow_add-result : goal.overflow_add-result
overflow_add-result c =
    let tree = c.args.tree.now in
    let part = c.index-as_slice-component.result in
    let within = subst (IsOwner tree) c.in-Component.is c.requires.owner in
    let is = read_at tree.components c.as_slice.result.now c.in-Component.component part c.as_slice.ensures within c.index-as_slice-component.is in
    let deep = depth_of_part tree c.in-Component.component c.index-in-Component.result.now part _ c.args.self.now.depths.items c.requires.named is c.index-as_slice-component.is c.requires.depths c.index-in-Component.ensures in
    let small = deep.1 in
    let less = deep.2 in
    let many : length c.args.self.now.depths.items < 2 ^ 64 = search rules in
    omega (arith, less, small, many)

pub returns-in-System : goal.returns-in-System
returns-in-System c =
    let tree = c.args.tree.now in
    let within = subst (IsOwner tree) c.in-System.is c.requires.owner in
    let deep = depth_read tree (length tree.systems) c.in-System.system c.index.result.now c.args.self.now.depths.items c.requires.depths within c.index.ensures in
    subst (λ o. IsLevel tree o c.index.result.now) (sym c.in-System.is) deep.0

pub returns-in-Component : goal.returns-in-Component
returns-in-Component c =
    let tree = c.args.tree.now in
    let part = c.index-as_slice-component.result in
    let within = subst (IsOwner tree) c.in-Component.is c.requires.owner in
    let is = read_at tree.components c.as_slice.result.now c.in-Component.component part c.as_slice.ensures within c.index-as_slice-component.is in
    let deep = depth_of_part tree c.in-Component.component c.index-in-Component.result.now part _ c.args.self.now.depths.items c.requires.named is c.index-as_slice-component.is c.requires.depths c.index-in-Component.ensures in
    subst (λ o. IsLevel tree o (c.index-in-Component.result.now + 1)) (sym c.in-Component.is) (part, is, (c.index-in-Component.result.now, deep.0, refl))
