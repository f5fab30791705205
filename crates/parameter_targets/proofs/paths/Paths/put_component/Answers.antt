use Rattle.std.proofs.Common.{◌≡◌, ◌<◌, length, get_or, refl, sym, ap, ◌∙◌, subst, arith, rules}
use Rattle.std.proofs.lemmas.Option.{slice_get_read}
use Rattle.ssd_tree.specs.declared.tree.SystemPart.{SystemPart}
use Rattle.ssd_tree.specs.Named.{BeginsWithScope}
use Rattle.parameter_targets.specs.Tables.{IsPathText}
use Rattle.parameter_targets.proofs.ListLemmas.{read_at}
use Rattle.parameter_targets.proofs.RowLemmas.{IsPutting, ahead, ahead_smaller, begins_around, name_at, names_long, putting_more, putting_none}
use Rattle.parameter_targets.proofs.paths.Paths.put_component.Goals as goal

pub loop-current-init : goal.loop-current-init
loop-current-init c =
    let tree = c.args.tree.now in
    let part = c.index-as_slice-component.result in
    let is = read_at tree.components c.as_slice.result.now c.args.component part c.as_slice.ensures c.requires.within c.index-as_slice-component.is in
    (part, is, putting_none tree c.args.self.now c.args.component part c.requires.tree is c.requires.rows)

pub bounds-names-component : goal.bounds-names-component
bounds-names-component c = omega (arith, c.requires.within, names_long c.args.tree.now c.args.names.now c.requires.names)

pub offset_bounds-names-component : goal.offset_bounds-names-component
offset_bounds-names-component c =
    let within = c.requires.within in
    let long = names_long c.args.tree.now c.args.names.now c.requires.names in
    search rules

pub path_from-requires-clause-scope : goal.path_from-requires-clause-scope
path_from-requires-clause-scope c =
    let tree = c.args.tree.now in
    let part = c.loop-current.invariant.0 in
    let is = c.loop-current.invariant.1 in
    let w = subst (IsPutting tree c.args.self.now c.loop-current.self c.args.component part) c.in-Some.is c.loop-current.invariant.2 in
    let within : c.args.component < length c.args.names.now = omega (arith, c.requires.within, names_long tree c.args.names.now c.requires.names) in
    let named : c.as_str-name.result.now ≡ part.name =
    c.as_str-name.ensures ∙ name_at tree c.args.names.now c.args.component part c.index-names-component.result c.requires.names is
    (slice_get_read c.args.names.now (length c.args.names.now) c.args.component c.index-names-component.result refl within c.index-names-component.is) in
    subst (BeginsWithScope tree c.in-Some.system) (sym named) (begins_around tree c.args.component part c.in-Some.system c.requires.tree is w.around.0)

pub loop-current-smaller : goal.loop-current-smaller
loop-current-smaller c =
    let tree = c.args.tree.now in
    let part = c.loop-current.invariant.0 in
    let u = c.in-Some.system in
    let at = c.index-as_slice-system.result in
    let w = subst (IsPutting tree c.args.self.now c.loop-current.self c.args.component part) c.in-Some.is c.loop-current.invariant.2 in
    let here = read_at tree.systems c.as_slice-in-Some.result.now u at c.as_slice-in-Some.ensures w.around.1 c.index-as_slice-system.is in
    subst (λ n. ahead (get_or c.as_slice-in-Some.result.now u at).parent < n) (sym (ap ahead c.in-Some.is))
    (ahead_smaller tree u at (get_or c.as_slice-in-Some.result.now u at).parent c.requires.tree here (ap (λ (z : SystemPart). z.parent) (sym c.index-as_slice-system.is)))

pub loop-current-preserved : goal.loop-current-preserved
loop-current-preserved c =
    let tree = c.args.tree.now in
    let part = c.loop-current.invariant.0 in
    let u = c.in-Some.system in
    let at = c.index-as_slice-system.result in
    let is = c.loop-current.invariant.1 in
    let w = subst (IsPutting tree c.args.self.now c.loop-current.self c.args.component part) c.in-Some.is c.loop-current.invariant.2 in
    let here = read_at tree.systems c.as_slice-in-Some.result.now u at c.as_slice-in-Some.ensures w.around.1 c.index-as_slice-system.is in
    let within : c.args.component < length c.args.names.now = omega (arith, c.requires.within, names_long tree c.args.names.now c.requires.names) in
    let named : c.as_str-name.result.now ≡ part.name =
    c.as_str-name.ensures ∙ name_at tree c.args.names.now c.args.component part c.index-names-component.result c.requires.names is
    (slice_get_read c.args.names.now (length c.args.names.now) c.args.component c.index-names-component.result refl within c.index-names-component.is) in
    let path = subst (λ z. IsPathText tree u z c.path_from.result.now) named c.path_from.ensures in (
      part,
      is,
      subst (λ (z : SystemPart). IsPutting tree c.args.self.now c.put.new.self c.args.component part z.parent) c.index-as_slice-system.is
          (putting_more tree c.args.self.now c.loop-current.self c.put.new.self c.args.component part u at c.path_from.result.now c.requires.tree is here path c.in_ok-put.ensures.rows c.in_ok-put.ensures.told w),
    )
