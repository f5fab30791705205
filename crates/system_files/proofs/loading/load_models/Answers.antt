use Rattle.std.proofs.Common.{◌≡◌, List, sym, subst}
use Rattle.std.specs.Prelude.{All, IfErr, IfOk, Result, Ok, Err}
use Rattle.std.specs.List.{AllZip}
use Rattle.ssd_tree.specs.Parts.{IsPlain}
use Rattle.ssd_tree.specs.declared.tree.ComponentPart.{ComponentPart}
use Rattle.value_types.specs.declared.shape.Shape.{Shape}
use Rattle.system_model.specs.declared.system.Component.{Component}
use Rattle.flatten.specs.Given.{AreShapesOf}
use Rattle.system_files.specs.declared.loaded.Loaded.{Loaded}
use Rattle.system_files.specs.declared.loading.LoadError.{LoadError}
use Rattle.system_files.specs.Loads.{IsNamed}
use Rattle.system_files.specs.Steps.{EndsModels, EndsShapes, EndsTogether, HasShapeAlone, IsLoaded, OfBindings, OfShapes, OfSystem, TakesShapes}
use Rattle.system_files.proofs.SoundLemmas.{are_counting, are_named, are_ready, are_shapes, has_parts}
use Rattle.system_files.proofs.loading.load_models.Goals as goal

ok_so : (r : Result Loaded LoadError) (P Q : Loaded → Type 0) → ((loaded : Loaded) → P loaded → Q loaded) → IfOk r P → IfOk r Q
ok_so (Ok loaded) P Q h p = h loaded p
ok_so (Err end) P Q h p = tt

err_so : (r : Result Loaded LoadError) (P Q : LoadError → Type 0) → ((end : LoadError) → P end → Q end) → IfErr r P → IfErr r Q
err_so (Ok loaded) P Q h p = tt
err_so (Err end) P Q h p = h end p

pub load_shapes-requires : goal.load_shapes-requires
load_shapes-requires g c = subst (λ (cs : List ComponentPart). All (λ (x : ComponentPart). IsPlain x.source) cs) (sym c.as_slice-components.ensures) c.requires.plain

pub put_together-requires-clause-shapes : goal.put_together-requires-clause-shapes
put_together-requires-clause-shapes g c =
    let old = g.F.Folder.view c.args.folder.now in
    let mid = g.F.Folder.view c.load_shapes.new.folder in
    let t = subst (λ (cs : List ComponentPart). TakesShapes c.args.resolution c.args.directory.now cs c.in-Ok.shapes.items old mid) c.as_slice-components.ensures c.in-Ok.ensures.ok in
    subst (AreShapesOf c.args.outline.now.systems) (sym c.deref.ensures.value)
    (are_shapes c.loading_laws.ensures.shape c.loading_laws.ensures.resolution c.args.resolution c.args.directory.now t.reads c.args.outline.now.systems c.in-Ok.shapes.items
    c.requires.above c.requires.within t.each)

pub put_together-requires-clause-ready : goal.put_together-requires-clause-ready
put_together-requires-clause-ready g c =
    let old = g.F.Folder.view c.args.folder.now in
    let mid = g.F.Folder.view c.load_shapes.new.folder in
    let t = subst (λ (cs : List ComponentPart). TakesShapes c.args.resolution c.args.directory.now cs c.in-Ok.shapes.items old mid) c.as_slice-components.ensures c.in-Ok.ensures.ok in
    let shapes = subst (AreShapesOf c.args.outline.now.systems) (sym c.deref.ensures.value)
    (are_shapes c.loading_laws.ensures.shape c.loading_laws.ensures.resolution c.args.resolution c.args.directory.now t.reads c.args.outline.now.systems c.in-Ok.shapes.items
    c.requires.above c.requires.within t.each) in
    are_ready c.args.directory.now c.in-Ok-load_bindings.ensures.ok.reads c.args.outline.now c.deref.result.now c.in-Ok-load_bindings.given.items c.requires.tree shapes c.in-Ok-load_bindings.ensures.ok.each

pub put_together-requires-clause-parts : goal.put_together-requires-clause-parts
put_together-requires-clause-parts g c =
    has_parts c.args.directory.now c.in-Ok-load_bindings.ensures.ok.reads c.args.outline.now c.args.outline.now.systems.bindings c.in-Ok-load_bindings.given.items c.in-Ok-load_bindings.ensures.ok.each

pub returns-in-Ok-load_bindings-clause-named : goal.returns-in-Ok-load_bindings-clause-named
returns-in-Ok-load_bindings-clause-named g c =
    let old = g.F.Folder.view c.args.folder.now in
    let mid = g.F.Folder.view c.load_shapes.new.folder in
    let t = subst (λ (cs : List ComponentPart). TakesShapes c.args.resolution c.args.directory.now cs c.in-Ok.shapes.items old mid) c.as_slice-components.ensures c.in-Ok.ensures.ok in
    let each = subst (AllZip (HasShapeAlone c.args.resolution c.args.directory.now t.reads) c.args.outline.now.systems.components) (sym c.deref.ensures.value) t.each in
    ok_so c.put_together.result (IsLoaded c.args.directory.now c.args.outline.now c.deref.result.now c.in-Ok-load_bindings.given.items) (λ (loaded : Loaded). All IsNamed loaded.system.components)
    (λ loaded is. are_named c.loading_laws.ensures.token c.args.resolution c.args.directory.now t.reads c.args.outline.now c.deref.result.now loaded.system c.requires.whole c.requires.short each is.makes.is)
    c.put_together.ensures.ok

pub returns-in-Ok-load_bindings-clause-counts : goal.returns-in-Ok-load_bindings-clause-counts
returns-in-Ok-load_bindings-clause-counts g c =
    let old = g.F.Folder.view c.args.folder.now in
    let mid = g.F.Folder.view c.load_shapes.new.folder in
    let t = subst (λ (cs : List ComponentPart). TakesShapes c.args.resolution c.args.directory.now cs c.in-Ok.shapes.items old mid) c.as_slice-components.ensures c.in-Ok.ensures.ok in
    let each = subst (AllZip (HasShapeAlone c.args.resolution c.args.directory.now t.reads) c.args.outline.now.systems.components) (sym c.deref.ensures.value) t.each in
    ok_so c.put_together.result (IsLoaded c.args.directory.now c.args.outline.now c.deref.result.now c.in-Ok-load_bindings.given.items)
    (λ (loaded : Loaded). All (λ (x : Component). x.shape.resolution ≡ c.args.resolution) loaded.system.components)
    (λ loaded is. are_counting c.loading_laws.ensures.resolution c.args.resolution c.args.directory.now t.reads c.args.outline.now c.deref.result.now loaded.system each is.makes.is)
    c.put_together.ensures.ok

pub returns-in-Ok-load_bindings-clause-err : goal.returns-in-Ok-load_bindings-clause-err
returns-in-Ok-load_bindings-clause-err g c =
    let old = g.F.Folder.view c.args.folder.now in
    let mid = g.F.Folder.view c.load_shapes.new.folder in
    let new = g.F.Folder.view c.load_bindings.new.folder in
    let t = subst (λ (cs : List ComponentPart). TakesShapes c.args.resolution c.args.directory.now cs c.in-Ok.shapes.items old mid) c.as_slice-components.ensures c.in-Ok.ensures.ok in
    let takes = subst (λ (xs : List Shape). TakesShapes c.args.resolution c.args.directory.now c.args.outline.now.systems.components xs old mid) (sym c.deref.ensures.value) t in
    err_so c.put_together.result
    (λ (end : LoadError). EndsTogether c.args.directory.now c.args.outline.now c.deref.result.now c.in-Ok-load_bindings.given.items end)
    (λ (end : LoadError). EndsModels c.args.resolution c.args.directory.now c.args.outline.now end old new)
    (λ end h. OfSystem c.deref.result.now c.in-Ok-load_bindings.given.items (record { mid = mid; takes = takes; gives = c.in-Ok-load_bindings.ensures.ok }) h)
    c.put_together.ensures.err

pub returns-in-Ok-clause-err : goal.returns-in-Ok-clause-err
returns-in-Ok-clause-err g c =
    let old = g.F.Folder.view c.args.folder.now in
    let mid = g.F.Folder.view c.load_shapes.new.folder in
    OfBindings c.in-Ok.shapes.items mid
    (subst (λ (cs : List ComponentPart). TakesShapes c.args.resolution c.args.directory.now cs c.in-Ok.shapes.items old mid) c.as_slice-components.ensures c.in-Ok.ensures.ok)
    c.in-Err-load_bindings.ensures.err

pub returns-clause-err : goal.returns-clause-err
returns-clause-err g c =
    let old = g.F.Folder.view c.args.folder.now in
    let new = g.F.Folder.view c.load_shapes.new.folder in
    OfShapes (subst (λ (cs : List ComponentPart). EndsShapes c.args.resolution c.args.directory.now cs c.in-Err.end old new) c.as_slice-components.ensures c.in-Err.ensures.err)
