use Rattle.std.proofs.Common.{◌≡◌, ◌<◌, ◌≤◌, ◌+◌, List, [], length, take, Some, refl, sym, ap, ◌∙◌, subst, arith}
use Rattle.std.specs.Option.{option_map}
use Rattle.std.proofs.lemmas.Option.{slice_get-get_or}
use Rattle.value_types.specs.declared.shape.Shape.{Shape}
use Rattle.ssd_tree.specs.declared.tree.ComponentPart.{ComponentPart}
use Rattle.doc_tables.specs.Places.{found_name}
use Rattle.doc_tables.specs.Tables.{FindsBelow}
use Rattle.flatten.specs.Flat.{source_at}
use Rattle.system_files.specs.Steps.{EndsNext, TakesNext, TakesShapes}
use Rattle.system_files.proofs.ShapeLemmas.{as_many, ends_here, ends_more, none_taken, table_here, taken_more}
use Rattle.system_files.proofs.shapes.load_shapes.Goals as goal

pub returns-in_default-clause-err : goal.returns-in_default-clause-err
returns-in_default-clause-err g c =
    let old = g.F.Folder.view c.args.folder.now in
    ends_here c.args.resolution c.args.directory.now c.args.components.now 0 [] _ old old (none_taken c.args.resolution c.args.directory.now old) refl

pub loop-place-init : goal.loop-place-init
loop-place-init g c =
    let old = g.F.Folder.view c.args.folder.now in
    record {
      takes = subst (λ (xs : List Shape). TakesShapes c.args.resolution c.args.directory.now [] xs old old) (sym c.in-Ok.ensures.items)
          (none_taken c.args.resolution c.args.directory.now old);
      table = λ x. subst (FindsBelow (source_at c.args.components.now) 0 x) (sym (c.new-known.ensures x)) (λ k below is. absurd (omega (arith, below)));
      room = let cap = c.in-Ok.ensures.capacity in omega (arith, cap);
    }

pub push_reserved-requires : goal.push_reserved-requires
push_reserved-requires g c =
    let i = c.loop-place.invariant in
    let old = g.F.Folder.view c.args.folder.now in
    let here : c.loop-place.place < length c.args.components.now = c.loop-place-test.true in
    let below : c.loop-place.place ≤ length c.args.components.now = omega arith in
    let many = as_many c.args.resolution c.args.directory.now old (g.F.Folder.view c.loop-place.folder) c.args.components.now c.loop-place.place c.loop-place.shapes.items below i.takes in
    let room = i.room in
    let long = c.loop-place.shapes.ok.0 in
    omega (arith, many, room, long)

pub returns-in-Err-clause-err : goal.returns-in-Err-clause-err
returns-in-Err-clause-err g c =
    let i = c.loop-place.invariant in
    let view = g.F.Folder.view in
    let end = c.in-Err.end in
    ends_more c.args.resolution c.args.directory.now (view c.args.folder.now) (view c.loop-place.folder) c.args.components.now c.loop-place.place c.index-components-place.result
    c.loop-place.shapes.items c.loop-place-test.true c.index-components-place.is i.takes c.requires end (view c.next_shape.new.folder)
    (subst (λ (xs : List Shape). EndsNext c.args.resolution c.args.directory.now c.args.components.now (length xs) c.index-components-place.result end
    (view c.loop-place.folder) (view c.next_shape.new.folder)) c.deref.ensures.value (c.in-Err.ensures.err c.args.components.now
    (table_here c.args.resolution c.args.directory.now (view c.args.folder.now) (view c.loop-place.folder) c.args.components.now c.loop-place.place c.loop-place.shapes.items c.deref.result.now (found_name c.loop-place.known) c.loop-place-test.true c.deref.ensures.value i.takes i.table)))

pub returns-in_default-put-clause-err : goal.returns-in_default-put-clause-err
returns-in_default-put-clause-err g c =
    let i = c.loop-place.invariant in
    let view = g.F.Folder.view in
    let shape = c.in-Ok-next_shape.shape in
    let more = taken_more c.args.resolution c.args.directory.now (view c.args.folder.now) (view c.loop-place.folder) c.args.components.now c.loop-place.place c.index-components-place.result
    c.loop-place.shapes.items c.loop-place-test.true c.index-components-place.is i.takes c.requires shape (view c.next_shape.new.folder)
    (subst (λ (xs : List Shape). TakesNext c.args.resolution c.args.directory.now c.args.components.now (length xs) c.index-components-place.result xs shape
    (view c.loop-place.folder) (view c.next_shape.new.folder)) c.deref.ensures.value (c.in-Ok-next_shape.ensures.ok c.args.components.now
    (table_here c.args.resolution c.args.directory.now (view c.args.folder.now) (view c.loop-place.folder) c.args.components.now c.loop-place.place c.loop-place.shapes.items c.deref.result.now (found_name c.loop-place.known) c.loop-place-test.true c.deref.ensures.value i.takes i.table))) in
    ends_here c.args.resolution c.args.directory.now c.args.components.now (c.loop-place.place + 1) _ _ (view c.args.folder.now) (view c.next_shape.new.folder) more refl

pub loop-place-preserved : goal.loop-place-preserved
loop-place-preserved g c =
    let i = c.loop-place.invariant in
    let view = g.F.Folder.view in
    let shape = c.in-Ok-next_shape.shape in
    let parts = c.args.components.now in
    let k = c.loop-place.place in
    let more = taken_more c.args.resolution c.args.directory.now (view c.args.folder.now) (view c.loop-place.folder) parts k c.index-components-place.result
    c.loop-place.shapes.items c.loop-place-test.true c.index-components-place.is i.takes c.requires shape (view c.next_shape.new.folder)
    (subst (λ (xs : List Shape). TakesNext c.args.resolution c.args.directory.now parts (length xs) c.index-components-place.result xs shape
    (view c.loop-place.folder) (view c.next_shape.new.folder)) c.deref.ensures.value (c.in-Ok-next_shape.ensures.ok c.args.components.now
    (table_here c.args.resolution c.args.directory.now (view c.args.folder.now) (view c.loop-place.folder) c.args.components.now c.loop-place.place c.loop-place.shapes.items c.deref.result.now (found_name c.loop-place.known) c.loop-place-test.true c.deref.ensures.value i.takes i.table))) in
    let at = slice_get-get_or parts k c.index-components-place.result c.loop-place-test.true in
    let same : Some c.as_str.result.now ≡ source_at parts k =
    ap Some (c.as_str.ensures ∙ ap (λ (p : ComponentPart). p.source) c.index-components-place.is) ∙ sym (ap (option_map (λ (p : ComponentPart). p.source)) at) in
    record {
      takes = subst (λ (xs : List Shape). TakesShapes c.args.resolution c.args.directory.now (take (k + 1) parts) xs (view c.args.folder.now) (view c.next_shape.new.folder))
          (sym c.push_reserved.ensures.items) more;
      table = c.in-Ok-put.ensures (source_at parts) same i.table;
      room = let room = i.room in let cap = c.push_reserved.ensures.capacity in omega (arith, room, cap);
    }
