use Rattle.std.proofs.Common.{◌<◌, ◌≤◌, ◌+◌, length, take, List, [], sym, subst, arith, All}
use Rattle.ssd_tree.specs.declared.tree.Binding.{Binding}
use Rattle.system_loading.specs.declared.parameters.GivenBinding.{GivenBinding}
use Rattle.system_files.specs.Steps.{HasBindingDocument, TakesBindings}
use Rattle.system_files.proofs.BindingLemmas.{as_many, ends_more, none_taken, taken_more}
use Rattle.system_files.proofs.bindings.load_bindings.Goals as goal

pub loop-place-init : goal.loop-place-init
loop-place-init g c =
    let old = g.F.Folder.view c.args.folder.now in
    record {
      takes = subst (λ (given : List GivenBinding). TakesBindings c.args.directory.now c.args.outline.now [] given old old) (sym c.in-Ok.ensures.items)
          (none_taken c.args.directory.now c.args.outline.now old);
      room = let cap = c.in-Ok.ensures.capacity in omega (arith, cap);
    }

pub load_binding-requires : goal.load_binding-requires
load_binding-requires g c =
    let has = HasBindingDocument c.args.outline.now in
    let all = subst (λ (bs : List Binding). All has bs) (sym c.as_slice-bindings.ensures) c.requires in
    subst has (sym c.index-bindings-place.is) (all c.loop-place.place c.index-bindings-place.result c.loop-place-test.true)

pub push_reserved-requires : goal.push_reserved-requires
push_reserved-requires g c =
    let i = c.loop-place.invariant in
    let view = g.F.Folder.view in
    let bindings = c.as_slice-bindings.result.now in
    let here : c.loop-place.place < length bindings = c.loop-place-test.true in
    let below : c.loop-place.place ≤ length bindings = omega arith in
    let many = as_many c.args.directory.now c.args.outline.now (view c.args.folder.now) (view c.loop-place.folder) bindings c.loop-place.place c.loop-place.given.items below i.takes in
    let room = i.room in
    let long = c.loop-place.given.ok.0 in
    omega (arith, many, room, long)

pub returns-in-Err-clause-err : goal.returns-in-Err-clause-err
returns-in-Err-clause-err g c =
    let view = g.F.Folder.view in
    ends_more c.args.directory.now c.args.outline.now (view c.args.folder.now) (view c.loop-place.folder) c.as_slice-bindings.result.now c.loop-place.place c.index-bindings-place.result
    c.loop-place.given.items c.loop-place-test.true c.index-bindings-place.is c.loop-place.invariant.takes c.in-Err.end (view c.load_binding.new.folder)
    c.as_slice-bindings.ensures c.in-Err.ensures.err

pub loop-place-preserved : goal.loop-place-preserved
loop-place-preserved g c =
    let i = c.loop-place.invariant in
    let view = g.F.Folder.view in
    let bindings = c.as_slice-bindings.result.now in
    record {
      takes = subst (λ (given : List GivenBinding). TakesBindings c.args.directory.now c.args.outline.now (take (c.loop-place.place + 1) bindings) given (view c.args.folder.now) (view c.load_binding.new.folder))
          (sym c.push_reserved.ensures.items)
          (taken_more c.args.directory.now c.args.outline.now (view c.args.folder.now) (view c.loop-place.folder) bindings c.loop-place.place c.index-bindings-place.result
          c.loop-place.given.items c.loop-place-test.true c.index-bindings-place.is i.takes c.in-Ok-load_binding.one (view c.load_binding.new.folder) c.in-Ok-load_binding.ensures.ok);
      room = let room = i.room in let cap = c.push_reserved.ensures.capacity in omega (arith, room, cap);
    }
