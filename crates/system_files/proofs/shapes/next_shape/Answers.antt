use Rattle.std.proofs.Common.{◌≡◌, length, Some, refl, sym, ap, ◌∙◌}
use Rattle.std.specs.Prelude.{IfOk, Result, Ok, Err}
use Rattle.value_types.specs.declared.shape.Shape.{Shape}
use Rattle.system_files.specs.declared.loading.LoadError.{LoadError}
use Rattle.system_files.specs.Steps.{Copied, TakesNext}
use Rattle.system_files.proofs.shapes.next_shape.Goals as goal

ok_so : (r : Result Shape LoadError) (P Q : Shape → Type 0) → ((shape : Shape) → P shape → Q shape) → IfOk r P → IfOk r Q
ok_so (Ok shape) P Q h p = h shape p
ok_so (Err end) P Q h p = tt

pub returns-in-Some-clause-ok : goal.returns-in-Some-clause-ok
returns-in-Some-clause-ok g c = λ components table.
    let old = g.F.Folder.view c.args.folder.now in
    let k = c.in-Some.ensures.known components table in
    ok_so c.copy_shape.result (λ (x : Shape). x ≡ c.in-Some.shape.now)
    (λ (x : Shape). TakesNext c.args.resolution c.args.directory.now components (length c.args.shapes.now) c.args.component.now c.args.shapes.now x old old)
    (λ shape same. Copied k.0 (k.1 ∙ ap Some c.as_str.ensures) (k.2 ∙ ap Some (sym same)) refl) c.copy_shape.ensures.ok
