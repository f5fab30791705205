use Rattle.std.proofs.Common.{length, Some, refl, sym, ap, ◌∙◌, arith}
use Rattle.std.proofs.lemmas.Option.{slice_get_read, same_Some}
use Rattle.connection_paths.specs.declared.point.Point.TheVariants.{Variable, OfSystem}
use Rattle.flatten.specs.Broken.{number_of}
use Rattle.flatten.proofs.EndLemmas.{number_below, variables_len}
use Rattle.flatten.proofs.connectors.FlatTree.point_number.Goals as goal

pub overflow_add-result : goal.overflow_add-result
overflow_add-result c =
    let f = c.requires.indexed in
    let points = c.args.self.now.points.items in
    let n = f.points.len in
    let at = slice_get_read points (length points) c.args.connector c.index.result.now refl (let l = c.requires.connector in omega (arith, l, n)) c.index.ensures ∙ ap Some c.in-OfSystem.is in
    let b = number_below c.args.self.now.tree.now c.args.self.now.shapes.now points f.shapes f.points f.whole c.args.connector (OfSystem c.in-OfSystem.number) c.requires.connector at in
    let m = variables_len c.args.self.now.shapes.now c.args.self.now.variables f.variables in
    let e = c.len.ensures in
    record { fits = omega (arith, b, m, e) }

pub returns-in-Variable-clause-number : goal.returns-in-Variable-clause-number
returns-in-Variable-clause-number c =
    let n = c.requires.indexed.points.len in
    let points = c.args.self.now.points.items in
    let at = slice_get_read points (length points) c.args.connector c.index.result.now refl (let l = c.requires.connector in omega (arith, l, n)) c.index.ensures ∙ ap Some c.in-Variable.is in
    λ point e. ap (number_of (length c.args.self.now.variables.all.items)) (same_Some (Variable c.in-Variable.number) point (sym at ∙ e))

pub returns-in-Variable-clause-within : goal.returns-in-Variable-clause-within
returns-in-Variable-clause-within c =
    let f = c.requires.indexed in
    let points = c.args.self.now.points.items in
    let n = f.points.len in
    let at = slice_get_read points (length points) c.args.connector c.index.result.now refl (let l = c.requires.connector in omega (arith, l, n)) c.index.ensures ∙ ap Some c.in-Variable.is in
    let b = number_below c.args.self.now.tree.now c.args.self.now.shapes.now points f.shapes f.points f.whole c.args.connector (Variable c.in-Variable.number) c.requires.connector at in
    let m = variables_len c.args.self.now.shapes.now c.args.self.now.variables f.variables in
    omega (arith, b, m)

pub returns-in-OfSystem-clause-number : goal.returns-in-OfSystem-clause-number
returns-in-OfSystem-clause-number c =
    let n = c.requires.indexed.points.len in
    let points = c.args.self.now.points.items in
    let at = slice_get_read points (length points) c.args.connector c.index.result.now refl (let l = c.requires.connector in omega (arith, l, n)) c.index.ensures ∙ ap Some c.in-OfSystem.is in
    let e = c.len.ensures in
    λ point is. let h = ap (number_of (length c.args.self.now.variables.all.items)) (same_Some (OfSystem c.in-OfSystem.number) point (sym at ∙ is)) in omega (arith, h, e)

pub returns-in-OfSystem-clause-within : goal.returns-in-OfSystem-clause-within
returns-in-OfSystem-clause-within c =
    let f = c.requires.indexed in
    let points = c.args.self.now.points.items in
    let n = f.points.len in
    let at = slice_get_read points (length points) c.args.connector c.index.result.now refl (let l = c.requires.connector in omega (arith, l, n)) c.index.ensures ∙ ap Some c.in-OfSystem.is in
    let b = number_below c.args.self.now.tree.now c.args.self.now.shapes.now points f.shapes f.points f.whole c.args.connector (OfSystem c.in-OfSystem.number) c.requires.connector at in
    let m = variables_len c.args.self.now.shapes.now c.args.self.now.variables f.variables in
    let e = c.len.ensures in
    omega (arith, b, m, e)
