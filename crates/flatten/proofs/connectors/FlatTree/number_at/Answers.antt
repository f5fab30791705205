use Rattle.std.proofs.Common.{◌≡◌, length, sym, ◌∙◌, arith, ap, get_or}
use Rattle.std.proofs.lemmas.Grind.{common_steps}
use Rattle.std.proofs.lemmas.List.{length-map}
use Rattle.flatten.specs.Indexed.{all_variables, begin_of}
use Rattle.flatten.proofs.LabelLemmas.{number_within}
use Rattle.flatten.proofs.connectors.FlatTree.number_at.Goals as goal

pub index-requires : goal.index-requires
index-requires c =
    let within = number_within c.args.self.now.shapes.now c.args.component c.args.place c.requires.place in
    omega (arith, within.0, c.requires.indexed.variables.len)

pub overflow_add-result : goal.overflow_add-result
overflow_add-result c =
    let all = c.args.self.now.variables.all in
    let within = number_within c.args.self.now.shapes.now c.args.component c.args.place c.requires.place in
    let at : get_or c.args.self.now.variables.begins.items c.args.component 0 ≡ begin_of c.args.self.now.shapes.now c.args.component = c.requires.indexed.variables.begins c.args.component (omega (arith, within.0)) in
    let is : c.index.result.now ≡ begin_of c.args.self.now.shapes.now c.args.component = grind (arith, common_steps) in
    let len : length (all_variables c.args.self.now.shapes.now) ≡ length all.items = ap length (sym c.requires.indexed.variables.all) ∙ length-map all.items (λ x. x.now) in
    omega (arith, is, within.1, len, all.small, all.ok.0, all.ok.1)

pub returns : goal.returns
returns c =
    let within = number_within c.args.self.now.shapes.now c.args.component c.args.place c.requires.place in
    let at : get_or c.args.self.now.variables.begins.items c.args.component 0 ≡ begin_of c.args.self.now.shapes.now c.args.component = c.requires.indexed.variables.begins c.args.component (omega (arith, within.0)) in
    let is : c.index.result.now ≡ begin_of c.args.self.now.shapes.now c.args.component = grind (arith, common_steps) in
    record { number = omega (arith, is); within = omega (arith, is, within.1) }
