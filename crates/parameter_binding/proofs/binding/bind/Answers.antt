use Rattle.system_model.specs.declared.bound.Bound.{Bound}
use Rattle.parameter_binding.proofs.BoundLemmas.{faults_of, first_fault, ok_bound, ok_exact, ok_fitting, refuses_of}
use Rattle.parameter_binding.proofs.EngineLemmas.{ok_parameters}
use Rattle.parameter_binding.proofs.binding.bind.Goals as goal

pub returns-in-Some-clause-err : goal.returns-in-Some-clause-err
returns-in-Some-clause-err c =
    let are = c.in-Ok.ensures in
    faults_of c.args.tree.now c.args.shapes.now c.args.sets.now are.b c.in-Some.fault (first_fault c.args.tree.now c.args.shapes.now c.args.sets.now c.in-Ok.gathered c.in-Some.fault are c.in-Some.is) c.refusal.result c.refusal.ensures

pub returns-in-Some-clause-exact : goal.returns-in-Some-clause-exact
returns-in-Some-clause-exact c = λ place rule file first told.
    let are = c.in-Ok.ensures in
    refuses_of c.args.tree.now c.args.shapes.now c.args.sets.now are.b c.in-Some.fault (first_fault c.args.tree.now c.args.shapes.now c.args.sets.now c.in-Ok.gathered c.in-Some.fault are c.in-Some.is) Bound c.refusal.result place rule file c.refusal.ensures first told

pub returns-in-Ok-clause-ok : goal.returns-in-Ok-clause-ok
returns-in-Ok-clause-ok c = ok_bound c.args.tree.now c.args.shapes.now c.args.sets.now c.in-Ok.gathered c.bound_of.result c.in-Ok.ensures c.in-None.is c.bound_of.ensures.ok

pub returns-in-Ok-clause-fitting : goal.returns-in-Ok-clause-fitting
returns-in-Ok-clause-fitting c = ok_fitting c.args.tree.now c.args.shapes.now c.args.sets.now c.in-Ok.gathered c.bound_of.result c.in-Ok.ensures c.in-None.is

pub returns-in-Ok-clause-exact : goal.returns-in-Ok-clause-exact
returns-in-Ok-clause-exact c = λ place rule file first told. ok_exact c.args.tree.now c.args.shapes.now c.args.sets.now c.in-Ok.gathered c.bound_of.result c.in-Ok.ensures c.in-None.is c.bound_of.ensures.err place rule file first

pub returns-in-Ok-clause-parameters : goal.returns-in-Ok-clause-parameters
returns-in-Ok-clause-parameters c = ok_parameters c.args.tree.now c.args.shapes.now c.args.sets.now c.in-Ok.gathered c.bound_of.result c.in-Ok.ensures c.in-None.is c.requires.sound c.bound_of.ensures.ok
