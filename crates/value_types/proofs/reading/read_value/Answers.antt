use Rattle.value_types.proofs.reading.read_value.Goals as goal

pub returns-in-Boolean-clause-exact : goal.returns-in-Boolean-clause-exact
returns-in-Boolean-clause-exact c = λ value reads. c.read_boolean.ensures.exact value (rw c.in-Boolean.is at reads)
