use Rattle.std.proofs.Common.{◌≡◌, ℕ, ◌+◌, ◌<◌, ◌++◌, length, map, take, get_or, Bor}
use Rattle.value_types.specs.declared.shape.Variable.{Variable}
use Rattle.flatten.specs.Indexed.{all_variables, begin_of}
use Rattle.flatten.proofs.connectors.make_variables.Given as goal

abbrev pub invariant-loop-variable : goal.invariant-loop-variable
invariant-loop-variable l = record {
  all : map (λ (x : Bor Variable). x.now) l.all.items ≡ all_variables (take l.shape-index l.shapes) ++ take l.variable-index l.variable-items;
  len : length l.begins.items ≡ l.shape-index + 1;
  begins : (i : ℕ) → i < l.shape-index + 1 → get_or l.begins.items i 0 ≡ begin_of l.shapes i;
}

abbrev pub invariant-loop-shape : goal.invariant-loop-shape
invariant-loop-shape l = record {
  all : map (λ (x : Bor Variable). x.now) l.all.items ≡ all_variables (take l.shape-index l.shapes);
  len : length l.begins.items ≡ l.shape-index;
  begins : (i : ℕ) → i < l.shape-index → get_or l.begins.items i 0 ≡ begin_of l.shapes i;
}
