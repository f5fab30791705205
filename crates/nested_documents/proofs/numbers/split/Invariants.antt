use Rattle.std.proofs.Common.{◌≡◌, ◌++◌, drop, take}
use Rattle.nested_documents.specs.Numbers.{elements_in}
use Rattle.nested_documents.proofs.numbers.split.Given as goal

abbrev pub invariant-loop-run : goal.invariant-loop-run
invariant-loop-run l = record {
  first : elements_in l.prefix.items ++ take l.left (elements_in (drop l.run-index l.runs)) ≡ take l.fn.at (elements_in l.runs);
  others : elements_in l.back.items ++ drop l.left (elements_in (drop l.run-index l.runs)) ≡ drop l.fn.at (elements_in l.runs);
}
