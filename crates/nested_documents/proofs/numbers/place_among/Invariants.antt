use Rattle.std.proofs.Common.{◌≡◌, drop, slice_get}
use Rattle.nested_documents.specs.Numbers.{elements_in}
use Rattle.nested_documents.proofs.numbers.place_among.Given as goal

abbrev pub invariant-loop-run : goal.invariant-loop-run
invariant-loop-run l =
    slice_get (elements_in (drop l.run-index l.runs)) l.left ≡ slice_get (elements_in l.runs) l.fn.number
