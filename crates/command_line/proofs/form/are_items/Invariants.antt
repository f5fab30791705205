use Rattle.std.proofs.Common.{◌≡◌, false, drop}
use Rattle.command_line.specs.Form.{are_items}
use Rattle.command_line.specs.Line.{texts}
use Rattle.command_line.proofs.form.are_items.Given as goal

-- the arguments ahead spell items as all the arguments do
abbrev pub invariant-loop-word : goal.invariant-loop-word
invariant-loop-word l = are_items false (texts l.words) ≡ are_items l.waiting (texts (drop l.word-index l.words))
