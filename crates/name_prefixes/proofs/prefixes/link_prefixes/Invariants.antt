use Rattle.std.proofs.Common.{◌≡◌, length}
use Rattle.name_prefixes.specs.Prefixes.{AreLinks}
use Rattle.name_prefixes.proofs.prefixes.link_prefixes.Given as goal

abbrev pub invariant-loop : goal.invariant-loop
invariant-loop l = record {
  len : length l.shorter.items ≡ l.counter;
  links : AreLinks l.sorted l.shorter.items;
}
