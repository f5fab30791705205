use Rattle.fmu_description.proofs.PlaceLemmas.{finds_sorted}
use Rattle.fmu_description.proofs.places.Places.new.Goals as goal

pub returns : goal.returns
returns c = λ key are. finds_sorted key c.args.entries.items c.sort_unstable.new.self.items are c.sort_unstable.ensures.permutation c.sort_unstable.ensures.sorted
