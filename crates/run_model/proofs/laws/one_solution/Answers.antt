use Rattle.run_model.specs.Laws.{SolvedOnce, SolvedOnceInitially}
use Rattle.run_model.proofs.Decided.{decided}
use Rattle.run_model.proofs.Solvable.{solvable}
use Rattle.run_model.proofs.Unique.{solves_same}
use Rattle.run_model.proofs.Initially.{solves_initially_same}
use Rattle.run_model.proofs.InitiallySolvable.{solvable_initially}
use Rattle.run_model.proofs.laws.one_solution.Goals as goal

instant : SolvedOnce
instant r sound machines s is =
    let some = solvable r sound machines s is.shapes (decided r s) in
    (some.0, some.1, λ other h. solves_same r sound machines s is.shapes other some.0 h some.1)

initially : SolvedOnceInitially
initially r sound machines =
    let some = solvable_initially r sound machines in
    (some.0, some.1, λ other h. solves_initially_same r sound machines other some.0 h some.1)

pub returns : goal.returns
returns c = record { instant = instant; initially = initially }
