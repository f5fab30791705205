use Rattle.std.proofs.Common.{refl, sym}
use Rattle.calling_sequence.proofs.bounds.bound_from.Goals as goal

pub returns-in-Some-clause-unfit : goal.returns-in-Some-clause-unfit
returns-in-Some-clause-unfit c = record {
  component = c.in-Some.component;
  to = c.next_bound-bound.result;
  bound = record { before_stop = c.requires.before; bound = c.next_bound-bound.ensures };
  unfit = sym c.in-Some.ensures;
  ending_is = refl;
}

pub returns-in-None-clause-step : goal.returns-in-None-clause-step
returns-in-None-clause-step c = record { bound = record { before_stop = c.requires.before; bound = c.next_bound-bound.ensures }; fit = sym c.in-None.ensures }
