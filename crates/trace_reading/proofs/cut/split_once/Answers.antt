use Rattle.trace_reading.proofs.LineLemmas.{lacks, some_too, none_too, cut_found}
use Rattle.trace_reading.proofs.cut.split_once.Goals as goal

pub returns-clause-first : goal.returns-clause-first
returns-clause-first c = some_too c.cut_somewhere.result _ _ (λ p no. lacks c.args.at p.0.now no) c.cut_somewhere.ensures.first

pub returns-clause-none : goal.returns-clause-none
returns-clause-none c = none_too c.cut_somewhere.result _ _ (λ no. lacks c.args.at c.args.bytes.now no) c.cut_somewhere.ensures.none

pub returns-clause-exact : goal.returns-clause-exact
returns-clause-exact c = λ prefix rest free e.
    cut_found c.cut_somewhere.result (λ p. p.0.now) (λ p. p.1.now) c.args.at c.args.bytes.now prefix rest c.cut_somewhere.ensures.parts (returns-clause-first c) (returns-clause-none c) free e
