use Rattle.run_program.proofs.Generated.{can_run, counted_by}
use Rattle.run_program.proofs.bench.load_generated.Goals as goal

pub returns-clause-runnable : goal.returns-clause-runnable
returns-clause-runnable c =
    can_run c.args.options.seed c.args.options.components c.in_ok-made.made.system c.requires.components.1 c.in_ok-made.ensures.system c.in_ok-made.ensures.sound

pub returns-clause-counts : goal.returns-clause-counts
returns-clause-counts c =
    counted_by c.args.options.seed c.args.options.components c.args.options.workers c.in_ok-made.made.system c.in_ok-made.ensures.system (c.generated_systems.ensures.components c.args.options.seed c.args.options.components)
