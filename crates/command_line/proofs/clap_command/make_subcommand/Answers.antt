use Rattle.std.proofs.Common.{◌∙◌, ◌||◌, false, ap}
use Rattle.command_line.specs.App.{with_option_rule, with_positional_rule}
use Rattle.command_line.proofs.Folds.{next_step}
use Rattle.command_line.proofs.clap_command.make_subcommand.Goals as goal

pub loop-positional-preserved : goal.loop-positional-preserved
loop-positional-preserved c =
    let adds = c.in_ok-command.ensures in let old = c.loop-positional.invariant in
    (next_step with_positional_rule _ _ _ c.args.positionals.now c.loop-positional.positional-index c.loop-positional-test.true adds.0 old.0, adds.1 ∙ ap (λ b. b || false) old.1)

pub loop-option-preserved : goal.loop-option-preserved
loop-option-preserved c =
    let adds = c.in_ok-command-2.ensures in let old = c.loop-option.invariant in
    (next_step with_option_rule _ _ _ c.args.options.now c.loop-option.option-index c.loop-option-test.true adds.0 old.0, adds.1 ∙ ap (λ b. b || false) old.1)
