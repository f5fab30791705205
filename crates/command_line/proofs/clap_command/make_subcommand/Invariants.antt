use Rattle.std.proofs.Common.{fold, take}
use Rattle.clap.specs.Simple.{new_app}
use Rattle.clap.specs.Walk.{texts}
use Rattle.command_line.specs.App.{IsMadeAs, with_option_rule, with_positional_rule}
use Rattle.command_line.proofs.clap_command.make_subcommand.Given as goal

abbrev pub invariant-loop-positional : goal.invariant-loop-positional
invariant-loop-positional l = IsMadeAs (fold with_positional_rule (new_app l.fn.name) (take l.positional-index (texts l.positionals))) l.command

abbrev pub invariant-loop-option : goal.invariant-loop-option
invariant-loop-option l =
    IsMadeAs (fold with_option_rule (fold with_positional_rule (new_app l.fn.name) (texts l.fn.positionals)) (take l.option-index (texts l.options))) l.command
