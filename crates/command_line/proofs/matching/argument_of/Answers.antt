use Rattle.std.proofs.Common.{◌∙◌}
use Rattle.clap.proofs.WalkLemmas.{first_value-rows}
use Rattle.clap.specs.Words.{found_of}
use Rattle.command_line.specs.Command.{argument}
use Rattle.command_line.proofs.Found.{both, neither}
use Rattle.command_line.proofs.matching.argument_of.Goals as goal

pub returns-in_err-argument : goal.returns-in_err-argument
returns-in_err-argument c =
    rw c.from_residual-in_err-argument.ensures
    (neither c.in_ok-subcommand.subcommand _ _ c.in_ok-subcommand.ensures (c.in_err-argument.ensures ∙ first_value-rows (found_of c.args.matches.now) argument))

pub returns : goal.returns
returns c =
    both c.in_ok-subcommand.subcommand _ c.in_ok-argument.argument.now _ c.in_ok-subcommand.ensures (c.in_ok-argument.ensures ∙ first_value-rows (found_of c.args.matches.now) argument)
