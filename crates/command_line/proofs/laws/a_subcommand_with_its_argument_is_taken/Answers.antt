use Rattle.command_line.proofs.Taken.{is_plain, taken}
use Rattle.command_line.proofs.laws.a_subcommand_with_its_argument_is_taken.Goals as goal

pub returns : goal.returns
returns c program name text subcommand named is = taken program name text subcommand (is_plain text is) named
