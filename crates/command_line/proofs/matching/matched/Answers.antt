use Rattle.std.proofs.Common.{◌≡◌, ◌∙◌, sym, map, string_bytes}
use Rattle.std.proofs.Common.{ℕ, List, Bor, Err, IsErrOf}
use Rattle.command_line.specs.declared.definition.Subcommand.{Subcommand}
use Rattle.command_line.specs.declared.matching.WordsFault.{WordsFault}
use Rattle.command_line.specs.declared.matching.WordsFault.TheVariants as faults
use Rattle.clap.specs.Words.{app_of}
use Rattle.command_line.proofs.ParseAnswers.{found_so, refused_so}
use Rattle.command_line.proofs.matching.matched.Goals as goal

cause_is : (cause : WordsFault) → IsErrOf {T = Subcommand × Bor (List ℕ)} (Err cause) faults.Refused → cause ≡ faults.Refused
cause_is cause is = cc

pub returns-in-Some-clause-matched : goal.returns-in-Some-clause-matched
returns-in-Some-clause-matched c =
    found_so (app_of c.in_ok-command.command) (map string_bytes c.args.words.now) c.in-Ok.matches c.in_ok-command.ensures c.in-Ok.ensures.kinds c.in-Ok.ensures.matches ∙ sym c.in-Some.ensures

pub returns-in-Ok-clause-refused : goal.returns-in-Ok-clause-refused
returns-in-Ok-clause-refused c _ =
    found_so (app_of c.in_ok-command.command) (map string_bytes c.args.words.now) c.in-Ok.matches c.in_ok-command.ensures c.in-Ok.ensures.kinds c.in-Ok.ensures.matches ∙ sym c.in-None.ensures

pub returns-clause-refused : goal.returns-clause-refused
returns-clause-refused c is =
    refused_so (app_of c.in_ok-command.command) (map string_bytes c.args.words.now) c.in-Err.error c.in_ok-command.ensures c.in-Err.ensures.kinds (c.cause_of.ensures (cause_is c.cause_of.result is))
