use Rattle.std.proofs.Common.{ℕ, List, Option, codes, refl, ap}
use Rattle.std.specs.Prelude.{option_and_then}
use Rattle.std.specs.Fmt.{decimal}
use Rattle.command_line.specs.declared.definition.Subcommand.{Subcommand}
use Rattle.command_line.specs.declared.definition.Subcommand.TheVariants as subcommands
use Rattle.gosync_call.specs.Command.{file_of}
use Rattle.gosync_call.proofs.AskedWords.{decimal_is_argument}
use Rattle.gosync_call.proofs.laws.words.three_words_ask_for_what_they_say.Goals as goal

pub returns-clause-run : goal.returns-clause-run
returns-clause-run c program file plain =
    ap (λ (found : Option (Subcommand × List ℕ)). option_and_then file_of found) (c.a_subcommand_with_its_argument_is_taken.ensures program (codes "run") file subcommands.Run refl plain)

pub returns-clause-step : goal.returns-clause-step
returns-clause-step c program file plain =
    ap (λ (found : Option (Subcommand × List ℕ)). option_and_then file_of found) (c.a_subcommand_with_its_argument_is_taken.ensures program (codes "step") file subcommands.Step refl plain)

pub returns-clause-race : goal.returns-clause-race
returns-clause-race c program file plain =
    ap (λ (found : Option (Subcommand × List ℕ)). option_and_then file_of found) (c.a_subcommand_with_its_argument_is_taken.ensures program (codes "race") file subcommands.Race refl plain)

pub returns-clause-make : goal.returns-clause-make
returns-clause-make c program seed small = (
  decimal seed,
  c.a_subcommand_with_its_argument_is_taken.ensures program (codes "make") (decimal seed) subcommands.Make refl (decimal_is_argument seed small),
  (c.a_seed_is_its_decimal_text.ensures (decimal seed) seed).1 (small, refl),
)

pub returns-clause-check : goal.returns-clause-check
returns-clause-check c program file plain = c.a_subcommand_with_its_argument_is_taken.ensures program (codes "check") file subcommands.Check refl plain
