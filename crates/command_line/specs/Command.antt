-- What the command line takes. The command is one of the crate `clap`, simple in that crate's sense, so `fault_of` and
-- `subcommand_of` of that crate say of each list of words whether it is taken, and what is matched.
use Rattle.std.specs.Prelude.{Bool, true, false, not, ◌||◌, ◌==◌, cond, List, [], ◌∷◌, length, codes, Option, Some, None}
use Rattle.std.specs.Prelude.{option_map, option_and_then}
use Rattle.std.specs.Str.{bytes_eq}
use Rattle.clap.specs.Simple.{on_top}
use Rattle.clap.specs.Words.{App, Kinds, Row, Shape, Text, fault_of, first_of, new_app, new_rule, subcommand_of, with_rule, with_subcommand}
use Rattle.command_line.specs.declared.definition.Subcommand.{Subcommand}
use Rattle.command_line.specs.declared.definition.Subcommand.TheVariants.{Step, Run, Make, Race, Check, Trace}

-- the name of the one argument of each subcommand
abbrev pub argument : Text
argument = codes "argument"

-- a subcommand with one required argument, which is any text
abbrev pub with_argument : Text → Shape
with_argument name = (with_rule (new_app name) (record (new_rule argument) { required = true })).top

-- the command: its name, one required subcommand of six, and nothing else
abbrev pub gosync_command : App
gosync_command =
    let named = on_top (λ s. record s { subcommand_required = true }) (new_app (codes "gosync")) in
    with_subcommand (with_subcommand (with_subcommand (with_subcommand (with_subcommand (with_subcommand named (with_argument (codes "step"))) (with_argument (codes "run"))) (with_argument (codes "make"))) (with_argument (codes "race"))) (with_argument (codes "check"))) (with_argument (codes "trace"))

-- the subcommand of this name
abbrev pub subcommand_named : Text → Option Subcommand
subcommand_named word = cond (bytes_eq word (codes "step")) (Some Step) (cond (bytes_eq word (codes "run")) (Some Run) (cond (bytes_eq word (codes "make")) (Some Make) (cond (bytes_eq word (codes "race")) (Some Race) (cond (bytes_eq word (codes "check")) (Some Check) (cond (bytes_eq word (codes "trace")) (Some Trace) None)))))

-- the subcommand that was matched, with its argument
abbrev pub argument_in : Option (Text × List Row) → Option (Subcommand × Text)
argument_in found = option_and_then (λ entered. option_and_then (λ subcommand. option_map (λ text. (subcommand, text)) (first_of argument entered.1)) (subcommand_named entered.0)) found

-- what was found, where there is no fault
abbrev pub unless_faulty : Kinds → Option (Subcommand × Text) → Option (Subcommand × Text)
unless_faulty [] found = found
unless_faulty (kind ∷ kinds) found = None

-- the subcommand that the words name, with its argument, where the command has no fault to find with them
unfoldable pub matched : List Text → Option (Subcommand × Text)
matched words = unless_faulty (fault_of gosync_command words) (argument_in (subcommand_of gosync_command words))

-- whether a word stands for itself: `-`, or a word that isn't empty and doesn't begin with `-`
abbrev pub is_argument : Text → Bool
is_argument [] = false
is_argument (byte ∷ bytes) = not (byte == 45) || length bytes == 0
