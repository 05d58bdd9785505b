-- The words of the command.
use Rattle.std.specs.Prelude.{◌≡◌, ◌⊎◌, ℕ, List, [], Option, Some, None}
use Rattle.std.specs.Prelude.{option_and_then}
use Rattle.command_line.specs.Command.{matched}
use Rattle.command_line.specs.Seed.{seed_of}
use Rattle.command_line.specs.declared.definition.Subcommand.{Subcommand}
use Rattle.command_line.specs.declared.definition.Subcommand.TheVariants as subcommands
use Rattle.gosync_call.specs.declared.words.Request.{Request}
use Rattle.gosync_call.specs.declared.words.Request.TheVariants as requests
use Rattle.gosync_call.specs.declared.words.Mode.{Mode}
use Rattle.gosync_call.specs.declared.words.Mode.TheVariants as modes

-- the file that is to be run, and how, where a subcommand with its argument names one
abbrev pub file_of : Subcommand × List ℕ → Option (Mode × List ℕ)
file_of (subcommands.Step, file) = Some (modes.Step, file)
file_of (subcommands.Run, file) = Some (modes.Run, file)
file_of (subcommands.Make, seed) = None
file_of (subcommands.Race, file) = Some (modes.Race, file)
file_of (subcommands.Check, file) = None
file_of (subcommands.Trace, file) = Some (modes.Trace, file)

-- the mode and the file that the words ask for, by the matches of the command
abbrev pub asked : List (List ℕ) → Option (Mode × List ℕ)
asked words = option_and_then file_of (matched words)

-- the file that a subcommand with its argument names, to be run or to be judged; nothing, where they name none
abbrev pub file_named : Option (Subcommand × List ℕ) → List ℕ
file_named None = []
file_named (Some (subcommands.Step, file)) = file
file_named (Some (subcommands.Run, file)) = file
file_named (Some (subcommands.Make, seed)) = []
file_named (Some (subcommands.Race, file)) = file
file_named (Some (subcommands.Check, file)) = file
file_named (Some (subcommands.Trace, file)) = file

-- the file that the words name
abbrev pub file_in : List (List ℕ) → List ℕ
file_in words = file_named (matched words)

-- the words ask to run this file so
abbrev pub AskFor : List (List ℕ) → Mode → List ℕ → Type 0
AskFor words mode file = asked words ≡ Some (mode, file)

-- the words ask to make the workload of this seed, and run it
abbrev pub AskToMake : List (List ℕ) → ℕ → Type 0
AskToMake words seed = (text : List ℕ) × (matched words ≡ Some (subcommands.Make, text)) × (seed_of text ≡ Some seed)

-- the words ask to judge the record of this file
abbrev pub AskToCheck : List (List ℕ) → List ℕ → Type 0
AskToCheck words file = matched words ≡ Some (subcommands.Check, file)

-- the words ask for this
abbrev pub Asks : List (List ℕ) → Request → Type 0
Asks words (requests.File mode file) = AskFor words mode file.now
Asks words (requests.Make seed) = AskToMake words seed
Asks words (requests.Check file) = AskToCheck words file.now

-- the command refuses the words, or their SEED is no number of 64 bits
abbrev pub AreRefused : List (List ℕ) → Type 0
AreRefused words = (matched words ≡ None) ⊎ ((text : List ℕ) × (matched words ≡ Some (subcommands.Make, text)) × (seed_of text ≡ None))
