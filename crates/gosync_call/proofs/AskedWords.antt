-- What words ask for, and what they don't ask for then.
use Rattle.std.proofs.Common.{◌≡◌, ◌⊎◌, ◌∙◌, ◌<◌, ◌^◌, ℕ, zero, suc, true, false, Bool, List, [], ◌∷◌, length, get_or, Option, Some, None, inl, inr, refl, sym, ap, subst, arith}
use Rattle.std.specs.Fmt.{decimal}
use Rattle.std.proofs.lemmas.Fmt.{decimal_digit, decimal_nonempty, first_decimal}
use Rattle.std.proofs.lemmas.Bool.Decides.{nat_tests}
use Rattle.std.specs.Prelude.{option_and_then}
use Rattle.command_line.specs.Command.{is_argument, matched}
use Rattle.command_line.specs.Seed.{seed_of}
use Rattle.command_line.specs.declared.definition.Subcommand.{Subcommand}
use Rattle.command_line.specs.declared.definition.Subcommand.TheVariants as subcommands
use Rattle.gosync_call.specs.Command.{asked, file_in, file_named, file_of, AreRefused, AskFor, AskToCheck, AskToMake}
use Rattle.gosync_call.specs.declared.words.Mode.{Mode}

-- words that ask for a made workload name no file
pub no_file : (words : List (List ℕ)) (seed : ℕ) → AskToMake words seed → asked words ≡ None
no_file words seed asks = ap (λ (found : Option (Subcommand × List ℕ)). option_and_then file_of found) asks.1

none_is_some : (words : Mode × List ℕ) → None ≡ Some words → ⊥
none_is_some words is = cc

-- so they ask to run none
pub not_both : (words : List (List ℕ)) (seed : ℕ) (mode : Mode) (file : List ℕ) → AskToMake words seed → AskFor words mode file → ⊥
not_both words seed mode file make ask = none_is_some (mode, file) (sym (no_file words seed make) ∙ ask)

abbrev text_in : Option (Subcommand × List ℕ) → List ℕ
text_in None = []
text_in (Some found) = found.1

same_text : (words : List (List ℕ)) (text other : List ℕ) → matched words ≡ Some (subcommands.Make, text) → matched words ≡ Some (subcommands.Make, other) → text ≡ other
same_text words text other is also = ap text_in (sym is ∙ also)

some_is : (seed other : ℕ) → Some seed ≡ Some other → seed ≡ other
some_is seed other is = cc

none_is_seed : (seed : ℕ) → None ≡ Some seed → ⊥
none_is_seed seed is = cc

nothing_is_found : (found : Subcommand × List ℕ) → None ≡ Some found → ⊥
nothing_is_found found is = cc

-- words that ask to make one seed's workload ask for no other's
pub same_seed : (words : List (List ℕ)) (seed other : ℕ) → AskToMake words seed → AskToMake words other → seed ≡ other
same_seed words seed other asks also =
    some_is seed other (sym asks.2 ∙ ap seed_of (same_text words asks.0 also.0 asks.1 also.1) ∙ also.2)

-- words that are refused ask to run no file, and to make no workload
pub no_file_refused : (words : List (List ℕ)) (mode : Mode) (file : List ℕ) → AreRefused words → AskFor words mode file → ⊥
no_file_refused words mode file (inl none) ask = none_is_some (mode, file) (sym (ap (λ (found : Option (Subcommand × List ℕ)). option_and_then file_of found) none) ∙ ask)
no_file_refused words mode file (inr make) ask = none_is_some (mode, file) (sym (ap (λ (found : Option (Subcommand × List ℕ)). option_and_then file_of found) make.1) ∙ ask)

pub no_seed_refused : (words : List (List ℕ)) (seed : ℕ) → AreRefused words → AskToMake words seed → ⊥
no_seed_refused words seed (inl none) ask = nothing_is_found (subcommands.Make, ask.0) (sym none ∙ ask.1)
no_seed_refused words seed (inr make) ask = none_is_seed seed (sym make.2 ∙ ap seed_of (same_text words make.0 ask.0 make.1 ask.1) ∙ ask.2)

-- words that ask to run a file aren't refused, and ask to make no workload
pub names_a_file : (words : List (List ℕ)) (mode : Mode) (file : List ℕ) → AskFor words mode file → AreRefused words ⊎ ((seed : ℕ) × AskToMake words seed) → ⊥
names_a_file words mode file ask (inl refused) = no_file_refused words mode file refused ask
names_a_file words mode file ask (inr make) = not_both words make.0 mode file make.1 ask

abbrev file_of_words : Option (Mode × List ℕ) → List ℕ
file_of_words None = []
file_of_words (Some words) = words.1

named_by : (mode : Mode) (file : List ℕ) (found : Option (Subcommand × List ℕ)) → option_and_then file_of found ≡ Some (mode, file) → file_named found ≡ file
named_by mode file None is = absurd (none_is_some (mode, file) is)
named_by mode file (Some (subcommands.Step, text)) is = ap file_of_words is
named_by mode file (Some (subcommands.Run, text)) is = ap file_of_words is
named_by mode file (Some (subcommands.Make, text)) is = absurd (none_is_some (mode, file) is)
named_by mode file (Some (subcommands.Race, text)) is = ap file_of_words is
named_by mode file (Some (subcommands.Trace, text)) is = ap file_of_words is
named_by mode file (Some (subcommands.Check, text)) is = absurd (none_is_some (mode, file) is)

-- words that ask to run a file name it
pub names_it : (words : List (List ℕ)) (mode : Mode) (file : List ℕ) → AskFor words mode file → file_in words ≡ file
names_it words mode file ask = named_by mode file (matched words) ask

-- and so do those that ask to judge its record
pub names_record : (words : List (List ℕ)) (file : List ℕ) → AskToCheck words file → file_in words ≡ file
names_record words file ask = ap file_named ask

-- those that ask for a made workload name none
pub names_none : (words : List (List ℕ)) (seed : ℕ) → AskToMake words seed → file_in words ≡ []
names_none words seed ask = ap file_named ask.1

-- words that ask to judge a record ask for nothing else
pub no_run_to_check : (words : List (List ℕ)) (mode : Mode) (file name : List ℕ) → AskFor words mode file → AskToCheck words name → ⊥
no_run_to_check words mode file name ask check = none_is_some (mode, file) (sym (ap (λ (found : Option (Subcommand × List ℕ)). option_and_then file_of found) check) ∙ ask)

abbrev is_to_check : Option (Subcommand × List ℕ) → Bool
is_to_check None = false
is_to_check (Some (subcommands.Step, text)) = false
is_to_check (Some (subcommands.Run, text)) = false
is_to_check (Some (subcommands.Make, text)) = false
is_to_check (Some (subcommands.Race, text)) = false
is_to_check (Some (subcommands.Trace, text)) = false
is_to_check (Some (subcommands.Check, text)) = true

true_is_false : true ≡ false → ⊥
true_is_false is = cc

pub no_seed_to_check : (words : List (List ℕ)) (seed : ℕ) (name : List ℕ) → AskToMake words seed → AskToCheck words name → ⊥
no_seed_to_check words seed name ask check = true_is_false (ap is_to_check (sym check ∙ ask.1))

pub no_refusal_to_check : (words : List (List ℕ)) (name : List ℕ) → AreRefused words → AskToCheck words name → ⊥
no_refusal_to_check words name (inl none) check = nothing_is_found (subcommands.Check, name) (sym none ∙ check)
no_refusal_to_check words name (inr make) check = true_is_false (ap is_to_check (sym check ∙ make.1))

pub names_a_record : (words : List (List ℕ)) (file : List ℕ) → AskToCheck words file → AreRefused words ⊎ ((seed : ℕ) × AskToMake words seed) → ⊥
names_a_record words file check (inl refused) = no_refusal_to_check words file refused check
names_a_record words file check (inr make) = no_seed_to_check words make.0 file make.1 check

-- and they name one record
pub same_record : (words : List (List ℕ)) (file name : List ℕ) → AskToCheck words file → AskToCheck words name → file ≡ name
same_record words file name ask also = ap text_in (sym ask ∙ also)

-- a number stands for itself as an argument
argument_from : (digits : List ℕ) → 0 < length digits → 45 < get_or digits 0 0 → is_argument digits ≡ true
argument_from [] filled first = absurd (omega arith)
argument_from (digit ∷ digits) filled first = grind (arith, nat_tests)

pub decimal_is_argument : (n : ℕ) → n < 2 ^ 64 → is_argument (decimal n) ≡ true
decimal_is_argument zero small = subst (λ (text : List ℕ). is_argument text ≡ true) (sym (decimal_digit 0 (omega arith))) refl
decimal_is_argument (suc n) small = argument_from (decimal (suc n)) (decimal_nonempty (suc n) small) (omega (arith, first_decimal (suc n) (omega arith) small))
