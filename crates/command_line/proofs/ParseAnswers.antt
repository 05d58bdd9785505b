-- From what a parse answers to what is matched.
use Rattle.std.proofs.Common.{◌≡◌, inl, inr, ◌∙◌, ap, sym, subst, refl, true, List, [], ◌∷◌, None}
use Rattle.clap.specs.Words.{App, HasKind, HasMatchesOf, IsAmong, Kinds, Text, fault_of, is_simple_and_free, kind_of, subcommand_of, subcommand_rows_of}
use Rattle.clap.specs.declared.error.Error.{Error}
use Rattle.clap.specs.declared.error.kind.ErrorKind.{ErrorKind}
use Rattle.clap.specs.declared.error.kind.ErrorKind.TheVariants as kinds
use Rattle.clap.specs.declared.parser.matches.ArgMatches.{ArgMatches}
use Rattle.clap.specs.Simple.{is_simple}
use Rattle.clap.proofs.OnLiterals.{clap_on_literals}
use Rattle.command_line.specs.Command.{argument_in, gosync_command, matched, unless_faulty}

-- the command is one of those whose matches and faults are known
is_known : is_simple_and_free gosync_command ≡ true
unfolding clap_on_literals
is_known = refl

has_matches : is_simple gosync_command ≡ true
unfolding clap_on_literals
has_matches = refl

pub matched_by : (words : List Text) (faults : Kinds) → fault_of gosync_command words ≡ faults → matched words ≡ unless_faulty faults (argument_in (subcommand_of gosync_command words))
unfolding matched
matched_by words faults is = ap (λ (k : Kinds). unless_faulty k (argument_in (subcommand_of gosync_command words))) is

-- what a parse found is what is matched
pub found_so : (app : App) (words : List Text) (m : ArgMatches) → app ≡ gosync_command → (is_simple_and_free app ≡ true → fault_of app words ≡ []) → HasMatchesOf app words m
    → matched words ≡ argument_in (subcommand_rows_of m)
found_so app words m is faults matches =
    let free = subst (λ (a : App). is_simple_and_free a ≡ true → fault_of a words ≡ []) is faults is_known in
    let rows = (subst (λ (a : App). HasMatchesOf a words m) is matches has_matches).1 in
    matched_by words [] free ∙ ap argument_in (sym rows)

faulty : (words : List Text) (kind : ErrorKind) (faults : Kinds) → fault_of gosync_command words ≡ faults → IsAmong kind faults → matched words ≡ None
faulty words kind [] is among = absurd among
faulty words kind (k ∷ ks) is among = matched_by words (k ∷ ks) is

-- where a parse fails but for memory, nothing is matched
pub refused_so : (app : App) (words : List Text) (e : Error) → app ≡ gosync_command → (is_simple_and_free app ≡ true → HasKind (fault_of app words) e) → (kind_of e ≡ kinds.OutOfMemory → ⊥)
    → matched words ≡ None
refused_so app words e is fails other =
    elim (subst (λ (a : App). is_simple_and_free a ≡ true → HasKind (fault_of a words) e) is fails is_known) [
      | inl memory ↦ absurd (other memory)
      | inr among ↦ faulty words (kind_of e) _ refl among
    ]
