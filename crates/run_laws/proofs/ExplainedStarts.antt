-- A worker that is told that it never will be started once the other one has ended, and one that is told so before.
use Rattle.std.proofs.Common.{◌≡◌, ℕ, zero, suc, Bool, true, false, List, [], ◌∷◌, Option, Some, slice_get, refl, ap, subst, arith}
use Rattle.std.specs.Prelude.{Ok, All, unwrap_or}
use Rattle.std.proofs.lemmas.Bool.{true≢false}
use Rattle.std.proofs.lemmas.Option.{none-some}
use Rattle.starts_core.specs.declared.protocol.StartsOutcome.TheVariants as outcomes
use Rattle.starts_core.specs.declared.starts.StartEvent.{StartEvent}
use Rattle.starts_core.specs.declared.starts.StartEvent.TheVariants.{End, Leave}
use Rattle.starts_core.specs.declared.starts.StartReply.{StartReply}
use Rattle.starts_core.specs.declared.starts.StartReply.TheVariants as started
use Rattle.starts_core.specs.StartsEdges.{starts_releases, starts_acquires}
use Rattle.starts_core.specs.StartsMachine.{begun, next}
use Rattle.wait_cores.specs.GroupEdges.{group_releases, group_acquires}
use Rattle.wait_cores.specs.declared.group.GroupEvent.{GroupEvent}
use Rattle.wait_cores.specs.declared.group.GroupEvent.TheVariants.{Wait}
use Rattle.wait_cores.specs.declared.group.GroupReply.{GroupReply}
use Rattle.wait_cores.specs.declared.group.GroupReply.TheVariants as grouped
use Rattle.script_calls.specs.declared.call.Operation.TheVariants as operations
use Rattle.script_calls.specs.declared.call.Reply.TheVariants.{Returned}
use Rattle.script_calls.specs.declared.outcome.Outcome.{Outcome}
use Rattle.sync_model.specs.declared.answer.Answer.TheVariants.{Done}
use Rattle.sync_model.specs.declared.journal.Entry.{Entry}
use Rattle.sync_types.specs.declared.wait_call.WaitGroupCall.TheVariants as calls
use Rattle.run_record.specs.declared.entered.ObjectEvent.TheVariants as event
use Rattle.run_record.specs.declared.entered.ObjectReply.TheVariants as reply
use Rattle.run_record.specs.declared.made.Made.{Made}
use Rattle.run_record.specs.declared.made.Made.TheVariants.{Entered}
use Rattle.run_record.specs.Explains.{IsAtEnd, Explains}
use Rattle.run_record.specs.Lines.{SpeltCall, Line, whole, stayed, never, IsLineOf}
use Rattle.run_record.specs.Record.{ObjectEntry, journal_of}
use Rattle.run_record.specs.StartsKind.{IsStartsJournal}
use Rattle.run_record.specs.WaitGroupKind.{IsWaitGroupJournal}
use Rattle.run_laws.specs.Examples.{on, entry}
use Rattle.run_laws.specs.ExamplesStarts.{plan, outcome, waits, ends, is_told, told_at_the_end, told_too_early}
use Rattle.run_laws.proofs.Backs.{starts_back, is_starts_back}
use Rattle.run_laws.proofs.SmallRecords.{ByScript, IsSmall, is_record, no_parts, quiet_edges}
use Rattle.run_laws.proofs.Unlifted.{follows_back}

abbrev own_wait : Entry GroupEvent GroupReply
own_wait = entry 0 Wait grouped.Done

abbrev own_end : Entry StartEvent StartReply
own_end = entry 0 End started.Done

abbrev own_leave : Entry StartEvent StartReply
own_leave = entry 1 Leave started.Never

abbrev own : List (Entry StartEvent StartReply)
own = own_end ∷ own_leave ∷ []

abbrev journals : List (List ObjectEntry)
journals = (waits ∷ []) ∷ (ends ∷ is_told ∷ []) ∷ []

abbrev made_first : List Made
made_first = Entered 1 waits ∷ Entered 2 ends ∷ []

abbrev made_second : List Made
made_second = Entered 2 is_told ∷ []

is_group : IsWaitGroupJournal 2 0 (waits ∷ [])
is_group = (own_wait ∷ [], refl, ((refl, refl), tt), quiet_edges group_releases group_acquires (own_wait ∷ []) (refl, tt))

is_starts : IsStartsJournal (false ∷ true ∷ []) (ends ∷ is_told ∷ [])
is_starts = (own, refl, ((refl, refl), ((refl, refl), tt)), quiet_edges starts_releases starts_acquires own (refl, (refl, tt)))

small : IsSmall plan journals made_first made_second
small = record {
  objects = refl;
  quiet_first = ((refl, refl), ((refl, refl), tt));
  quiet_second = ((refl, refl), tt);
  two = ((refl, tt), ((refl, (refl, tt)), tt));
  follow = (is_group, tt);
  parts = no_parts plan journals made_first made_second (refl, tt);
  starts = λ some. is_starts;
  once_first = (refl, (refl, (refl, tt)));
  once_second = (refl, (refl, (refl, tt)));
}

abbrev first : SpeltCall
first = record { call = on 0 (operations.WaitGroup calls.Wait); items = Entered 1 waits ∷ []; reply = Returned }

-- worker 0 tells behind its script that it has ended
abbrev ended_line : Line
ended_line = record { first = []; spelt = first ∷ []; last = Entered 2 ends ∷ []; halts = []; rest = []; ending = whole }

-- worker 1 didn't come to its script
abbrev stayed_line : Line
stayed_line = record { first = Entered 2 is_told ∷ []; spelt = []; last = []; halts = []; rest = on 0 (operations.WaitGroup calls.Done) ∷ []; ending = stayed never }

is_ended : IsLineOf plan 0 ended_line
is_ended = record {
  opens = (refl, refl);
  calls = ((Done (Ok tt), (own_wait ∷ [], refl, ((0, refl), (refl, refl))), refl), tt);
  ends = (refl, ([], Entered 2 ends ∷ [], Done (Ok tt), refl, (refl, refl), (Done (Ok outcomes.Done), (own_end ∷ [], refl, ((0, refl), (refl, refl))), refl)));
  halts = refl;
}

is_stayed : IsLineOf plan 1 stayed_line
is_stayed = record {
  opens = (refl, (Done (Ok (outcomes.Started false)), (own_leave ∷ [], refl, ((0, refl), (refl, refl))), refl));
  calls = tt;
  ends = refl;
  halts = refl;
}

each : (worker : ℕ) (line : Line) → slice_get (ended_line ∷ stayed_line ∷ []) worker ≡ Some line → IsLineOf plan worker line
each zero line at = subst (IsLineOf plan 0) (ap (λ (o : Option Line). unwrap_or o line) at) is_ended
each (suc zero) line at = subst (IsLineOf plan 1) (ap (λ (o : Option Line). unwrap_or o line) at) is_stayed
each (suc (suc worker)) line at = absurd (none-some line at)

at_end : All (λ (line : Line). IsAtEnd line.ending) (ended_line ∷ stayed_line ∷ [])
at_end zero d within = tt
at_end (suc zero) d within = tt
at_end (suc (suc k)) d within = absurd (omega (arith, within))

pub explained : ByScript → Explains plan outcome told_at_the_end
explained by_script = record {
  lines = ended_line ∷ stayed_line ∷ [];
  are = (by_script plan _ _ _ refl).1 (record { scripts = refl; lists = refl; replies = refl; each = each });
  lawful = is_record plan journals made_first made_second small;
  agrees = (at_end, refl);
}

-- whether a worker is told that it never will be started
abbrev is_never : StartReply → Bool
is_never started.Never = true
is_never given = false

pub refused : (other : Outcome) → Explains plan other told_too_early → ⊥
refused other explains =
    let is : IsStartsJournal (false ∷ true ∷ []) (journal_of told_too_early 2) = explains.lawful.starts refl in
    let follows = follows_back event.Starts reply.Starts starts_back is_starts_back next starts_releases starts_acquires (begun (false ∷ true ∷ [])) (is_told ∷ ends ∷ []) is in
    true≢false (ap is_never follows.0.1)
