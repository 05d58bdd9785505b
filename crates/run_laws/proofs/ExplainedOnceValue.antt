-- A function made by `OnceValue` that runs once, and one that runs twice.
use Rattle.std.proofs.Common.{ℕ, Bool, true, false, List, [], ◌∷◌, refl, ap}
use Rattle.std.specs.Prelude.{Ok}
use Rattle.std.proofs.lemmas.Bool.{true≢false}
use Rattle.wait_cores.specs.OnceEdges.{once_releases, once_acquires}
use Rattle.wait_cores.specs.OnceMachine.{next, start}
use Rattle.wait_cores.specs.declared.once.OnceEvent.{OnceEvent}
use Rattle.wait_cores.specs.declared.once.OnceEvent.TheVariants.{Begin, End}
use Rattle.wait_cores.specs.declared.once.OnceReply.{OnceReply}
use Rattle.wait_cores.specs.declared.once.OnceReply.TheVariants as once_reply
use Rattle.protocols.specs.declared.once.OnceOutcome.TheVariants.{Run, Already, Ended}
use Rattle.script_calls.specs.declared.call.Operation.TheVariants as operations
use Rattle.script_calls.specs.declared.call.Reply.TheVariants as replies
use Rattle.script_calls.specs.declared.outcome.Outcome.{Outcome}
use Rattle.sync_model.specs.declared.answer.Answer.TheVariants.{Done}
use Rattle.sync_model.specs.declared.journal.Entry.{Entry}
use Rattle.workload.specs.declared.object.ObjectKind.TheVariants as kinds
use Rattle.run_record.specs.declared.entered.ObjectEvent.TheVariants as event
use Rattle.run_record.specs.declared.entered.ObjectReply.TheVariants as reply
use Rattle.run_record.specs.declared.made.Made.{Made}
use Rattle.run_record.specs.declared.made.Made.TheVariants.{Entered}
use Rattle.run_record.specs.Explains.{Explains}
use Rattle.run_record.specs.Lines.{SpeltCall, AreSpelt}
use Rattle.run_record.specs.OnceKind.{IsOnceValueJournal}
use Rattle.run_record.specs.Record.{ObjectEntry, journal_of}
use Rattle.run_laws.specs.Examples.{declared, on, entry}
use Rattle.run_laws.specs.ExamplesOnceValue.{plan, outcome, runs, ends, is_told, ran_once, ran_twice}
use Rattle.run_laws.proofs.Backs.{once_value_back, is_once_value_back}
use Rattle.run_laws.proofs.SmallRecords.{ByScript, IsSmall, is_record, no_starts, no_parts, whole_line, are_whole, both_ended, quiet_edges}
use Rattle.run_laws.proofs.Unlifted.{follows_back}

abbrev own_run : Entry (OnceEvent ℕ) (OnceReply ℕ)
own_run = entry 0 Begin once_reply.Run

abbrev own_end : Entry (OnceEvent ℕ) (OnceReply ℕ)
own_end = entry 0 (End 7) once_reply.Ended

abbrev own_told : Entry (OnceEvent ℕ) (OnceReply ℕ)
own_told = entry 1 Begin (once_reply.Done 7)

abbrev own : List (Entry (OnceEvent ℕ) (OnceReply ℕ))
own = own_run ∷ own_end ∷ own_told ∷ []

abbrev journal : List ObjectEntry
journal = runs 0 ∷ ends 0 ∷ is_told 1 ∷ []

abbrev made_first : List Made
made_first = Entered 1 (runs 0) ∷ Entered 1 (ends 0) ∷ []

abbrev made_second : List Made
made_second = Entered 1 (is_told 1) ∷ []

is_journal : IsOnceValueJournal 2 journal
is_journal = (own, refl, ((refl, refl), ((refl, refl), ((refl, refl), tt))), quiet_edges once_releases once_acquires own (refl, (refl, (refl, tt))))

small : IsSmall plan (journal ∷ []) made_first made_second
small = record {
  objects = refl;
  quiet_first = ((refl, refl), ((refl, refl), tt));
  quiet_second = ((refl, refl), tt);
  two = ((refl, (refl, (refl, tt))), tt);
  follow = (is_journal, tt);
  parts = no_parts plan (journal ∷ []) made_first made_second (refl, tt);
  starts = no_starts plan _ refl;
  once_first = (refl, (refl, tt));
  once_second = (refl, (refl, tt));
}

abbrev spelt : List Made → SpeltCall
spelt items = record { call = on 0 operations.OnceValue; items = items; reply = replies.OnceValue 7 }

abbrev first : List SpeltCall
first = spelt made_first ∷ []

abbrev second : List SpeltCall
second = spelt made_second ∷ []

spelt_first : AreSpelt plan 0 0 first
spelt_first = (
  (
    Entered 1 (runs 0) ∷ [],
    Entered 1 (ends 0) ∷ [],
    Done (Ok Run),
    refl,
    (own_run ∷ [], refl, ((0, refl), (refl, refl))),
    ([], Entered 1 (ends 0) ∷ [], Done (Ok 7), refl, (refl, refl), (Done (Ok Ended), (own_end ∷ [], refl, ((0, refl), (refl, refl))), refl)),
  ),
  tt,
)

spelt_second : AreSpelt plan 1 0 second
spelt_second = ((Entered 1 (is_told 1) ∷ [], [], Done (Ok (Already 7)), refl, (own_told ∷ [], refl, ((0, refl), (refl, refl))), (refl, refl)), tt)

pub explained : ByScript → Explains plan outcome ran_once
explained by_script = record {
  lines = whole_line first ∷ whole_line second ∷ [];
  are = (by_script plan _ _ _ refl).1 (record { scripts = refl; lists = refl; replies = refl; each = are_whole plan refl first second spelt_first spelt_second });
  lawful = is_record plan (journal ∷ []) made_first made_second small;
  agrees = (both_ended first second, refl);
}

-- whether a caller is to run the function
abbrev is_run : OnceReply ℕ → Bool
is_run once_reply.Run = true
is_run given = false

pub refused : (other : Outcome) → Explains plan other ran_twice → ⊥
refused other explains =
    let is : IsOnceValueJournal 2 (journal_of ran_twice 1) = explains.lawful.journals 0 (declared 118 (kinds.OnceValue 7)) refl in
    let follows = follows_back event.OnceValue reply.OnceValue once_value_back is_once_value_back next once_releases once_acquires (start 2) (runs 0 ∷ ends 0 ∷ runs 1 ∷ ends 1 ∷ []) is in
    true≢false (ap is_run follows.1.1.0.1)
