-- An item that was put into a pool and got, and one that was got and never put.
use Rattle.std.proofs.Common.{◌≡◌, ℕ, zero, suc, ◌+◌, ◌<◌, List, [], ◌∷◌, Some, slice_get, refl, ap, arith}
use Rattle.std.specs.Prelude.{Ok}
use Rattle.std.proofs.lemmas.Option.{none-some}
use Rattle.pool_core.specs.Edges.{pool_releases, pool_acquires}
use Rattle.pool_core.specs.PartMachine.{part_next, part_start}
use Rattle.pool_core.specs.declared.pool_event.PoolEvent.{PoolEvent}
use Rattle.pool_core.specs.declared.pool_event.PoolEvent.TheVariants.{Put, LookOwn}
use Rattle.pool_core.specs.declared.pool_event.PoolReply.{PoolReply}
use Rattle.pool_core.specs.declared.pool_event.PoolReply.TheVariants as pool_reply
use Rattle.protocols.specs.declared.pool.PoolOutcome.TheVariants.{Kept, Item}
use Rattle.script_calls.specs.declared.call.Operation.TheVariants as operations
use Rattle.script_calls.specs.declared.call.Reply.TheVariants as replies
use Rattle.script_calls.specs.declared.outcome.Outcome.{Outcome}
use Rattle.sync_model.specs.declared.answer.Answer.TheVariants.{Done}
use Rattle.sync_model.specs.declared.journal.Entry.{Entry}
use Rattle.sync_types.specs.declared.pool_call.PoolCall.TheVariants as calls
use Rattle.sync_types.specs.declared.pool_call.PoolCallReply.TheVariants as answers
use Rattle.workload.specs.declared.object.ObjectKind.TheVariants.{Pool}
use Rattle.workload.specs.declared.object.ObjectLine.{ObjectLine}
use Rattle.workload.specs.Puts.{puts_at}
use Rattle.run_record.specs.declared.entered.ObjectEvent.TheVariants as event
use Rattle.run_record.specs.declared.entered.ObjectReply.TheVariants as reply
use Rattle.run_record.specs.declared.made.Made.{Made}
use Rattle.run_record.specs.declared.made.Made.TheVariants.{Entered}
use Rattle.run_record.specs.Explains.{Explains}
use Rattle.run_record.specs.Lines.{SpeltCall, AreSpelt}
use Rattle.run_record.specs.Objects.{first_part}
use Rattle.run_record.specs.PoolKind.{IsPartJournal}
use Rattle.run_record.specs.Record.{ObjectEntry, journal_of}
use Rattle.run_laws.specs.Examples.{declared, on, entry}
use Rattle.run_laws.specs.ExamplesPool.{plan, outcome, puts, takes, got}
use Rattle.run_laws.proofs.Backs.{pool_back, is_pool_back}
use Rattle.run_laws.proofs.SmallRecords.{ByScript, IsSmall, is_record, no_starts, whole_line, are_whole, both_ended, quiet_edges}
use Rattle.run_laws.proofs.Unlifted.{follows_back}

abbrev own_put : Entry (PoolEvent ℕ) (PoolReply ℕ)
own_put = entry 0 (Put 5) pool_reply.Kept

abbrev own_take : Entry (PoolEvent ℕ) (PoolReply ℕ)
own_take = entry 0 LookOwn (pool_reply.Item 5)

abbrev own : List (Entry (PoolEvent ℕ) (PoolReply ℕ))
own = own_put ∷ own_take ∷ []

abbrev journal : List ObjectEntry
journal = puts ∷ takes 5 ∷ []

abbrev journals : List (List ObjectEntry)
journals = [] ∷ journal ∷ [] ∷ []

abbrev made_first : List Made
made_first = Entered 2 puts ∷ Entered 2 (takes 5) ∷ []

is_journal : IsPartJournal 1 journal
is_journal = (own, refl, ((refl, refl), ((refl, refl), tt)), quiet_edges pool_releases pool_acquires own (refl, (refl, tt)))

no_journal : IsPartJournal 1 []
no_journal = ([], refl, tt, quiet_edges pool_releases pool_acquires [] tt)

parts : (place part : ℕ) (object : ObjectLine) → slice_get plan.objects place ≡ Some object → object.kind ≡ Pool → part < plan.workers → IsPartJournal (puts_at place plan.scripts) (journal_of (got 5) (first_part plan place + part))
parts zero zero object at pool within = is_journal
parts zero (suc zero) object at pool within = no_journal
parts zero (suc (suc part)) object at pool within = absurd (omega (arith, within))
parts (suc place) part object at pool within = absurd (none-some object at)

small : IsSmall plan journals made_first []
small = record {
  objects = refl;
  quiet_first = ((refl, refl), ((refl, refl), tt));
  quiet_second = tt;
  two = (tt, ((refl, (refl, tt)), (tt, tt)));
  follow = (refl, tt);
  parts = parts;
  starts = no_starts plan _ refl;
  once_first = (refl, (refl, (refl, (refl, tt))));
  once_second = (refl, (refl, (refl, (refl, tt))));
}

abbrev first : List SpeltCall
first =
    record { call = on 0 (operations.Pool (calls.Put 5)); items = Entered 2 puts ∷ []; reply = replies.Pool answers.Done }
    ∷ record { call = on 0 (operations.Pool calls.Get); items = Entered 2 (takes 5) ∷ []; reply = replies.Pool (answers.Put 5) } ∷ []

spelt_first : AreSpelt plan 0 0 first
spelt_first = (
  (Done (Ok Kept), (own_put ∷ [], refl, ((0, refl), (refl, refl))), refl),
  ((Entered 2 (takes 5) ∷ [], [], Done (Ok (Item 5)), refl, (own_take ∷ [], refl, ((0, refl), (refl, refl))), (refl, refl)), tt),
)

pub explained : ByScript → Explains plan (outcome 5) (got 5)
explained by_script = record {
  lines = whole_line first ∷ whole_line [] ∷ [];
  are = (by_script plan _ _ _ refl).1 (record { scripts = refl; lists = refl; replies = refl; each = are_whole plan refl first [] spelt_first tt });
  lawful = is_record plan journals made_first [] small;
  agrees = (both_ended first [], refl);
}

-- the item of a reply
abbrev item_in : PoolReply ℕ → ℕ
item_in (pool_reply.Item item) = item
item_in given = 0

pub refused : (other : Outcome) → Explains plan other (got 6) → ⊥
refused other explains =
    let is : IsPartJournal 1 (journal_of (got 6) 2) = explains.lawful.parts 0 0 (declared 112 Pool) refl refl (omega arith) in
    let follows = follows_back event.Pool reply.Pool pool_back is_pool_back part_next pool_releases pool_acquires (part_start 1) (puts ∷ takes 6 ∷ []) is in
    let same : 6 ≡ 5 = ap item_in follows.1.0.1 in
    absurd (omega (arith, same))
