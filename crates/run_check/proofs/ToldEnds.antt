-- In a worker's list each end of a once's function stands right behind its beginning, but for calls on maps and atomics.
use Rattle.std.proofs.Common.{◌≡◌, ℕ, zero, suc, ◌+◌, ℤ, Bool, true, false, cond, List, [], ◌∷◌, ◌++◌, map, length, Ok, Err, Option, Some, None, slice_get, refl, sym, ap, ◌∙◌, subst, append_assoc}
use Rattle.std.specs.List.{AllByRecursion, flat_map, range_with_len}
use Rattle.std.proofs.lemmas.Bool.{false≢true}
use Rattle.std.proofs.lemmas.List.Elements.{recursion_from_All}
use Rattle.sync_types.specs.declared.atomic_object.AtomicCall.{AtomicCall}
use Rattle.sync_types.specs.declared.atomic_object.Number.{Number}
use Rattle.sync_types.specs.declared.lock_call.RwMutexCall.{RwMutexCall}
use Rattle.sync_types.specs.declared.lock_call.RwMutexCall.TheVariants as rw_calls
use Rattle.sync_types.specs.declared.misuse.Misuse.{Misuse}
use Rattle.sync_types.specs.declared.once_call.DoReply.TheVariants as do_replies
use Rattle.sync_types.specs.declared.pool_call.PoolCall.{PoolCall}
use Rattle.sync_types.specs.declared.pool_call.PoolCall.TheVariants as pool_calls
use Rattle.sync_types.specs.declared.wait_call.CondCall.{CondCall}
use Rattle.sync_types.specs.declared.wait_call.CondCall.TheVariants as cond_calls
use Rattle.sync_model.specs.declared.answer.Answer.TheVariants.{Done, Halted}
use Rattle.sync_model.specs.declared.item.Item.{Item}
use Rattle.sync_model.specs.declared.item.SharedCall.{SharedCall}
use Rattle.sync_model.specs.declared.item.SharedReply.{SharedReply}
use Rattle.sync_model.specs.declared.journal.Deed.{Deed}
use Rattle.sync_model.specs.declared.journal.Deed.TheVariants.{Event, Refused, Halt}
use Rattle.sync_model.specs.declared.journal.Entry.{Entry}
use Rattle.script_calls.specs.declared.call.Call.{Call}
use Rattle.script_calls.specs.declared.call.ComposedCall.TheVariants.{IfEqual, WaitFor, Go}
use Rattle.script_calls.specs.declared.call.Operation.{Operation}
use Rattle.script_calls.specs.declared.call.Operation.TheVariants as operations
use Rattle.script_calls.specs.declared.call.Reply.{Reply}
use Rattle.script_calls.specs.declared.call.Reply.TheVariants as replies
use Rattle.script_calls.specs.Starts.{group_of}
use Rattle.wait_cores.specs.declared.once.OnceEvent.{OnceEvent}
use Rattle.wait_cores.specs.declared.once.OnceEvent.TheVariants as once_events
use Rattle.wait_cores.specs.declared.once.OnceReply.{OnceReply}
use Rattle.wait_cores.specs.declared.once.OnceReply.TheVariants as once_replies
use Rattle.wait_cores.specs.OnceLaws.{is_run as is_run_of}
use Rattle.pool_core.specs.declared.pool_event.PoolEvent.{PoolEvent}
use Rattle.starts_core.specs.declared.protocol.StartsStage.{StartsStage}
use Rattle.protocols.specs.declared.cond.CondStage.{CondStage}
use Rattle.protocols.specs.declared.mutex.MutexStage.{MutexStage}
use Rattle.protocols.specs.declared.once.OnceOutcome.{OnceOutcome}
use Rattle.protocols.specs.declared.once.OnceOutcome.TheVariants.{Run, Already, Ended}
use Rattle.protocols.specs.declared.once.OnceStage.{OnceStage}
use Rattle.protocols.specs.declared.once.OnceStage.TheVariants as once_stage
use Rattle.protocols.specs.declared.pool.PoolOutcome.{PoolOutcome}
use Rattle.protocols.specs.declared.pool.PoolOutcome.TheVariants.{Kept, Dropped, Item as Taken, Nothing, Swept}
use Rattle.protocols.specs.declared.pool.PoolStage.{PoolStage}
use Rattle.protocols.specs.declared.step.Step.{Step}
use Rattle.protocols.specs.declared.wait_group.GroupStage.{GroupStage}
use Rattle.protocols.specs.OnceStages.{begin_meaning, leave_meaning, once_event, once_meaning}
use Rattle.protocols.specs.Spelling.{CallAnswer, Spells}
use Rattle.workload.specs.declared.object.ObjectKind.{ObjectKind}
use Rattle.workload.specs.declared.object.ObjectKind.TheVariants as kinds
use Rattle.workload.specs.declared.object.ObjectLine.{ObjectLine}
use Rattle.workload.specs.Plan.{Plan, has_dormant, is_dormant}
use Rattle.run_record.specs.declared.entered.ObjectEvent.{ObjectEvent}
use Rattle.run_record.specs.declared.entered.ObjectEvent.TheVariants as object_events
use Rattle.run_record.specs.declared.entered.ObjectReply.{ObjectReply}
use Rattle.run_record.specs.declared.entered.ObjectReply.TheVariants as object_replies
use Rattle.run_record.specs.declared.made.Made.{Made}
use Rattle.run_record.specs.declared.made.Made.TheVariants.{Shared, Entered}
use Rattle.run_record.specs.AtomicKind.{adds, atomic_call}
use Rattle.run_record.specs.Calls.{SpellsCall, call_at, call_on}
use Rattle.run_record.specs.CondKind.{cond_call, cond_part, wait_part}
use Rattle.run_record.specs.Lines.{AreHalts, AreSpelt, EndsBy, IsHalt, IsLineOf, Line, LineEnd, OpensBy, SpeltCall, whole, misused, halted, unfinished, stayed, never as never_started, stopped, waits, items_of}
use Rattle.run_record.specs.MutexKind.{mutex_part}
use Rattle.run_record.specs.FlightKind.{flight_part}
use Rattle.run_record.specs.Objects.{atomic_number, starts_number}
use Rattle.run_record.specs.OnceKind.{failure, goes_on_once, once_part}
use Rattle.run_record.specs.Parts.{GoesOn, Part, Places, and_then, lifted, lifted_deed, read_as, returns, stages}
use Rattle.run_record.specs.PoolKind.{found_by, found_or, looks_of, pool_call, pool_part, swept_by}
use Rattle.run_record.specs.Record.{object_number, shared_in}
use Rattle.run_record.specs.RwMutexKind.{rw_part}
use Rattle.run_record.specs.StartsKind.{closing, done_part, done_under, end_part, opening, starts_part, wait_start_part, was_started}
use Rattle.run_record.specs.Tests.{compared, holds, tests, unless_met, waits_for}
use Rattle.run_record.specs.WaitGroupKind.{wait_group_part}
use Rattle.record_text.proofs.EachDeed.{EachOf, LeadsOn, by_flight, by_never, by_read, by_returns, by_then, each_deed, of_deeds, of_entries}
use Rattle.record_text.proofs.OwnWords.{each_mono, each_split}

-- the event ends a once's function
abbrev pub ends_once : ObjectEvent → Bool
ends_once (object_events.Once (once_events.End v)) = true
ends_once event = false

-- the entry does, also where a halt refuses it
abbrev pub is_end : Deed ObjectEvent ObjectReply → Bool
is_end (Event event reply) = ends_once event
is_end (Refused event misuse) = ends_once event
is_end (Halt misuse) = false

-- the caller is to run a once's function
abbrev pub says_run : ObjectReply → Bool
says_run (object_replies.Once reply) = is_run_of reply
says_run reply = false

abbrev pub is_run : Deed ObjectEvent ObjectReply → Bool
is_run (Event event reply) = says_run reply
is_run (Refused event misuse) = false
is_run (Halt misuse) = false

-- the once whose function the worker is to run, behind an entry
abbrev pub run_behind : ℕ → Deed ObjectEvent ObjectReply → Option ℕ
run_behind object deed = cond (is_run deed) (Some object) None

-- each end is one of the once whose function the worker was told to run by the entry before it
abbrev pub EndsAre : Option ℕ → List Made → Type 0
EndsAre runs [] = Unit {0}
EndsAre runs (Shared x ∷ items) = EndsAre runs items
EndsAre runs (Entered object entry ∷ items) = (is_end entry.deed ≡ true → runs ≡ Some object) × EndsAre (run_behind object entry.deed) items

-- what the last entry of some items leaves
abbrev runs_behind : Option ℕ → List Made → Option ℕ
runs_behind runs [] = runs
runs_behind runs (Shared x ∷ items) = runs_behind runs items
runs_behind runs (Entered object entry ∷ items) = runs_behind (run_behind object entry.deed) items

ends_both : (xs ys : List Made) (runs : Option ℕ) → EndsAre runs xs → EndsAre (runs_behind runs xs) ys → EndsAre runs (xs ++ ys)
ends_both [] ys runs first second = second
ends_both (Shared x ∷ xs) ys runs first second = ends_both xs ys runs first second
ends_both (Entered object entry ∷ xs) ys runs first second = (first.0, ends_both xs ys (run_behind object entry.deed) first.1 second)

ends_first : (xs ys : List Made) (runs : Option ℕ) → EndsAre runs (xs ++ ys) → EndsAre runs xs
ends_first [] ys runs all = tt
ends_first (Shared x ∷ xs) ys runs all = ends_first xs ys runs all
ends_first (Entered object entry ∷ xs) ys runs all = (all.0, ends_first xs ys (run_behind object entry.deed) all.1)

-- ---- calls on no once

-- no end
abbrev NoEnd : Made → Type 0
NoEnd (Shared x) = Unit {0}
NoEnd (Entered object entry) = is_end entry.deed ≡ false

no_ends : (items : List Made) → AllByRecursion NoEnd items → (runs : Option ℕ) → EndsAre runs items
no_ends [] each runs = tt
no_ends (Shared x ∷ items) each runs = no_ends items each.1 runs
no_ends (Entered object entry ∷ items) each runs = ((λ is. absurd (false≢true (sym each.0 ∙ is))), no_ends items each.1 (run_behind object entry.deed))

module _ {E R : Type 0} (event : E → ObjectEvent) (reply : R → ObjectReply) (none : (e : E) → ends_once (event e) ≡ false) where
  no_deed : (deed : Deed E R) → is_end (lifted_deed event reply deed) ≡ false
  no_deed (Event e r) = none e
  no_deed (Refused e misuse) = none e
  no_deed (Halt misuse) = refl

  no_entries : (object : ℕ) (entries : List (Entry E R)) → AllByRecursion (λ (entry : Entry E R). NoEnd (Entered object (lifted event reply entry))) entries
  no_entries object [] = tt
  no_entries object (entry ∷ entries) = (no_deed entry.deed, no_entries object entries)

  only_entries : (object : ℕ) (entries : List (Entry E R)) (items : List Made) → items ≡ map (λ entry. Entered object (lifted event reply entry)) entries → AllByRecursion NoEnd items
  only_entries object entries items is = subst (AllByRecursion NoEnd) (sym is) (of_entries NoEnd event reply object entries (no_entries object entries))

  of_stages : {G O : Type 0} (event_of : G → ℕ → E) (meaning : G → R → Step G O) (object : ℕ) (from : G) → EachOf NoEnd (stages event reply event_of meaning object from)
  of_stages event_of meaning object from items answer (entries, is, spelt) = only_entries object entries items is

all_shared : (made : List Item) → AllByRecursion NoEnd (map Shared made)
all_shared [] = tt
all_shared (x ∷ made) = (tt, all_shared made)

of_places : (calls : List (SharedCall × SharedReply)) (items : List Made) → Places calls items → AllByRecursion NoEnd items
of_places calls items (made, is, told) = subst (AllByRecursion NoEnd) (sym is) (all_shared made)

of_mutex : (object : ℕ) (from : MutexStage) → EachOf NoEnd (mutex_part object from)
of_mutex object from = of_stages object_events.Mutex object_replies.Mutex (λ e. refl) _ _ object from

of_cond : (object : ℕ) (from : CondStage) → EachOf NoEnd (cond_part object from)
of_cond object from = of_stages object_events.Cond object_replies.Cond (λ e. refl) _ _ object from

of_group : (object : ℕ) (from : GroupStage) → EachOf NoEnd (wait_group_part object from)
of_group object from = of_stages object_events.WaitGroup object_replies.WaitGroup (λ e. refl) _ _ object from

of_pool : (object : ℕ) (from : PoolStage) → EachOf NoEnd (pool_part object from)
of_pool object from = of_stages object_events.Pool object_replies.Pool (λ e. refl) _ _ object from

of_starts : (object : ℕ) (from : StartsStage) → EachOf NoEnd (starts_part object from)
of_starts object from = of_stages object_events.Starts object_replies.Starts (λ e. refl) _ _ object from

of_wait : (object mutex : ℕ) → EachOf NoEnd (wait_part object mutex)
of_wait object mutex = by_then NoEnd _ _ (of_cond object _) (λ ticket.
    by_then NoEnd _ _ (of_mutex mutex _) (λ unlocked.
    by_then NoEnd _ _ (of_cond object _) (λ left.
    by_read NoEnd (λ locked. replies.Returned) _ (of_mutex mutex _))))

of_cond_call : (object mutex : ℕ) (call : CondCall) → EachOf NoEnd (cond_call object mutex call)
of_cond_call object mutex cond_calls.Wait = of_wait object mutex
of_cond_call object mutex cond_calls.Signal = by_read NoEnd (λ done. replies.Returned) _ (of_cond object _)
of_cond_call object mutex cond_calls.Broadcast = by_read NoEnd (λ done. replies.Returned) _ (of_cond object _)

of_rw_part : (object : ℕ) (call : RwMutexCall) → EachOf NoEnd (rw_part object call)
of_rw_part object rw_calls.Lock = λ items answer spelt. only_entries object_events.RwMutex object_replies.RwMutex (λ e. refl) object spelt.0 items spelt.1
of_rw_part object call = of_stages object_events.RwMutex object_replies.RwMutex (λ e. refl) _ _ object _

module _ {T : Type 0} (part : OnceStage T → Part (OnceOutcome T)) (function : Part T) (ran returned : T → Reply ℕ) (of_part : (stage : OnceStage T) → EachOf NoEnd (part stage)) (of_function : EachOf NoEnd function) where
  of_goes_on : (outcome : OnceOutcome T) → EachOf NoEnd (goes_on_once part function ran returned outcome)
  of_goes_on Run = by_then NoEnd function _ of_function (λ value. by_read NoEnd (λ ended. ran value) _ (of_part (once_stage.End value)))
  of_goes_on (Already kept) = by_returns NoEnd (returned kept)
  of_goes_on Ended = by_never NoEnd

  of_once : EachOf NoEnd (once_part part function ran returned)
  of_once = by_then NoEnd _ _ (of_part once_stage.Begin) of_goes_on

of_found : (rest : Part (Reply ℕ)) → EachOf NoEnd rest → (outcome : PoolOutcome) → EachOf NoEnd (found_or rest outcome)
of_found rest each (Taken item) = by_returns NoEnd _
of_found rest each Nothing = each
of_found rest each Kept = by_never NoEnd
of_found rest each (Dropped item) = by_never NoEnd
of_found rest each Swept = by_never NoEnd

of_looks : (worker first : ℕ) (looks : List (PoolEvent ℕ)) → EachOf NoEnd (found_by worker first looks)
of_looks worker first [] = by_returns NoEnd _
of_looks worker first (look ∷ looks) = by_then NoEnd _ _ (of_pool _ _) (of_found (found_by worker first looks) (of_looks worker first looks))

of_sweeps : (first : ℕ) (parts : List ℕ) → EachOf NoEnd (swept_by first parts)
of_sweeps first [] = by_returns NoEnd _
of_sweeps first (part ∷ parts) = by_then NoEnd _ _ (of_pool _ _) (λ swept. of_sweeps first parts)

of_pool_call : (count worker first : ℕ) (call : PoolCall) → EachOf NoEnd (pool_call count worker first call)
of_pool_call count worker first (pool_calls.Put item) = by_read NoEnd _ _ (of_pool _ _)
of_pool_call count worker first pool_calls.Get = of_looks worker first (looks_of count worker)
of_pool_call count worker first pool_calls.Sweep = of_sweeps first (range_with_len 0 count)

of_atomic : (a : ℕ) (call : AtomicCall) → EachOf NoEnd (atomic_call a call)
of_atomic a call items answer (reply, places, is) = of_places _ items places

of_test : (a : ℕ) (value : Number) → EachOf NoEnd (tests a value)
of_test a value = by_read NoEnd (holds value) _ (of_atomic a _)

of_unless_met : (next : Part Bool) → EachOf NoEnd next → (met : Bool) → EachOf NoEnd (unless_met next met)
of_unless_met next later true = by_returns NoEnd true
of_unless_met next later false = later

of_waits_for : (object mutex a : ℕ) (value : Number) (tries : ℕ) → EachOf NoEnd (waits_for object mutex a value tries)
of_waits_for object mutex a value zero = of_test a value
of_waits_for object mutex a value (suc tries) = by_then NoEnd _ _ (of_test a value) (of_unless_met _ (by_then NoEnd _ _ (of_wait object mutex) (λ waited. of_waits_for object mutex a value tries)))

of_chosen : {O : Type 0} (b : Bool) (first second : Part O) → EachOf NoEnd first → EachOf NoEnd second → EachOf NoEnd (cond b first second)
of_chosen true first second one other = one
of_chosen false first second one other = other

of_opening : (plan : Plan) (worker : ℕ) → EachOf NoEnd (opening plan worker)
of_opening plan worker = of_chosen (is_dormant plan worker) (wait_start_part (starts_number plan)) (returns true) (by_read NoEnd was_started _ (of_starts _ _)) (by_returns NoEnd true)

of_done : (group : Option ℕ) → EachOf NoEnd (done_under group)
of_done None = by_returns NoEnd tt
of_done (Some group) = by_read NoEnd (λ done. tt) _ (by_read NoEnd (λ done. replies.Returned) _ (of_group _ _))

of_closing : (plan : Plan) (worker : ℕ) → EachOf NoEnd (closing plan worker)
of_closing plan worker =
    of_chosen (has_dormant plan) (and_then (done_part plan worker) (λ done. end_part (starts_number plan))) (returns tt)
    (by_then NoEnd (done_part plan worker) (λ done. end_part (starts_number plan))
    (of_chosen (is_dormant plan worker) (done_under (group_of worker plan.scripts)) (returns tt) (of_done (group_of worker plan.scripts)) (by_returns NoEnd tt))
    (λ done. by_read NoEnd (λ ended. tt) _ (of_starts _ _)))
    (by_returns NoEnd tt)

-- ---- a call on a once

abbrev OnceDeed : Type 0
OnceDeed = Deed (OnceEvent ℤ) (OnceReply ℤ)

-- the stage ends no function
abbrev IsBefore : OnceStage ℤ → Type 0
IsBefore once_stage.Begin = Unit {0}
IsBefore (once_stage.End value) = ⊥
IsBefore once_stage.Leave = Unit {0}

begin_leads : (reply : OnceReply ℤ) → LeadsOn IsBefore (begin_meaning reply)
begin_leads once_replies.Run = tt
begin_leads once_replies.Queued = tt
begin_leads (once_replies.Done kept) = tt
begin_leads once_replies.Ended = tt
begin_leads (once_replies.Left kept) = tt
begin_leads once_replies.Still = tt

leave_leads : (reply : OnceReply ℤ) → LeadsOn IsBefore (leave_meaning reply)
leave_leads once_replies.Run = tt
leave_leads once_replies.Queued = tt
leave_leads (once_replies.Done kept) = tt
leave_leads once_replies.Ended = tt
leave_leads (once_replies.Left kept) = tt
leave_leads once_replies.Still = tt

leads_before : (stage : OnceStage ℤ) (reply : OnceReply ℤ) → IsBefore stage → LeadsOn IsBefore (once_meaning stage reply)
leads_before once_stage.Begin reply such = begin_leads reply
leads_before (once_stage.End value) reply such = absurd such
leads_before once_stage.Leave reply such = leave_leads reply

no_event : (stage : OnceStage ℤ) (now : ℕ) → IsBefore stage → ends_once (object_events.Once (once_event stage now)) ≡ false
no_event once_stage.Begin now such = refl
no_event (once_stage.End value) now such = absurd such
no_event once_stage.Leave now such = refl

-- who waits isn't told to run the function
waits_on : (deeds : List OnceDeed) → Spells once_event once_meaning once_stage.Leave deeds (Done (Ok Run)) → ⊥
waits_on [] spelt = spelt
waits_on (Event event once_replies.Run ∷ rest) spelt = spelt.1
waits_on (Event event once_replies.Queued ∷ rest) spelt = spelt.1
waits_on (Event event (once_replies.Done kept) ∷ rest) spelt = spelt.1
waits_on (Event event once_replies.Ended ∷ rest) spelt = spelt.1
waits_on (Event event (once_replies.Left kept) ∷ rest) spelt = let is = spelt.1.1 in absurd cc
waits_on (Event event once_replies.Still ∷ rest) spelt = waits_on rest spelt.1
waits_on (Refused event misuse ∷ rest) spelt = let is = spelt.2 in absurd cc
waits_on (Halt misuse ∷ rest) spelt = spelt

-- who is to run it has that answer at once
begins : (deeds : List OnceDeed) → Spells once_event once_meaning once_stage.Begin deeds (Done (Ok Run)) → (event : OnceEvent ℤ) × (deeds ≡ Event event once_replies.Run ∷ [])
begins [] spelt = absurd spelt
begins (Event event once_replies.Run ∷ rest) spelt = (event, ap (λ (l : List OnceDeed). Event event once_replies.Run ∷ l) spelt.1.0)
begins (Event event once_replies.Queued ∷ rest) spelt = absurd (waits_on rest spelt.1)
begins (Event event (once_replies.Done kept) ∷ rest) spelt = let is = spelt.1.1 in absurd cc
begins (Event event once_replies.Ended ∷ rest) spelt = absurd spelt.1
begins (Event event (once_replies.Left kept) ∷ rest) spelt = absurd spelt.1
begins (Event event once_replies.Still ∷ rest) spelt = absurd spelt.1
begins (Refused event misuse ∷ rest) spelt = let is = spelt.2 in absurd cc
begins (Halt misuse ∷ rest) spelt = absurd spelt

-- the end of a function is one entry
ends_at_once : (value : ℤ) (deeds : List OnceDeed) (answer : CallAnswer (OnceOutcome ℤ)) → Spells once_event once_meaning (once_stage.End value) deeds answer → (deed : OnceDeed) × (deeds ≡ deed ∷ [])
ends_at_once value [] answer spelt = absurd spelt
ends_at_once value (Event event once_replies.Ended ∷ rest) answer spelt = (_, ap (λ (l : List OnceDeed). Event event once_replies.Ended ∷ l) spelt.1.0)
ends_at_once value (Event event once_replies.Run ∷ rest) answer spelt = absurd spelt.1
ends_at_once value (Event event once_replies.Queued ∷ rest) answer spelt = absurd spelt.1
ends_at_once value (Event event (once_replies.Done kept) ∷ rest) answer spelt = absurd spelt.1
ends_at_once value (Event event (once_replies.Left kept) ∷ rest) answer spelt = absurd spelt.1
ends_at_once value (Event event once_replies.Still ∷ rest) answer spelt = absurd spelt.1
ends_at_once value (Refused event misuse ∷ rest) answer spelt = (_, ap (λ (l : List OnceDeed). Refused event misuse ∷ l) spelt.1)
ends_at_once value (Halt misuse ∷ rest) answer spelt = absurd spelt

module _ (object : ℕ) where
  abbrev part : OnceStage ℤ → Part (OnceOutcome ℤ)
  part from = stages object_events.Once object_replies.Once once_event once_meaning object from

  abbrev item : Entry (OnceEvent ℤ) (OnceReply ℤ) → Made
  item entry = Entered object (lifted object_events.Once object_replies.Once entry)

  of_beginning : EachOf NoEnd (part once_stage.Begin)
  of_beginning items answer (entries, is, spelt) =
      let IsNone : OnceDeed → Type 0 = λ deed. is_end (lifted_deed object_events.Once object_replies.Once deed) ≡ false in
      subst (AllByRecursion NoEnd) (sym is)
      (of_entries NoEnd object_events.Once object_replies.Once object entries (of_deeds IsNone entries
      (each_deed once_event once_meaning IsBefore IsNone leads_before (λ stage now reply such means. no_event stage now such) (λ stage now misuse such. no_event stage now such)
      once_stage.Begin (map (λ entry. entry.deed) entries) answer tt spelt)))

  -- one entry is an item
  one_entry : (entries : List (Entry (OnceEvent ℤ) (OnceReply ℤ))) (deed : OnceDeed) → map (λ entry. entry.deed) entries ≡ deed ∷ [] → (entry : Entry (OnceEvent ℤ) (OnceReply ℤ)) × (entries ≡ entry ∷ []) × (entry.deed ≡ deed)
  one_entry [] deed is = absurd cc
  one_entry (entry ∷ []) deed is = (entry, refl, cc)
  one_entry (entry ∷ (other ∷ entries)) deed is = absurd cc

  run_then : (items : List Made) → part once_stage.Begin items (Done (Ok Run)) → (runs : Option ℕ) → runs_behind runs items ≡ Some object
  run_then items (entries, is, spelt) runs =
      let (event, deeds) = begins (map (λ entry. entry.deed) entries) spelt in
      let (entry, one, deed) = one_entry entries (Event event once_replies.Run) deeds in
      ap (runs_behind runs) (is ∙ ap (map item) one) ∙ ap (λ (d : OnceDeed). run_behind object (lifted_deed object_events.Once object_replies.Once d)) deed

  end_then : (value : ℤ) (items : List Made) (answer : CallAnswer (OnceOutcome ℤ)) → part (once_stage.End value) items answer → EndsAre (Some object) items
  end_then value items answer (entries, is, spelt) =
      let (deed, deeds) = ends_at_once value (map (λ entry. entry.deed) entries) answer spelt in
      let (entry, one, same) = one_entry entries deed deeds in
      subst (EndsAre (Some object)) (sym (is ∙ ap (map item) one)) ((λ ends. refl), tt)

  past_shared : (made : List Item) (items : List Made) (runs : Option ℕ) → EndsAre runs items → EndsAre runs (map Shared made ++ items)
  past_shared [] items runs ends = ends
  past_shared (x ∷ made) items runs ends = past_shared made items runs ends

  module _ (a : ℕ) (amount : ℤ) (ran returned : ℤ → Reply ℕ) where
    abbrev goes_on : OnceOutcome ℤ → Part (Reply ℕ)
    goes_on = goes_on_once part (adds a amount) ran returned

    end_or_none : (given : CallAnswer ℤ) (items : List Made) (answer : CallAnswer (Reply ℕ)) → GoesOn (λ value. read_as (λ ended. ran value) (part (once_stage.End value))) given items answer → EndsAre (Some object) items
    end_or_none (Done (Ok value)) items answer (ended, made, is) = end_then value items ended made
    end_or_none (Done (Err misuse)) items answer goes = subst (EndsAre (Some object)) (sym goes.0) tt
    end_or_none (Halted misuse) items answer goes = subst (EndsAre (Some object)) (sym goes.0) tt

    behind_run : (items : List Made) (answer : CallAnswer (Reply ℕ)) → goes_on Run items answer → EndsAre (Some object) items
    behind_run items answer (xs, ys, given, is, (sum, (made, are, told), added), goes) =
        subst (EndsAre (Some object)) (sym (is ∙ ap (λ (l : List Made). l ++ ys) are)) (past_shared made ys (Some object) (end_or_none given ys answer goes))

    behind_begin : (runs : Option ℕ) (xs ys : List Made) (given : CallAnswer (OnceOutcome ℤ)) (answer : CallAnswer (Reply ℕ)) → part once_stage.Begin xs given → GoesOn goes_on given ys answer → EndsAre (runs_behind runs xs) ys
    behind_begin runs xs ys (Done (Ok Run)) answer first goes = subst (λ (o : Option ℕ). EndsAre o ys) (sym (run_then xs first runs)) (behind_run ys answer goes)
    behind_begin runs xs ys (Done (Ok (Already kept))) answer first goes = subst (EndsAre (runs_behind runs xs)) (sym goes.0) tt
    behind_begin runs xs ys (Done (Ok Ended)) answer first goes = absurd goes
    behind_begin runs xs ys (Done (Err misuse)) answer first goes = subst (EndsAre (runs_behind runs xs)) (sym goes.0) tt
    behind_begin runs xs ys (Halted misuse) answer first goes = subst (EndsAre (runs_behind runs xs)) (sym goes.0) tt

    once_ends : (items : List Made) (answer : CallAnswer (Reply ℕ)) → once_part part (adds a amount) ran returned items answer → (runs : Option ℕ) → EndsAre runs items
    once_ends items answer (xs, ys, given, is, first, goes) runs =
        subst (EndsAre runs) (sym is) (ends_both xs ys runs (no_ends xs (of_beginning xs given first) runs) (behind_begin runs xs ys given answer first goes))

-- ---- each call

abbrev IsNoOnce : ObjectKind → Operation → Type 0
IsNoOnce (kinds.Once atomic delta) operations.Once = ⊥
IsNoOnce kind operation = Unit {0}

module _ (plan : Plan) (worker before : ℕ) where
  none_on : (place : ℕ) (kind : ObjectKind) (operation : Operation) → IsNoOnce kind operation → EachOf NoEnd (call_on plan worker before place kind operation)
  none_on place kinds.Map (operations.Map call) other = λ items answer spelt. of_places _ items spelt.1
  none_on place kinds.Map operations.Range other = λ items answer spelt. of_places _ items spelt.2
  none_on place (kinds.Atomic type) (operations.Atomic call) other = of_atomic _ call
  none_on place (kinds.Atomic type) (operations.Composed (IfEqual value passes)) other = by_read NoEnd compared _ (of_test _ value)
  none_on place kinds.Mutex (operations.Mutex call) other = by_read NoEnd replies.Lock _ (of_mutex _ _)
  none_on place kinds.RwMutex (operations.RwMutex call) other = by_read NoEnd replies.Lock _ (of_rw_part _ call)
  none_on place (kinds.Cond mutex) (operations.Cond call) other = of_cond_call _ _ call
  none_on place (kinds.Cond mutex) (operations.Composed (WaitFor atomic value tries)) other = by_read NoEnd compared _ (of_waits_for _ _ _ value tries)
  none_on place (kinds.WaitGroup start) (operations.WaitGroup call) other = by_read NoEnd (λ done. replies.Returned) _ (of_group _ _)
  none_on place (kinds.WaitGroup start) (operations.Composed (Go started)) other =
      by_then NoEnd _ _ (by_read NoEnd (λ done. replies.Returned) _ (of_group _ _)) (λ added. by_read NoEnd (λ started. replies.Returned) _ (of_starts _ _))
  none_on place (kinds.Once atomic delta) operations.Once other = absurd other
  none_on place (kinds.OnceFunc code) operations.OnceFunc other =
      of_once _ (returns code) (λ kept. replies.OnceFunc (failure kept)) (λ kept. replies.OnceFunc (failure kept)) (of_stages object_events.OnceFunc object_replies.OnceFunc (λ e. refl) once_event once_meaning (object_number place)) (by_returns NoEnd code)
  none_on place (kinds.OnceValue value) operations.OnceValue other =
      of_once _ (returns value) replies.OnceValue replies.OnceValue (of_stages object_events.OnceValue object_replies.OnceValue (λ e. refl) once_event once_meaning (object_number place)) (by_returns NoEnd value)
  none_on place kinds.Pool (operations.Pool call) other = of_pool_call _ _ _ call
  none_on place (kinds.Sema size) (operations.Sema call) other = by_read NoEnd replies.Lock _ (of_stages object_events.Sema object_replies.Sema (λ e. refl) _ _ _ _)
  none_on place (kinds.Flight atomic delta) (operations.Fly key) other =
      by_flight NoEnd (flight_part (object_number place)) (adds (atomic_number plan.objects atomic) delta) (of_stages object_events.Flight object_replies.Flight (λ e. refl) _ _ _) (λ items answer spelt. of_places _ items spelt.1) _
  none_on place kind operation other = λ items answer spelt. absurd spelt

  ends_on : (place : ℕ) (kind : ObjectKind) (operation : Operation) (items : List Made) (answer : CallAnswer (Reply ℕ)) → call_on plan worker before place kind operation items answer → (runs : Option ℕ) → EndsAre runs items
  ends_on place (kinds.Once atomic delta) operations.Once items answer spelt runs =
      once_ends (object_number place) (atomic_number plan.objects atomic) delta (λ sum. replies.Once (do_replies.Ran sum)) (λ kept. replies.Once do_replies.Done) items answer spelt runs
  ends_on place kind operation items answer spelt runs = no_ends items (none_on place kind operation tt items answer spelt) runs

  ends_at : (object : Option ObjectLine) (call : Call) (items : List Made) (answer : CallAnswer (Reply ℕ)) → call_at plan worker before call.object object call.operation items answer → (runs : Option ℕ) → EndsAre runs items
  ends_at None call items answer spelt runs = absurd spelt
  ends_at (Some object) call items answer spelt runs = ends_on call.object object.kind call.operation items answer spelt runs

  ends_of : (call : Call) (items : List Made) (answer : CallAnswer (Reply ℕ)) → SpellsCall plan worker before call items answer → (runs : Option ℕ) → EndsAre runs items
  ends_of call items answer spelt runs = ends_at (slice_get plan.objects call.object) call items answer spelt runs

-- ---- a line

module _ (plan : Plan) (worker : ℕ) where
  ends_last : (before : ℕ) (ending : LineEnd) (rest : List Call) (last : List Made) → EndsBy plan worker before ending rest last → (runs : Option ℕ) → EndsAre runs last
  ends_last before whole rest last ends runs = no_ends last (of_closing plan worker last (Done (Ok tt)) ends.1) runs
  ends_last before (misused misuse) [] last ends runs = no_ends last (of_closing plan worker last (Done (Err misuse)) ends) runs
  ends_last before (misused misuse) (call ∷ rest) last ends runs = ends_of plan worker before call last (Done (Err misuse)) ends runs
  ends_last before (halted misuse) [] last ends runs = no_ends last (of_closing plan worker last (Halted misuse) ends) runs
  ends_last before (halted misuse) (call ∷ rest) last ends runs = ends_of plan worker before call last (Halted misuse) ends runs
  ends_last before unfinished [] last (later, answer, some, made) runs = no_ends last (each_split NoEnd last later (of_closing plan worker (last ++ later) answer made)).0 runs
  ends_last before unfinished (call ∷ rest) last (later, answer, made) runs = ends_first last later runs (ends_of plan worker before call (last ++ later) answer made runs)
  ends_last before (stayed stay) rest last ends runs = subst (EndsAre runs) (sym ends) tt

  ends_spelt : (before : ℕ) (spelt : List SpeltCall) (last : List Made) → AreSpelt plan worker before spelt → ((runs : Option ℕ) → EndsAre runs last) → (runs : Option ℕ) → EndsAre runs (flat_map (λ (s : SpeltCall). s.items) spelt ++ last)
  ends_spelt before [] last are behind runs = behind runs
  ends_spelt before (s ∷ spelt) last are behind runs =
      let items = flat_map (λ (t : SpeltCall). t.items) spelt in
      subst (EndsAre runs) (sym (append_assoc s.items items last))
      (ends_both s.items (items ++ last) runs (ends_of plan worker before s.call s.items (Done (Ok s.reply)) are.0 runs) (ends_spelt (before + length (shared_in s.items)) spelt last are.1 behind (runs_behind runs s.items)))

  opens_none : (ending : LineEnd) (spelt : List SpeltCall) (first : List Made) → OpensBy plan worker ending spelt first → AllByRecursion NoEnd first
  opens_none whole spelt first opens = of_opening plan worker first (Done (Ok true)) opens
  opens_none (misused misuse) spelt first opens = of_opening plan worker first (Done (Ok true)) opens
  opens_none (halted misuse) spelt first opens = of_opening plan worker first (Done (Ok true)) opens
  opens_none unfinished spelt first opens = of_opening plan worker first (Done (Ok true)) opens
  opens_none (stayed never_started) spelt first opens = of_opening plan worker first (Done (Ok false)) opens.1
  opens_none (stayed (stopped misuse)) spelt first opens = of_opening plan worker first (Halted misuse) opens.1
  opens_none (stayed waits) spelt first (none, (later, answer, some, made)) = (each_split NoEnd first later (of_opening plan worker (first ++ later) answer made)).0

  halt_none : (misuse : Misuse) (made : Made) → IsHalt misuse made → NoEnd made
  halt_none misuse (Shared x) is = tt
  halt_none misuse (Entered object entry) is = ap is_end is

  halts_none : (ending : LineEnd) (halts : List Made) → AreHalts ending halts → AllByRecursion NoEnd halts
  halts_none (misused misuse) halts are = each_mono (IsHalt misuse) NoEnd (halt_none misuse) halts (recursion_from_All (IsHalt misuse) halts are)
  halts_none whole halts are = subst (AllByRecursion NoEnd) (sym are) tt
  halts_none (halted misuse) halts are = subst (AllByRecursion NoEnd) (sym are) tt
  halts_none unfinished halts are = subst (AllByRecursion NoEnd) (sym are) tt
  halts_none (stayed stay) halts are = subst (AllByRecursion NoEnd) (sym are) tt

  -- each end of a once's function in a worker's list is of the once whose function it was told to run by the entry before
  pub line_ends : (line : Line) → IsLineOf plan worker line → EndsAre None (items_of line)
  line_ends line is =
      let items = flat_map (λ (s : SpeltCall). s.items) line.spelt in
      let last : (runs : Option ℕ) → EndsAre runs (line.last ++ line.halts) = λ runs.
      ends_both line.last line.halts runs (ends_last (length (shared_in items)) line.ending line.rest line.last is.ends runs) (no_ends line.halts (halts_none line.ending line.halts is.halts) (runs_behind runs line.last)) in
      ends_both line.first (items ++ (line.last ++ line.halts)) None (no_ends line.first (opens_none line.ending line.spelt line.first is.opens) None) (ends_spelt 0 line.spelt (line.last ++ line.halts) is.calls last (runs_behind None line.first))
