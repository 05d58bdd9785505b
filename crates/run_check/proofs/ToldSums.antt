-- What a once's function came to is the sum that its worker's last call on a map or an atomic answered.
use Rattle.std.proofs.Common.{◌≡◌, ℕ, zero, suc, ◌+◌, ℤ, pos, Bool, true, false, cond, List, [], ◌∷◌, ◌++◌, map, length, Ok, Err, Option, Some, None, slice_get, refl, sym, ap, ◌∙◌, subst, append_assoc}
use Rattle.std.specs.Prelude.{All, unwrap_or}
use Rattle.std.specs.List.{AllByRecursion, flat_map, range_with_len}
use Rattle.std.proofs.lemmas.List.Elements.{All-head, All-tail}
use Rattle.sync_types.specs.declared.atomic_object.AtomicCall.TheVariants.{Add, Load}
use Rattle.sync_types.specs.declared.atomic_object.AtomicReply.TheVariants as atomic_replies
use Rattle.sync_types.specs.declared.atomic_object.Number.{Number}
use Rattle.sync_types.specs.declared.atomic_object.Number.TheVariants as numbers
use Rattle.sync_types.specs.declared.lock_call.RwMutexCall.{RwMutexCall}
use Rattle.sync_types.specs.declared.lock_call.RwMutexCall.TheVariants as rw_calls
use Rattle.sync_types.specs.declared.misuse.Misuse.{Misuse}
use Rattle.sync_types.specs.declared.once_call.DoReply.TheVariants as do_replies
use Rattle.sync_types.specs.declared.pool_call.PoolCall.{PoolCall}
use Rattle.sync_types.specs.declared.pool_call.PoolCall.TheVariants as pool_calls
use Rattle.sync_types.specs.declared.wait_call.CondCall.{CondCall}
use Rattle.sync_types.specs.declared.wait_call.CondCall.TheVariants as cond_calls
use Rattle.sync_model.specs.declared.answer.Answer.TheVariants.{Done, Halted}
use Rattle.sync_model.specs.declared.item.Item.{Item}
use Rattle.sync_model.specs.declared.item.SharedCall.{SharedCall}
use Rattle.sync_model.specs.declared.item.SharedCall.TheVariants as calls
use Rattle.sync_model.specs.declared.item.SharedReply.{SharedReply}
use Rattle.sync_model.specs.declared.item.SharedReply.TheVariants as answers
use Rattle.sync_model.specs.declared.journal.Deed.{Deed}
use Rattle.sync_model.specs.declared.journal.Deed.TheVariants.{Event, Refused, Halt}
use Rattle.sync_model.specs.declared.journal.Entry.{Entry}
use Rattle.pool_core.specs.declared.pool_event.PoolEvent.{PoolEvent}
use Rattle.wait_cores.specs.declared.once.OnceEvent.{OnceEvent}
use Rattle.wait_cores.specs.declared.once.OnceEvent.TheVariants as once_events
use Rattle.wait_cores.specs.declared.once.OnceReply.{OnceReply}
use Rattle.wait_cores.specs.declared.once.OnceReply.TheVariants as once_replies
use Rattle.protocols.specs.declared.once.OnceOutcome.{OnceOutcome}
use Rattle.protocols.specs.declared.once.OnceOutcome.TheVariants.{Run, Already, Ended}
use Rattle.protocols.specs.declared.once.OnceStage.{OnceStage}
use Rattle.protocols.specs.declared.once.OnceStage.TheVariants as once_stage
use Rattle.protocols.specs.declared.pool.PoolOutcome.{PoolOutcome}
use Rattle.protocols.specs.declared.pool.PoolOutcome.TheVariants.{Kept, Dropped, Item as Taken, Nothing, Swept}
use Rattle.protocols.specs.declared.step.Step.{Step}
use Rattle.protocols.specs.OnceStages.{once_event, once_meaning}
use Rattle.protocols.specs.Spelling.{CallAnswer}
use Rattle.script_calls.specs.declared.call.Call.{Call}
use Rattle.script_calls.specs.declared.call.ComposedCall.TheVariants.{IfEqual, WaitFor, Go}
use Rattle.script_calls.specs.declared.call.Operation.{Operation}
use Rattle.script_calls.specs.declared.call.Operation.TheVariants as operations
use Rattle.script_calls.specs.declared.call.Reply.{Reply}
use Rattle.script_calls.specs.declared.call.Reply.TheVariants as replies
use Rattle.script_calls.specs.Starts.{group_of}
use Rattle.workload.specs.declared.object.ObjectKind.{ObjectKind}
use Rattle.workload.specs.declared.object.ObjectKind.TheVariants as kinds
use Rattle.workload.specs.declared.object.ObjectLine.{ObjectLine}
use Rattle.workload.specs.Plan.{Plan, has_dormant, is_dormant}
use Rattle.run_record.specs.declared.entered.ObjectEvent.{ObjectEvent}
use Rattle.run_record.specs.declared.entered.ObjectEvent.TheVariants as object_events
use Rattle.run_record.specs.declared.entered.ObjectReply.{ObjectReply}
use Rattle.run_record.specs.declared.entered.ObjectReply.TheVariants as object_replies
use Rattle.run_record.specs.declared.made.Made.{Made}
use Rattle.run_record.specs.declared.made.Made.TheVariants.{Shared, Entered}
use Rattle.run_record.specs.AtomicKind.{adds, atomic_call}
use Rattle.run_record.specs.Calls.{SpellsCall, call_at, call_on}
use Rattle.run_record.specs.CondKind.{cond_call, wait_part}
use Rattle.run_record.specs.FlightKind.{flight_part}
use Rattle.run_record.specs.Lines.{AreHalts, AreSpelt, EndsBy, IsHalt, IsLineOf, Line, LineEnd, OpensBy, SpeltCall, items_of, whole, misused, halted, unfinished, stayed, never, stopped, waits}
use Rattle.run_record.specs.Objects.{atomic_number, starts_number}
use Rattle.run_record.specs.OnceKind.{do_call, failure, goes_on_once, once_part}
use Rattle.run_record.specs.Parts.{GoesOn, Part, Places, and_then, lifted, lifted_deed, read_as, returns, stages}
use Rattle.run_record.specs.PoolKind.{found_by, found_or, looks_of, pool_call, swept_by}
use Rattle.run_record.specs.Record.{object_number, shared_in}
use Rattle.run_record.specs.RwMutexKind.{rw_part}
use Rattle.run_record.specs.StartsKind.{closing, done_part, done_under, end_part, opening, wait_start_part, was_started}
use Rattle.run_record.specs.Tests.{compared, holds, tests, unless_met, waits_for}
use Rattle.record_text.specs.Written.{atomic_reply, map_reply, whole_of}
use Rattle.record_text.proofs.EachDeed.{EachOf, LeadsOn, by_flight, by_never, by_read, by_returns, by_then, each_deed, of_deeds, of_entries}
use Rattle.record_text.proofs.OwnWords.{each_split}
use Rattle.run_check.specs.ToldItems.{sum_in}
use Rattle.run_check.specs.Replies.{int64_told}

-- what the worker's last call on a map or an atomic answered as a sum
abbrev pub sum_behind : ℤ → SharedCall → SharedReply → ℤ
sum_behind sum (calls.Map m call) (answers.Map reply) = sum_in (map_reply reply)
sum_behind sum (calls.Atomic a call) (answers.Atomic reply) = sum_in (atomic_reply reply)
sum_behind sum call reply = sum

-- a once's function that ends came to the sum
abbrev pub EndIs : ℤ → Deed ObjectEvent ObjectReply → Type 0
EndIs sum (Event (object_events.Once (once_events.End v)) reply) = sum ≡ v
EndIs sum (Refused (object_events.Once (once_events.End v)) misuse) = sum ≡ v
EndIs sum deed = Unit {0}

-- so does each one in a list, behind calls of which the last answered this sum
abbrev pub SumsAre : ℤ → List Made → Type 0
SumsAre sum [] = Unit {0}
SumsAre sum (Shared x ∷ items) = SumsAre (sum_behind sum x.call x.reply) items
SumsAre sum (Entered object entry ∷ items) = EndIs sum entry.deed × SumsAre sum items

-- a sum that is replied has 64 bits
abbrev pub Has64 : Made → Type 0
Has64 (Shared x) = (z : ℤ) → x.reply ≡ answers.Atomic (atomic_replies.Held (numbers.Int64 z)) → int64_told (whole_of z) ≡ Some z
Has64 (Entered object entry) = Unit {0}

-- the same, where the sums that are replied have 64 bits
abbrev SumsHold : ℤ → List Made → Type 0
SumsHold sum [] = Unit {0}
SumsHold sum (Shared x ∷ items) = Has64 (Shared x) → SumsHold (sum_behind sum x.call x.reply) items
SumsHold sum (Entered object entry ∷ items) = EndIs sum entry.deed × SumsHold sum items

sums_are : (sum : ℤ) (items : List Made) → SumsHold sum items → AllByRecursion Has64 items → SumsAre sum items
sums_are sum [] hold each = tt
sums_are sum (Shared x ∷ items) hold each = sums_are (sum_behind sum x.call x.reply) items (hold each.0) each.1
sums_are sum (Entered object entry ∷ items) hold each = (hold.0, sums_are sum items hold.1 each.1)

sums_both : (xs ys : List Made) (sum : ℤ) → SumsHold sum xs → ((s : ℤ) → SumsHold s ys) → SumsHold sum (xs ++ ys)
sums_both [] ys sum first second = second sum
sums_both (Shared x ∷ xs) ys sum first second = λ has. sums_both xs ys (sum_behind sum x.call x.reply) (first has) second
sums_both (Entered object entry ∷ xs) ys sum first second = (first.0, sums_both xs ys sum first.1 second)

sums_first : (xs ys : List Made) (sum : ℤ) → SumsHold sum (xs ++ ys) → SumsHold sum xs
sums_first [] ys sum all = tt
sums_first (Shared x ∷ xs) ys sum all = λ has. sums_first xs ys (sum_behind sum x.call x.reply) (all has)
sums_first (Entered object entry ∷ xs) ys sum all = (all.0, sums_first xs ys sum all.1)

-- ---- items by which no once's function ends

-- it is none's end, whatever the sum
abbrev NoEnd : Made → Type 0
NoEnd (Shared x) = Unit {0}
NoEnd (Entered object entry) = (sum : ℤ) → EndIs sum entry.deed

no_ends : (items : List Made) → AllByRecursion NoEnd items → (sum : ℤ) → SumsHold sum items
no_ends [] each sum = tt
no_ends (Shared x ∷ items) each sum = λ has. no_ends items each.1 (sum_behind sum x.call x.reply)
no_ends (Entered object entry ∷ items) each sum = (each.0 sum, no_ends items each.1 sum)

-- the event is of another object than a once
abbrev IsOther : ObjectEvent → Type 0
IsOther (object_events.Once e) = ⊥
IsOther event = Unit {0}

other_event : (event : ObjectEvent) (reply : ObjectReply) → IsOther event → (sum : ℤ) → EndIs sum (Event event reply)
other_event (object_events.Once e) reply other sum = absurd other
other_event event reply other sum = tt

other_refusal : (event : ObjectEvent) (misuse : Misuse) → IsOther event → (sum : ℤ) → EndIs sum (Refused event misuse)
other_refusal (object_events.Once e) misuse other sum = absurd other
other_refusal event misuse other sum = tt

module _ {E R : Type 0} (event : E → ObjectEvent) (reply : R → ObjectReply) (other : (e : E) → IsOther (event e)) where
  other_deed : (deed : Deed E R) (sum : ℤ) → EndIs sum (lifted_deed event reply deed)
  other_deed (Event e r) sum = other_event (event e) (reply r) (other e) sum
  other_deed (Refused e misuse) sum = other_refusal (event e) misuse (other e) sum
  other_deed (Halt misuse) sum = tt

  all_other : (object : ℕ) (entries : List (Entry E R)) → AllByRecursion NoEnd (map (λ entry. Entered object (lifted event reply entry)) entries)
  all_other object [] = tt
  all_other object (entry ∷ entries) = (other_deed entry.deed, all_other object entries)

  only_other : (object : ℕ) (entries : List (Entry E R)) (items : List Made) → items ≡ map (λ entry. Entered object (lifted event reply entry)) entries → AllByRecursion NoEnd items
  only_other object entries items is = subst (AllByRecursion NoEnd) (sym is) (all_other object entries)

  of_kind : {G O : Type 0} (event_of : G → ℕ → E) (meaning : G → R → Step G O) (object : ℕ) (from : G) → EachOf NoEnd (stages event reply event_of meaning object from)
  of_kind event_of meaning object from items answer (entries, is, spelt) = only_other object entries items is

all_shared : (made : List Item) → AllByRecursion NoEnd (map Shared made)
all_shared [] = tt
all_shared (x ∷ made) = (tt, all_shared made)

of_placed : (told : List (SharedCall × SharedReply)) (items : List Made) → Places told items → AllByRecursion NoEnd items
of_placed told items (made, is, same) = subst (AllByRecursion NoEnd) (sym is) (all_shared made)

of_wait : (object mutex : ℕ) → EachOf NoEnd (wait_part object mutex)
of_wait object mutex = by_then NoEnd _ _ (of_kind object_events.Cond object_replies.Cond (λ e. tt) _ _ object _) (λ ticket.
    by_then NoEnd _ _ (of_kind object_events.Mutex object_replies.Mutex (λ e. tt) _ _ mutex _) (λ unlocked.
    by_then NoEnd _ _ (of_kind object_events.Cond object_replies.Cond (λ e. tt) _ _ object _) (λ left.
    by_read NoEnd (λ locked. replies.Returned) _ (of_kind object_events.Mutex object_replies.Mutex (λ e. tt) _ _ mutex _))))

of_cond_call : (object mutex : ℕ) (call : CondCall) → EachOf NoEnd (cond_call object mutex call)
of_cond_call object mutex cond_calls.Wait = of_wait object mutex
of_cond_call object mutex cond_calls.Signal = by_read NoEnd (λ done. replies.Returned) _ (of_kind object_events.Cond object_replies.Cond (λ e. tt) _ _ object _)
of_cond_call object mutex cond_calls.Broadcast = by_read NoEnd (λ done. replies.Returned) _ (of_kind object_events.Cond object_replies.Cond (λ e. tt) _ _ object _)

of_rw_part : (object : ℕ) (call : RwMutexCall) → EachOf NoEnd (rw_part object call)
of_rw_part object rw_calls.Lock = λ items answer spelt. only_other object_events.RwMutex object_replies.RwMutex (λ e. tt) object spelt.0 items spelt.1
of_rw_part object rw_calls.Unlock = of_kind object_events.RwMutex object_replies.RwMutex (λ e. tt) _ _ object _
of_rw_part object rw_calls.TryLock = of_kind object_events.RwMutex object_replies.RwMutex (λ e. tt) _ _ object _
of_rw_part object rw_calls.RLock = of_kind object_events.RwMutex object_replies.RwMutex (λ e. tt) _ _ object _
of_rw_part object rw_calls.RUnlock = of_kind object_events.RwMutex object_replies.RwMutex (λ e. tt) _ _ object _
of_rw_part object rw_calls.TryRLock = of_kind object_events.RwMutex object_replies.RwMutex (λ e. tt) _ _ object _

module _ {T : Type 0} (part : OnceStage T → Part (OnceOutcome T)) (value : T) (ran returned : T → Reply ℕ) (of_part : (stage : OnceStage T) → EachOf NoEnd (part stage)) where
  of_goes_on : (outcome : OnceOutcome T) → EachOf NoEnd (goes_on_once part (returns value) ran returned outcome)
  of_goes_on Run = by_then NoEnd (returns value) _ (by_returns NoEnd value) (λ came. by_read NoEnd (λ ended. ran came) _ (of_part (once_stage.End came)))
  of_goes_on (Already kept) = by_returns NoEnd (returned kept)
  of_goes_on Ended = by_never NoEnd

  of_function : EachOf NoEnd (once_part part (returns value) ran returned)
  of_function = by_then NoEnd _ _ (of_part once_stage.Begin) of_goes_on

of_found : (rest : Part (Reply ℕ)) → EachOf NoEnd rest → (outcome : PoolOutcome) → EachOf NoEnd (found_or rest outcome)
of_found rest each (Taken item) = by_returns NoEnd _
of_found rest each Nothing = each
of_found rest each Kept = by_never NoEnd
of_found rest each (Dropped item) = by_never NoEnd
of_found rest each Swept = by_never NoEnd

of_looks : (worker first : ℕ) (looks : List (PoolEvent ℕ)) → EachOf NoEnd (found_by worker first looks)
of_looks worker first [] = by_returns NoEnd _
of_looks worker first (look ∷ looks) = by_then NoEnd _ _ (of_kind object_events.Pool object_replies.Pool (λ e. tt) _ _ _ _) (of_found (found_by worker first looks) (of_looks worker first looks))

of_sweeps : (first : ℕ) (parts : List ℕ) → EachOf NoEnd (swept_by first parts)
of_sweeps first [] = by_returns NoEnd _
of_sweeps first (part ∷ parts) = by_then NoEnd _ _ (of_kind object_events.Pool object_replies.Pool (λ e. tt) _ _ _ _) (λ swept. of_sweeps first parts)

of_pool_call : (count worker first : ℕ) (call : PoolCall) → EachOf NoEnd (pool_call count worker first call)
of_pool_call count worker first (pool_calls.Put item) = by_read NoEnd _ _ (of_kind object_events.Pool object_replies.Pool (λ e. tt) _ _ _ _)
of_pool_call count worker first pool_calls.Get = of_looks worker first (looks_of count worker)
of_pool_call count worker first pool_calls.Sweep = of_sweeps first (range_with_len 0 count)

of_test : (a : ℕ) (value : Number) → EachOf NoEnd (tests a value)
of_test a value = by_read NoEnd (holds value) (atomic_call a Load) (λ items answer spelt. of_placed _ items spelt.1)

of_unless_met : (next : Part Bool) → EachOf NoEnd next → (met : Bool) → EachOf NoEnd (unless_met next met)
of_unless_met next later true = by_returns NoEnd true
of_unless_met next later false = later

of_waits_for : (object mutex a : ℕ) (value : Number) (tries : ℕ) → EachOf NoEnd (waits_for object mutex a value tries)
of_waits_for object mutex a value zero = of_test a value
of_waits_for object mutex a value (suc tries) = by_then NoEnd _ _ (of_test a value) (of_unless_met _ (by_then NoEnd _ _ (of_wait object mutex) (λ waited. of_waits_for object mutex a value tries)))

-- ---- a once's call

abbrev once_part_of : ℕ → OnceStage ℤ → Part (OnceOutcome ℤ)
once_part_of object = stages object_events.Once object_replies.Once once_event once_meaning object

-- the stages of a call that doesn't run the function
abbrev IsNoEnd : OnceStage ℤ → Type 0
IsNoEnd (once_stage.End v) = ⊥
IsNoEnd stage = Unit {0}

no_end_leads : (stage : OnceStage ℤ) (reply : OnceReply ℤ) → IsNoEnd stage → LeadsOn IsNoEnd (once_meaning stage reply)
no_end_leads (once_stage.End v) reply no_end = absurd no_end
no_end_leads once_stage.Begin once_replies.Queued no_end = tt
no_end_leads once_stage.Begin reply no_end = tt
no_end_leads once_stage.Leave once_replies.Still no_end = tt
no_end_leads once_stage.Leave reply no_end = tt

-- the deed of a once isn't its function's end
abbrev NoEndBy : Deed (OnceEvent ℤ) (OnceReply ℤ) → Type 0
NoEndBy deed = (sum : ℤ) → EndIs sum (lifted_deed object_events.Once object_replies.Once deed)

no_end_takes : (stage : OnceStage ℤ) (now : ℕ) (reply : OnceReply ℤ) → IsNoEnd stage → NoEndBy (Event (once_event stage now) reply)
no_end_takes (once_stage.End v) now reply no_end = absurd no_end
no_end_takes stage now reply no_end = λ sum. tt

no_end_refuses : (stage : OnceStage ℤ) (now : ℕ) (misuse : Misuse) → IsNoEnd stage → NoEndBy (Refused (once_event stage now) misuse)
no_end_refuses (once_stage.End v) now misuse no_end = absurd no_end
no_end_refuses stage now misuse no_end = λ sum. tt

begins : (object : ℕ) → EachOf NoEnd (once_part_of object once_stage.Begin)
begins object items answer (entries, is, spelt) =
    subst (AllByRecursion NoEnd) (sym is)
    (of_entries NoEnd object_events.Once object_replies.Once object entries (of_deeds NoEndBy entries
    (each_deed once_event once_meaning IsNoEnd NoEndBy no_end_leads (λ stage now reply no_end means. no_end_takes stage now reply no_end) no_end_refuses once_stage.Begin (map (λ entry. entry.deed) entries) answer tt spelt)))

-- the stage in which a function ends that came to this
abbrev IsEndOf : ℤ → OnceStage ℤ → Type 0
IsEndOf v (once_stage.End w) = v ≡ w
IsEndOf v stage = ⊥

end_leads : (v : ℤ) (stage : OnceStage ℤ) (reply : OnceReply ℤ) → IsEndOf v stage → LeadsOn (IsEndOf v) (once_meaning stage reply)
end_leads v (once_stage.End w) once_replies.Ended is = tt
end_leads v (once_stage.End w) reply is = tt
end_leads v stage reply is = absurd is

-- where the deed is the function's end, it came to this
abbrev ComesTo : ℤ → Deed (OnceEvent ℤ) (OnceReply ℤ) → Type 0
ComesTo v deed = EndIs v (lifted_deed object_events.Once object_replies.Once deed)

end_takes : (v : ℤ) (stage : OnceStage ℤ) (now : ℕ) (reply : OnceReply ℤ) → IsEndOf v stage → ComesTo v (Event (once_event stage now) reply)
end_takes v (once_stage.End w) now reply is = is
end_takes v stage now reply is = absurd is

end_refuses : (v : ℤ) (stage : OnceStage ℤ) (now : ℕ) (misuse : Misuse) → IsEndOf v stage → ComesTo v (Refused (once_event stage now) misuse)
end_refuses v (once_stage.End w) now misuse is = is
end_refuses v stage now misuse is = absurd is

-- the item is an entry, by which a function may end that came to this
abbrev EndsAt : ℤ → Made → Type 0
EndsAt v (Shared x) = ⊥
EndsAt v (Entered object entry) = EndIs v entry.deed

ends_at : (object : ℕ) (v : ℤ) → EachOf (EndsAt v) (once_part_of object (once_stage.End v))
ends_at object v items answer (entries, is, spelt) =
    subst (AllByRecursion (EndsAt v)) (sym is)
    (of_entries (EndsAt v) object_events.Once object_replies.Once object entries (of_deeds (ComesTo v) entries
    (each_deed once_event once_meaning (IsEndOf v) (ComesTo v) (end_leads v) (λ stage now reply such means. end_takes v stage now reply such) (end_refuses v) (once_stage.End v) (map (λ entry. entry.deed) entries) answer refl spelt)))

all_end : (v : ℤ) (items : List Made) → AllByRecursion (EndsAt v) items → SumsHold v items
all_end v [] each = tt
all_end v (Shared x ∷ items) each = absurd each.0
all_end v (Entered object entry ∷ items) each = (each.0, all_end v items each.1)

abbrev pair_of : Item → SharedCall × SharedReply
pair_of x = (x.call, x.reply)

abbrev sum_told : ℕ → ℤ → ℤ → SharedCall × SharedReply
sum_told a amount v = (calls.Atomic a (Add (numbers.Int64 amount)), answers.Atomic (atomic_replies.Held (numbers.Int64 v)))

-- the function's one call answers the sum that it comes to
added : (a : ℕ) (amount v : ℤ) (made : List Item) (later : List Made) → map pair_of made ≡ sum_told a amount v ∷ [] → AllByRecursion (EndsAt v) later → (sum : ℤ) → SumsHold sum (map Shared made ++ later)
added a amount v [] later same each sum = absurd cc
added a amount v (x ∷ []) later same each sum = λ has.
    let one : pair_of x ≡ sum_told a amount v = cc in
    let sum_is : sum_behind sum x.call x.reply ≡ v = ap (λ (p : SharedCall × SharedReply). sum_behind sum p.0 p.1) one ∙ ap (λ (o : Option ℤ). unwrap_or o (pos 0)) (has v (ap (λ (p : SharedCall × SharedReply). p.1) one)) in
    subst (λ (s : ℤ). SumsHold s later) (sym sum_is) (all_end v later each)
added a amount v (x ∷ (y ∷ made)) later same each sum = absurd cc

module _ (object a : ℕ) (amount : ℤ) where
  abbrev ran : ℤ → Reply ℕ
  ran sum = replies.Once (do_replies.Ran sum)

  run_sums : (items : List Made) (answer : CallAnswer (Reply ℕ)) → and_then (adds a amount) (λ value. read_as (λ ended. ran value) (once_part_of object (once_stage.End value))) items answer → (sum : ℤ) → SumsHold sum items
  run_sums items answer (xs, ys, given, is, (v, (made, are, told), came), goes) sum =
      let (ended, spelt, answered) = subst (λ (g : CallAnswer ℤ). GoesOn (λ value. read_as (λ ended. ran value) (once_part_of object (once_stage.End value))) g ys answer) came goes in
      subst (SumsHold sum) (sym (is ∙ ap (λ (zs : List Made). zs ++ ys) are)) (added a amount v made ys told (ends_at object v ys ended spelt) sum)

  later_sums : (given : CallAnswer (OnceOutcome ℤ)) (later : List Made) (answer : CallAnswer (Reply ℕ)) → GoesOn (goes_on_once (once_part_of object) (adds a amount) ran (λ kept. replies.Once do_replies.Done)) given later answer → (sum : ℤ) → SumsHold sum later
  later_sums (Done (Ok Run)) later answer goes sum = run_sums later answer goes sum
  later_sums (Done (Ok (Already kept))) later answer goes sum = subst (SumsHold sum) (sym goes.0) tt
  later_sums (Done (Ok Ended)) later answer goes sum = absurd goes
  later_sums (Done (Err misuse)) later answer goes sum = subst (SumsHold sum) (sym goes.0) tt
  later_sums (Halted misuse) later answer goes sum = subst (SumsHold sum) (sym goes.0) tt

  once_sums : (items : List Made) (answer : CallAnswer (Reply ℕ)) → do_call object a amount items answer → (sum : ℤ) → SumsHold sum items
  once_sums items answer (xs, ys, given, is, begun, goes) sum = subst (SumsHold sum) (sym is) (sums_both xs ys sum (no_ends xs (begins object xs given begun) sum) (later_sums given ys answer goes))

-- ---- a call

abbrev IsNoOnce : ObjectKind → Operation → Type 0
IsNoOnce (kinds.Once atomic delta) operations.Once = ⊥
IsNoOnce kind operation = Unit {0}

module _ (plan : Plan) (worker before : ℕ) where
  no_end_on : (place : ℕ) (kind : ObjectKind) (operation : Operation) → IsNoOnce kind operation → EachOf NoEnd (call_on plan worker before place kind operation)
  no_end_on place kinds.Map (operations.Map call) other = λ items answer spelt. of_placed _ items spelt.1
  no_end_on place kinds.Map operations.Range other = λ items answer spelt. of_placed _ items spelt.2
  no_end_on place (kinds.Atomic type) (operations.Atomic call) other = λ items answer spelt. of_placed _ items spelt.1
  no_end_on place (kinds.Atomic type) (operations.Composed (IfEqual value passes)) other = by_read NoEnd compared _ (of_test (atomic_number plan.objects place) value)
  no_end_on place kinds.Mutex (operations.Mutex call) other = by_read NoEnd replies.Lock _ (of_kind object_events.Mutex object_replies.Mutex (λ e. tt) _ _ _ _)
  no_end_on place kinds.RwMutex (operations.RwMutex call) other = by_read NoEnd replies.Lock _ (of_rw_part _ call)
  no_end_on place (kinds.Cond mutex) (operations.Cond call) other = of_cond_call _ _ call
  no_end_on place (kinds.Cond mutex) (operations.Composed (WaitFor atomic value tries)) other = by_read NoEnd compared _ (of_waits_for _ _ (atomic_number plan.objects atomic) value tries)
  no_end_on place (kinds.WaitGroup start) (operations.WaitGroup call) other = by_read NoEnd (λ done. replies.Returned) _ (of_kind object_events.WaitGroup object_replies.WaitGroup (λ e. tt) _ _ _ _)
  no_end_on place (kinds.WaitGroup start) (operations.Composed (Go started)) other =
      by_then NoEnd _ _ (by_read NoEnd (λ done. replies.Returned) _ (of_kind object_events.WaitGroup object_replies.WaitGroup (λ e. tt) _ _ _ _))
      (λ added. by_read NoEnd (λ started. replies.Returned) _ (of_kind object_events.Starts object_replies.Starts (λ e. tt) _ _ _ _))
  no_end_on place (kinds.Once atomic delta) operations.Once other = absurd other
  no_end_on place (kinds.OnceFunc code) operations.OnceFunc other =
      of_function _ code (λ kept. replies.OnceFunc (failure kept)) (λ kept. replies.OnceFunc (failure kept)) (of_kind object_events.OnceFunc object_replies.OnceFunc (λ e. tt) _ _ _)
  no_end_on place (kinds.OnceValue value) operations.OnceValue other = of_function _ value replies.OnceValue replies.OnceValue (of_kind object_events.OnceValue object_replies.OnceValue (λ e. tt) _ _ _)
  no_end_on place kinds.Pool (operations.Pool call) other = of_pool_call _ _ _ call
  no_end_on place (kinds.Sema size) (operations.Sema call) other = by_read NoEnd replies.Lock _ (of_kind object_events.Sema object_replies.Sema (λ e. tt) _ _ _ _)
  no_end_on place (kinds.Flight atomic delta) (operations.Fly key) other =
      by_flight NoEnd (flight_part (object_number place)) (adds (atomic_number plan.objects atomic) delta) (of_kind object_events.Flight object_replies.Flight (λ e. tt) _ _ _) (λ items answer spelt. of_placed _ items spelt.1) _
  no_end_on place kind operation other = λ items answer spelt. absurd spelt

  sums_on : (place : ℕ) (kind : ObjectKind) (operation : Operation) (items : List Made) (answer : CallAnswer (Reply ℕ)) → call_on plan worker before place kind operation items answer → (sum : ℤ) → SumsHold sum items
  sums_on place (kinds.Once atomic delta) operations.Once items answer spelt sum = once_sums (object_number place) (atomic_number plan.objects atomic) delta items answer spelt sum
  sums_on place kind operation items answer spelt sum = no_ends items (no_end_on place kind operation tt items answer spelt) sum

  sums_at : (object : Option ObjectLine) (call : Call) (items : List Made) (answer : CallAnswer (Reply ℕ)) → call_at plan worker before call.object object call.operation items answer → (sum : ℤ) → SumsHold sum items
  sums_at None call items answer spelt sum = absurd spelt
  sums_at (Some object) call items answer spelt sum = sums_on call.object object.kind call.operation items answer spelt sum

  sums_of : (call : Call) (items : List Made) (answer : CallAnswer (Reply ℕ)) → SpellsCall plan worker before call items answer → (sum : ℤ) → SumsHold sum items
  sums_of call items answer spelt sum = sums_at (slice_get plan.objects call.object) call items answer spelt sum

-- ---- what stands before a script, and behind it

of_chosen : {O : Type 0} (b : Bool) (first second : Part O) → EachOf NoEnd first → EachOf NoEnd second → EachOf NoEnd (cond b first second)
of_chosen true first second one other = one
of_chosen false first second one other = other

of_opening : (plan : Plan) (worker : ℕ) → EachOf NoEnd (opening plan worker)
of_opening plan worker =
    of_chosen (is_dormant plan worker) (wait_start_part (starts_number plan)) (returns true) (by_read NoEnd was_started _ (of_kind object_events.Starts object_replies.Starts (λ e. tt) _ _ _ _)) (by_returns NoEnd true)

of_done : (group : Option ℕ) → EachOf NoEnd (done_under group)
of_done None = by_returns NoEnd tt
of_done (Some group) = by_read NoEnd (λ done. tt) _ (by_read NoEnd (λ done. replies.Returned) _ (of_kind object_events.WaitGroup object_replies.WaitGroup (λ e. tt) _ _ _ _))

of_closing : (plan : Plan) (worker : ℕ) → EachOf NoEnd (closing plan worker)
of_closing plan worker =
    of_chosen (has_dormant plan) (and_then (done_part plan worker) (λ done. end_part (starts_number plan))) (returns tt)
    (by_then NoEnd (done_part plan worker) (λ done. end_part (starts_number plan))
    (of_chosen (is_dormant plan worker) (done_under (group_of worker plan.scripts)) (returns tt) (of_done (group_of worker plan.scripts)) (by_returns NoEnd tt))
    (λ done. by_read NoEnd (λ ended. tt) _ (of_kind object_events.Starts object_replies.Starts (λ e. tt) _ _ _ _)))
    (by_returns NoEnd tt)

all_halts : (misuse : Misuse) (halts : List Made) → All (IsHalt misuse) halts → AllByRecursion NoEnd halts
all_halts misuse [] all = tt
all_halts misuse (Shared x ∷ halts) all = absurd (All-head (IsHalt misuse) (Shared x) halts all)
all_halts misuse (Entered object entry ∷ halts) all = (
  λ sum. subst (EndIs sum) (sym (All-head (IsHalt misuse) (Entered object entry) halts all)) tt,
  all_halts misuse halts (All-tail (IsHalt misuse) (Entered object entry) halts all),
)

of_halts : (ending : LineEnd) (halts : List Made) → AreHalts ending halts → AllByRecursion NoEnd halts
of_halts (misused misuse) halts are = all_halts misuse halts are
of_halts ending halts are = subst (AllByRecursion NoEnd) (sym are) tt

-- ---- a line

module _ (plan : Plan) (worker : ℕ) where
  ends_sums : (before : ℕ) (ending : LineEnd) (rest : List Call) (last : List Made) → EndsBy plan worker before ending rest last → (sum : ℤ) → SumsHold sum last
  ends_sums before whole rest last ends sum = no_ends last (of_closing plan worker last (Done (Ok tt)) ends.1) sum
  ends_sums before (misused misuse) [] last ends sum = no_ends last (of_closing plan worker last (Done (Err misuse)) ends) sum
  ends_sums before (misused misuse) (call ∷ rest) last ends sum = sums_of plan worker before call last (Done (Err misuse)) ends sum
  ends_sums before (halted misuse) [] last ends sum = no_ends last (of_closing plan worker last (Halted misuse) ends) sum
  ends_sums before (halted misuse) (call ∷ rest) last ends sum = sums_of plan worker before call last (Halted misuse) ends sum
  ends_sums before unfinished [] last (later, answer, some, made) sum = no_ends last (each_split NoEnd last later (of_closing plan worker (last ++ later) answer made)).0 sum
  ends_sums before unfinished (call ∷ rest) last (later, answer, made) sum = sums_first last later sum (sums_of plan worker before call (last ++ later) answer made sum)
  ends_sums before (stayed stay) rest last ends sum = subst (SumsHold sum) (sym ends) tt

  spelt_sums : (before : ℕ) (spelt : List SpeltCall) (last : List Made) → AreSpelt plan worker before spelt → ((s : ℤ) → SumsHold s last) → (sum : ℤ) → SumsHold sum (flat_map (λ (s : SpeltCall). s.items) spelt ++ last)
  spelt_sums before [] last are behind sum = behind sum
  spelt_sums before (s ∷ spelt) last are behind sum =
      subst (SumsHold sum) (sym (append_assoc s.items (flat_map (λ (t : SpeltCall). t.items) spelt) last))
      (sums_both s.items (flat_map (λ (t : SpeltCall). t.items) spelt ++ last) sum (sums_of plan worker before s.call s.items (Done (Ok s.reply)) are.0 sum) (spelt_sums (before + length (shared_in s.items)) spelt last are.1 behind))

  opens_none : (ending : LineEnd) (spelt : List SpeltCall) (first : List Made) → OpensBy plan worker ending spelt first → AllByRecursion NoEnd first
  opens_none whole spelt first opens = of_opening plan worker first (Done (Ok true)) opens
  opens_none (misused misuse) spelt first opens = of_opening plan worker first (Done (Ok true)) opens
  opens_none (halted misuse) spelt first opens = of_opening plan worker first (Done (Ok true)) opens
  opens_none unfinished spelt first opens = of_opening plan worker first (Done (Ok true)) opens
  opens_none (stayed never) spelt first opens = of_opening plan worker first (Done (Ok false)) opens.1
  opens_none (stayed (stopped misuse)) spelt first opens = of_opening plan worker first (Halted misuse) opens.1
  opens_none (stayed waits) spelt first (none, (later, answer, some, made)) = (each_split NoEnd first later (of_opening plan worker (first ++ later) answer made)).0

-- each once's function that ends in a line came to the sum that the worker's last call on a map or an atomic answered
pub line_sums : (plan : Plan) (worker : ℕ) (line : Line) → IsLineOf plan worker line → AllByRecursion Has64 (items_of line) → SumsAre (pos 0) (items_of line)
line_sums plan worker line is each =
    sums_are (pos 0) (items_of line)
    (sums_both line.first (flat_map (λ (s : SpeltCall). s.items) line.spelt ++ (line.last ++ line.halts)) (pos 0) (no_ends line.first (opens_none plan worker line.ending line.spelt line.first is.opens) (pos 0))
    (spelt_sums plan worker 0 line.spelt (line.last ++ line.halts) is.calls (λ s.
    sums_both line.last line.halts s (ends_sums plan worker (length (shared_in (flat_map (λ (t : SpeltCall). t.items) line.spelt))) line.ending line.rest line.last is.ends s) (no_ends line.halts (of_halts line.ending line.halts is.halts)))))
    each
