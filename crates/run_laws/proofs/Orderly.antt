-- Where all workers keep to their locks, nobody meets a misuse.
use Rattle.std.proofs.Common.{◌≡◌, ◌⊎◌, inl, inr, ℕ, zero, suc, ◌+◌, ◌*◌, ◌<◌, ◌≤◌, ◌==◌, Bool, true, false, cond, List, [], ◌∷◌, ◌++◌, length, get_or, Some, None, slice_get, refl, sym, ap, ◌∙◌, subst, arith, append_assoc}
use Rattle.std.specs.Prelude.{Ok, Err, count_by}
use Rattle.std.specs.List.{flat_map, list_all}
use Rattle.std.specs.Option.{option_map}
use Rattle.std.proofs.lemmas.Bool.{false≢true, eq-eqb, and_parts}
use Rattle.std.proofs.lemmas.List.Sums.{sum_by-cons}
use Rattle.std.proofs.lemmas.Option.{none-some, slice_get_cases, slice_get-map, get_or_from_slice_get}
use Rattle.std.proofs.Math.ListN.{get_or-eq_default}
use Rattle.std.proofs.Math.Nat.{eq-or-lt_of_le, zero-mul}
use Rattle.starts_core.specs.declared.starts.StartEvent.{StartEvent}
use Rattle.starts_core.specs.declared.starts.StartReply.{StartReply}
use Rattle.sync_model.specs.declared.answer.Answer.TheVariants.{Done, Halted}
use Rattle.script_calls.specs.declared.call.Call.{Call}
use Rattle.script_calls.specs.declared.call.Reply.{Reply}
use Rattle.script_calls.specs.declared.call.Reply.TheVariants as replies
use Rattle.sync_model.specs.declared.journal.Deed.{Deed}
use Rattle.sync_model.specs.declared.journal.Deed.TheVariants.{Event, Refused, Halt}
use Rattle.sync_model.specs.declared.journal.Entry.{Entry}
use Rattle.sync_types.specs.declared.lock_call.LockReply.{LockReply}
use Rattle.sync_types.specs.declared.misuse.Misuse.{Misuse}
use Rattle.script_calls.specs.declared.outcome.Outcome.{Outcome}
use Rattle.sync_model.specs.Journal.{by}
use Rattle.mutex_core.specs.declared.event.MutexEvent.{MutexEvent}
use Rattle.mutex_core.specs.declared.reply.MutexReply.{MutexReply}
use Rattle.mutex_core.specs.declared.reply.MutexReply.TheVariants.{Arrived, Tried, Unlocked, Resumed}
use Rattle.mutex_core.specs.declared.reply.Arrival.TheVariants as arrival
use Rattle.mutex_core.specs.declared.reply.Resumption.TheVariants as resumption
use Rattle.mutex_core.specs.declared.reply.Unlocking.TheVariants as unlocking
use Rattle.mutex_core.specs.MutexMachine.{State, start, next, IsValid}
use Rattle.protocols.specs.declared.mutex.MutexStage.{MutexStage}
use Rattle.protocols.specs.declared.mutex.MutexStage.TheVariants as stage
use Rattle.protocols.specs.declared.step.Step.{Step}
use Rattle.protocols.specs.declared.step.Step.TheVariants.{Finished, Misused, Waits, Next, Never}
use Rattle.protocols.specs.MutexStages.{mutex_event, mutex_meaning}
use Rattle.protocols.specs.Spelling.{CallAnswer, Rest, IsFirstDeed, Spells}
use Rattle.workload.specs.declared.object.ObjectKind.{ObjectKind}
use Rattle.workload.specs.declared.object.ObjectKind.TheVariants as kinds
use Rattle.workload.specs.declared.object.ObjectLine.{ObjectLine}
use Rattle.workload.specs.Plan.{Plan, has_dormant}
use Rattle.run_record.specs.declared.entered.ObjectEvent.TheVariants as event
use Rattle.run_record.specs.declared.entered.ObjectReply.TheVariants as reply
use Rattle.run_record.specs.declared.made.Made.{Made}
use Rattle.run_record.specs.Calls.{IsJournalOf}
use Rattle.run_record.specs.Explains.{IsRecordOf}
use Rattle.run_record.specs.Lines.{LineEnd, misused, Line, script_of, items_of, EndsBy}
use Rattle.run_record.specs.Objects.{is_pool, starts_number}
use Rattle.run_record.specs.Parts.{lifted_deed, with_outcome}
use Rattle.run_record.specs.Record.{Record, ObjectEntry, object_number, journal_of, list_of, shared_in, entries_in}
use Rattle.run_record.specs.Runs.{SpellScripts}
use Rattle.run_record.specs.StartsKind.{IsStartsJournal}
use Rattle.run_laws.specs.Locks.{is_plain, keeps_lock, KeepsItsLocks}
use Rattle.run_laws.proofs.AroundScripts.{IsNoGroups, closing_misused}
use Rattle.run_laws.proofs.EntriesIn.{entries_append, deeds_such}
use Rattle.run_laws.proofs.EachOf.{Each, each_left, each_right, each_by}
use Rattle.run_laws.proofs.Holders.{IsUse, AreUses, OnlyHolder, is_misuse, journal_uses}
use Rattle.run_laws.proofs.LockLines.{entries_here, of_kind, deeds, line_turns}
use Rattle.run_laws.proofs.PlainCalls.{PlainCall, on_map, on_range, on_atomic, on_test, on_mutex, IsOfKind, list_all_at, plain_call}

-- whether an answer is a misuse
abbrev is_err : {O : Type 0} → CallAnswer O → Bool
is_err (Done (Ok outcome)) = false
is_err (Done (Err misuse)) = true
is_err (Halted misuse) = false

abbrev is_misused_step : Step MutexStage LockReply → Bool
is_misused_step (Misused misuse) = true
is_misused_step step = false

-- an event means a misuse only where its answer is one
misuse_means : (from : MutexStage) (r : MutexReply) → is_misused_step (mutex_meaning from r) ≡ true → is_misuse r ≡ true
misuse_means stage.Unlock (Unlocked (unlocking.Misuse misuse)) is = refl
misuse_means stage.Unlock r is = absurd (false≢true is)
misuse_means stage.Lock (Arrived arrival.Acquired) is = absurd (false≢true is)
misuse_means stage.Lock r is = absurd (false≢true is)
misuse_means stage.TryLock (Tried acquired) is = absurd (false≢true is)
misuse_means stage.TryLock r is = absurd (false≢true is)
misuse_means stage.Resume (Resumed resumption.Acquired) is = absurd (false≢true is)
misuse_means stage.Resume r is = absurd (false≢true is)

module _ (xs : List (Entry MutexEvent MutexReply)) (answer : CallAnswer LockReply) (err : is_err answer ≡ true) (on : (later : MutexStage) → Spells mutex_event mutex_meaning later (deeds xs) answer → ⊥) where
  by_step : (from : MutexStage) (r : MutexReply) (step : Step MutexStage LockReply) → mutex_meaning from r ≡ step → Rest step (deeds xs) (λ later. Spells mutex_event mutex_meaning later (deeds xs) answer) answer → (is_misuse r ≡ true → ⊥) → ⊥
  by_step from r (Finished outcome) is (none, gives) used = false≢true (sym (ap (is_err {O = LockReply}) gives) ∙ err)
  by_step from r (Misused misuse) is rest used = used (misuse_means from r (ap is_misused_step is))
  by_step from r (Waits later) is rest used = on later rest
  by_step from r (Next later) is rest used = on later rest
  by_step from r Never is rest used = rest

  by_deed : (from : MutexStage) (deed : Deed MutexEvent MutexReply) → IsFirstDeed mutex_event mutex_meaning from deed (deeds xs) (λ later. Spells mutex_event mutex_meaning later (deeds xs) answer) answer → IsUse (lifted_deed event.Mutex reply.Mutex deed) → ⊥
  by_deed from (Event e r) begun used = by_step from r (mutex_meaning from r) refl begun.1 used
  by_deed from (Refused e misuse) (is, none, gives) used = false≢true (sym (ap (is_err {O = LockReply}) gives) ∙ err)
  by_deed from (Halt misuse) begun used = begun

-- a call that is a misuse has an entry that is one
no_misuse : (entries : List (Entry MutexEvent MutexReply)) (from : MutexStage) (answer : CallAnswer LockReply) → is_err answer ≡ true → Spells mutex_event mutex_meaning from (deeds entries) answer → AreUses (of_kind entries) → ⊥
no_misuse [] from answer err spelt used = spelt
no_misuse (x ∷ xs) from answer err spelt used = by_deed xs answer err (λ later on. no_misuse xs later answer err on used.1) from x.deed spelt used.0

given_err : (given : CallAnswer LockReply) → is_err {O = Reply ℕ} (with_outcome replies.Lock given) ≡ true → is_err given ≡ true
given_err (Done (Ok outcome)) is = is
given_err (Done (Err misuse)) is = is
given_err (Halted misuse) is = is

uses_by : (c : ℕ) (xs : List ObjectEntry) → AreUses xs → AreUses (by c xs)
uses_by c [] used = tt
uses_by c (x ∷ xs) used = chosen (x.caller == c) used.0 (uses_by c xs used.1) where
  chosen : (b : Bool) → IsUse x.deed → AreUses (by c xs) → AreUses (cond b (x ∷ by c xs) (by c xs))
  chosen true first rest = (first, rest)
  chosen false first rest = rest

pub get_past : {A : Type 0} (lists : List (List A)) (i : ℕ) → slice_get lists i ≡ None → get_or lists i [] ≡ []
get_past [] i none = refl
get_past (list ∷ lists) zero none = absurd (none-some list (sym none))
get_past (list ∷ lists) (suc i) none = get_past lists i none

pub get_at : {A : Type 0} (lists : List (List A)) (i : ℕ) (list : List A) → slice_get lists i ≡ Some list → get_or lists i [] ≡ list
get_at {A} lists i list at = get_or_from_slice_get lists i list [] at

mutex_no_group : (deed : Deed MutexEvent MutexReply) → IsNoGroups (lifted_deed event.Mutex reply.Mutex deed)
mutex_no_group (Event e r) = tt
mutex_no_group (Refused e misuse) = tt
mutex_no_group (Halt misuse) = tt

starts_no_group : (deed : Deed StartEvent StartReply) → IsNoGroups (lifted_deed event.Starts reply.Starts deed)
starts_no_group (Event e r) = tt
starts_no_group (Refused e misuse) = tt
starts_no_group (Halt misuse) = tt

abbrev as_one : Bool → ℕ
as_one b = cond b 1 0

no_pools : (objects : List ObjectLine) → list_all (λ (object : ObjectLine). is_plain object.kind) objects ≡ true → count_by (λ (object : ObjectLine). is_pool object.kind) objects ≡ 0
no_pools [] plain = refl
no_pools (object ∷ objects) plain =
    let both = and_parts (is_plain object.kind) (list_all (λ (o : ObjectLine). is_plain o.kind) objects) plain in
    let rest = no_pools objects both.1 in
    omega (arith, rest, no_pool object.kind both.0, sum_by-cons (λ (o : ObjectLine). as_one (is_pool o.kind)) object objects) where
      no_pool : (kind : ObjectKind) → is_plain kind ≡ true → as_one (is_pool kind) ≡ 0
      no_pool kinds.Pool plain = absurd (false≢true plain)
      no_pool kind plain = refl

module _ (keeps_valid : (s : State) (c : ℕ) (e : MutexEvent) → IsValid s → IsValid (next s c e).0) (starts_valid : (callers : ℕ) → IsValid (start callers))
    (plan : Plan) (keeps : KeepsItsLocks plan) (r : Record) (outcome : Outcome) (lines : List Line) (are : SpellScripts plan r outcome lines) (lawful : IsRecordOf plan r) where
  -- a worker's list is its line's, and its script too
  list_at : (worker : ℕ) (line : Line) → slice_get lines worker ≡ Some line → list_of r worker ≡ items_of line
  list_at worker line at = get_at r.lists worker (items_of line) (ap (λ (l : List (List Made)). slice_get l worker) (sym are.lists) ∙ (slice_get-map items_of lines worker ∙ ap (option_map items_of) at))

  list_past : (worker : ℕ) → slice_get lines worker ≡ None → list_of r worker ≡ []
  list_past worker none = get_past r.lists worker (ap (λ (l : List (List Made)). slice_get l worker) (sym are.lists) ∙ (slice_get-map items_of lines worker ∙ ap (option_map items_of) none))

  script_at : (worker : ℕ) (line : Line) → slice_get lines worker ≡ Some line → slice_get plan.scripts worker ≡ Some (script_of line)
  script_at worker line at = ap (λ (l : List (List Call)). slice_get l worker) (sym are.scripts) ∙ (slice_get-map script_of lines worker ∙ ap (option_map script_of) at)

  -- each worker unlocks a mutex only where it holds it
  turns : (place : ℕ) → IsOfKind plan place kinds.Mutex → (c : ℕ) → OnlyHolder false (by c (journal_of r (object_number place)))
  turns place mutex c = subst (λ (es : List ObjectEntry). OnlyHolder false es) (lawful.once c (object_number place)) (by_line (slice_get_cases lines c).1) where
    by_line : ((line : Line) × (c < length lines) × (slice_get lines c ≡ Some line) × (get_or lines c line ≡ line)) ⊎ ((length lines ≤ c) × (slice_get lines c ≡ None)) → OnlyHolder false (entries_in (object_number place) (list_of r c))
    by_line (inl (line, within, at, is)) = subst (λ (l : List Made). OnlyHolder false (entries_in (object_number place) l)) (sym (list_at c line at))
        (line_turns plan keeps.plain place mutex c line (are.each c line at) (list_all_at (keeps_lock place false) plan.scripts c (script_of line) (keeps.locks place mutex.0 mutex.1 mutex.2) (script_at c line at)))
    by_line (inr (past, none)) = subst (λ (l : List Made). OnlyHolder false (entries_in (object_number place) l)) (sym (list_past c none)) tt

  -- so no entry of a mutex is a misuse
  uses : (place : ℕ) → IsOfKind plan place kinds.Mutex → AreUses (journal_of r (object_number place))
  uses place mutex = journal_uses keeps_valid plan.workers (journal_of r (object_number place)) (starts_valid plan.workers) (subst (λ kind. IsJournalOf plan place kind (journal_of r (object_number place))) mutex.2 (lawful.journals place mutex.0 mutex.1)) (turns place mutex)

  -- and so no call is one
  no_call : (worker : ℕ) (line : Line) → slice_get lines worker ≡ Some line → (call : Call) (items before behind : List Made) (m : Misuse) → list_of r worker ≡ before ++ (items ++ behind) → PlainCall plan call items (Done (Err m)) → ⊥
  no_call worker line at call items before behind m is (on_map op kind asks one) = false≢true (sym (ap (is_err {O = Reply ℕ}) one.answers))
  no_call worker line at call items before behind m is (on_range kind asks cursor) = false≢true (sym (ap (is_err {O = Reply ℕ}) cursor.answers))
  no_call worker line at call items before behind m is (on_atomic type op kind asks one) = false≢true (sym (ap (is_err {O = Reply ℕ}) one.answers))
  no_call worker line at call items before behind m is (on_test type value passes kind asks one) = false≢true (sym (ap (is_err {O = Reply ℕ}) one.answers))
  no_call worker line at call items before behind m is (on_mutex op kind asks (given, (entries, are_items, spelt), gives)) =
      let object = object_number call.object in
      let listed : AreUses (entries_in object (before ++ (items ++ behind))) = subst (λ (l : List Made). AreUses (entries_in object l)) is (subst AreUses (sym (lawful.once worker object)) (uses_by worker (journal_of r object) (uses call.object kind))) in
      let behind_them = each_right (λ (x : ObjectEntry). IsUse x.deed) (entries_in object before) (entries_in object (items ++ behind)) (subst AreUses (entries_append object before (items ++ behind)) listed) in
      let own = each_left (λ (x : ObjectEntry). IsUse x.deed) (entries_in object items) (entries_in object behind) (subst AreUses (entries_append object items behind) behind_them) in
      no_misuse entries _ given (given_err given (sym (ap (is_err {O = Reply ℕ}) gives))) spelt
      (subst AreUses (ap (λ (l : List Made). entries_in object l) are_items ∙ entries_here object object entries (eq-eqb object object refl)) own)

  -- no journal has an event of a wait group
  no_group : has_dormant plan ≡ true → (place : ℕ) → Each (λ (x : ObjectEntry). IsNoGroups x.deed) (journal_of r (object_number place))
  no_group some place = by_object (slice_get_cases plan.objects place).1 where
    Without : List ObjectEntry → Type 0
    Without journal = Each (λ (x : ObjectEntry). IsNoGroups x.deed) journal

    by_kind : (kind : ObjectKind) → is_plain kind ≡ true → IsJournalOf plan place kind (journal_of r (object_number place)) → Without (journal_of r (object_number place))
    by_kind kinds.Map plain none = subst Without (sym none) tt
    by_kind (kinds.Atomic type) plain none = subst Without (sym none) tt
    by_kind kinds.Mutex plain (own, are, follows, edges) = subst Without (sym are) (deeds_such event.Mutex reply.Mutex IsNoGroups mutex_no_group own)
    by_kind kind plain is = absurd (false≢true plain)

    last : starts_number plan ≡ object_number (length plan.objects)
    last = behind (count_by (λ (o : ObjectLine). is_pool o.kind) plan.objects * plan.workers) (ap (λ (pools : ℕ). pools * plan.workers) (no_pools plan.objects keeps.plain) ∙ zero-mul plan.workers) where
      behind : (parts : ℕ) → parts ≡ 0 → object_number (length plan.objects) + parts ≡ object_number (length plan.objects)
      behind parts none = omega (arith, none)

    by_starts : IsStartsJournal plan.dormant (journal_of r (starts_number plan)) → Without (journal_of r (starts_number plan))
    by_starts (own, are, follows, edges) = subst Without (sym are) (deeds_such event.Starts reply.Starts IsNoGroups starts_no_group own)

    past_all : length plan.objects < place → journal_of r (object_number place) ≡ []
    past_all past = get_or-eq_default r.journals [] (omega (arith, past, lawful.objects, last, ap as_one some))

    by_place : (length plan.objects ≡ place) ⊎ (length plan.objects < place) → Without (journal_of r (object_number place))
    by_place (inl is) = subst (λ (n : ℕ). Without (journal_of r n)) (last ∙ ap object_number is) (by_starts (lawful.starts some))
    by_place (inr past) = subst Without (sym (past_all past)) tt

    by_object : ((object : ObjectLine) × (place < length plan.objects) × (slice_get plan.objects place ≡ Some object) × (get_or plan.objects place object ≡ object)) ⊎ ((length plan.objects ≤ place) × (slice_get plan.objects place ≡ None)) → Without (journal_of r (object_number place))
    by_object (inl (object, within, at, is)) = by_kind object.kind (list_all_at (λ (o : ObjectLine). is_plain o.kind) plan.objects place object keeps.plain at) (lawful.journals place object at)
    by_object (inr (past, none)) = by_place (eq-or-lt_of_le past)

  -- so no list has one
  none_there : has_dormant plan ≡ true → (worker place : ℕ) (items before behind : List Made) → list_of r worker ≡ before ++ (items ++ behind) → Each (λ (x : ObjectEntry). IsNoGroups x.deed) (entries_in (object_number place) items)
  none_there some worker place items before behind is =
      let object = object_number place in
      let Without = λ (x : ObjectEntry). IsNoGroups x.deed in
      let listed = subst (λ (l : List Made). Each Without (entries_in object l)) is (subst (Each Without) (sym (lawful.once worker object)) (each_by Without worker (journal_of r object) (no_group some place))) in
      let behind_them = each_right Without (entries_in object before) (entries_in object (items ++ behind)) (subst (Each Without) (entries_append object before (items ++ behind)) listed) in
      each_left Without (entries_in object items) (entries_in object behind) (subst (Each Without) (entries_append object items behind) behind_them)

  pub nobody_misuses : (worker : ℕ) (line : Line) (m : Misuse) → slice_get lines worker ≡ Some line → line.ending ≡ misused m → ⊥
  nobody_misuses worker line m at ending = ended line.rest line.last (subst (λ (e : LineEnd). EndsBy plan worker (length (shared_in (flat_map (λ spelt. spelt.items) line.spelt))) e line.rest line.last) ending (are.each worker line at).ends) (list_at worker line at) where
    calls : List Made
    calls = flat_map (λ spelt. spelt.items) line.spelt

    ended : (left : List Call) (last : List Made) → EndsBy plan worker (length (shared_in calls)) (misused m) left last → list_of r worker ≡ line.first ++ (calls ++ (last ++ line.halts)) → ⊥
    ended [] last ends is = closing_misused plan worker last m (λ some place. none_there some worker place last (line.first ++ calls) line.halts (is ∙ sym (append_assoc line.first calls (last ++ line.halts)))) ends
    ended (call ∷ left) last spelt is = no_call worker line at call last (line.first ++ calls) line.halts m (is ∙ sym (append_assoc line.first calls (last ++ line.halts))) (plain_call plan keeps.plain worker _ call last (Done (Err m)) spelt)
