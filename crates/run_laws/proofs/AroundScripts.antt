-- What stands before a script and behind it: before it entries of Starts alone, found in one way, and none is a misuse; behind it a `done` on a wait group, and an entry of Starts.
use Rattle.std.proofs.Common.{◌≡◌, ℕ, ◌+◌, ◌*◌, ◌==◌, Bool, true, false, cond, List, [], ◌∷◌, ◌++◌, map, length, slice_get, Option, Some, None, refl, sym, ap, ◌∙◌, subst, arith}
use Rattle.std.specs.Prelude.{count_by, Ok, Err}
use Rattle.std.proofs.lemmas.Bool.{true≢false, ne_eqb}
use Rattle.std.proofs.lemmas.Option.{slice_get_within}
use Rattle.protocols.specs.GroupStages.{group_event, group_meaning}
use Rattle.protocols.specs.Spelling.{CallAnswer, Rest, IsFirstDeed, Spells}
use Rattle.protocols.specs.declared.wait_group.GroupStage.TheVariants as group_stage
use Rattle.script_calls.specs.Starts.{group_of}
use Rattle.script_calls.specs.declared.call.Reply.{Reply}
use Rattle.script_calls.specs.declared.call.Reply.TheVariants as replies
use Rattle.starts_core.specs.declared.protocol.StartsOutcome.{StartsOutcome}
use Rattle.starts_core.specs.declared.protocol.StartsStage.{StartsStage}
use Rattle.starts_core.specs.declared.protocol.StartsStage.TheVariants as stage
use Rattle.starts_core.specs.declared.starts.StartEvent.{StartEvent}
use Rattle.starts_core.specs.declared.starts.StartReply.{StartReply}
use Rattle.starts_core.specs.declared.starts.StartReply.TheVariants as answers
use Rattle.starts_core.specs.StartsStages.{starts_event, starts_meaning, made_meaning}
use Rattle.sync_model.specs.declared.answer.Answer.TheVariants.{Done, Halted}
use Rattle.sync_model.specs.declared.journal.Deed.{Deed}
use Rattle.sync_model.specs.declared.journal.Deed.TheVariants.{Event, Refused, Halt}
use Rattle.sync_model.specs.declared.journal.Entry.{Entry}
use Rattle.sync_types.specs.declared.misuse.Misuse.{Misuse}
use Rattle.wait_cores.specs.declared.group.GroupEvent.{GroupEvent}
use Rattle.wait_cores.specs.declared.group.GroupReply.{GroupReply}
use Rattle.workload.specs.declared.object.ObjectLine.{ObjectLine}
use Rattle.workload.specs.Plan.{Plan, is_dormant, has_dormant}
use Rattle.run_record.specs.declared.entered.ObjectEvent.{ObjectEvent}
use Rattle.run_record.specs.declared.entered.ObjectEvent.TheVariants as event
use Rattle.run_record.specs.declared.entered.ObjectReply.{ObjectReply}
use Rattle.run_record.specs.declared.entered.ObjectReply.TheVariants as reply
use Rattle.run_record.specs.declared.made.Made.{Made}
use Rattle.run_record.specs.Lines.{SpeltCall, LineEnd, whole, misused, halted, unfinished, stayed, never, stopped, waits, OpensBy}
use Rattle.run_record.specs.Objects.{is_pool, starts_number}
use Rattle.run_record.specs.Parts.{GoesOn, and_then, returns, with_outcome, lifted, lifted_deed}
use Rattle.run_record.specs.Record.{ObjectEntry, object_number, entries_in}
use Rattle.run_record.specs.StartsKind.{starts_part, was_started, wait_start_part, end_part, opening, done_under, done_part, closing}
use Rattle.run_laws.specs.OneSpelling.{IsCertain}
use Rattle.run_laws.proofs.CallsOneWay.{starts_part_certain}
use Rattle.run_laws.proofs.EachOf.{Each, each_both, each_left}
use Rattle.run_laws.proofs.EntriesIn.{entries_append, entries_elsewhere, entries_here, entries_such}
use Rattle.run_laws.proofs.OneWay.{returns_certain, read_as_certain}

left_none : {A : Type 0} (xs ys : List A) → xs ++ ys ≡ [] → xs ≡ []
left_none [] ys none = λ i. []
left_none {A} (x ∷ xs) ys none = absurd (omega (arith, ap (λ (l : List A). length l) none))

-- what stands before a script is found in one way
pub opening_certain : (plan : Plan) (worker : ℕ) → IsCertain (opening plan worker)
opening_certain plan worker = chosen (is_dormant plan worker) where
  chosen : (b : Bool) → IsCertain (cond b (wait_start_part (starts_number plan)) (returns true))
  chosen true = read_as_certain was_started (starts_part (starts_number plan) stage.WaitStart) (starts_part_certain (starts_number plan) stage.WaitStart)
  chosen false = returns_certain true

-- Starts has another number than each declared object
pub starts_apart : (plan : Plan) (place : ℕ) (object : ObjectLine) → slice_get plan.objects place ≡ Some object → (starts_number plan == object_number place) ≡ false
starts_apart plan place object at = behind (count_by (λ (o : ObjectLine). is_pool o.kind) plan.objects * plan.workers) where
  behind : (parts : ℕ) → (object_number (length plan.objects) + parts == object_number place) ≡ false
  behind parts = ne_eqb (object_number (length plan.objects) + parts) (object_number place) (λ same. omega (arith, same, slice_get_within plan.objects place object at))

module _ (plan : Plan) (object : ℕ) (apart : (starts_number plan == object) ≡ false) where
  none_on_starts : (from : StartsStage) (items : List Made) (answer : CallAnswer StartsOutcome) → starts_part (starts_number plan) from items answer → entries_in object items ≡ []
  none_on_starts from items answer (entries, are, spelt) = ap (λ (l : List Made). entries_in object l) are ∙ entries_elsewhere event.Starts reply.Starts object (starts_number plan) entries apart

  -- another object has no entry there
  opening_elsewhere : (worker : ℕ) (items : List Made) (answer : CallAnswer Bool) → opening plan worker items answer → entries_in object items ≡ []
  opening_elsewhere worker items answer spelt = chosen (is_dormant plan worker) spelt where
    chosen : (b : Bool) → cond b (wait_start_part (starts_number plan)) (returns true) items answer → entries_in object items ≡ []
    chosen true (given, asked, gives) = none_on_starts stage.WaitStart items given asked
    chosen false (none, gives) = ap (λ (l : List Made). entries_in object l) none

  begun_elsewhere : (items later : List Made) → entries_in object (items ++ later) ≡ [] → entries_in object items ≡ []
  begun_elsewhere items later none = left_none (entries_in object items) (entries_in object later) (sym (entries_append object items later) ∙ none)

  pub first_elsewhere : (worker : ℕ) (ending : LineEnd) (spelt : List SpeltCall) (first : List Made) → OpensBy plan worker ending spelt first → entries_in object first ≡ []
  first_elsewhere worker whole spelt first opens = opening_elsewhere worker first (Done (Ok true)) opens
  first_elsewhere worker (misused misuse) spelt first opens = opening_elsewhere worker first (Done (Ok true)) opens
  first_elsewhere worker (halted misuse) spelt first opens = opening_elsewhere worker first (Done (Ok true)) opens
  first_elsewhere worker unfinished spelt first opens = opening_elsewhere worker first (Done (Ok true)) opens
  first_elsewhere worker (stayed never) spelt first opens = opening_elsewhere worker first (Done (Ok false)) opens.1
  first_elsewhere worker (stayed (stopped misuse)) spelt first opens = opening_elsewhere worker first (Halted misuse) opens.1
  first_elsewhere worker (stayed waits) spelt first (none, (later, answer, some, asked)) = begun_elsewhere first later (opening_elsewhere worker (first ++ later) answer asked)

-- ---- behind a script: a `done`, of one that was started, and the end

-- no deed of a mutex, and none of a wait group
abbrev pub IsNoMutexs : Deed ObjectEvent ObjectReply → Type 0
IsNoMutexs (Event e (reply.Mutex r)) = ⊥
IsNoMutexs deed = Unit {0}

abbrev pub IsNoGroups : Deed ObjectEvent ObjectReply → Type 0
IsNoGroups (Event (event.WaitGroup e) r) = ⊥
IsNoGroups deed = Unit {0}

abbrev NoMutexs : List ObjectEntry → Type 0
NoMutexs entries = Each (λ (x : ObjectEntry). IsNoMutexs x.deed) entries

abbrev NoGroups : List ObjectEntry → Type 0
NoGroups entries = Each (λ (x : ObjectEntry). IsNoGroups x.deed) entries

starts_no_mutex : (deed : Deed StartEvent StartReply) → IsNoMutexs (lifted_deed event.Starts reply.Starts deed)
starts_no_mutex (Event e r) = tt
starts_no_mutex (Refused e misuse) = tt
starts_no_mutex (Halt misuse) = tt

group_no_mutex : (deed : Deed GroupEvent GroupReply) → IsNoMutexs (lifted_deed event.WaitGroup reply.WaitGroup deed)
group_no_mutex (Event e r) = tt
group_no_mutex (Refused e misuse) = tt
group_no_mutex (Halt misuse) = tt

module _ (plan : Plan) (object : ℕ) where
  end_no_mutex : (items : List Made) (answer : CallAnswer (Unit {0})) → end_part (starts_number plan) items answer → NoMutexs (entries_in object items)
  end_no_mutex items answer (given, (entries, are, spelt), gives) =
      subst (λ (l : List Made). NoMutexs (entries_in object l)) (sym are) (entries_such event.Starts reply.Starts IsNoMutexs starts_no_mutex object (starts_number plan) entries)

  under_no_mutex : (group : Option ℕ) (items : List Made) (answer : CallAnswer (Unit {0})) → done_under group items answer → NoMutexs (entries_in object items)
  under_no_mutex None items answer (none, is) = subst (λ (l : List Made). NoMutexs (entries_in object l)) (sym none) tt
  under_no_mutex (Some group) items answer (given, (came, (entries, are, spelt), is), gives) =
      subst (λ (l : List Made). NoMutexs (entries_in object l)) (sym are) (entries_such event.WaitGroup reply.WaitGroup IsNoMutexs group_no_mutex object (object_number group) entries)

  done_no_mutex : (worker : ℕ) (items : List Made) (answer : CallAnswer (Unit {0})) → done_part plan worker items answer → NoMutexs (entries_in object items)
  done_no_mutex worker items answer spelt = chosen (is_dormant plan worker) spelt where
    chosen : (b : Bool) → cond b (done_under (group_of worker plan.scripts)) (returns tt) items answer → NoMutexs (entries_in object items)
    chosen true spelt = under_no_mutex (group_of worker plan.scripts) items answer spelt
    chosen false (none, is) = subst (λ (l : List Made). NoMutexs (entries_in object l)) (sym none) tt

  end_or_none : (given answer : CallAnswer (Unit {0})) (items : List Made) → GoesOn (λ done. end_part (starts_number plan)) given items answer → NoMutexs (entries_in object items)
  end_or_none (Done (Ok outcome)) answer items on = end_no_mutex items answer on
  end_or_none (Done (Err misuse)) answer items (none, is) = subst (λ (l : List Made). NoMutexs (entries_in object l)) (sym none) tt
  end_or_none (Halted misuse) answer items (none, is) = subst (λ (l : List Made). NoMutexs (entries_in object l)) (sym none) tt

  -- nothing behind a script is done on a mutex
  pub closing_no_mutex : (worker : ℕ) (items : List Made) (answer : CallAnswer (Unit {0})) → closing plan worker items answer → NoMutexs (entries_in object items)
  closing_no_mutex worker items answer spelt = chosen (has_dormant plan) spelt where
    chosen : (b : Bool) → cond b (and_then (done_part plan worker) (λ done. end_part (starts_number plan))) (returns tt) items answer → NoMutexs (entries_in object items)
    chosen true (earlier, later, given, are, done, on) =
        subst (λ (l : List Made). NoMutexs (entries_in object l)) (sym are)
        (subst NoMutexs (sym (entries_append object earlier later)) (each_both (λ (x : ObjectEntry). IsNoMutexs x.deed) (entries_in object earlier) (entries_in object later) (done_no_mutex worker earlier given done) (end_or_none given answer later on)))
    chosen false (none, is) = subst (λ (l : List Made). NoMutexs (entries_in object l)) (sym none) tt

-- whether an answer is no misuse
abbrev is_no_misuse : {O : Type 0} → CallAnswer O → Bool
is_no_misuse (Done (Ok outcome)) = true
is_no_misuse (Done (Err misuse)) = false
is_no_misuse (Halted misuse) = true

with_no_misuse : {O P : Type 0} (f : O → P) (given : CallAnswer O) → is_no_misuse (with_outcome f given) ≡ is_no_misuse given
with_no_misuse f (Done (Ok outcome)) = refl
with_no_misuse f (Done (Err misuse)) = refl
with_no_misuse f (Halted misuse) = refl

abbrev StartDeed : Type 0
StartDeed = Deed StartEvent StartReply

-- nobody meets a misuse who tells that it has ended
end_is_no_misuse : (deeds : List StartDeed) (answer : CallAnswer StartsOutcome) → Spells starts_event starts_meaning stage.End deeds answer → is_no_misuse answer ≡ true
end_is_no_misuse [] answer spelt = absurd spelt
end_is_no_misuse (deed ∷ deeds) answer spelt = by_deed deed spelt where
  by_reply : (r : StartReply) → Rest (made_meaning r) deeds (λ later. Spells starts_event starts_meaning later deeds answer) answer → is_no_misuse answer ≡ true
  by_reply answers.Done rest = ap (is_no_misuse {O = StartsOutcome}) rest.1
  by_reply answers.Go rest = absurd rest
  by_reply answers.Never rest = absurd rest
  by_reply answers.Still rest = absurd rest

  by_deed : (deed : StartDeed) → IsFirstDeed starts_event starts_meaning stage.End deed deeds (λ later. Spells starts_event starts_meaning later deeds answer) answer → is_no_misuse answer ≡ true
  by_deed (Event e r) begun = by_reply r begun.1
  by_deed (Refused e misuse) begun = ap (is_no_misuse {O = StartsOutcome}) begun.2
  by_deed (Halt misuse) begun = absurd begun

-- a `done` that is a misuse has an entry on its group
done_was_made : (entries : List (Entry GroupEvent GroupReply)) (answer : CallAnswer (Unit {0})) → is_no_misuse answer ≡ false → Spells group_event group_meaning group_stage.Done (map (λ entry. entry.deed) entries) answer
    → NoGroups (map (lifted event.WaitGroup reply.WaitGroup) entries) → ⊥
done_was_made [] answer is spelt none = spelt
done_was_made (x ∷ entries) answer is spelt none = by_deed x.deed spelt none.0 where
  by_deed : (deed : Deed GroupEvent GroupReply) → IsFirstDeed group_event group_meaning group_stage.Done deed (map (λ entry. entry.deed) entries) (λ later. Spells group_event group_meaning later (map (λ entry. entry.deed) entries) answer) answer
      → IsNoGroups (lifted_deed event.WaitGroup reply.WaitGroup deed) → ⊥
  by_deed (Event e r) begun none = none
  by_deed (Refused e misuse) begun none = true≢false (sym (ap (is_no_misuse {O = Unit {0}}) begun.2) ∙ is)
  by_deed (Halt misuse) begun none = begun

-- what is behind a script is a misuse only where its `done` is, which is made on a wait group
module _ (plan : Plan) (worker : ℕ) where
  under_misused : (group : Option ℕ) (items : List Made) (answer : CallAnswer (Unit {0})) → is_no_misuse answer ≡ false → done_under group items answer → ((place : ℕ) → NoGroups (entries_in (object_number place) items)) → ⊥
  under_misused None items answer is (none, returned) without = true≢false (sym (ap (is_no_misuse {O = Unit {0}}) returned) ∙ is)
  under_misused (Some group) items answer is (given, (came, (entries, are, spelt), gives), reads) without =
      done_was_made entries came
      (sym (with_no_misuse (λ (done : Unit {0}). let told : Reply ℕ = replies.Returned in told) came) ∙ (sym (ap (is_no_misuse {O = Reply ℕ}) gives) ∙ (sym (with_no_misuse (λ (done : Reply ℕ). tt) given) ∙ (sym (ap (is_no_misuse {O = Unit {0}}) reads) ∙ is))))
      spelt (subst NoGroups (ap (λ (l : List Made). entries_in (object_number group) l) are ∙ entries_here event.WaitGroup reply.WaitGroup (object_number group) entries) (without group))

  done_misused : (items : List Made) (answer : CallAnswer (Unit {0})) → is_no_misuse answer ≡ false → done_part plan worker items answer → ((place : ℕ) → NoGroups (entries_in (object_number place) items)) → ⊥
  done_misused items answer is spelt without = chosen (is_dormant plan worker) spelt where
    chosen : (b : Bool) → cond b (done_under (group_of worker plan.scripts)) (returns tt) items answer → ⊥
    chosen true spelt = under_misused (group_of worker plan.scripts) items answer is spelt without
    chosen false (none, returned) = true≢false (sym (ap (is_no_misuse {O = Unit {0}}) returned) ∙ is)

  went_wrong : (given : CallAnswer (Unit {0})) (earlier later : List Made) (misuse : Misuse) → done_part plan worker earlier given → GoesOn (λ done. end_part (starts_number plan)) given later (Done (Err misuse))
      → ((place : ℕ) → NoGroups (entries_in (object_number place) earlier)) → ⊥
  went_wrong (Done (Ok outcome)) earlier later misuse done (ended, (entries, are, told), gives) without =
      true≢false (sym (with_no_misuse (λ (e : StartsOutcome). tt) ended ∙ end_is_no_misuse (map (λ entry. entry.deed) entries) ended told) ∙ ap (is_no_misuse {O = Unit {0}}) (sym gives))
  went_wrong (Done (Err other)) earlier later misuse done (none, is) without = done_misused earlier (Done (Err other)) refl done without
  went_wrong (Halted other) earlier later misuse done (none, is) without = true≢false (sym (ap (is_no_misuse {O = Unit {0}}) is))

  pub closing_misused : (items : List Made) (misuse : Misuse) → (has_dormant plan ≡ true → (place : ℕ) → NoGroups (entries_in (object_number place) items)) → closing plan worker items (Done (Err misuse)) → ⊥
  closing_misused items misuse without spelt = chosen (has_dormant plan) refl spelt where
    chosen : (b : Bool) → has_dormant plan ≡ b → cond b (and_then (done_part plan worker) (λ done. end_part (starts_number plan))) (returns tt) items (Done (Err misuse)) → ⊥
    chosen true some (earlier, later, given, are, done, on) =
        went_wrong given earlier later misuse done on
        (λ place. each_left (λ (x : ObjectEntry). IsNoGroups x.deed) (entries_in (object_number place) earlier) (entries_in (object_number place) later)
        (subst NoGroups (ap (λ (l : List Made). entries_in (object_number place) l) are ∙ entries_append (object_number place) earlier later) (without some place)))
    chosen false some (none, is) = true≢false (sym (ap (is_no_misuse {O = Unit {0}}) is))
