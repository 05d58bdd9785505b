-- What a `go` is made of, and what closes the script of a worker that one has started.
use Rattle.std.proofs.Common.{◌≡◌, inl, inr, ℕ, ℤ, pos, negsuc, Bool, true, cond, List, [], ◌∷◌, ◌++◌, Option, Some, Ok, Err, refl, sym, ap, ◌∙◌, subst}
use Rattle.std.proofs.lemmas.List.{append-nil}
use Rattle.script_calls.specs.declared.call.Reply.{Reply}
use Rattle.script_calls.specs.declared.call.Reply.TheVariants as replies
use Rattle.script_calls.specs.Starts.{group_of}
use Rattle.sync_types.specs.declared.misuse.Misuse.{Misuse}
use Rattle.sync_types.specs.declared.wait_call.WaitGroupCall.TheVariants as group_calls
use Rattle.sync_model.specs.declared.answer.Answer.TheVariants.{Done, Halted}
use Rattle.wait_cores.specs.declared.group.GroupEvent.TheVariants.{Add}
use Rattle.wait_cores.specs.declared.group.GroupReply.{GroupReply}
use Rattle.wait_cores.specs.declared.group.GroupReply.TheVariants as grouped
use Rattle.protocols.specs.GroupStages.{group_event, group_meaning}
use Rattle.protocols.specs.Spelling.{CallAnswer}
use Rattle.protocols.specs.declared.wait_group.GroupStage.{GroupStage}
use Rattle.protocols.specs.declared.wait_group.GroupStage.TheVariants as group_stage
use Rattle.starts_core.specs.declared.protocol.StartsOutcome.{StartsOutcome}
use Rattle.starts_core.specs.declared.protocol.StartsOutcome.TheVariants as outcome
use Rattle.starts_core.specs.declared.protocol.StartsStage.TheVariants as stage
use Rattle.starts_core.specs.declared.starts.StartEvent.{StartEvent}
use Rattle.starts_core.specs.declared.starts.StartEvent.TheVariants as starts
use Rattle.starts_core.specs.declared.starts.StartReply.{StartReply}
use Rattle.starts_core.specs.declared.starts.StartReply.TheVariants as answers
use Rattle.starts_core.specs.StartsStages.{starts_event, starts_meaning}
use Rattle.workload.specs.Plan.{Plan, is_dormant}
use Rattle.run_record.specs.declared.entered.ObjectEvent.TheVariants as event
use Rattle.run_record.specs.declared.entered.ObjectReply.TheVariants as reply
use Rattle.run_record.specs.declared.made.Made.{Made}
use Rattle.run_record.specs.declared.made.Made.TheVariants.{Entered}
use Rattle.run_record.specs.Objects.{starts_number}
use Rattle.run_record.specs.Parts.{Part, GoesOn, read_as, with_outcome, returns, stages}
use Rattle.run_record.specs.Record.{object_number}
use Rattle.run_record.specs.Returns.{IsOnce}
use Rattle.run_record.specs.Starting.{HasGone, HasMisused, IsRefused, HasMetHalt, EndsDone}
use Rattle.run_record.specs.StartsKind.{starts_part, go_call, end_part, done_under, done_part, closing}
use Rattle.run_record.specs.WaitGroupKind.{wait_group_call}
use Rattle.run_record.proofs.OneEvent.{IsShort, Alone, alone, by_event, by_refusal}
use Rattle.run_record.proofs.PlainLemmas.{closing_part}
use Rattle.run_record.proofs.Returning.{Goes as Returned, goes_on}
use Rattle.run_record.proofs.StartLemmas.{some_waits}

-- an addition to a group, by what it answers
abbrev pub Adds : (group : ℕ) → ℤ → List Made → CallAnswer (Unit {0}) → Type 0
Adds group delta items (Done (Ok done)) = IsOnce group (event.WaitGroup (Add delta)) (reply.WaitGroup grouped.Done) items
Adds group delta items (Done (Err misuse)) = IsOnce group (event.WaitGroup (Add delta)) (reply.WaitGroup (grouped.Misused misuse)) items
Adds group delta items (Halted misuse) = IsRefused group (event.WaitGroup (Add delta)) misuse items

-- an event of Starts that is made at once
abbrev pub Makes : (object : ℕ) → StartEvent → List Made → CallAnswer StartsOutcome → Type 0
Makes object e items (Done (Ok outcome)) = IsOnce object (event.Starts e) (reply.Starts answers.Done) items
Makes object e items (Done (Err misuse)) = ⊥
Makes object e items (Halted misuse) = IsRefused object (event.Starts e) misuse items

module _ (group : ℕ) where
  abbrev group_part : GroupStage → Part (Unit {0})
  group_part from = stages event.WaitGroup reply.WaitGroup group_event group_meaning group from

  module _ (delta : ℤ) (items : List Made) where
    by_answer : (answer : CallAnswer (Unit {0})) → Alone event.WaitGroup reply.WaitGroup group_event group_meaning group (group_stage.Add delta) (Add delta) (λ now. refl) items answer → Adds group delta items answer
    by_answer answer (inl (grouped.Done, one, gives)) = subst (Adds group delta items) (sym gives) one
    by_answer answer (inl (grouped.Misused misuse, one, gives)) = subst (Adds group delta items) (sym gives) one
    by_answer answer (inl (grouped.Queued, one, gives)) = absurd gives
    by_answer answer (inl (grouped.Still, one, gives)) = absurd gives
    by_answer answer (inr (misuse, one, halted)) = subst (Adds group delta items) (sym halted) one

    short : (r : GroupReply) → IsShort (group_meaning (group_stage.Add delta) r)
    short grouped.Done = tt
    short (grouped.Misused misuse) = tt
    short grouped.Queued = tt
    short grouped.Still = tt

    pub adds : (answer : CallAnswer (Unit {0})) → group_part (group_stage.Add delta) items answer → Adds group delta items answer
    adds answer made = by_answer answer (alone event.WaitGroup reply.WaitGroup group_event group_meaning group (group_stage.Add delta) (Add delta) (λ now. refl) short items answer made)

    pub added : (answer : CallAnswer (Unit {0})) → Adds group delta items answer → group_part (group_stage.Add delta) items answer
    added (Done (Ok done)) one = by_event event.WaitGroup reply.WaitGroup group_event group_meaning group (group_stage.Add delta) (Add delta) (λ now. refl) grouped.Done items (Done (Ok done)) one refl
    added (Done (Err misuse)) one = by_event event.WaitGroup reply.WaitGroup group_event group_meaning group (group_stage.Add delta) (Add delta) (λ now. refl) (grouped.Misused misuse) items (Done (Err misuse)) one refl
    added (Halted misuse) one = by_refusal event.WaitGroup reply.WaitGroup group_event group_meaning group (group_stage.Add delta) (Add delta) (λ now. refl) misuse items one

  -- a `done` adds -1
  pub is_done : (items : List Made) (answer : CallAnswer (Unit {0})) → group_part group_stage.Done items answer → Adds group (negsuc 0) items answer
  is_done items answer made = by_answer (negsuc 0) items answer (alone event.WaitGroup reply.WaitGroup group_event group_meaning group group_stage.Done (Add (negsuc 0)) (λ now. refl) (short (negsuc 0) items) items answer made)

module _ (object worker : ℕ) (items : List Made) where
  abbrev StartAlone : CallAnswer StartsOutcome → Type 0
  StartAlone answer = Alone event.Starts reply.Starts starts_event starts_meaning object (stage.Start worker) (starts.Start worker) (λ now. refl) items answer

  short_start : (r : StartReply) → IsShort (starts_meaning (stage.Start worker) r)
  short_start answers.Done = tt
  short_start answers.Go = tt
  short_start answers.Never = tt
  short_start answers.Still = tt

  start_answer : (answer : CallAnswer StartsOutcome) → StartAlone answer → Makes object (starts.Start worker) items answer
  start_answer answer (inl (answers.Done, one, gives)) = subst (Makes object (starts.Start worker) items) (sym gives) one
  start_answer answer (inl (answers.Go, one, gives)) = absurd gives
  start_answer answer (inl (answers.Never, one, gives)) = absurd gives
  start_answer answer (inl (answers.Still, one, gives)) = absurd gives
  start_answer answer (inr (misuse, one, halted)) = subst (Makes object (starts.Start worker) items) (sym halted) one

  pub starts_it : (answer : CallAnswer StartsOutcome) → starts_part object (stage.Start worker) items answer → Makes object (starts.Start worker) items answer
  starts_it answer made = start_answer answer (alone event.Starts reply.Starts starts_event starts_meaning object (stage.Start worker) (starts.Start worker) (λ now. refl) short_start items answer made)

module _ (object : ℕ) (items : List Made) where
  abbrev EndAlone : CallAnswer StartsOutcome → Type 0
  EndAlone answer = Alone event.Starts reply.Starts starts_event starts_meaning object stage.End starts.End (λ now. refl) items answer

  short_end : (r : StartReply) → IsShort (starts_meaning stage.End r)
  short_end answers.Done = tt
  short_end answers.Go = tt
  short_end answers.Never = tt
  short_end answers.Still = tt

  end_answer : (answer : CallAnswer StartsOutcome) → EndAlone answer → Makes object starts.End items answer
  end_answer answer (inl (answers.Done, one, gives)) = subst (Makes object starts.End items) (sym gives) one
  end_answer answer (inl (answers.Go, one, gives)) = absurd gives
  end_answer answer (inl (answers.Never, one, gives)) = absurd gives
  end_answer answer (inl (answers.Still, one, gives)) = absurd gives
  end_answer answer (inr (misuse, one, halted)) = subst (Makes object starts.End items) (sym halted) one

  pub ends_it : (answer : CallAnswer StartsOutcome) → starts_part object stage.End items answer → Makes object starts.End items answer
  ends_it answer made = end_answer answer (alone event.Starts reply.Starts starts_event starts_meaning object stage.End starts.End (λ now. refl) short_end items answer made)

-- what a call gives whose answer is read as another
module _ {O P : Type 0} (f : O → P) where
  abbrev pub ReadFrom : CallAnswer P → CallAnswer O → Type 0
  ReadFrom (Done (Ok reply)) given = (outcome : O) × (given ≡ Done (Ok outcome)) × (reply ≡ f outcome)
  ReadFrom (Done (Err misuse)) given = given ≡ Done (Err misuse)
  ReadFrom (Halted misuse) given = given ≡ Halted misuse

  pub read_from : (answer : CallAnswer P) (given : CallAnswer O) → answer ≡ with_outcome f given → ReadFrom answer given
  read_from answer (Done (Ok outcome)) is = subst (λ (a : CallAnswer P). ReadFrom a (Done (Ok outcome))) (sym is) (outcome, refl, refl)
  read_from answer (Done (Err misuse)) is = subst (λ (a : CallAnswer P). ReadFrom a (Done (Err misuse))) (sym is) refl
  read_from answer (Halted misuse) is = subst (λ (a : CallAnswer P). ReadFrom a (Halted misuse)) (sym is) refl

abbrev returned : (Unit {0}) → Reply ℕ
returned done = replies.Returned

-- an `add` of 1 on the group, as a call
abbrev one_added : ℕ → Part (Reply ℕ)
one_added group = wait_group_call group (group_calls.Add (pos 1))

module _ (group object worker : ℕ) (items : List Made) where
  abbrev Started : Part (Reply ℕ)
  Started = read_as (λ started. replies.Returned) (starts_part object (stage.Start worker))

  -- by what it answers
  abbrev pub Goes : CallAnswer (Reply ℕ) → Type 0
  Goes (Done (Ok reply)) = (reply ≡ replies.Returned) × HasGone group object worker items
  Goes (Done (Err misuse)) = HasMisused group misuse items
  Goes (Halted misuse) = HasMetHalt group object worker misuse items

  module _ (earlier later : List Made) (are : items ≡ earlier ++ later) where
    behind : IsOnce group (event.WaitGroup (Add (pos 1))) (reply.WaitGroup grouped.Done) earlier → (answer : CallAnswer (Reply ℕ)) (given : CallAnswer StartsOutcome) → Makes object (starts.Start worker) later given
        → answer ≡ with_outcome (λ started. replies.Returned) given → Goes answer
    behind one answer (Done (Ok outcome)) start is = subst Goes (sym is) (
      refl,
      record { added = one.entry; start = start.entry; are = are ∙ (ap (λ (l : List Made). l ++ later) one.are ∙ ap (λ (l : List Made). Entered group one.entry ∷ l) start.are); adds = one.deed; starts_it = start.deed },
    )
    behind one answer (Done (Err misuse)) start is = absurd start
    behind one answer (Halted misuse) start is = subst Goes (sym is)
        (inr (record { added = one.entry; behind = later; are = are ∙ ap (λ (l : List Made). l ++ later) one.are; adds = one.deed; refused = start }))

    nothing_behind : later ≡ [] → items ≡ earlier
    nothing_behind none = are ∙ (ap (λ (l : List Made). earlier ++ l) none ∙ append-nil earlier)

    by_added : (answer given : CallAnswer (Reply ℕ)) (of : CallAnswer (Unit {0})) → Adds group (pos 1) earlier of → given ≡ with_outcome returned of → GoesOn (λ added. Started) given later answer → Goes answer
    by_added answer given (Done (Ok done)) one is goes = of_start (subst (λ (a : CallAnswer (Reply ℕ)). GoesOn (λ added. Started) a later answer) is goes) where
      of_start : Started later answer → Goes answer
      of_start (start, made, read) = behind one answer start (starts_it object worker later start made) read
    by_added answer given (Done (Err misuse)) one is goes = let ends = subst (λ (a : CallAnswer (Reply ℕ)). GoesOn (λ added. Started) a later answer) is goes in
        subst Goes (sym ends.1) (subst (HasMisused group misuse) (sym (nothing_behind ends.0)) one)
    by_added answer given (Halted misuse) one is goes = let ends = subst (λ (a : CallAnswer (Reply ℕ)). GoesOn (λ added. Started) a later answer) is goes in
        subst Goes (sym ends.1) (inl (subst (IsRefused group (event.WaitGroup (Add (pos 1))) misuse) (sym (nothing_behind ends.0)) one))

  pub goes : (answer : CallAnswer (Reply ℕ)) → go_call group object worker items answer → Goes answer
  goes answer (earlier, later, given, are, (of, made, read), behind) = by_added earlier later are answer given of (adds group (pos 1) earlier of made) read behind

  -- and such items are a `go`
  one_of : (entry : _) → IsOnce group (event.WaitGroup (Add (pos 1))) (reply.WaitGroup grouped.Done) (Entered group entry ∷ []) → one_added group (Entered group entry ∷ []) (Done (Ok replies.Returned))
  one_of entry one = (Done (Ok tt), added group (pos 1) (Entered group entry ∷ []) (Done (Ok tt)) one, refl)

  pub has_gone : HasGone group object worker items → go_call group object worker items (Done (Ok replies.Returned))
  has_gone g = (
    Entered group g.added ∷ [],
    Entered object g.start ∷ [],
    Done (Ok replies.Returned),
    g.are,
    one_of g.added (record { entry = g.added; are = refl; deed = g.adds }),
    (
      Done (Ok outcome.Done),
      by_event event.Starts reply.Starts starts_event starts_meaning object (stage.Start worker) (starts.Start worker) (λ now. refl) answers.Done (Entered object g.start ∷ []) (Done (Ok outcome.Done)) (record { entry = g.start; are = refl; deed = g.starts_it }) refl,
      refl,
    ),
  )

  pub has_misused : (misuse : Misuse) → HasMisused group misuse items → go_call group object worker items (Done (Err misuse))
  has_misused misuse one = (items, [], Done (Err misuse), sym (append-nil items), (Done (Err misuse), added group (pos 1) items (Done (Err misuse)) one, refl), (refl, refl))

  pub has_met_halt : (misuse : Misuse) → HasMetHalt group object worker misuse items → go_call group object worker items (Halted misuse)
  has_met_halt misuse (inl one) = (items, [], Halted misuse, sym (append-nil items), (Halted misuse, added group (pos 1) items (Halted misuse) one, refl), (refl, refl))
  has_met_halt misuse (inr h) = (
    Entered group h.added ∷ [],
    h.behind,
    Done (Ok replies.Returned),
    h.are,
    one_of h.added (record { entry = h.added; are = refl; deed = h.adds }),
    (Halted misuse, by_refusal event.Starts reply.Starts starts_event starts_meaning object (stage.Start worker) (starts.Start worker) (λ now. refl) misuse h.behind h.refused, refl),
  )

-- the closing of a worker that was started, as a whole
module _ (plan : Plan) (worker group : ℕ) (items : List Made) (waits : is_dormant plan worker ≡ true) (under : group_of worker plan.scripts ≡ Some group) where
  done_so : (earlier : List Made) (answer : CallAnswer (Unit {0})) → done_part plan worker earlier answer → done_under (Some group) earlier answer
  done_so earlier answer done =
      subst (λ (g : Option ℕ). done_under g earlier answer) under (subst (λ (b : Bool). cond b (done_under (group_of worker plan.scripts)) (returns tt) earlier answer) waits done)

  done_entry : (earlier : List Made) (outcome : Unit {0}) → done_part plan worker earlier (Done (Ok outcome)) → Adds (object_number group) (negsuc 0) earlier (Done (Ok tt))
  done_entry earlier outcome made = of_call (done_so earlier (Done (Ok outcome)) made) where
    of_call : done_under (Some group) earlier (Done (Ok outcome)) → Adds (object_number group) (negsuc 0) earlier (Done (Ok tt))
    of_call (reply, (given, part, is_reply), is) =
        let told = read_from (λ (done : Reply ℕ). tt) (Done (Ok outcome)) reply is in
        let answer = read_from returned (Done (Ok told.0)) given (sym told.1 ∙ is_reply) in
        subst (Adds (object_number group) (negsuc 0) earlier) answer.1 (is_done (object_number group) earlier given part)

  end_entry : (later : List Made) → end_part (starts_number plan) later (Done (Ok tt)) → Makes (starts_number plan) starts.End later (Done (Ok outcome.Done))
  end_entry later (given, part, is) =
      let told = read_from (λ (ended : StartsOutcome). tt) (Done (Ok tt)) given is in
      subst (Makes (starts_number plan) starts.End later) told.1 (ends_it (starts_number plan) later given part)

  pub closes_done : closing plan worker items (Done (Ok tt)) → EndsDone (object_number group) (starts_number plan) items
  closes_done closes = of_parts (goes_on (done_part plan worker) (λ done. end_part (starts_number plan)) items tt (subst (λ (b : Bool). cond b (closing_part plan worker) (returns tt) items (Done (Ok tt))) (some_waits plan worker waits) closes)) where
    of_parts : Returned (done_part plan worker) (λ done. end_part (starts_number plan)) items tt → EndsDone (object_number group) (starts_number plan) items
    of_parts parts =
        let done = done_entry parts.earlier parts.outcome parts.made in
        let ended = end_entry parts.later parts.goes in
        record {
          earlier = [];
          done = done.entry;
          ended = ended.entry;
          are = parts.are ∙ (ap (λ (l : List Made). l ++ parts.later) done.are ∙ ap (λ (l : List Made). Entered (object_number group) done.entry ∷ l) ended.are);
          is_done = done.deed;
          is_end = ended.deed;
        }
