-- How many tickets a `wait` takes, and a `waitfor`; and how a `wait` is a misuse.
use Rattle.std.proofs.Common.{◌≡◌, ◌⊎◌, inl, inr, ⊎_elim, ℕ, suc, ◌+◌, ◌==◌, Bool, true, false, ◌&&◌, cond, List, [], ◌∷◌, ◌++◌, map, length, Result, Ok, Err, refl, sym, ap, ◌∙◌, subst, append_assoc, arith}
use Rattle.std.specs.List.{AllByRecursion, flat_map}
use Rattle.std.proofs.lemmas.Bool.{eq-eqb}
use Rattle.std.proofs.lemmas.List.{append-nil, length-append}
use Rattle.std.proofs.lemmas.List.Sums.{sum_by-append, sum_by-cons}
use Rattle.script_calls.specs.declared.call.Reply.{Reply}
use Rattle.script_calls.specs.declared.call.Reply.TheVariants as replies
use Rattle.sync_types.specs.declared.atomic_object.Number.{Number}
use Rattle.sync_types.specs.declared.lock_call.LockReply.{LockReply}
use Rattle.sync_types.specs.declared.misuse.Misuse.{Misuse}
use Rattle.sync_model.specs.declared.answer.Answer.TheVariants.{Done, Halted}
use Rattle.sync_model.specs.declared.item.Item.{Item}
use Rattle.sync_model.specs.declared.journal.Deed.{Deed}
use Rattle.sync_model.specs.declared.journal.Deed.TheVariants.{Event, Refused, Halt}
use Rattle.sync_model.specs.declared.journal.Entry.{Entry}
use Rattle.mutex_core.specs.declared.event.MutexEvent.{MutexEvent}
use Rattle.mutex_core.specs.declared.reply.MutexReply.{MutexReply}
use Rattle.mutex_core.specs.declared.reply.MutexReply.TheVariants as mutex_answers
use Rattle.mutex_core.specs.declared.reply.Unlocking.TheVariants as unlocking
use Rattle.wait_cores.specs.declared.notify.NotifyEvent.{NotifyEvent}
use Rattle.wait_cores.specs.declared.notify.NotifyReply.{NotifyReply}
use Rattle.wait_cores.specs.declared.notify.NotifyReply.TheVariants as notified
use Rattle.protocols.specs.CondStages.{cond_event, cond_meaning, cond_gives}
use Rattle.protocols.specs.MutexStages.{mutex_event, mutex_meaning, mutex_gives, unlock_meaning}
use Rattle.protocols.specs.Spelling.{CallAnswer, IsFirstDeed, Rest, Spells}
use Rattle.protocols.specs.declared.cond.CondStage.{CondStage}
use Rattle.protocols.specs.declared.cond.CondStage.TheVariants as cond_stage
use Rattle.protocols.specs.declared.mutex.MutexStage.{MutexStage}
use Rattle.protocols.specs.declared.mutex.MutexStage.TheVariants as mutex_stage
use Rattle.run_record.specs.declared.entered.ObjectEvent.{ObjectEvent}
use Rattle.run_record.specs.declared.entered.ObjectEvent.TheVariants as event
use Rattle.run_record.specs.declared.entered.ObjectReply.{ObjectReply}
use Rattle.run_record.specs.declared.entered.ObjectReply.TheVariants as reply
use Rattle.run_record.specs.declared.made.Made.{Made}
use Rattle.run_record.specs.declared.made.Made.TheVariants.{Shared, Entered}
use Rattle.run_record.specs.CondKind.{cond_part, wait_part}
use Rattle.run_record.specs.MutexKind.{mutex_part}
use Rattle.run_record.specs.Parts.{Part, GoesOn, and_then, read_as, with_outcome, lifted, lifted_deed}
use Rattle.run_record.specs.Record.{ObjectEntry, shared_in}
use Rattle.run_record.specs.Rounds.{Round, round_items, IsRound, HasWaited, HasStopped, EndsUnlocking, is_ticket, is_ticket_of, tickets_of}
use Rattle.run_record.proofs.PairLemmas.{shared_both}
use Rattle.run_record.proofs.Returning.{goes_on, one_event}

module _ (number : ℕ) where
  -- the items take so many tickets, and have no call on a map or an atomic
  abbrev Counts : ℕ → List Made → Type 0
  Counts n items = (tickets_of number items ≡ n) × (shared_in items ≡ [])

  abbrev one_if : Made → ℕ
  one_if x = cond (is_ticket_of number x) 1 0

  both : (n m : ℕ) (xs ys : List Made) → Counts n xs → Counts m ys → Counts (n + m) (xs ++ ys)
  both n m xs ys (first, none) (second, nothing) = (
    (let more = sum_by-append one_if xs ys in omega (arith, more, first, second)),
    shared_both xs ys ∙ ap (λ (l : List Item). l ++ shared_in ys) none ∙ nothing,
  )

  no_ticket : (other : ℕ) (entry : ObjectEntry) (rest : List Made) (n : ℕ) → is_ticket entry.deed ≡ false → Counts n rest → Counts n (Entered other entry ∷ rest)
  no_ticket other entry rest n not_one (later, none) =
      let more = sum_by-cons one_if (Entered other entry) rest in
      let zero_more : one_if (Entered other entry) ≡ 0 = ap (λ (b : Bool). cond (b && (other == number)) 1 0) not_one in
      (omega (arith, more, zero_more, later), none)

  module _ {E R : Type 0} (on : E → ObjectEvent) (answered : R → ObjectReply) (never : (d : Deed E R) → is_ticket (lifted_deed on answered d) ≡ false) (other : ℕ) where
    no_tickets : (entries : List (Entry E R)) → Counts 0 (map (λ entry. Entered other (lifted on answered entry)) entries)
    no_tickets [] = (refl, refl)
    no_tickets (entry ∷ entries) = no_ticket other (lifted on answered entry) (map (λ e. Entered other (lifted on answered e)) entries) 0 (never entry.deed) (no_tickets entries)

  of_mutex : (d : Deed MutexEvent MutexReply) → is_ticket (lifted_deed event.Mutex reply.Mutex d) ≡ false
  of_mutex (Event e r) = refl
  of_mutex (Refused e m) = refl
  of_mutex (Halt m) = refl

  mutex_counts : (mutex : ℕ) (from : MutexStage) (items : List Made) (answer : CallAnswer LockReply) → mutex_part mutex from items answer → Counts 0 items
  mutex_counts mutex from items answer (entries, is, spelt) = subst (Counts 0) (sym is) (no_tickets event.Mutex reply.Mutex of_mutex mutex entries)

  -- a leaving takes none
  leave_deed : (d : Deed NotifyEvent NotifyReply) (rest : List (Deed NotifyEvent NotifyReply)) (answer : CallAnswer (Unit {0})) → IsFirstDeed cond_event cond_meaning cond_stage.Leave d rest (λ later. Spells cond_event cond_meaning later rest answer) answer
      → (is_ticket (lifted_deed event.Cond reply.Cond d) ≡ false) × ((rest ≡ []) ⊎ Spells cond_event cond_meaning cond_stage.Leave rest answer)
  leave_deed (Event e notified.Done) rest answer (is, goes) = (ap (λ (x : NotifyEvent). is_ticket (Event (event.Cond x) (reply.Cond notified.Done))) is.1, inl goes.0)
  leave_deed (Event e notified.Still) rest answer (is, goes) = (ap (λ (x : NotifyEvent). is_ticket (Event (event.Cond x) (reply.Cond notified.Still))) is.1, inr goes)
  leave_deed (Refused e m) rest answer (is, none, halted) = (refl, inl none)
  leave_deed (Halt m) rest answer never = absurd never

  no_deeds : (entries : List (Entry NotifyEvent NotifyReply)) → map (λ entry. entry.deed) entries ≡ [] → entries ≡ []
  no_deeds [] none = refl
  no_deeds (x ∷ entries) none = (cc)

  abbrev entered : Entry NotifyEvent NotifyReply → Made
  entered entry = Entered number (lifted event.Cond reply.Cond entry)

  leave_counts : (entries : List (Entry NotifyEvent NotifyReply)) (answer : CallAnswer (Unit {0})) → Spells cond_event cond_meaning cond_stage.Leave (map (λ entry. entry.deed) entries) answer → Counts 0 (map entered entries)
  leave_counts [] answer never = absurd never
  leave_counts (x ∷ entries) answer spelt =
      let first = leave_deed x.deed (map (λ entry. entry.deed) entries) answer spelt in
      no_ticket number (lifted event.Cond reply.Cond x) (map entered entries) 0 first.0
      (⊎_elim (λ none. subst (λ (l : List (Entry NotifyEvent NotifyReply)). Counts 0 (map entered l)) (sym (no_deeds entries none)) (refl, refl)) (λ on. leave_counts entries answer on) first.1)

  -- and a ticket is one
  ended : (r : NotifyReply) (rest : List (Deed NotifyEvent NotifyReply)) (on : CondStage → Type 0) → Rest (cond_meaning cond_stage.Ticket r) rest on (Done (Ok tt)) → (rest ≡ []) × (r ≡ r)
  ended notified.Done rest on goes = (goes.0, refl)
  ended notified.Still rest on goes = absurd goes

  one_counts : (items : List Made) (entry : ObjectEntry) (r : ObjectReply) → items ≡ Entered number entry ∷ [] → entry.deed ≡ Event (event.Cond (cond_event cond_stage.Ticket 0)) r → Counts 1 items
  one_counts items entry r are deed =
      let more = sum_by-cons one_if (Entered number entry) [] in
      let one : one_if (Entered number entry) ≡ 1 = ap (λ (d : Deed ObjectEvent ObjectReply). cond (is_ticket d && (number == number)) 1 0) deed ∙ ap (λ (b : Bool). cond b 1 0) (eq-eqb number number refl) in
      subst (Counts 1) (sym are) (omega (arith, more, one), refl)

  ticket_counts : (items : List Made) (given : Unit {0}) → cond_part number cond_stage.Ticket items (Done (Ok given)) → Counts 1 items
  ticket_counts items given made =
      let one = one_event event.Cond reply.Cond cond_event cond_meaning number cond_stage.Ticket items (Ok given) (λ r. r ≡ r) (λ r rest goes. ended r rest _ goes) made in
      one_counts items one.2.entry (reply.Cond one.1) one.2.are one.2.deed

  module _ (mutex : ℕ) where
    abbrev lock_again : Part (Reply ℕ)
    lock_again = read_as (λ locked. replies.Returned) (mutex_part mutex mutex_stage.Lock)

    abbrev leave_and_lock : Part (Reply ℕ)
    leave_and_lock = and_then (cond_part number cond_stage.Leave) (λ left. lock_again)

    abbrev unlock_and_leave : Part (Reply ℕ)
    unlock_and_leave = and_then (mutex_part mutex mutex_stage.Unlock) (λ unlocked. leave_and_lock)

    pub wait_counts : (items : List Made) (answer : Reply ℕ) → wait_part number mutex items (Done (Ok answer)) → Counts 1 items
    wait_counts items answer made =
        let taken = goes_on (cond_part number cond_stage.Ticket) (λ ticket. unlock_and_leave) items answer made in
        let unlocked = goes_on (mutex_part mutex mutex_stage.Unlock) (λ unlocked. leave_and_lock) taken.later answer taken.goes in
        let left = goes_on (cond_part number cond_stage.Leave) (λ left. lock_again) unlocked.later answer unlocked.goes in
        let leaving : Counts 0 left.earlier = subst (Counts 0) (sym left.made.1) (leave_counts left.made.0 (Done (Ok left.outcome)) left.made.2) in
        let last : Counts 0 unlocked.later = subst (Counts 0) (sym left.are) (both 0 0 left.earlier left.later leaving (mutex_counts mutex mutex_stage.Lock left.later left.goes.0 left.goes.1)) in
        let late : Counts 0 taken.later = subst (Counts 0) (sym unlocked.are) (both 0 0 unlocked.earlier unlocked.later (mutex_counts mutex mutex_stage.Unlock unlocked.earlier (Done (Ok unlocked.outcome)) unlocked.made) last) in
        subst (Counts 1) (sym taken.are) (both 1 0 taken.earlier taken.later (ticket_counts taken.earlier taken.outcome taken.made) late)

    module _ (a : ℕ) (value : Number) where
      rounds_count : (rounds : List Round) → AllByRecursion (IsRound number mutex a value) rounds → (tickets_of number (flat_map round_items rounds) ≡ length rounds) × (length (shared_in (flat_map round_items rounds)) ≡ length rounds)
      rounds_count [] each = (refl, refl)
      rounds_count (r ∷ rounds) each =
          let rest = rounds_count rounds each.1 in
          let wait = wait_counts r.waited replies.Returned each.0.waits in
          let parts = sum_by-append one_if (round_items r) (flat_map round_items rounds) in
          let look = sum_by-cons one_if (Shared r.look) r.waited in
          let loads : length (shared_in (r.waited ++ flat_map round_items rounds)) ≡ length (shared_in (flat_map round_items rounds)) =
          ap (λ (l : List Item). length l) (shared_both r.waited (flat_map round_items rounds) ∙ ap (λ (l : List Item). l ++ shared_in (flat_map round_items rounds)) wait.1) in
          (omega (arith, parts, look, wait.0, rest.0), ap (λ n. suc n) (loads ∙ rest.1))

      pub waited_counts : (tries : ℕ) (met : Bool) (items : List Made) (w : HasWaited number mutex a value tries met items) → (tickets_of number items ≡ length w.rounds) × (length (shared_in items) ≡ length w.rounds + 1)
      waited_counts tries met items w =
          let rounds = rounds_count w.rounds w.each in
          let flat = flat_map round_items w.rounds in
          let parts = sum_by-append one_if flat (Shared w.last ∷ []) in
          let last = sum_by-cons one_if (Shared w.last) [] in
          let loads = ap (λ (l : List Item). length l) (shared_both flat (Shared w.last ∷ [])) in
          let longer = length-append (shared_in flat) (w.last ∷ []) in (
            ap (tickets_of number) w.are ∙ omega (arith, parts, last, rounds.0),
            ap (λ (l : List Made). length (shared_in l)) w.are ∙ loads ∙ omega (arith, longer, rounds.1),
          )

-- a part that is a misuse is one in its first part, or in the next
record MisusedBehind {O P : Type 0} (first : Part O) (next : O → Part P) (items : List Made) (misuse : Misuse) : Type 0 where
  earlier : List Made
  later : List Made
  outcome : O
  are : items ≡ earlier ++ later
  goes : next outcome later (Done (Err misuse))

module _ {O P : Type 0} (first : Part O) (next : O → Part P) (misuse : Misuse) where
  by_given : (items earlier later : List Made) (given : CallAnswer O) → items ≡ earlier ++ later → first earlier given → GoesOn next given later (Done (Err misuse)) → first items (Done (Err misuse)) ⊎ MisusedBehind first next items misuse
  by_given items earlier later (Done (Ok outcome)) are made goes = inr (record { earlier = earlier; later = later; outcome = outcome; are = are; goes = goes })
  by_given items earlier later (Done (Err other)) are made (none, is) =
      let same : misuse ≡ other = cc in
      inl (subst (λ (l : List Made). first l (Done (Err misuse))) (sym (are ∙ ap (λ (l : List Made). earlier ++ l) none ∙ append-nil earlier)) (subst (λ (m : Misuse). first earlier (Done (Err m))) (sym same) made))
  by_given items earlier later (Halted other) are made (none, is) = absurd cc

  misused : (items : List Made) → and_then first next items (Done (Err misuse)) → first items (Done (Err misuse)) ⊎ MisusedBehind first next items misuse
  misused items (earlier, later, given, are, made, goes) = by_given items earlier later given are made goes

-- the unlock's answer is the misuse
unlocked_by : (misuse : Misuse) (r : MutexReply) (rest : List (Deed MutexEvent MutexReply)) (on : MutexStage → Type 0) → Rest (unlock_meaning r) rest on (Done (Err misuse)) → (rest ≡ []) × (r ≡ mutex_answers.Unlocked (unlocking.Misuse misuse))
unlocked_by misuse (mutex_answers.Unlocked unlocking.Free) rest on goes = let is = goes.1 in absurd cc
unlocked_by misuse (mutex_answers.Unlocked (unlocking.Woke ticket)) rest on goes = let is = goes.1 in absurd cc
unlocked_by misuse (mutex_answers.Unlocked (unlocking.Handed ticket)) rest on goes = let is = goes.1 in absurd cc
unlocked_by misuse (mutex_answers.Unlocked (unlocking.Misuse other)) rest on goes =
    let is = goes.1 in
    let same : other ≡ misuse = cc in
    (goes.0, ap (λ (m : Misuse). mutex_answers.Unlocked (unlocking.Misuse m)) same)
unlocked_by misuse (mutex_answers.Arrived arrival) rest on goes = absurd goes
unlocked_by misuse (mutex_answers.Tried acquired) rest on goes = absurd goes
unlocked_by misuse (mutex_answers.Resumed resumption) rest on goes = absurd goes
unlocked_by misuse mutex_answers.Still rest on goes = absurd goes

behind_items : (mutex : ℕ) (misuse : Misuse) (items earlier later : List Made) → items ≡ earlier ++ later → EndsUnlocking mutex misuse later → EndsUnlocking mutex misuse items
behind_items mutex misuse items earlier later are e = record {
  earlier = earlier ++ e.earlier;
  last = e.last;
  are = are ∙ ap (λ (l : List Made). earlier ++ l) e.are ∙ sym (append_assoc earlier e.earlier (Entered mutex e.last ∷ []));
  deed = e.deed;
}

module _ (cond_laws : (stage : CondStage) (deeds : List (Deed NotifyEvent NotifyReply)) (given : Result (Unit {0}) Misuse) → Spells cond_event cond_meaning stage deeds (Done given) → cond_gives stage given ≡ true)
    (mutex_laws : (stage : MutexStage) (deeds : List (Deed MutexEvent MutexReply)) (given : Result LockReply Misuse) → Spells mutex_event mutex_meaning stage deeds (Done given) → mutex_gives stage given ≡ true)
    (number mutex : ℕ) (misuse : Misuse) where
  read_misuse : (given : CallAnswer LockReply) → Done (Err misuse) ≡ with_outcome (λ (locked : LockReply). let returned : Reply ℕ = replies.Returned in returned) given → given ≡ Done (Err misuse)
  read_misuse (Done (Ok outcome)) e = absurd cc
  read_misuse (Done (Err other)) e = cc
  read_misuse (Halted other) e = absurd cc

  never_cond : (from : CondStage) (items : List Made) → cond_part number from items (Done (Err misuse)) → ⊥
  never_cond from items (entries, is, spelt) = let gives = cond_laws from (map (λ entry. entry.deed) entries) (Err misuse) spelt in absurd cc

  never_locks : (items : List Made) → lock_again number mutex items (Done (Err misuse)) → ⊥
  never_locks items (given, made, is) =
      let spelt = subst (mutex_part mutex mutex_stage.Lock items) (read_misuse given is) made in
      let gives = mutex_laws mutex_stage.Lock (map (λ entry. entry.deed) spelt.0) (Err misuse) spelt.2 in
      absurd cc

  never_leaves : (items : List Made) → leave_and_lock number mutex items (Done (Err misuse)) → ⊥
  never_leaves items made = ⊎_elim (λ is. never_cond cond_stage.Leave items is) (λ b. never_locks b.later b.goes) (misused (cond_part number cond_stage.Leave) (λ left. lock_again number mutex) misuse items made)

  of_unlock : (items : List Made) → mutex_part mutex mutex_stage.Unlock items (Done (Err misuse)) → EndsUnlocking mutex misuse items
  of_unlock items made =
      let one = one_event event.Mutex reply.Mutex mutex_event mutex_meaning mutex mutex_stage.Unlock items (Err misuse) (λ r. r ≡ mutex_answers.Unlocked (unlocking.Misuse misuse)) (λ r rest goes. unlocked_by misuse r rest _ goes) made in
      record { earlier = []; last = one.2.entry; are = one.2.are; deed = one.2.deed ∙ ap (λ (r : MutexReply). Event (event.Mutex (mutex_event mutex_stage.Unlock one.0)) (reply.Mutex r)) one.3 }

  of_unlocking : (items : List Made) → unlock_and_leave number mutex items (Done (Err misuse)) → EndsUnlocking mutex misuse items
  of_unlocking items made = ⊎_elim (λ is. of_unlock items is) (λ b. absurd (never_leaves b.later b.goes)) (misused (mutex_part mutex mutex_stage.Unlock) (λ unlocked. leave_and_lock number mutex) misuse items made)

  -- a wait that is a misuse ends in the unlock
  wait_misused : (items : List Made) → wait_part number mutex items (Done (Err misuse)) → EndsUnlocking mutex misuse items
  wait_misused items made =
      ⊎_elim (λ is. absurd (never_cond cond_stage.Ticket items is)) (λ b. behind_items mutex misuse items b.earlier b.later b.are (of_unlocking b.later b.goes))
      (misused (cond_part number cond_stage.Ticket) (λ ticket. unlock_and_leave number mutex) misuse items made)

  -- and so does a `waitfor`
  pub ends_unlocking : (a : ℕ) (value : Number) (tries : ℕ) (items : List Made) → HasStopped number mutex a value tries (Done (Err misuse)) items → EndsUnlocking mutex misuse items
  ends_unlocking a value tries items s =
      let rounds = flat_map round_items s.rounds in
      behind_items mutex misuse items (rounds ++ Shared s.look ∷ []) s.waited (s.are ∙ sym (append_assoc rounds (Shared s.look ∷ []) s.waited)) (wait_misused s.waited s.stops)
