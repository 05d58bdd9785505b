-- A wait on a cond by its items: a ticket first, and behind it a leaving.
use Rattle.std.proofs.Common.{◌≡◌, ◌⊎◌, inl, inr, ⊎_elim, ℕ, zero, suc, ◌+◌, List, [], ◌∷◌, ◌++◌, map, length, Option, Some, slice_get, refl, sym, ap, ◌∙◌, subst, append_assoc}
use Rattle.std.specs.Prelude.{Ok, Err, unwrap_or}
use Rattle.std.specs.List.{flat_map}
use Rattle.std.proofs.lemmas.Option.{none-some}
use Rattle.sync_model.specs.declared.answer.Answer.TheVariants as answers
use Rattle.sync_model.specs.declared.journal.Deed.{Deed}
use Rattle.sync_model.specs.declared.journal.Deed.TheVariants.{Event, Refused, Halt}
use Rattle.sync_model.specs.declared.journal.Entry.{Entry}
use Rattle.script_calls.specs.declared.call.Reply.{Reply}
use Rattle.script_calls.specs.declared.call.Reply.TheVariants as replies
use Rattle.wait_cores.specs.declared.notify.NotifyEvent.{NotifyEvent}
use Rattle.wait_cores.specs.declared.notify.NotifyEvent.TheVariants.{Ticket, Leave}
use Rattle.wait_cores.specs.declared.notify.NotifyReply.{NotifyReply}
use Rattle.wait_cores.specs.declared.notify.NotifyReply.TheVariants.{Done, Still}
use Rattle.protocols.specs.CondStages.{cond_event, cond_meaning}
use Rattle.protocols.specs.Spelling.{CallAnswer, IsFirstDeed, Spells}
use Rattle.protocols.specs.declared.cond.CondStage.TheVariants as stage
use Rattle.protocols.specs.declared.mutex.MutexStage.TheVariants as mutex_stage
use Rattle.workload.specs.Plan.{Plan}
use Rattle.run_record.specs.declared.entered.ObjectEvent.TheVariants as event
use Rattle.run_record.specs.declared.entered.ObjectReply.TheVariants as reply
use Rattle.run_record.specs.declared.made.Made.{Made}
use Rattle.run_record.specs.declared.made.Made.TheVariants.{Entered}
use Rattle.run_record.specs.Calls.{SpellsCall}
use Rattle.run_record.specs.CondKind.{cond_part, wait_part}
use Rattle.run_record.specs.Lines.{SpeltCall, AreSpelt}
use Rattle.run_record.specs.MutexKind.{mutex_part}
use Rattle.run_record.specs.Parts.{Part, GoesOn, and_then, read_as, lifted, lifted_deed}
use Rattle.run_record.specs.Record.{ObjectEntry, shared_in}
use Rattle.run_record.specs.Waits.{IsOnCond}

abbrev NotifyEntry : Type 0
NotifyEntry = Entry NotifyEvent NotifyReply

abbrev NotifyDeed : Type 0
NotifyDeed = Deed NotifyEvent NotifyReply

abbrev deeds : List NotifyEntry → List NotifyDeed
deeds entries = map (λ entry. entry.deed) entries

-- a call of a cond's part, done
abbrev finished : CallAnswer (Unit {0})
finished = answers.Done (Ok tt)

-- a ticket is one event
ticket_deed : (d : NotifyDeed) (rest : List NotifyDeed) → IsFirstDeed cond_event cond_meaning stage.Ticket d rest (λ later. Spells cond_event cond_meaning later rest finished) finished → (d ≡ Event Ticket Done) × (rest ≡ [])
ticket_deed (Event e Done) rest (is, (none, given)) = (ap (λ (x : NotifyEvent). Event x Done) is.1, none)
ticket_deed (Event e Still) rest (is, never) = absurd never
ticket_deed (Refused e m) rest (is, none, halted) = (cc)
ticket_deed (Halt m) rest never = absurd never

-- a leaving is the last event, or the caller sleeps on
leave_deed : (d : NotifyDeed) (rest : List NotifyDeed) → IsFirstDeed cond_event cond_meaning stage.Leave d rest (λ later. Spells cond_event cond_meaning later rest finished) finished
    → ((d ≡ Event Leave Done) × (rest ≡ [])) ⊎ Spells cond_event cond_meaning stage.Leave rest finished
leave_deed (Event e Done) rest (is, (none, given)) = inl (ap (λ (x : NotifyEvent). Event x Done) is.1, none)
leave_deed (Event e Still) rest (is, on) = inr on
leave_deed (Refused e m) rest (is, none, halted) = (cc)
leave_deed (Halt m) rest never = absurd never

no_deeds : (entries : List NotifyEntry) → deeds entries ≡ [] → entries ≡ []
no_deeds [] none = refl
no_deeds (x ∷ entries) none = (cc)

-- what comes behind a part that is done
goes_on : {O P : Type 0} (next : O → Part P) (given : CallAnswer O) (later : List Made) (outcome : P) → GoesOn next given later (answers.Done (Ok outcome)) → (o : O) × (given ≡ answers.Done (Ok o)) × next o later (answers.Done (Ok outcome))
goes_on next (answers.Done (Ok o)) later outcome goes = (o, refl, goes)
goes_on next (answers.Done (Err misuse)) later outcome (none, is) = (cc)
goes_on next (answers.Halted misuse) later outcome (none, is) = (cc)

module _ (object : ℕ) where
  abbrev entered : NotifyEntry → Made
  entered entry = Entered object (lifted event.Cond reply.Cond entry)

  one_ticket : (entries : List NotifyEntry) → Spells cond_event cond_meaning stage.Ticket (deeds entries) finished → (x : NotifyEntry) × (x.deed ≡ Event Ticket Done) × (map entered entries ≡ entered x ∷ [])
  one_ticket [] never = absurd never
  one_ticket (x ∷ entries) spelt =
      let is = ticket_deed x.deed (deeds entries) spelt in
      (x, is.0, ap (λ (xs : List NotifyEntry). entered x ∷ map entered xs) (no_deeds entries is.1))

  last_leaves : (entries : List NotifyEntry) → Spells cond_event cond_meaning stage.Leave (deeds entries) finished → (front : List Made) × (x : NotifyEntry) × (x.deed ≡ Event Leave Done) × (map entered entries ≡ front ++ entered x ∷ [])
  last_leaves [] never = absurd never
  last_leaves (x ∷ entries) spelt = ⊎_elim
      (λ t. ([], x, t.0, ap (λ (xs : List NotifyEntry). entered x ∷ map entered xs) (no_deeds entries t.1)))
      (λ t. let r = last_leaves entries t in (entered x ∷ r.0, r.1, r.2, ap (λ (l : List Made). entered x ∷ l) r.3))
      (leave_deed x.deed (deeds entries) spelt)

  -- a ticket stands first, and a leaving behind it
  pub record TakesAndLeaves (items : List Made) : Type 0 where
    pub ticket : ObjectEntry
    pub leaving : ObjectEntry
    pub between : List Made
    pub later : List Made
    pub are : items ≡ Entered object ticket ∷ (between ++ Entered object leaving ∷ later)
    pub takes : IsOnCond Ticket ticket
    pub leaves : IsOnCond Leave leaving

  -- a leaving, whatever stands around it
  record Leaves (items : List Made) : Type 0 where
    front : List Made
    entry : NotifyEntry
    later : List Made
    is : entry.deed ≡ Event Leave Done
    are : items ≡ front ++ entered entry ∷ later

  module _ (mutex : ℕ) where
    abbrev lock_part : Part (Reply ℕ)
    lock_part = read_as (λ locked. replies.Returned) (mutex_part mutex mutex_stage.Lock)

    abbrev leave_part : Part (Reply ℕ)
    leave_part = and_then (cond_part object stage.Leave) (λ left. lock_part)

    of_leave : (items : List Made) (outcome : Reply ℕ) → leave_part items (answers.Done (Ok outcome)) → Leaves items
    of_leave items outcome (first, second, given, are, made, goes) =
        let on = goes_on (λ left. lock_part) given second outcome goes in
        let done = subst (λ (a : CallAnswer (Unit {0})). cond_part object stage.Leave first a) on.1 made in
        let l = last_leaves done.0 done.2 in
        record { front = l.0; entry = l.1; later = second; is = l.2; are = are ∙ (ap (λ (xs : List Made). xs ++ second) (done.1 ∙ l.3) ∙ append_assoc l.0 (entered l.1 ∷ []) second) }

    of_unlock : (items : List Made) (outcome : Reply ℕ) → and_then (mutex_part mutex mutex_stage.Unlock) (λ unlocked. leave_part) items (answers.Done (Ok outcome)) → Leaves items
    of_unlock items outcome (first, second, given, are, made, goes) =
        let on = goes_on (λ unlocked. leave_part) given second outcome goes in
        let l = of_leave second outcome on.2 in
        record { front = first ++ l.front; entry = l.entry; later = l.later; is = l.is; are = are ∙ (ap (λ (xs : List Made). first ++ xs) l.are ∙ sym (append_assoc first l.front (entered l.entry ∷ l.later))) }

    pub of_wait : (items : List Made) (outcome : Reply ℕ) → wait_part object mutex items (answers.Done (Ok outcome)) → TakesAndLeaves items
    of_wait items outcome (first, second, given, are, took, goes) =
        let on = goes_on (λ ticket. and_then (mutex_part mutex mutex_stage.Unlock) (λ unlocked. leave_part)) given second outcome goes in
        let done = subst (λ (a : CallAnswer (Unit {0})). cond_part object stage.Ticket first a) on.1 took in
        let t = one_ticket done.0 done.2 in
        let l = of_unlock second outcome on.2 in
        record {
          ticket = lifted event.Cond reply.Cond t.0;
          leaving = lifted event.Cond reply.Cond l.entry;
          between = l.front;
          later = l.later;
          are = are ∙ (ap (λ (xs : List Made). xs ++ second) (done.1 ∙ t.2) ∙ ap (λ (xs : List Made). entered t.0 ∷ xs) l.are);
          takes = ap (lifted_deed event.Cond reply.Cond) t.1;
          leaves = ap (lifted_deed event.Cond reply.Cond) l.is;
        }

-- a list that has a part has what stands in the part, one behind the other
pub within : {A : Type 0} (earlier between rest later items : List A) (x y : A) → items ≡ x ∷ (between ++ y ∷ rest) → earlier ++ (items ++ later) ≡ earlier ++ x ∷ (between ++ y ∷ (rest ++ later))
within {A} earlier between rest later items x y is = ap (λ (xs : List A). earlier ++ (xs ++ later)) is ∙ ap (λ (xs : List A). earlier ++ x ∷ xs) (append_assoc between (y ∷ rest) later)

-- where a completed call's items stand among those of its line
module _ (plan : Plan) (worker : ℕ) where
  pub record StandsAmong (spelt : List SpeltCall) (x : SpeltCall) : Type 0 where
    pub before : ℕ
    pub front : List Made
    pub rest : List Made
    pub spells : SpellsCall plan worker before x.call x.items (answers.Done (Ok x.reply))
    pub are : flat_map (λ (s : SpeltCall). s.items) spelt ≡ front ++ (x.items ++ rest)

  pub spelt_at : (before : ℕ) (spelt : List SpeltCall) (i : ℕ) (x : SpeltCall) → AreSpelt plan worker before spelt → slice_get spelt i ≡ Some x → StandsAmong spelt x
  spelt_at before [] i x are at = absurd (none-some x at)
  spelt_at before (s ∷ spelt) zero x are at =
      let is : s ≡ x = ap (λ (o : Option SpeltCall). unwrap_or o x) at in
      record {
        before = before;
        front = [];
        rest = flat_map (λ (z : SpeltCall). z.items) spelt;
        spells = subst (λ (z : SpeltCall). SpellsCall plan worker before z.call z.items (answers.Done (Ok z.reply))) is are.0;
        are = ap (λ (z : SpeltCall). z.items ++ flat_map (λ (y : SpeltCall). y.items) spelt) is;
      }
  spelt_at before (s ∷ spelt) (suc i) x are at =
      let r = spelt_at (before + length (shared_in s.items)) spelt i x are.1 at in
      record { before = r.before; front = s.items ++ r.front; rest = r.rest; spells = r.spells; are = ap (λ (l : List Made). s.items ++ l) r.are ∙ sym (append_assoc s.items r.front (x.items ++ r.rest)) }
