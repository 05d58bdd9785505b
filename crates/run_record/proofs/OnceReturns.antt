-- What the calls of a once, and of functions that run once, have done when they return.
use Rattle.std.proofs.Common.{◌≡◌, ◌⊎◌, inl, inr, ℕ, ℤ, true, List, [], ◌∷◌, ◌++◌, map, Result, Ok, refl, sym, ap, ◌∙◌, subst, append-nil}
use Rattle.sync_types.specs.declared.atomic_object.AtomicCall.TheVariants.{Add}
use Rattle.sync_types.specs.declared.atomic_object.AtomicReply.TheVariants.{Held}
use Rattle.sync_types.specs.declared.atomic_object.Number.TheVariants.{Int64}
use Rattle.script_calls.specs.declared.call.Reply.{Reply}
use Rattle.script_calls.specs.declared.call.Reply.TheVariants as replies
use Rattle.sync_types.specs.declared.misuse.Misuse.{Misuse}
use Rattle.sync_types.specs.declared.once_call.DoReply.TheVariants as do_replies
use Rattle.sync_model.specs.declared.answer.Answer.TheVariants.{Done}
use Rattle.sync_model.specs.declared.item.SharedCall.TheVariants as shared
use Rattle.sync_model.specs.declared.item.SharedReply.TheVariants as shared_replies
use Rattle.sync_model.specs.declared.journal.Deed.{Deed}
use Rattle.sync_model.specs.declared.journal.Deed.TheVariants.{Event, Refused, Halt}
use Rattle.sync_model.specs.declared.journal.Entry.{Entry}
use Rattle.wait_cores.specs.declared.once.OnceEvent.{OnceEvent}
use Rattle.wait_cores.specs.declared.once.OnceEvent.TheVariants as on_once
use Rattle.wait_cores.specs.declared.once.OnceReply.{OnceReply}
use Rattle.wait_cores.specs.declared.once.OnceReply.TheVariants as onced
use Rattle.protocols.specs.declared.once.OnceOutcome.{OnceOutcome}
use Rattle.protocols.specs.declared.once.OnceOutcome.TheVariants.{Run, Already, Ended}
use Rattle.protocols.specs.declared.once.OnceStage.{OnceStage}
use Rattle.protocols.specs.declared.once.OnceStage.TheVariants as stage
use Rattle.protocols.specs.OnceStages.{once_event, once_meaning, begin_meaning, end_meaning, leave_meaning, once_gives}
use Rattle.protocols.specs.Spelling.{Rest, IsFirstDeed, Spells}
use Rattle.run_record.specs.declared.entered.ObjectEvent.{ObjectEvent}
use Rattle.run_record.specs.declared.entered.ObjectEvent.TheVariants as event
use Rattle.run_record.specs.declared.entered.ObjectReply.{ObjectReply}
use Rattle.run_record.specs.declared.entered.ObjectReply.TheVariants as reply
use Rattle.run_record.specs.declared.made.Made.{Made}
use Rattle.run_record.specs.declared.made.Made.TheVariants.{Entered}
use Rattle.run_record.specs.AtomicKind.{adds}
use Rattle.run_record.specs.OnceKind.{goes_on_once, once_part, do_call, func_call, value_call, failure}
use Rattle.run_record.specs.Parts.{Part, read_as, returns, lifted_deed, lifted, stages}
use Rattle.run_record.specs.Returns.{IsOnce, Ran, WasTold, OnceReturns, OnceFuncReturns, OnceValueReturns}
use Rattle.run_record.proofs.Returning.{read_off, goes_on, opens, one_event}
use Rattle.run_record.proofs.TwoCalls.{one_place}

-- what a once's protocol keeps: a call gives what it may
abbrev pub OnceGives : Type 0 → Type 0
OnceGives T = (stage : OnceStage T) (deeds : List (Deed (OnceEvent T) (OnceReply T))) (given : Result (OnceOutcome T) Misuse) → Spells once_event once_meaning stage deeds (Done given) → once_gives stage given ≡ true

module _ {T : Type 0} (on : OnceEvent T → ObjectEvent) (answered : OnceReply T → ObjectReply) (object : ℕ) where
  abbrev pub part : OnceStage T → Part (OnceOutcome T)
  part from = stages on answered once_event once_meaning object from

  -- a call that is to run the function begins by one event
  module _ (gives : OnceGives T) where
    run_begins : (r : OnceReply T) (rest : List (Deed (OnceEvent T) (OnceReply T))) → Rest (begin_meaning r) rest (λ later. Spells once_event once_meaning later rest (Done (Ok Run))) (Done (Ok Run)) → (rest ≡ []) × (r ≡ onced.Run)
    run_begins onced.Run rest goes = (goes.0, refl)
    run_begins (onced.Done kept) rest goes = let is = goes.1 in absurd cc
    run_begins onced.Queued rest goes = let wrong = gives stage.Leave rest (Ok Run) goes in absurd cc
    run_begins onced.Ended rest goes = absurd goes
    run_begins (onced.Left kept) rest goes = absurd goes
    run_begins onced.Still rest goes = absurd goes

    pub begins : (items : List Made) → part stage.Begin items (Done (Ok Run)) → IsOnce object (on on_once.Begin) (answered onced.Run) items
    begins items made =
        let one = one_event on answered once_event once_meaning object stage.Begin items (Ok Run) (λ r. r ≡ onced.Run) run_begins made in
        subst (λ r. IsOnce object (on on_once.Begin) (answered r) items) one.3 one.2

  end_ends : (given : OnceOutcome T) (r : OnceReply T) (rest : List (Deed (OnceEvent T) (OnceReply T))) (goes_on : OnceStage T → Type 0) → Rest (end_meaning r) rest goes_on (Done (Ok given)) → (rest ≡ []) × (r ≡ onced.Ended)
  end_ends given onced.Ended rest later goes = (goes.0, refl)
  end_ends given onced.Run rest later goes = absurd goes
  end_ends given (onced.Done kept) rest later goes = absurd goes
  end_ends given onced.Queued rest later goes = absurd goes
  end_ends given (onced.Left kept) rest later goes = absurd goes
  end_ends given onced.Still rest later goes = absurd goes

  pub ends : (value : T) (items : List Made) (given : OnceOutcome T) → part (stage.End value) items (Done (Ok given)) → IsOnce object (on (on_once.End value)) (answered onced.Ended) items
  ends value items given made =
      let one = one_event on answered once_event once_meaning object (stage.End value) items (Ok given) (λ r. r ≡ onced.Ended) (λ r rest goes. end_ends given r rest _ goes) made in
      subst (λ r. IsOnce object (on (on_once.End value)) (answered r) items) one.3 one.2

  abbrev on_object : List (Entry (OnceEvent T) (OnceReply T)) → List Made
  on_object entries = map (λ entry. Entered object (lifted on answered entry)) entries

  -- the one event, which told what the function came to
  told_now : (kept : T) (first : Entry (OnceEvent T) (OnceReply T)) (rest : List (Entry (OnceEvent T) (OnceReply T))) (e : OnceEvent T) (r : OnceReply T) → map (λ entry. entry.deed) rest ≡ [] → first.deed ≡ Event e r
      → (r ≡ onced.Done kept) ⊎ (r ≡ onced.Left kept) → WasTold on answered object kept (on_object (first ∷ rest))
  told_now kept first [] e r none is told = record { earlier = []; last = lifted on answered first; given = r; made = e; are = refl; deed = ap (lifted_deed on answered) is; told = told }
  told_now kept first (next ∷ rest) e r none is told = absurd cc

  told_later : (kept : T) (first : Entry (OnceEvent T) (OnceReply T)) (items : List Made) → WasTold on answered object kept items → WasTold on answered object kept (Entered object (lifted on answered first) ∷ items)
  told_later kept first items told = record {
    earlier = Entered object (lifted on answered first) ∷ told.earlier;
    last = told.last;
    given = told.given;
    made = told.made;
    are = ap (λ rest. Entered object (lifted on answered first) ∷ rest) told.are;
    deed = told.deed;
    told = told.told;
  }

  module _ (kept : T) where
    abbrev Told : List (Entry (OnceEvent T) (OnceReply T)) → Type 0
    Told entries = WasTold on answered object kept (on_object entries)

    abbrev LeavesTelling : List (Entry (OnceEvent T) (OnceReply T)) → Type 0
    LeavesTelling entries = Spells once_event once_meaning stage.Leave (map (λ entry. entry.deed) entries) (Done (Ok (Already kept)))

    by_leave : (first : Entry (OnceEvent T) (OnceReply T)) (rest : List (Entry (OnceEvent T) (OnceReply T))) (e : OnceEvent T) (r : OnceReply T) → first.deed ≡ Event e r → (LeavesTelling rest → Told rest)
        → Rest (leave_meaning r) (map (λ entry. entry.deed) rest) (λ later. Spells once_event once_meaning later (map (λ entry. entry.deed) rest) (Done (Ok (Already kept)))) (Done (Ok (Already kept))) → Told (first ∷ rest)
    by_leave first rest e (onced.Left other) is later goes = let same = goes.1 in told_now kept first rest e (onced.Left other) goes.0 is (inr (cc))
    by_leave first rest e onced.Still is later goes = told_later kept first (on_object rest) (later goes)
    by_leave first rest e onced.Run is later goes = absurd goes
    by_leave first rest e onced.Queued is later goes = absurd goes
    by_leave first rest e (onced.Done other) is later goes = absurd goes
    by_leave first rest e onced.Ended is later goes = absurd goes

    by_leaving : (first : Entry (OnceEvent T) (OnceReply T)) (rest : List (Entry (OnceEvent T) (OnceReply T))) (d : Deed (OnceEvent T) (OnceReply T)) → first.deed ≡ d → (LeavesTelling rest → Told rest)
        → IsFirstDeed once_event once_meaning stage.Leave d (map (λ entry. entry.deed) rest) (λ later. Spells once_event once_meaning later (map (λ entry. entry.deed) rest) (Done (Ok (Already kept)))) (Done (Ok (Already kept))) → Told (first ∷ rest)
    by_leaving first rest (Event e r) is later spelt = by_leave first rest e r is later spelt.1
    by_leaving first rest (Refused e m) is later spelt = let halted = spelt.2 in absurd cc
    by_leaving first rest (Halt m) is later spelt = absurd spelt

    leaves_told : (entries : List (Entry (OnceEvent T) (OnceReply T))) → LeavesTelling entries → Told entries
    leaves_told [] spelt = absurd spelt
    leaves_told (first ∷ rest) spelt = by_leaving first rest first.deed refl (λ goes. leaves_told rest goes) spelt

    by_begin : (first : Entry (OnceEvent T) (OnceReply T)) (rest : List (Entry (OnceEvent T) (OnceReply T))) (e : OnceEvent T) (r : OnceReply T) → first.deed ≡ Event e r
        → Rest (begin_meaning r) (map (λ entry. entry.deed) rest) (λ later. Spells once_event once_meaning later (map (λ entry. entry.deed) rest) (Done (Ok (Already kept)))) (Done (Ok (Already kept))) → Told (first ∷ rest)
    by_begin first rest e (onced.Done other) is goes = let same = goes.1 in told_now kept first rest e (onced.Done other) goes.0 is (inl (cc))
    by_begin first rest e onced.Queued is goes = told_later kept first (on_object rest) (leaves_told rest goes)
    by_begin first rest e onced.Run is goes = let same = goes.1 in absurd cc
    by_begin first rest e onced.Ended is goes = absurd goes
    by_begin first rest e (onced.Left other) is goes = absurd goes
    by_begin first rest e onced.Still is goes = absurd goes

    pub was_told : (items : List Made) → part stage.Begin items (Done (Ok (Already kept))) → WasTold on answered object kept items
    was_told items (entries, is, spelt) =
        let o = opens once_event once_meaning stage.Begin entries (Ok (Already kept)) spelt in
        subst (λ made. WasTold on answered object kept made) (sym (is ∙ ap on_object o.are)) (by_begin o.first o.rest on_once.Begin o.answer o.deed o.goes)

-- a call by what its beginning comes to
module _ {T : Type 0} (on : OnceEvent T → ObjectEvent) (answered : OnceReply T → ObjectReply) (object : ℕ) (gives : OnceGives T) (function : Part T) (ran returned : T → Reply ℕ) where
  -- the call ran the function, by these items
  pub record HasRun (items : List Made) (answer : Reply ℕ) : Type 0 where
    pub between : List Made
    pub value : T
    pub made : function between (Done (Ok value))
    pub runs : Ran on answered object between value items
    pub is : answer ≡ ran value

  abbrev pub Comes : List Made → Reply ℕ → Type 0
  Comes items answer = HasRun items answer ⊎ ((kept : T) × (answer ≡ returned kept) × WasTold on answered object kept items)

  by_outcome : (items earlier later : List Made) (answer : Reply ℕ) (outcome : OnceOutcome T) → items ≡ earlier ++ later → part on answered object stage.Begin earlier (Done (Ok outcome))
      → goes_on_once (part on answered object) function ran returned outcome later (Done (Ok answer)) → Comes items answer
  by_outcome items earlier later answer Run are made goes =
      let run = goes_on function (λ value. read_as (λ ended. ran value) (part on answered object (stage.End value))) later answer goes in
      let off = read_off (λ (ended : OnceOutcome T). ran run.outcome) run.goes.0 answer run.goes.2 in
      inl record {
        between = run.earlier;
        value = run.outcome;
        made = run.made;
        runs = record {
          begun = earlier;
          ended = run.later;
          are = are ∙ ap (λ later. earlier ++ later) run.are;
          begins = begins on answered object gives earlier made;
          ends = ends on answered object run.outcome run.later off.outcome (subst (part on answered object (stage.End run.outcome) run.later) off.is run.goes.1);
        };
        is = off.read;
      }
  by_outcome items earlier later answer (Already kept) are made goes =
      let told = goes.1 in
      inr (kept, (cc), subst (λ made. WasTold on answered object kept made) (sym (are ∙ ap (λ l. earlier ++ l) goes.0 ∙ append-nil earlier)) (was_told on answered object kept earlier made))
  by_outcome items earlier later answer Ended are made goes = absurd goes

  pub comes : (items : List Made) (answer : Reply ℕ) → once_part (part on answered object) function ran returned items (Done (Ok answer)) → Comes items answer
  comes items answer made =
      let two = goes_on (part on answered object stage.Begin) (goes_on_once (part on answered object) function ran returned) items answer made in
      by_outcome items two.earlier two.later answer two.outcome two.are two.made two.goes

module _ (object : ℕ) where
  pub once_returns : OnceGives ℤ → (a : ℕ) (amount : ℤ) (items : List Made) (answer : Reply ℕ) → do_call object a amount items (Done (Ok answer)) → OnceReturns object a amount items answer
  once_returns gives a amount items answer made = by_comes (comes event.Once reply.Once object gives (adds a amount) (λ sum. replies.Once (do_replies.Ran sum)) (λ kept. replies.Once do_replies.Done) items answer made)
    where
      by_comes : Comes event.Once reply.Once object gives (adds a amount) (λ sum. replies.Once (do_replies.Ran sum)) (λ kept. replies.Once do_replies.Done) items answer → OnceReturns object a amount items answer
      by_comes (inl run) =
          let added = run.made in
          let x = one_place (shared.Atomic a (Add (Int64 amount))) (shared_replies.Atomic (Held (Int64 added.0))) run.between added.1 in
          let same : added.0 ≡ run.value = (let e = added.2 in cc) in
          inl (run.value, x.0, run.is, subst (λ between. Ran event.Once reply.Once object between run.value items) x.1 run.runs, x.2, x.3 ∙ ap (λ sum. shared_replies.Atomic (Held (Int64 sum))) same)
      by_comes (inr told) = inr told

  pub func_returns : OnceGives ℕ → (code : ℕ) (items : List Made) (answer : Reply ℕ) → func_call object code items (Done (Ok answer)) → OnceFuncReturns object code items answer
  func_returns gives code items answer made = by_comes (comes event.OnceFunc reply.OnceFunc object gives (returns code) (λ kept. replies.OnceFunc (failure kept)) (λ kept. replies.OnceFunc (failure kept)) items answer made)
    where
      by_comes : Comes event.OnceFunc reply.OnceFunc object gives (returns code) (λ kept. replies.OnceFunc (failure kept)) (λ kept. replies.OnceFunc (failure kept)) items answer → OnceFuncReturns object code items answer
      by_comes (inl run) =
          let nothing = run.made in
          let same : run.value ≡ code = (let e = nothing.1 in cc) in
          inl (run.is ∙ ap (λ kept. replies.OnceFunc (failure kept)) same, subst (λ between. Ran event.OnceFunc reply.OnceFunc object between code items) nothing.0 (subst (λ value. Ran event.OnceFunc reply.OnceFunc object run.between value items) same run.runs))
      by_comes (inr told) = inr told

  pub value_returns : OnceGives ℕ → (value : ℕ) (items : List Made) (answer : Reply ℕ) → value_call object value items (Done (Ok answer)) → OnceValueReturns object value items answer
  value_returns gives value items answer made = by_comes (comes event.OnceValue reply.OnceValue object gives (returns value) replies.OnceValue replies.OnceValue items answer made)
    where
      by_comes : Comes event.OnceValue reply.OnceValue object gives (returns value) replies.OnceValue replies.OnceValue items answer → OnceValueReturns object value items answer
      by_comes (inl run) =
          let nothing = run.made in
          let same : run.value ≡ value = (let e = nothing.1 in cc) in
          inl (run.is ∙ ap replies.OnceValue same, subst (λ between. Ran event.OnceValue reply.OnceValue object between value items) nothing.0 (subst (λ v. Ran event.OnceValue reply.OnceValue object run.between v items) same run.runs))
      by_comes (inr told) = inr told
