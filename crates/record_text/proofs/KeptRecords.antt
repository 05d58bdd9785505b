-- No pool of a record that explains a run drops an item.
use Rattle.std.proofs.Common.{◌≡◌, ◌⊎◌, inl, inr, ℕ, zero, suc, ◌+◌, ◌<◌, ◌≤◌, Bool, true, cond, List, [], ◌∷◌, map, length, get_or, slice_get, Some, refl, sym, ap, ◌∙◌, subst, arith}
use Rattle.std.specs.Prelude.{count_by, ◌==◌}
use Rattle.std.proofs.lemmas.Bool.{eq-eqb, eqb-true, ne_eqb}
use Rattle.std.proofs.lemmas.List.Sums.{get_or-le-sum_by}
use Rattle.script_calls.specs.declared.call.Call.{Call}
use Rattle.script_calls.specs.declared.outcome.Outcome.{Outcome}
use Rattle.sync_model.specs.declared.journal.Deed.{Deed}
use Rattle.sync_model.specs.declared.journal.Deed.TheVariants.{Event, Refused, Halt}
use Rattle.sync_model.specs.Journal.{by}
use Rattle.pool_core.specs.declared.pool_event.PoolEvent.{PoolEvent}
use Rattle.pool_core.specs.declared.pool_event.PoolEvent.TheVariants as pool_events
use Rattle.pool_core.specs.declared.pool_event.PoolReply.{PoolReply}
use Rattle.pool_core.specs.declared.pool_event.PoolReply.TheVariants as pool_replies
use Rattle.protocols.specs.declared.pool.PoolStage.{PoolStage}
use Rattle.protocols.specs.declared.pool.PoolStage.TheVariants as pool_stage
use Rattle.protocols.specs.PoolStages.{pool_event, pool_meaning}
use Rattle.workload.specs.declared.object.ObjectKind.{ObjectKind}
use Rattle.workload.specs.declared.object.ObjectKind.TheVariants as object_kinds
use Rattle.workload.specs.declared.object.ObjectLine.{ObjectLine}
use Rattle.workload.specs.Plan.{Plan, is_valid}
use Rattle.workload.specs.Puts.{is_put_at, puts_at}
use Rattle.run_record.specs.declared.entered.ObjectEvent.{ObjectEvent}
use Rattle.run_record.specs.declared.entered.ObjectEvent.TheVariants as object_events
use Rattle.run_record.specs.declared.entered.ObjectReply.{ObjectReply}
use Rattle.run_record.specs.declared.entered.ObjectReply.TheVariants as object_replies
use Rattle.run_record.specs.declared.made.Made.{Made}
use Rattle.run_record.specs.Calls.{IsJournalOf}
use Rattle.run_record.specs.Explains.{Explains}
use Rattle.run_record.specs.Journals.{FollowsFrom}
use Rattle.run_record.specs.Lines.{Line, items_of}
use Rattle.run_record.specs.Objects.{first_part}
use Rattle.run_record.specs.Parts.{lifted, lifted_deed}
use Rattle.run_record.specs.PoolKind.{IsPartJournal}
use Rattle.run_record.specs.Record.{ObjectEntry, Record, journal_of, list_of, stop}
use Rattle.record_text.proofs.Decimals.{both}
use Rattle.record_text.proofs.EachDeed.{IsStep}
use Rattle.record_text.proofs.EntryLines.{KeepsAll, KeepsItem, mapped_at, no_entry, stop_line}
use Rattle.record_text.proofs.KeptItems.{part_keeps, puts_in, puts_of_one}
use Rattle.record_text.proofs.KeptLists.{line_puts, puts_entered, puts_on, total_is}
use Rattle.record_text.proofs.MeantItems.{IsMeant, IsMeantDeed}
use Rattle.record_text.proofs.NumberedObjects.{IsObject, is_declared, is_part, is_starts, is_stop, object_of}
use Rattle.record_text.proofs.WorkerItems.{KeysAreNumbered, script_among}

-- ---- what is done on other objects is no put

-- a deed of a pool
abbrev IsOfPool : Deed ObjectEvent ObjectReply → Type 0
IsOfPool (Event (object_events.Pool event) reply) = Unit {0}
IsOfPool deed = ⊥

other_deed : {E R : Type 0} (event : E → ObjectEvent) (reply : R → ObjectReply) → ((e : E) (r : R) → IsOfPool (Event (event e) (reply r)) → ⊥) → (deed : Deed E R) → IsOfPool (lifted_deed event reply deed) → ⊥
other_deed event reply other (Event e r) is = other e r is
other_deed event reply other (Refused e m) is = is
other_deed event reply other (Halt m) is = is

other_kind : {S E R : Type 0} (event : E → ObjectEvent) (reply : R → ObjectReply) (next : S → ℕ → E → S × R) (frees takes : E → R → Bool) (start : S) (journal : List ObjectEntry) (i : ℕ) (entry : ObjectEntry) → ((e : E) (r : R) → IsOfPool (Event (event e) (reply r)) → ⊥)
    → FollowsFrom event reply next frees takes start journal → slice_get journal i ≡ Some entry → IsOfPool entry.deed → ⊥
other_kind event reply next frees takes start journal i entry other (own, is, follows, edges) at of =
    let (x, at_x, same) = mapped_at (lifted event reply) own i entry (ap (λ (l : List ObjectEntry). slice_get l i) (sym is) ∙ at) in
    other_deed event reply other x.deed (subst IsOfPool (ap (λ (e : ObjectEntry). e.deed) same) of)

not_declared : (plan : Plan) (place : ℕ) (kind : ObjectKind) (journal : List ObjectEntry) (i : ℕ) (entry : ObjectEntry) → IsJournalOf plan place kind journal → slice_get journal i ≡ Some entry → IsOfPool entry.deed → ⊥
not_declared plan place object_kinds.Map journal i entry is at of = no_entry journal i entry is at
not_declared plan place (object_kinds.Atomic type) journal i entry is at of = no_entry journal i entry is at
not_declared plan place object_kinds.Pool journal i entry is at of = no_entry journal i entry is at
not_declared plan place object_kinds.Var journal i entry is at of = no_entry journal i entry is at
not_declared plan place object_kinds.Mutex journal i entry is at of = other_kind object_events.Mutex object_replies.Mutex _ _ _ _ journal i entry (λ e r no. no) is at of
not_declared plan place object_kinds.RwMutex journal i entry is at of = other_kind object_events.RwMutex object_replies.RwMutex _ _ _ _ journal i entry (λ e r no. no) is at of
not_declared plan place (object_kinds.Cond mutex) journal i entry is at of = other_kind object_events.Cond object_replies.Cond _ _ _ _ journal i entry (λ e r no. no) is at of
not_declared plan place (object_kinds.WaitGroup start) journal i entry is at of = other_kind object_events.WaitGroup object_replies.WaitGroup _ _ _ _ journal i entry (λ e r no. no) is at of
not_declared plan place (object_kinds.Once atomic delta) journal i entry is at of = other_kind object_events.Once object_replies.Once _ _ _ _ journal i entry (λ e r no. no) is at of
not_declared plan place (object_kinds.OnceFunc code) journal i entry is at of = other_kind object_events.OnceFunc object_replies.OnceFunc _ _ _ _ journal i entry (λ e r no. no) is at of
not_declared plan place (object_kinds.OnceValue value) journal i entry is at of = other_kind object_events.OnceValue object_replies.OnceValue _ _ _ _ journal i entry (λ e r no. no) is at of
not_declared plan place (object_kinds.Sema size) journal i entry is at of = other_kind object_events.Sema object_replies.Sema _ _ _ _ journal i entry (λ e r no. no) is at of
not_declared plan place (object_kinds.Flight atomic delta) journal i entry is at of = other_kind object_events.Flight object_replies.Flight _ _ _ _ journal i entry (λ e r no. no) is at of

-- ---- a part

-- a list is a line's, or there is none
a_line : (lines : List Line) (worker : ℕ) → ((line : Line) × (slice_get lines worker ≡ Some line) × (get_or (map items_of lines) worker [] ≡ items_of line) × (worker < length lines)) ⊎ (get_or (map items_of lines) worker [] ≡ [])
a_line [] worker = inr refl
a_line (line ∷ lines) zero = inl (line, refl, refl, omega arith)
a_line (line ∷ lines) (suc worker) = elim (a_line lines worker) [
  | inl is ↦ inl (is.0, is.1, is.2, (let low = is.3 in omega (arith, low)))
  | inr none ↦ inr none
]

-- the pool's own deed, of an entry that is this
own_deed : (item dropped : ℕ) (deed : Deed (PoolEvent ℕ) (PoolReply ℕ)) → lifted_deed object_events.Pool object_replies.Pool deed ≡ Event (object_events.Pool (pool_events.Put item)) (object_replies.Pool (pool_replies.Dropped dropped))
    → deed ≡ Event (pool_events.Put item) (pool_replies.Dropped dropped)
own_deed item dropped (Event e r) is = cc
own_deed item dropped (Refused e m) is = absurd cc
own_deed item dropped (Halt m) is = absurd cc

module _ (plan : Plan) (outcome : Outcome) (r : Record) (valid : is_valid plan ≡ true) (explains : Explains plan outcome r) (same_keys : KeysAreNumbered)
    (apart : (place other part another : ℕ) (object one : ObjectLine) → slice_get plan.objects place ≡ Some object → object.kind ≡ object_kinds.Pool → part < plan.workers → slice_get plan.objects other ≡ Some one → one.kind ≡ object_kinds.Pool → another < plan.workers
    → first_part plan place + part ≡ first_part plan other + another → (place ≡ other) × (part ≡ another)) where
  scripts_are : length plan.scripts ≡ plan.workers
  scripts_are = eqb-true (length plan.scripts) plan.workers (both (length plan.scripts == plan.workers) _ valid).0

  module _ (place part : ℕ) (pool : ObjectLine) (at : slice_get plan.objects place ≡ Some pool) (is_pool : pool.kind ≡ object_kinds.Pool) (low : part < plan.workers) where
    abbrev object : ℕ
    object = first_part plan place + part

    -- each worker's puts on the part
    list_puts : (worker : ℕ) → puts_on object (list_of r worker) ≤ cond (worker == part) (count_by (is_put_at place) (get_or plan.scripts worker [])) 0
    list_puts worker = elim (a_line explains.lines worker) [
      | inl is ↦
          let count = explains.are.count in
          let inside = is.3 in
          let scripts = scripts_are in
          let below : worker < plan.workers = omega (arith, inside, count, scripts) in
          let few = line_puts plan place part pool at is_pool low apart worker below is.0 (explains.are.each worker is.0 is.1) (explains.are.runs worker is.0 is.1) (script_among plan worker same_keys valid) in
          let total = total_is plan place part pool at is_pool low apart worker below (get_or plan.scripts worker []) in
          let list = ap (λ (lists : List (List Made)). puts_on object (get_or lists worker [])) explains.are.lists in
          let items = ap (puts_on object) is.2 in
          omega (arith, few, total, list, items)
      | inr none ↦
          let list = ap (λ (lists : List (List Made)). puts_on object (get_or lists worker [])) explains.are.lists in
          let items = ap (puts_on object) none in
          omega (arith, list, items)
    ]

    by_puts : (worker : ℕ) → puts_in (by worker (journal_of r object)) ≡ puts_on object (list_of r worker)
    by_puts worker = ap puts_in (sym (explains.lawful.once worker object)) ∙ puts_entered object (list_of r worker)

    part_puts : puts_in (journal_of r object) ≤ puts_at place plan.scripts
    part_puts =
        let all = puts_of_one part (journal_of r object) (λ c other. none_by c (ap (λ b. cond b (count_by (is_put_at place) (get_or plan.scripts c [])) 0) (ne_eqb c part other))) in
        let own = by_puts part in
        let few = list_puts part in
        let mine = ap (λ b. cond b (count_by (is_put_at place) (get_or plan.scripts part [])) 0) (eq-eqb part part refl) in
        let scripts = scripts_are in
        let most = get_or-le-sum_by (λ (script : List Call). count_by (is_put_at place) script) plan.scripts part [] (omega (arith, low, scripts)) in
        omega (arith, all, own, few, mine, most)
      where
        none_by : (c : ℕ) → cond (c == part) (count_by (is_put_at place) (get_or plan.scripts c [])) 0 ≡ 0 → puts_in (by c (journal_of r object)) ≡ 0
        none_by c none = let own = by_puts c in let few = list_puts c in omega (arith, none, own, few)

    not_dropped : (number item dropped : ℕ) (entry : ObjectEntry) → IsPartJournal (puts_at place plan.scripts) (journal_of r object) → slice_get (journal_of r object) number ≡ Some entry
        → entry.deed ≡ Event (object_events.Pool (pool_events.Put item)) (object_replies.Pool (pool_replies.Dropped dropped)) → ⊥
    not_dropped number item dropped entry (own, is, follows, edges) at_entry deed =
        let (x, at_x, same) = mapped_at (lifted object_events.Pool object_replies.Pool) own number entry (ap (λ (l : List ObjectEntry). slice_get l number) (sym is) ∙ at_entry) in
        let few = part_puts in
        let journal = ap puts_in is in
        part_keeps (puts_at place plan.scripts) number item dropped own x (omega (arith, few, journal)) follows at_x (own_deed item dropped x.deed (sym (ap (λ (e : ObjectEntry). e.deed) same) ∙ deed))

  -- ---- any object

  module _ (object number : ℕ) (entry : ObjectEntry) (at : slice_get (journal_of r object) number ≡ Some entry) where
    never_dropped : (item dropped : ℕ) → IsObject plan r object → entry.deed ≡ Event (object_events.Pool (pool_events.Put item)) (object_replies.Pool (pool_replies.Dropped dropped)) → ⊥
    never_dropped item dropped (is_stop zero_is) deed =
        let (m, halt) = stop_line (journal_of r stop) number entry explains.lawful.stops (ap (λ (o : ℕ). slice_get (journal_of r o) number) (sym zero_is) ∙ at) in
        subst IsOfPool (sym deed ∙ halt) tt
    never_dropped item dropped (is_declared place line line_is named journal) deed = not_declared plan place line.kind (journal_of r object) number entry journal at (subst IsOfPool (sym deed) tt)
    never_dropped item dropped (is_part place part line line_is pool low object_is named journal) deed =
        not_dropped place part line line_is pool low number item dropped entry (subst (λ (o : ℕ). IsPartJournal (puts_at place plan.scripts) (journal_of r o)) object_is journal) (ap (λ (o : ℕ). slice_get (journal_of r o) number) (sym object_is) ∙ at) deed
    never_dropped item dropped (is_starts named journal) deed = other_kind object_events.Starts object_replies.Starts _ _ _ _ (journal_of r object) number entry (λ e r no. no) journal at (subst IsOfPool (sym deed) tt)

    by_stage : (stage : PoolStage) (now dropped : ℕ) (e : PoolEvent ℕ) → e ≡ pool_event stage now → IsStep (pool_meaning stage (pool_replies.Dropped dropped)) → entry.deed ≡ Event (object_events.Pool e) (object_replies.Pool (pool_replies.Dropped dropped)) → ⊥
    by_stage (pool_stage.Put item) now dropped e is means deed =
        never_dropped item dropped (object_of plan r explains.lawful object number entry at) (deed ∙ ap (λ (x : PoolEvent ℕ). Event (object_events.Pool x) (object_replies.Pool (pool_replies.Dropped dropped))) is)
    by_stage stage now dropped e is means deed = absurd means

    by_reply : (event : ObjectEvent) (reply : ObjectReply) → entry.deed ≡ Event event reply → IsMeant event reply → KeepsItem reply
    by_reply (object_events.Pool e) (object_replies.Pool (pool_replies.Dropped dropped)) deed (stage, now, is, means) = by_stage stage now dropped e is means deed
    by_reply event (object_replies.Pool (pool_replies.Dropped dropped)) deed meant = absurd meant
    by_reply event reply deed meant = tt

    by_deed : (deed : Deed ObjectEvent ObjectReply) → entry.deed ≡ deed → IsMeantDeed plan.workers deed → KeepsAll deed
    by_deed (Event event reply) is meant = by_reply event reply is meant.0
    by_deed (Refused event misuse) is meant = tt
    by_deed (Halt misuse) is meant = tt

    pub kept_deed : IsMeantDeed plan.workers entry.deed → KeepsAll entry.deed
    kept_deed meant = by_deed entry.deed refl meant
