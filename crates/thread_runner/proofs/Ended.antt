-- What is known once all workers have ended, and the maps and atomics are settled.
use Rattle.std.proofs.Common.{◌≡◌, ℕ, ℤ, zero, suc, ◌+◌, ◌<◌, ◌≤◌, List, [], ◌∷◌, length, get_or, Option, Some, None, ◌⊎◌, inl, inr, slice_get, slice_index, refl, sym, ap, ◌∙◌, subst, arith}
use Rattle.std.specs.Prelude.{All}
use Rattle.std.proofs.lemmas.Bool.{cases_lt}
use Rattle.std.proofs.lemmas.List.Elements.{All-nil}
use Rattle.std.proofs.lemmas.Option.{none-some, same_Some, slice_get_cases, slice_get_within, slice_get-get_or, get_or_from_slice_get}
use Rattle.script_calls.specs.declared.call.Reply.{Reply}
use Rattle.sync_model.specs.declared.caller.Caller.{Caller}
use Rattle.sync_types.specs.declared.atomic_object.AtomicCall.TheVariants.{Add}
use Rattle.sync_types.specs.declared.atomic_object.AtomicReply.TheVariants.{Held}
use Rattle.sync_types.specs.declared.atomic_object.Number.TheVariants.{Int64}
use Rattle.sync_model.specs.declared.item.Item.{Item}
use Rattle.sync_model.specs.declared.item.SharedCall.TheVariants.{Atomic}
use Rattle.sync_model.specs.declared.item.SharedReply.TheVariants as replies_to
use Rattle.sync_model.specs.declared.item.SharedEntry.{SharedEntry}
use Rattle.sync_model.specs.Front.{Front}
use Rattle.sync_model.specs.Journal.{by}
use Rattle.sync_model.specs.Note.{Holding}
use Rattle.sync_model.specs.Shared.{AreAllCallers, IsHeldBy, SameCalls, Settled, calls_of, times_of, items_of, times_by}
use Rattle.workload.specs.Keys.{keys_in}
use Rattle.workload.specs.Plan.{Plan}
use Rattle.run_record.specs.Limits.{IsCallOf, HasShown}
use Rattle.run_record.specs.Lines.{Line}
use Rattle.run_record.specs.Objects.{contents_of}
use Rattle.run_record.specs.Record.{ObjectEntry}
use Rattle.thread_objects.specs.declared.object.AnyObject.{AnyObject}
use Rattle.thread_objects.specs.declared.pass.AnyPass.{AnyPass}
use Rattle.thread_objects.specs.Desks.{AreSeats}
use Rattle.thread_objects.specs.GivenUp.{GaveUp}
use Rattle.thread_objects.specs.Passes.{owns_of}
use Rattle.thread_objects.specs.Rows.{AreJournals}
use Rattle.thread_objects.specs.Working.{Desk, desk_with, number_in}
use Rattle.thread_runner.specs.AllGone.{HaveGone}
use Rattle.thread_runner.specs.Dealing.{AreRows}
use Rattle.thread_runner.specs.DidLines.{DidLine, IsFresh}
use Rattle.thread_runner.specs.EndsPlans.{HaveMadeNone}
use Rattle.thread_runner.proofs.ItemLists.{gathered}
use Rattle.thread_runner.proofs.Joining.{AllDone}

module _ {N : Type 0} (own : N → Option Holding) where
  -- the calls of a caller, by its number, and of a number that is nobody's
  pub calls_at : (callers : List (Caller N)) (c : ℕ) (caller : Caller N) → slice_get callers c ≡ Some caller → calls_of own callers c ≡ items_of (own caller.note)
  calls_at [] c caller at = absurd (none-some caller at)
  calls_at (x ∷ callers) zero caller at = ap (λ (k : Caller N). items_of (own k.note)) (same_Some x caller at)
  calls_at (x ∷ callers) (suc c) caller at = calls_at callers c caller at

  pub calls_past : (callers : List (Caller N)) (c : ℕ) → length callers ≤ c → calls_of own callers c ≡ []
  calls_past [] c past = refl
  calls_past (x ∷ callers) zero past = absurd (omega (arith, past))
  calls_past (x ∷ callers) (suc c) past = calls_past callers c (omega (arith, past))

  -- and their numbers
  times_at : (callers : List (Caller N)) (c : ℕ) (caller : Caller N) → slice_get callers c ≡ Some caller → times_of own callers c ≡ times_by (own caller.note)
  times_at [] c caller at = absurd (none-some caller at)
  times_at (x ∷ callers) zero caller at = ap (λ (k : Caller N). times_by (own k.note)) (same_Some x caller at)
  times_at (x ∷ callers) (suc c) caller at = times_at callers c caller at

  times_past : (callers : List (Caller N)) (c : ℕ) → length callers ≤ c → times_of own callers c ≡ []
  times_past [] c past = refl
  times_past (x ∷ callers) zero past = absurd (omega (arith, past))
  times_past (x ∷ callers) (suc c) past = times_past callers c (omega (arith, past))

module _ {N : Type 0} (own : N → Option Holding) (front : N → Front) where
  -- what the worker has done whose caller this is, and whose passes these are
  abbrev pub desk_of : Option (Caller N) → List (AnyPass N) → Desk
  desk_of (Some caller) row = desk_with own front (owns_of row) caller.note
  desk_of None row = record { owns = λ object. []; calls = []; times = []; front = record { counts = []; time = 0 }; worker = None }

pub held_number : (own : Option Holding) (c : ℕ) → IsHeldBy c own → number_in own ≡ Some c
held_number own c (holding, is, number) = ap number_in is ∙ ap (λ n. Some n) number

item_of : {A : Type 0} (all : List A) (i : ℕ) → i < length all → (x : A) × (slice_get all i ≡ Some x)
item_of {A} all i within = found (slice_get_cases all i).1 where
  found : ((x : A) × (i < length all) × (slice_get all i ≡ Some x) × (get_or all i x ≡ x)) ⊎ ((length all ≤ i) × (slice_get all i ≡ None)) → (x : A) × (slice_get all i ≡ Some x)
  found (inl (x, low, is, read)) = (x, is)
  found (inr (past, none)) = absurd (omega (arith, within, past))

module _ {N H : Type 0} (at : H → N → Type 0) (own : N → Option Holding) (front : N → Front) (home : H) (plan : Plan) (objects : List (AnyObject N H)) (rows now_rows : List (List (AnyPass N))) (callers now_callers : List (Caller N)) (replies : List (List (Reply ℕ)))
    (callers_are : AreAllCallers at own home callers plan.workers) (gone : HaveGone at own front home plan objects rows callers now_rows now_callers replies) where
  -- each worker's passes are its own still
  pub seats_of : (worker : ℕ) (row : List (AnyPass N)) → slice_get now_rows worker ≡ Some row → AreSeats at home plan.workers worker objects row
  seats_of worker row found =
      let within = slice_get_within now_rows worker row found in
      let was = item_of callers worker (omega (arith, within, gone.rows_count, callers_are.all)) in
      let now = item_of now_callers worker (omega (arith, within, gone.rows_count, gone.callers_count)) in
      subst (λ r. AreSeats at home plan.workers worker objects r) (get_or_from_slice_get now_rows worker row [] found) (gone.each worker was.0 now.0 was.1 now.1).seats

  -- and each is its caller still
  pub callers_stay : AreAllCallers at own home now_callers plan.workers
  callers_stay = record {
    all = gone.callers_count;
    each = λ worker now found.
        let within = slice_get_within now_callers worker now found in
        let was = item_of callers worker (omega (arith, within, gone.callers_count, callers_are.all)) in
        let it = gone.each worker was.0 now was.1 found in
        (it.is_at, it.held);
  }

module _ {N H : Type 0} (at : H → N → Type 0) (own : N → Option Holding) (front : N → Front) (seen : N → List SharedEntry) (home : H) (plan : Plan) (objects : List (AnyObject N H)) (rows now_rows : List (List (AnyPass N))) (callers now_callers settled_callers : List (Caller N)) (replies : List (List (Reply ℕ)))
    (callers_are : AreAllCallers at own home callers plan.workers) (gone : HaveGone at own front home plan objects rows callers now_rows now_callers replies)
    (same : SameCalls own front seen now_callers settled_callers) (settled : Settled own front seen (contents_of plan) settled_callers) where
  -- all calls on maps and atomics are the workload's
  all_of : (worker : ℕ) → All (λ x. IsCallOf plan x.call) (calls_of own settled_callers worker)
  all_of worker = elim (cases_lt worker plan.workers) [
    | inl within ↦
        let was = item_of callers worker (omega (arith, within, callers_are.all)) in
        let now = item_of now_callers worker (omega (arith, within, gone.callers_count)) in
        let last = item_of settled_callers worker (omega (arith, within, gone.callers_count, same.count)) in
        subst (All (λ x. IsCallOf plan x.call)) (sym (ap (λ (h : Option Holding). items_of h) (same.same worker now.0 last.0 now.1 last.1)) ∙ sym (calls_at own settled_callers worker last.0 last.1)) (gone.each worker was.0 now.0 was.1 now.1).calls
    | inr past ↦ subst (All (λ x. IsCallOf plan x.call)) (sym (calls_past own settled_callers worker (omega (arith, past, gone.callers_count, same.count)))) (All-nil (λ x. IsCallOf plan x.call))
  ]

  -- so no worker has given up
  pub none_gave_up : ((caller : ℕ) (shown : List (ℕ × ℕ)) → ((c : ℕ) → All (λ x. IsCallOf plan x.call) (calls_of own settled_callers c)) → HasShown (calls_of own settled_callers caller) shown → length shown ≤ length (keys_in plan.scripts))
      → ((caller i a : ℕ) (amount : ℤ) (x : Item) → ((c : ℕ) → All (λ x. IsCallOf plan x.call) (calls_of own settled_callers c)) → slice_get (calls_of own settled_callers caller) i ≡ Some x → x.call ≡ Atomic a (Add (Int64 amount)) → (sum : ℤ) × (x.reply ≡ replies_to.Atomic (Held (Int64 sum))))
      → (worker : ℕ) → GaveUp plan (calls_of own settled_callers worker) → ⊥
  none_gave_up few int64 worker (inl over) = let most = few worker over.shown all_of over.has in let many = over.many in omega (arith, most, many)
  none_gave_up few int64 worker (inr wrong) = let is = int64 worker wrong.i wrong.a wrong.amount wrong.x all_of wrong.at wrong.call in wrong.amiss is.0 is.1

module _ {N H : Type 0} (at : H → N → Type 0) (own : N → Option Holding) (front : N → Front) (seen : N → List SharedEntry) (home : H) (plan : Plan) (objects : List (AnyObject N H)) (rows now_rows : List (List (AnyPass N))) (callers now_callers settled_callers : List (Caller N)) (replies : List (List (Reply ℕ)))
    (rows_are : AreRows at home plan.workers objects rows) (callers_are : AreAllCallers at own home callers plan.workers) (unmade : HaveMadeNone own callers)
    (gone : HaveGone at own front home plan objects rows callers now_rows now_callers replies)
    (same : SameCalls own front seen now_callers settled_callers) (settled : Settled own front seen (contents_of plan) settled_callers) (scripts : length plan.scripts ≡ plan.workers) (never : (worker : ℕ) → GaveUp plan (calls_of own settled_callers worker) → ⊥)
    (journals : List (List ObjectEntry)) (are : AreJournals plan journals)
    (parts : (object worker : ℕ) → worker < plan.workers → owns_of (get_or now_rows worker []) object ≡ by worker (get_or journals object []))
    (beyond : (object worker : ℕ) → plan.workers ≤ worker → by worker (get_or journals object []) ≡ []) where
  abbrev pub start : ℕ → Desk
  start worker = desk_of own front (slice_get callers worker) (get_or rows worker [])

  abbrev pub desk : ℕ → Desk
  desk worker = desk_of own front (slice_get now_callers worker) (get_or now_rows worker [])

  caller_of : (all : List (Caller N)) (worker : ℕ) → worker < length all → (caller : Caller N) × (slice_get all worker ≡ Some caller)
  caller_of all worker within = item_of all worker within

  abbrev Did : ℕ → Line → Type 0
  Did worker line = DidLine plan worker (get_or plan.scripts worker []) (get_or replies worker []) (start worker) (desk worker) line

  -- a worker's caller, before and after the maps and atomics were settled
  called : (worker : ℕ) → worker < plan.workers → (desk worker).calls ≡ calls_of own settled_callers worker
  called worker within =
      let now = caller_of now_callers worker (omega (arith, within, gone.callers_count)) in
      let last = caller_of settled_callers worker (omega (arith, within, gone.callers_count, same.count)) in
      ap (λ (o : Option (Caller N)). (desk_of own front o (get_or now_rows worker [])).calls) now.1
      ∙ sym (ap (λ (h : Option Holding). items_of h) (same.same worker now.0 last.0 now.1 last.1))
      ∙ sym (calls_at own settled_callers worker last.0 last.1)

  numbered : (worker : ℕ) → worker < plan.workers → (desk worker).times ≡ times_of own settled_callers worker
  numbered worker within =
      let now = caller_of now_callers worker (omega (arith, within, gone.callers_count)) in
      let last = caller_of settled_callers worker (omega (arith, within, gone.callers_count, same.count)) in
      ap (λ (o : Option (Caller N)). (desk_of own front o (get_or now_rows worker [])).times) now.1
      ∙ sym (ap (λ (h : Option Holding). times_by h) (same.same worker now.0 last.0 now.1 last.1))
      ∙ sym (times_at own settled_callers worker last.0 last.1)

  did : (worker : ℕ) → worker < plan.workers → (line : Line) × Did worker line
  did worker within =
      let was = caller_of callers worker (omega (arith, within, callers_are.all)) in
      let now = caller_of now_callers worker (omega (arith, within, gone.callers_count)) in
      let first : desk_with own front (owns_of (get_or rows worker [])) was.0.note ≡ start worker = ap (λ (o : Option (Caller N)). desk_of own front o (get_or rows worker [])) (sym was.1) in
      let last : desk_with own front (owns_of (get_or now_rows worker [])) now.0.note ≡ desk worker = ap (λ (o : Option (Caller N)). desk_of own front o (get_or now_rows worker [])) (sym now.1) in
      elim ((gone.each worker was.0 now.0 was.1 now.1).did) [
        | inl it ↦ (
          it.0,
          subst (λ (d : Desk). DidLine plan worker (get_or plan.scripts worker []) (get_or replies worker []) (start worker) d it.0) last
              (subst (λ (d : Desk). DidLine plan worker (get_or plan.scripts worker []) (get_or replies worker []) d (desk_with own front (owns_of (get_or now_rows worker [])) now.0.note) it.0) first it.1),
        )
        | inr up ↦ absurd (never worker (subst (GaveUp plan) (ap (λ (d : Desk). d.calls) last ∙ called worker within) up))
      ]

  pub all_lines : (lines : List Line) × (length lines ≡ plan.workers) × ((i : ℕ) (line : Line) → slice_get lines i ≡ Some line → Did (0 + i) line)
  all_lines = gathered Did plan.workers 0 (λ i low high. did i (omega (arith, high)))

  fresh : (worker : ℕ) → worker < plan.workers → IsFresh worker (start worker)
  fresh worker within =
      let was = caller_of callers worker (omega (arith, within, callers_are.all)) in
      let row = rows_are.each worker (get_or rows worker []) (slice_get-get_or rows worker [] (omega (arith, within, rows_are.count))) in
      subst (λ (o : Option (Caller N)). IsFresh worker (desk_of own front o (get_or rows worker []))) (sym was.1)
      (record { owns = row.none; calls = unmade worker was.0 was.1; number = held_number (own was.0.note) worker (callers_are.each worker was.0 was.1).1 })

  known : (worker other : ℕ) → worker < plan.workers → slice_index (desk worker).front.counts other ≤ length (calls_of own settled_callers other)
  known worker other within =
      let now = caller_of now_callers worker (omega (arith, within, gone.callers_count)) in
      let last = caller_of settled_callers worker (omega (arith, within, gone.callers_count, same.count)) in
      let most = settled.fronts worker other last.0 last.1 in
      let rises = (same.rises worker now.0 last.0 now.1 last.1).0 other in
      subst (λ (o : Option (Caller N)). slice_index (desk_of own front o (get_or now_rows worker [])).front.counts other ≤ length (calls_of own settled_callers other)) (sym now.1) (omega (arith, most, rises))

  pub all_done : AllDone plan settled.history journals (calls_of own settled_callers) settled.entry_times (times_of own settled_callers) replies start desk all_lines.0
  all_done = record {
    did = λ worker line found. subst (λ n. Did n line) (omega arith) (all_lines.2 worker line found);
    fresh = λ worker within. fresh worker (omega (arith, within, all_lines.1));
    scripts = omega (arith, all_lines.1, scripts);
    answered = omega (arith, all_lines.1, gone.replies_count);
    objects = are;
    own = λ worker object within. owned worker object (omega (arith, within, all_lines.1));
    beyond = λ worker object past. beyond object worker (omega (arith, past, all_lines.1));
    called = λ worker within. called worker (omega (arith, within, all_lines.1));
    uncalled = λ worker past. calls_past own settled_callers worker (omega (arith, past, all_lines.1, gone.callers_count, same.count));
    numbered = λ worker within. numbered worker (omega (arith, within, all_lines.1));
    unnumbered = λ worker past. times_past own settled_callers worker (omega (arith, past, all_lines.1, gone.callers_count, same.count));
    lawful = settled.lawful;
    order = settled.order;
    known = λ worker other within. known worker other (omega (arith, within, all_lines.1));
  } where
    owned : (worker object : ℕ) → worker < plan.workers → (desk worker).owns object ≡ by worker (get_or journals object [])
    owned worker object within =
        let now = caller_of now_callers worker (omega (arith, within, gone.callers_count)) in
        ap (λ (o : Option (Caller N)). (desk_of own front o (get_or now_rows worker [])).owns object) now.1 ∙ parts object worker within
