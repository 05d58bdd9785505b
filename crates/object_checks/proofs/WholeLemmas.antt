-- Each object of a record is Stop, one that the workload declares, a part of a pool, or Starts.
use Rattle.std.proofs.Common.{◌≡◌, ◌↔◌, ◌⊎◌, inl, inr, ℕ, zero, suc, ◌+◌, ◌-◌, ◌<◌, ◌≤◌, Bool, true, false, cond, List, [], length, get_or, Some, None, slice_get, refl, sym, ap, ◌∙◌, subst, arith, add-one}
use Rattle.std.proofs.lemmas.Bool.Decides.{leb_tells}
use Rattle.std.proofs.lemmas.Option.{slice_get_cases}
use Rattle.std.proofs.lemmas.List.{get_or_past}
use Rattle.sync_model.specs.Journal.{KeepsEdges}
use Rattle.workload.specs.declared.object.ObjectKind.{ObjectKind}
use Rattle.workload.specs.declared.object.ObjectKind.TheVariants as kinds
use Rattle.workload.specs.declared.object.ObjectLine.{ObjectLine}
use Rattle.workload.specs.Plan.{Plan, has_dormant}
use Rattle.workload.specs.Puts.{puts_at}
use Rattle.pool_core.specs.PartMachine.{part_next, part_start}
use Rattle.starts_core.specs.StartsMachine.{begun, next}
use Rattle.run_record.specs.declared.entered.ObjectEvent.TheVariants as event
use Rattle.run_record.specs.declared.entered.ObjectReply.TheVariants as reply
use Rattle.run_record.specs.Edges.{frees, takes}
use Rattle.run_record.specs.Explains.{IsRecordOf}
use Rattle.run_record.specs.Objects.{is_pool, first_part, starts_number}
use Rattle.run_record.specs.PoolKind.{IsPartJournal}
use Rattle.run_record.specs.StartsKind.{IsStartsJournal}
use Rattle.run_record.specs.Record.{Record, ObjectEntry, object_number}
use Rattle.object_checks.specs.JournalParts.{KeepAllEdges, IsMachinePart, IsMachineStarts, RecordParts, journal_at}
use Rattle.object_checks.proofs.Halves.{halves}
use Rattle.object_checks.proofs.Lifting.{is_two, none_keep, stops_keep}

part_halves : (room : ℕ) (journal : List ObjectEntry) → (IsPartJournal room journal ↔ IsMachinePart room journal × KeepsEdges frees takes journal)
part_halves room journal = is_two event.Pool reply.Pool part_next (part_start room) journal

starts_halves : (dormant : List Bool) (journal : List ObjectEntry) → (IsStartsJournal dormant journal ↔ IsMachineStarts dormant journal × KeepsEdges frees takes journal)
starts_halves dormant journal = is_two event.Starts reply.Starts next (begun dormant) journal

pool_is : (kind : ObjectKind) → is_pool kind ≡ true → kind ≡ kinds.Pool
pool_is kinds.Map is = absurd cc
pool_is kinds.Var is = absurd cc
pool_is (kinds.Atomic type) is = absurd cc
pool_is kinds.Mutex is = absurd cc
pool_is kinds.RwMutex is = absurd cc
pool_is (kinds.Cond mutex) is = absurd cc
pool_is (kinds.WaitGroup start) is = absurd cc
pool_is (kinds.Once atomic delta) is = absurd cc
pool_is (kinds.OnceFunc code) is = absurd cc
pool_is (kinds.OnceValue value) is = absurd cc
pool_is (kinds.Sema size) is = absurd cc
pool_is (kinds.Flight atomic delta) is = absurd cc
pool_is kinds.Pool is = refl

module _ (plan : Plan)
    (follow : (place : ℕ) (object : ObjectLine) → slice_get plan.objects place ≡ Some object → first_part plan (place + 1) ≡ first_part plan place + cond (is_pool object.kind) plan.workers 0)
    (all : first_part plan (length plan.objects) ≡ starts_number plan) where
  -- a number is that of a part of the pool at a place
  record IsPart (n : ℕ) : Type 0 where
    place : ℕ
    part : ℕ
    object : ObjectLine
    at : slice_get plan.objects place ≡ Some object
    pool : object.kind ≡ kinds.Pool
    below : part < plan.workers
    number : first_part plan place + part ≡ n

  some_part : (n k : ℕ) → k ≤ length plan.objects → length plan.objects + 1 ≤ n → n < first_part plan k → IsPart n
  some_part n zero within past before = absurd (omega (arith, past, before))
  some_part n (suc k) within past before = elim (leb_tells (first_part plan k) n) [
    | inl from ↦ here (slice_get_cases plan.objects k).1 from.1
    | inr later ↦ some_part n k (omega (arith, within)) past later.1
  ] where
    here : ((x : ObjectLine) × (k < length plan.objects) × (slice_get plan.objects k ≡ Some x) × (get_or plan.objects k x ≡ x)) ⊎ ((length plan.objects ≤ k) × (slice_get plan.objects k ≡ None)) → first_part plan k ≤ n → IsPart n
    here (inr (beyond, none)) from = absurd (omega (arith, within, beyond))
    here (inl (object, inside, at, read)) from = either (is_pool object.kind) refl where
      either : (b : Bool) → is_pool object.kind ≡ b → IsPart n
      either true is =
          let next_ : first_part plan (suc k) ≡ first_part plan k + plan.workers = ap (first_part plan) (sym (add-one k)) ∙ follow k object at ∙ ap (λ b. first_part plan k + cond b plan.workers 0) is in
          record { place = k; part = n - first_part plan k; object = object; at = at; pool = pool_is object.kind is; below = omega (arith, from, before, next_); number = omega (arith, from) }
      either false is =
          let next_ : first_part plan (suc k) ≡ first_part plan k + 0 = ap (first_part plan) (sym (add-one k)) ∙ follow k object at ∙ ap (λ b. first_part plan k + cond b plan.workers 0) is in
          absurd (omega (arith, from, before, next_))

  module _ (r : Record) where
    -- each journal keeps the edge law, whichever object it is of
    keep_edges : IsRecordOf plan r → KeepAllEdges r.journals
    keep_edges is zero = stops_keep (journal_at r.journals 0) is.stops
    keep_edges is (suc place) = declared (slice_get_cases plan.objects place).1 where
      past_all : length plan.objects ≤ place → KeepsEdges frees takes (journal_at r.journals (suc place))
      past_all beyond = elim (leb_tells (starts_number plan) (suc place)) [
        | inl past ↦ starts_or_none (has_dormant plan) refl past.1
        | inr before ↦ (
            let p = some_part (suc place) (length plan.objects) (omega arith) (omega (arith, beyond)) (subst (λ n. suc place < n) (sym all) before.1) in
            let of = is.parts p.place p.part p.object p.at p.pool p.below in
            subst (λ n. KeepsEdges frees takes (journal_at r.journals n)) p.number ((part_halves (puts_at p.place plan.scripts) (journal_at r.journals (first_part plan p.place + p.part))).0 of).1)
      ] where
        starts_or_none : (b : Bool) → has_dormant plan ≡ b → starts_number plan ≤ suc place → KeepsEdges frees takes (journal_at r.journals (suc place))
        starts_or_none true waits past = elim (leb_tells (suc place) (starts_number plan)) [
          | inl up_to ↦ (let least = up_to.1 in
              subst (λ n. KeepsEdges frees takes (journal_at r.journals n)) (omega (arith, past, least)) ((starts_halves plan.dormant (journal_at r.journals (starts_number plan))).0 (is.starts waits)).1)
          | inr beyond_it ↦ (let further = beyond_it.1 in let count : length r.journals ≡ starts_number plan + 1 = is.objects ∙ ap (λ b. starts_number plan + cond b 1 0) waits in
              none_keep (journal_at r.journals (suc place)) (get_or_past r.journals (suc place) [] (omega (arith, further, count))))
        ]
        starts_or_none false waits past = let count : length r.journals ≡ starts_number plan + 0 = is.objects ∙ ap (λ b. starts_number plan + cond b 1 0) waits in
            none_keep (journal_at r.journals (suc place)) (get_or_past r.journals (suc place) [] (omega (arith, past, count)))

      declared : ((x : ObjectLine) × (place < length plan.objects) × (slice_get plan.objects place ≡ Some x) × (get_or plan.objects place x ≡ x)) ⊎ ((length plan.objects ≤ place) × (slice_get plan.objects place ≡ None)) → KeepsEdges frees takes (journal_at r.journals (suc place))
      declared (inl (object, inside, at, read)) = subst (λ n. KeepsEdges frees takes (journal_at r.journals n)) (add-one place) ((halves plan place object.kind (journal_at r.journals (place + 1))).0 (is.journals place object at)).1
      declared (inr (beyond, none)) = past_all beyond

    pub parts_of : IsRecordOf plan r → RecordParts plan r
    parts_of is = record {
      shared = is.shared;
      fronts = is.fronts;
      once = is.once;
      machines = record {
        objects = is.objects;
        stops = is.stops;
        declared = λ place object at. ((halves plan place object.kind (journal_at r.journals (object_number place))).0 (is.journals place object at)).0;
        parts = λ place part object at pool below. ((part_halves (puts_at place plan.scripts) (journal_at r.journals (first_part plan place + part))).0 (is.parts place part object at pool below)).0;
        starts = λ waits. ((starts_halves plan.dormant (journal_at r.journals (starts_number plan))).0 (is.starts waits)).0;
      };
      edges = keep_edges is;
    }

    pub from_parts : RecordParts plan r → IsRecordOf plan r
    from_parts parts = record {
      shared = parts.shared;
      objects = parts.machines.objects;
      stops = parts.machines.stops;
      journals = λ place object at. (halves plan place object.kind (journal_at r.journals (object_number place))).1 (parts.machines.declared place object at, parts.edges (object_number place));
      parts = λ place part object at pool below. (part_halves (puts_at place plan.scripts) (journal_at r.journals (first_part plan place + part))).1 (parts.machines.parts place part object at pool below, parts.edges (first_part plan place + part));
      starts = λ waits. (starts_halves plan.dormant (journal_at r.journals (starts_number plan))).1 (parts.machines.starts waits, parts.edges (starts_number plan));
      once = parts.once;
      fronts = parts.fronts;
    }
