-- Whoever acquires knows what was released before.
use Rattle.std.proofs.Common.{◌≡◌, ℕ, ◌<◌, true, List, Some, slice_get, refl, sym, subst}
use Rattle.std.proofs.lemmas.Option.{none-some}
use Rattle.sync_model.specs.Front.{AtLeast}
use Rattle.sync_model.specs.Journal.{is_such, Covers, KeepsEdges}
use Rattle.workload.specs.Plan.{Plan}
use Rattle.run_record.specs.declared.made.Made.{Made}
use Rattle.run_record.specs.declared.made.Made.TheVariants.{Shared, Entered}
use Rattle.run_record.specs.Edges.{frees, takes}
use Rattle.run_record.specs.Record.{ObjectEntry}
use Rattle.kept_record.specs.Acts.{IsActOf}
use Rattle.kept_record.specs.Keeping.{Act, Account, entries_on, known_by, released_at, learnt, given, entered, placed, with_made, with_act, opened}
use Rattle.kept_record.proofs.Fronts.{less_still}
use Rattle.kept_record.proofs.Induction.{journal_cases, journal_behind, row_cases}
use Rattle.kept_record.proofs.ListLemmas.{each_more, pair_more}
use Rattle.kept_record.proofs.Numbers.{Numbered}
use Rattle.kept_record.proofs.Rising.{learnt_all, given_all, released_more}

pub record KeepsThem (kept : Account) : Type 0 where
  pub covers : (o : ℕ) → Covers frees (released_at o kept) (entries_on o kept.acts)
  pub edges : (o : ℕ) → KeepsEdges frees takes (entries_on o kept.acts)

made_step : (plan : Plan) (kept : Account) (worker : ℕ) (made : Made) → IsActOf plan (record { worker = worker; made = made }) → Numbered plan kept → KeepsThem kept → KeepsThem (with_made worker made kept)
made_step plan kept worker (Shared x) of rows now = record {
  covers = λ o. subst (λ (l : List ObjectEntry). Covers frees (released_at o kept) l) (sym (journal_behind o worker (placed worker x kept) kept.acts)) (now.covers o);
  edges = λ o. subst (λ (l : List ObjectEntry). KeepsEdges frees takes l) (sym (journal_behind o worker (placed worker x kept) kept.acts)) (now.edges o);
}
made_step plan kept worker (Entered object entry) of rows now = record {
  covers = λ o. journal_cases (λ (l : List ObjectEntry). Covers frees (released_at o next) l) o worker object this kept.acts
      (λ same. each_more (λ (i : ℕ) (x : ObjectEntry). is_such frees x.deed ≡ true → AtLeast (released_at o next) x.front) (entries_on o kept.acts) this (still o)
      (λ freeing. subst (λ (k : ℕ). AtLeast (released_at k next) front) same (releases freeing)))
      (λ apart. still o);
  edges = λ o. journal_cases (λ (l : List ObjectEntry). KeepsEdges frees takes l) o worker object this kept.acts
      (λ same i j x y before at_x at_y. pair_more (λ (x y : ObjectEntry). is_such frees x.deed ≡ true → is_such takes y.deed ≡ true → AtLeast y.front x.front) (entries_on o kept.acts) this
      (λ i j x y before at_x at_y. now.edges o i j x y before at_x at_y)
      (λ i x at freeing taking. less_still front (released_at o kept) x.front
      (subst (λ (k : ℕ). AtLeast front (released_at k kept)) same (learnt_all entry.deed (released_at object kept) (known_by worker kept) taking)) (now.covers o i x at freeing)) i j x y before at_x at_y)
      (λ apart. now.edges o);
} where
  next : Account
  next = with_made worker (Entered object entry) kept

  this : ObjectEntry
  this = entered worker object entry kept

  front : List ℕ
  front = learnt entry.deed (released_at object kept) (known_by worker kept)

  still : (o i : ℕ) (x : ObjectEntry) → slice_get (entries_on o kept.acts) i ≡ Some x → is_such frees x.deed ≡ true → AtLeast (released_at o next) x.front
  still o i x at freeing = less_still (released_at o next) (released_at o kept) x.front (released_more plan kept worker (Entered object entry) of rows o) (now.covers o i x at freeing)

  releases : is_such frees entry.deed ≡ true → AtLeast (released_at object next) front
  releases freeing = row_cases (λ (row : List ℕ). AtLeast row front) kept.released object object (given entry.deed front (released_at object kept))
      (λ same within. given_all entry.deed front (released_at object kept) freeing) (λ apart. absurd (apart refl)) (subst (λ (n : ℕ). object < n) (sym rows.objects) of.object)

pub begins : (plan : Plan) → KeepsThem (opened plan)
begins plan = record { covers = λ o i x at freeing. absurd (none-some x at); edges = λ o i j x y before at_x at_y freeing taking. absurd (none-some x at_x) }

pub step : (plan : Plan) (kept : Account) (act : Act) → IsActOf plan act → Numbered plan kept → KeepsThem kept → KeepsThem (with_act kept act)
step plan kept act of rows now = made_step plan kept act.worker act.made (record { worker = of.worker; object = of.object }) rows now
