-- Each front has a number for each worker, and there is one for each worker and each object.
use Rattle.std.proofs.Common.{◌≡◌, ℕ, ◌+◌, ◌<◌, Bool, true, false, cond, List, [], length, get_or, replicate, sym, ap, ◌∙◌, subst, slice_index, Some, slice_get}
use Rattle.std.proofs.lemmas.List.{length-set, length-replicate, get_or-replicate}
use Rattle.std.proofs.lemmas.Option.{none-some}
use Rattle.sync_model.specs.declared.journal.Deed.{Deed}
use Rattle.sync_model.specs.Journal.{is_such}
use Rattle.workload.specs.Plan.{Plan}
use Rattle.run_record.specs.declared.entered.ObjectEvent.{ObjectEvent}
use Rattle.run_record.specs.declared.entered.ObjectReply.{ObjectReply}
use Rattle.run_record.specs.declared.made.Made.{Made}
use Rattle.run_record.specs.declared.made.Made.TheVariants.{Shared, Entered}
use Rattle.run_record.specs.Edges.{frees, takes}
use Rattle.run_record.specs.Objects.{object_count}
use Rattle.run_record.specs.Record.{front_of}
use Rattle.kept_record.specs.Acts.{IsActOf}
use Rattle.kept_record.specs.Keeping.{Act, Account, made_by, known_by, released_at, joined, counted, learnt, given, entered, placed, with_made, with_act, none_known, opened}
use Rattle.kept_record.proofs.Fronts.{joined_long}
use Rattle.kept_record.proofs.Induction.{list_cases, row_cases}
use Rattle.kept_record.proofs.ListLemmas.{each_more}

pub record Numbered (plan : Plan) (kept : Account) : Type 0 where
  pub workers : length kept.fronts ≡ plan.workers
  pub objects : length kept.released ≡ object_count plan
  pub wide : (w : ℕ) → w < plan.workers → length (known_by w kept) ≡ plan.workers
  pub broad : (o : ℕ) → o < object_count plan → length (released_at o kept) ≡ plan.workers
  pub each : (w i : ℕ) (x : Made) → slice_get (made_by w kept.acts) i ≡ Some x → length (front_of x) ≡ plan.workers

learnt_long : (deed : Deed ObjectEvent ObjectReply) (released known : List ℕ) (n : ℕ) → length released ≡ n → length known ≡ n → length (learnt deed released known) ≡ n
learnt_long deed released known n first second = chosen (is_such takes deed) where
  chosen : (b : Bool) → length (cond b (joined known released) known) ≡ n
  chosen true = joined_long known released n second first
  chosen false = second

given_long : (deed : Deed ObjectEvent ObjectReply) (known released : List ℕ) (n : ℕ) → length released ≡ n → length known ≡ n → length (given deed known released) ≡ n
given_long deed known released n first second = chosen (is_such frees deed) where
  chosen : (b : Bool) → length (cond b (joined released known) released) ≡ n
  chosen true = joined_long released known n first second
  chosen false = first

pub begins : (plan : Plan) → Numbered plan (opened plan)
begins plan = record {
  workers = length-replicate plan.workers (none_known plan);
  objects = length-replicate (object_count plan) (none_known plan);
  wide = λ w within. each plan.workers w within;
  broad = λ o within. each (object_count plan) o within;
  each = λ w i x at. absurd (none-some x at);
} where
  each : (n i : ℕ) → i < n → length (get_or (replicate n (none_known plan)) i []) ≡ plan.workers
  each n i within = ap length (get_or-replicate n i (none_known plan) [] within) ∙ length-replicate plan.workers 0

made_step : (plan : Plan) (kept : Account) (worker : ℕ) (made : Made) → IsActOf plan (record { worker = worker; made = made }) → Numbered plan kept → Numbered plan (with_made worker made kept)
made_step plan kept worker (Shared x) of now =
    let within : worker < length kept.fronts = subst (λ (n : ℕ). worker < n) (sym now.workers) of.worker in
    record {
      workers = length-set kept.fronts worker (counted worker (known_by worker kept)) ∙ now.workers;
      objects = now.objects;
      wide = λ w is. row_cases (λ (row : List ℕ). length row ≡ plan.workers) kept.fronts worker w (counted worker (known_by worker kept))
          (λ same there. length-set (known_by worker kept) worker (slice_index (known_by worker kept) worker + 1) ∙ now.wide worker of.worker) (λ apart. now.wide w is) within;
      broad = now.broad;
      each = λ w. list_cases (λ (l : List Made). (i : ℕ) (y : Made) → slice_get l i ≡ Some y → length (front_of y) ≡ plan.workers) w worker (Shared (placed worker x kept)) kept.acts
          (λ same. each_more (λ (i : ℕ) (y : Made). length (front_of y) ≡ plan.workers) (made_by w kept.acts) (Shared (placed worker x kept)) (now.each w) (now.wide worker of.worker)) (λ apart. now.each w);
    }
made_step plan kept worker (Entered object entry) of now =
    let within : worker < length kept.fronts = subst (λ (n : ℕ). worker < n) (sym now.workers) of.worker in
    let there : object < length kept.released = subst (λ (n : ℕ). object < n) (sym now.objects) of.object in
    let front : List ℕ = learnt entry.deed (released_at object kept) (known_by worker kept) in
    let long : length front ≡ plan.workers = learnt_long entry.deed (released_at object kept) (known_by worker kept) plan.workers (now.broad object of.object) (now.wide worker of.worker) in
    record {
      workers = length-set kept.fronts worker front ∙ now.workers;
      objects = length-set kept.released object (given entry.deed front (released_at object kept)) ∙ now.objects;
      wide = λ w is. row_cases (λ (row : List ℕ). length row ≡ plan.workers) kept.fronts worker w front (λ same here. long) (λ apart. now.wide w is) within;
      broad = λ o is. row_cases (λ (row : List ℕ). length row ≡ plan.workers) kept.released object o (given entry.deed front (released_at object kept))
          (λ same here. given_long entry.deed front (released_at object kept) plan.workers (now.broad object of.object) long) (λ apart. now.broad o is) there;
      each = λ w. list_cases (λ (l : List Made). (i : ℕ) (y : Made) → slice_get l i ≡ Some y → length (front_of y) ≡ plan.workers) w worker (Entered object (entered worker object entry kept)) kept.acts
          (λ same. each_more (λ (i : ℕ) (y : Made). length (front_of y) ≡ plan.workers) (made_by w kept.acts) (Entered object (entered worker object entry kept)) (now.each w) long) (λ apart. now.each w);
    }

pub step : (plan : Plan) (kept : Account) (act : Act) → IsActOf plan act → Numbered plan kept → Numbered plan (with_act kept act)
step plan kept act of now = made_step plan kept act.worker act.made (record { worker = of.worker; object = of.object }) now
