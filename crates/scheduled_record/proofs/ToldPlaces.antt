-- Each item that is told is of a call that stands in its worker's script, or of none.
use Rattle.std.proofs.Common.{◌≡◌, ℕ, suc, ◌≤◌, ◌==◌, Bool, true, false, cond, List, [], ◌∷◌, ◌++◌, map, filter, fold, length, drop, get_or, Option, Some, None, slice_get, refl, sym, ap, ◌∙◌, subst, arith}
use Rattle.std.specs.List.{AllByRecursion}
use Rattle.std.proofs.lemmas.Bool.{eqb-true, lt-ltb}
use Rattle.std.proofs.lemmas.Option.{slice_get_within}
use Rattle.script_calls.specs.declared.call.Call.{Call}
use Rattle.script_calls.specs.declared.call.Reply.{Reply}
use Rattle.workload.specs.Plan.{Plan}
use Rattle.run_record.specs.declared.made.Made.{Made}
use Rattle.run_record.specs.Record.{shared_in}
use Rattle.record_text.specs.ItemLines.{is_index}
use Rattle.kept_record.specs.Acts.{bare}
use Rattle.kept_record.specs.Keeping.{Act, made_by, account_of}
use Rattle.step_runner.specs.declared.trace.TraceItem.{TraceItem}
use Rattle.step_runner.specs.declared.turns.item.Item.{Item}
use Rattle.step_runner.specs.Recorded.{recorded_item}
use Rattle.step_runner.specs.Traces.{IsPlaced}
use Rattle.scheduled_record.specs.RunActs.{acts_by, going_acts, closing_acts}
use Rattle.scheduled_record.specs.ToldItems.{ToldAct, acts_in, told_as, with_told_item, with_told_turn, told_turns, told_run, told_with, kept_told, told_by}
use Rattle.scheduled_record.proofs.Adding.{all_at}
use Rattle.scheduled_record.proofs.ToldLemmas.{own_worker}

is_there : (script : List Call) (call : Option Call) (place : Option ℕ) (reply : Option (Reply (List ℕ))) → IsPlaced script call place reply → is_index (length script) place ≡ true
is_there script (Some call) (Some place) reply at = lt-ltb place (length script) (slice_get_within script place call at)
is_there script None None reply at = refl
is_there script (Some call) None reply at = refl
is_there script None (Some place) reply at = absurd at

module _ {A : Type 0} (P : A → Type 0) where
  both_all : (xs ys : List A) → AllByRecursion P xs → AllByRecursion P ys → AllByRecursion P (xs ++ ys)
  both_all [] ys one other = other
  both_all (x ∷ xs) ys one other = (one.0, both_all xs ys one.1 other)

  filtered_all : (p : A → Bool) (xs : List A) → AllByRecursion P xs → AllByRecursion P (filter p xs)
  filtered_all p [] all = tt
  filtered_all p (x ∷ xs) all = chosen (p x) (filtered_all p xs all.1) where
    chosen : (b : Bool) → AllByRecursion P (filter p xs) → AllByRecursion P (cond b (x ∷ filter p xs) (filter p xs))
    chosen true rest = (all.0, rest)
    chosen false rest = rest

module _ {A : Type 0} (p : A → Bool) where
  no_longer : (xs : List A) → length (filter p xs) ≤ length xs
  no_longer [] = omega arith
  no_longer (x ∷ xs) = chosen (p x) (no_longer xs) where
    chosen : (b : Bool) → length (filter p xs) ≤ length xs → length (cond b (x ∷ filter p xs) (filter p xs)) ≤ suc (length xs)
    chosen true less = omega (arith, less)
    chosen false less = omega (arith, less)

  -- where nothing is left out, all are such
  all_such : (xs : List A) → filter p xs ≡ xs → AllByRecursion (λ (x : A). p x ≡ true) xs
  all_such [] same = tt
  all_such (x ∷ xs) same = chosen (p x) refl same (λ (rest : filter p xs ≡ xs). all_such xs rest) where
    chosen : (b : Bool) → p x ≡ b → cond b (x ∷ filter p xs) (filter p xs) ≡ x ∷ xs → (filter p xs ≡ xs → AllByRecursion (λ (x : A). p x ≡ true) xs) → AllByRecursion (λ (x : A). p x ≡ true) (x ∷ xs)
    chosen true is same later = (is, later (ap (drop 1) same))
    chosen false is same later = absurd (let long : length (filter p xs) ≡ suc (length xs) = ap length same in omega (arith, long, no_longer xs))

module _ (plan : Plan) where
  abbrev script : ℕ → List Call
  script worker = get_or plan.scripts worker []

  -- the call that the act is of is one of its worker's script
  abbrev pub IsThere : ToldAct → Type 0
  IsThere t = is_index (length (script t.act.worker)) t.index ≡ true

  of_none : (acts : List Act) → AllByRecursion IsThere (told_as None acts)
  of_none [] = tt
  of_none (act ∷ acts) = (refl, of_none acts)

  of_call : (index : Option ℕ) (worker : ℕ) (made : List Made) → is_index (length (script worker)) index ≡ true → AllByRecursion IsThere (told_as index (acts_by worker made))
  of_call index worker [] is = tt
  of_call index worker (one ∷ made) is = (is, of_call index worker made is)

  item_there : (index : Option ℕ) (told : List ToldAct) (item : Item) → is_index (length (script item.caller)) index ≡ true → AllByRecursion IsThere told → AllByRecursion IsThere (with_told_item plan index told item)
  item_there index told item is all =
      both_all IsThere told _ all (both_all IsThere (told_as None (going_acts plan (acts_in told) item.caller)) _ (of_none (going_acts plan (acts_in told) item.caller))
      (of_call index item.caller (recorded_item plan (length (shared_in (made_by item.caller (acts_in told)))) item) is))

  items_there : (index : Option ℕ) (worker : ℕ) (told : List ToldAct) (items : List Item) → is_index (length (script worker)) index ≡ true → AllByRecursion (λ (item : Item). (item.caller == worker) ≡ true) items
      → AllByRecursion IsThere told → AllByRecursion IsThere (fold (with_told_item plan index) told items)
  items_there index worker told [] is own all = all
  items_there index worker told (item ∷ items) is own all =
      items_there index worker (with_told_item plan index told item) items is own.1
      (item_there index told item (subst (λ (w : ℕ). is_index (length (script w)) index ≡ true) (sym (eqb-true item.caller worker own.0)) is) all)

  -- what a trace says of its turns
  abbrev pub IsTurn : TraceItem → Type 0
  IsTurn one = IsPlaced (script one.worker) one.call one.index one.reply × (filter (λ item. item.caller == one.worker) one.made ≡ one.made)

  turns_there : (told : List ToldAct) (trace : List TraceItem) → ((number : ℕ) (one : TraceItem) → slice_get trace number ≡ Some one → IsTurn one) → AllByRecursion IsThere told → AllByRecursion IsThere (fold (with_told_turn plan) told trace)
  turns_there told [] each all = all
  turns_there told (one ∷ trace) each all =
      let here = each 0 one refl in
      turns_there (with_told_turn plan told one) trace (λ number other at. each (suc number) other at)
      (items_there one.index one.worker told one.made (is_there (script one.worker) one.call one.index one.reply here.0) (all_such (λ item. item.caller == one.worker) one.made here.1) all)

  run_there : (trace : List TraceItem) → ((number : ℕ) (one : TraceItem) → slice_get trace number ≡ Some one → IsTurn one) → AllByRecursion IsThere (told_run plan trace)
  run_there trace each = both_all IsThere (told_turns plan trace) _ (turns_there [] trace each tt) (of_none (closing_acts plan (acts_in (told_turns plan trace))))

  -- ---- as the record has them

  with_there : (told : List ToldAct) (acts : List Act) → map (λ (act : Act). act.worker) (acts_in told) ≡ map (λ (act : Act). act.worker) acts → AllByRecursion IsThere told → AllByRecursion IsThere (told_with told acts)
  with_there [] acts same all = tt
  with_there (t ∷ told) [] same all = tt
  with_there (t ∷ told) (act ∷ acts) same all =
      (subst (λ (w : ℕ). is_index (length (script w)) t.index ≡ true) (ap (λ (l : List ℕ). get_or l 0 0) same) all.0, with_there told acts (ap (drop 1) same) all.1)

  pub bare_workers : (acts : List Act) → map (λ (act : Act). act.worker) (map bare acts) ≡ map (λ (act : Act). act.worker) acts
  bare_workers [] = refl
  bare_workers (act ∷ acts) = ap (λ (l : List ℕ). act.worker ∷ l) (bare_workers acts)

  pub told_there : (trace : List TraceItem) → ((number : ℕ) (one : TraceItem) → slice_get trace number ≡ Some one → IsTurn one)
      → map bare (account_of plan (acts_in (told_run plan trace))).acts ≡ map bare (acts_in (told_run plan trace))
      → (worker place : ℕ) (t : ToldAct) → slice_get (told_by worker (kept_told plan (told_run plan trace))) place ≡ Some t → is_index (length (script worker)) t.index ≡ true
  told_there trace each same worker place t at =
      let told = told_run plan trace in
      let kept = (account_of plan (acts_in told)).acts in
      let workers = sym (sym (bare_workers kept) ∙ (ap (map (λ (act : Act). act.worker)) same ∙ bare_workers (acts_in told))) in
      let all = filtered_all IsThere (λ (u : ToldAct). u.act.worker == worker) (kept_told plan told) (with_there told kept workers (run_there trace each)) in
      subst (λ (w : ℕ). is_index (length (script w)) t.index ≡ true) (own_worker worker (kept_told plan told) place t at) (all_at IsThere (told_by worker (kept_told plan told)) place t all at)
