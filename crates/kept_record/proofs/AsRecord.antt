-- What is kept, as the record has it.
use Rattle.std.proofs.Common.{◌≡◌, ℕ, suc, ◌<◌, ◌≤◌, List, length, take, Some, slice_get, slice_index, inl, inr, sym, ap, ◌∙◌, subst, arith}
use Rattle.std.proofs.lemmas.Bool.Decides.{leb_tells}
use Rattle.std.proofs.lemmas.Option.{none-some}
use Rattle.sync_model.specs.declared.item.Item.{Item}
use Rattle.sync_model.specs.Journal.{TimesRise}
use Rattle.workload.specs.Plan.{Plan}
use Rattle.run_record.specs.declared.made.Made.{Made}
use Rattle.run_record.specs.Explains.{KeepsFronts}
use Rattle.run_record.specs.InOneOrder.{InOneOrder, NumbersRise, number_behind}
use Rattle.run_record.specs.Record.{ObjectEntry, list_of, shared_in, calls_of, front_of}
use Rattle.kept_record.specs.Acts.{AreActsOf}
use Rattle.kept_record.specs.Keeping.{Act, made_by, account_of, record_of}
use Rattle.kept_record.proofs.History.{calls_by}
use Rattle.kept_record.proofs.Keeps.{keeps}
use Rattle.kept_record.proofs.Ordered.{IsOrdered, numbers_rise}
use Rattle.kept_record.proofs.Within.{list_is, journal_is}

module _ (plan : Plan) (acts : List Act) (all : AreActsOf plan acts) where
  list_here : (w : ℕ) → list_of (record_of plan acts) w ≡ made_by w (account_of plan acts).acts
  list_here w = list_is plan (account_of plan acts) (keeps plan acts all).within w

  pub calls_are : (w : ℕ) → calls_of (record_of plan acts) w ≡ calls_by w (account_of plan acts)
  calls_are w = ap shared_in (list_here w)

  pub call_at : (w j : ℕ) (x : Item) → slice_get (calls_of (record_of plan acts) w) j ≡ Some x → slice_get (calls_by w (account_of plan acts)) j ≡ Some x
  call_at w j x at = ap (λ (l : List Item). slice_get l j) (sym (calls_are w)) ∙ at

  made_at : (w i : ℕ) (x : Made) → slice_get (list_of (record_of plan acts) w) i ≡ Some x → slice_get (made_by w (account_of plan acts).acts) i ≡ Some x
  made_at w i x at = ap (λ (l : List Made). slice_get l i) (sym (list_here w)) ∙ at

  -- who made something is a worker
  made_worker : (w i : ℕ) (x : Made) → slice_get (made_by w (account_of plan acts).acts) i ≡ Some x → w < plan.workers
  made_worker w i x at = elim (leb_tells (suc w) plan.workers) [
    | inl within ↦ within.1
    | inr past ↦ absurd (none-some x (ap (λ (l : List Made). slice_get l i) (sym ((keeps plan acts all).within.workers w (below past.1))) ∙ at))
  ] where
    below : plan.workers < suc w → plan.workers ≤ w
    below less = omega arith

  pub is_worker : (w j : ℕ) (x : Item) → slice_get (calls_of (record_of plan acts) w) j ≡ Some x → w < plan.workers
  is_worker w j x at = elim (leb_tells (suc w) plan.workers) [
    | inl within ↦ within.1
    | inr past ↦ absurd (none-some x (ap (λ (l : List Made). slice_get (shared_in l) j) (sym ((keeps plan acts all).within.workers w (below past.1))) ∙ call_at w j x at))
  ] where
    below : plan.workers < suc w → plan.workers ≤ w
    below less = omega arith

  pub keeps_fronts : KeepsFronts (record_of plan acts)
  keeps_fronts = record {
    rises = λ w i j x y before at_x at_y. (keeps plan acts all).rises.pairs w i j x y before (made_at w i x at_x) (made_at w j y at_y);
    own = λ w i x at. (keeps plan acts all).counts.counts w i x (made_worker w i x (made_at w i x at)) (made_at w i x at) ∙ ap (λ (l : List Made). length (shared_in (take i l))) (sym (list_here w));
    made = λ w i other x at. subst (λ (l : List Item). slice_index (front_of x) other ≤ length l) (sym (calls_are other)) ((keeps plan acts all).counts.made w i other x (made_at w i x at));
  }

  -- numbers that rise item by item rise from any item to a later one
  pub in_one_order : ((least : ℕ) (list : List Made) (times : List ℕ) (i j : ℕ) (x y : Made) → NumbersRise least list times → i < j → slice_get list i ≡ Some x → slice_get list j ≡ Some y → number_behind times (take i list) x < number_behind times (take j list) y)
      → InOneOrder (record_of plan acts)
  in_one_order between = record {
    journals = λ o. subst (λ (l : List ObjectEntry). TimesRise l) (sym (journal_is plan (account_of plan acts) (keeps plan acts all).within o)) (ordered.journals o);
    entry_times = ordered.entry_times;
    times = ordered.times;
    history = record {
      entries = ordered.history.entries;
      rise = ordered.history.rise;
      all = λ w. ordered.history.all w ∙ sym (ap (λ (l : List Item). length l) (calls_are w));
      among = λ w j time x at is. ordered.history.among w j time x (call_at w j x at) is;
    };
    lists = λ w i j x y before at_x at_y. between 0 (list_of (record_of plan acts) w) (ordered.times w) i j x y
        (subst (λ (l : List Made). NumbersRise 0 l (ordered.times w)) (sym (list_here w)) (numbers_rise 0 (made_by w (account_of plan acts).acts) (ordered.times w) (length (account_of plan acts).acts) (ordered.lists w))) before at_x at_y;
  } where
    ordered : IsOrdered (account_of plan acts)
    ordered = (keeps plan acts all).ordered
