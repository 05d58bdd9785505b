-- From what each worker did, the objects' journals and the shared history to the record of the run.
use Rattle.std.proofs.Common.{◌≡◌, ℕ, suc, ◌+◌, ◌<◌, ◌≤◌, List, [], ◌∷◌, ◌++◌, length, get_or, take, map, Some, None, ◌⊎◌, inl, inr, slice_get, slice_index, All, refl, sym, ap, ◌∙◌, subst, arith}
use Rattle.std.specs.Prelude.{Contains}
use Rattle.std.proofs.lemmas.List.{length-append}
use Rattle.std.proofs.lemmas.Option.{slice_get_cases, slice_get-get_or, none-some}
use Rattle.script_calls.specs.declared.call.Reply.{Reply}
use Rattle.sync_model.specs.declared.item.Item.{Item}
use Rattle.sync_model.specs.declared.item.SharedEntry.{SharedEntry}
use Rattle.script_calls.specs.declared.outcome.Outcome.{Outcome}
use Rattle.sync_model.specs.Front.{AtLeast}
use Rattle.sync_model.specs.Journal.{by}
use Rattle.script_calls.specs.Outcome.{left_by}
use Rattle.sync_model.specs.SharedCalls.{Lawful}
use Rattle.sync_model.specs.SharedHistory.{Contents}
use Rattle.sync_model.specs.SharedOrder.{InOrder}
use Rattle.workload.specs.Plan.{Plan}
use Rattle.run_record.specs.declared.made.Made.{Made}
use Rattle.run_record.specs.declared.made.Made.TheVariants.{Shared, Entered}
use Rattle.run_record.specs.Explains.{AreLines, IsRecordOf, HasEnded}
use Rattle.run_record.specs.InOneOrder.{InOneOrder, NumbersRise, number_behind}
use Rattle.run_record.specs.Lines.{Line, items_of, replies_of, HaltsStop, HaltsEach, halted_by}
use Rattle.run_record.specs.Objects.{contents_of}
use Rattle.run_record.specs.Record.{Record, ObjectEntry, stop, journal_of, list_of, shared_in, entries_in, calls_of, front_of}
use Rattle.thread_objects.specs.Working.{Desk, Moves}
use Rattle.thread_runner.specs.DidLines.{DidLine, IsFresh}
use Rattle.thread_objects.specs.Rows.{AreJournals}
use Rattle.thread_runner.proofs.ItemLists.{mapped_at, mapped_past, mapped_is}

-- what a worker knows, along what it made
pub record Knowing : Type 0 where
  pub own : (old new : Desk) (items : List Made) (worker i : ℕ) (made : Made) → Moves old items new → old.worker ≡ Some worker → slice_get items i ≡ Some made → slice_index (front_of made) worker ≡ length old.calls + length (shared_in (take i items))
  pub rises : (old new : Desk) (items : List Made) (i j : ℕ) (earlier later : Made) → Moves old items new → i < j → slice_get items i ≡ Some earlier → slice_get items j ≡ Some later → AtLeast (front_of later) (front_of earlier)
  pub ends : (old new : Desk) (items : List Made) (i : ℕ) (made : Made) → Moves old items new → slice_get items i ≡ Some made → AtLeast new.front.counts (front_of made)
  pub times : (old new : Desk) (items : List Made) → (moves : Moves old items new) → NumbersRise 0 items moves.numbers
  pub rise : (least : ℕ) (list : List Made) (times : List ℕ) (i j : ℕ) (x y : Made) → NumbersRise least list times → i < j → slice_get list i ≡ Some x → slice_get list j ≡ Some y → number_behind times (take i list) x < number_behind times (take j list) y

-- a legal history's law depends on the callers' lists alone
abbrev pub SameLists : Type 0
SameLists = (start : Contents) (history : List SharedEntry) (calls other : ℕ → List Item) → ((c : ℕ) → other c ≡ calls c) → Lawful start history calls → Lawful start history other

-- all that is known when each worker has ended
pub record AllDone (plan : Plan) (history : List SharedEntry) (journals : List (List ObjectEntry)) (calls : ℕ → List Item) (entry_times : List ℕ) (times : ℕ → List ℕ) (replies : List (List (Reply ℕ))) (start desk : ℕ → Desk) (lines : List Line) : Type 0 where
  pub did : (worker : ℕ) (line : Line) → slice_get lines worker ≡ Some line → DidLine plan worker (get_or plan.scripts worker []) (get_or replies worker []) (start worker) (desk worker) line
  pub fresh : (worker : ℕ) → worker < length lines → IsFresh worker (start worker)
  pub scripts : length lines ≡ length plan.scripts
  pub answered : length lines ≡ length replies
  pub objects : AreJournals plan journals
  pub own : (worker object : ℕ) → worker < length lines → (desk worker).owns object ≡ by worker (get_or journals object [])
  pub beyond : (worker object : ℕ) → length lines ≤ worker → by worker (get_or journals object []) ≡ []
  pub called : (worker : ℕ) → worker < length lines → (desk worker).calls ≡ calls worker
  pub uncalled : (worker : ℕ) → length lines ≤ worker → calls worker ≡ []
  pub numbered : (worker : ℕ) → worker < length lines → (desk worker).times ≡ times worker
  pub unnumbered : (worker : ℕ) → length lines ≤ worker → times worker ≡ []
  pub lawful : Lawful (contents_of plan) history calls
  pub order : InOrder history calls entry_times times
  pub known : (worker other : ℕ) → worker < length lines → slice_index (desk worker).front.counts other ≤ length (calls other)

-- there are as many numbers as calls on maps and atomics
as_long : (least : ℕ) (list : List Made) (times : List ℕ) → NumbersRise least list times → length times ≡ length (shared_in list)
as_long least [] [] rise = refl
as_long least [] (time ∷ times) rise = absurd rise
as_long least (Shared x ∷ list) [] rise = absurd rise
as_long least (Shared x ∷ list) (time ∷ times) rise = ap (λ (n : ℕ). suc n) (as_long (time + 1) list times rise.1)
as_long least (Entered object entry ∷ list) times rise = as_long (entry.time + 1) list times rise.1

no_others : (earlier numbers all : List ℕ) → all ≡ earlier ++ numbers → length all ≡ length numbers → all ≡ numbers
no_others [] numbers all is long = is
no_others (time ∷ earlier) numbers all is long = absurd (omega (arith, ap (λ (l : List ℕ). length l) is, length-append (time ∷ earlier) numbers, long))

module _ (plan : Plan) (history : List SharedEntry) (journals : List (List ObjectEntry)) (calls : ℕ → List Item) (entry_times : List ℕ) (times : ℕ → List ℕ) (replies : List (List (Reply ℕ))) (start desk : ℕ → Desk) (lines : List Line) (all : AllDone plan history journals calls entry_times times replies start desk lines) (knowing : Knowing) where
  abbrev pub joined : Record
  joined = record { history = history; journals = journals; lists = map items_of lines }

  list_at : (worker : ℕ) (line : Line) → slice_get lines worker ≡ Some line → list_of joined worker ≡ items_of line
  list_at worker line at = mapped_at items_of lines worker line at

  list_past : (worker : ℕ) → length lines ≤ worker → list_of joined worker ≡ []
  list_past worker past = mapped_past items_of lines worker past

  -- each worker is one with a line, or has no number of a worker
  abbrev Cases : ℕ → Type 0
  Cases worker = ((line : Line) × (worker < length lines) × (slice_get lines worker ≡ Some line)) ⊎ (length lines ≤ worker)

  case : (worker : ℕ) → Cases worker
  case worker = found (slice_get_cases lines worker).1 where
    found : ((line : Line) × (worker < length lines) × (slice_get lines worker ≡ Some line) × (get_or lines worker line ≡ line)) ⊎ ((length lines ≤ worker) × (slice_get lines worker ≡ None)) → Cases worker
    found (inl (line, within, at, same)) = inl (line, within, at)
    found (inr (past, none)) = inr past

  once : (worker object : ℕ) → entries_in object (list_of joined worker) ≡ by worker (journal_of joined object)
  once worker object = by_case (case worker) where
    by_case : Cases worker → entries_in object (list_of joined worker) ≡ by worker (journal_of joined object)
    by_case (inl (line, within, at)) =
        let did = all.did worker line at in
        ap (λ (l : List Made). entries_in object l) (list_at worker line at)
        ∙ sym (did.moves.owns object ∙ ap (λ (l : List ObjectEntry). l ++ entries_in object (items_of line)) ((all.fresh worker within).owns object))
        ∙ all.own worker object within
    by_case (inr past) = ap (λ (l : List Made). entries_in object l) (list_past worker past) ∙ sym (all.beyond worker object past)

  called_at : (worker : ℕ) (line : Line) → worker < length lines → slice_get lines worker ≡ Some line → shared_in (items_of line) ≡ calls worker
  called_at worker line within at =
      let did = all.did worker line at in
      sym (did.moves.calls ∙ ap (λ (l : List Item). l ++ shared_in (items_of line)) (all.fresh worker within).calls) ∙ all.called worker within

  pub joined_calls : (worker : ℕ) → calls_of joined worker ≡ calls worker
  joined_calls worker = by_case (case worker) where
    by_case : Cases worker → calls_of joined worker ≡ calls worker
    by_case (inl (line, within, at)) = ap (λ (l : List Made). shared_in l) (list_at worker line at) ∙ called_at worker line within at
    by_case (inr past) = ap (λ (l : List Made). shared_in l) (list_past worker past) ∙ sym (all.uncalled worker past)

  nothing_past : (worker i : ℕ) (x : Made) → length lines ≤ worker → slice_get (list_of joined worker) i ≡ Some x → ⊥
  nothing_past worker i x past at = none-some x (sym (ap (λ (l : List Made). slice_get l i) (list_past worker past)) ∙ at)

  within_line : (worker i : ℕ) (x : Made) (line : Line) → slice_get lines worker ≡ Some line → slice_get (list_of joined worker) i ≡ Some x → slice_get (items_of line) i ≡ Some x
  within_line worker i x line at_line at = sym (ap (λ (l : List Made). slice_get l i) (list_at worker line at_line)) ∙ at

  rises : (worker i j : ℕ) (x y : Made) → i < j → slice_get (list_of joined worker) i ≡ Some x → slice_get (list_of joined worker) j ≡ Some y → AtLeast (front_of y) (front_of x)
  rises worker i j x y before at_x at_y = by_case (case worker) where
    by_case : Cases worker → AtLeast (front_of y) (front_of x)
    by_case (inl (line, within, at)) =
        let did = all.did worker line at in
        knowing.rises (start worker) (desk worker) (items_of line) i j x y did.moves before (within_line worker i x line at at_x) (within_line worker j y line at at_y)
    by_case (inr past) = absurd (nothing_past worker i x past at_x)

  own : (worker i : ℕ) (x : Made) → slice_get (list_of joined worker) i ≡ Some x → slice_index (front_of x) worker ≡ length (shared_in (take i (list_of joined worker)))
  own worker i x at = by_case (case worker) where
    by_case : Cases worker → slice_index (front_of x) worker ≡ length (shared_in (take i (list_of joined worker)))
    by_case (inl (line, within, at_line)) =
        let did = all.did worker line at_line in
        let fresh = all.fresh worker within in
        let count = knowing.own (start worker) (desk worker) (items_of line) worker i x did.moves fresh.number (within_line worker i x line at_line at) in
        let none : length (start worker).calls ≡ 0 = ap (λ (l : List Item). length l) fresh.calls in
        let first : slice_index (front_of x) worker ≡ length (shared_in (take i (items_of line))) = omega (arith, count, none) in
        first ∙ ap (λ (l : List Made). length (shared_in (take i l))) (sym (list_at worker line at_line))
    by_case (inr past) = absurd (nothing_past worker i x past at)

  made : (worker i other : ℕ) (x : Made) → slice_get (list_of joined worker) i ≡ Some x → slice_index (front_of x) other ≤ length (calls_of joined other)
  made worker i other x at = by_case (case worker) where
    by_case : Cases worker → slice_index (front_of x) other ≤ length (calls_of joined other)
    by_case (inl (line, within, at_line)) =
        let did = all.did worker line at_line in
        let least = knowing.ends (start worker) (desk worker) (items_of line) i x did.moves (within_line worker i x line at_line at) other in
        let known = all.known worker other within in
        subst (λ (l : List Item). slice_index (front_of x) other ≤ length l) (sym (joined_calls other)) (omega (arith, least, known))
    by_case (inr past) = absurd (nothing_past worker i x past at)

  -- the numbers of a worker's calls are those of its items: there are no more, since it has made no other call
  numbered_at : (worker : ℕ) (line : Line) (within : worker < length lines) (at : slice_get lines worker ≡ Some line) → (all.did worker line at).moves.numbers ≡ times worker
  numbered_at worker line within at =
      let moves = (all.did worker line at).moves in
      let long = as_long 0 (items_of line) moves.numbers (knowing.times (start worker) (desk worker) (items_of line) moves) in
      let many = ap (λ (l : List Item). length l) (called_at worker line within at) in
      sym (no_others (start worker).times moves.numbers (times worker) (sym (all.numbered worker within) ∙ moves.times) (omega (arith, long, many, all.order.all worker)))

  times_rise : (worker : ℕ) → NumbersRise 0 (list_of joined worker) (times worker)
  times_rise worker = by_case (case worker) where
    by_case : Cases worker → NumbersRise 0 (list_of joined worker) (times worker)
    by_case (inl (line, within, at)) =
        let did = all.did worker line at in
        subst (λ (l : List Made). NumbersRise 0 l (times worker)) (sym (list_at worker line at))
        (subst (λ (l : List ℕ). NumbersRise 0 (items_of line) l) (numbered_at worker line within at) (knowing.times (start worker) (desk worker) (items_of line) did.moves))
    by_case (inr past) = subst (λ (l : List Made). NumbersRise 0 l (times worker)) (sym (list_past worker past)) (subst (λ (l : List ℕ). NumbersRise 0 [] l) (sym (all.unnumbered worker past)) tt)

  -- all its events stand in one order
  pub in_one_order : InOneOrder joined
  in_one_order = record {
    journals = all.objects.times;
    entry_times = entry_times;
    times = times;
    history = record {
      entries = all.order.entries;
      rise = all.order.rise;
      all = λ worker. all.order.all worker ∙ sym (ap (λ (l : List Item). length l) (joined_calls worker));
      among = λ worker j time x at is. all.order.among worker j time x (ap (λ (l : List Item). slice_get l j) (sym (joined_calls worker)) ∙ at) is;
    };
    lists = λ worker i j x y before at_x at_y. knowing.rise 0 (list_of joined worker) (times worker) i j x y (times_rise worker) before at_x at_y;
  }

  -- it is a record of the workload's objects
  pub is_record : SameLists → IsRecordOf plan joined
  is_record same = record {
    shared = same (contents_of plan) history calls (calls_of joined) joined_calls all.lawful;
    objects = all.objects.count;
    stops = all.objects.stops;
    journals = all.objects.each;
    parts = all.objects.parts;
    starts = all.objects.starts;
    once = once;
    fronts = record { rises = rises; own = own; made = made };
  }

  -- and the lines are those of its lists
  pub are_lines : (outcome : Outcome) → (left_by outcome).replies ≡ replies → AreLines plan joined outcome lines
  are_lines outcome is = record {
    count = all.scripts;
    runs = λ worker line at. (all.did worker line at).calls;
    lists = refl;
    replies = mapped_is replies_of lines replies all.answered (λ worker line at. (all.did worker line at).answers) ∙ sym is;
    each = λ worker line at. (all.did worker line at).is;
  }

  pub have_ended : All (λ line. HasEnded line.ending) lines
  have_ended worker d within = (all.did worker (get_or lines worker d) (slice_get-get_or lines worker d within)).ended

  pub halt_each : (worker : ℕ) (line : Line) → slice_get lines worker ≡ Some line → HaltsEach plan line
  halt_each worker line at = (all.did worker line at).halts

  -- Stop is the first
  pub halt_stop : (worker : ℕ) (line : Line) → slice_get lines worker ≡ Some line → HaltsStop line
  halt_stop worker line at misuse is = subst (λ (numbers : List ℕ). Contains numbers stop) (sym (halt_each worker line at ∙ ap (halted_by plan) is)) (0, omega arith, refl)
