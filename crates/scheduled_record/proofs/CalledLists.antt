-- Of which call each item of a worker's list is told to be, by the items of the run's trace.
use Rattle.std.proofs.Common.{◌≡◌, ◌≢◌, ℕ, ◌+◌, ◌==◌, ◌&&◌, not, Bool, true, false, cond, List, [], ◌∷◌, ◌++◌, map, fold, length, replicate, Option, None, inl, inr, refl, sym, ap, ◌∙◌, subst, append-nil, append_assoc, arith}
use Rattle.std.proofs.lemmas.Bool.{eq-eqb, ne_eqb}
use Rattle.std.proofs.lemmas.Bool.Decides.{eqb_tells}
use Rattle.std.proofs.lemmas.List.{map-append}
use Rattle.std.proofs.lemmas.List.Sums.{fold-append}
use Rattle.std.proofs.lemmas.List.Elements.{filter-append}
use Rattle.workload.specs.Plan.{Plan, is_dormant}
use Rattle.run_record.specs.declared.made.Made.{Made}
use Rattle.run_record.specs.Record.{shared_in}
use Rattle.kept_record.specs.Keeping.{Act, made_by}
use Rattle.step_runner.specs.declared.trace.TraceItem.{TraceItem}
use Rattle.step_runner.specs.declared.turns.item.Item.{Item}
use Rattle.step_runner.specs.Recorded.{recorded_item, recorded}
use Rattle.step_runner.specs.Spelt.{by_worker, has_made}
use Rattle.scheduled_record.specs.RunActs.{acts_by, waits_still, going_acts, with_item, acts_of, closing_acts}
use Rattle.scheduled_record.specs.ToldItems.{ToldAct, acts_in, told_as, with_told_item, with_told_turn, told_turns, told_run, told_by}
use Rattle.scheduled_record.proofs.Adding.{item_acts}
use Rattle.scheduled_record.proofs.CalledItems.{Called, called, called_in, called_by, by-append}
use Rattle.scheduled_record.proofs.Lists.{own_acts, other_acts, count-append}
use Rattle.scheduled_record.proofs.RunLists.{goes, before_by, before, no_calls, run_lists, waits_then}

-- ---- places of calls

-- of which calls a worker's acts are told to be
abbrev pub calls_by : ℕ → List ToldAct → List (Option ℕ)
calls_by worker told = map (λ (t : ToldAct). t.index) (told_by worker told)

pub calls-append : (worker : ℕ) (told more : List ToldAct) → calls_by worker (told ++ more) ≡ calls_by worker told ++ calls_by worker more
calls-append worker told more = ap (map (λ (t : ToldAct). t.index)) (filter-append (λ (t : ToldAct). t.act.worker == worker) told more) ∙ map-append (λ (t : ToldAct). t.index) (told_by worker told) (told_by worker more)

pub calls_as : (worker : ℕ) (index : Option ℕ) (acts : List Act) → calls_by worker (told_as index acts) ≡ replicate (length (made_by worker acts)) index
calls_as worker index [] = refl
calls_as worker index (act ∷ acts) = chosen (act.worker == worker) (calls_as worker index acts) where
  chosen : (b : Bool) → calls_by worker (told_as index acts) ≡ replicate (length (made_by worker acts)) index
      → map (λ (t : ToldAct). t.index) (cond b (record { index = index; act = act } ∷ told_by worker (told_as index acts)) (told_by worker (told_as index acts))) ≡ replicate (length (cond b (act.made ∷ made_by worker acts) (made_by worker acts))) index
  chosen true rest = ap (λ (l : List (Option ℕ)). index ∷ l) rest
  chosen false rest = rest

abbrev pub items_in : List Called → List Item
items_in items = map (λ (one : Called). one.1) items

pub by_items : (worker : ℕ) (items : List Called) → by_worker worker (items_in items) ≡ items_in (called_by worker items)
by_items worker [] = refl
by_items worker (one ∷ items) = chosen (one.1.caller == worker) (by_items worker items) where
  chosen : (b : Bool) → by_worker worker (items_in items) ≡ items_in (called_by worker items) → cond b (one.1 ∷ by_worker worker (items_in items)) (by_worker worker (items_in items)) ≡ items_in (cond b (one ∷ called_by worker items) (called_by worker items))
  chosen true rest = ap (λ (l : List Item). one.1 ∷ l) rest
  chosen false rest = rest

module _ (plan : Plan) where
  -- of which calls the items of one worker are in a record, who has made so many calls on maps and atomics before
  abbrev pub recorded_calls : ℕ → List Called → List (Option ℕ)
  recorded_calls before [] = []
  recorded_calls before (one ∷ items) = replicate (length (recorded_item plan before one.1)) one.0 ++ recorded_calls (before + length (shared_in (recorded_item plan before one.1))) items

  calls-last : (before : ℕ) (items : List Called) (one : Called)
      → recorded_calls before (items ++ one ∷ []) ≡ recorded_calls before items ++ replicate (length (recorded_item plan (before + length (shared_in (recorded plan before (items_in items)))) one.1)) one.0
  calls-last before [] one = let same : before ≡ before + 0 = omega arith in append-nil (replicate (length (recorded_item plan before one.1)) one.0) ∙ ap (λ (n : ℕ). replicate (length (recorded_item plan n one.1)) one.0) same
  calls-last before (first ∷ items) one =
      let head = recorded_item plan before first.1 in
      let next = before + length (shared_in head) in
      let rest = recorded plan next (items_in items) in
      let count : next + length (shared_in rest) ≡ before + length (shared_in (head ++ rest)) = omega (arith, count-append head rest) in
      ap (λ (l : List (Option ℕ)). replicate (length head) first.0 ++ l) (calls-last next items one ∙ ap (λ (n : ℕ). recorded_calls next items ++ replicate (length (recorded_item plan n one.1)) one.0) count)
      ∙ sym (append_assoc (replicate (length head) first.0) (recorded_calls next items) (replicate (length (recorded_item plan (before + length (shared_in (head ++ rest))) one.1)) one.0))

  -- of which calls a worker's acts are so far: what stands before its script is of none
  abbrev pub calls_so_far : List Called → ℕ → List (Option ℕ)
  calls_so_far items w = replicate (length (before plan (items_in items) w)) None ++ recorded_calls 0 (called_by w items)

  -- one item more of the worker
  one_more : (w : ℕ) (dormant : Bool) (items : List Called) (one : Called)
      → (replicate (length (before_by plan w dormant (has_made (items_in items)))) None ++ recorded_calls 0 items)
      ++ (replicate (length (cond (dormant && not (has_made (items_in items))) (goes plan w) [])) None ++ replicate (length (recorded_item plan (length (shared_in (recorded plan 0 (items_in items)))) one.1)) one.0)
      ≡ replicate (length (before_by plan w dormant true)) None ++ recorded_calls 0 (items ++ one ∷ [])
  one_more w false items one = let first : length (shared_in (recorded plan 0 (items_in items))) ≡ 0 + length (shared_in (recorded plan 0 (items_in items))) = omega arith in
      ap (λ (n : ℕ). recorded_calls 0 items ++ replicate (length (recorded_item plan n one.1)) one.0) first ∙ sym (calls-last 0 items one)
  one_more w true [] one = ap (λ (l : List (Option ℕ)). replicate (length (goes plan w)) None ++ l) (sym (append-nil (replicate (length (recorded_item plan 0 one.1)) one.0)))
  one_more w true (item ∷ items) one = let first : length (shared_in (recorded plan 0 (items_in (item ∷ items)))) ≡ 0 + length (shared_in (recorded plan 0 (items_in (item ∷ items)))) = omega arith in
      append_assoc (replicate (length (goes plan w)) None) (recorded_calls 0 (item ∷ items)) (replicate (length (recorded_item plan (length (shared_in (recorded plan 0 (items_in (item ∷ items))))) one.1)) one.0)
      ∙ ap (λ (l : List (Option ℕ)). replicate (length (goes plan w)) None ++ l) (ap (λ (n : ℕ). recorded_calls 0 (item ∷ items) ++ replicate (length (recorded_item plan n one.1)) one.0) first ∙ sym (calls-last 0 (item ∷ items) one))

  has_last : (items : List Called) (one : Called) → has_made (items_in (items ++ one ∷ [])) ≡ true
  has_last [] one = refl
  has_last (first ∷ items) one = refl

  -- the acts are those of the items, each of its call
  record AreSoFar (told : List ToldAct) (items : List Called) : Type 0 where
    acts : acts_in told ≡ acts_of plan (items_in items)
    calls : (w : ℕ) → calls_by w told ≡ calls_so_far items w

  module _ (told : List ToldAct) (items : List Called) (index : Option ℕ) (item : Item) (now : AreSoFar told items) where
    abbrev c : ℕ
    c = item.caller

    abbrev one : Called
    one = (index, item)

    abbrev count : ℕ
    count = length (shared_in (made_by c (acts_in told)))

    abbrev does : List Act
    does = acts_by c (recorded_item plan count item)

    more_acts : acts_in (with_told_item plan index told item) ≡ acts_of plan (items_in (items ++ one ∷ []))
    more_acts =
        item_acts plan index told item ∙ (ap (λ (acts : List Act). with_item plan acts item) now.acts
        ∙ sym (ap (acts_of plan) (map-append (λ (one : Called). one.1) items (one ∷ [])) ∙ fold-append (with_item plan) [] (items_in items) (item ∷ [])))

    more_calls : (w : ℕ) → calls_by w (with_told_item plan index told item)
        ≡ calls_so_far items w ++ (replicate (length (made_by w (going_acts plan (acts_in told) c))) None ++ replicate (length (made_by w does)) index)
    more_calls w =
        let going = going_acts plan (acts_in told) c in
        calls-append w told (told_as None going ++ told_as index does) ∙ (ap (λ (l : List (Option ℕ)). l ++ calls_by w (told_as None going ++ told_as index does)) (now.calls w)
        ∙ ap (λ (l : List (Option ℕ)). calls_so_far items w ++ l) (calls-append w (told_as None going) (told_as index does) ∙ (λ i. calls_as w None going i ++ calls_as w index does i)))

    -- by the items of the worker
    calls_with : (w : ℕ) (own : List Called) → called_by w (items ++ one ∷ []) ≡ own → calls_so_far (items ++ one ∷ []) w ≡ replicate (length (before_by plan w (is_dormant plan w) (has_made (items_in own)))) None ++ recorded_calls 0 own
    calls_with w own is =
        ap (λ (l : List Item). replicate (length (before_by plan w (is_dormant plan w) (has_made l))) None ++ recorded_calls 0 (called_by w (items ++ one ∷ []))) (by_items w (items ++ one ∷ []))
        ∙ ap (λ (l : List Called). replicate (length (before_by plan w (is_dormant plan w) (has_made (items_in l)))) None ++ recorded_calls 0 l) is

    others : (w : ℕ) → c ≢ w → calls_by w (with_told_item plan index told item) ≡ calls_so_far (items ++ one ∷ []) w
    others w apart =
        more_calls w ∙ (ap (λ (l : List Made). calls_so_far items w ++ (replicate (length l) None ++ replicate (length (made_by w does)) index)) (other_acts c w _ apart)
        ∙ (ap (λ (l : List Made). calls_so_far items w ++ replicate (length l) index) (other_acts c w (recorded_item plan count item) apart)
        ∙ (append-nil (calls_so_far items w)
        ∙ (ap (λ (l : List Item). replicate (length (before_by plan w (is_dormant plan w) (has_made l))) None ++ recorded_calls 0 (called_by w items)) (by_items w items) ∙ sym (calls_with w (called_by w items) none)))))
      where
        none : called_by w (items ++ one ∷ []) ≡ called_by w items
        none = by-append w items (one ∷ []) ∙ (ap (λ (b : Bool). called_by w items ++ cond b (one ∷ []) []) (ne_eqb c w apart) ∙ append-nil (called_by w items))

    own : calls_by c (with_told_item plan index told item) ≡ calls_so_far (items ++ one ∷ []) c
    own =
        more_calls c
        ∙ (ap (λ (l : List Made). calls_so_far items c ++ (replicate (length l) None ++ replicate (length (made_by c does)) index)) (own_acts c (cond (waits_still plan (acts_in told) c) (goes plan c) []))
        ∙ (ap (λ (l : List Made). calls_so_far items c ++ (replicate (length (cond (waits_still plan (acts_in told) c) (goes plan c) [])) None ++ replicate (length l) index)) (own_acts c (recorded_item plan count item))
        ∙ (ap (λ (b : Bool). calls_so_far items c ++ (replicate (length (cond b (goes plan c) [])) None ++ replicate (length (recorded_item plan count item)) index)) waits
        ∙ (ap (λ (n : ℕ). calls_so_far items c ++ (replicate (length (cond (is_dormant plan c && not (has_made (by_worker c (items_in items)))) (goes plan c) [])) None ++ replicate (length (recorded_item plan n item)) index)) counts
        ∙ (ap (λ (l : List Item). (replicate (length (before_by plan c (is_dormant plan c) (has_made l))) None ++ recorded_calls 0 (called_by c items))
        ++ (replicate (length (cond (is_dormant plan c && not (has_made l)) (goes plan c) [])) None ++ replicate (length (recorded_item plan (length (shared_in (recorded plan 0 l))) item)) index)) (by_items c items)
        ∙ (one_more c (is_dormant plan c) (called_by c items) one
        ∙ (ap (λ (b : Bool). replicate (length (before_by plan c (is_dormant plan c) b)) None ++ recorded_calls 0 (called_by c items ++ one ∷ [])) (sym (has_last (called_by c items) one))
        ∙ sym (calls_with c (called_by c items ++ one ∷ []) mine))))))))
      where
        mine : called_by c (items ++ one ∷ []) ≡ called_by c items ++ one ∷ []
        mine = by-append c items (one ∷ []) ∙ ap (λ (b : Bool). called_by c items ++ cond b (one ∷ []) []) (eq-eqb c c refl)

        waits : waits_still plan (acts_in told) c ≡ (is_dormant plan c && not (has_made (by_worker c (items_in items))))
        waits = ap (λ (acts : List Act). waits_still plan acts c) now.acts ∙ waits_then plan c (items_in items)

        counts : count ≡ length (shared_in (recorded plan 0 (by_worker c (items_in items))))
        counts = ap (λ (acts : List Act). length (shared_in (made_by c acts))) now.acts ∙ (ap (λ (l : List Made). length (shared_in l)) (run_lists plan (items_in items) c)
            ∙ ap length (no_calls plan c (is_dormant plan c) (has_made (by_worker c (items_in items))) (recorded plan 0 (by_worker c (items_in items)))))

    one_told : AreSoFar (with_told_item plan index told item) (items ++ one ∷ [])
    one_told = record {
      acts = more_acts;
      calls = λ w. elim (eqb_tells c w) [
        | inl same ↦ subst (λ (n : ℕ). calls_by n (with_told_item plan index told item) ≡ calls_so_far (items ++ one ∷ []) n) same.1 own
        | inr apart ↦ others w apart.1
      ];
    }

  -- ---- all items

  abbrev with_called : List ToldAct → Called → List ToldAct
  with_called told one = with_told_item plan one.0 told one.1

  each_told : (told : List ToldAct) (items more : List Called) → AreSoFar told items → AreSoFar (fold with_called told more) (items ++ more)
  each_told told items [] now = subst (λ (l : List Called). AreSoFar told l) (sym (append-nil items)) now
  each_told told items (one ∷ more) now =
      subst (λ (l : List Called). AreSoFar (fold with_called (with_called told one) more) l) (append_assoc items (one ∷ []) more) (each_told (with_called told one) (items ++ one ∷ []) more (one_told told items one.0 one.1 now))

  none_told : AreSoFar [] []
  none_told = record { acts = refl; calls = λ w. chosen w (is_dormant plan w) } where
    chosen : (w : ℕ) (b : Bool) → calls_by w [] ≡ replicate (length (before_by plan w b false)) None ++ []
    chosen w true = refl
    chosen w false = refl

  turn_fold : (index : Option ℕ) (told : List ToldAct) (items : List Item) → fold (with_told_item plan index) told items ≡ fold with_called told (called index items)
  turn_fold index told [] = refl
  turn_fold index told (item ∷ items) = turn_fold index (with_told_item plan index told item) items

  trace_fold : (told : List ToldAct) (trace : List TraceItem) → fold (with_told_turn plan) told trace ≡ fold with_called told (called_in trace)
  trace_fold told [] = refl
  trace_fold told (turn ∷ trace) =
      trace_fold (with_told_turn plan told turn) trace
      ∙ (ap (λ (l : List ToldAct). fold with_called l (called_in trace)) (turn_fold turn.index told turn.made) ∙ sym (fold-append with_called told (called turn.index turn.made) (called_in trace)))

  turns_told : (trace : List TraceItem) → AreSoFar (told_turns plan trace) (called_in trace)
  turns_told trace = subst (λ (l : List ToldAct). AreSoFar l (called_in trace)) (sym (trace_fold [] trace)) (each_told [] [] (called_in trace) none_told)

  -- with what stands behind the scripts, which is of no call
  pub run_calls : (trace : List TraceItem) (w : ℕ)
      → calls_by w (told_run plan trace) ≡ calls_so_far (called_in trace) w ++ replicate (length (made_by w (closing_acts plan (acts_of plan (items_in (called_in trace)))))) None
  run_calls trace w =
      let now = turns_told trace in
      let told = told_turns plan trace in
      calls-append w told (told_as None (closing_acts plan (acts_in told)))
      ∙ ((λ i. now.calls w i ++ calls_as w None (closing_acts plan (acts_in told)) i) ∙ ap (λ (acts : List Act). calls_so_far (called_in trace) w ++ replicate (length (made_by w (closing_acts plan acts))) None) now.acts)
