-- What each worker makes in a run, with what stands before and behind it.
use Rattle.std.proofs.Common.{◌≡◌, ◌≢◌, ℕ, zero, suc, ◌+◌, ◌<◌, ◌==◌, ◌&&◌, not, Bool, true, false, cond, List, [], ◌∷◌, ◌++◌, length, fold, get_or, None, inl, inr, refl, sym, ap, ◌∙◌, subst, append-nil, append_assoc, arith}
use Rattle.std.specs.List.{list_any}
use Rattle.std.proofs.lemmas.Bool.{eq-eqb, ne_eqb}
use Rattle.std.proofs.lemmas.Bool.Decides.{eqb_tells}
use Rattle.std.proofs.lemmas.List.Elements.{filter-append}
use Rattle.starts_core.specs.declared.starts.StartEvent.TheVariants as starts
use Rattle.starts_core.specs.declared.starts.StartReply.TheVariants as told
use Rattle.sync_model.specs.declared.item.Item.{Item as SharedItem}
use Rattle.workload.specs.Plan.{Plan, is_dormant, has_dormant}
use Rattle.run_record.specs.declared.made.Made.{Made}
use Rattle.run_record.specs.Lines.{LineEnd}
use Rattle.run_record.specs.Record.{shared_in}
use Rattle.kept_record.specs.Keeping.{Act, made_by}
use Rattle.step_runner.specs.declared.turns.item.Item.{Item}
use Rattle.step_runner.specs.Recorded.{recorded_item, recorded}
use Rattle.step_runner.specs.Spelt.{by_worker, made_on_starts, list_of, has_made, came, ending_of}
use Rattle.scheduled_record.specs.RunActs.{acts_by, is_nothing, waits_still, going_acts, with_item, acts_of, ending_acts, leaving_acts, closing_acts, closed_acts}
use Rattle.scheduled_record.proofs.Lists.{made-append, own_acts, other_acts, recorded-last, some_make}

module _ (plan : Plan) where
  abbrev pub goes : ℕ → List Made
  goes w = made_on_starts plan w starts.Leave told.Go

  -- what stands before a worker's items, by whether it waits to be started and whether it has made any
  abbrev pub before_by : ℕ → Bool → Bool → List Made
  before_by w dormant some = cond dormant (cond some (goes w) []) []

  abbrev pub before : List Item → ℕ → List Made
  before items w = before_by w (is_dormant plan w) (has_made (by_worker w items))

  -- the worker's list so far
  abbrev pub list_so_far : List Item → ℕ → List Made
  list_so_far items w = before items w ++ recorded plan 0 (by_worker w items)

  pub no_calls : (w : ℕ) (dormant some : Bool) (rest : List Made) → shared_in (before_by w dormant some ++ rest) ≡ shared_in rest
  no_calls w true true rest = refl
  no_calls w true false rest = refl
  no_calls w false some rest = refl

  abbrev still_waits : Bool → List Made → Bool
  still_waits dormant made = dormant && is_nothing made

  -- whether it has made nothing yet, by its items
  waits_by : (w : ℕ) (dormant : Bool) (items : List Item) → still_waits dormant (before_by w dormant (has_made items) ++ recorded plan 0 items) ≡ (dormant && not (has_made items))
  waits_by w false items = refl
  waits_by w true [] = refl
  waits_by w true (item ∷ items) = refl

  -- one item more of the worker
  one_more : (w : ℕ) (dormant : Bool) (items : List Item) (item : Item)
      → (before_by w dormant (has_made items) ++ recorded plan 0 items) ++ (cond (dormant && not (has_made items)) (goes w) [] ++ recorded_item plan (length (shared_in (recorded plan 0 items))) item)
      ≡ before_by w dormant true ++ recorded plan 0 (items ++ item ∷ [])
  one_more w false items item = sym (recorded-last plan 0 items item ∙ ap (λ (n : ℕ). recorded plan 0 items ++ recorded_item plan n item) (first (length (shared_in (recorded plan 0 items))))) where
    first : (n : ℕ) → 0 + n ≡ n
    first n = omega arith
  one_more w true [] item = ap (λ (l : List Made). goes w ++ l) (sym (append-nil (recorded_item plan 0 item)))
  one_more w true (one ∷ items) item = append_assoc (goes w) (recorded plan 0 (one ∷ items)) (recorded_item plan (length (shared_in (recorded plan 0 (one ∷ items)))) item)
      ∙ ap (λ (l : List Made). goes w ++ l) (sym (recorded-last plan 0 (one ∷ items) item ∙ ap (λ (n : ℕ). recorded plan 0 (one ∷ items) ++ recorded_item plan n item) (first (length (shared_in (recorded plan 0 (one ∷ items))))))) where
        first : (n : ℕ) → 0 + n ≡ n
        first n = omega arith

  has_last : (items : List Item) (item : Item) → has_made (items ++ item ∷ []) ≡ true
  has_last [] item = refl
  has_last (one ∷ items) item = refl

  -- what stands so far, of each worker
  abbrev AreSoFar : List Act → List Item → Type 0
  AreSoFar acts items = (w : ℕ) → made_by w acts ≡ list_so_far items w

  module _ (acts : List Act) (items : List Item) (item : Item) (now : AreSoFar acts items) where
    abbrev more : List Made
    more = recorded_item plan (length (shared_in (made_by item.caller acts))) item

    others : (w : ℕ) → item.caller ≢ w → made_by w (with_item plan acts item) ≡ list_so_far (items ++ item ∷ []) w
    others w apart =
        made-append w acts (going_acts plan acts item.caller ++ acts_by item.caller more)
        ∙ (ap (λ (l : List Made). made_by w acts ++ l) (made-append w (going_acts plan acts item.caller) (acts_by item.caller more)
        ∙ (ap (λ (l : List Made). l ++ made_by w (acts_by item.caller more)) (other_acts item.caller w _ apart) ∙ other_acts item.caller w more apart))
        ∙ (append-nil (made_by w acts) ∙ (now w ∙ ap (λ (l : List Item). before_by w (is_dormant plan w) (has_made l) ++ recorded plan 0 l) (sym none))))
      where
        none : by_worker w (items ++ item ∷ []) ≡ by_worker w items
        none = filter-append (λ item. item.caller == w) items (item ∷ []) ∙ (ap (λ (b : Bool). by_worker w items ++ cond b (item ∷ []) []) (ne_eqb item.caller w apart) ∙ append-nil (by_worker w items))

    own : made_by item.caller (with_item plan acts item) ≡ list_so_far (items ++ item ∷ []) item.caller
    own =
        made-append w acts (going_acts plan acts w ++ acts_by w more)
        ∙ (ap (λ (l : List Made). made_by w acts ++ l) (made-append w (going_acts plan acts w) (acts_by w more)
        ∙ (ap (λ (l : List Made). l ++ made_by w (acts_by w more)) (own_acts w (cond (waits_still plan acts w) (goes w) [])) ∙ ap (λ (l : List Made). cond (waits_still plan acts w) (goes w) [] ++ l) (own_acts w more)))
        ∙ (ap (λ (l : List Made). l ++ (cond (is_dormant plan w && is_nothing l) (goes w) [] ++ recorded_item plan (length (shared_in l)) item)) (now w)
        ∙ (ap (λ (b : Bool). list_so_far items w ++ (cond b (goes w) [] ++ recorded_item plan (length (shared_in (list_so_far items w))) item)) (waits_by w (is_dormant plan w) (by_worker w items))
        ∙ (ap (λ (l : List SharedItem). list_so_far items w ++ (cond (is_dormant plan w && not (has_made (by_worker w items))) (goes w) [] ++ recorded_item plan (length l) item)) (no_calls w (is_dormant plan w) (has_made (by_worker w items)) (recorded plan 0 (by_worker w items)))
        ∙ (one_more w (is_dormant plan w) (by_worker w items) item
        ∙ (ap (λ (b : Bool). before_by w (is_dormant plan w) b ++ recorded plan 0 (by_worker w items ++ item ∷ [])) (sym (has_last (by_worker w items) item))
        ∙ ap (λ (l : List Item). before_by w (is_dormant plan w) (has_made l) ++ recorded plan 0 l) (sym mine)))))))
      where
        w : ℕ
        w = item.caller

        mine : by_worker item.caller (items ++ item ∷ []) ≡ by_worker item.caller items ++ item ∷ []
        mine = filter-append (λ one. one.caller == item.caller) items (item ∷ []) ∙ ap (λ (b : Bool). by_worker item.caller items ++ cond b (item ∷ []) []) (eq-eqb item.caller item.caller refl)

    one_item : AreSoFar (with_item plan acts item) (items ++ item ∷ [])
    one_item w = elim (eqb_tells item.caller w) [
      | inl same ↦ subst (λ (n : ℕ). made_by n (with_item plan acts item) ≡ list_so_far (items ++ item ∷ []) n) same.1 own
      | inr apart ↦ others w apart.1
    ]

  each_item : (acts : List Act) (done items : List Item) → AreSoFar acts done → AreSoFar (fold (with_item plan) acts items) (done ++ items)
  each_item acts done [] now = subst (λ (l : List Item). AreSoFar acts l) (sym (append-nil done)) now
  each_item acts done (item ∷ items) now = subst (λ (l : List Item). AreSoFar (fold (with_item plan) (with_item plan acts item) items) l) (append_assoc done (item ∷ []) items) (each_item (with_item plan acts item) (done ++ item ∷ []) items (one_item acts done item now))

  nothing_yet : AreSoFar [] []
  nothing_yet w = chosen (is_dormant plan w) where
    chosen : (b : Bool) → [] ≡ before_by w b false ++ []
    chosen true = refl
    chosen false = refl

  pub run_lists : (items : List Item) (w : ℕ) → made_by w (acts_of plan items) ≡ list_so_far items w
  run_lists items w = each_item [] [] items nothing_yet w

  -- ---- at the end of a run

  -- how the list of a worker ends where the run is done
  abbrev pub ending_at : List Item → ℕ → LineEnd
  ending_at items w = ending_of (came plan items w) true None None

  pub waits_then : (w : ℕ) (items : List Item) → waits_still plan (acts_of plan items) w ≡ (is_dormant plan w && not (has_made (by_worker w items)))
  waits_then w items = ap (λ (l : List Made). is_dormant plan w && is_nothing l) (run_lists items w) ∙ waits_by w (is_dormant plan w) (by_worker w items)

  abbrev pub ends : ℕ → List Made
  ends w = made_on_starts plan w starts.End told.Done

  abbrev pub leaves : ℕ → List Made
  leaves w = made_on_starts plan w starts.Leave told.Never

  -- where nobody waits to be started no worker does
  pub none_waits : (w : ℕ) → has_dormant plan ≡ false → is_dormant plan w ≡ false
  none_waits w none = each plan.dormant w none where
    each : (dormant : List Bool) (i : ℕ) → list_any (λ waits. waits) dormant ≡ false → get_or dormant i false ≡ false
    each [] i none = refl
    each (true ∷ dormant) i none = absurd (no none) where
      no : true ≡ false → ⊥
      no e = cc
    each (false ∷ dormant) zero none = refl
    each (false ∷ dormant) (suc i) none = each dormant i none

  -- the list as it ends, by whether any worker waits to be started, whether this one does, and its items
  abbrev list_ends : ℕ → Bool → Bool → List Item → List Made
  list_ends w all dormant items = cond (cond dormant (has_made items) true) (cond dormant (goes w) [] ++ (recorded plan 0 items ++ cond all (ends w) [])) (leaves w ++ (recorded plan 0 items ++ []))

  closes : (w : ℕ) (all dormant : Bool) (items : List Item) → (all ≡ false → dormant ≡ false)
      → (before_by w dormant (has_made items) ++ recorded plan 0 items) ++ cond all (cond (not (dormant && not (has_made items))) (ends w) [] ++ cond (dormant && not (has_made items)) (leaves w) []) []
      ≡ list_ends w all dormant items
  closes w true false items none = ap (λ (l : List Made). recorded plan 0 items ++ l) (append-nil (ends w))
  closes w true true [] none = refl
  closes w true true (item ∷ items) none = ap (λ (l : List Made). (goes w ++ recorded plan 0 (item ∷ items)) ++ l) (append-nil (ends w)) ∙ append_assoc (goes w) (recorded plan 0 (item ∷ items)) (ends w)
  closes w false false items none = refl
  closes w false true items none = absurd (no (sym (none refl))) where
    no : false ≡ true → ⊥
    no e = cc

  pub closing_of : (acts : List Act) (w : ℕ) → w < plan.workers → made_by w (closing_acts plan acts) ≡ cond (has_dormant plan) (cond (not (waits_still plan acts w)) (ends w) [] ++ cond (waits_still plan acts w) (leaves w) []) []
  closing_of acts w within = chosen (has_dormant plan) where
    chosen : (b : Bool) → made_by w (cond b (ending_acts plan acts ++ leaving_acts plan acts) []) ≡ cond b (cond (not (waits_still plan acts w)) (ends w) [] ++ cond (waits_still plan acts w) (leaves w) []) []
    chosen true = made-append w (ending_acts plan acts) (leaving_acts plan acts)
        ∙ (ap (λ (l : List Made). l ++ made_by w (leaving_acts plan acts)) (some_make ends (λ w. not (waits_still plan acts w)) w 0 plan.workers (omega arith) (omega arith))
        ∙ ap (λ (l : List Made). cond (not (waits_still plan acts w)) (ends w) [] ++ l) (some_make leaves (waits_still plan acts) w 0 plan.workers (omega arith) (omega arith)))
    chosen false = refl

  as_ends : (w : ℕ) (items : List Item) (come : Bool) → cond (cond (is_dormant plan w) come true) (cond (is_dormant plan w) (goes w) [] ++ (recorded plan 0 (by_worker w items) ++ cond (has_dormant plan) (ends w) [])) (leaves w ++ (recorded plan 0 (by_worker w items) ++ []))
      ≡ list_of plan items w (ending_of (cond (is_dormant plan w) come true) true None None)
  as_ends w items come = chosen (cond (is_dormant plan w) come true) where
    chosen : (b : Bool) → cond b (cond (is_dormant plan w) (goes w) [] ++ (recorded plan 0 (by_worker w items) ++ cond (has_dormant plan) (ends w) [])) (leaves w ++ (recorded plan 0 (by_worker w items) ++ [])) ≡ list_of plan items w (ending_of b true None None)
    chosen true = refl
    chosen false = refl

  pub closed_lists : (items : List Item) (w : ℕ) → w < plan.workers → made_by w (closed_acts plan (acts_of plan items)) ≡ list_of plan items w (ending_at items w)
  closed_lists items w within =
      made-append w (acts_of plan items) (closing_acts plan (acts_of plan items))
      ∙ (ap (λ (l : List Made). l ++ made_by w (closing_acts plan (acts_of plan items))) (run_lists items w)
      ∙ (ap (λ (l : List Made). list_so_far items w ++ l) (closing_of (acts_of plan items) w within)
      ∙ (ap (λ (b : Bool). list_so_far items w ++ cond (has_dormant plan) (cond (not b) (ends w) [] ++ cond b (leaves w) []) []) (waits_then w items)
      ∙ (closes w (has_dormant plan) (is_dormant plan w) (by_worker w items) (none_waits w) ∙ as_ends w items (has_made (by_worker w items))))))
