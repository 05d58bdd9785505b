-- What is added to a ledger, one piece behind the other.
use Rattle.std.proofs.Common.{◌≡◌, ℕ, zero, suc, ◌+◌, ◌<◌, ◌&&◌, Bool, true, false, not, cond, List, [], ◌∷◌, ◌++◌, map, filter, flat_map, fold, take, get_or, length, replicate, Option, Some, None, slice_get, refl, sym, ap, ◌∙◌, subst, append-nil, append_assoc, arith}
use Rattle.std.specs.List.{AllByRecursion, list_all, range_with_len}
use Rattle.std.proofs.lemmas.List.FromFn.{get_or-map-range_with_len, length-map-range_with_len}
use Rattle.std.proofs.lemmas.List.Elements.{filter-append}
use Rattle.std.proofs.lemmas.Grind.{flat_map-append}
use Rattle.std.specs.Option.{option_map_or}
use Rattle.std.proofs.lemmas.List.{map-append, get_or-map, length-replicate, get_or-replicate}
use Rattle.std.proofs.lemmas.List.Sums.{fold-append}
use Rattle.std.proofs.lemmas.Option.{none-some, same_Some, slice_get-get_or, slice_get_within, get_or_from_slice_get}
use Rattle.sync_model.specs.declared.item.SharedCall.TheVariants as calls
use Rattle.sync_model.specs.declared.item.SharedReply.TheVariants as answers
use Rattle.sync_model.specs.SharedHistory.{Contents}
use Rattle.workload.specs.Keys.{keys_in, key_number}
use Rattle.starts_core.specs.declared.starts.StartEvent.TheVariants as starts
use Rattle.starts_core.specs.declared.starts.StartReply.TheVariants as start_replies
use Rattle.workload.specs.Plan.{Plan, is_dormant, has_dormant}
use Rattle.run_record.specs.declared.made.Made.{Made}
use Rattle.run_record.specs.MapKind.{step_showing}
use Rattle.run_record.specs.Objects.{contents_of, object_count}
use Rattle.kept_record.specs.Acts.{contents_behind, AreAnswered}
use Rattle.run_record.specs.Record.{shared_in}
use Rattle.kept_record.specs.Keeping.{Act, made_by}
use Rattle.step_runner.specs.Recorded.{made_shared, recorded_deed, recorded_item}
use Rattle.step_runner.specs.Spelt.{made_on_starts}
use Rattle.step_runner.specs.Traces.{items_told}
use Rattle.step_runner.specs.declared.trace.TraceItem.{TraceItem}
use Rattle.step_runner.specs.declared.turns.item.Item.{Item}
use Rattle.scheduled_record.specs.declared.ledger.Ledger.{Ledger}
use Rattle.scheduled_record.specs.declared.ledger.JournalState.{JournalState}
use Rattle.scheduled_record.specs.declared.ledger.WorkerState.{WorkerState}
use Rattle.scheduled_record.specs.ItemsOf.{AreItemsOf}
use Rattle.scheduled_record.specs.Ledgers.{IsKept, IsLedgerOf, AreRight, Adds, adding, waits_in}
use Rattle.scheduled_record.specs.RunActs.{acts_by, going_acts, waits_still, ending_acts, leaving_acts, closing_acts, closed_acts, with_item, run_acts}
use Rattle.scheduled_record.specs.ToldItems.{ToldAct, acts_in, told_as, with_told_item, with_told_turn, told_turns, closed_told, told_run, is_in_64_bits}
use Rattle.scheduled_record.proofs.RunInRange.{some_dormant}

answered_first : (contents : Contents) (acts more : List Act) → AreAnswered contents (acts ++ more) → AreAnswered contents acts
answered_first contents [] more right = tt
answered_first contents (act ∷ acts) more right = (right.0, answered_first (contents_behind act.made contents) acts more right.1)

module _ (plan : Plan) where
  pub right_before : (told more : List ToldAct) → AreRight plan (told ++ more) → AreRight plan told
  right_before told more right = answered_first (contents_of plan) (acts_in told) (acts_in more) (subst (λ (acts : List Act). AreAnswered (contents_of plan) acts) (map-append (λ (t : ToldAct). t.act) told more) right)

  -- what is only lengthened
  abbrev pub Lengthens : (List ToldAct → List ToldAct) → Type 0
  Lengthens f = (told : List ToldAct) → (more : List ToldAct) × (f told ≡ told ++ more)

  pub both_lengthen : (f g : List ToldAct → List ToldAct) → Lengthens f → Lengthens g → Lengthens (λ told. g (f told))
  both_lengthen f g one other told =
      ((one told).0 ++ (other (f told)).0, (other (f told)).1 ∙ (ap (λ (l : List ToldAct). l ++ (other (f told)).0) (one told).1 ∙ append_assoc told (one told).0 (other (f told)).0))

  -- one piece, and then another
  pub then_adds : (f g : List ToldAct → List ToldAct) (old mid new : Ledger) → Lengthens g → Adds plan f old mid → Adds plan g mid new → Adds plan (λ told. g (f told)) old new
  then_adds f g old mid new longer first second = record {
    stays = λ of. second.stays (first.stays of);
    kept = λ told is right.
        second.kept (f told) (first.kept told is (right_before (f told) (longer (f told)).0 (subst (AreRight plan) (longer (f told)).1 right))) right;
  }

  pub adds_as : (f g : List ToldAct → List ToldAct) (old new : Ledger) → ((told : List ToldAct) → f told ≡ g told) → Adds plan f old new → Adds plan g old new
  adds_as f g old new same adds = record {
    stays = adds.stays;
    kept = λ told is right. subst (λ (t : List ToldAct). IsKept plan t new) (same told) (adds.kept told is (subst (AreRight plan) (sym (same told)) right));
  }

  -- nothing is added
  pub adds_none : (l : Ledger) → Adds plan (λ told. told) l l
  adds_none l = record { stays = λ of. of; kept = λ told is right. is }

  -- ---- of one worker and call

  module _ (index : Option ℕ) (worker : ℕ) where
    pub adding_more : (one other : List Made) (told : List ToldAct) → adding index worker other (adding index worker one told) ≡ adding index worker (one ++ other) told
    adding_more one other told =
        append_assoc told (told_as index (acts_by worker one)) (told_as index (acts_by worker other))
        ∙ ap (λ (l : List ToldAct). told ++ l)
        (sym (ap (told_as index) (map-append _ one other) ∙ map-append _ (acts_by worker one) (acts_by worker other)))

    pub adds_both : (one other : List Made) (old mid new : Ledger) → Adds plan (adding index worker one) old mid → Adds plan (adding index worker other) mid new → Adds plan (adding index worker (one ++ other)) old new
    adds_both one other old mid new first second =
        adds_as (λ told. adding index worker other (adding index worker one told)) (adding index worker (one ++ other)) old new (adding_more one other)
        (then_adds (adding index worker one) (adding index worker other) old mid new (λ told. (told_as index (acts_by worker other), refl)) first second)

    pub adds_nothing : (l : Ledger) → Adds plan (adding index worker []) l l
    adds_nothing l = adds_as (λ told. told) (adding index worker []) l l (λ told. sym (append-nil told)) (adds_none l)

-- ---- the steps of a cursor

module _ {A : Type 0} where
  taken_next : (xs : List A) (i : ℕ) (x : A) → slice_get xs i ≡ Some x → take (suc i) xs ≡ take i xs ++ x ∷ []
  taken_next [] i x at = absurd (none-some x at)
  taken_next (y ∷ xs) zero x at = ap (λ (z : A). z ∷ []) (same_Some y x at)
  taken_next (y ∷ xs) (suc i) x at = ap (λ (l : List A). y ∷ l) (taken_next xs i x at)

  pub taken : (xs : List A) (i : ℕ) (x : A) → slice_get xs i ≡ Some x → take (i + 1) xs ≡ take i xs ++ x ∷ []
  taken xs i x at = let one : suc i ≡ i + 1 = omega arith in subst (λ (k : ℕ). take k xs ≡ take i xs ++ x ∷ []) one (taken_next xs i x at)

  pub all_at : (P : A → Type 0) (xs : List A) (i : ℕ) (x : A) → AllByRecursion P xs → slice_get xs i ≡ Some x → P x
  all_at P [] i x all at = absurd (none-some x at)
  all_at P (y ∷ xs) zero x all at = subst P (same_Some y x at) all.0
  all_at P (y ∷ xs) (suc i) x all at = all_at P xs i x all.1 at

module _ {A B C D : Type 0} (f : A → B) (h : B → C) (g : C → D) where
  pub mapped_more : (xs : List A) (i : ℕ) (x : A) → slice_get xs i ≡ Some x → map g (map h (map f (take (i + 1) xs))) ≡ map g (map h (map f (take i xs))) ++ g (h (f x)) ∷ []
  mapped_more xs i x at = ap (λ (l : List A). map g (map h (map f l))) (taken xs i x at)
      ∙ (ap (λ (l : List B). map g (map h l)) (map-append f (take i xs) (x ∷ [])) ∙ (ap (map g) (map-append h (map f (take i xs)) (f x ∷ [])) ∙ map-append g (map h (map f (take i xs))) (h (f x) ∷ [])))

module _ (plan : Plan) (index : Option ℕ) (worker map_number begin : ℕ) where
  abbrev named : List ℕ × ℕ → ℕ × ℕ
  named pair = (key_number (keys_in plan.scripts) pair.0, pair.1)

  abbrev pub steps_of : List (List ℕ × ℕ) → List Made
  steps_of pairs = map (made_shared plan) (map (step_showing (keys_in plan.scripts) map_number begin) (map named pairs))

  pub steps_more : (pairs : List (List ℕ × ℕ)) (i : ℕ) (pair : List ℕ × ℕ) (key : ℕ) (old mid new : Ledger) → slice_get pairs i ≡ Some pair → key ≡ key_number (keys_in plan.scripts) pair.0
      → Adds plan (adding index worker (steps_of (take i pairs))) old mid → Adds plan (adding index worker (made_shared plan (calls.Next begin, answers.Shown (Some (key, pair.1))) ∷ [])) mid new
      → Adds plan (adding index worker (steps_of (take (i + 1) pairs))) old new
  steps_more pairs i pair key old mid new at same first second =
      let one = subst (λ (k : ℕ). Adds plan (adding index worker (made_shared plan (calls.Next begin, answers.Shown (Some (k, pair.1))) ∷ [])) mid new) same second in
      subst (λ (made : List Made). Adds plan (adding index worker made) old new) (sym (mapped_more named (step_showing (keys_in plan.scripts) map_number begin) (made_shared plan) pairs i pair at))
      (adds_both plan index worker (steps_of (take i pairs)) (made_shared plan (calls.Next begin, answers.Shown (Some (named pair))) ∷ []) old mid new first one)

-- ---- who goes

module _ (plan : Plan) (l n : Ledger) (worker : ℕ) (within : worker < plan.workers) where
  waits_so : (told : List ToldAct) → IsKept plan told l → waits_in l worker ≡ waits_still plan (acts_in told) worker
  waits_so told is =
      let there : worker < length l.workers.items = subst (λ (k : ℕ). worker < k) (sym is.workers) within in
      let at = slice_get-get_or l.workers.items worker (record { front = []; waits = false }) there in
      ap (λ (o : Option WorkerState). option_map_or (λ (x : WorkerState). x.waits) o false) at ∙ (is.worker worker _ at).1

  pub going_adds : (b : Bool) → waits_in l worker ≡ b → Adds plan (adding None worker (cond b (made_on_starts plan worker starts.Leave start_replies.Go) [])) l n
      → Adds plan (λ told. told ++ told_as None (going_acts plan (acts_in told) worker)) l n
  going_adds b waits adds = record {
    stays = adds.stays;
    kept = λ told is right.
        let same = sym waits ∙ waits_so told is in
        subst (λ (w : Bool). IsKept plan (told ++ told_as None (acts_by worker (cond w (made_on_starts plan worker starts.Leave start_replies.Go) []))) n) same
        (adds.kept told is (subst (λ (w : Bool). AreRight plan (told ++ told_as None (acts_by worker (cond w (made_on_starts plan worker starts.Leave start_replies.Go) [])))) (sym same) right));
  }

pub dormant_so : (plan : Plan) (l : Ledger) (worker : ℕ) → worker < plan.workers → IsLedgerOf plan l → waits_in l worker ≡ true → has_dormant plan ≡ true
dormant_so plan l worker within of waits =
    let there : worker < length l.workers.items = subst (λ (k : ℕ). worker < k) (sym of.workers) within in
    let at = slice_get-get_or l.workers.items worker (record { front = []; waits = false }) there in
    some_dormant plan.dormant worker (of.dormant worker _ at (sym (ap (λ (o : Option WorkerState). option_map_or (λ (x : WorkerState). x.waits) o false) at) ∙ waits))

-- ---- an item

pub item_adds : (plan : Plan) (index : Option ℕ) (item : Item) (old mid new : Ledger)
    → Adds plan (λ told. told ++ told_as None (going_acts plan (acts_in told) item.caller)) old mid
    → ((before : ℕ) → Adds plan (adding index item.caller (recorded_deed plan before item.object item.caller item.deed)) mid new)
    → Adds plan (λ told. with_told_item plan index told item) old new
item_adds plan index item old mid new going deeds = record {
  stays = λ of. (deeds 0).stays (going.stays of);
  kept = λ told is right.
      let goes : List ToldAct = told_as None (going_acts plan (acts_in told) item.caller) in
      let before = length (shared_in (made_by item.caller (acts_in told))) in
      let does : List ToldAct = told_as index (acts_by item.caller (recorded_item plan before item)) in
      let joins : (told ++ goes) ++ does ≡ told ++ (goes ++ does) = append_assoc told goes does in
      let rightly = subst (AreRight plan) (sym joins) right in
      subst (λ (t : List ToldAct). IsKept plan t new) joins ((deeds before).kept (told ++ goes) (going.kept told is (right_before plan (told ++ goes) does rightly)) rightly);
}

-- ---- items and turns

module _ {A : Type 0} (plan : Plan) (step : List ToldAct → A → List ToldAct) (longer : (x : A) → Lengthens plan (λ told. step told x)) where
  pub folds_lengthen : (xs : List A) → Lengthens plan (λ told. fold step told xs)
  folds_lengthen [] told = ([], sym (append-nil told))
  folds_lengthen (x ∷ xs) told = both_lengthen plan (λ t. step t x) (λ t. fold step t xs) (longer x) (folds_lengthen xs) told

  pub folds_more : (xs : List A) (i : ℕ) (x : A) (old mid new : Ledger) → slice_get xs i ≡ Some x → Adds plan (λ told. fold step told (take i xs)) old mid → Adds plan (λ told. step told x) mid new
      → Adds plan (λ told. fold step told (take (i + 1) xs)) old new
  folds_more xs i x old mid new at first second =
      adds_as plan (λ told. step (fold step told (take i xs)) x) (λ told. fold step told (take (i + 1) xs)) old new
      (λ told. sym (ap (fold step told) (taken xs i x at) ∙ fold-append step told (take i xs) (x ∷ [])))
      (then_adds plan (λ told. fold step told (take i xs)) (λ told. step told x) old mid new (longer x) first second)

pub item_lengthens : (plan : Plan) (index : Option ℕ) (item : Item) → Lengthens plan (λ told. with_told_item plan index told item)
item_lengthens plan index item told = (_, refl)

pub turn_lengthens : (plan : Plan) (turn : TraceItem) → Lengthens plan (λ told. with_told_turn plan told turn)
turn_lengthens plan turn = folds_lengthen plan (with_told_item plan turn.index) (item_lengthens plan turn.index) turn.made

first_items : (plan : Plan) (items more : List Item) → AreItemsOf plan (items ++ more) → AreItemsOf plan items × AreItemsOf plan more
first_items plan [] more all = (tt, all)
first_items plan (item ∷ items) more all = let rest = first_items plan items more all.1 in ((all.0, rest.0), rest.1)

pub items_at : (plan : Plan) (trace : List TraceItem) (i : ℕ) (turn : TraceItem) → AreItemsOf plan (items_told trace) → slice_get trace i ≡ Some turn → AreItemsOf plan turn.made
items_at plan [] i turn all at = absurd (none-some turn at)
items_at plan (one ∷ trace) zero turn all at = subst (λ (t : TraceItem). AreItemsOf plan t.made) (same_Some one turn at) (first_items plan one.made (items_told trace) all).0
items_at plan (one ∷ trace) (suc i) turn all at = items_at plan trace i turn (first_items plan one.made (items_told trace) all).1 at

-- ---- over the workers, and over a pool's parts

range_next : (a n : ℕ) → range_with_len a (suc n) ≡ range_with_len a n ++ (a + n) ∷ []
range_next a zero = let same : a ≡ a + 0 = omega arith in ap (λ (k : ℕ). k ∷ []) same
range_next a (suc n) = let same : a + 1 + n ≡ a + suc n = omega arith in ap (λ (l : List ℕ). a ∷ l) (range_next (a + 1) n ∙ ap (λ (k : ℕ). range_with_len (a + 1) n ++ k ∷ []) same)

pub range_more : (n : ℕ) → range_with_len 0 (n + 1) ≡ range_with_len 0 n ++ n ∷ []
range_more n =
    let one : suc n ≡ n + 1 = omega arith in
    let none : 0 + n ≡ n = omega arith in
    subst (λ (k : ℕ). range_with_len 0 k ≡ range_with_len 0 n ++ n ∷ []) one (range_next 0 n ∙ ap (λ (k : ℕ). range_with_len 0 n ++ k ∷ []) none)

pub over_more : {A : Type 0} (f : ℕ → A) (n : ℕ) → map f (range_with_len 0 (n + 1)) ≡ map f (range_with_len 0 n) ++ f n ∷ []
over_more f n = ap (map f) (range_more n) ∙ map-append f (range_with_len 0 n) (n ∷ [])

module _ (plan : Plan) (among : List Bool) (makes : ℕ → List Made) where
  -- what those among the first so many workers make
  abbrev pub made_to : ℕ → List Act
  made_to n = flat_map (λ worker. acts_by worker (makes worker)) (filter (λ worker. get_or among worker false) (range_with_len 0 n))

  next_made : (n : ℕ) → made_to (n + 1) ≡ made_to n ++ acts_by n (cond (get_or among n false) (makes n) [])
  next_made n = ap (λ (l : List ℕ). flat_map (λ worker. acts_by worker (makes worker)) (filter (λ worker. get_or among worker false) l)) (range_more n)
      ∙ (ap (flat_map (λ worker. acts_by worker (makes worker))) (filter-append (λ worker. get_or among worker false) (range_with_len 0 n) (n ∷ []))
      ∙ (flat_map-append (λ worker. acts_by worker (makes worker)) (filter (λ worker. get_or among worker false) (range_with_len 0 n)) (filter (λ worker. get_or among worker false) (n ∷ []))
      ∙ ap (λ (l : List Act). made_to n ++ l) (chosen (get_or among n false)))) where
        chosen : (b : Bool) → flat_map (λ worker. acts_by worker (makes worker)) (cond b (n ∷ []) []) ≡ acts_by n (cond b (makes n) [])
        chosen true = append-nil (acts_by n (makes n))
        chosen false = refl

  pub starts_more : (n : ℕ) (b : Bool) (old mid new : Ledger) → b ≡ get_or among n false → Adds plan (λ told. told ++ told_as None (made_to n)) old mid → Adds plan (adding None n (cond b (makes n) [])) mid new
      → Adds plan (λ told. told ++ told_as None (made_to (n + 1))) old new
  starts_more n b old mid new is first second =
      adds_as plan (λ told. adding None n (cond b (makes n) []) (told ++ told_as None (made_to n))) (λ told. told ++ told_as None (made_to (n + 1))) old new
      (λ told. append_assoc told (told_as None (made_to n)) (told_as None (acts_by n (cond b (makes n) [])))
      ∙ ap (λ (l : List ToldAct). told ++ l) (sym (map-append _ (made_to n) (acts_by n (cond b (makes n) []))) ∙ ap (told_as None) (ap (λ (w : Bool). made_to n ++ acts_by n (cond w (makes n) [])) is ∙ sym (next_made n))))
      (then_adds plan (λ told. told ++ told_as None (made_to n)) (adding None n (cond b (makes n) [])) old mid new (λ told. (_, refl)) first second)

-- ---- behind all scripts

same_filter : (p q : ℕ → Bool) (a n : ℕ) → ((w : ℕ) → w < a + n → p w ≡ q w) → filter p (range_with_len a n) ≡ filter q (range_with_len a n)
same_filter p q a zero same = refl
same_filter p q a (suc n) same =
    let rest = same_filter p q (a + 1) n (λ w less. same w (omega (arith, less))) in
    ap (λ (l : List ℕ). cond (p a) (a ∷ l) l) rest ∙ ap (λ (b : Bool). cond b (a ∷ filter q (range_with_len (a + 1) n)) (filter q (range_with_len (a + 1) n))) (same a (omega arith))

module _ (plan : Plan) (l mid new : Ledger) (waiting ended : List Bool) (told : List ToldAct) (is : IsKept plan told l)
    (waits : waiting ≡ map (waits_in l) (range_with_len 0 plan.workers)) (others : ended ≡ map not waiting) where
  waits_at : (w : ℕ) → w < plan.workers → get_or waiting w false ≡ waits_still plan (acts_in told) w
  waits_at w within =
      let none : 0 + w ≡ w = omega arith in
      ap (λ (b : List Bool). get_or b w false) waits ∙ (get_or-map-range_with_len (waits_in l) 0 plan.workers w w false within none ∙ waits_so plan l l w within told is)

  ended_at : (w : ℕ) → w < plan.workers → get_or ended w false ≡ not (waits_still plan (acts_in told) w)
  ended_at w within =
      let long : length waiting ≡ plan.workers = ap length waits ∙ length-map-range_with_len (waits_in l) 0 plan.workers in
      ap (λ (b : List Bool). get_or b w false) others ∙ (get_or-map not waiting w false false (subst (λ (k : ℕ). w < k) (sym long) within) ∙ ap not (waits_at w within))

  abbrev ends : ℕ → List Made
  ends worker = made_on_starts plan worker starts.End start_replies.Done

  abbrev leaves : ℕ → List Made
  leaves worker = made_on_starts plan worker starts.Leave start_replies.Never

  below : (w : ℕ) → w < 0 + plan.workers → w < plan.workers
  below w less = omega (arith, less)

  pub closed_as : has_dormant plan ≡ true → closed_told plan told ≡ (told ++ told_as None (made_to plan ended ends plan.workers)) ++ told_as None (made_to plan waiting leaves plan.workers)
  closed_as dormant =
      let ending = ap (flat_map (λ worker. acts_by worker (ends worker))) (same_filter (λ worker. not (waits_still plan (acts_in told) worker)) (λ worker. get_or ended worker false) 0 plan.workers (λ w less. sym (ended_at w (below w less)))) in
      let leaving = ap (flat_map (λ worker. acts_by worker (leaves worker))) (same_filter (waits_still plan (acts_in told)) (λ worker. get_or waiting worker false) 0 plan.workers (λ w less. sym (waits_at w (below w less)))) in
      ap (λ (b : Bool). told ++ told_as None (cond b (ending_acts plan (acts_in told) ++ leaving_acts plan (acts_in told)) [])) dormant
      ∙ (ap (λ (a : List Act). told ++ told_as None (a ++ leaving_acts plan (acts_in told))) ending
      ∙ (ap (λ (a : List Act). told ++ told_as None (made_to plan ended ends plan.workers ++ a)) leaving
      ∙ (ap (λ (a : List ToldAct). told ++ a) (map-append _ (made_to plan ended ends plan.workers) (made_to plan waiting leaves plan.workers))
      ∙ sym (append_assoc told (told_as None (made_to plan ended ends plan.workers)) (told_as None (made_to plan waiting leaves plan.workers))))))

pub closing_adds : (plan : Plan) (l mid new : Ledger) (waiting ended : List Bool) → waiting ≡ map (waits_in l) (range_with_len 0 plan.workers) → ended ≡ map not waiting → has_dormant plan ≡ true
    → Adds plan (λ told. told ++ told_as None (made_to plan ended (λ worker. made_on_starts plan worker starts.End start_replies.Done) plan.workers)) l mid
    → Adds plan (λ told. told ++ told_as None (made_to plan waiting (λ worker. made_on_starts plan worker starts.Leave start_replies.Never) plan.workers)) mid new
    → Adds plan (closed_told plan) l new
closing_adds plan l mid new waiting ended waits others dormant first second = record {
  stays = λ of. second.stays (first.stays of);
  kept = λ told is right.
      let same = closed_as plan l mid new waiting ended told is waits others dormant in
      let both = then_adds plan (λ told. told ++ told_as None (made_to plan ended (λ worker. made_on_starts plan worker starts.End start_replies.Done) plan.workers))
      (λ told. told ++ told_as None (made_to plan waiting (λ worker. made_on_starts plan worker starts.Leave start_replies.Never) plan.workers)) l mid new (λ told. (_, refl)) first second in
      subst (λ (t : List ToldAct). IsKept plan t new) (sym same) (both.kept told is (subst (AreRight plan) same right));
}

pub closing_none : (plan : Plan) (l : Ledger) → has_dormant plan ≡ false → Adds plan (closed_told plan) l l
closing_none plan l none = adds_as plan (λ told. told) (closed_told plan) l l
    (λ told. sym (ap (λ (b : Bool). told ++ told_as None (cond b (ending_acts plan (acts_in told) ++ leaving_acts plan (acts_in told)) [])) none ∙ append-nil told)) (adds_none plan l)

-- ---- at the beginning

module _ {A : Type 0} where
  over_at : (f : ℕ → A) (n w : ℕ) (x : A) → slice_get (map f (range_with_len 0 n)) w ≡ Some x → f w ≡ x
  over_at f n w x at =
      let within = slice_get_within (map f (range_with_len 0 n)) w x at in
      let below : w < n = subst (λ (k : ℕ). w < k) (length-map-range_with_len f 0 n) within in
      let none : 0 + w ≡ w = omega arith in
      sym (get_or-map-range_with_len f 0 n w w x below none) ∙ get_or_from_slice_get (map f (range_with_len 0 n)) w x x at

  replicate_at : (n o : ℕ) (y x : A) → slice_get (replicate n y) o ≡ Some x → y ≡ x
  replicate_at n o y x at =
      let within = slice_get_within (replicate n y) o x at in
      sym (get_or-replicate n o y x (subst (λ (k : ℕ). o < k) (length-replicate n y) within)) ∙ get_or_from_slice_get (replicate n y) o x x at

abbrev pub first_worker : Plan → ℕ → WorkerState
first_worker plan worker = record { front = replicate plan.workers 0; waits = is_dormant plan worker }

abbrev pub first_journal : Plan → JournalState
first_journal plan = record { entries = 0; released = replicate plan.workers 0 }

module _ (plan : Plan) (l : Ledger) (workers : l.workers.items ≡ map (first_worker plan) (range_with_len 0 plan.workers)) (journals : l.journals.items ≡ replicate (object_count plan) (first_journal plan)) where
  long : length l.workers.items ≡ plan.workers
  long = ap length workers ∙ length-map-range_with_len (first_worker plan) 0 plan.workers

  many : length l.journals.items ≡ object_count plan
  many = ap length journals ∙ length-replicate (object_count plan) (first_journal plan)

  worker_at : (w : ℕ) (x : WorkerState) → slice_get l.workers.items w ≡ Some x → first_worker plan w ≡ x
  worker_at w x at = over_at (first_worker plan) plan.workers w x (ap (λ (r : List WorkerState). slice_get r w) (sym workers) ∙ at)

  journal_at : (o : ℕ) (x : JournalState) → slice_get l.journals.items o ≡ Some x → first_journal plan ≡ x
  journal_at o x at = replicate_at (object_count plan) o (first_journal plan) x (ap (λ (r : List JournalState). slice_get r o) (sym journals) ∙ at)

  nothing_yet : (b : Bool) → b ≡ (b && true)
  nothing_yet true = refl
  nothing_yet false = refl

  pub begun_of : l.lines.items ≡ [] → IsLedgerOf plan l
  begun_of lines = record {
    workers = long;
    journals = many;
    dormant = λ w x at waits. ap (λ (y : WorkerState). y.waits) (worker_at w x at) ∙ waits;
    numbers = ap (list_all is_in_64_bits) lines;
  }

  pub begun_kept : l.history ≡ 0 → l.maps.items ≡ (contents_of plan).maps → l.lines.items ≡ [] → IsKept plan [] l
  begun_kept history maps lines = record {
    workers = long;
    journals = many;
    worker = λ w x at. (
      sym (ap (λ (y : WorkerState). y.front) (worker_at w x at)) ∙ sym (get_or-replicate plan.workers w (replicate plan.workers 0) [] (subst (λ (k : ℕ). w < k) long (slice_get_within l.workers.items w x at))),
      sym (ap (λ (y : WorkerState). y.waits) (worker_at w x at)) ∙ nothing_yet (is_dormant plan w),
    );
    journal = λ o x at. (
      sym (ap (λ (y : JournalState). y.entries) (journal_at o x at)),
      sym (ap (λ (y : JournalState). y.released) (journal_at o x at)) ∙ sym (get_or-replicate (object_count plan) o (replicate plan.workers 0) [] (subst (λ (k : ℕ). o < k) many (slice_get_within l.journals.items o x at))),
    );
    history = history;
    maps = maps;
    lines = lines;
    fronts = refl;
  }

-- ---- the acts that are told

acts_as : (index : Option ℕ) (acts : List Act) → acts_in (told_as index acts) ≡ acts
acts_as index [] = refl
acts_as index (act ∷ acts) = ap (λ (l : List Act). act ∷ l) (acts_as index acts)

module _ (plan : Plan) where
  pub item_acts : (index : Option ℕ) (told : List ToldAct) (item : Item) → acts_in (with_told_item plan index told item) ≡ with_item plan (acts_in told) item
  item_acts index told item =
      let goes = going_acts plan (acts_in told) item.caller in
      let does = acts_by item.caller (recorded_item plan (length (shared_in (made_by item.caller (acts_in told)))) item) in
      map-append (λ (t : ToldAct). t.act) told (told_as None goes ++ told_as index does)
      ∙ ap (λ (l : List Act). acts_in told ++ l) (map-append (λ (t : ToldAct). t.act) (told_as None goes) (told_as index does) ∙ (ap (λ (l : List Act). l ++ acts_in (told_as index does)) (acts_as None goes) ∙ ap (λ (l : List Act). goes ++ l) (acts_as index does)))

  items_acts : (index : Option ℕ) (told : List ToldAct) (items : List Item) → acts_in (fold (with_told_item plan index) told items) ≡ fold (with_item plan) (acts_in told) items
  items_acts index told [] = refl
  items_acts index told (item ∷ items) = items_acts index (with_told_item plan index told item) items ∙ ap (λ (acts : List Act). fold (with_item plan) acts items) (item_acts index told item)

  turns_acts : (told : List ToldAct) (trace : List TraceItem) → acts_in (fold (with_told_turn plan) told trace) ≡ fold (with_item plan) (acts_in told) (items_told trace)
  turns_acts told [] = refl
  turns_acts told (turn ∷ trace) =
      turns_acts (with_told_turn plan told turn) trace
      ∙ (ap (λ (acts : List Act). fold (with_item plan) acts (items_told trace)) (items_acts turn.index told turn.made) ∙ sym (fold-append (with_item plan) (acts_in told) turn.made (items_told trace)))

  -- they are the acts of the record
  pub run_told : (trace : List TraceItem) → acts_in (told_run plan trace) ≡ run_acts plan trace
  run_told trace =
      map-append (λ (t : ToldAct). t.act) (told_turns plan trace) (told_as None (closing_acts plan (acts_in (told_turns plan trace))))
      ∙ (ap (λ (l : List Act). acts_in (told_turns plan trace) ++ l) (acts_as None (closing_acts plan (acts_in (told_turns plan trace)))) ∙ ap (closed_acts plan) (turns_acts [] trace))

  pub run_right : (trace : List TraceItem) → AreAnswered (contents_of plan) (run_acts plan trace) → AreRight plan (told_run plan trace)
  run_right trace right = subst (λ (acts : List Act). AreAnswered (contents_of plan) acts) (sym (run_told trace)) right
