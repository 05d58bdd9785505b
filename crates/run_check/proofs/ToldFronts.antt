-- The front law along the lists of a claim, and along the lines that tell it.
use Rattle.std.proofs.Common.{◌≡◌, ◌⊎◌, inl, inr, ℕ, zero, suc, ◌+◌, ◌<◌, ◌≤◌, Bool, true, false, cond, List, [], ◌∷◌, map, length, get_or, take, Option, Some, None, slice_get, slice_index, refl, sym, ap, ◌∙◌, subst, arith}
use Rattle.std.specs.Option.{option_map}
use Rattle.std.proofs.lemmas.Bool.{lt-ltb}
use Rattle.std.proofs.lemmas.List.{get_or_past, length-map}
use Rattle.std.proofs.lemmas.Option.{get_or_from_slice_get, none-some, same_Some, slice_get_cases, slice_get-map}
use Rattle.sync_model.specs.declared.item.Item.{Item}
use Rattle.sync_model.specs.Front.{AtLeast}
use Rattle.workload.specs.Plan.{Plan}
use Rattle.run_record.specs.declared.made.Made.{Made}
use Rattle.run_record.specs.declared.made.Made.TheVariants.{Shared, Entered}
use Rattle.run_record.specs.Explains.{KeepsFronts}
use Rattle.run_record.specs.Record.{calls_of, front_of, list_of, shared_in}
use Rattle.shared_checks.specs.Fronts.{LawfulFronts}
use Rattle.record_text.specs.declared.item_line.ItemLine.{ItemLine}
use Rattle.record_text.specs.declared.item_line.PlacedReply.{PlacedReply}
use Rattle.record_text.specs.declared.item_line.Said.{Said}
use Rattle.record_text.specs.declared.item_line.Said.TheVariants as said
use Rattle.record_text.specs.Told.{Told, items_of}
use Rattle.run_check.specs.declared.told.along.Along.{Along}
use Rattle.run_check.specs.declared.told.placing.Asked.{Asked}
use Rattle.run_check.specs.declared.told.sketch.Sketch.{Sketch}
use Rattle.run_check.specs.declared.told.sketch.Sketch.TheVariants as sketches
use Rattle.run_check.specs.Deeds.{deed_told}
use Rattle.run_check.specs.ToldItems.{Kept, Sketched, along_behind, along_start, asked_by, entered, kept_by, list_told, made_of, may_be_of, ranged_by, replied, script_call, sketch_told, sketched_before, speaker_of, worker_told}
use Rattle.run_check.specs.Replies.{reply_told}
use Rattle.record_clauses.specs.declared.clause.Clause.{Clause}
use Rattle.record_clauses.specs.declared.clause.Clause.TheVariants as clauses
use Rattle.record_clauses.specs.Account.{Account, Claim, ToldItem, made_in, record_of}
use Rattle.record_clauses.specs.Clauses.{HasFronts, Holds}
use Rattle.record_clauses.specs.Verdicts.{UpTo, place_of}
use Rattle.run_check.specs.Fronts.{AllStand, MayStand, SomeFails, Standing, at_start, behind_line, behind_lines, last_of, one_call}
use Rattle.run_check.specs.Items.{told_item, unmarked_item, unmarked_made}
use Rattle.run_check.specs.Tells.{Tells}
use Rattle.run_check.proofs.FrontOrder.{KeepFronts, calls_by, not_below}
use Rattle.run_check.proofs.ToldLists.{mapped}

-- ---- an item and its line

-- 1 for a call, 0 for an entry
abbrev calls_at : Made → ℕ
calls_at made = length (shared_in (made ∷ []))

abbrev calls_in_sketch : Sketch → ℕ
calls_in_sketch (sketches.Shared call reply place) = 1
calls_in_sketch (sketches.Entered object number deed) = 0

-- each item has its line's front, and is a call where the line is of one
abbrev pub SaysFronts : List Made → List ItemLine → Type 0
SaysFronts [] [] = Unit {0}
SaysFronts [] (line ∷ lines) = ⊥
SaysFronts (made ∷ list) [] = ⊥
SaysFronts (made ∷ list) (line ∷ lines) = (front_of made ≡ line.front) × (calls_at made ≡ one_call line.said) × SaysFronts list lines

counted : (made : Made) (list : List Made) → length (shared_in (made ∷ list)) ≡ calls_at made + length (shared_in list)
counted (Shared x) list = omega arith
counted (Entered object entry) list = omega arith

front_unmarked : (made : Made) → front_of (unmarked_made made) ≡ front_of made
front_unmarked (Shared x) = refl
front_unmarked (Entered object entry) = refl

front_again : (worker : ℕ) (front : List ℕ) (sketch : Sketch) → front_of (made_of worker front sketch) ≡ front
front_again worker front (sketches.Shared call reply place) = refl
front_again worker front (sketches.Entered object number deed) = refl

calls_unmarked : (made : Made) → calls_at (unmarked_made made) ≡ calls_at made
calls_unmarked (Shared x) = refl
calls_unmarked (Entered object entry) = refl

calls_again : (worker : ℕ) (front : List ℕ) (sketch : Sketch) → calls_at (made_of worker front sketch) ≡ calls_in_sketch sketch
calls_again worker front (sketches.Shared call reply place) = refl
calls_again worker front (sketches.Entered object number deed) = refl

module _ (plan : Plan) (kept : Kept) (worker : ℕ) where
  replied_call : (place : ℕ) (reply : PlacedReply) (asked : Option Asked) (sketch : Sketch) → replied place reply asked ≡ Some sketch → calls_in_sketch sketch ≡ 1
  replied_call place reply None sketch is = absurd (none-some sketch is)
  replied_call place reply (Some asked) sketch is = let (answer, found, same) = mapped (λ answer. sketches.Shared asked.call answer place) (reply_told asked.kind asked.call reply) sketch is in ap calls_in_sketch (sym same)

  -- what a line says is a call where the line is of one
  sketch_calls : (along : Along) (index : Option ℕ) (s : Said) (sketch : Sketch) → sketch_told plan kept worker along index s ≡ Some sketch → calls_in_sketch sketch ≡ one_call s
  sketch_calls along index (said.Call place reply) sketch is = replied_call place reply (asked_by plan (script_call plan worker index)) sketch is
  sketch_calls along index (said.Begin reach) sketch is = let (m, found, same) = mapped _ (ranged_by plan (script_call plan worker index)) sketch is in ap calls_in_sketch (sym same)
  sketch_calls along index (said.Next reach shown) sketch is = ap calls_in_sketch (sym (same_Some _ sketch is))
  sketch_calls along index (said.Entered object number event answer) sketch is = by (may_be_of index event) is where
    by : (b : Bool) → cond b (entered (speaker_of plan kept object worker along.sum) object number event answer) None ≡ Some sketch → calls_in_sketch sketch ≡ 0
    by true at = let (deed, found, same) = mapped (sketches.Entered object number) (deed_told (speaker_of plan kept object worker along.sum) event answer) sketch at in ap calls_in_sketch (sym same)
    by false at = absurd (none-some sketch at)

  one_says : (line : ItemLine) (sketch : Sketch) (x : ToldItem) → calls_in_sketch sketch ≡ one_call line.said → told_item worker (record { index = line.index; front = line.front; sketch = sketch }) ≡ unmarked_item x
      → (front_of x.made ≡ line.front) × (calls_at x.made ≡ one_call line.said)
  one_says line sketch x calls same = (
    sym (front_unmarked x.made) ∙ sym (ap (λ (y : ToldItem). front_of y.made) same) ∙ front_again worker line.front sketch,
    sym (calls_unmarked x.made) ∙ sym (ap (λ (y : ToldItem). calls_at y.made) same) ∙ calls_again worker line.front sketch ∙ calls,
  )

  abbrev SaysLater : Along → List ItemLine → Type 0
  SaysLater along lines = (items : List Sketched) → list_told plan kept worker along lines ≡ Some items → (list : List ToldItem) → map (told_item worker) items ≡ map unmarked_item list → SaysFronts (made_in list) lines

  pub list_says : (along : Along) (lines : List ItemLine) (items : List Sketched) (list : List ToldItem) → list_told plan kept worker along lines ≡ Some items → map (told_item worker) items ≡ map unmarked_item list → SaysFronts (made_in list) lines
  list_says along [] items list is same = by list (ap (map (told_item worker)) (same_Some [] items is) ∙ same) where
    by : (list : List ToldItem) → [] ≡ map unmarked_item list → SaysFronts (made_in list) []
    by [] none = tt
    by (x ∷ list) none = absurd cc
  list_says along (line ∷ lines) items list is same =
      by (λ more later others alike. list_says (along_behind along line.said) lines more others later alike) (sketch_told plan kept worker along line.index line.said) (list_told plan kept worker (along_behind along line.said) lines) refl refl is
    where
      of_list : SaysLater (along_behind along line.said) lines → (sketch : Sketch) (more : List Sketched) → sketch_told plan kept worker along line.index line.said ≡ Some sketch → list_told plan kept worker (along_behind along line.said) lines ≡ Some more
          → (list : List ToldItem) → map (told_item worker) (record { index = line.index; front = line.front; sketch = sketch } ∷ more) ≡ map unmarked_item list → SaysFronts (made_in list) (line ∷ lines)
      of_list go sketch more says later [] alike = absurd cc
      of_list go sketch more says later (x ∷ list) alike =
          let first : told_item worker (record { index = line.index; front = line.front; sketch = sketch }) ≡ unmarked_item x = cc in
          let rest : map (told_item worker) more ≡ map unmarked_item list = cc in
          let (front, calls) = one_says line sketch x (sketch_calls along line.index line.said sketch says) first in
          (front, calls, go more later list rest)

      by : SaysLater (along_behind along line.said) lines → (one : Option Sketch) (more : Option (List Sketched)) → sketch_told plan kept worker along line.index line.said ≡ one → list_told plan kept worker (along_behind along line.said) lines ≡ more
          → sketched_before line one more ≡ Some items → SaysFronts (made_in list) (line ∷ lines)
      by go None more says later found = absurd (none-some items found)
      by go (Some sketch) None says later found = absurd (none-some items found)
      by go (Some sketch) (Some more) says later found = of_list go sketch more says later list (ap (map (told_item worker)) (same_Some _ items found) ∙ same)

-- ---- along one list

at_least_both : (front middle other : List ℕ) → AtLeast front middle → AtLeast middle other → AtLeast front other
at_least_both front middle other first second c = let one = first c in let two = second c in omega (arith, one, two)

pub calls_last : (s : Standing) (list : List Made) (lines : List ItemLine) → SaysFronts list lines → (behind_lines s lines).calls ≡ s.calls + length (shared_in list)
calls_last s [] [] says = omega arith
calls_last s [] (line ∷ lines) says = absurd says
calls_last s (made ∷ list) [] says = absurd says
calls_last s (made ∷ list) (line ∷ lines) says =
    let later = calls_last (behind_line s line) list lines says.2 in
    let here = says.1 in
    let all = counted made list in
    omega (arith, later, here, all)

module _ (worker : ℕ) where
  -- the list goes on behind so many calls, and this front
  pub record GoesOn (s : Standing) (list : List Made) : Type 0 where
    pub above : (i : ℕ) (x : Made) → slice_get list i ≡ Some x → AtLeast (front_of x) s.front
    pub rises : (i j : ℕ) (x y : Made) → i < j → slice_get list i ≡ Some x → slice_get list j ≡ Some y → AtLeast (front_of y) (front_of x)
    pub own : (i : ℕ) (x : Made) → slice_get list i ≡ Some x → slice_index (front_of x) worker ≡ s.calls + length (shared_in (take i list))

  one_more_goes : (s : Standing) (made : Made) (list : List Made) (line : ItemLine) → front_of made ≡ line.front → calls_at made ≡ one_call line.said → MayStand worker s line → GoesOn (behind_line s line) list → GoesOn s (made ∷ list)
  one_more_goes s made list line its here may later = record { above = above; rises = rises; own = own } where
    first : AtLeast (front_of made) s.front
    first = subst (λ front. AtLeast front s.front) (sym its) may.1

    behind : (j : ℕ) (y : Made) → slice_get list j ≡ Some y → AtLeast (front_of y) (front_of made)
    behind j y at = subst (AtLeast (front_of y)) (sym its) (later.above j y at)

    above : (i : ℕ) (x : Made) → slice_get (made ∷ list) i ≡ Some x → AtLeast (front_of x) s.front
    above zero x at = subst (λ (m : Made). AtLeast (front_of m) s.front) (same_Some made x at) first
    above (suc i) x at = at_least_both (front_of x) (front_of made) s.front (behind i x at) first

    rises : (i j : ℕ) (x y : Made) → i < j → slice_get (made ∷ list) i ≡ Some x → slice_get (made ∷ list) j ≡ Some y → AtLeast (front_of y) (front_of x)
    rises i zero x y before at_i at_j = absurd (omega (arith, before))
    rises zero (suc j) x y before at_i at_j = subst (λ (m : Made). AtLeast (front_of y) (front_of m)) (same_Some made x at_i) (behind j y at_j)
    rises (suc i) (suc j) x y before at_i at_j = later.rises i j x y (omega (arith, before)) at_i at_j

    own : (i : ℕ) (x : Made) → slice_get (made ∷ list) i ≡ Some x → slice_index (front_of x) worker ≡ s.calls + length (shared_in (take i (made ∷ list)))
    own zero x at = let read = ap (λ (front : List ℕ). slice_index front worker) (ap front_of (sym (same_Some made x at)) ∙ its) in let calls = may.0 in omega (arith, read, calls)
    own (suc i) x at = let rest = later.own i x at in let all = counted made (take i list) in omega (arith, rest, here, all)

  pub goes_on : (s : Standing) (list : List Made) (lines : List ItemLine) → SaysFronts list lines → AllStand worker s lines → GoesOn s list
  goes_on s [] [] says stand = record { above = λ i x at. absurd (none-some x at); rises = λ i j x y before at. absurd (none-some x at); own = λ i x at. absurd (none-some x at) }
  goes_on s [] (line ∷ lines) says stand = absurd says
  goes_on s (made ∷ list) [] says stand = absurd says
  goes_on s (made ∷ list) (line ∷ lines) says stand = one_more_goes s made list line says.0 says.1 stand.0 (goes_on (behind_line s line) list lines says.2 stand.1)

  pub all_stand : (s : Standing) (list : List Made) (lines : List ItemLine) → SaysFronts list lines → GoesOn s list → AllStand worker s lines
  all_stand s [] [] says goes = tt
  all_stand s [] (line ∷ lines) says goes = absurd says
  all_stand s (made ∷ list) [] says goes = absurd says
  all_stand s (made ∷ list) (line ∷ lines) says goes = (
    (
      let calls = goes.own 0 made refl in let here = ap (λ (front : List ℕ). slice_index front worker) says.0 in omega (arith, calls, here),
      subst (λ front. AtLeast front s.front) says.0 (goes.above 0 made refl),
    ),
    all_stand (behind_line s line) list lines says.2 (record {
      above = λ i x at. subst (AtLeast (front_of x)) says.0 (goes.rises 0 (suc i) made x (omega arith) refl at);
      rises = λ i j x y before at_i at_j. goes.rises (suc i) (suc j) x y (omega (arith, before)) at_i at_j;
      own = λ i x at. let rest = goes.own (suc i) x at in let here = says.1 in let all = counted made (take i list) in omega (arith, rest, here, all);
    }),
  )

  front_least : (s : Standing) (lines : List ItemLine) → AllStand worker s lines → AtLeast (behind_lines s lines).front s.front
  front_least s [] stand = λ c. omega arith
  front_least s (line ∷ lines) stand = at_least_both (behind_lines s (line ∷ lines)).front line.front s.front (front_least (behind_line s line) lines stand.1) stand.0.1

  -- the last front is no less than that of any item
  pub front_last : (s : Standing) (list : List Made) (lines : List ItemLine) → SaysFronts list lines → AllStand worker s lines → (i : ℕ) (x : Made) → slice_get list i ≡ Some x → AtLeast (behind_lines s lines).front (front_of x)
  front_last s [] [] says stand i x at = absurd (none-some x at)
  front_last s [] (line ∷ lines) says stand i x at = absurd says
  front_last s (made ∷ list) [] says stand i x at = absurd says
  front_last s (made ∷ list) (line ∷ lines) says stand zero x at = subst (AtLeast (behind_lines s (line ∷ lines)).front) (sym says.0 ∙ ap front_of (same_Some made x at)) (front_least (behind_line s line) lines stand.1)
  front_last s (made ∷ list) (line ∷ lines) says stand (suc i) x at = front_last (behind_line s line) list lines says.2 stand.1 i x at

-- and it is that of some item, if there is one
pub last_below : (most : ℕ → ℕ) (s : Standing) (list : List Made) (lines : List ItemLine) → SaysFronts list lines → ((other : ℕ) → slice_index s.front other ≤ most other)
    → ((i : ℕ) (x : Made) → slice_get list i ≡ Some x → (other : ℕ) → slice_index (front_of x) other ≤ most other) → (other : ℕ) → slice_index (behind_lines s lines).front other ≤ most other
last_below most s [] [] says start each other = start other
last_below most s [] (line ∷ lines) says start each other = absurd says
last_below most s (made ∷ list) [] says start each other = absurd says
last_below most s (made ∷ list) (line ∷ lines) says start each other =
    last_below most (behind_line s line) list lines says.2 (λ c. subst (λ (front : List ℕ). slice_index front c ≤ most c) says.0 (each 0 made refl c)) (λ i x at. each (suc i) x at) other

-- ---- all lists

module _ (told : Told) (claim : Claim) (tells : Tells told claim) (account : Account) where
  abbrev mine : ℕ → List Made
  mine worker = list_of (record_of claim account) worker

  at_worker : (worker : ℕ) → ((worker < told.plan.workers) × SaysFronts (mine worker) (items_of told.items worker)) ⊎ ((told.plan.workers ≤ worker) × (mine worker ≡ []))
  at_worker worker = by (slice_get_cases claim.lists worker).1 where
    by : ((list : List ToldItem) × (worker < length claim.lists) × (slice_get claim.lists worker ≡ Some list) × (get_or claim.lists worker list ≡ list)) ⊎ ((length claim.lists ≤ worker) × (slice_get claim.lists worker ≡ None))
        → ((worker < told.plan.workers) × SaysFronts (mine worker) (items_of told.items worker)) ⊎ ((told.plan.workers ≤ worker) × (mine worker ≡ []))
    by (inl (list, within, there, read)) =
        let count = tells.workers in
        let (items, is, same) = mapped (λ (ss : List Sketched). map (told_item worker) ss) (worker_told told.plan told.items worker) (map unmarked_item list) (tells.lists worker list there) in
        let made : mine worker ≡ made_in list = get_or_from_slice_get (map made_in claim.lists) worker (made_in list) [] (slice_get-map made_in claim.lists worker ∙ ap (λ (o : Option (List ToldItem)). option_map made_in o) there) in
        inl (omega (arith, within, count), subst (λ (l : List Made). SaysFronts l (items_of told.items worker)) (sym made) (list_says told.plan (kept_by told.items told.plan.workers) worker along_start (items_of told.items worker) items list is same))
    by (inr (past, none)) =
        let count = tells.workers in
        let long = length-map claim.lists made_in in
        inr (omega (arith, past, count), get_or_past (map made_in claim.lists) worker [] (omega (arith, past, long)))

  below : (worker : ℕ) → worker < told.plan.workers → SaysFronts (mine worker) (items_of told.items worker)
  below worker less = by (at_worker worker) where
    by : ((worker < told.plan.workers) × SaysFronts (mine worker) (items_of told.items worker)) ⊎ ((told.plan.workers ≤ worker) × (mine worker ≡ [])) → SaysFronts (mine worker) (items_of told.items worker)
    by (inl (within, says)) = says
    by (inr (past, none)) = absurd (omega (arith, past, less))

  -- who has an item is a worker of the workload
  within : (worker i : ℕ) (x : Made) → slice_get (mine worker) i ≡ Some x → worker < told.plan.workers
  within worker i x at = by (at_worker worker) where
    by : ((worker < told.plan.workers) × SaysFronts (mine worker) (items_of told.items worker)) ⊎ ((told.plan.workers ≤ worker) × (mine worker ≡ [])) → worker < told.plan.workers
    by (inl (less, says)) = less
    by (inr (past, none)) = absurd (none-some x (sym (ap (λ (l : List Made). slice_get l i) none) ∙ at))

  calls_are : (worker : ℕ) → calls_by told.plan.workers told.items worker ≡ length (calls_of (record_of claim account) worker)
  calls_are worker = by (at_worker worker) where
    by : ((worker < told.plan.workers) × SaysFronts (mine worker) (items_of told.items worker)) ⊎ ((told.plan.workers ≤ worker) × (mine worker ≡ [])) → calls_by told.plan.workers told.items worker ≡ length (shared_in (mine worker))
    by (inl (less, says)) =
        let all = calls_last at_start (mine worker) (items_of told.items worker) says in
        ap (λ (b : Bool). cond b (last_of told.items worker).calls 0) (lt-ltb worker told.plan.workers less) ∙ (let calls : (last_of told.items worker).calls ≡ length (shared_in (mine worker)) = omega (arith, all) in calls)
    by (inr (past, none)) = ap (λ (b : Bool). cond b (last_of told.items worker).calls 0) (not_below worker told.plan.workers past) ∙ sym (ap (λ (l : List Made). length (shared_in l)) none)

  pub keeps : KeepFronts told.plan.workers told.items → KeepsFronts (record_of claim account)
  keeps keep = record {
    rises = λ worker i j x y before at_i at_j. (goes worker (within worker i x at_i)).rises i j x y before at_i at_j;
    own = λ worker i x at. let own = (goes worker (within worker i x at)).own i x at in omega (arith, own);
    made = λ worker i other x at.
        let less = within worker i x at in
        let last = front_last worker at_start (mine worker) (items_of told.items worker) (below worker less) (keep.each worker less) i x at other in
        let most = keep.made worker other less in
        let calls = calls_are other in
        omega (arith, last, most, calls);
  } where
    goes : (worker : ℕ) → worker < told.plan.workers → GoesOn worker at_start (mine worker)
    goes worker less = goes_on worker at_start (mine worker) (items_of told.items worker) (below worker less) (keep.each worker less)

  module _ (law : KeepsFronts (record_of claim account)) where
    stands : (worker : ℕ) → worker < told.plan.workers → AllStand worker at_start (items_of told.items worker)
    stands worker less = all_stand worker at_start (mine worker) (items_of told.items worker) (below worker less) (record {
      above = λ i x at c. omega arith;
      rises = λ i j x y before at_i at_j. law.rises worker i j x y before at_i at_j;
      own = λ i x at. let own = law.own worker i x at in omega (arith, own);
    })

    pub kept_along : KeepFronts told.plan.workers told.items
    kept_along = record {
      each = stands;
      made = λ worker other less.
          let most = last_below (λ c. length (calls_of (record_of claim account) c)) at_start (mine worker) (items_of told.items worker) (below worker less) (λ c. omega arith) (λ i x at c. law.made worker i c x at) other in
          let calls = calls_are other in
          omega (arith, most, calls);
    }

    pub none_fails : SomeFails told.plan.workers told.items → ⊥
    none_fails (worker, less, fails) = fails (stands worker less)

-- ---- the clause `front`

pub same_functions : (f g : ℕ → List Item) → ((c : ℕ) → f c ≡ g c) → f ≡ g
same_functions f g each = λ i c. each c i

module _ (claim : Claim) (calls : ℕ → List Item) (are : (account : Account) (c : ℕ) → calls_of (record_of claim account) c ≡ calls c) where
  -- it is the law of the calls, and that of the whole lists, with whichever account
  pub front_holds : UpTo claim clauses.Legal → LawfulFronts calls → ((account : Account) → KeepsFronts (record_of claim account)) → UpTo claim clauses.Front
  front_holds (account, holds) lawful keep = (account, by) where
    by : (earlier : Clause) → place_of earlier ≤ 2 → Holds claim account earlier
    by clauses.Spell early = holds clauses.Spell (omega arith)
    by clauses.Legal early = holds clauses.Legal (omega arith)
    by clauses.Front early = record { calls = subst LawfulFronts (sym (same_functions (calls_of (record_of claim account)) calls (are account))) lawful; items = keep account }
    by clauses.Range early = absurd (omega (arith, early))
    by clauses.Machine early = absurd (omega (arith, early))
    by clauses.Edge early = absurd (omega (arith, early))
    by clauses.End early = absurd (omega (arith, early))
    by clauses.Stop early = absurd (omega (arith, early))
    by clauses.Report early = absurd (omega (arith, early))

  fronts : UpTo claim clauses.Front → (account : Account) × HasFronts claim account
  fronts (account, holds) = (account, holds clauses.Front (omega arith))

  pub calls_lawful : UpTo claim clauses.Front → LawfulFronts calls
  calls_lawful up = let (account, has) = fronts up in subst LawfulFronts (same_functions (calls_of (record_of claim account)) calls (are account)) has.calls

pub some_keeps : (claim : Claim) → UpTo claim clauses.Front → (account : Account) × KeepsFronts (record_of claim account)
some_keeps claim (account, holds) = let has : HasFronts claim account = holds clauses.Front (omega arith) in (account, has.items)
