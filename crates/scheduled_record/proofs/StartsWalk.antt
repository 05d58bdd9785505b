-- Along the turns of a run the machine Starts stands as the run's workers do.
use Rattle.std.proofs.Common.{◌≡◌, ℕ, zero, suc, ◌+◌, ◌<◌, ◌==◌, Bool, true, false, cond, List, [], ◌∷◌, ◌++◌, map, filter, fold, length, get_or, set, Option, Some, None, refl, sym, ap, ◌∙◌, subst}
use Rattle.std.specs.List.{AllByRecursion}
use Rattle.std.proofs.lemmas.Bool.{eqb-true}
use Rattle.std.proofs.lemmas.List.Sums.{fold-append}
use Rattle.script_calls.specs.Starts.{started_by}
use Rattle.script_calls.specs.declared.call.Call.{Call}
use Rattle.script_calls.specs.declared.call.ComposedCall.TheVariants.{IfEqual, WaitFor, Go}
use Rattle.script_calls.specs.declared.call.Operation.{Operation}
use Rattle.script_calls.specs.declared.call.Operation.TheVariants as operations
use Rattle.starts_core.specs.StartsMachine.{StartsState, begun}
use Rattle.workload.specs.Plan.{Plan, has_dormant}
use Rattle.run_record.specs.declared.entered.ObjectEvent.TheVariants as events
use Rattle.run_record.specs.Objects.{first_part, starts_number}
use Rattle.kept_record.specs.Acts.{deeds_on}
use Rattle.kept_record.specs.Keeping.{Act}
use Rattle.step_runner.specs.declared.state.Stand.{Stand}
use Rattle.step_runner.specs.declared.state.Stand.TheVariants.{Waits, Live, Gone}
use Rattle.step_runner.specs.declared.turns.answer.Answer.{Answer}
use Rattle.step_runner.specs.declared.turns.answer.Answer.TheVariants as answers
use Rattle.step_runner.specs.declared.turns.item.Deed.{Deed}
use Rattle.step_runner.specs.declared.turns.item.Deed.TheVariants as deeds
use Rattle.step_runner.specs.declared.turns.item.Item.{Item}
use Rattle.step_runner.specs.declared.turns.object_state.ObjectState.{ObjectState}
use Rattle.step_runner.specs.State.{State, woken, stands_behind, IsStateOf}
use Rattle.step_runner.specs.TurnWithin.{add_one, start_item, start_items, turn_by_operation, items_by_operation, items_within}
use Rattle.step_runner.specs.TurnAtObjects.{turn_at}
use Rattle.step_runner.specs.Items.{items_at}
use Rattle.step_runner.specs.Turns.{is_behind, completed, settled_by, begun_by}
use Rattle.scheduled_record.specs.RunActs.{waits_still, with_item}
use Rattle.scheduled_record.specs.ItemsOf.{HasPool, IsDeedOn, IsItemOf, AreItemsOf}
use Rattle.scheduled_record.proofs.InRange.{IsCallOf, at_in, within_in}
use Rattle.scheduled_record.proofs.OnObjects.{Told}
use Rattle.scheduled_record.proofs.RunInRange.{is_one, long, fits}
use Rattle.scheduled_record.proofs.StartsLed.{place_by, state_by, Leads, nothing_led, joined_led, goes_led, starts_led}
use Rattle.scheduled_record.proofs.StartsOn.{told_starts, told_going, of_one}

-- what the law of items says: all items of a turn are its worker's
abbrev pub AreOwn : Type 0
AreOwn = (worker moment begun : ℕ) (call : Call) (objects : List ObjectState) → filter (λ item. item.caller == worker) (items_within call worker moment begun objects) ≡ items_within call worker moment begun objects

-- ---- plain items: those that do nothing on Starts

abbrev ArePlain : List Item → Type 0
ArePlain items = AllByRecursion (λ item. told_starts item.caller item.deed ≡ []) items

-- the plan with no worker that waits to be started
abbrev undormant : Plan → Plan
undormant plan = record plan { dormant = [] }

plain_deed : (plan : Plan) (object caller : ℕ) (deed : Deed) → IsDeedOn (undormant plan) object deed → told_starts caller deed ≡ []
plain_deed plan object caller (deeds.Placed operation reply) on = refl
plain_deed plan object caller (deeds.Entered (events.Starts event) answer) on = absurd (no on) where
  no : false ≡ true → ⊥
  no same = cc
plain_deed plan object caller (deeds.Entered event answer) on = refl

plain_of : (plan : Plan) (made : List Item) → AreItemsOf (undormant plan) made → ArePlain made
plain_of plan [] all = tt
plain_of plan (item ∷ made) all = (plain_deed plan item.object item.caller item.deed all.0.on, plain_of plan made all.1)

-- ---- items of one worker

all_pass : (p : Item → Bool) (made : List Item) → AllByRecursion (λ item. p item ≡ true) (filter p made)
all_pass p [] = tt
all_pass p (item ∷ made) = chosen (p item) refl (all_pass p made) where
  chosen : (b : Bool) → p item ≡ b → AllByRecursion (λ item. p item ≡ true) (filter p made) → AllByRecursion (λ item. p item ≡ true) (cond b (item ∷ filter p made) (filter p made))
  chosen true is rest = (is, rest)
  chosen false is rest = rest

abbrev AreBy : ℕ → List Item → Type 0
AreBy worker made = AllByRecursion (λ item. (item.caller == worker) ≡ true) made

by_own : (worker : ℕ) (made : List Item) → filter (λ item. item.caller == worker) made ≡ made → AreBy worker made
by_own worker made same = subst (λ (l : List Item). AreBy worker l) same (all_pass (λ item. item.caller == worker) made)

-- ---- the stands behind a turn

abbrev pub stands_after : Bool → ℕ → Option ℕ → Answer → List Stand → List Stand
stands_after behind w started answers.Still stands = stands
stands_after behind w started answers.Unfinished stands = stands
stands_after behind w started (answers.Completed reply) stands = cond behind (set stands w Gone) (stands_behind started stands)
stands_after behind w started (answers.Misused misuse) stands = stands

pub settled_stands : (plan : Plan) (w : ℕ) (call : Call) (answer : Answer) (s : State) → (settled_by (completed plan w call) answer s).0.stands ≡ stands_after (is_behind plan w s) w (started_by call.operation) answer s.stands
settled_stands plan w call answers.Still s = refl
settled_stands plan w call answers.Unfinished s = refl
settled_stands plan w call (answers.Completed reply) s = chosen (is_behind plan w s) where
  chosen : (b : Bool) → (cond b (record s { stands = set s.stands w Gone }) (record s { replies = set s.replies w (get_or s.replies w [] ++ reply ∷ []); begun = set s.begun w 0; stands = stands_behind (started_by call.operation) s.stands })).stands
      ≡ cond b (set s.stands w Gone) (stands_behind (started_by call.operation) s.stands)
  chosen true = refl
  chosen false = refl
settled_stands plan w call (answers.Misused misuse) s = refl

-- a live worker that is gone has its place still
gone_same : (stands : List Stand) (w : ℕ) → get_or stands w Gone ≡ Live → map place_by (set stands w Gone) ≡ map place_by stands
gone_same [] w is = refl
gone_same (Waits ∷ stands) zero is = absurd (no is) where
  no : Waits ≡ Live → ⊥
  no same = cc
gone_same (Live ∷ stands) zero is = refl
gone_same (Gone ∷ stands) zero is = refl
gone_same (stand ∷ stands) (suc w) is = ap (λ l. place_by stand ∷ l) (gone_same stands w is)

module _ (plan : Plan) (parts : (place part : ℕ) → HasPool plan place → part < plan.workers → first_part plan place + part < starts_number plan) (some : has_dormant plan ≡ true) (own : AreOwn) where
  abbrev on : List Act → List Told
  on acts = deeds_on (starts_number plan) acts

  abbrev first : StartsState
  first = begun plan.dormant

  abbrev with_items : List Act → List Item → List Act
  with_items acts made = fold (with_item plan) acts made

  -- one item of a live worker more
  item_led : (acts : List Act) (item : Item) (stands after : List Stand) → IsItemOf plan item → item.caller < length stands → get_or stands item.caller Gone ≡ Live → Leads (state_by stands) (told_starts item.caller item.deed) (state_by after)
      → Leads first (on acts) (state_by stands) → Leads first (on (with_item plan acts item)) (state_by after)
  item_led acts item stands after is within at made led =
      subst (λ (l : List Told). Leads first l (state_by after)) (sym (of_one plan parts acts item is))
      (joined_led first (state_by stands) (state_by after) (on acts) (told_going (waits_still plan acts item.caller) item.caller ++ told_starts item.caller item.deed) led
      (joined_led (state_by stands) (state_by stands) (state_by after) (told_going (waits_still plan acts item.caller) item.caller) (told_starts item.caller item.deed) (going (waits_still plan acts item.caller)) made))
    where
      going : (b : Bool) → Leads (state_by stands) (told_going b item.caller) (state_by stands)
      going true = goes_led stands item.caller within at
      going false = nothing_led (state_by stands)

  items_led : (made : List Item) (acts : List Act) (stands : List Stand) (w : ℕ) → AreItemsOf plan made → ArePlain made → AreBy w made → w < length stands → get_or stands w Gone ≡ Live
      → Leads first (on acts) (state_by stands) → Leads first (on (with_items acts made)) (state_by stands)
  items_led [] acts stands w all plain by within at led = led
  items_led (item ∷ made) acts stands w all plain by within at led =
      let same : item.caller ≡ w = eqb-true item.caller w by.0 in
      items_led made (with_item plan acts item) stands w all.1 plain.1 by.1 within at
      (item_led acts item stands stands all.0 (subst (λ (n : ℕ). n < length stands) (sym same) within) (ap (λ (n : ℕ). get_or stands n Gone) same ∙ at)
      (subst (λ (l : List Told). Leads (state_by stands) l (state_by stands)) (sym plain.0) (nothing_led (state_by stands))) led)

  -- ---- one turn

  module _ (s : State) (of : IsStateOf plan s) (w : ℕ) (call : Call) (at : get_or s.stands w Gone ≡ Live) (called : IsCallOf plan call.operation) (not_go : is_behind plan w s ≡ true → (started : ℕ) → call.operation ≡ operations.Composed (Go started) → ⊥) where
    within : w < plan.workers
    within = is_one plan s of w at

    within_stands : w < length s.stands
    within_stands = subst (λ (n : ℕ). w < n) (sym of.count) within

    abbrev behind : Bool
    behind = is_behind plan w s

    abbrev made_of : Operation → List Item
    made_of operation = items_by_operation call w s.moment (begun_by w s) s.objects operation

    abbrev answer_of : Operation → Answer
    answer_of operation = (turn_by_operation call w s.moment (begun_by w s) s.objects operation).1

    abbrev IsLed : List Act → Operation → Type 0
    IsLed acts operation = Leads first (on (with_items acts (made_of operation))) (state_by (stands_after behind w (started_by operation) (answer_of operation) s.stands))

    -- where nobody is started all places stay
    stay : (b : Bool) (answer : Answer) → state_by (stands_after b w None answer s.stands) ≡ state_by s.stands
    stay b answers.Still = refl
    stay b answers.Unfinished = refl
    stay true (answers.Completed reply) = ap (λ l. let x : StartsState = record { places = l } in x) (gone_same s.stands w at)
    stay false (answers.Completed reply) = refl
    stay b (answers.Misused misuse) = refl

    plain_led : (acts : List Act) (operation : Operation) → call.operation ≡ operation → started_by operation ≡ None → IsCallOf plan operation → IsCallOf (undormant plan) operation → Leads first (on acts) (state_by s.stands) → IsLed acts operation
    plain_led acts operation is none goes also led =
        let all : AreItemsOf plan (made_of operation) = subst (λ (o : Operation). AreItemsOf plan (made_of o)) is (within_in plan w s.moment within call (begun_by w s) s.objects (long plan s of w) (λ o. fits plan s of w call.object o) (subst (IsCallOf plan) (sym is) goes)) in
        let plain : AreItemsOf (undormant plan) (made_of operation) = subst (λ (o : Operation). AreItemsOf (undormant plan) (made_of o)) is (within_in (undormant plan) w s.moment within call (begun_by w s) s.objects (long plan s of w) (λ o. fits plan s of w call.object o) (subst (IsCallOf (undormant plan)) (sym is) also)) in
        let by : AreBy w (made_of operation) = subst (λ (o : Operation). AreBy w (made_of o)) is (by_own w (items_within call w s.moment (begun_by w s) s.objects) (own w s.moment (begun_by w s) call s.objects)) in
        subst (λ (p : StartsState). Leads first (on (with_items acts (made_of operation))) p) (sym (ap (λ (o : Option ℕ). state_by (stands_after behind w o (answer_of operation) s.stands)) none ∙ stay behind (answer_of operation)))
        (items_led (made_of operation) acts s.stands w all (plain_of plan (made_of operation) plain) by within_stands at led)

    go_led : (acts : List Act) (started : ℕ) → call.operation ≡ operations.Composed (Go started) → Leads first (on acts) (state_by s.stands) → IsLed acts (operations.Composed (Go started))
    go_led acts started is led =
        subst (λ (l : List Act). Leads first (on l) (state_by (stands_after behind w (Some started) (answer_of (operations.Composed (Go started))) s.stands))) (sym (fold-append (with_item plan) acts adds (start_items added (start_item w (length s.objects) started))))
        (by_answer behind refl added (items_led adds acts s.stands w all (plain_of plan adds plain) by within_stands at led))
      where
        adds : List Item
        adds = items_at (add_one call.object) w s.moment s.objects

        added : Answer
        added = (turn_at (add_one call.object) w s.moment s.objects).1

        all : AreItemsOf plan adds
        all = at_in plan w s.moment within s.objects (long plan s of w) (add_one call.object) tt (λ o there p same pool. absurd pool)

        plain : AreItemsOf (undormant plan) adds
        plain = at_in (undormant plan) w s.moment within s.objects (long plan s of w) (add_one call.object) tt (λ o there p same pool. absurd pool)

        by : AreBy w adds
        by = by_own w adds (own w s.moment (begun_by w s) (add_one call.object) s.objects)

        by_answer : (b : Bool) → is_behind plan w s ≡ b → (answer : Answer) → Leads first (on (with_items acts adds)) (state_by s.stands)
            → Leads first (on (with_items (with_items acts adds) (start_items answer (start_item w (length s.objects) started)))) (state_by (stands_after b w (Some started) answer s.stands))
        by_answer b over answers.Still so = so
        by_answer b over answers.Unfinished so = so
        by_answer true over (answers.Completed reply) so = absurd (not_go over started is)
        by_answer false over (answers.Completed reply) so =
            item_led (with_items acts adds) (start_item w (length s.objects) started) s.stands (set s.stands started (woken (get_or s.stands started Gone))) (record { caller = within; on = some }) within_stands at (starts_led s.stands w started within_stands) so
        by_answer b over (answers.Misused misuse) so = so

    by_operation : (acts : List Act) (operation : Operation) → call.operation ≡ operation → Leads first (on acts) (state_by s.stands) → IsLed acts operation
    by_operation acts (operations.Composed (Go started)) is led = go_led acts started is led
    by_operation acts (operations.Composed (IfEqual value passes)) is led = plain_led acts (operations.Composed (IfEqual value passes)) is refl tt tt led
    by_operation acts (operations.Composed (WaitFor atomic value tries)) is led = plain_led acts (operations.Composed (WaitFor atomic value tries)) is refl tt tt led
    by_operation acts (operations.Map map_call) is led = let key : IsCallOf plan (operations.Map map_call) = subst (IsCallOf plan) is called in plain_led acts (operations.Map map_call) is refl key key led
    by_operation acts operation is led = plain_led acts operation is refl tt tt led

    pub call_led : (acts : List Act) → Leads first (on acts) (state_by s.stands) → IsLed acts call.operation
    call_led acts led = by_operation acts call.operation refl led
