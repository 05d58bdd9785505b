-- What the items of a worker are, as long as the run goes on, and the line that they are at a moment.
use Rattle.std.proofs.Common.{◌≡◌, ◌≢◌, ℕ, zero, suc, ◌+◌, ◌<◌, Bool, true, false, cond, List, [], ◌∷◌, ◌++◌, map, drop, filter, length, get_or, Option, Some, None, inl, inr, ◌⊎◌, refl, sym, ap, ◌∙◌, subst, append-nil, append_assoc, arith}
use Rattle.std.specs.Prelude.{◌==◌, Ok, nat_lt, slice_get}
use Rattle.std.proofs.lemmas.Bool.{lt-ltb, ltb-true}
use Rattle.std.proofs.lemmas.List.{length-map}
use Rattle.sync_model.specs.declared.answer.Answer.TheVariants.{Done}
use Rattle.script_calls.specs.Runs.{passed_over, left_of, made_of, RunsAlong}
use Rattle.script_calls.specs.declared.call.Call.{Call}
use Rattle.script_calls.specs.declared.call.Reply.{Reply}
use Rattle.sync_types.specs.declared.misuse.Misuse.{Misuse}
use Rattle.protocols.specs.Spelling.{CallAnswer}
use Rattle.workload.specs.Dialect.{has_variables}
use Rattle.workload.specs.declared.object.ObjectKind.{ObjectKind}
use Rattle.workload.specs.declared.object.ObjectLine.{ObjectLine}
use Rattle.workload.specs.Draft.{all_keys, is_access_operation}
use Rattle.workload.specs.Keys.{keys_in, key_number}
use Rattle.workload.specs.Plan.{Plan, is_dormant}
use Rattle.run_record.specs.Calls.{SpellsCall}
use Rattle.run_record.specs.Lines.{SpeltCall, LineEnd, whole, misused, unfinished, AreHalts, AreSpelt, OpensBy, EndsBy}
use Rattle.run_record.specs.Record.{shared_in}
use Rattle.run_record.specs.StartsKind.{done_part}
use Rattle.run_record.specs.declared.made.Made.{Made}
use Rattle.step_runner.specs.declared.turns.object_state.ObjectState.{ObjectState}
use Rattle.step_runner.specs.declared.turns.item.Item.{Item}
use Rattle.step_runner.specs.MapKeys.{HasObjectKeysIn}
use Rattle.step_runner.specs.Objects.{new_object, kind_of, EachAt}
use Rattle.step_runner.specs.Stands.{IsOutBut}
use Rattle.step_runner.specs.StandsWithin.{IsReadyWithin, waits_within, IsWithinCall, StandsAfter, left_within}
use Rattle.step_runner.specs.TurnWithin.{turn_within, items_within}
use Rattle.step_runner.specs.Recorded.{recorded_reply, recorded}
use Rattle.step_runner.specs.Tells.{Tells}
use Rattle.step_runner.specs.Within.{IsIdle}
use Rattle.step_runner.specs.Spelt.{by_worker, opening_items, closing_items, ending_of, stays_by, has_made, came, Falls}
use Rattle.step_runner.specs.declared.state.Stand.{Stand}
use Rattle.step_runner.specs.declared.state.Stand.TheVariants.{Waits, Live, Gone}
use Rattle.step_runner.specs.State.{State, stand_of, StandsSo, IsStateOf}
use Rattle.step_runner.specs.Turns.{script_left, closing_calls, begun_by, next_call}
use Rattle.step_runner.proofs.NextCalls.{IsOfScript, IsClosing, live_left, next_is, none_next}
use Rattle.step_runner.proofs.Numbered.{NamesAside}
use Rattle.step_runner.proofs.ScriptRuns.{none_first, none_left}
use Rattle.step_runner.proofs.NoAccess.{no_access}
use Rattle.step_runner.proofs.SpeltSome.{some_left}
use Rattle.step_runner.proofs.SpeltStarts.{stays, opens, none_done, done_spelt, closes, closes_later}
use Rattle.step_runner.proofs.SpeltTurns.{items_in, count_in, made_in, ByTurns}
use Rattle.step_runner.proofs.TurnLemmas.{ready, true_false, valid_scripts}

-- what the laws of runs say
pub record RunsTold : Type 0 where
  pub told : (script rest : List Call) (made : List (Call × Reply ℕ)) → RunsAlong script made rest
      → (map (λ (one : Call × Reply ℕ). one.0) made ≡ made_of script (map (λ (one : Call × Reply ℕ). one.1) made)) × (rest ≡ left_of script (map (λ (one : Call × Reply ℕ). one.1) made))
  pub along : (script : List Call) (made : List (Call × Reply ℕ)) (call : Call) (rest : List Call) (reply : Reply ℕ) → RunsAlong script made (call ∷ rest)
      → RunsAlong script (made ++ (call, reply) ∷ []) (drop (passed_over call reply) rest)
  pub names : NamesAside

-- what the laws of turns say
pub record Spells : Type 0 where
  pub own : (plan : Plan) (worker before moment begun : ℕ) (call : Call) (objects : List ObjectState) → IsReadyWithin plan.workers worker call objects → is_access_operation call.operation ≡ false
      → EachAt (λ place. HasObjectKeysIn (all_keys plan.scripts)) objects → IsOutBut (waits_within (map kind_of objects) call begun) worker objects → IsWithinCall worker call begun objects
      → Tells plan (left_within plan worker before call objects begun)
      (left_within plan worker (before + length (shared_in (recorded plan before (items_within call worker moment begun objects)))) call (turn_within call worker moment begun objects).0.0 (turn_within call worker moment begun objects).0.1)
      (recorded plan before (items_within call worker moment begun objects)) (turn_within call worker moment begun objects).1
      × StandsAfter worker call (turn_within call worker moment begun objects).1 (turn_within call worker moment begun objects).0.1 (turn_within call worker moment begun objects).0.0
  pub others : (plan : Plan) (worker other before moment begun later : ℕ) (own call : Call) (objects : List ObjectState) → IsReadyWithin plan.workers worker own objects → IsReadyWithin plan.workers other call objects → worker ≢ other
      → (IsWithinCall worker own begun objects → IsWithinCall worker own begun (turn_within call other moment later objects).0.0)
      × ((items : List Made) (answer : CallAnswer (Reply ℕ)) → left_within plan worker before own (turn_within call other moment later objects).0.0 begun items answer → left_within plan worker before own objects begun items answer)
  pub idle : (workers worker other moment begun : ℕ) (call : Call) (objects : List ObjectState) → IsReadyWithin workers other call objects → worker ≢ other
      → EachAt (λ place. IsIdle worker) objects → EachAt (λ place. IsIdle worker) (turn_within call other moment begun objects).0.0
  pub begins : (worker workers room : ℕ) (keys : List (List ℕ)) (kind : ObjectKind) → IsIdle worker (new_object workers room keys kind)
  pub enters : (plan : Plan) (worker before : ℕ) (call : Call) (objects : List ObjectState) → IsReadyWithin plan.workers worker call objects → map kind_of objects ≡ map (λ (line : ObjectLine). line.kind) plan.objects
      → EachAt (λ place. IsIdle worker) objects → IsOutBut None worker objects
      → IsWithinCall worker call 0 objects × ((items : List Made) (answer : CallAnswer (Reply ℕ)) → left_within plan worker before call objects 0 items answer → SpellsCall plan worker before call items answer)
  pub goes_on : (plan : Plan) (worker before begun : ℕ) (call : Call) (objects : List ObjectState) → IsReadyWithin plan.workers worker call objects → is_access_operation call.operation ≡ false
      → (later : List Made) × (answer : CallAnswer (Reply ℕ)) × left_within plan worker before call objects begun later answer
  pub by_itself : (worker moment begun : ℕ) (call : Call) (objects : List ObjectState) → filter (λ item. item.caller == worker) (items_within call worker moment begun objects) ≡ items_within call worker moment begun objects
  pub runs : RunsTold
  pub by_no_other : (worker other moment begun : ℕ) (call : Call) (objects : List ObjectState) → worker ≢ other → filter (λ item. item.caller == other) (items_within call worker moment begun objects) ≡ []

-- ---- what is so of a worker's items so far

-- the items so far, and those that turns made for each worker's call of each number
pub record Trace : Type 0 where
  pub all : List Item
  pub parts : ℕ → ℕ → List Item

-- the completed calls with their replies, as a line has them
abbrev pub calls_in : List SpeltCall → List (Call × Reply ℕ)
calls_in spelt = map (λ (x : SpeltCall). (x.call, x.reply)) spelt

-- They fall into the completed calls of a run of its script, which were answered so, and what stands behind them. One that waits to be started and made nothing completed no call
pub record Fallen (plan : Plan) (worker : ℕ) (made : Trace) (given : List (Reply (List ℕ))) : Type 0 where
  pub spelt : List SpeltCall
  pub last : List Made
  pub rest : List Call
  pub runs : RunsAlong (get_or plan.scripts worker []) (calls_in spelt) rest
  pub replies : map (λ (x : SpeltCall). x.reply) spelt ≡ map (recorded_reply plan) given
  pub items : items_in spelt ++ last ≡ made_in plan made.all worker
  pub turns : ByTurns plan spelt last (made.parts worker)
  pub are : AreSpelt plan worker 0 spelt
  pub asleep : is_dormant plan worker ≡ true → by_worker worker made.all ≡ [] → spelt ≡ []

-- Before no call: one that waits to be started has begun nothing, and one that is gone is done with its group
abbrev pub Rests : Plan → ℕ → List Made → Stand → ℕ → Type 0
Rests plan worker last Waits begun = (last ≡ []) × (begun ≡ 0)
Rests plan worker last Live begun = last ≡ []
Rests plan worker last Gone begun = done_part plan worker last (Done (Ok tt))

-- within its next call, if there is one: with whatever items spell what is left, the last ones spell the call. Else it stands nowhere
abbrev pub StandsAs : Plan → ℕ → ℕ → List Made → Stand → Option Call → ℕ → List ObjectState → Type 0
StandsAs plan worker before last stand None begun objects = Rests plan worker last stand begun × EachAt (λ place. IsIdle worker) objects
StandsAs plan worker before last stand (Some call) begun objects =
    IsWithinCall worker call begun objects × ((later : List Made) (answer : CallAnswer (Reply ℕ)) → left_within plan worker (before + count_in last) call objects begun later answer → SpellsCall plan worker before call (last ++ later) answer)

pub record SoFar (plan : Plan) (worker : ℕ) (made : Trace) (s : State) : Type 0 where
  pub fallen : Fallen plan worker made (get_or s.replies worker [])
  pub unstarted : stand_of worker s ≡ Waits → by_worker worker made.all ≡ []
  pub stands : StandsAs plan worker (count_in (items_in fallen.spelt)) fallen.last (stand_of worker s) (next_call plan worker s) (begun_by worker s) s.objects

-- ---- as a line

abbrev pub FallsAs : Plan → Bool → ℕ → Trace → List (Reply (List ℕ)) → Option Call → Option Misuse → Type 0
FallsAs plan over worker made given next met = Falls plan over worker made.all (made.parts worker) given next met

none_last : (earlier later : List Made) → earlier ++ later ≡ [] → later ≡ []
none_last [] later none = none
none_last (x ∷ earlier) later none = absurd cc

-- who didn't come waits to be started, and made nothing
pub not_come : (plan : Plan) (made : List Item) (worker : ℕ) → came plan made worker ≡ false → (is_dormant plan worker ≡ true) × (by_worker worker made ≡ [])
not_come plan made worker is = by_sort (is_dormant plan worker) (by_worker worker made) is
  where
    by_sort : (b : Bool) (items : List Item) → cond b (has_made items) true ≡ false → (b ≡ true) × (items ≡ [])
    by_sort true [] is = (refl, refl)
    by_sort true (item ∷ items) is = absurd cc
    by_sort false items is = absurd cc

module _ (plan : Plan) (over : Bool) (worker : ℕ) (made : Trace) (given : List (Reply (List ℕ))) (next : Option Call) (met : Option Misuse) (f : Fallen plan worker made given) where
  abbrev FallsSo : Type 0
  FallsSo = FallsAs plan over worker made given next met

  abbrev spelt_items : List Made
  spelt_items = items_in f.spelt

  -- by what stands before and behind the script
  line_by : (ending : LineEnd) → ending ≡ ending_of (came plan made.all worker) over next met → OpensBy plan worker ending f.spelt (opening_items plan worker ending)
      → EndsBy plan worker (count_in spelt_items) ending f.rest (f.last ++ closing_items plan worker ending) → AreHalts ending [] → FallsSo
  line_by ending is opens ends halts =
      let closed = closing_items plan worker ending in
      let list : spelt_items ++ ((f.last ++ closed) ++ []) ≡ made_in plan made.all worker ++ closed =
      ap (λ (l : List Made). spelt_items ++ l) (append-nil (f.last ++ closed)) ∙ sym (append_assoc spelt_items f.last closed) ∙ ap (λ (l : List Made). l ++ closed) f.items in
      record {
        line = record { first = opening_items plan worker ending; spelt = f.spelt; last = f.last ++ closed; halts = []; rest = f.rest; ending = ending };
        runs = f.runs;
        items = ap (λ (l : List Made). opening_items plan worker ending ++ l) list;
        replies = f.replies;
        turns = f.turns.each;
        before = refl;
        behind = ap (λ (l : List Made). l ++ closed) f.turns.current;
        ends = is;
        is = record { opens = opens; calls = f.are; ends = ends; halts = halts };
        halts = refl;
      }

  -- of one that didn't come
  pub stayed_line : came plan made.all worker ≡ false → FallsSo
  stayed_line is =
      let still = not_come plan made.all worker is in
      let nothing : spelt_items ++ f.last ≡ [] = f.items ∙ ap (recorded plan 0) still.1 in
      line_by (stays_by over) (sym (ap (λ (b : Bool). ending_of b over next met) is)) (f.asleep still.0 still.1, stays plan worker over still.0) (append-nil f.last ∙ none_last spelt_items f.last nothing) refl

  -- of one whose call is a misuse
  pub misused_line : (misuse : Misuse) → met ≡ Some misuse → came plan made.all worker ≡ true → EndsBy plan worker (count_in spelt_items) (misused misuse) f.rest f.last → FallsSo
  misused_line misuse meets is ends =
      line_by (misused misuse) (sym (λ i. ending_of (is i) over next (meets i))) (opens plan worker) (subst (EndsBy plan worker (count_in spelt_items) (misused misuse) f.rest) (sym (append-nil f.last)) ends)
      (λ k d below. absurd (omega (arith, below)))

-- ---- at a moment

-- who isn't a worker has no script
beyond : (lists : List (List Call)) (k : ℕ) → (k < length lists → ⊥) → get_or lists k [] ≡ []
beyond [] k far = refl
beyond (list ∷ lists) zero far = absurd (far (omega arith))
beyond (list ∷ lists) (suc k) far = beyond lists k (λ below. far (omega (arith, below)))

waits_there : (stands : List Stand) (worker : ℕ) → get_or stands worker Gone ≡ Waits → worker < length stands
waits_there [] worker waits = absurd cc
waits_there (x ∷ stands) zero waits = omega arith
waits_there (x ∷ stands) (suc worker) waits = omega (arith, waits_there stands worker waits)

-- whoever is gone made all of its script
gone_left : (plan : Plan) (worker : ℕ) (s : State) → IsStateOf plan s → stand_of worker s ≡ Gone → script_left plan worker s ≡ []
gone_left plan worker s of gone = by_range (nat_lt worker plan.workers) refl
  where
    by_range : (b : Bool) → nat_lt worker plan.workers ≡ b → script_left plan worker s ≡ []
    by_range true is = (subst (StandsSo plan worker (get_or s.replies worker [])) gone (of.each worker (ltb-true worker plan.workers is))).1
    by_range false is =
        let none : get_or plan.scripts worker [] ≡ [] = beyond plan.scripts worker (λ below. true_false (sym (lt-ltb worker plan.workers (omega (arith, below, valid_scripts plan of.valid))) ∙ is)) in
        ap (λ (script : List Call). left_of script (get_or s.replies worker [])) none ∙ none_left (get_or s.replies worker [])

-- the rest is what the worker's replies leave of its script
pub rest_left : Spells → (plan : Plan) (worker : ℕ) (made : Trace) (given : List (Reply (List ℕ))) (f : Fallen plan worker made given) → f.rest ≡ left_of (get_or plan.scripts worker []) given
rest_left laws plan worker made given f =
    let script = get_or plan.scripts worker [] in
    (laws.runs.told script f.rest (calls_in f.spelt) f.runs).1 ∙ ap (λ (given : List (Reply ℕ)). left_of script given) (replies_of f.spelt ∙ f.replies) ∙ laws.runs.names.left (key_number (keys_in plan.scripts)) script given
  where
    replies_of : (spelt : List SpeltCall) → map (λ (one : Call × Reply ℕ). one.1) (calls_in spelt) ≡ map (λ (x : SpeltCall). x.reply) spelt
    replies_of [] = refl
    replies_of (one ∷ spelt) = ap (λ (l : List (Reply ℕ)). one.reply ∷ l) (replies_of spelt)

-- it has as many replies as calls were completed
pub count_spelt : (plan : Plan) (worker : ℕ) (made : Trace) (given : List (Reply (List ℕ))) (f : Fallen plan worker made given) → length given ≡ length f.spelt
count_spelt plan worker made given f = sym (length-map given (recorded_reply plan)) ∙ ap (length {A = Reply ℕ}) (sym f.replies) ∙ length-map f.spelt (λ (x : SpeltCall). x.reply)

module _ (laws : Spells) (plan : Plan) (plain : has_variables plan ≡ false) (over : Bool) (worker : ℕ) (made : Trace) (s : State) (of : IsStateOf plan s) (h : SoFar plan worker made s) where
  abbrev given : List (Reply (List ℕ))
  given = get_or s.replies worker []

  abbrev f : Fallen plan worker made given
  f = h.fallen

  abbrev before : ℕ
  before = count_in (items_in f.spelt)

  abbrev FallsNow : Type 0
  FallsNow = FallsAs plan over worker made given (next_call plan worker s) None

  stands_by : (o : Option Call) → next_call plan worker s ≡ o → StandsAs plan worker before f.last (stand_of worker s) o (begun_by worker s) s.objects
  stands_by o is = subst (λ (o : Option Call). StandsAs plan worker before f.last (stand_of worker s) o (begun_by worker s) s.objects) is h.stands

  ends_by : (o : Option Call) (ending : LineEnd) → next_call plan worker s ≡ o → came plan made.all worker ≡ true → ending ≡ ending_of true over o None → ending ≡ ending_of (came plan made.all worker) over (next_call plan worker s) None
  ends_by o ending none is same = same ∙ sym (λ i. ending_of (is i) over (none i) None)

  -- who waits to be started didn't come
  came_started : came plan made.all worker ≡ true → stand_of worker s ≡ Waits → ⊥
  came_started is waits =
      let asleep : is_dormant plan worker ≡ true = (subst (StandsSo plan worker given) waits (of.each worker (omega (arith, waits_there s.stands worker waits, of.count)))).0 in
      true_false (sym is ∙ (λ i. cond (asleep i) (has_made (h.unstarted waits i)) true))

  -- of one that stands before no call: its script is at its end, and it did on its group what it had to
  at_end : came plan made.all worker ≡ true → next_call plan worker s ≡ None → (stand : Stand) → stand_of worker s ≡ stand → (script_left plan worker s ≡ []) × done_part plan worker f.last (Done (Ok tt))
  at_end is none Waits waits = absurd (came_started is waits)
  at_end is none Live live =
      let left = none_next plan worker s live none in
      let last : f.last ≡ [] = subst (λ (stand : Stand). Rests plan worker f.last stand (begun_by worker s)) live (stands_by None none).0 in
      let closing : closing_calls plan worker ≡ [] =
      none_first (closing_calls plan worker) (ap (λ (l : List Call). slice_get l 0) (sym (live_left plan worker s live ∙ ap (λ (l : List Call). l ++ closing_calls plan worker) left)) ∙ none) in
      (left, subst (λ (l : List Made). done_part plan worker l (Done (Ok tt))) (sym last) (none_done plan worker closing))
  at_end is none Gone gone = (gone_left plan worker s of gone, subst (λ (stand : Stand). Rests plan worker f.last stand (begun_by worker s)) gone (stands_by None none).0)

  whole_line : came plan made.all worker ≡ true → next_call plan worker s ≡ None → FallsNow
  whole_line is none =
      let ends = at_end is none (stand_of worker s) refl in
      line_by plan over worker made given (next_call plan worker s) None f whole (ends_by None whole none is refl) (opens plan worker) (rest_left laws plan worker made given f ∙ ends.0, closes plan worker f.last ends.1) refl

  -- of one that stands before a call of its script, or the `done` behind it, or within it
  unfinished_line : (call : Call) → came plan made.all worker ≡ true → next_call plan worker s ≡ Some call → FallsNow
  unfinished_line call is some =
      line_by plan over worker made given (next_call plan worker s) None f unfinished (ends_by (Some call) unfinished some is refl) (opens plan worker)
      (subst (EndsBy plan worker before unfinished f.rest) (sym (append-nil f.last)) (subst (λ (rest : List Call). EndsBy plan worker before unfinished rest f.last) (sym (rest_left laws plan worker made given f)) (by_sort (next_is plan worker s call some)))) refl
    where
      can : (later : List Made) × (answer : CallAnswer (Reply ℕ)) × left_within plan worker (before + count_in f.last) call s.objects (begun_by worker s) later answer
      can = laws.goes_on plan worker (before + count_in f.last) (begun_by worker s) call s.objects (ready plan worker s call of some) (no_access plan.workers worker call.operation call.object s.objects plan plain of.objects (ready plan worker s call of some))

      spells : SpellsCall plan worker before call (f.last ++ can.0) can.1
      spells = (stands_by (Some call) some).1 can.0 can.1 can.2

      by_sort : IsOfScript plan worker given call ⊎ IsClosing plan worker given call → EndsBy plan worker before unfinished (script_left plan worker s) f.last
      by_sort (inl is) = subst (λ (rest : List Call). EndsBy plan worker before unfinished rest f.last) (sym is.left) (can.0, can.1, spells)
      by_sort (inr is) =
          let some : can.0 ≢ [] = some_left plan worker (before + count_in f.last) is.group s.objects (begun_by worker s) can.0 can.1
          (subst (λ (c : Call). left_within plan worker (before + count_in f.last) c s.objects (begun_by worker s) can.0 can.1) is.is can.2) in
          let done = done_spelt plan worker before is.group (f.last ++ can.0) can.1 is.waits is.under (subst (λ (c : Call). SpellsCall plan worker before c (f.last ++ can.0) can.1) is.is spells) in
          subst (λ (rest : List Call). EndsBy plan worker before unfinished rest f.last) (sym is.none) (closes_later plan worker is.waits f.last can.0 _ some done)

  pub ends_line : FallsNow
  ends_line = by_came (came plan made.all worker) refl
    where
      by_next : came plan made.all worker ≡ true → (o : Option Call) → next_call plan worker s ≡ o → FallsNow
      by_next is None none = whole_line is none
      by_next is (Some call) some = unfinished_line call is some

      by_came : (b : Bool) → came plan made.all worker ≡ b → FallsNow
      by_came true is = by_next is (next_call plan worker s) refl
      by_came false is = stayed_line plan over worker made given (next_call plan worker s) None f is
