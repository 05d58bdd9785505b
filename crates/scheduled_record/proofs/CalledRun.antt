-- Of which call each item of a run that is done is told to be: of the one of which it is in any line of its worker's list.
use Rattle.std.proofs.Common.{◌≡◌, ℕ, ◌<◌, ◌==◌, ◌&&◌, not, Bool, true, false, cond, List, [], ◌∷◌, ◌++◌, map, drop, flat_map, length, replicate, get_or, Option, Some, None, refl, sym, ap, ◌∙◌, subst, append_assoc}
use Rattle.std.proofs.lemmas.List.{map-append}
use Rattle.script_calls.specs.declared.call.Call.{Call}
use Rattle.workload.specs.Plan.{Plan, is_dormant, has_dormant}
use Rattle.run_cuts.specs.Blind as blind
use Rattle.run_cuts.specs.CallsAlong.{calls_from, calls_along}
use Rattle.run_record.specs.declared.made.Made.{Made}
use Rattle.run_record.specs.declared.made.Made.TheVariants.{Shared, Entered}
use Rattle.run_record.specs.Lines.{whole, stayed, never, LineEnd, Line, items_of, IsLineOf, OpensBy, EndsBy}
use Rattle.run_record.specs.Record.{shared_in}
use Rattle.kept_record.specs.Alike.{IsAlike, AreAlike}
use Rattle.kept_record.specs.Keeping.{Act, made_by}
use Rattle.step_runner.specs.declared.trace.TraceItem.{TraceItem}
use Rattle.step_runner.specs.declared.turns.item.Item.{Item}
use Rattle.step_runner.specs.Spelt.{by_worker, opening_items, closing_items, has_made, came, ending_of}
use Rattle.step_runner.specs.Traces.{items_told}
use Rattle.scheduled_record.specs.RunActs.{acts_of, closing_acts}
use Rattle.scheduled_record.specs.ToldItems.{ToldAct, acts_in, told_with, told_by}
use Rattle.scheduled_record.proofs.CalledItems.{Called, called, called_in}
use Rattle.scheduled_record.proofs.CalledLines.{behind_line}
use Rattle.scheduled_record.proofs.CalledLists.{calls_by, items_in, recorded_calls}
use Rattle.scheduled_record.proofs.RunLists.{goes, before_by, before, none_waits, waits_then, ends, leaves, closing_of}

-- ---- the items of a trace

items_called : (index : Option ℕ) (items : List Item) → items_in (called index items) ≡ items
items_called index [] = refl
items_called index (item ∷ items) = ap (λ (l : List Item). item ∷ l) (items_called index items)

pub trace_items : (trace : List TraceItem) → items_in (called_in trace) ≡ items_told trace
trace_items [] = refl
trace_items (turn ∷ trace) = map-append (λ (one : Called). one.1) (called turn.index turn.made) (called_in trace) ∙ (λ i. items_called turn.index turn.made i ++ trace_items trace i)

-- ---- as the record has them

-- the acts of the record are of the same calls
pub with_calls : (worker : ℕ) (told : List ToldAct) (acts : List Act) → map (λ (act : Act). act.worker) (acts_in told) ≡ map (λ (act : Act). act.worker) acts → calls_by worker (told_with told acts) ≡ calls_by worker told
with_calls worker [] acts same = refl
with_calls worker (t ∷ told) [] same = absurd cc
with_calls worker (t ∷ told) (act ∷ acts) same =
    let heads : act.worker ≡ t.act.worker = sym (ap (λ (l : List ℕ). get_or l 0 0) same) in
    ap (λ (n : ℕ). map (λ (t : ToldAct). t.index) (cond (n == worker) (record { index = t.index; act = act } ∷ told_by worker (told_with told acts)) (told_by worker (told_with told acts)))) heads
    ∙ chosen (t.act.worker == worker) (with_calls worker told acts (ap (drop 1) same))
  where
    chosen : (b : Bool) → calls_by worker (told_with told acts) ≡ calls_by worker told
        → map (λ (t : ToldAct). t.index) (cond b (record { index = t.index; act = act } ∷ told_by worker (told_with told acts)) (told_by worker (told_with told acts))) ≡ map (λ (t : ToldAct). t.index) (cond b (t ∷ told_by worker told) (told_by worker told))
    chosen true rest = ap (λ (l : List (Option ℕ)). t.index ∷ l) rest
    chosen false rest = rest

-- items that ask and are answered alike spell alike
one_alike : (made other : Made) → IsAlike made other → blind.bare made ≡ blind.bare other
one_alike (Shared x) (Shared y) alike = λ i. Shared (record { call = alike.0 i; reply = alike.1 i; place = 0; entry = false; front = [] })
one_alike (Shared x) (Entered object entry) alike = absurd alike
one_alike (Entered object entry) (Shared y) alike = absurd alike
one_alike (Entered object entry) (Entered other later) alike = λ i. Entered (alike.0 i) (record { caller = 0; deed = alike.1 i; front = []; knew = 0; time = 0 })

pub all_alike : (items others : List Made) → AreAlike items others → blind.AreAlike items others
all_alike [] [] alike = refl
all_alike [] (other ∷ others) alike = absurd alike
all_alike (made ∷ items) [] alike = absurd alike
all_alike (made ∷ items) (other ∷ others) alike = λ i. one_alike made other alike.0 i ∷ all_alike items others alike.1 i

-- ---- one worker's line

no_items : (items : List Called) → has_made (items_in items) ≡ false → items ≡ []
no_items [] none = refl
no_items (one ∷ items) none = absurd cc

module _ (plan : Plan) (w : ℕ) (within : w < plan.workers) (items : List Item) (own : List Called) (line : Line) (last : List Made)
    (mine : by_worker w items ≡ items_in own) (opens : line.first ≡ opening_items plan w line.ending) (closes : line.last ≡ last ++ closing_items plan w line.ending)
    (calls : recorded_calls plan 0 own ≡ calls_from 0 line.spelt line.rest last) (is : IsLineOf plan w line) (ending : line.ending ≡ ending_of (came plan items w) true None None) where
  abbrev some : Bool
  some = has_made (by_worker w items)

  abbrev closed : List Made
  closed = made_by w (closing_acts plan (acts_of plan items))

  abbrev LineIs : Type 0
  LineIs = (replicate (length (before plan items w)) None ++ recorded_calls plan 0 own) ++ replicate (length closed) None ≡ calls_along line

  closed_by : (waits : Bool) → (is_dormant plan w && not some) ≡ waits → closed ≡ cond (has_dormant plan) (cond (not waits) (ends plan w) [] ++ cond waits (leaves plan w) []) []
  closed_by waits is = closing_of plan (acts_of plan items) w within ∙ ap (λ (b : Bool). cond (has_dormant plan) (cond (not b) (ends plan w) [] ++ cond b (leaves plan w) []) []) (waits_then plan w items ∙ is)

  whole_line : line.ending ≡ whole → before plan items w ≡ opening_items plan w whole → closed ≡ closing_items plan w whole → LineIs
  whole_line at_end first closing =
      let ended = subst (λ (e : LineEnd). EndsBy plan w (length (shared_in (flat_map (λ spelt. spelt.items) line.spelt))) e line.rest line.last) at_end is.ends in
      let firsts : before plan items w ≡ line.first = first ∙ (ap (opening_items plan w) (sym at_end) ∙ sym opens) in
      let lasts : last ++ closed ≡ line.last = ap (λ (l : List Made). last ++ l) (closing ∙ ap (closing_items plan w) (sym at_end)) ∙ sym closes in
      (λ i. (replicate (length (firsts i)) None ++ calls i) ++ replicate (length closed) None)
      ∙ (append_assoc (replicate (length line.first) None) (calls_from 0 line.spelt line.rest last) (replicate (length closed) None)
      ∙ ap (λ (l : List (Option ℕ)). replicate (length line.first) None ++ l)
      (ap (λ (rest : List Call). calls_from 0 line.spelt rest last ++ replicate (length closed) None) ended.0
      ∙ (sym (behind_line 0 line.spelt last closed) ∙ (λ i. calls_from 0 line.spelt (sym ended.0 i) (lasts i)))))

  stayed_line : line.ending ≡ stayed never → before plan items w ≡ [] → own ≡ [] → closed ≡ leaves plan w → LineIs
  stayed_line stays first none leaving =
      let opened = subst (λ (e : LineEnd). OpensBy plan w e line.spelt line.first) stays is.opens in
      let ended = subst (λ (e : LineEnd). EndsBy plan w (length (shared_in (flat_map (λ spelt. spelt.items) line.spelt))) e line.rest line.last) stays is.ends in
      let firsts : leaves plan w ≡ line.first = sym (opens ∙ ap (opening_items plan w) stays) in
      (λ i. (replicate (length (first i)) None ++ recorded_calls plan 0 (none i)) ++ replicate (length (leaving i)) None)
      ∙ (λ i. replicate (length (firsts i)) None ++ calls_from 0 (sym opened.0 i) line.rest (sym ended i))

  by_sort : (dormant has : Bool) → is_dormant plan w ≡ dormant → some ≡ has → LineIs
  by_sort false has is_d is_h = whole_line (ending ∙ ap (λ (b : Bool). ending_of (cond b some true) true None None) is_d)
      (ap (λ (b : Bool). before_by plan w b some) is_d ∙ sym (ap (λ (b : Bool). cond b (goes plan w) []) is_d)) (closed_by false (ap (λ (b : Bool). b && not some) is_d))
  by_sort true true is_d is_h = whole_line (ending ∙ (λ i. ending_of (cond (is_d i) (is_h i) true) true None None))
      ((λ i. before_by plan w (is_d i) (is_h i)) ∙ sym (ap (λ (b : Bool). cond b (goes plan w) []) is_d)) (closed_by false (λ i. is_d i && not (is_h i)))
  by_sort true false is_d is_h = stayed_line (ending ∙ (λ i. ending_of (cond (is_d i) (is_h i) true) true None None)) (λ i. before_by plan w (is_d i) (is_h i))
      (no_items own (sym (ap has_made mine) ∙ is_h)) (closed_by true (λ i. is_d i && not (is_h i)) ∙ ap (λ (b : Bool). cond b (leaves plan w) []) (some_waits (has_dormant plan) refl))
    where
      some_waits : (b : Bool) → has_dormant plan ≡ b → has_dormant plan ≡ true
      some_waits true all = all
      some_waits false none = absurd (let clash : true ≡ false = sym is_d ∙ none_waits plan w none in cc)

  pub line_is : LineIs
  line_is = by_sort (is_dormant plan w) some refl refl

-- what a cut tells of one line it tells of each other one of the same items
pub one_line : (cut : List Made → Option Line) (line other : Line) → items_of other ≡ items_of line → (cut (items_of line) ≡ None → ⊥) → ((told : Line) → cut (items_of line) ≡ Some told → calls_along told ≡ calls_along line)
    → ((told : Line) → cut (items_of other) ≡ Some told → calls_along told ≡ calls_along other) → calls_along other ≡ calls_along line
one_line cut line other same some first second = by_cut (cut (items_of line)) refl where
  by_cut : (o : Option Line) → cut (items_of line) ≡ o → calls_along other ≡ calls_along line
  by_cut None none = absurd (some none)
  by_cut (Some told) is = sym (second told (ap cut same ∙ is)) ∙ first told is
