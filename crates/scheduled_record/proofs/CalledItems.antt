-- Items of a worker, each of a call of its script, and how they grow with each turn.
use Rattle.std.proofs.Common.{◌≡◌, ◌≢◌, ℕ, suc, ◌+◌, ◌-◌, ◌==◌, Bool, true, false, cond, List, [], ◌∷◌, ◌++◌, map, drop, filter, flat_map, length, Option, Some, None, refl, sym, ap, ◌∙◌, subst, append-nil, append_assoc, length-drop, arith}
use Rattle.std.proofs.lemmas.List.{drop-drop, map-append}
use Rattle.std.proofs.lemmas.List.Elements.{filter-append}
use Rattle.std.proofs.lemmas.Grind.{flat_map-append}
use Rattle.script_calls.specs.Runs.{passed_over, left_of}
use Rattle.script_calls.specs.declared.call.Call.{Call}
use Rattle.script_calls.specs.declared.call.Reply.{Reply}
use Rattle.run_cuts.specs.CallsAlong.{next_call}
use Rattle.step_runner.specs.declared.trace.TraceItem.{TraceItem}
use Rattle.step_runner.specs.declared.turns.item.Item.{Item}
use Rattle.step_runner.specs.Turns.{is_empty}

-- an item, with the place in its worker's script of the call that it is of, if it is of one
abbrev pub Called : Type 0
Called = Option ℕ × Item

-- items that are all of this call, or of none
abbrev pub called : Option ℕ → List Item → List Called
called place items = map (λ item. (place, item)) items

-- those of a trace, each of the call that is told of its turn
abbrev pub called_in : List TraceItem → List Called
called_in trace = flat_map (λ (one : TraceItem). called one.index one.made) trace

-- those of one worker
abbrev pub called_by : ℕ → List Called → List Called
called_by worker items = filter (λ (one : Called). one.1.caller == worker) items

pub by-append : (worker : ℕ) (items more : List Called) → called_by worker (items ++ more) ≡ called_by worker items ++ called_by worker more
by-append worker items more = filter-append (λ (one : Called). one.1.caller == worker) items more

pub in-append : (worker : ℕ) (trace more : List TraceItem) → called_by worker (called_in (trace ++ more)) ≡ called_by worker (called_in trace) ++ called_by worker (called_in more)
in-append worker trace more = ap (called_by worker) (flat_map-append (λ (one : TraceItem). called one.index one.made) trace more) ∙ by-append worker (called_in trace) (called_in more)

pub called_of : (worker : ℕ) (place : Option ℕ) (items : List Item) → called_by worker (called place items) ≡ called place (filter (λ item. item.caller == worker) items)
called_of worker place [] = refl
called_of worker place (item ∷ items) = chosen (item.caller == worker) (called_of worker place items) where
  chosen : (b : Bool) → called_by worker (called place items) ≡ called place (filter (λ item. item.caller == worker) items)
      → cond b ((place, item) ∷ called_by worker (called place items)) (called_by worker (called place items)) ≡ called place (cond b (item ∷ filter (λ item. item.caller == worker) items) (filter (λ item. item.caller == worker) items))
  chosen true rest = ap (λ (l : List Called). (place, item) ∷ l) rest
  chosen false rest = rest

-- ---- along a script

module _ (parts : ℕ → List Item) where
  -- the items of a script's calls, from the one of this number on, which stands at this place, by the replies to those that were completed. Behind these stand the items of the next one
  abbrev pub called_along : (number place : ℕ) → List Call → List (Reply (List ℕ)) → List Called
  called_along number place script [] = called (next_call place script) (parts number)
  called_along number place [] (reply ∷ given) = called None (parts number) ++ called_along (number + 1) place [] given
  called_along number place (call ∷ script) (reply ∷ given) = called (Some place) (parts number) ++ called_along (number + 1) (place + 1 + passed_over call reply) (drop (passed_over call reply) script) given

-- the place behind replies
abbrev pub place_behind : ℕ → List Call → List (Reply (List ℕ)) → ℕ
place_behind place script [] = place
place_behind place [] (reply ∷ given) = place
place_behind place (call ∷ script) (reply ∷ given) = place_behind (place + 1 + passed_over call reply) (drop (passed_over call reply) script) given

-- and the call that stands there
abbrev pub next_behind : ℕ → List Call → List (Reply (List ℕ)) → Option ℕ
next_behind place script given = next_call (place_behind place script given) (left_of script given)

none_next : (place : ℕ) (given : List (Reply (List ℕ))) → next_behind place [] given ≡ None
none_next place [] = refl
none_next place (reply ∷ given) = refl

pub dropped : (whole : List Call) (place : ℕ) (script : List Call) (given : List (Reply (List ℕ))) → drop place whole ≡ script → drop (place_behind place script given) whole ≡ left_of script given
dropped whole place script [] at = at
dropped whole place [] (reply ∷ given) at = at
dropped whole place (call ∷ script) (reply ∷ given) at =
    let passed = passed_over call reply in
    let next : place + suc passed ≡ place + 1 + passed = omega arith in
    dropped whole (place + 1 + passed) (drop passed script) given (ap (λ (n : ℕ). drop n whole) (sym next) ∙ (sym (drop-drop (suc passed) place whole) ∙ ap (drop (suc passed)) at))

-- where something is left of a script, its length tells the place
pub index_is : (place : ℕ) (script left : List Call) → drop place script ≡ left → cond (is_empty left) None (Some (length script - length left)) ≡ next_call place left
index_is place script [] at = refl
index_is place script (call ∷ rest) at =
    let count : length (drop place script) ≡ suc (length rest) = ap (length {A = Call}) at in
    let there : length script - suc (length rest) ≡ place = omega (arith, count, length-drop place script) in
    ap Some there

module _ (parts now : ℕ → List Item) where
  -- more items of the next call
  pub along_more : (items : List Item) (number place : ℕ) (script : List Call) (given : List (Reply (List ℕ))) → ((k : ℕ) → k ≢ number + length given → now k ≡ parts k) → now (number + length given) ≡ parts (number + length given) ++ items
      → called_along now number place script given ≡ called_along parts number place script given ++ called (next_behind place script given) items
  along_more items number place script [] elsewhere here =
      let at : number + 0 ≡ number = omega arith in
      ap (called (next_call place script)) (subst (λ (n : ℕ). now n ≡ parts n ++ items) at here) ∙ map-append (λ (item : Item). (next_call place script, item)) (parts number) items
  along_more items number place [] (reply ∷ given) elsewhere here =
      let at : number + suc (length given) ≡ number + 1 + length given = omega arith in
      let rest = along_more items (number + 1) place [] given (λ k far. elsewhere k (λ same. far (same ∙ at))) (subst (λ (n : ℕ). now n ≡ parts n ++ items) at here) in
      (λ i. called None (elsewhere number (λ same. omega (arith, same)) i) ++ rest i)
      ∙ (ap (λ (o : Option ℕ). called None (parts number) ++ (called_along parts (number + 1) place [] given ++ called o items)) (none_next place given)
      ∙ sym (append_assoc (called None (parts number)) (called_along parts (number + 1) place [] given) (called None items)))
  along_more items number place (call ∷ script) (reply ∷ given) elsewhere here =
      let passed = passed_over call reply in
      let next = place + 1 + passed in
      let at : number + suc (length given) ≡ number + 1 + length given = omega arith in
      let rest = along_more items (number + 1) next (drop passed script) given (λ k far. elsewhere k (λ same. far (same ∙ at))) (subst (λ (n : ℕ). now n ≡ parts n ++ items) at here) in
      (λ i. called (Some place) (elsewhere number (λ same. omega (arith, same)) i) ++ rest i)
      ∙ sym (append_assoc (called (Some place) (parts number)) (called_along parts (number + 1) next (drop passed script) given) (called (next_behind next (drop passed script) given) items))

-- the next call is completed
pub along_next : (parts : ℕ → List Item) (number place : ℕ) (script : List Call) (given : List (Reply (List ℕ))) (reply : Reply (List ℕ)) → parts (number + length given + 1) ≡ []
    → called_along parts number place script (given ++ reply ∷ []) ≡ called_along parts number place script given
along_next parts number place [] [] reply none =
    let at : number + 0 + 1 ≡ number + 1 = omega arith in
    ap (λ (l : List Item). called None (parts number) ++ called None l) (subst (λ (n : ℕ). parts n ≡ []) at none) ∙ append-nil (called None (parts number))
along_next parts number place (call ∷ script) [] reply none =
    let at : number + 0 + 1 ≡ number + 1 = omega arith in
    let passed = passed_over call reply in
    ap (λ (l : List Item). called (Some place) (parts number) ++ called (next_call (place + 1 + passed) (drop passed script)) l) (subst (λ (n : ℕ). parts n ≡ []) at none) ∙ append-nil (called (Some place) (parts number))
along_next parts number place [] (first ∷ given) reply none =
    let at : number + suc (length given) + 1 ≡ number + 1 + length given + 1 = omega arith in
    ap (λ (l : List Called). called None (parts number) ++ l) (along_next parts (number + 1) place [] given reply (subst (λ (n : ℕ). parts n ≡ []) at none))
along_next parts number place (call ∷ script) (first ∷ given) reply none =
    let at : number + suc (length given) + 1 ≡ number + 1 + length given + 1 = omega arith in
    let passed = passed_over call first in
    ap (λ (l : List Called). called (Some place) (parts number) ++ l) (along_next parts (number + 1) (place + 1 + passed) (drop passed script) given reply (subst (λ (n : ℕ). parts n ≡ []) at none))
