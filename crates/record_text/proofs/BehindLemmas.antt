-- The lines behind the line `record`, one after the other.
use Rattle.std.proofs.Common.{◌≡◌, ℕ, ◌+◌, ◌-◌, ◌<◌, ◌≤◌, true, List, [], ◌∷◌, ◌++◌, length, Option, refl, sym, ap, ◌∙◌, subst, arith, length-append, inl, inr}
use Rattle.std.specs.List.{list_all}
use Rattle.sync_types.specs.declared.misuse.Misuse.{Misuse}
use Rattle.workload.specs.Plan.{Plan}
use Rattle.record_text.specs.declared.item_line.ItemLine.{ItemLine}
use Rattle.record_text.specs.declared.limits.TheConstants.{MAX_ITEMS}
use Rattle.record_text.specs.ItemLines.{IsItemLine}
use Rattle.record_text.specs.RecordLines.{IsNoRecordLine}
use Rattle.record_text.specs.Refused.{FirstBad, FirstLong}
use Rattle.record_text.specs.Told.{AreItemLines, IsBehind, is_short_line, outcome_line}

-- these items were read, and these lines are left, of which the next has the number `next`
pub record Goes (plan : Plan) (lines : List (List ℕ)) (first : ℕ) (items : List ItemLine) (rest : List (List ℕ)) (next : ℕ) : Type 0 where
  pub passed : List (List ℕ)
  pub are : lines ≡ passed ++ rest
  pub each : AreItemLines plan passed items
  pub count : length passed ≡ length items
  pub few : length items ≤ MAX_ITEMS
  pub back : (line : ℕ) → FirstBad plan rest (length items) next line → FirstBad plan lines 0 first line

pub none_read : (plan : Plan) (lines : List (List ℕ)) (first : ℕ) → Goes plan lines first [] lines first
none_read plan lines first = record { passed = []; are = refl; each = tt; count = refl; few = omega arith; back = λ line bad. bad }

one_more : (plan : Plan) (lines : List (List ℕ)) (items : List ItemLine) (line : List ℕ) (item : ItemLine) → AreItemLines plan lines items → IsItemLine plan line item → AreItemLines plan (lines ++ line ∷ []) (items ++ item ∷ [])
one_more plan [] [] line item are is = (is, tt)
one_more plan [] (first ∷ items) line item are is = absurd are
one_more plan (first ∷ lines) [] line item are is = absurd are
one_more plan (first ∷ lines) (head ∷ items) line item are is = (are.0, one_more plan lines items line item are.1 is)

split_back : (lines : List (List ℕ)) (line : List ℕ) (rest : List (List ℕ)) → lines ++ line ∷ rest ≡ (lines ++ line ∷ []) ++ rest
split_back [] line rest = refl
split_back (first ∷ lines) line rest = ap (λ ls. first ∷ ls) (split_back lines line rest)

-- an item's line
pub item_read : (plan : Plan) (lines : List (List ℕ)) (first : ℕ) (items : List ItemLine) (rest : List (List ℕ)) (next : ℕ) (line : List ℕ) (behind : List (List ℕ)) (item : ItemLine) → Goes plan lines first items rest next → rest ≡ line ∷ behind
    → IsItemLine plan line item → length items < MAX_ITEMS → Goes plan lines first (items ++ item ∷ []) behind (next + 1)
item_read plan lines first items rest next line behind item goes cut is room =
    let count : length (items ++ item ∷ []) ≡ length items + 1 = length-append items (item ∷ []) in
    let more : length (goes.passed ++ line ∷ []) ≡ length goes.passed + 1 = length-append goes.passed (line ∷ []) in
    record {
      passed = goes.passed ++ line ∷ [];
      are = goes.are ∙ ap (λ ls. goes.passed ++ ls) cut ∙ split_back goes.passed line behind;
      each = one_more plan goes.passed items line item goes.each is;
      count = (let same = goes.count in omega (arith, same, count, more));
      few = omega (arith, count, room);
      back = λ at bad. goes.back at (subst (λ (ls : List (List ℕ)). FirstBad plan ls (length items) next at) (sym cut) (inr (inl (item, is, room, subst (λ (n : ℕ). FirstBad plan behind n (next + 1) at) count bad))));
    }

-- a line that is neither
pub bad_here : (plan : Plan) (lines : List (List ℕ)) (first : ℕ) (items : List ItemLine) (rest : List (List ℕ)) (next : ℕ) (line : List ℕ) (behind : List (List ℕ)) → Goes plan lines first items rest next → rest ≡ line ∷ behind → IsNoRecordLine plan line (length items) → FirstBad plan lines 0 first next
bad_here plan lines first items rest next line behind goes cut none = goes.back next (subst (λ (ls : List (List ℕ)). FirstBad plan ls (length items) next next) (sym cut) (inl (none.0, none.1, refl)))

-- a long line behind the outcome's
pub long_behind : (plan : Plan) (lines : List (List ℕ)) (first : ℕ) (items : List ItemLine) (rest : List (List ℕ)) (next at : ℕ) (line : List ℕ) (behind : List (List ℕ)) (misused : Option Misuse) → Goes plan lines first items rest next → rest ≡ line ∷ behind → outcome_line misused ≡ line → FirstLong behind (next + 1) at → FirstBad plan lines 0 first at
long_behind plan lines first items rest next at line behind misused goes cut is long = goes.back at (subst (λ (ls : List (List ℕ)). FirstBad plan ls (length items) next at) (sym cut) (inr (inr (misused, is, long))))

-- no line is the outcome's
pub none_left : (plan : Plan) (lines : List (List ℕ)) (first : ℕ) (items : List ItemLine) (rest : List (List ℕ)) (next : ℕ) → Goes plan lines first items rest next → rest ≡ [] → FirstBad plan lines 0 first (next - 1)
none_left plan lines first items rest next goes none = goes.back (next - 1) (subst (λ (ls : List (List ℕ)). FirstBad plan ls (length items) next (next - 1)) (sym none) refl)

-- all is said
pub said : (plan : Plan) (lines : List (List ℕ)) (first : ℕ) (items : List ItemLine) (rest : List (List ℕ)) (next : ℕ) (line : List ℕ) (behind : List (List ℕ)) (misused : Option Misuse) → Goes plan lines first items rest next → rest ≡ line ∷ behind → outcome_line misused ≡ line → list_all is_short_line behind ≡ true
    → IsBehind (record { plan = plan; items = items; misused = misused; report = behind }) lines
said plan lines first items rest next line behind misused goes cut is short = record {
  items = goes.passed;
  are = goes.are ∙ ap (λ ls. goes.passed ++ ls) (cut ∙ ap (λ l. l ∷ behind) (sym is));
  each = goes.each;
  few = (let same = goes.count in let room = goes.few in omega (arith, same, room));
  short = short;
}
