-- Of which call each item of a line is, by the parts of the line.
use Rattle.std.proofs.Common.{◌≡◌, ℕ, suc, ◌+◌, List, [], ◌∷◌, ◌++◌, map, take, drop, flat_map, length, replicate, Option, Some, None, slice_get, refl, sym, ap, ◌∙◌, append-nil, append_assoc, arith}
use Rattle.std.proofs.lemmas.List.{length-append, replicate-append-replicate}
use Rattle.script_calls.specs.Runs.{passed_over, RunsAlong}
use Rattle.script_calls.specs.declared.call.Call.{Call}
use Rattle.script_calls.specs.declared.call.Reply.{Reply}
use Rattle.workload.specs.Plan.{Plan}
use Rattle.run_cuts.specs.CallsAlong.{next_call, calls_from}
use Rattle.run_record.specs.declared.made.Made.{Made}
use Rattle.run_record.specs.Lines.{SpeltCall}
use Rattle.run_record.specs.Record.{shared_in}
use Rattle.step_runner.specs.declared.turns.item.Item.{Item}
use Rattle.step_runner.specs.Recorded.{recorded_reply, recorded_item, recorded}
use Rattle.step_runner.specs.Spelt.{count_before}
use Rattle.scheduled_record.proofs.CalledItems.{Called, called, called_along}
use Rattle.scheduled_record.proofs.CalledLists.{recorded_calls}
use Rattle.scheduled_record.proofs.Lists.{count-append}

abbrev pub spelt_items : List SpeltCall → List Made
spelt_items spelt = flat_map (λ (one : SpeltCall). one.items) spelt

abbrev pub spelt_calls : List SpeltCall → List (Call × Reply ℕ)
spelt_calls spelt = map (λ (one : SpeltCall). (one.call, one.reply)) spelt

module _ (plan : Plan) (parts : ℕ → List Item) (names : (call : Call) (reply : Reply (List ℕ)) → passed_over call (recorded_reply plan reply) ≡ passed_over call reply) where
  -- items of one call
  one_call : (index : Option ℕ) (before : ℕ) (items : List Item) (more : List Called)
      → recorded_calls plan before (called index items ++ more) ≡ replicate (length (recorded plan before items)) index ++ recorded_calls plan (before + length (shared_in (recorded plan before items))) more
  one_call index before [] more = let same : before ≡ before + 0 = omega arith in ap (λ (n : ℕ). recorded_calls plan n more) same
  one_call index before (item ∷ items) more =
      let head = recorded_item plan before item in
      let next = before + length (shared_in head) in
      let rest = recorded plan next items in
      let count : next + length (shared_in rest) ≡ before + length (shared_in (head ++ rest)) = omega (arith, count-append head rest) in
      let long : replicate (length head) index ++ replicate (length rest) index ≡ replicate (length (head ++ rest)) index =
      replicate-append-replicate (length head) (length rest) index ∙ ap (λ (n : ℕ). replicate n index) (sym (length-append head rest)) in
      ap (λ (l : List (Option ℕ)). replicate (length head) index ++ l) (one_call index next items more)
      ∙ (sym (append_assoc (replicate (length head) index) (replicate (length rest) index) (recorded_calls plan (next + length (shared_in rest)) more))
      ∙ (λ i. long i ++ recorded_calls plan (count i) more))

  last_call : (index : Option ℕ) (before : ℕ) (items : List Item) → recorded_calls plan before (called index items) ≡ replicate (length (recorded plan before items)) index
  last_call index before items = ap (recorded_calls plan before) (sym (append-nil (called index items))) ∙ (one_call index before items [] ∙ append-nil (replicate (length (recorded plan before items)) index))

  -- each completed call is spelt by the items of its turns
  abbrev pub AreParts : (number before : ℕ) → List SpeltCall → Type 0
  AreParts number before spelt = (k : ℕ) (one : SpeltCall) → slice_get spelt k ≡ Some one → one.items ≡ recorded plan (before + count_before k spelt) (parts (number + k))

  parts_behind : (number before : ℕ) (one : SpeltCall) (spelt : List SpeltCall) → AreParts number before (one ∷ spelt) → AreParts (number + 1) (before + length (shared_in one.items)) spelt
  parts_behind number before one spelt each k other at =
      let count : before + count_before (suc k) (one ∷ spelt) ≡ before + length (shared_in one.items) + count_before k spelt = omega (arith, count-append one.items (spelt_items (take k spelt))) in
      let next : number + suc k ≡ number + 1 + k = omega arith in
      each (suc k) other at ∙ (λ i. recorded plan (count i) (parts (next i)))

  pub along_line : (number place before : ℕ) (spelt : List SpeltCall) (given : List (Reply (List ℕ))) (script rest : List Call) → RunsAlong script (spelt_calls spelt) rest → map (λ (x : SpeltCall). x.reply) spelt ≡ map (recorded_reply plan) given
      → AreParts number before spelt → recorded_calls plan before (called_along parts number place script given)
      ≡ calls_from place spelt rest (recorded plan (before + length (shared_in (spelt_items spelt))) (parts (number + length spelt)))
  along_line number place before [] [] script rest runs same each =
      let first : before ≡ before + 0 = omega arith in
      let here : number ≡ number + 0 = omega arith in
      last_call (next_call place script) before (parts number) ∙ (λ i. replicate (length (recorded plan (first i) (parts (here i)))) (next_call place (sym runs i)))
  along_line number place before [] (reply ∷ given) script rest runs same each = absurd cc
  along_line number place before (one ∷ spelt) [] script rest runs same each = absurd cc
  along_line number place before (one ∷ spelt) (reply ∷ given) script rest (behind, is, later) same each =
      let heads : one.reply ≡ recorded_reply plan reply = cc in
      let tails : map (λ (x : SpeltCall). x.reply) spelt ≡ map (recorded_reply plan) given = cc in
      let passed : passed_over one.call one.reply ≡ passed_over one.call reply = ap (λ (r : Reply ℕ). passed_over one.call r) heads ∙ names one.call reply in
      let first : before + 0 ≡ before = omega arith in
      let here : number + 0 ≡ number = omega arith in
      let items : one.items ≡ recorded plan before (parts number) = each 0 one refl ∙ (λ i. recorded plan (first i) (parts (here i))) in
      let count : before + length (shared_in one.items) + length (shared_in (spelt_items spelt)) ≡ before + length (shared_in (one.items ++ spelt_items spelt)) = omega (arith, count-append one.items (spelt_items spelt)) in
      let last : number + 1 + length spelt ≡ number + suc (length spelt) = omega arith in
      ap (λ (l : List Call). recorded_calls plan before (called_along parts number place l (reply ∷ given))) is
      ∙ (one_call (Some place) before (parts number) (called_along parts (number + 1) (place + 1 + passed_over one.call reply) (drop (passed_over one.call reply) behind) given)
      ∙ (ap (λ (l : List Made). replicate (length l) (Some place) ++ recorded_calls plan (before + length (shared_in l)) (called_along parts (number + 1) (place + 1 + passed_over one.call reply) (drop (passed_over one.call reply) behind) given)) (sym items)
      ∙ (ap (λ (n : ℕ). replicate (length one.items) (Some place) ++ recorded_calls plan (before + length (shared_in one.items)) (called_along parts (number + 1) (place + 1 + n) (drop n behind) given)) (sym passed)
      ∙ (ap (λ (l : List (Option ℕ)). replicate (length one.items) (Some place) ++ l)
      (along_line (number + 1) (place + 1 + passed_over one.call one.reply) (before + length (shared_in one.items)) spelt given (drop (passed_over one.call one.reply) behind) rest later tails (parts_behind number before one spelt each))
      ∙ (λ i. replicate (length one.items) (Some place) ++ calls_from (place + 1 + passed_over one.call one.reply) spelt rest (recorded plan (count i) (parts (last i))))))))

-- what stands behind a script that is at its end is of no call
pub behind_line : (place : ℕ) (spelt : List SpeltCall) (last closed : List Made) → calls_from place spelt [] (last ++ closed) ≡ calls_from place spelt [] last ++ replicate (length closed) None
behind_line place [] last closed = ap (λ (n : ℕ). replicate n None) (length-append last closed) ∙ sym (replicate-append-replicate (length last) (length closed) None)
behind_line place (one ∷ spelt) last closed =
    let next = place + 1 + passed_over one.call one.reply in
    ap (λ (l : List (Option ℕ)). replicate (length one.items) (Some place) ++ l) (behind_line next spelt last closed) ∙ sym (append_assoc (replicate (length one.items) (Some place)) (calls_from next spelt [] last) (replicate (length closed) None))
