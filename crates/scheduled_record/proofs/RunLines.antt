-- The lists of a run that is done are lines of its outcome.
use Rattle.std.proofs.Common.{◌≡◌, ℕ, zero, suc, ◌+◌, ◌<◌, ◌≤◌, Bool, true, false, List, [], ◌∷◌, map, length, get_or, All, Option, Some, None, slice_get, inl, inr, refl, sym, ap, ◌∙◌, subst, ap₂, arith}
use Rattle.std.specs.List.{range_with_len}
use Rattle.std.proofs.lemmas.Bool.Decides.{leb_tells}
use Rattle.std.proofs.lemmas.List.{length-map}
use Rattle.std.proofs.lemmas.List.Elements.{All-from_recursion}
use Rattle.std.proofs.lemmas.List.FromFn.{length-range_with_len}
use Rattle.std.proofs.lemmas.Option.{none-some, same_Some}
use Rattle.std.specs.List.{AllByRecursion}
use Rattle.sync_types.specs.declared.misuse.Misuse.{Misuse}
use Rattle.script_calls.specs.declared.call.Call.{Call}
use Rattle.script_calls.specs.declared.call.Reply.{Reply}
use Rattle.script_calls.specs.declared.outcome.Outcome.TheVariants as outcomes
use Rattle.script_calls.specs.declared.outcome.Report.{Report}
use Rattle.script_calls.specs.Outcome.{with_keys_renamed}
use Rattle.script_calls.specs.Runs.{RunsAlong}
use Rattle.workload.specs.Keys.{keys_in, key_number}
use Rattle.workload.specs.Plan.{Plan}
use Rattle.run_record.specs.declared.made.Made.{Made}
use Rattle.run_record.specs.Explains.{AreLines, IsAtEnd}
use Rattle.run_record.specs.Lines.{SpeltCall, whole, Line, calls_made, items_of, replies_of, IsLineOf}
use Rattle.run_record.specs.Record.{list_of}
use Rattle.kept_record.specs.Alike.{AreAlike, IsLineLike}
use Rattle.kept_record.specs.Keeping.{Act, made_by, account_of, record_of}
use Rattle.step_runner.specs.declared.turns.item.Item.{Item}
use Rattle.step_runner.specs.Ends.{numbered}
use Rattle.step_runner.specs.Recorded.{recorded_reply}
use Rattle.step_runner.specs.Spelt.{list_of as list_by, came, ending_of, Falls}
use Rattle.scheduled_record.specs.RunActs.{acts_of, closed_acts}
use Rattle.scheduled_record.proofs.RunLists.{ending_at, closed_lists}

-- ---- lists by places

by_places : {X : Type 0} (f : ℕ → X) (d : X) (xs : List X) (first : ℕ) → ((i : ℕ) → i < length xs → f (first + i) ≡ get_or xs i d) → map f (range_with_len first (length xs)) ≡ xs
by_places f d [] first is = refl
by_places {X} f d (x ∷ xs) first is =
    let here : first ≡ first + 0 = omega arith in
    ap₂ (λ (y : X) (l : List X). y ∷ l) (ap f here ∙ is 0 (omega arith)) (by_places f d xs (first + 1) (λ i less. let next : first + 1 + i ≡ first + suc i = omega arith in ap f next ∙ is (suc i) (omega arith)))

same_rows : {X : Type 0} (f g : ℕ → X) (n first : ℕ) → ((i : ℕ) → i < n → f (first + i) ≡ g (first + i)) → map f (range_with_len first n) ≡ map g (range_with_len first n)
same_rows f g zero first same = refl
same_rows {X} f g (suc n) first same =
    let here : first ≡ first + 0 = omega arith in
    ap₂ (λ (y : X) (l : List X). y ∷ l) (ap f here ∙ (same 0 (omega arith) ∙ ap g (sym here))) (same_rows f g n (first + 1) (λ i less. let next : first + 1 + i ≡ first + suc i = omega arith in ap f next ∙ (same (suc i) (omega arith) ∙ ap g (sym next))))

mapped : {X Y : Type 0} (h : X → Y) (f : ℕ → X) (n first : ℕ) → map h (map f (range_with_len first n)) ≡ map (λ (i : ℕ). h (f i)) (range_with_len first n)
mapped h f zero first = refl
mapped {X} {Y} h f (suc n) first = ap (λ (l : List Y). h (f first) ∷ l) (mapped h f n (first + 1))

-- what stands at a place of the rows
pub row_there : {X : Type 0} (f : ℕ → X) (n first i : ℕ) (x : X) → slice_get (map f (range_with_len first n)) i ≡ Some x → (i < n) × (f (first + i) ≡ x)
row_there f zero first i x at = absurd (none-some x at)
row_there f (suc n) first zero x at = let here : first + 0 ≡ first = omega arith in (omega arith, ap f here ∙ same_Some (f first) x at)
row_there f (suc n) first (suc i) x at = let rest = row_there f n (first + 1) i x at in let less : i < n = rest.0 in let next : first + suc i ≡ first + 1 + i = omega arith in (omega arith, ap f next ∙ rest.1)

replies_in : (spelt : List SpeltCall) → map (λ (made : Call × Reply ℕ). made.1) (map {B = Call × Reply ℕ} (λ (one : SpeltCall). (one.call, one.reply)) spelt) ≡ map (λ (one : SpeltCall). one.reply) spelt
replies_in [] = refl
replies_in (one ∷ spelt) = ap (λ (l : List (Reply ℕ)). one.reply ∷ l) (replies_in spelt)

replies_like : (line other : Line) → calls_made other ≡ calls_made line → replies_of other ≡ replies_of line
replies_like line other same = sym (replies_in other.spelt) ∙ (ap (map (λ (made : Call × Reply ℕ). made.1)) same ∙ replies_in line.spelt)

get_mapped : {X Y : Type 0} (f : List X → List Y) (rows : List (List X)) (i : ℕ) → f [] ≡ [] → get_or (map f rows) i [] ≡ f (get_or rows i [])
get_mapped f [] i none = sym none
get_mapped f (row ∷ rows) zero none = refl
get_mapped f (row ∷ rows) (suc i) none = get_mapped f rows i none

-- ---- the lines

-- what the law of spelling says of a worker, at the end of a run that is done
pub record FallsAt (plan : Plan) (items : List Item) (replies : List (List (Reply (List ℕ)))) (w : ℕ) : Type 0 where
  pub line : Line
  pub runs : RunsAlong (get_or plan.scripts w []) (calls_made line) line.rest
  pub lists : items_of line ≡ list_by plan items w line.ending
  pub given : replies_of line ≡ map (recorded_reply plan) (get_or replies w [])
  pub is : IsLineOf plan w line
  pub ends : line.ending ≡ ending_at plan items w

-- so it is where every worker has ended that was live, and none met a misuse
pub at_the_end : (plan : Plan) (items made : List Item) (replies : List (List (Reply (List ℕ)))) (w : ℕ) → items ≡ made → {over : Bool} {part : ℕ → List Item} {next : Option Call} {met : Option Misuse} → Falls plan over w made part (get_or replies w []) next met
    → (over ≡ true) × (next ≡ None) × (met ≡ None) → FallsAt plan items replies w
at_the_end plan items made replies w same {over} {part} {next} {met} line (is_over, nobody, nothing) = subst (λ (l : List Item). FallsAt plan l replies w) (sym same) (record {
  line = line.line;
  runs = line.runs;
  lists = line.items;
  given = line.replies;
  is = line.is;
  ends = line.ends ∙ (ap (λ (b : Bool). ending_of (came plan made w) b next met) is_over ∙ (ap (λ (o : Option Call). ending_of (came plan made w) true o met) nobody ∙ ap (λ (m : Option Misuse). ending_of (came plan made w) true None m) nothing));
})

module _ (plan : Plan) (items : List Item) (replies : List (List (Reply (List ℕ)))) (count : length replies ≡ plan.workers) (scripts : length plan.scripts ≡ plan.workers)
    (falls : (w : ℕ) → w < plan.workers → FallsAt plan items replies w)
    (like : (w : ℕ) (line : Line) (list : List Made) → IsLineOf plan w line → AreAlike (items_of line) list → (other : Line) × (items_of other ≡ list) × IsLineOf plan w other × IsLineLike line other)
    (alike : (w : ℕ) → AreAlike (made_by w (closed_acts plan (acts_of plan items))) (list_of (record_of plan (closed_acts plan (acts_of plan items))) w))
    (own : (w : ℕ) → list_of (record_of plan (closed_acts plan (acts_of plan items))) w ≡ made_by w (account_of plan (closed_acts plan (acts_of plan items))).acts) where
  abbrev acts : List Act
  acts = closed_acts plan (acts_of plan items)

  record IsOne (w : ℕ) (line : Line) : Type 0 where
    is : IsLineOf plan w line
    lists : items_of line ≡ made_by w (account_of plan acts).acts
    runs : RunsAlong (get_or plan.scripts w []) (calls_made line) line.rest
    given : replies_of line ≡ map (recorded_reply plan) (get_or replies w [])
    ends : line.ending ≡ ending_at plan items w

  line_of : (w : ℕ) → w < plan.workers → (line : Line) × IsOne w line
  line_of w within =
      let told = falls w within in
      let same : made_by w acts ≡ items_of told.line = closed_lists plan items w within ∙ (ap (list_by plan items w) (sym told.ends) ∙ sym told.lists) in
      let found = like w told.line (list_of (record_of plan acts) w) told.is (subst (λ (l : List Made). AreAlike l (list_of (record_of plan acts) w)) same (alike w)) in (
        found.0,
        record {
          is = found.2;
          lists = found.1 ∙ own w;
          runs = subst (λ (made : List (Call × Reply ℕ)). RunsAlong (get_or plan.scripts w []) made found.0.rest) (sym found.3.calls) (subst (λ (rest : List Call). RunsAlong (get_or plan.scripts w []) (calls_made told.line) rest) (sym found.3.rest) told.runs);
          given = replies_like told.line found.0 found.3.calls ∙ told.given;
          ends = found.3.ending ∙ told.ends;
        },
      )

  none_line : Line
  none_line = record { first = []; spelt = []; last = []; halts = []; rest = []; ending = whole }

  picked : (w : ℕ) → (line : Line) × (w < plan.workers → IsOne w line)
  picked w = elim (leb_tells (suc w) plan.workers) [
    | inl within ↦ (let found = line_of w within.1 in (found.0, λ there. found.1))
    | inr past ↦ (none_line, λ there. absurd (not_both there past.1))
  ] where
    not_both : w < plan.workers → plan.workers < suc w → ⊥
    not_both there past = absurd (omega arith)

  abbrev lines : List Line
  lines = map (λ (w : ℕ). (picked w).0) (range_with_len 0 plan.workers)

  line_there : (w : ℕ) (line : Line) → slice_get lines w ≡ Some line → IsOne w line
  line_there w line at =
      let there = row_there (λ (w : ℕ). (picked w).0) plan.workers 0 w line at in
      let from : 0 + w ≡ w = omega arith in
      subst (λ (l : Line). IsOne w l) (ap (λ (k : ℕ). (picked k).0) (sym from) ∙ there.1) ((picked w).1 there.0)

  at_end : (come : Bool) → IsAtEnd (ending_of come true None None)
  at_end true = tt
  at_end false = tt

  each_ends : (n first : ℕ) → first + n ≤ plan.workers → AllByRecursion (λ line. IsAtEnd line.ending) (map (λ (w : ℕ). (picked w).0) (range_with_len first n))
  each_ends zero first most = tt
  each_ends (suc n) first most = (subst IsAtEnd (sym ((picked first).1 (omega arith)).ends) (at_end (came plan items first)), each_ends n (first + 1) (omega arith))

  pub lines_are : (report : Report) → report.replies ≡ numbered plan replies → (lines : List Line) × AreLines plan (record_of plan (closed_acts plan (acts_of plan items))) (outcomes.Done report) lines × All (λ line. IsAtEnd line.ending) lines
  lines_are report left = (
    lines,
    record {
      count = length-map (range_with_len 0 plan.workers) (λ (w : ℕ). (picked w).0) ∙ (length-range_with_len 0 plan.workers ∙ sym scripts);
      runs = λ w line at. (line_there w line at).runs;
      lists = mapped items_of (λ (w : ℕ). (picked w).0) plan.workers 0
          ∙ same_rows (λ (w : ℕ). items_of (picked w).0) (λ (w : ℕ). made_by w (account_of plan acts).acts) plan.workers 0 (λ i less. let from : 0 + i < plan.workers = omega arith in ((picked (0 + i)).1 from).lists);
      replies = mapped replies_of (λ (w : ℕ). (picked w).0) plan.workers 0
          ∙ (all_replies ∙ sym left);
      each = λ w line at. (line_there w line at).is;
    },
    All-from_recursion (λ line. IsAtEnd line.ending) lines (each_ends plan.workers 0 (omega arith)),
  ) where
    long : length (numbered plan replies) ≡ plan.workers
    long = length-map replies (map (with_keys_renamed (key_number (keys_in plan.scripts)))) ∙ count

    all_replies : map (λ (w : ℕ). replies_of (picked w).0) (range_with_len 0 plan.workers) ≡ numbered plan replies
    all_replies = subst (λ (n : ℕ). map (λ (w : ℕ). replies_of (picked w).0) (range_with_len 0 n) ≡ numbered plan replies) long (by_places (λ (w : ℕ). replies_of (picked w).0) [] (numbered plan replies) 0
        (λ i less. let from : 0 + i < plan.workers = subst (λ (n : ℕ). 0 + i < n) long (omega arith) in let same : 0 + i ≡ i = omega arith in
        ((picked (0 + i)).1 from).given ∙ (ap (λ (k : ℕ). map (recorded_reply plan) (get_or replies k [])) same ∙ sym (get_mapped (map (recorded_reply plan)) replies i refl))))
