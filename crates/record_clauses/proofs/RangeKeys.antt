-- That a range which keeps the Range law replies pairs whose keys have different names.
use Rattle.std.proofs.Common.{◌≡◌, ℕ, zero, suc, ◌+◌, ◌<◌, Bool, true, false, cond, List, [], ◌∷◌, ◌++◌, map, length, Option, Some, None, slice_get, refl, sym, ap, ◌∙◌, subst, append_assoc, arith}
use Rattle.std.specs.Prelude.{Ok}
use Rattle.std.specs.List.{AllByRecursion, IsDistinct, flat_map}
use Rattle.std.specs.Str.{bytes_eq}
use Rattle.std.proofs.lemmas.List.{length-append}
use Rattle.std.proofs.lemmas.Map.Keys.{IsDistinct-IsPermutation}
use Rattle.std.proofs.lemmas.Option.{slice_get-get_or}
use Rattle.std.proofs.lemmas.Slice.Eq.{bytes_eq-Decides}
use Rattle.script_calls.specs.declared.call.Call.{Call}
use Rattle.script_calls.specs.declared.call.Operation.{Operation}
use Rattle.script_calls.specs.declared.call.Operation.TheVariants as operations
use Rattle.script_calls.specs.declared.call.Reply.{Reply}
use Rattle.script_calls.specs.declared.call.Reply.TheVariants as replies
use Rattle.sync_model.specs.declared.answer.Answer.TheVariants.{Done}
use Rattle.sync_model.specs.declared.item.Item.{Item}
use Rattle.sync_model.specs.declared.item.SharedCall.{SharedCall}
use Rattle.sync_model.specs.declared.item.SharedCall.TheVariants as calls
use Rattle.sync_model.specs.declared.item.SharedEntry.{SharedEntry}
use Rattle.sync_model.specs.declared.item.SharedReply.{SharedReply}
use Rattle.sync_model.specs.declared.item.SharedReply.TheVariants as answers
use Rattle.sync_model.specs.SharedCalls.{IsStep, IsUnshown}
use Rattle.protocols.specs.Spelling.{CallAnswer}
use Rattle.workload.specs.declared.object.ObjectKind.{ObjectKind}
use Rattle.workload.specs.declared.object.ObjectKind.TheVariants as kinds
use Rattle.workload.specs.declared.object.ObjectLine.{ObjectLine}
use Rattle.workload.specs.Keys.{key_name, keys_in, number_in}
use Rattle.workload.specs.Plan.{Plan, is_dormant}
use Rattle.run_record.specs.declared.made.Made.{Made}
use Rattle.run_record.specs.declared.made.Made.TheVariants.{Shared, Entered}
use Rattle.run_record.specs.Calls.{SpellsCall, call_at, call_on}
use Rattle.run_record.specs.Lines.{AreSpelt, IsLineOf, Line, LineEnd, OpensBy, SpeltCall, halted, items_of, misused, stayed, unfinished, whole}
use Rattle.run_record.specs.MapKind.{cursor_showing, range_call, step_showing}
use Rattle.run_record.specs.Objects.{contents_of, map_number, starts_number}
use Rattle.run_record.specs.Parts.{returns}
use Rattle.run_record.specs.Record.{shared_in}
use Rattle.run_record.specs.StartsKind.{opening, wait_start_part}
use Rattle.shared_checks.specs.Parts.{LawfulRanges}
use Rattle.record_clauses.specs.PairOrder.{AreApart, RepliesApart, ShowKeys}
use Rattle.record_clauses.proofs.PairOrder.{flips}

abbrev Pair : Type 0
Pair = ℕ × ℕ

abbrev both : Item → SharedCall × SharedReply
both x = (x.call, x.reply)

get_past : {X : Type 0} (xs ys : List X) (i : ℕ) → slice_get (xs ++ ys) (length xs + i) ≡ slice_get ys i
get_past [] ys i = ap (slice_get ys) (let same : 0 + i ≡ i = omega arith in same)
get_past (x ∷ xs) ys i = ap (slice_get (x ∷ (xs ++ ys))) (let same : suc (length xs) + i ≡ suc (length xs + i) = omega arith in same) ∙ get_past xs ys i

get_before : {X : Type 0} (xs ys : List X) (i : ℕ) (x : X) → slice_get xs i ≡ Some x → slice_get (xs ++ ys) i ≡ Some x
get_before [] ys i x at = absurd cc
get_before (y ∷ xs) ys zero x at = at
get_before (y ∷ xs) ys (suc i) x at = get_before xs ys i x at

-- what was asked and answered at a place
made_at : (made : List Item) (told : List (SharedCall × SharedReply)) (i : ℕ) (one : SharedCall × SharedReply) → map both made ≡ told → slice_get told i ≡ Some one → (x : Item) × (slice_get made i ≡ Some x) × (both x ≡ one)
made_at made told i one are at = by made i (ap (λ (l : List (SharedCall × SharedReply)). slice_get l i) are ∙ at) where
  by : (made : List Item) (i : ℕ) → slice_get (map both made) i ≡ Some one → (x : Item) × (slice_get made i ≡ Some x) × (both x ≡ one)
  by [] i at = absurd cc
  by (x ∷ made) zero at = (x, refl, let same : both x ≡ one = cc in same)
  by (x ∷ made) (suc i) at = by made i at

shown_at : (keys : List (List ℕ)) (m begin : ℕ) (shown : List Pair) (more : List (SharedCall × SharedReply)) (j : ℕ) (pair : Pair) → slice_get shown j ≡ Some pair → slice_get (map (step_showing keys m begin) shown ++ more) j ≡ Some (calls.Next begin, answers.Shown (Some pair))
shown_at keys m begin [] more j pair at = absurd cc
shown_at keys m begin (p ∷ shown) more zero pair at = ap (λ (q : Pair). Some (calls.Next begin, answers.Shown (Some q))) (let same : p ≡ pair = cc in same)
shown_at keys m begin (p ∷ shown) more (suc j) pair at = shown_at keys m begin shown more j pair at

-- different keys have different names
pub names_differ : (scripts : List (List Call)) → ((name : List ℕ) (number : ℕ) → slice_get (keys_in scripts) number ≡ Some name → number_in (keys_in scripts) name ≡ Some number)
    → (i j : ℕ) → i < length (keys_in scripts) → j < length (keys_in scripts) → key_name (keys_in scripts) i ≡ key_name (keys_in scripts) j → i ≡ j
names_differ scripts numbered i j i_below j_below same =
    let first : number_in (keys_in scripts) (key_name (keys_in scripts) i) ≡ Some i = numbered (key_name (keys_in scripts) i) i (slice_get-get_or (keys_in scripts) i [] i_below) in
    let second : number_in (keys_in scripts) (key_name (keys_in scripts) j) ≡ Some j = numbered (key_name (keys_in scripts) j) j (slice_get-get_or (keys_in scripts) j [] j_below) in
    let both_are : Some i ≡ Some j = sym first ∙ ap (number_in (keys_in scripts)) same ∙ second in
    of_some both_are where
      of_some : Some i ≡ Some j → i ≡ j
      of_some e = cc

-- no shared calls are among entries
no_shared : {X : Type 0} (of : X → Made) → ((x : X) → (object : ℕ) × ((rest : List Made) → shared_in (of x ∷ rest) ≡ shared_in rest)) → (xs : List X) → shared_in (map of xs) ≡ []
no_shared of entered [] = refl
no_shared of entered (x ∷ xs) = (entered x).1 (map of xs) ∙ no_shared of entered xs

shared_append : (a b : List Made) → shared_in (a ++ b) ≡ shared_in a ++ shared_in b
shared_append [] b = refl
shared_append (Shared x ∷ a) b = ap (λ (l : List Item). x ∷ l) (shared_append a b)
shared_append (Entered object entry ∷ a) b = shared_append a b

shared_of : (made : List Item) → shared_in (map Shared made) ≡ made
shared_of [] = refl
shared_of (x ∷ made) = ap (λ (l : List Item). x ∷ l) (shared_of made)

module _ (keys : List (List ℕ)) (names_apart : (i j : ℕ) → i < length keys → j < length keys → key_name keys i ≡ key_name keys j → i ≡ j) where
  abbrev named_alike : Pair → Pair → Bool
  named_alike x y = bytes_eq (key_name keys x.0) (key_name keys y.0)

  differ : (p q : Pair) → p.0 < length keys → q.0 < length keys → (p.0 ≡ q.0 → ⊥) → named_alike p q ≡ false
  differ p q p_below q_below apart = by (named_alike p q) refl where
    by : (b : Bool) → named_alike p q ≡ b → b ≡ false
    by true e = absurd (apart (names_apart p.0 q.0 p_below q_below ((bytes_eq-Decides (key_name keys p.0) (key_name keys q.0)).0 e)))
    by false e = refl

  -- the steps of a cursor, from a place on, show these pairs
  abbrev AreSteps : List Item → ℕ → ℕ → List Pair → Type 0
  AreSteps cs b from shown = (j : ℕ) (pair : Pair) → slice_get shown j ≡ Some pair → (x : Item) × IsStep cs b (from + j) x (Some pair)

  module _ (cs : List Item) (b : ℕ) (unshown : (i : ℕ) (x : Item) (pair : Pair) → IsStep cs b i x (Some pair) → IsUnshown cs b i pair.0) (below : ShowKeys keys cs) where
    later_differ : (from : ℕ) (p : Pair) (x : Item) → IsStep cs b from x (Some p) → (shown : List Pair) (more : ℕ) → from < more → AreSteps cs b more shown → AllByRecursion (λ q. named_alike p q ≡ false) shown
    later_differ from p x step [] more less steps = tt
    later_differ from p x step (q ∷ shown) more less steps =
        let (y, at) = steps 0 q refl in
        let n : more + 0 ≡ more = omega arith in
        let here : IsStep cs b more y (Some q) = subst (λ (k : ℕ). IsStep cs b k y (Some q)) n at in
        let not_same : p.0 ≡ q.0 → ⊥ = λ same. unshown more y q here from x p.1 less (subst (λ (k : ℕ). IsStep cs b from x (Some (k, p.1))) same step) in (
          differ p q (below from x p step.at step.reply) (below more y q here.at here.reply) not_same,
          later_differ from p x step shown (suc more) (omega (arith, less)) (λ j pair at. let (z, is) = steps (suc j) pair at in let k : more + suc j ≡ suc more + j = omega arith in (z, subst (λ (l : ℕ). IsStep cs b l z (Some pair)) k is)),
        )

    steps_apart : (shown : List Pair) (from : ℕ) → AreSteps cs b from shown → AreApart keys shown
    unfolding IsDistinct
    steps_apart [] from steps = tt
    steps_apart (p ∷ shown) from steps =
        let (x, at) = steps 0 p refl in
        let n : from + 0 ≡ from = omega arith in
        let here : IsStep cs b from x (Some p) = subst (λ (k : ℕ). IsStep cs b k x (Some p)) n at in
        let behind : AreSteps cs b (suc from) shown = λ j pair at. let (z, is) = steps (suc j) pair at in let k : from + suc j ≡ suc from + j = omega arith in (z, subst (λ (l : ℕ). IsStep cs b l z (Some pair)) k is) in
        (later_differ from p x here shown (suc from) (omega arith) behind, steps_apart shown (suc from) behind)

module _ (plan : Plan) (worker : ℕ) (history : List SharedEntry) (of : ℕ → List Item) (ranges : LawfulRanges (contents_of plan) history of) (shows : ShowKeys (keys_in plan.scripts) (of worker))
    (names_apart : (i j : ℕ) → i < length (keys_in plan.scripts) → j < length (keys_in plan.scripts) → key_name (keys_in plan.scripts) i ≡ key_name (keys_in plan.scripts) j → i ≡ j) where
  abbrev keys : List (List ℕ)
  keys = keys_in plan.scripts

  -- a range behind so many calls
  range_apart : (m : ℕ) (items : List Made) (pairs : List Pair) (earlier later : List Item) → of worker ≡ earlier ++ (shared_in items ++ later) → range_call keys m (length earlier) items (Done (Ok (replies.Pairs pairs))) → AreApart keys pairs
  range_apart m items pairs earlier later cs (shown, sorted, (made, is, are), order, answer) =
      let all : of worker ≡ earlier ++ (made ++ later) = cs ∙ ap (λ (l : List Item). earlier ++ (l ++ later)) (ap shared_in is ∙ shared_of made) in
      let in_calls : (i : ℕ) (x : Item) → slice_get made i ≡ Some x → slice_get (of worker) (length earlier + i) ≡ Some x =
      λ i x at. ap (λ (l : List Item). slice_get l (length earlier + i)) all ∙ get_past earlier (made ++ later) i ∙ get_before made later i x at in
      let (first, at_first, begins) = made_at made (cursor_showing keys m (length earlier) shown) 0 (calls.Begin m, answers.Begun) are refl in
      let n : length earlier + 0 ≡ length earlier = omega arith in
      let here : slice_get (of worker) (length earlier) ≡ Some first = ap (slice_get (of worker)) (sym n) ∙ in_calls 0 first at_first in
      let keeps = ranges worker (length earlier) m first here (ap (λ b. b.0) begins) in
      let steps : (j : ℕ) (pair : Pair) → slice_get shown j ≡ Some pair → (x : Item) × IsStep (of worker) (length earlier) (suc (length earlier) + j) x (Some pair) =
      λ j pair at.
      let (x, at_x, same) = made_at made (cursor_showing keys m (length earlier) shown) (suc j) (calls.Next (length earlier), answers.Shown (Some pair)) are (shown_at keys m (length earlier) shown _ j pair at) in
      let k : length earlier + suc j ≡ suc (length earlier) + j = omega arith in
      (x, record { at = ap (slice_get (of worker)) (sym k) ∙ in_calls (suc j) x at_x; call = ap (λ b. b.0) same; reply = ap (λ b. b.1) same }) in
      let apart : AreApart keys shown = steps_apart keys names_apart (of worker) (length earlier) (λ i x pair step. (keeps i x (Some pair) step).0) shows shown (suc (length earlier)) steps in
      let pairs_are : sorted ≡ pairs = of_answer sorted pairs (sym answer) in
      subst (AreApart keys) pairs_are (IsDistinct-IsPermutation (named_alike keys names_apart) (flips keys) shown sorted order.0 apart)
    where
      of_answer : (a b : List Pair) → ◌≡◌ {A = CallAnswer (Reply ℕ)} (Done (Ok (replies.Pairs a))) (Done (Ok (replies.Pairs b))) → a ≡ b
      of_answer a b e = cc

  on_apart : (place : ℕ) (kind : ObjectKind) (items : List Made) (pairs : List Pair) (earlier later : List Item) → of worker ≡ earlier ++ (shared_in items ++ later) → call_on plan worker (length earlier) place kind operations.Range items (Done (Ok (replies.Pairs pairs))) → AreApart keys pairs
  on_apart place kinds.Map items pairs earlier later cs spelt = range_apart (map_number plan.objects place) items pairs earlier later cs spelt
  on_apart place kind items pairs earlier later cs spelt = absurd spelt

  at_apart : (place : ℕ) (object : Option ObjectLine) (items : List Made) (pairs : List Pair) (earlier later : List Item) → of worker ≡ earlier ++ (shared_in items ++ later) → call_at plan worker (length earlier) place object operations.Range items (Done (Ok (replies.Pairs pairs))) → AreApart keys pairs
  at_apart place None items pairs earlier later cs spelt = absurd spelt
  at_apart place (Some object) items pairs earlier later cs spelt = on_apart place object.kind items pairs earlier later cs spelt

  calls_apart : (spelt : List SpeltCall) (earlier later : List Item) → of worker ≡ earlier ++ (shared_in (flat_map (λ s. s.items) spelt) ++ later) → AreSpelt plan worker (length earlier) spelt → RepliesApart keys spelt
  calls_apart [] earlier later cs are = tt
  calls_apart (s ∷ spelt) earlier later cs (one, more) =
      let rest = shared_in (flat_map (λ (t : SpeltCall). t.items) spelt) in
      let all : of worker ≡ earlier ++ (shared_in s.items ++ (rest ++ later)) = cs ∙ ap (λ (l : List Item). earlier ++ (l ++ later)) (shared_append s.items (flat_map (λ (t : SpeltCall). t.items) spelt)) ∙ ap (λ (l : List Item). earlier ++ l) (append_assoc (shared_in s.items) rest later) in
      let long : length earlier + length (shared_in s.items) ≡ length (earlier ++ shared_in s.items) = sym (length-append earlier (shared_in s.items)) in (
        λ pairs is_range reply.
            at_apart s.call.object (slice_get plan.objects s.call.object) s.items pairs earlier (rest ++ later) all
            (subst (λ (o : Operation). call_at plan worker (length earlier) s.call.object (slice_get plan.objects s.call.object) o s.items (Done (Ok (replies.Pairs pairs)))) is_range
            (subst (λ (r : Reply ℕ). SpellsCall plan worker (length earlier) s.call s.items (Done (Ok r))) reply one)),
        calls_apart spelt (earlier ++ shared_in s.items) later (all ∙ sym (append_assoc earlier (shared_in s.items) (rest ++ later))) (subst (λ (n : ℕ). AreSpelt plan worker n spelt) long more),
      )

  unshared : (first : List Made) (answer : CallAnswer Bool) → opening plan worker first answer → shared_in first ≡ []
  unshared first answer = by (is_dormant plan worker) where
    by : (b : Bool) → cond b (wait_start_part (starts_number plan)) (returns true) first answer → shared_in first ≡ []
    by true (given, (entries, is, spells), read) = ap shared_in is ∙ no_shared _ (λ entry. (0, λ rest. refl)) entries
    by false (none, is) = ap shared_in none

  came_apart : (line : Line) → of worker ≡ shared_in (items_of line) → opening plan worker line.first (Done (Ok true)) → IsLineOf plan worker line → RepliesApart keys line.spelt
  came_apart line cs opened is =
      let behind = line.last ++ line.halts in
      let all : shared_in (items_of line) ≡ [] ++ (shared_in (flat_map (λ (t : SpeltCall). t.items) line.spelt) ++ shared_in behind) =
      shared_append line.first (flat_map (λ (t : SpeltCall). t.items) line.spelt ++ behind) ∙ ap (λ (l : List Item). l ++ shared_in (flat_map (λ (t : SpeltCall). t.items) line.spelt ++ behind)) (unshared line.first (Done (Ok true)) opened)
      ∙ shared_append (flat_map (λ (t : SpeltCall). t.items) line.spelt) behind in
      calls_apart line.spelt [] (shared_in behind) (cs ∙ all) is.calls

  pub line_apart : (line : Line) → of worker ≡ shared_in (items_of line) → IsLineOf plan worker line → RepliesApart keys line.spelt
  line_apart line cs is = by line.ending is.opens where
    by : (ending : LineEnd) → OpensBy plan worker ending line.spelt line.first → RepliesApart keys line.spelt
    by whole opened = came_apart line cs opened is
    by (misused misuse) opened = came_apart line cs opened is
    by (halted misuse) opened = came_apart line cs opened is
    by unfinished opened = came_apart line cs opened is
    by (stayed stay) opened = subst (RepliesApart keys) (sym opened.0) tt
