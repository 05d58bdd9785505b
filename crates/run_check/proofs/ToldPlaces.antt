-- What holds of the items of each call of a script holds of each item of a line, of the call that it is of.
use Rattle.std.proofs.Common.{◌≡◌, ℕ, zero, suc, ◌+◌, true, false, List, [], ◌∷◌, ◌++◌, map, length, get_or, Ok, Err, Option, Some, None, slice_get, refl, sym, ap, ◌∙◌, subst, arith, append_assoc}
use Rattle.std.specs.Prelude.{drop, replicate}
use Rattle.std.specs.List.{AllByRecursion, flat_map}
use Rattle.sync_model.specs.declared.answer.Answer.TheVariants.{Done, Halted}
use Rattle.script_calls.specs.declared.call.Call.{Call}
use Rattle.script_calls.specs.Runs.{RunsAlong, passed_over}
use Rattle.workload.specs.Plan.{Plan}
use Rattle.run_record.specs.declared.made.Made.{Made}
use Rattle.run_record.specs.Calls.{SpellsCall}
use Rattle.run_record.specs.Lines.{AreSpelt, EndsBy, IsLineOf, Line, LineEnd, OpensBy, SpeltCall, Stay, StaysBy, whole, misused, halted, unfinished, stayed, never, stopped, waits, calls_made}
use Rattle.run_record.specs.Record.{shared_in}
use Rattle.run_record.specs.StartsKind.{closing, opening}
use Rattle.run_cuts.specs.CallsAlong.{calls_along, calls_from, next_call}
use Rattle.record_text.proofs.EachDeed.{EachOf}
use Rattle.record_text.proofs.OwnWords.{each_split}
use Rattle.run_check.specs.ToldItems.{script_call}

drop_past : (p k : ℕ) (xs : List Call) (x : Call) (ys : List Call) → drop p xs ≡ x ∷ ys → drop (p + 1 + k) xs ≡ drop k ys
drop_past zero k xs x ys is =
    let number : zero + 1 + k ≡ suc k = omega arith in
    ap (λ (n : ℕ). drop n xs) number ∙ ap (λ (l : List Call). drop (suc k) l) is
drop_past (suc p) k [] x ys is = let long = ap (λ (l : List Call). length l) is in absurd (omega (arith, long))
drop_past (suc p) k (z ∷ zs) x ys is =
    let number : suc p + 1 + k ≡ suc (p + 1 + k) = omega arith in
    ap (λ (n : ℕ). drop n (z ∷ zs)) number ∙ drop_past p k zs x ys is

there : (p : ℕ) (xs : List Call) (x : Call) (ys : List Call) → drop p xs ≡ x ∷ ys → slice_get xs p ≡ Some x
there zero xs x ys is = ap (λ (l : List Call). slice_get l 0) is
there (suc p) [] x ys is = let long = ap (λ (l : List Call). length l) is in absurd (omega (arith, long))
there (suc p) (z ∷ zs) x ys is = there p zs x ys is

-- what holds at each place of a list holds of each of its elements
pub each_of : {X : Type 0} (P : X → Type 0) (xs : List X) → ((i : ℕ) (x : X) → slice_get xs i ≡ Some x → P x) → AllByRecursion P xs
each_of P [] at = tt
each_of P (x ∷ xs) at = (at 0 x refl, each_of P xs (λ i y there. at (suc i) y there))

module _ (plan : Plan) (worker : ℕ) (P : Option Call → Made → Type 0) where
  -- it holds of each item, of the call whose place in the script is told
  abbrev pub AllOf : List Made → List (Option ℕ) → Type 0
  AllOf [] [] = Unit {0}
  AllOf [] (index ∷ indices) = ⊥
  AllOf (item ∷ items) [] = ⊥
  AllOf (item ∷ items) (index ∷ indices) = P (script_call plan worker index) item × AllOf items indices

  of_both : (xs ys : List Made) (is js : List (Option ℕ)) → AllOf xs is → AllOf ys js → AllOf (xs ++ ys) (is ++ js)
  of_both [] ys [] js first second = second
  of_both [] ys (i ∷ is) js first second = absurd first
  of_both (x ∷ xs) ys [] js first second = absurd first
  of_both (x ∷ xs) ys (i ∷ is) js first second = (first.0, of_both xs ys is js first.1 second)

  of_one : (call : Option Call) (index : Option ℕ) → script_call plan worker index ≡ call → (items : List Made) → AllByRecursion (P call) items → AllOf items (replicate (length items) index)
  of_one call index is [] each = tt
  of_one call index is (x ∷ items) each = (subst (λ c. P c x) (sym is) each.0, of_one call index is items each.1)

  module _ (of_call : (before : ℕ) (call : Call) → EachOf (P (Some call)) (SpellsCall plan worker before call)) (of_opening : EachOf (P None) (opening plan worker)) (of_closing : EachOf (P None) (closing plan worker)) where
    abbrev script : List Call
    script = get_or plan.scripts worker []

    of_none : (items : List Made) → AllByRecursion (P None) items → AllOf items (replicate (length items) None)
    of_none items each = of_one None None refl items each

    of_next : (place : ℕ) (call : Call) (rest : List Call) → drop place script ≡ call ∷ rest → (items : List Made) → AllByRecursion (P (Some call)) items → AllOf items (replicate (length items) (Some place))
    of_next place call rest here items each = of_one (Some call) (Some place) (there place script call rest here) items each

    of_ends : (before place : ℕ) (ending : LineEnd) (rest : List Call) (last : List Made) → drop place script ≡ rest → EndsBy plan worker before ending rest last → AllOf last (replicate (length last) (next_call place rest))
    of_ends before place whole rest last here ends = subst (λ (r : List Call). AllOf last (replicate (length last) (next_call place r))) (sym ends.0) (of_none last (of_closing last (Done (Ok tt)) ends.1))
    of_ends before place (misused misuse) [] last here ends = of_none last (of_closing last (Done (Err misuse)) ends)
    of_ends before place (misused misuse) (call ∷ rest) last here ends = of_next place call rest here last (of_call before call last (Done (Err misuse)) ends)
    of_ends before place (halted misuse) [] last here ends = of_none last (of_closing last (Halted misuse) ends)
    of_ends before place (halted misuse) (call ∷ rest) last here ends = of_next place call rest here last (of_call before call last (Halted misuse) ends)
    of_ends before place unfinished [] last here (later, answer, some, made) = of_none last (each_split (P None) last later (of_closing (last ++ later) answer made)).0
    of_ends before place unfinished (call ∷ rest) last here (later, answer, made) = of_next place call rest here last (each_split (P (Some call)) last later (of_call before call (last ++ later) answer made)).0
    of_ends before place (stayed stay) rest last here ends = subst (λ (items : List Made). AllOf items (replicate (length items) (next_call place rest))) (sym ends) tt

    of_spelt : (end before place : ℕ) (ending : LineEnd) (left rest : List Call) (last : List Made) (spelt : List SpeltCall) → drop place script ≡ left → RunsAlong left (map (λ (s : SpeltCall). (s.call, s.reply)) spelt) rest → AreSpelt plan worker before spelt
        → EndsBy plan worker end ending rest last → AllOf (flat_map (λ (s : SpeltCall). s.items) spelt ++ last) (calls_from place spelt rest last)
    of_spelt end before place ending left rest last [] here runs are ends = of_ends end place ending rest last (here ∙ sym runs) ends
    of_spelt end before place ending left rest last (s ∷ spelt) here (behind, is, runs) are ends =
        let passed = passed_over s.call s.reply in
        let later = of_spelt end (before + length (shared_in s.items)) (place + 1 + passed) ending (drop passed behind) rest last spelt (drop_past place passed script s.call behind (here ∙ is)) runs are.1 ends in
        subst (λ (items : List Made). AllOf items (calls_from place (s ∷ spelt) rest last)) (sym (append_assoc s.items (flat_map (λ (t : SpeltCall). t.items) spelt) last))
        (of_both s.items (flat_map (λ (t : SpeltCall). t.items) spelt ++ last) (replicate (length s.items) (Some place)) (calls_from (place + 1 + passed) spelt rest last)
        (of_next place s.call behind (here ∙ is) s.items (of_call before s.call s.items (Done (Ok s.reply)) are.0)) later)

    of_stays : (stay : Stay) (first : List Made) → StaysBy plan worker stay first → AllByRecursion (P None) first
    of_stays never first stays = of_opening first (Done (Ok false)) stays
    of_stays (stopped misuse) first stays = of_opening first (Halted misuse) stays
    of_stays waits first (later, answer, some, made) = (each_split (P None) first later (of_opening (first ++ later) answer made)).0

    of_opens : (ending : LineEnd) (spelt : List SpeltCall) (first : List Made) → OpensBy plan worker ending spelt first → AllByRecursion (P None) first
    of_opens whole spelt first opens = of_opening first (Done (Ok true)) opens
    of_opens (misused misuse) spelt first opens = of_opening first (Done (Ok true)) opens
    of_opens (halted misuse) spelt first opens = of_opening first (Done (Ok true)) opens
    of_opens unfinished spelt first opens = of_opening first (Done (Ok true)) opens
    of_opens (stayed stay) spelt first opens = of_stays stay first opens.1

    -- of each item of a line, up to its halts
    pub of_line : (line : Line) → IsLineOf plan worker line → RunsAlong script (calls_made line) line.rest → AllOf (line.first ++ (flat_map (λ (s : SpeltCall). s.items) line.spelt ++ line.last)) (calls_along line)
    of_line line is runs =
        of_both line.first (flat_map (λ (s : SpeltCall). s.items) line.spelt ++ line.last) (replicate (length line.first) None) (calls_from 0 line.spelt line.rest line.last)
        (of_none line.first (of_opens line.ending line.spelt line.first is.opens))
        (of_spelt (length (shared_in (flat_map (λ (s : SpeltCall). s.items) line.spelt))) 0 0 line.ending script line.rest line.last line.spelt refl runs is.calls is.ends)
