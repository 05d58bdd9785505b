-- Reports of workloads in which no call may pass others over.
use Rattle.std.proofs.Common.{◌≡◌, ◌∙◌, ℕ, zero, suc, ◌+◌, ◌≤◌, Bool, true, false, List, [], ◌∷◌, length, take, get_or, Some, refl, sym, ap, arith}
use Rattle.std.specs.Prelude.{◌↔◌, ◌||◌, drop}
use Rattle.std.specs.List.{slice_get}
use Rattle.std.proofs.Math.Seq.{drop-nil}
use Rattle.std.proofs.lemmas.List.{length-take, length-take-le}
use Rattle.std.proofs.lemmas.Option.{get_or_from_slice_get}
use Rattle.script_calls.specs.Runs.{has_test, have_tests, is_test, left_of, made_of, passed_over, places_from}
use Rattle.script_calls.specs.declared.call.Call.{Call}
use Rattle.script_calls.specs.declared.call.Reply.{Reply}
use Rattle.sync_types.specs.declared.end.End.{End}
use Rattle.workload.specs.Plan.{Plan}
use Rattle.workload_text.specs.ReportLines.{completed_line}
use Rattle.run_report.specs.Shown.{completed_before, AreReplies, Shows}

-- what is left of a script without tests, and what was made of it
abbrev pub LeavesRest : Type 0
LeavesRest = (script : List Call) (given : List (Reply ℕ)) → has_test script ≡ false → left_of script given ≡ drop (length given) script

abbrev pub MakesFirst : Type 0
MakesFirst = (script : List Call) (given : List (Reply ℕ)) → has_test script ≡ false → made_of script given ≡ take (length given) script

neither : (a b : Bool) → (a || b) ≡ false → (a ≡ false) × (b ≡ false)
neither false b e = (refl, e)
neither true b e = absurd cc

-- a script of one call is what is left of two, so nothing was passed over
none_passed : LeavesRest → (call : Call) (reply : Reply ℕ) → is_test call ≡ false → passed_over call reply ≡ 0
none_passed left call reply plain = at (passed_over call reply) (left (call ∷ call ∷ []) (reply ∷ []) (twice (is_test call) plain))
  where
    twice : (b : Bool) → b ≡ false → (b || (b || false)) ≡ false
    twice false e = refl
    twice true e = e

    some : ◌≡◌ {A = List Call} [] (call ∷ []) → ⊥
    some e = cc

    at : (n : ℕ) → drop n (call ∷ []) ≡ call ∷ [] → n ≡ 0
    at zero e = refl
    at (suc n) e = absurd (some (sym (drop-nil n) ∙ e))

without : (scripts : List (List Call)) (worker : ℕ) → have_tests scripts ≡ false → has_test (get_or scripts worker []) ≡ false
without [] worker none = refl
without (script ∷ scripts) zero none = (neither (has_test script) (have_tests scripts) none).0
without (script ∷ scripts) (suc worker) none = without scripts worker (neither (has_test script) (have_tests scripts) none).1

some_same : {X : Type 0} {a b : X} → Some a ≡ Some b → a ≡ b
some_same e = cc

-- where nothing is passed over, the next place is right behind
next_place : (first n : ℕ) (script : List Call) (given : List (Reply ℕ)) (number place : ℕ) → n ≡ 0 → slice_get (places_from (first + 1 + n) (drop n script) given) number ≡ Some place
    → slice_get (places_from (first + 1) script given) number ≡ Some place
next_place first zero script given number place none at =
    let behind : first + 1 ≡ first + 1 + 0 = omega arith in
    ap (λ (n : ℕ). slice_get (places_from n script given) number) behind ∙ at
next_place first (suc n) script given number place none at = absurd (omega (arith, none))

place_counts : LeavesRest → (first : ℕ) (script : List Call) (given : List (Reply ℕ)) (number place : ℕ) → has_test script ≡ false → slice_get (places_from first script given) number ≡ Some place → place ≡ first + number
place_counts left first script [] number place none at = absurd cc
place_counts left first [] (reply ∷ given) number place none at = absurd cc
place_counts left first (call ∷ script) (reply ∷ given) zero place none at =
    let here : first ≡ place = some_same at in
    omega (arith, here)
place_counts left first (call ∷ script) (reply ∷ given) (suc number) place none at =
    let parts = neither (is_test call) (has_test script) none in
    let later = place_counts left (first + 1) script given number place parts.1 (next_place first (passed_over call reply) script given number place (none_passed left call reply parts.0) at) in
    omega (arith, later)

-- a line has the number of its reply
pub lines_count : LeavesRest → (plan : Plan) (replies : List (List (Reply ℕ))) (ends : List End) (text : List ℕ) (shown : Shows plan replies ends text) (worker index : ℕ) (script : List Call) (completed : List (Reply ℕ)) (call : Call) (reply : Reply ℕ)
    → have_tests plan.scripts ≡ false → slice_get plan.scripts worker ≡ Some script → slice_get replies worker ≡ Some completed → slice_get script index ≡ Some call → slice_get completed index ≡ Some reply
    → slice_get shown.lines (completed_before worker replies + index) ≡ Some (completed_line plan worker index call reply)
lines_count left plan replies ends text shown worker index script completed call reply none has answers is answered =
    let own : List Call = get_or plan.scripts worker [] in
    let here = shown.call_lines worker index completed reply answers answered in
    let counted = place_counts left 0 own completed index here.0 (without plan.scripts worker none) here.2.at in
    let placed : here.0 ≡ index = omega (arith, counted) in
    let same : own ≡ script = get_or_from_slice_get plan.scripts worker script [] has in
    let called : here.1 ≡ call = some_same (sym here.2.is ∙ ap (slice_get own) placed ∙ ap (λ (s : List Call). slice_get s index) same ∙ is) in
    here.3 ∙ ap (λ (n : ℕ). Some (completed_line plan worker n here.1 reply)) placed ∙ ap (λ (c : Call). Some (completed_line plan worker index c reply)) called

-- and each reply is of one of the first calls
made_few : MakesFirst → (script : List Call) (given : List (Reply ℕ)) → has_test script ≡ false → (length (made_of script given) ≡ length given) ↔ (length given ≤ length script)
made_few made script given none =
    let first : length (made_of script given) ≡ length (take (length given) script) = ap (λ (calls : List Call). length calls) (made script given none) in
    (λ each. omega (arith, each, first, length-take (length given) script), λ few. first ∙ length-take-le (length given) script few)

pub replies_few : MakesFirst → (scripts : List (List Call)) (replies : List (List (Reply ℕ))) → have_tests scripts ≡ false
    → AreReplies scripts replies ↔ ((worker : ℕ) → length (get_or replies worker []) ≤ length (get_or scripts worker []))
replies_few made scripts replies none = (
  λ each worker. (made_few made (get_or scripts worker []) (get_or replies worker []) (without scripts worker none)).0 (each worker),
  λ few worker. (made_few made (get_or scripts worker []) (get_or replies worker []) (without scripts worker none)).1 (few worker),
)
