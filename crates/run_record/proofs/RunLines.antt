-- Lines along runs of scripts.
use Rattle.std.proofs.Common.{◌≡◌, ℕ, zero, suc, ◌+◌, ◌≤◌, ◌<◌, Bool, true, false, ◌||◌, List, [], ◌∷◌, ◌++◌, map, drop, length, get_or, Some, slice_get, refl, sym, ap, ◌∙◌, subst, arith}
use Rattle.std.proofs.lemmas.Option.{none-some, same_Some}
use Rattle.script_calls.specs.declared.call.Call.{Call}
use Rattle.script_calls.specs.declared.call.Reply.{Reply}
use Rattle.script_calls.specs.Runs.{passed_over, has_test, have_tests, places_from, RunsAlong}
use Rattle.run_record.specs.Lines.{SpeltCall, Line, script_of, calls_made}
use Rattle.run_record.proofs.Having.{Each}

or_both : (a b : Bool) → (a || b) ≡ false → (a ≡ false) × (b ≡ false)
or_both true b h = cc
or_both false b h = (refl, h)

-- the completed calls, each with its reply
abbrev pub made_in : List SpeltCall → List (Call × Reply ℕ)
made_in spelt = map (λ s. (s.call, s.reply)) spelt

pub calls_are : (spelt : List SpeltCall) → map (λ one. one.0) (made_in spelt) ≡ map (λ s. s.call) spelt
calls_are [] = refl
calls_are (s ∷ spelt) = ap (λ (l : List Call). s.call ∷ l) (calls_are spelt)

pub replies_are : (spelt : List SpeltCall) → map (λ one. one.1) (made_in spelt) ≡ map (λ s. s.reply) spelt
replies_are [] = refl
replies_are (s ∷ spelt) = ap (λ (l : List (Reply ℕ)). s.reply ∷ l) (replies_are spelt)

-- what holds of each call of a script holds of those that were made and of those that are left
module _ (P : Call → Type 0) where
  each_dropped : (n : ℕ) (calls : List Call) → Each P calls → Each P (drop n calls)
  each_dropped zero calls all = all
  each_dropped (suc n) [] all = tt
  each_dropped (suc n) (call ∷ calls) all = each_dropped n calls all.1

  pub each_along : (spelt : List SpeltCall) (script rest : List Call) → Each P script → RunsAlong script (made_in spelt) rest → Each P (map (λ s. s.call) spelt) × Each P rest
  each_along [] script rest all run = (tt, subst (Each P) (sym run) all)
  each_along (s ∷ spelt) script rest all (behind, is, later) =
      let here : Each P (s.call ∷ behind) = subst (Each P) is all in
      let more = each_along spelt (drop (passed_over s.call s.reply) behind) rest (each_dropped (passed_over s.call s.reply) behind here.1) later in
      ((here.0, more.0), more.1)

-- scripts without tests, call by call
module _ (own : (script rest : List Call) (made : List (Call × Reply ℕ)) → has_test script ≡ false → RunsAlong script made rest → script ≡ map (λ one. one.0) made ++ rest) where
  pub own_script : (script : List Call) (line : Line) → has_test script ≡ false → RunsAlong script (calls_made line) line.rest → script_of line ≡ script
  own_script script line none run = sym (own script line.rest (calls_made line) none run ∙ ap (λ (l : List Call). l ++ line.rest) (calls_are line.spelt))

  pub own_scripts : (lines : List Line) (scripts : List (List Call)) → have_tests scripts ≡ false → length lines ≡ length scripts
      → ((worker : ℕ) (line : Line) → slice_get lines worker ≡ Some line → RunsAlong (get_or scripts worker []) (calls_made line) line.rest) → map script_of lines ≡ scripts
  own_scripts [] [] none count runs = refl
  own_scripts [] (script ∷ scripts) none count runs = absurd (omega (arith, count))
  own_scripts (line ∷ lines) [] none count runs = absurd (omega (arith, count))
  own_scripts (line ∷ lines) (script ∷ scripts) none count runs =
      let parts = or_both (has_test script) (have_tests scripts) none in
      ap (λ (l : List Call). l ∷ map script_of lines) (own_script script line parts.0 (runs 0 line refl))
      ∙ ap (λ (l : List (List Call)). script ∷ l) (own_scripts lines scripts parts.1 (omega (arith, count)) (λ worker other at. runs (suc worker) other at))

module _ (own : (made : List (Call × Reply ℕ)) (rest : List Call) → has_test (map (λ one. one.0) made ++ rest) ≡ false → RunsAlong (map (λ one. one.0) made ++ rest) made rest) where
  pub run_of : (line : Line) → has_test (script_of line) ≡ false → RunsAlong (script_of line) (calls_made line) line.rest
  run_of line none =
      let same : map (λ one. one.0) (calls_made line) ++ line.rest ≡ script_of line = ap (λ (l : List Call). l ++ line.rest) (calls_are line.spelt) in
      subst (λ (l : List Call). RunsAlong l (calls_made line) line.rest) same (own (calls_made line) line.rest (ap has_test same ∙ none))

  pub runs_of : (lines : List Line) → have_tests (map script_of lines) ≡ false → (worker : ℕ) (line : Line) → slice_get lines worker ≡ Some line → RunsAlong (get_or (map script_of lines) worker []) (calls_made line) line.rest
  runs_of [] none worker line at = absurd (none-some line at)
  runs_of (l ∷ lines) none zero line at =
      let same = same_Some l line at in
      subst (λ (x : Line). RunsAlong (script_of l) (calls_made x) x.rest) same (run_of l (or_both (has_test (script_of l)) (have_tests (map script_of lines)) none).0)
  runs_of (l ∷ lines) none (suc worker) line at = runs_of lines (or_both (has_test (script_of l)) (have_tests (map script_of lines)) none).1 worker line at

-- the places of completed calls
pub place_there : (base : ℕ) (script rest : List Call) (spelt : List SpeltCall) (i : ℕ) (s : SpeltCall) → RunsAlong script (made_in spelt) rest → slice_get spelt i ≡ Some s
    → (place : ℕ) × (slice_get (places_from base script (map (λ s. s.reply) spelt)) i ≡ Some place)
place_there base script rest [] i s run at = absurd (none-some s at)
place_there base script rest (t ∷ spelt) zero s (behind, is, later) at =
    subst (λ (l : List Call). (place : ℕ) × (slice_get (places_from base l (map (λ s. s.reply) (t ∷ spelt))) 0 ≡ Some place)) (sym is) (base, refl)
place_there base script rest (t ∷ spelt) (suc i) s (behind, is, later) at =
    subst (λ (l : List Call). (place : ℕ) × (slice_get (places_from base l (map (λ s. s.reply) (t ∷ spelt))) (suc i) ≡ Some place)) (sym is)
    (place_there (base + 1 + passed_over t.call t.reply) (drop (passed_over t.call t.reply) behind) rest spelt i s later at)

module _ {K : Type 0} where
  place_past : (base : ℕ) (script : List Call) (given : List (Reply K)) (i place : ℕ) → slice_get (places_from base script given) i ≡ Some place → base ≤ place
  place_past base script [] i place at = absurd (none-some place at)
  place_past base [] (reply ∷ given) i place at = absurd (none-some place at)
  place_past base (call ∷ script) (reply ∷ given) zero place at = let same = same_Some base place at in omega (arith, same)
  place_past base (call ∷ script) (reply ∷ given) (suc i) place at =
      let past = place_past (base + 1 + passed_over call reply) (drop (passed_over call reply) script) given i place at in
      omega (arith, past)

  pub places_rise : (base : ℕ) (script : List Call) (given : List (Reply K)) (i j x y : ℕ) → i < j → slice_get (places_from base script given) i ≡ Some x → slice_get (places_from base script given) j ≡ Some y → x < y
  places_rise base script [] i j x y before at other = absurd (none-some x at)
  places_rise base [] (reply ∷ given) i j x y before at other = absurd (none-some x at)
  places_rise base (call ∷ script) (reply ∷ given) i zero x y before at other = absurd (omega (arith, before))
  places_rise base (call ∷ script) (reply ∷ given) zero (suc j) x y before at other =
      let same = same_Some base x at in
      let past = place_past (base + 1 + passed_over call reply) (drop (passed_over call reply) script) given j y other in
      omega (arith, same, past)
  places_rise base (call ∷ script) (reply ∷ given) (suc i) (suc j) x y before at other =
      places_rise (base + 1 + passed_over call reply) (drop (passed_over call reply) script) given i j x y (omega (arith, before)) at other
