-- The lines of a report, one by one.
use Rattle.std.proofs.Common.{◌≡◌, ◌∙◌, ℕ, zero, suc, ◌+◌, List, [], ◌∷◌, ◌++◌, length, take, get_or, map, sum_by, Some, refl, sym, ap, subst, arith, length-append}
use Rattle.std.specs.Prelude.{option_map, drop}
use Rattle.std.specs.List.{flat_map, slice_get}
use Rattle.std.proofs.lemmas.Grind.{flat_map-append}
use Rattle.std.proofs.lemmas.List.{length-map}
use Rattle.std.proofs.lemmas.List.Folds.{flat_map-map}
use Rattle.std.proofs.lemmas.List.Sums.{sum_by-cons}
use Rattle.std.proofs.lemmas.Option.{get_or_from_slice_get, slice_get-map}
use Rattle.script_calls.specs.Runs.{made_of, passed_over, places_from}
use Rattle.script_calls.specs.declared.call.Call.{Call}
use Rattle.script_calls.specs.declared.call.Reply.{Reply}
use Rattle.sync_types.specs.declared.end.End.{End}
use Rattle.workload.specs.Plan.{Plan}
use Rattle.workload_text.specs.ReportLines.{completed_line, end_line}
use Rattle.run_report.specs.ReportText.{calls_text, completed_in, completed_in_all, ends_text, workers_text}
use Rattle.run_report.specs.Shown.{completed_before, AreReplies, Shows}

slice_get_left : {X : Type 0} (xs ys : List X) (k : ℕ) (x : X) → slice_get xs k ≡ Some x → slice_get (xs ++ ys) k ≡ Some x
slice_get_left [] ys k x is = cc
slice_get_left (y ∷ xs) ys zero x is = is
slice_get_left (y ∷ xs) ys (suc k) x is = slice_get_left xs ys k x is

slice_get_right : {X : Type 0} (xs ys : List X) (k : ℕ) → slice_get (xs ++ ys) (length xs + k) ≡ slice_get ys k
slice_get_right [] ys k = ap (slice_get ys) (omega arith)
slice_get_right (x ∷ xs) ys k =
    let later : suc (length xs + k) ≡ suc (length xs) + k = omega arith in
    subst (λ (n : ℕ). slice_get (x ∷ (xs ++ ys)) n ≡ slice_get ys k) later (slice_get_right xs ys k)

-- each reply is of a call that completed
pub completed : (scripts : List (List Call)) (replies : List (List (Reply ℕ))) → AreReplies scripts replies → completed_in_all scripts replies ≡ sum_by length replies
completed (script ∷ scripts) (replies ∷ rest) made =
    ap (λ (n : ℕ). n + completed_in_all scripts rest) (made 0)
    ∙ ap (λ (n : ℕ). length replies + n) (completed scripts rest (λ w. made (suc w)))
    ∙ sym (sum_by-cons (λ (r : List (Reply ℕ)). length r) replies rest)
completed [] [] made = refl
completed [] (replies ∷ rest) made =
    let none : 0 ≡ length replies = no_calls replies (made 0) in
    let later = completed [] rest (λ w. made (suc w)) in
    omega (arith, none, later, sum_by-cons (λ (r : List (Reply ℕ)). length r) replies rest)
  where
    no_calls : (replies : List (Reply ℕ)) → length (made_of [] replies) ≡ length replies → 0 ≡ length replies
    no_calls [] is = refl
    no_calls (reply ∷ replies) is = is
completed (script ∷ scripts) [] made = refl

-- a worker's replies are each of a call that it made
made_at : (scripts : List (List Call)) (replies : List (List (Reply ℕ))) (worker : ℕ) (of : List (Reply ℕ)) → AreReplies scripts replies → slice_get replies worker ≡ Some of
    → length (made_of (get_or scripts worker []) of) ≡ length of
made_at scripts replies worker of made has =
    subst (λ (c : List (Reply ℕ)). length (made_of (get_or scripts worker []) c) ≡ length c) (get_or_from_slice_get replies worker of [] has) (made worker)

nobody : (replies : List (Reply ℕ)) (number : ℕ) (reply : Reply ℕ) → length (made_of [] replies) ≡ length replies → slice_get replies number ≡ Some reply → ⊥
nobody [] number reply made answered = cc
nobody (first ∷ replies) number reply made answered = omega (arith, made)

some_same : {X : Type 0} {a b : X} → Some a ≡ Some b → a ≡ b
some_same e = cc

-- a call keeps its place
abbrev pub KeepPlaces : Type 0
KeepPlaces = (script : List Call) (given : List (Reply ℕ)) (i place : ℕ) → slice_get (places_from 0 script given) i ≡ Some place → slice_get script place ≡ slice_get (made_of script given) i

module _ (plan : Plan) where
  abbrev calls_lines : ℕ → ℕ → List Call → List (Reply ℕ) → List (List ℕ)
  calls_lines worker place script [] = []
  calls_lines worker place [] (reply ∷ replies) = []
  calls_lines worker place (call ∷ script) (reply ∷ replies) =
      completed_line plan worker place call reply ∷ calls_lines worker (place + 1 + passed_over call reply) (drop (passed_over call reply) script) replies

  abbrev workers_lines : ℕ → List (List Call) → List (List (Reply ℕ)) → List (List ℕ)
  workers_lines worker (script ∷ scripts) (replies ∷ rest) = calls_lines worker 0 script replies ++ workers_lines (worker + 1) scripts rest
  workers_lines worker [] replies = []
  workers_lines worker (script ∷ scripts) [] = []

  calls_flat : (worker place : ℕ) (script : List Call) (replies : List (Reply ℕ)) → calls_text plan worker place script replies ≡ flat_map (λ line. line) (calls_lines worker place script replies)
  calls_flat worker place script [] = refl
  calls_flat worker place [] (reply ∷ replies) = refl
  calls_flat worker place (call ∷ script) (reply ∷ replies) =
      ap (λ (t : List ℕ). completed_line plan worker place call reply ++ t) (calls_flat worker (place + 1 + passed_over call reply) (drop (passed_over call reply) script) replies)

  workers_flat : (worker : ℕ) (scripts : List (List Call)) (replies : List (List (Reply ℕ))) → workers_text plan worker scripts replies ≡ flat_map (λ line. line) (workers_lines worker scripts replies)
  workers_flat worker (script ∷ scripts) (replies ∷ rest) =
      ap (λ (t : List ℕ). t ++ workers_text plan (worker + 1) scripts rest) (calls_flat worker 0 script replies)
      ∙ ap (λ (t : List ℕ). flat_map (λ line. line) (calls_lines worker 0 script replies) ++ t) (workers_flat (worker + 1) scripts rest)
      ∙ sym (flat_map-append (λ (line : List ℕ). line) (calls_lines worker 0 script replies) (workers_lines (worker + 1) scripts rest))
  workers_flat worker [] replies = refl
  workers_flat worker (script ∷ scripts) [] = refl

  calls_count : (worker place : ℕ) (script : List Call) (replies : List (Reply ℕ)) → length (calls_lines worker place script replies) ≡ completed_in script replies
  calls_count worker place script [] = refl
  calls_count worker place [] (reply ∷ replies) = refl
  calls_count worker place (call ∷ script) (reply ∷ replies) =
      ap (λ (n : ℕ). suc n) (calls_count worker (place + 1 + passed_over call reply) (drop (passed_over call reply) script) replies)

  -- the reply with this number is that of a call with a place, and has its line
  record HasLine (worker first : ℕ) (script : List Call) (replies : List (Reply ℕ)) (number : ℕ) (reply : Reply ℕ) : Type 0 where
    place : ℕ
    call : Call
    at : slice_get (places_from first script replies) number ≡ Some place
    made : slice_get (made_of script replies) number ≡ Some call
    line : slice_get (calls_lines worker first script replies) number ≡ Some (completed_line plan worker place call reply)

  call_line : (worker first : ℕ) (script : List Call) (replies : List (Reply ℕ)) (number : ℕ) (reply : Reply ℕ) → length (made_of script replies) ≡ length replies → slice_get replies number ≡ Some reply → HasLine worker first script replies number reply
  call_line worker first script [] number reply each answered = absurd cc
  call_line worker first [] (answer ∷ replies) number reply each answered = absurd (omega (arith, each))
  call_line worker first (call ∷ script) (answer ∷ replies) zero reply each answered = record {
    place = first;
    call = call;
    at = refl;
    made = refl;
    line = ap (λ (r : Reply ℕ). Some (completed_line plan worker first call r)) (some_same answered);
  }
  call_line worker first (call ∷ script) (answer ∷ replies) (suc number) reply each answered =
      let later = call_line worker (first + 1 + passed_over call answer) (drop (passed_over call answer) script) replies number reply (omega (arith, each)) answered in
      record { place = later.place; call = later.call; at = later.at; made = later.made; line = later.line }

  workers_count : (worker : ℕ) (scripts : List (List Call)) (replies : List (List (Reply ℕ))) → length (workers_lines worker scripts replies) ≡ completed_in_all scripts replies
  workers_count worker (script ∷ scripts) (replies ∷ rest) =
      length-append (calls_lines worker 0 script replies) (workers_lines (worker + 1) scripts rest)
      ∙ ap (λ (n : ℕ). n + length (workers_lines (worker + 1) scripts rest)) (calls_count worker 0 script replies)
      ∙ ap (λ (n : ℕ). completed_in script replies + n) (workers_count (worker + 1) scripts rest)
  workers_count worker [] replies = refl
  workers_count worker (script ∷ scripts) [] = refl

  -- a worker's reply is that of a call with a place, whose line stands behind so many others
  abbrev IsShown : ℕ → ℕ → List (List ℕ) → List Call → List (Reply ℕ) → ℕ → Reply ℕ → Type 0
  IsShown worker before lines script completed number reply =
      (place : ℕ) × (call : Call) × (slice_get (places_from 0 script completed) number ≡ Some place) × (slice_get (made_of script completed) number ≡ Some call)
      × (slice_get lines (before + number) ≡ Some (completed_line plan worker place call reply))

  worker_line : (first : ℕ) (scripts : List (List Call)) (replies : List (List (Reply ℕ))) (worker number : ℕ) (completed : List (Reply ℕ)) (reply : Reply ℕ) → AreReplies scripts replies
      → slice_get replies worker ≡ Some completed → slice_get completed number ≡ Some reply
      → IsShown (first + worker) (sum_by length (take worker replies)) (workers_lines first scripts replies) (get_or scripts worker []) completed number reply
  worker_line first scripts [] worker number completed reply made has answered = absurd cc
  worker_line first [] (replies ∷ rest) worker number completed reply made has answered = absurd (nobody completed number reply (made_at [] (replies ∷ rest) worker completed made has) answered)
  worker_line first (script ∷ scripts) (replies ∷ rest) zero number completed reply made has answered =
      let same : replies ≡ completed = some_same has in
      let here = call_line first 0 script completed number reply (made_at (script ∷ scripts) (replies ∷ rest) zero completed made has) answered in
      let numbered : first ≡ first + 0 = omega arith in
      let placed : number ≡ 0 + number = omega arith in (
        here.place,
        here.call,
        here.at,
        here.made,
        ap (slice_get (workers_lines first (script ∷ scripts) (replies ∷ rest))) (sym placed)
            ∙ slice_get_left (calls_lines first 0 script replies) (workers_lines (first + 1) scripts rest) number (completed_line plan first here.place here.call reply)
            (ap (λ (c : List (Reply ℕ)). slice_get (calls_lines first 0 script c) number) same ∙ here.line)
            ∙ ap (λ (n : ℕ). Some (completed_line plan n here.place here.call reply)) numbered,
      )
  worker_line first (script ∷ scripts) (replies ∷ rest) (suc worker) number completed reply made has answered =
      let later = worker_line (first + 1) scripts rest worker number completed reply (λ w. made (suc w)) has answered in
      let count : length (calls_lines first 0 script replies) ≡ length replies = calls_count first 0 script replies ∙ made 0 in
      let before = sum_by-cons (λ (r : List (Reply ℕ)). length r) replies (take worker rest) in
      let placed : sum_by length (replies ∷ take worker rest) + number ≡ length (calls_lines first 0 script replies) + (sum_by length (take worker rest) + number) = omega (arith, count, before) in
      let numbered : first + 1 + worker ≡ first + suc worker = omega arith in (
        later.0,
        later.1,
        later.2,
        later.3,
        ap (slice_get (workers_lines first (script ∷ scripts) (replies ∷ rest))) placed
            ∙ slice_get_right (calls_lines first 0 script replies) (workers_lines (first + 1) scripts rest) (sum_by length (take worker rest) + number)
            ∙ later.4 ∙ ap (λ (n : ℕ). Some (completed_line plan n later.0 later.1 reply)) numbered,
      )

  abbrev shown_lines : List (List (Reply ℕ)) → List End → List (List ℕ)
  shown_lines replies ends = workers_lines 0 plan.scripts replies ++ map (end_line plan) ends

  -- what is shown of these replies and ends
  pub shows : KeepPlaces → (replies : List (List (Reply ℕ))) (ends : List End) → AreReplies plan.scripts replies → Shows plan replies ends (workers_text plan 0 plan.scripts replies ++ ends_text plan ends)
  shows keep replies ends made =
      let calls : List (List ℕ) = workers_lines 0 plan.scripts replies in
      let count : length calls ≡ sum_by length replies = workers_count 0 plan.scripts replies ∙ completed plan.scripts replies made in record {
        lines = shown_lines replies ends;
        whole =
            ap (λ (t : List ℕ). t ++ ends_text plan ends) (workers_flat 0 plan.scripts replies)
            ∙ ap (λ (t : List ℕ). flat_map (λ line. line) calls ++ t) (sym (flat_map-map (λ (line : List ℕ). line) (end_line plan) ends))
            ∙ sym (flat_map-append (λ (line : List ℕ). line) calls (map (end_line plan) ends));
        count = length-append calls (map (end_line plan) ends) ∙ ap (λ (n : ℕ). n + length (map (end_line plan) ends)) count ∙ ap (λ (n : ℕ). sum_by length replies + n) (length-map ends (end_line plan));
        call_lines = λ worker number of reply has answered.
            let here = worker_line 0 plan.scripts replies worker number of reply made has answered in
            let numbered : 0 + worker ≡ worker = omega arith in (
              here.0,
              here.1,
              record { at = here.2; is = keep (get_or plan.scripts worker []) of number here.0 here.2 ∙ here.3; answered = answered },
              slice_get_left calls (map (end_line plan) ends) (completed_before worker replies + number) (completed_line plan worker here.0 here.1 reply)
                  (here.4 ∙ ap (λ (n : ℕ). Some (completed_line plan n here.0 here.1 reply)) numbered),
            );
        end_lines = λ place end is.
            ap (λ (n : ℕ). slice_get (shown_lines replies ends) (n + place)) (sym count)
            ∙ slice_get_right calls (map (end_line plan) ends) place
            ∙ slice_get-map (end_line plan) ends place
            ∙ ap (option_map (end_line plan)) is;
      }

  -- the same of a report that shows no ends
  pub shows_calls : KeepPlaces → (replies : List (List (Reply ℕ))) → AreReplies plan.scripts replies → Shows plan replies [] (workers_text plan 0 plan.scripts replies ++ [])
  shows_calls keep replies made = shows keep replies [] made
