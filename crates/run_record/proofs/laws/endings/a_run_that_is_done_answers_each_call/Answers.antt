use Rattle.std.proofs.Common.{◌≡◌, ℕ, suc, false, ◌<◌, ◌≤◌, ◌⊎◌, inl, inr, None, get_or, List, [], ◌∷◌, ◌++◌, map, length, Some, slice_get, refl, sym, ap, ◌∙◌, subst, arith, length-append}
use Rattle.std.specs.List.{flat_map}
use Rattle.std.proofs.lemmas.List.{get_or_past, length-map}
use Rattle.std.proofs.lemmas.Option.{slice_get_within, get_or_from_slice_get, slice_get_cases}
use Rattle.script_calls.specs.declared.call.Call.{Call}
use Rattle.script_calls.specs.declared.call.Reply.{Reply}
use Rattle.script_calls.specs.declared.outcome.Outcome.TheVariants.{Done}
use Rattle.script_calls.specs.declared.outcome.Report.{Report}
use Rattle.script_calls.specs.Outcome.{left_by}
use Rattle.script_calls.specs.Runs.{left_of, made_of}
use Rattle.workload.specs.Plan.{Plan, is_dormant}
use Rattle.run_record.specs.Explains.{Explains, IsAtEnd}
use Rattle.run_record.specs.Lines.{Line, LineEnd, SpeltCall, never, stopped, waits, whole, misused, halted, unfinished, stayed, script_of, replies_of, IsLineOf, EndsBy, OpensBy}
use Rattle.run_record.specs.Record.{Record, shared_in}
use Rattle.run_record.proofs.PlainLemmas.{nobody, none_stayed}
use Rattle.run_record.proofs.laws.endings.a_run_that_is_done_answers_each_call.Goals as goal

abbrev AnswersAll : Line → Type 0
AnswersAll line = length (replies_of line) ≡ length (script_of line)

as_many : (spelt : List SpeltCall) → length (map (λ call. call.reply) spelt) ≡ length (map (λ call. call.call) spelt)
as_many [] = refl
as_many (call ∷ spelt) = ap suc (as_many spelt)

nothing_left : (given : List (Reply ℕ)) → left_of [] given ≡ []
nothing_left [] = refl
nothing_left (reply ∷ given) = refl

answers_all : (plan : Plan) (worker : ℕ) (line : Line) → IsLineOf plan worker line → line.ending ≡ whole → AnswersAll line
answers_all plan worker line is ending =
    let before = length (shared_in (flat_map (λ spelt. spelt.items) line.spelt)) in
    let none = (subst (λ (e : LineEnd). EndsBy plan worker before e line.rest line.last) ending is.ends).0 in
    as_many line.spelt ∙ (sym (omega (arith, length-append (map (λ call. call.call) line.spelt) [])) ∙ ap (λ (rest : List Call). length (map (λ call. call.call) line.spelt ++ rest)) (sym none))

each_line : (lines : List Line) → ((i : ℕ) (line : Line) → slice_get lines i ≡ Some line → AnswersAll line) → map length (map replies_of lines) ≡ map length (map script_of lines)
each_line [] all = refl
each_line (line ∷ lines) all = ap (λ (n : ℕ). n ∷ map length (map replies_of lines)) (all 0 line refl) ∙ ap (λ (ns : List ℕ). length (script_of line) ∷ ns) (each_line lines (λ i l at. all (suc i) l at))

at_end : (plan : Plan) (r : Record) (left : Report) (explains : Explains plan (Done left) r) (i : ℕ) (line : Line) → slice_get explains.lines i ≡ Some line → IsAtEnd line.ending
at_end plan r left explains i line at = subst (λ (l : Line). IsAtEnd l.ending) (get_or_from_slice_get explains.lines i line line at) (explains.agrees.0 i line (slice_get_within explains.lines i line at))

-- one that was started has come to the end of its script
by_ending : (ending : LineEnd) → IsAtEnd ending → (ending ≡ stayed never → ⊥) → ending ≡ whole
by_ending whole ended came = refl
by_ending (misused misuse) ended came = absurd ended
by_ending (halted misuse) ended came = absurd ended
by_ending unfinished ended came = absurd ended
by_ending (stayed never) ended came = absurd (came refl)
by_ending (stayed (stopped misuse)) ended came = absurd ended
by_ending (stayed waits) ended came = absurd ended

came : (plan : Plan) (worker : ℕ) (line : Line) → is_dormant plan worker ≡ false → IsLineOf plan worker line → line.ending ≡ stayed never → ⊥
came plan worker line awake is ending = none_stayed plan worker awake never line.spelt line.first (subst (λ (e : LineEnd). OpensBy plan worker e line.spelt line.first) ending is.opens)

ended : (plan : Plan) (r : Record) (left : Report) (explains : Explains plan (Done left) r) (i : ℕ) (line : Line) → is_dormant plan i ≡ false → slice_get explains.lines i ≡ Some line → line.ending ≡ whole
ended plan r left explains i line awake at = by_ending line.ending (at_end plan r left explains i line at) (came plan i line awake (explains.are.each i line at))

pub returns-clause-all : goal.returns-clause-all
returns-clause-all c plan r left none nobody_waits explains =
    ap (λ (replies : List (List (Reply ℕ))). map length replies) (sym explains.are.replies)
    ∙ (each_line explains.lines (λ i line at. answers_all plan i line (explains.are.each i line at) (ended plan r left explains i line (nobody plan.dormant i nobody_waits) at))
    ∙ ap (λ (scripts : List (List Call)). map length scripts) ((c.scripts_without_tests_are_spelt_call_by_call.ensures plan r (Done left) explains.lines none).0 explains.are).scripts)

pub returns-clause-started : goal.returns-clause-started
returns-clause-started c plan r left explains worker line at started =
    let before = length (shared_in (flat_map (λ spelt. spelt.items) line.spelt)) in
    let ending = by_ending line.ending (at_end plan r left explains worker line at) started in
    let none = (subst (λ (e : LineEnd). EndsBy plan worker before e line.rest line.last) ending (explains.are.each worker line at).ends).0 in
    ap (left_of (get_or plan.scripts worker [])) (c.replies_tell_which_calls_were_made.ensures.given plan r (Done left) explains.lines worker line explains.are at)
    ∙ (sym (c.replies_tell_which_calls_were_made.ensures.left plan r (Done left) explains.lines worker line explains.are at) ∙ none)

pub returns-clause-left : goal.returns-clause-left
returns-clause-left c plan r left worker awake explains = by_line (slice_get_cases explains.lines worker).1 where
  by_line : ((line : Line) × (worker < length explains.lines) × (slice_get explains.lines worker ≡ Some line) × (get_or explains.lines worker line ≡ line)) ⊎ ((length explains.lines ≤ worker) × (slice_get explains.lines worker ≡ None))
      → left_of (get_or plan.scripts worker []) (get_or left.replies worker []) ≡ []
  by_line (inl (line, low, at, read)) = returns-clause-started c plan r left explains worker line at (came plan worker line awake (explains.are.each worker line at))
  by_line (inr (past, none)) =
      ap (λ (l : List Call). left_of l (get_or left.replies worker [])) (get_or_past plan.scripts worker [] (subst (λ n. n ≤ worker) explains.are.count past))
      ∙ nothing_left (get_or left.replies worker [])

pub returns-clause-made : goal.returns-clause-made
returns-clause-made c plan r outcome worker explains = by_line (slice_get_cases explains.lines worker).1 where
  by_line : ((line : Line) × (worker < length explains.lines) × (slice_get explains.lines worker ≡ Some line) × (get_or explains.lines worker line ≡ line)) ⊎ ((length explains.lines ≤ worker) × (slice_get explains.lines worker ≡ None))
      → length (made_of (get_or plan.scripts worker []) (get_or (left_by outcome).replies worker [])) ≡ length (get_or (left_by outcome).replies worker [])
  by_line (inl (line, low, at, read)) =
      let given = c.replies_tell_which_calls_were_made.ensures.given plan r outcome explains.lines worker line explains.are at in
      let script = get_or plan.scripts worker [] in
      ap (λ (l : List (Reply ℕ)). length (made_of script l)) given
      ∙ (ap (λ (l : List Call). length l) (sym (c.replies_tell_which_calls_were_made.ensures.made plan r outcome explains.lines worker line explains.are at))
      ∙ (sym (as_many line.spelt) ∙ ap (λ (l : List (Reply ℕ)). length l) (sym given)))
  by_line (inr (past, none)) =
      let short : length (left_by outcome).replies ≤ worker = subst (λ (l : List (List (Reply ℕ))). length l ≤ worker) explains.are.replies (subst (λ n. n ≤ worker) (sym (length-map explains.lines replies_of)) past) in
      ap (λ (l : List (Reply ℕ)). length (made_of (get_or plan.scripts worker []) l)) (get_or_past (left_by outcome).replies worker [] short)
      ∙ ap (λ (l : List (Reply ℕ)). length l) (sym (get_or_past (left_by outcome).replies worker [] short))
