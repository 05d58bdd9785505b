use Rattle.std.proofs.Common.{◌≡◌, ℕ, ◌+◌, ◌≤◌, ◌<◌, ◌⊎◌, inl, inr, Bool, true, false, List, [], ◌∷◌, ◌++◌, get_or, Some, slice_get, refl, sym, ap, ◌∙◌, arith}
use Rattle.std.specs.Prelude.{option_map, Ok, Err}
use Rattle.std.proofs.lemmas.Bool.{cases_lt}
use Rattle.std.proofs.lemmas.Option.{same_Some, slice_get-map}
use Rattle.script_calls.specs.declared.call.Call.{Call}
use Rattle.script_calls.specs.Runs.{places_from}
use Rattle.sync_model.specs.declared.answer.Answer.TheVariants.{Done, Halted}
use Rattle.protocols.specs.Spelling.{CallAnswer}
use Rattle.workload.specs.Plan.{Plan, has_dormant}
use Rattle.run_record.specs.declared.made.Made.{Made}
use Rattle.run_record.specs.Lines.{SpeltCall, LineEnd, whole, misused, halted, unfinished, stayed, items_of, replies_of, EndsBy}
use Rattle.run_record.specs.StartsKind.{closing}
use Rattle.run_record.proofs.Having.{get_at}
use Rattle.run_record.proofs.PlainLemmas.{empty_second, nothing_closes}
use Rattle.run_record.proofs.RunLines.{place_there, places_rise}
use Rattle.run_record.proofs.laws.runs.a_call_that_was_passed_over_leaves_no_item.Goals as goal

pub returns-clause-list : goal.returns-clause-list
returns-clause-list c plan r outcome lines worker line are at = ap (λ (l : List (List Made)). get_or l worker []) (sym are.lists) ∙ get_at items_of [] lines worker line at

-- what was begun behind the completed calls is the next call, or closes the script
abbrev IsBegun : Plan → List Call → Type 0
IsBegun plan rest = ((next : Call) × (behind : List Call) × (rest ≡ next ∷ behind)) ⊎ ((rest ≡ []) × (has_dormant plan ≡ true))

closes : (plan : Plan) (worker : ℕ) (items : List Made) (answer : CallAnswer (Unit {0})) → closing plan worker items answer → (items ≡ [] → ⊥) → has_dormant plan ≡ true
closes plan worker items answer is some = by_waiting (has_dormant plan) refl where
  by_waiting : (b : Bool) → has_dormant plan ≡ b → has_dormant plan ≡ true
  by_waiting true waiting = waiting
  by_waiting false none = absurd (some (nothing_closes plan worker none items answer is).0)

behind_last : (plan : Plan) (worker before : ℕ) (ending : LineEnd) (last : List Made) → EndsBy plan worker before ending [] last → (last ≡ [] → ⊥) → has_dormant plan ≡ true
behind_last plan worker before whole last ends some = closes plan worker last (Done (Ok tt)) ends.1 some
behind_last plan worker before (misused misuse) last ends some = closes plan worker last (Done (Err misuse)) ends some
behind_last plan worker before (halted misuse) last ends some = closes plan worker last (Halted misuse) ends some
behind_last plan worker before unfinished last (later, answer, more, ends) some = closes plan worker (last ++ later) answer ends (λ none. more (empty_second last later none))
behind_last plan worker before (stayed stay) last none some = absurd (some none)

head_of : (plan : Plan) (worker before : ℕ) (ending : LineEnd) (rest : List Call) (last : List Made) → EndsBy plan worker before ending rest last → (last ≡ [] → ⊥) → IsBegun plan rest
head_of plan worker before ending (call ∷ rest) last ends some = inl (call, rest, refl)
head_of plan worker before ending [] last ends some = inr (refl, behind_last plan worker before ending last ends some)

pub returns-clause-last : goal.returns-clause-last
returns-clause-last c plan r outcome lines worker line are at some = head_of plan worker _ line.ending line.rest line.last (are.each worker line at).ends some

pub returns-clause-place : goal.returns-clause-place
returns-clause-place c plan r outcome lines worker line i spelt are at is =
    let script = get_or plan.scripts worker [] in
    let found = place_there 0 script line.rest line.spelt i spelt (are.runs worker line at) is in (
      found.0,
      found.1,
      c.calls_keep_their_places.ensures.place script (replies_of line) i found.0 found.1
          ∙ (ap (λ (l : List Call). slice_get l i) (sym (c.replies_tell_which_calls_were_made.ensures.made plan r outcome lines worker line are at))
          ∙ (slice_get-map (λ (s : SpeltCall). s.call) line.spelt i ∙ ap (option_map (λ (s : SpeltCall). s.call)) is)),
    )

pub returns-clause-next : goal.returns-clause-next
returns-clause-next c plan r outcome lines worker line i place after spelt are at is here there =
    let script = get_or plan.scripts worker [] in
    let made = c.calls_keep_their_places.ensures.place script (replies_of line) i place here
    ∙ (ap (λ (l : List Call). slice_get l i) (sym (c.replies_tell_which_calls_were_made.ensures.made plan r outcome lines worker line are at))
    ∙ (slice_get-map (λ (s : SpeltCall). s.call) line.spelt i ∙ ap (option_map (λ (s : SpeltCall). s.call)) is)) in
    c.calls_keep_their_places.ensures.next script (replies_of line) i place after spelt.call spelt.reply here there made (slice_get-map (λ (s : SpeltCall). s.reply) line.spelt i ∙ ap (option_map (λ (s : SpeltCall). s.reply)) is)

pub returns-clause-between : goal.returns-clause-between
returns-clause-between c plan r outcome lines worker line i place after other j are at here there low high is = by_order (cases_lt j i) where
  script : List Call
  script = get_or plan.scripts worker []

  rise : (i j x y : ℕ) → i < j → slice_get (places_from 0 script (replies_of line)) i ≡ Some x → slice_get (places_from 0 script (replies_of line)) j ≡ Some y → x < y
  rise = places_rise 0 script (replies_of line)

  at_it : (i j : ℕ) (x y : ℕ) → i ≡ j → slice_get (places_from 0 script (replies_of line)) i ≡ Some x → slice_get (places_from 0 script (replies_of line)) j ≡ Some y → x ≡ y
  at_it i j x y same first second = same_Some x y (sym first ∙ (ap (slice_get (places_from 0 script (replies_of line))) same ∙ second))

  behind : (i ≡ j) ⊎ (i < j) → ⊥
  behind (inl same) = let e = at_it i j place other same here is in omega (arith, e, low)
  behind (inr later) = next (cases_lt (i + 1) j) where
    next : ((i + 1) < j) ⊎ (j ≤ i + 1) → ⊥
    next (inl past) = let e = rise (i + 1) j after other past there is in omega (arith, e, high)
    next (inr near) = let e = at_it (i + 1) j after other (omega (arith, near, later)) there is in omega (arith, e, high)

  split : (i j : ℕ) → i ≤ j → (i ≡ j) ⊎ (i < j)
  split i j within = by (cases_lt i j) where
    by : (i < j) ⊎ (j ≤ i) → (i ≡ j) ⊎ (i < j)
    by (inl less) = inr less
    by (inr more) = inl (omega (arith, more, within))

  by_order : (j < i) ⊎ (i ≤ j) → ⊥
  by_order (inl before) = let e = rise j i other place before is here in omega (arith, e, low)
  by_order (inr not_before) = behind (split i j not_before)
