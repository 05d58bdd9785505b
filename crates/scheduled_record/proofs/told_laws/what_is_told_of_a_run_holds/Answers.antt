use Rattle.std.proofs.Common.{◌≡◌, ℕ, List, [], Some, slice_get, refl, sym, ap, ◌∙◌, subst}
use Rattle.std.specs.Option.{option_map}
use Rattle.std.proofs.lemmas.Option.{slice_get-map, get_or_from_slice_get}
use Rattle.script_calls.specs.declared.outcome.Outcome.TheVariants as outcomes
use Rattle.run_cuts.specs.CallsAlong.{calls_along}
use Rattle.run_record.specs.declared.made.Made.{Made}
use Rattle.run_record.specs.Explains.{Explains}
use Rattle.run_record.specs.Lines.{Line, items_of}
use Rattle.run_record.specs.Record.{Record, list_of}
use Rattle.record_clauses.specs.Account.{ToldItem, Claim, Account, record_of}
use Rattle.record_clauses.specs.Lists.{calls_told}
use Rattle.scheduled_record.specs.RunActs.{scheduled_record}
use Rattle.scheduled_record.specs.ToldLists.{claim_of}
use Rattle.scheduled_record.proofs.ClaimLists.{run_account, record_is, IsOwn, numbers_told, calls_are}
use Rattle.scheduled_record.proofs.told_laws.what_is_told_of_a_run_holds.Goals as goal

pub returns : goal.returns
returns c plan left readable plain done =
    let valid = readable.valid in
    let variables = ((c.records_tell_of_all_but_variables_semaphores_and_flights.ensures plan).0 plain).0 in
    let claim : Claim = claim_of plan left in
    let explained : Explains plan (outcomes.Done left) (record_of claim (run_account plan left [])) =
    subst (Explains plan (outcomes.Done left)) (sym (record_is plan left [])) (c.a_record_explains_every_scheduled_run_that_is_done.ensures.explains plan readable variables left done) in
    let lines : List Line = explained.lines in
    let account : Account = run_account plan left lines in
    let items : (worker : ℕ) (line : Line) → slice_get lines worker ≡ Some line → items_of line ≡ list_of (scheduled_record plan) worker = λ worker line at.
    (let there : slice_get (record_of claim account).lists worker ≡ Some (items_of line) = ap (λ (l : List (List Made)). slice_get l worker) (sym explained.are.lists) ∙ (slice_get-map items_of lines worker ∙ ap (option_map items_of) at) in
    sym (get_or_from_slice_get (record_of claim account).lists worker (items_of line) [] there) ∙ ap (λ (r : Record). list_of r worker) (record_is plan left lines)) in
    let calls : (worker : ℕ) (list : List ToldItem) (line : Line) → IsOwn plan left worker list → slice_get lines worker ≡ Some line → calls_told list ≡ calls_along line = λ worker list line own at.
    ap calls_told (sym own.1) ∙ (c.no_item_of_a_run_is_a_halt.ensures.told plan worker valid
    ∙ c.each_item_of_a_run_is_told_its_call.ensures plan left worker line readable variables done own.0 (explained.are.each worker line at) (explained.are.runs worker line at) (items worker line at)) in (
      account,
      record_is plan left lines,
      refl,
      λ clause. c.the_clauses_say_that_the_record_explains_the_outcome.ensures.holds claim account explained clause refl
          (calls_are plan left lines calls (λ worker place x at. c.no_item_of_a_run_is_a_halt.ensures.each plan worker place x valid at))
          (numbers_told plan (λ w. c.the_items_of_a_run_are_lines_of_its_record.ensures.lists plan w valid) left lines (λ worker object. c.entries_of_a_run_are_told_their_numbers.ensures plan worker object valid)) refl,
    )
