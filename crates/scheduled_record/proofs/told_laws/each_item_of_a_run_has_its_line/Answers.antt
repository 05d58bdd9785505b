use Rattle.std.proofs.Common.{◌≡◌, ℕ, true, Some, map, slice_get, sym, ap, ◌∙◌}
use Rattle.std.specs.List.{range_with_len}
use Rattle.std.proofs.lemmas.List.{length-map}
use Rattle.std.proofs.lemmas.List.FromFn.{length-range_with_len}
use Rattle.record_clauses.specs.Account.{ToldItem}
use Rattle.record_text.specs.Written.{item_line}
use Rattle.scheduled_record.specs.ToldItems.{ToldAct}
use Rattle.scheduled_record.specs.ToldItems.{told_of}
use Rattle.scheduled_record.specs.ToldLists.{told_list}
use Rattle.scheduled_record.proofs.ClaimLists.{own_list}
use Rattle.scheduled_record.proofs.LinesHad.{HasLine, each_place, lines_are}
use Rattle.scheduled_record.proofs.told_laws.each_item_of_a_run_has_its_line.Goals as goal

pub returns-clause-workers : goal.returns-clause-workers
returns-clause-workers c plan left = length-map (range_with_len 0 plan.workers) (told_list plan) ∙ length-range_with_len 0 plan.workers

pub returns-clause-lines : goal.returns-clause-lines
returns-clause-lines c plan left worker list readable plain is at =
    ap (map (λ (x : ToldItem). item_line worker x.call x.number x.made)) (sym (own_list plan left worker list at).1)
    ∙ lines_are worker (told_of plan worker) (each_place (HasLine worker) (told_of plan worker) line_of) ∙ ap (map Some) (sym (c.the_items_of_a_run_are_lines_of_its_record.ensures.lines plan worker)) where
      line_of : (i : ℕ) (t : ToldAct) → slice_get (told_of plan worker) i ≡ Some t → HasLine worker t
      line_of i t there =
          let (line, has) = c.each_item_of_a_run_has_a_line.ensures plan true left worker i t readable ((c.records_tell_of_all_but_variables_semaphores_and_flights.ensures plan).0 plain).0 is there in
          (line, has, c.the_items_of_a_run_are_lines_of_its_record.ensures.own plan worker i t there)
