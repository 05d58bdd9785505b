use Rattle.std.proofs.Common.{◌≡◌, true, List, Some, map, slice_get, ap, subst, ◌∙◌}
use Rattle.std.specs.List.{list_all}
use Rattle.std.specs.Option.{option_map}
use Rattle.std.proofs.lemmas.Option.{slice_get-map}
use Rattle.script_calls.specs.declared.outcome.Outcome.TheVariants as outcomes
use Rattle.run_record.specs.declared.made.Made.{Made}
use Rattle.record_text.specs.ItemLines.{is_item}
use Rattle.step_runner.specs.Traces.{trace_of}
use Rattle.scheduled_record.specs.RunActs.{scheduled_record}
use Rattle.scheduled_record.specs.ToldItems.{ToldAct, told_by, kept_told, told_run, number_of, line_in, is_in_64_bits}
use Rattle.scheduled_record.proofs.InRangeLines.{all_in_range, each_told, one_in_range}
use Rattle.scheduled_record.proofs.text_laws.the_items_of_a_run_are_in_range.Goals as goal

pub returns : goal.returns
returns c plan within left readable plain is =
    let kept = kept_told plan (told_run plan (trace_of plan)) in
    let lines = c.the_items_of_a_run_are_lines_of_its_record.ensures in
    let explains = c.a_record_explains_every_scheduled_run_that_is_done.ensures.explains plan readable plain left is.done in
    all_in_range plan kept
    (each_told (λ (t : ToldAct). list_all is_in_64_bits (line_in t) ≡ true → list_all (is_item plan) (line_in t) ≡ true) kept
    (λ w i t at.
    let made_at : slice_get (map (λ (u : ToldAct). u.act.made) (told_by w kept)) i ≡ Some t.act.made = slice_get-map (λ (u : ToldAct). u.act.made) (told_by w kept) i ∙ ap (option_map (λ (u : ToldAct). u.act.made)) at in
    let stands = subst (λ (l : List Made). slice_get l i ≡ Some t.act.made) (lines.lists plan w readable.valid) made_at in
    one_in_range plan w t (lines.own plan w i t at) (c.the_fronts_of_a_scheduled_run_never_fall.ensures.wide plan w i t.act.made readable.valid stands)
    (λ front. c.each_item_of_a_record_has_a_line.ensures plan (outcomes.Done left) (scheduled_record plan) w i (number_of t.act.made) t.index t.act.made readable explains stands (lines.numbers plan w i t readable.valid at) (lines.places plan w i t readable.valid at) front)))
    is.numbers.lines
