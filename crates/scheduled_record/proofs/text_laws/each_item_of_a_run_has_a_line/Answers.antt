use Rattle.std.proofs.Common.{◌≡◌, ◌&&◌, Bool, true, List, Some, length, map, slice_get, eq-eqb, ap, subst, ◌∙◌}
use Rattle.std.specs.List.{list_all}
use Rattle.std.specs.Option.{option_map}
use Rattle.std.proofs.lemmas.Option.{slice_get-map}
use Rattle.script_calls.specs.declared.outcome.Outcome.TheVariants as outcomes
use Rattle.run_record.specs.declared.made.Made.{Made}
use Rattle.run_record.specs.Record.{front_of}
use Rattle.kept_record.specs.Keeping.{account_of}
use Rattle.record_text.specs.Numbers.{has_64_bits, is_front}
use Rattle.record_text.specs.Written.{front_in}
use Rattle.step_runner.specs.Traces.{trace_of}
use Rattle.scheduled_record.specs.RunActs.{scheduled_record}
use Rattle.scheduled_record.specs.ToldItems.{ToldAct, acts_in, told_by, kept_told, told_run, number_of, has_64_bit_front}
use Rattle.scheduled_record.proofs.InRangeLines.{each_true}
use Rattle.scheduled_record.proofs.ToldNumbers.{of_each}
use Rattle.scheduled_record.proofs.WideFronts.{same_front}
use Rattle.scheduled_record.proofs.text_laws.each_item_of_a_run_has_a_line.Goals as goal

pub returns : goal.returns
returns c plan within left worker place t readable plain is at =
    let told = told_run plan (trace_of plan) in
    let kept = kept_told plan told in
    let made = t.act.made in
    let lines = c.the_items_of_a_run_are_lines_of_its_record.ensures in
    let explains = c.a_record_explains_every_scheduled_run_that_is_done.ensures.explains plan readable plain left is.done in
    let made_at : slice_get (map (λ (u : ToldAct). u.act.made) (told_by worker kept)) place ≡ Some made = slice_get-map (λ (u : ToldAct). u.act.made) (told_by worker kept) place ∙ ap (option_map (λ (u : ToldAct). u.act.made)) at in
    let stands = subst (λ (l : List Made). slice_get l place ≡ Some made) (lines.lists plan worker readable.valid) made_at in
    let long : length (front_in made) ≡ plan.workers = ap length (same_front made) ∙ c.the_fronts_of_a_scheduled_run_never_fall.ensures.wide plan worker place made readable.valid stands in
    let fits = of_each (λ (m : Made). list_all has_64_bits (front_of m) ≡ true) plan worker told place t (each_true has_64_bit_front (account_of plan (acts_in told)).acts is.numbers.fronts) at in
    let front : is_front plan.workers (front_in made) ≡ true = ap (λ (b : Bool). b && list_all has_64_bits (front_in made)) (eq-eqb (length (front_in made)) plan.workers long) ∙ (ap (list_all has_64_bits) (same_front made) ∙ fits) in
    let found = c.each_item_of_a_record_has_a_line.ensures plan (outcomes.Done left) (scheduled_record plan) worker place (number_of made) t.index made readable explains stands (lines.numbers plan worker place t readable.valid at) (lines.places plan worker place t readable.valid at) front in
    (found.0, found.1)
