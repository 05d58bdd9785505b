use Rattle.std.proofs.Common.{◌≡◌, ℕ, List, [], map, get_or, Some, slice_get, sym, ap, ◌∙◌}
use Rattle.script_calls.specs.declared.outcome.Outcome.{Outcome}
use Rattle.workload.specs.Plan.{Plan}
use Rattle.run_record.specs.declared.made.Made.{Made}
use Rattle.run_record.specs.Explains.{AreLines}
use Rattle.run_record.specs.Lines.{SpeltCall, Stay, stayed, Line, items_of}
use Rattle.run_record.specs.Record.{Record, list_of, shared_in, entries_in}
use Rattle.run_record.proofs.Having.{get_at}
use Rattle.run_record.proofs.LineParts.{none_shared_first}
use Rattle.run_record.proofs.OpeningLemmas.{no_calls, first_alone, none_but_starts}
use Rattle.run_record.proofs.laws.starts.nobody_who_was_not_started_makes_a_call.Goals as goal

list_is : (plan : Plan) (r : Record) (outcome : Outcome) (lines : List Line) (worker : ℕ) (line : Line) (stay : Stay)
    → AreLines plan r outcome lines → slice_get lines worker ≡ Some line → line.ending ≡ stayed stay → list_of r worker ≡ line.first
list_is plan r outcome lines worker line stay are at ending =
    ap (λ (l : List (List Made)). get_or l worker []) (sym are.lists) ∙ (get_at items_of [] lines worker line at ∙ first_alone plan worker line stay (are.each worker line at) ending)

pub returns-clause-replies : goal.returns-clause-replies
returns-clause-replies c plan worker line stay is ending = ap (λ (l : List SpeltCall). map (λ spelt. spelt.reply) l) (no_calls plan worker line stay is ending)

pub returns-clause-shared : goal.returns-clause-shared
returns-clause-shared c plan r outcome lines worker line stay are at ending =
    ap (λ (l : List Made). shared_in l) (list_is plan r outcome lines worker line stay are at ending) ∙ none_shared_first plan worker line (are.each worker line at)

pub returns-clause-entered : goal.returns-clause-entered
returns-clause-entered c plan r outcome lines worker object line stay are at ending apart =
    ap (λ (l : List Made). entries_in object l) (list_is plan r outcome lines worker line stay are at ending) ∙ none_but_starts plan worker line stay (are.each worker line at) ending object apart
