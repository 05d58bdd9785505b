use Rattle.std.proofs.Common.{◌≡◌, false, List, [], length, get_or, sym, ap, ◌∙◌, subst}
use Rattle.std.proofs.lemmas.List.{length-map}
use Rattle.script_calls.specs.declared.call.Call.{Call}
use Rattle.script_calls.specs.Runs.{have_tests, RunsAlong}
use Rattle.run_record.specs.Lines.{script_of, calls_made}
use Rattle.run_record.proofs.RunLines.{own_scripts, runs_of}
use Rattle.run_record.proofs.laws.runs.scripts_without_tests_are_spelt_call_by_call.Goals as goal

pub returns : goal.returns
returns c plan r outcome lines none = (
  λ are. record { scripts = own_scripts c.a_script_without_tests_is_its_own_run.ensures.run lines plan.scripts none are.count are.runs; lists = are.lists; replies = are.replies; each = are.each },
  λ spells. record {
    count = sym (length-map lines script_of) ∙ ap (λ (l : List (List Call)). length l) spells.scripts;
    runs = λ worker line at. subst (λ (scripts : List (List Call)). RunsAlong (get_or scripts worker []) (calls_made line) line.rest) spells.scripts
        (runs_of c.a_script_without_tests_is_its_own_run.ensures.back lines (subst (λ (scripts : List (List Call)). have_tests scripts ≡ false) (sym spells.scripts) none) worker line at);
    lists = spells.lists;
    replies = spells.replies;
    each = spells.each;
  },
)
