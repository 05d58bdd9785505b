use Rattle.std.specs.List.{list_all}
use Rattle.script_calls.specs.declared.call.Call.{Call}
use Rattle.run_laws.specs.NoRanges.{is_no_range}
use Rattle.run_laws.proofs.AnyCall.{all_certain}
use Rattle.run_laws.proofs.OneOutcome.{one_outcome}
use Rattle.run_laws.proofs.PlainCalls.{list_all_at}
use Rattle.run_laws.proofs.spelling.a_record_explains_one_outcome.Goals as goal

pub returns : goal.returns
returns c plan r one other none first second =
    one_outcome plan r (λ worker script at. all_certain c.a_writers_lock_ends_once.ensures plan worker script (list_all_at (list_all (λ (call : Call). is_no_range call.operation)) plan.scripts worker script none at))
    (λ left explains worker line misuse at. c.a_run_is_done_unless_it_was_misused.ensures.done plan r left explains worker line misuse at)
    (λ lines outcome misuse are is halts. c.stop_says_how_a_run_ended.ensures.misused plan r outcome lines misuse are is halts) one other first second
