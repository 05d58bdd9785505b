-- The record of a run explains what the run comes to.
use Rattle.std.proofs.Common.{◌≡◌, ℕ, List, [], get_or, Some, None, slice_get, All, refl}
use Rattle.script_calls.specs.declared.call.Reply.{Reply}
use Rattle.sync_model.specs.declared.item.Item.{Item}
use Rattle.sync_model.specs.declared.item.SharedEntry.{SharedEntry}
use Rattle.sync_types.specs.declared.misuse.Misuse.{Misuse}
use Rattle.script_calls.specs.declared.outcome.Outcome.{Outcome}
use Rattle.script_calls.specs.declared.outcome.Outcome.TheVariants.{Done, Misused}
use Rattle.script_calls.specs.declared.outcome.Report.{Report}
use Rattle.sync_model.specs.Journal.{halt_of}
use Rattle.workload.specs.Plan.{Plan}
use Rattle.run_record.specs.Explains.{AreLines, IsRecordOf, HasEnded, IsAtEnd}
use Rattle.run_record.specs.Lines.{Line, HaltsStop}
use Rattle.run_record.specs.Record.{Record, ObjectEntry, stop, journal_of}
use Rattle.thread_objects.specs.Working.{Desk}
use Rattle.thread_runner.specs.Runs.{IsExplained, ends_after}
use Rattle.thread_runner.proofs.Joining.{AllDone, Knowing, SameLists, is_record, are_lines, have_ended, halt_each, halt_stop, in_one_order, joined, joined_calls}

-- where Stop isn't halted, each script is at its end but those of workers that were never started
abbrev pub StopSays : Type 0
StopSays = (plan : Plan) (r : Record) (outcome : Outcome) (lines : List Line) → AreLines plan r outcome lines → IsRecordOf plan r → All (λ line. HasEnded line.ending) lines
    → ((worker : ℕ) (line : Line) → slice_get lines worker ≡ Some line → HaltsStop line) → halt_of (journal_of r stop) ≡ None → All (λ line. IsAtEnd line.ending) lines

module _ (plan : Plan) (history : List SharedEntry) (journals : List (List ObjectEntry)) (calls : ℕ → List Item) (entry_times : List ℕ) (times : ℕ → List ℕ) (replies : List (List (Reply ℕ))) (start desk : ℕ → Desk) (lines : List Line) (all : AllDone plan history journals calls entry_times times replies start desk lines) (knowing : Knowing) (same : SameLists) where
  abbrev it : Record
  it = joined plan history journals calls entry_times times replies start desk lines all knowing

  -- a run in which nobody halted Stop is done
  pub done : StopSays → halt_of (get_or journals stop []) ≡ None → (left : Report) → left.replies ≡ replies → IsExplained plan (Done left) history calls
  done says none left is =
      let outcome : Outcome = Done (record left { ends = ends_after plan history }) in
      let lawful = is_record plan history journals calls entry_times times replies start desk lines all knowing same in
      let are = are_lines plan history journals calls entry_times times replies start desk lines all knowing outcome is in
      record {
        run = it;
        history_is = refl;
        calls_are = joined_calls plan history journals calls entry_times times replies start desk lines all knowing;
        explains = record {
          lines = lines;
          are = are;
          lawful = lawful;
          agrees = (says plan it outcome lines are lawful (have_ended plan history journals calls entry_times times replies start desk lines all knowing) (halt_stop plan history journals calls entry_times times replies start desk lines all knowing) none, refl);
        };
        halts = halt_each plan history journals calls entry_times times replies start desk lines all knowing;
        order = in_one_order plan history journals calls entry_times times replies start desk lines all knowing;
      }

  -- and the first halt of Stop is the misuse that another one comes to
  pub stopped : (misuse : Misuse) → halt_of (get_or journals stop []) ≡ Some misuse → (left : Report) → left.replies ≡ replies → left.ends ≡ [] → IsExplained plan (Misused left misuse) history calls
  stopped misuse first left is ends =
      let outcome : Outcome = Misused left misuse in
      record {
        run = it;
        history_is = refl;
        calls_are = joined_calls plan history journals calls entry_times times replies start desk lines all knowing;
        explains = record {
          lines = lines;
          are = are_lines plan history journals calls entry_times times replies start desk lines all knowing outcome is;
          lawful = is_record plan history journals calls entry_times times replies start desk lines all knowing same;
          agrees = (have_ended plan history journals calls entry_times times replies start desk lines all knowing, ends, first);
        };
        halts = halt_each plan history journals calls entry_times times replies start desk lines all knowing;
        order = in_one_order plan history journals calls entry_times times replies start desk lines all knowing;
      }
