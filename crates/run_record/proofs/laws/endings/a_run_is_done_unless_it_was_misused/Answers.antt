use Rattle.std.proofs.Common.{subst}
use Rattle.std.proofs.lemmas.Option.{slice_get_within, get_or_from_slice_get}
use Rattle.script_calls.specs.declared.outcome.Outcome.TheVariants.{Misused}
use Rattle.run_record.specs.Explains.{IsAtEnd}
use Rattle.run_record.specs.Lines.{Line}
use Rattle.run_record.proofs.laws.endings.a_run_is_done_unless_it_was_misused.Goals as goal

pub returns-clause-done : goal.returns-clause-done
returns-clause-done c plan r left explains worker line misuse at is =
    let ended : IsAtEnd line.ending = subst (λ (l : Line). IsAtEnd l.ending) (get_or_from_slice_get explains.lines worker line line at) (explains.agrees.0 worker line (slice_get_within explains.lines worker line at)) in
    subst IsAtEnd is ended

pub returns-clause-misused : goal.returns-clause-misused
returns-clause-misused c plan r left misuse explains = c.stop_says_how_a_run_ended.ensures.misused plan r (Misused left misuse) explains.lines misuse explains.are explains.lawful explains.agrees.2

pub returns-clause-never_deadlocked : goal.returns-clause-never_deadlocked
returns-clause-never_deadlocked c plan r left explains = explains.agrees

pub returns-clause-no_ends : goal.returns-clause-no_ends
returns-clause-no_ends c plan r left misuse explains = explains.agrees.1
