use Rattle.gosync_call.proofs.Judged.{is_no, is_yes}
use Rattle.gosync_call.proofs.laws.checks.a_status_tells_the_verdict.Goals as goal

pub returns-clause-yes : goal.returns-clause-yes
returns-clause-yes c told old new status judges is = is_yes told old new status judges is

pub returns-clause-no : goal.returns-clause-no
returns-clause-no c told old new status judges is =
    let no = is_no told old new status judges is in
    (no.0, no.1.0, no.1.1)
