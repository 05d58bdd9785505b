use Rattle.record_text.specs.Reads.{told_by}
use Rattle.run_check.proofs.verdict.check.Goals as goal

pub returns-clause-exactly : goal.returns-clause-exactly
returns-clause-exactly c =
    c.a_yes_is_exactly_that_a_record_explains.ensures.bytes _ c.in_ok-verdict_on.field-0 (told_by c.in_ok-text.text, c.in_ok-text.ensures.read, c.workers-workers.ensures.readable, c.in_ok-verdict_on.ensures)
