use Rattle.run_check.proofs.SpeltOn.{of_text}
use Rattle.run_check.proofs.laws.yes_is_that_a_record_of_the_text_explains.Goals as goal

pub returns : goal.returns
returns c told (claim, tells, comes) = (claim, tells, of_text told claim tells (c.yes_is_that_a_record_explains.ensures claim comes))
