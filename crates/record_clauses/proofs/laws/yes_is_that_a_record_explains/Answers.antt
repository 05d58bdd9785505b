use Rattle.std.proofs.Common.{refl}
use Rattle.record_clauses.specs.Account.{record_of}
use Rattle.record_clauses.proofs.laws.yes_is_that_a_record_explains.Goals as goal

pub returns : goal.returns
returns c claim told =
    let both = c.the_clauses_say_that_the_record_explains_the_outcome.ensures.explains claim told.0 told.1 in
    (record_of claim told.0, told.0.left, refl, both.0, both.1)
