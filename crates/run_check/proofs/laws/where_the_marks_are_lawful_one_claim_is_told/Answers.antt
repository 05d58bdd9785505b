use Rattle.run_check.proofs.PlacedClaims.{some_placed}
use Rattle.run_check.proofs.laws.where_the_marks_are_lawful_one_claim_is_told.Goals as goal

pub returns : goal.returns
returns c told found marked history readable are is law = some_placed told found are marked is history law c.a_spelling_is_blind.ensures.lines readable
