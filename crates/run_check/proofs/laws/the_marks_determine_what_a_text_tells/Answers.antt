use Rattle.run_check.proofs.MarkedClaims.{one_claim}
use Rattle.run_check.proofs.laws.the_marks_determine_what_a_text_tells.Goals as goal

pub returns : goal.returns
returns c = one_claim
