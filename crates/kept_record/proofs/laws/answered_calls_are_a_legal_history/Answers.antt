use Rattle.kept_record.proofs.AsRecord.{call_at}
use Rattle.kept_record.proofs.History.{begins}
use Rattle.kept_record.proofs.Legal.{all_legal}
use Rattle.kept_record.proofs.laws.answered_calls_are_a_legal_history.Goals as goal

pub returns-clause-legal : goal.returns-clause-legal
returns-clause-legal c plan acts answered = (all_legal plan acts (begins plan) answered).legal

pub returns-clause-replies : goal.returns-clause-replies
returns-clause-replies c plan acts worker j x all answered at = (all_legal plan acts (begins plan) answered).replies worker j x (call_at plan acts all worker j x at)
