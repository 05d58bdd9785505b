use Rattle.std.proofs.Common.{◌≡◌, true, refl}
use Rattle.std.proofs.lemmas.Bool.{false≢true}
use Rattle.rw_core.specs.declared.event.RwEvent.TheVariants.{Leave}
use Rattle.rw_core.specs.declared.reply.RwReply.{RwReply}
use Rattle.rw_core.specs.declared.reply.RwReply.TheVariants.{Arrived, Tried, Unlocked, Resumed, Left, Still}
use Rattle.rw_core.specs.RwMachine.{next}
use Rattle.rw_core.specs.Edges.{acquires}
use Rattle.rw_core.specs.Standing.{is_answer}
use Rattle.rw_core.proofs.Answers.{answers}
use Rattle.rw_core.proofs.laws.synchronizes.Goals as goal

-- what answers a leave acquires
leaves : (reply : RwReply) → is_answer Leave reply ≡ true → acquires reply ≡ true
leaves Left is = refl
leaves (Arrived _) is = absurd (false≢true is)
leaves (Tried _) is = absurd (false≢true is)
leaves (Unlocked _) is = absurd (false≢true is)
leaves (Resumed _) is = absurd (false≢true is)
leaves Still is = absurd (false≢true is)

pub returns-clause-left : goal.returns-clause-left
returns-clause-left c state caller may = leaves (next state caller Leave).1 (answers state caller Leave may)
