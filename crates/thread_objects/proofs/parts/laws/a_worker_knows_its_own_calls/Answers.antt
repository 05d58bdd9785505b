use Rattle.std.proofs.Common.{arith}
use Rattle.thread_objects.proofs.Knowing.{counted_at, numbers_rise, risen_between, risen_to}
use Rattle.thread_objects.proofs.parts.laws.a_worker_knows_its_own_calls.Goals as goal

pub returns-clause-own : goal.returns-clause-own
returns-clause-own c old new items worker i made moves is at = counted_at worker _ items i made (moves.counts worker is) at

pub returns-clause-rises : goal.returns-clause-rises
returns-clause-rises c old new items i j earlier later moves before first second = risen_between old.front new.front items moves.numbers i j earlier later moves.fronts before first second

pub returns-clause-ends : goal.returns-clause-ends
returns-clause-ends c old new items i made moves at = risen_to old.front new.front items moves.numbers i made moves.fronts at

pub returns-clause-times : goal.returns-clause-times
returns-clause-times c old new items moves = numbers_rise 0 old.front new.front items moves.numbers (omega arith) moves.fronts
