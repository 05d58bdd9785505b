use Rattle.std.proofs.Common.{refl}
use Rattle.record_text.proofs.ObjectNumbers.{count_is, declared_at, parts_at, starts_at}
use Rattle.record_text.proofs.laws.objects_go_by_their_numbers.Goals as goal

pub returns-clause-stop : goal.returns-clause-stop
returns-clause-stop c plan = refl

pub returns-clause-declared : goal.returns-clause-declared
returns-clause-declared c = declared_at

pub returns-clause-parts : goal.returns-clause-parts
returns-clause-parts c = parts_at

pub returns-clause-starts : goal.returns-clause-starts
returns-clause-starts c = starts_at

pub returns-clause-count : goal.returns-clause-count
returns-clause-count c = count_is
