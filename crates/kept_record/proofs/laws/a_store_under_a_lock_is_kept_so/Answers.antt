use Rattle.std.proofs.Common.{refl}
use Rattle.kept_record.proofs.laws.a_store_under_a_lock_is_kept_so.Goals as goal

pub returns : goal.returns
returns c = refl
