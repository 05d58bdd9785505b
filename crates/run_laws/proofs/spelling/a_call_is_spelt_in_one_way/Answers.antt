use Rattle.run_laws.proofs.AnyCall.{any_certain}
use Rattle.run_laws.proofs.spelling.a_call_is_spelt_in_one_way.Goals as goal

pub returns : goal.returns
returns c = any_certain c.a_writers_lock_ends_once.ensures
