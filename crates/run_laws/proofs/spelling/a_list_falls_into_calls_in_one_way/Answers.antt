use Rattle.run_laws.proofs.AnyCall.{certain_calls}
use Rattle.run_laws.proofs.LinesOneWay.{falls_one_way}
use Rattle.run_laws.proofs.spelling.a_list_falls_into_calls_in_one_way.Goals as goal

pub returns : goal.returns
returns c plan worker before spelt other last more none calls a b same = falls_one_way plan worker before spelt other last more (certain_calls c.a_writers_lock_ends_once.ensures plan worker spelt none) calls a b same
