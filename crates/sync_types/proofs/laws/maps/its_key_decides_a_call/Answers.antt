use Rattle.sync_types.proofs.MapLemmas.{reply_at, entry_at, found_after, cleared_at}
use Rattle.sync_types.proofs.laws.maps.its_key_decides_a_call.Goals as goal

pub returns-clause-reply : goal.returns-clause-reply
returns-clause-reply g c R m call key held on finds = reply_at m call key held on finds

pub returns-clause-entry : goal.returns-clause-entry
returns-clause-entry g c R m call key held on finds = entry_at m call key held on finds

pub returns-clause-after : goal.returns-clause-after
returns-clause-after g c R order m call key held on finds = found_after order m call key held on finds

pub returns-clause-clear : goal.returns-clause-clear
returns-clause-clear g c R m call key held none = cleared_at m call key held none
