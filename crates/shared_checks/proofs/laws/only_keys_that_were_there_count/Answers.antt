use Rattle.shared_checks.proofs.RangeLemmas.{only_named, stays_absent}
use Rattle.shared_checks.proofs.laws.only_keys_that_were_there_count.Goals as goal

pub returns-clause-absent : goal.returns-clause-absent
returns-clause-absent c = stays_absent

pub returns-clause-shows : goal.returns-clause-shows
returns-clause-shows c = λ start history calls caller b m i begin step named fronts begins at is_step absent each. only_named start history calls fronts begins caller b m i begin step at is_step named absent each
