use Rattle.sync_model.proofs.SharedRanges.{steps_follow, no_key_twice, only_what_was, no_key_missed}
use Rattle.sync_model.proofs.laws.shared.a_range_shows_each_key_once_and_misses_none.Goals as goal

pub returns-clause-once : goal.returns-clause-once
returns-clause-once c = λ start history calls c b i j key value other x y lawful. no_key_twice start history calls lawful c b i j key value other x y

pub returns-clause-shown : goal.returns-clause-shown
returns-clause-shown c = λ start history calls c b i m key value begin x lawful at is step.
    let was = only_what_was start history calls lawful c b i m key value begin x at is step in (was.moment, was.knows, was.within, was.is)

pub returns-clause-misses_none : goal.returns-clause-misses_none
returns-clause-misses_none c = λ start history calls c b i m key begin x lawful. no_key_missed start history calls lawful c b i m key begin x

pub returns-clause-steps : goal.returns-clause-steps
returns-clause-steps c = λ start history calls c b j x lawful. steps_follow start history calls lawful c b j x
