use Rattle.step_runner.specs.declared.turns.object_state.ObjectState.TheVariants as states
use Rattle.step_runner.proofs.RunRanges.{in_range}
use Rattle.step_runner.proofs.laws.objects_keep_their_kinds.Goals as goal

pub returns-clause-kinds : goal.returns-clause-kinds
returns-clause-kinds c plan items valid = (c.validity.ensures.always plan items valid).objects

pub returns-clause-ranges : goal.returns-clause-ranges
returns-clause-ranges c plan items object number valid at =
    in_range (record { begins = c.numbers_stay_in_range.ensures.begins; goes_on = c.ranges_are_kept.ensures })
    plan (c.validity.ensures.goes_on plan) (c.validity.ensures.begins plan valid) items object (states.Atomic number) at

pub returns-clause-mutexes : goal.returns-clause-mutexes
returns-clause-mutexes c plan items object m valid at = (c.validity.ensures.always plan items valid).machines object (states.Mutex m) at

pub returns-clause-rw_mutexes : goal.returns-clause-rw_mutexes
returns-clause-rw_mutexes c plan items object m valid at = (c.validity.ensures.always plan items valid).machines object (states.RwMutex m) at

pub returns-clause-machines : goal.returns-clause-machines
returns-clause-machines c plan items place object valid at = (c.validity.ensures.always plan items valid).machines place object at
