use Rattle.race_clocks.proofs.RaceLaws.{just_races, just_once, later_rise, earlier_rise, told_at, one_list}
use Rattle.race_clocks.proofs.laws.races.a_trace_has_one_list_of_races.Goals as goal

pub returns-clause-races : goal.returns-clause-races
returns-clause-races c = just_races

pub returns-clause-once : goal.returns-clause-once
returns-clause-once c = just_once

pub returns-clause-later : goal.returns-clause-later
returns-clause-later c = later_rise

pub returns-clause-earlier : goal.returns-clause-earlier
returns-clause-earlier c = earlier_rise

pub returns-clause-told : goal.returns-clause-told
returns-clause-told c = told_at

pub returns-clause-one : goal.returns-clause-one
returns-clause-one c = one_list
