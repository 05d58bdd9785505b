use Rattle.run_laws.proofs.fronts.a_moment_is_a_number_of_entries.Goals as goal

pub returns-clause-from : goal.returns-clause-from
returns-clause-from c start history calls front reach m key value was = (was.moment, c.what_a_front_knows_is_a_number.ensures.at_least calls front was.moment was.knows, was.within, was.is)

pub returns-clause-to : goal.returns-clause-to
returns-clause-to c start history calls front reach m key n value made le within is = record { moment = n; knows = c.what_a_front_knows_is_a_number.ensures.and_any calls front n made le; within = within; is = is }
