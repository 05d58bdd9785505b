use Rattle.sync_model.proofs.Journals.{none_on, first_on, stands}
use Rattle.sync_model.proofs.laws.journals.the_first_halt_stands.Goals as goal

pub returns-clause-none : goal.returns-clause-none
returns-clause-none g c = none_on

pub returns-clause-first : goal.returns-clause-first
returns-clause-first g c = first_on

pub returns-clause-stands : goal.returns-clause-stands
returns-clause-stands g c = stands
