use Rattle.thread_objects.proofs.Spending.{kept_spends, spends_on, still_some}
use Rattle.thread_objects.proofs.parts.laws.what_calls_spend.Goals as goal

pub returns-clause-none : goal.returns-clause-none
returns-clause-none g c = kept_spends g.N.Note.own

pub returns-clause-joined : goal.returns-clause-joined
returns-clause-joined g c = spends_on g.N.Note.own

pub returns-clause-held : goal.returns-clause-held
returns-clause-held g c = still_some g.N.Note.own
