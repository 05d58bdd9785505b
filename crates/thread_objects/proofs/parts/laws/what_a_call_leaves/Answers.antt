use Rattle.run_record.specs.Limits.{IsCallOf}
use Rattle.thread_objects.proofs.OnlyCalls.{none_made, made_on}
use Rattle.thread_objects.proofs.Spending.{kept_spends, spends_on}
use Rattle.thread_objects.proofs.parts.laws.what_a_call_leaves.Goals as goal

pub returns-clause-none : goal.returns-clause-none
returns-clause-none g c plan old new home kept some = record {
  home = home;
  spends = kept_spends g.N.Note.own old new kept some;
  calls = none_made (IsCallOf plan) (g.N.Note.own old) (g.N.Note.own new) kept;
}

pub returns-clause-joined : goal.returns-clause-joined
returns-clause-joined g c plan cost more old between new first later = record {
  home = λ home at. later.home home (first.home home at);
  spends = spends_on g.N.Note.own cost more old between new first.spends later.spends;
  calls = made_on (IsCallOf plan) _ _ _ first.calls later.calls;
}
