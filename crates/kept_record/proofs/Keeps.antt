-- All that is so of what is kept of any acts, a field a clause.
use Rattle.std.proofs.Common.{List}
use Rattle.workload.specs.Plan.{Plan}
use Rattle.kept_record.specs.Acts.{IsActOf, AreActsOf}
use Rattle.kept_record.specs.Keeping.{Act, Account, with_act, account_of}
use Rattle.kept_record.proofs.Counts as counting
use Rattle.kept_record.proofs.Edges as edges
use Rattle.kept_record.proofs.History as histories
use Rattle.kept_record.proofs.Induction.{all_keep}
use Rattle.kept_record.proofs.Knowing as knowing
use Rattle.kept_record.proofs.Numbers as numbers
use Rattle.kept_record.proofs.Once as once
use Rattle.kept_record.proofs.Ordered as ordered
use Rattle.kept_record.proofs.Rising as rising
use Rattle.kept_record.proofs.Told as telling
use Rattle.kept_record.proofs.Within as within

pub record Keeps (plan : Plan) (kept : Account) : Type 0 where
  pub numbered : numbers.Numbered plan kept
  pub rises : rising.Rises kept
  pub edges : edges.KeepsThem kept
  pub counts : counting.Counts plan kept
  pub once : once.StandsOnce kept
  pub history : histories.IsHistory plan kept
  pub knowing : knowing.Knowing plan kept
  pub within : within.AreWithin plan kept
  pub ordered : ordered.IsOrdered kept
  pub tells : telling.TellsWhat kept

step : (plan : Plan) (kept : Account) (act : Act) → IsActOf plan act → Keeps plan kept → Keeps plan (with_act kept act)
step plan kept act of now = record {
  numbered = numbers.step plan kept act of now.numbered;
  rises = rising.step plan kept act of now.numbered now.rises;
  edges = edges.step plan kept act of now.numbered now.edges;
  counts = counting.step plan kept act of now.numbered now.counts;
  once = once.step kept act now.once;
  history = histories.step plan kept act now.history;
  knowing = knowing.step plan kept act of now.numbered now.counts now.history now.knowing;
  within = within.step plan kept act of now.within;
  ordered = ordered.step plan kept act now.history now.ordered;
  tells = telling.step kept act now.tells;
}

pub keeps : (plan : Plan) (acts : List Act) → AreActsOf plan acts → Keeps plan (account_of plan acts)
keeps plan acts all = all_keep plan (Keeps plan) (step plan) (record { numbered = numbers.begins plan; rises = rising.begins plan; edges = edges.begins plan; counts = counting.begins plan; once = once.begins plan; history = histories.begins plan; knowing = knowing.begins plan; within = within.begins plan; ordered = ordered.begins plan; tells = telling.begins plan }) acts all
