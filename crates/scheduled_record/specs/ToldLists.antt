-- The lists of a run by schedule, as its items are told: each with its call, and with its number in its object's journal.
use Rattle.std.specs.Prelude.{ℕ, List, map, None}
use Rattle.std.specs.List.{range_with_len}
use Rattle.script_calls.specs.declared.outcome.Report.{Report}
use Rattle.workload.specs.Plan.{Plan}
use Rattle.record_clauses.specs.Account.{ToldItem, Claim}
use Rattle.scheduled_record.specs.Recorded.{done_report}
use Rattle.scheduled_record.specs.ToldItems.{ToldAct, number_of, told_of}

abbrev pub told_item : ToldAct → ToldItem
told_item t = record { made = t.act.made; call = t.index; number = number_of t.act.made }

-- its list, as it is told
abbrev pub told_list : Plan → ℕ → List ToldItem
told_list plan worker = map told_item (told_of plan worker)

-- what is told of a run that is done and leaves this: the lists of all workers, and the report
abbrev pub claim_of : Plan → Report → Claim
claim_of plan left = record { plan = plan; misused = None; lists = map (told_list plan) (range_with_len 0 plan.workers); report = done_report plan left }
