use Rattle.std.proofs.Common.{ℕ, List, refl, sym, ap, ◌∙◌, subst, arith}
use Rattle.std.specs.Prelude.{Contains}
use Rattle.run_record.specs.Lines.{halted_by}
use Rattle.run_record.specs.Record.{stop}
use Rattle.run_record.proofs.CallLemmas.{AllEndAlike}
use Rattle.run_record.proofs.HaltsMade.{halts_are, halts_once}
use Rattle.run_record.proofs.laws.endings.a_worker_that_meets_a_misuse_halts_each_object.Goals as goal

pub returns-clause-list : goal.returns-clause-list
returns-clause-list c plan r outcome lines worker line misuse are lawful at each ending =
    let alike : AllEndAlike = record { mutex = c.endings.ensures; rw_mutex = c.endings-2.ensures; cond = c.endings-3.ensures; wait_group = c.endings-4.ensures; once = c.endings-5.ensures; func = c.endings-6.ensures; pool = c.endings-7.ensures; starts = c.endings-8.ensures; sema = c.endings-9.ensures; flight = c.endings-10.ensures } in
    halts_are alike plan r outcome lines are lawful worker line misuse at each ending

pub returns-clause-once : goal.returns-clause-once
returns-clause-once c plan r outcome lines worker line misuse number are lawful at each ending has =
    let alike : AllEndAlike = record { mutex = c.endings.ensures; rw_mutex = c.endings-2.ensures; cond = c.endings-3.ensures; wait_group = c.endings-4.ensures; once = c.endings-5.ensures; func = c.endings-6.ensures; pool = c.endings-7.ensures; starts = c.endings-8.ensures; sema = c.endings-9.ensures; flight = c.endings-10.ensures } in
    halts_once alike plan r outcome lines are lawful worker line misuse at each ending number has

pub returns-clause-stops : goal.returns-clause-stops
returns-clause-stops c plan line each misuse ending = subst (λ (numbers : List ℕ). Contains numbers stop) (sym (each ∙ ap (halted_by plan) ending)) (0, omega arith, refl)
