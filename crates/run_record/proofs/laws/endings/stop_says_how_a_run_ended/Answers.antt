use Rattle.run_record.proofs.CallLemmas.{AllEndAlike}
use Rattle.run_record.proofs.LineLemmas.{all_at_end, stop_met}
use Rattle.run_record.proofs.laws.endings.stop_says_how_a_run_ended.Goals as goal

pub returns-clause-done : goal.returns-clause-done
returns-clause-done c plan r outcome lines are lawful ended stopped none =
    let alike : AllEndAlike = record { mutex = c.endings.ensures; rw_mutex = c.endings-2.ensures; cond = c.endings-3.ensures; wait_group = c.endings-4.ensures; once = c.endings-5.ensures; func = c.endings-6.ensures; pool = c.endings-7.ensures; starts = c.endings-8.ensures; sema = c.endings-9.ensures; flight = c.endings-10.ensures } in
    all_at_end alike plan r outcome lines are lawful stopped none ended

pub returns-clause-misused : goal.returns-clause-misused
returns-clause-misused c plan r outcome lines misuse are lawful is =
    let alike : AllEndAlike = record { mutex = c.endings.ensures; rw_mutex = c.endings-2.ensures; cond = c.endings-3.ensures; wait_group = c.endings-4.ensures; once = c.endings-5.ensures; func = c.endings-6.ensures; pool = c.endings-7.ensures; starts = c.endings-8.ensures; sema = c.endings-9.ensures; flight = c.endings-10.ensures } in
    let met = stop_met alike plan r outcome lines are lawful misuse is in
    (met.0, met.1.0, met.1.1, met.1.2)
