use Rattle.run_record.proofs.CallLemmas.{AllEndAlike}
use Rattle.run_record.proofs.LineLemmas.{halt_met}
use Rattle.run_record.proofs.laws.endings.a_halt_follows_a_misuse.Goals as goal

pub returns : goal.returns
returns c plan r outcome lines object n entry misuse are lawful at is =
    let alike : AllEndAlike = record { mutex = c.endings.ensures; rw_mutex = c.endings-2.ensures; cond = c.endings-3.ensures; wait_group = c.endings-4.ensures; once = c.endings-5.ensures; func = c.endings-6.ensures; pool = c.endings-7.ensures; starts = c.endings-8.ensures; sema = c.endings-9.ensures; flight = c.endings-10.ensures } in
    halt_met alike plan r outcome lines are lawful object n entry misuse at is
