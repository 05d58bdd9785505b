use Rattle.run_record.proofs.CallLemmas.{AllEndAlike}
use Rattle.run_record.proofs.HaltsMade.{none_before}
use Rattle.run_record.proofs.laws.endings.halts_stand_behind_all_else.Goals as goal

pub returns : goal.returns
returns c plan worker line is =
    let alike : AllEndAlike = record { mutex = c.endings.ensures; rw_mutex = c.endings-2.ensures; cond = c.endings-3.ensures; wait_group = c.endings-4.ensures; once = c.endings-5.ensures; func = c.endings-6.ensures; pool = c.endings-7.ensures; starts = c.endings-8.ensures; sema = c.endings-9.ensures; flight = c.endings-10.ensures } in
    none_before alike plan worker line is
