use Rattle.run_cuts.proofs.CondCut.{cond_cuts}
use Rattle.run_cuts.proofs.FlightCut.{fly_cuts}
use Rattle.run_cuts.proofs.GroupCut.{group_cuts}
use Rattle.run_cuts.proofs.MutexCut.{mutex_cuts}
use Rattle.run_cuts.proofs.OnceCut.{do_cuts, func_cuts, value_cuts}
use Rattle.run_cuts.proofs.PoolCut.{pool_cuts}
use Rattle.run_cuts.proofs.RwMutexCut.{rw_mutex_cuts}
use Rattle.run_cuts.proofs.SemaCut.{sema_cuts}
use Rattle.run_cuts.proofs.SharedCut.{adds_cuts, atomic_cuts, if_equal_cuts, map_cuts}
use Rattle.run_cuts.proofs.StartsCut.{go_cuts, wait_start_cuts, end_cuts}
use Rattle.run_cuts.proofs.WaitForCut.{wait_for_cuts}
use Rattle.run_cuts.proofs.laws.calls_are_cut_as_they_are_spelt.Goals as goal

pub returns-clause-mutex : goal.returns-clause-mutex
returns-clause-mutex c object call = mutex_cuts object call

pub returns-clause-rw_mutex : goal.returns-clause-rw_mutex
returns-clause-rw_mutex c object call = rw_mutex_cuts object call

pub returns-clause-cond : goal.returns-clause-cond
returns-clause-cond c object mutex call = cond_cuts object mutex call

pub returns-clause-wait_group : goal.returns-clause-wait_group
returns-clause-wait_group c object call = group_cuts object call

pub returns-clause-map : goal.returns-clause-map
returns-clause-map c keys m call = map_cuts keys m call

pub returns-clause-atomic : goal.returns-clause-atomic
returns-clause-atomic c a call = atomic_cuts a call

pub returns-clause-adds : goal.returns-clause-adds
returns-clause-adds c a amount = adds_cuts a amount

pub returns-clause-ifeq : goal.returns-clause-ifeq
returns-clause-ifeq c a value = if_equal_cuts a value

pub returns-clause-waitfor : goal.returns-clause-waitfor
returns-clause-waitfor c cond mutex a value tries = wait_for_cuts cond mutex a value tries

pub returns-clause-once : goal.returns-clause-once
returns-clause-once c object a amount = do_cuts object a amount

pub returns-clause-once_func : goal.returns-clause-once_func
returns-clause-once_func c object code = func_cuts object code

pub returns-clause-once_value : goal.returns-clause-once_value
returns-clause-once_value c object value = value_cuts object value

pub returns-clause-pool : goal.returns-clause-pool
returns-clause-pool c workers worker first call = pool_cuts workers worker first call

pub returns-clause-sema : goal.returns-clause-sema
returns-clause-sema c object call = sema_cuts object call

pub returns-clause-flight : goal.returns-clause-flight
returns-clause-flight c object a amount key = fly_cuts object a amount key

pub returns-clause-go : goal.returns-clause-go
returns-clause-go c group starts worker = go_cuts group starts worker

pub returns-clause-starts : goal.returns-clause-starts
returns-clause-starts c object = (wait_start_cuts object, end_cuts object)
