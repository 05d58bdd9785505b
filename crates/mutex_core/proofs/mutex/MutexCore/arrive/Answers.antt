use Rattle.std.proofs.Common.{arith}
use Rattle.mutex_core.proofs.Validity.{queued-valid}
use Rattle.mutex_core.proofs.Room.{room_for-out}
use Rattle.mutex_core.proofs.mutex.MutexCore.arrive.Goals as goal

pub push_back_reserved-requires : goal.push_back_reserved-requires
push_back_reserved-requires c =
    let below = rw (← c.self.view_is) at c.requires.is_caller in
    let out = rw (← c.self.view_is) at c.requires.is_out in
    omega (arith, room_for-out _ c.args.caller c.self.invariant.valid below out, c.self.invariant.room)

pub invariant_of-self-2 : goal.invariant_of-self-2
invariant_of-self-2 c =
    let below = rw (← c.self.view_is) at c.requires.is_caller in
    let out = rw (← c.self.view_is) at c.requires.is_out in
    record {
      valid = rw c.push_back_reserved.ensures.items (queued-valid _ _ _ _ _ _ _ below out c.self.invariant.valid);
      room = rw c.push_back_reserved.ensures.capacity c.self.invariant.room;
    }

pub returns-clause-valid : goal.returns-clause-valid
returns-clause-valid c =
    let below = rw (← c.self.view_is) at c.requires.is_caller in
    let out = rw (← c.self.view_is) at c.requires.is_out in
    rw c.push_back_reserved.ensures.items (queued-valid _ _ _ _ _ _ _ below out c.self.invariant.valid)
