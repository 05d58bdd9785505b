use Rattle.std.proofs.Common.{arith}
use Rattle.std.proofs.lemmas.Grind.{common_steps}
use Rattle.mutex_core.specs.declared.event.MutexEvent.TheVariants as event
use Rattle.mutex_core.specs.declared.reply.MutexReply.TheVariants.{Resumed}
use Rattle.mutex_core.specs.declared.reply.Resumption.TheVariants.{Acquired}
use Rattle.mutex_core.proofs.Validity.{valid-by}
use Rattle.mutex_core.proofs.Room.{room_for-woken}
use Rattle.mutex_core.proofs.mutex.MutexCore.woken.Goals as goal

pub invariant_of-self-in-Woken : goal.invariant_of-self-in-Woken
invariant_of-self-in-Woken c = record {
  valid = valid-by _ _ c.args.caller (event.Woken c.args.now) (Resumed Acquired) c.self.invariant.valid (grind (arith, common_steps));
  room = c.self.invariant.room;
}

pub push_front_reserved-requires : goal.push_front_reserved-requires
push_front_reserved-requires c = omega (arith, room_for-woken _ _ c.self.invariant.valid c.in-Woken.is, c.self.invariant.room)

pub invariant_of-self-2 : goal.invariant_of-self-2
invariant_of-self-2 c = record {
  valid = valid-by _ _ c.args.caller (event.Woken c.args.now) (Resumed Acquired) c.self.invariant.valid (grind (arith, common_steps));
  room = rw c.pop_front.ensures.capacity c.self.invariant.room;
}

pub returns-in-Woken-clause-valid : goal.returns-in-Woken-clause-valid
returns-in-Woken-clause-valid c =
    valid-by _ _ c.args.caller (event.Woken c.args.now) (Resumed Acquired) c.self.invariant.valid (grind (arith, common_steps))

pub returns-clause-valid : goal.returns-clause-valid
returns-clause-valid c =
    valid-by _ _ c.args.caller (event.Woken c.args.now) (Resumed Acquired) c.self.invariant.valid (grind (arith, common_steps))
