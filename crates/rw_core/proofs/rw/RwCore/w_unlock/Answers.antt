use Rattle.std.proofs.Common.{arith}
use Rattle.std.proofs.lemmas.Grind.{common_steps}
use Rattle.mutex_core.specs.MutexMachine as mutex
use Rattle.mutex_core.specs.declared.event.MutexEvent.TheVariants as mutex_event
use Rattle.rw_core.specs.declared.event.RwEvent.TheVariants as event
use Rattle.rw_core.specs.declared.reply.RwReply.TheVariants.{Unlocked}
use Rattle.rw_core.specs.declared.reply.Unlocking.TheVariants.{Done}
use Rattle.rw_core.proofs.Validity.{valid-by}
use Rattle.rw_core.proofs.Room.{admitted_room}
use Rattle.rw_core.proofs.rw.RwCore.w_unlock.Goals as goal

pub move_all-requires : goal.move_all-requires
move_all-requires c = omega (arith, admitted_room _ c.self.invariant.valid, c.self.invariant.admitted_room)

pub invariant_of-self : goal.invariant_of-self
invariant_of-self c = record {
  valid =
      let inner : mutex.IsValid (mutex.next c.self.inside.inner c.args.caller mutex_event.Unlock).0 = rw (← c.pass_on.ensures.step) c.pass_on.ensures.valid in
      valid-by _ _ c.args.caller event.WriteUnlock (Unlocked Done) inner c.self.invariant.valid (grind (arith, common_steps));
  queue_room = rw c.move_all.ensures.from_capacity c.self.invariant.queue_room;
  admitted_room = omega (arith, c.move_all.ensures.to_capacity, c.self.invariant.admitted_room);
  granted_room = c.self.invariant.granted_room;
}
