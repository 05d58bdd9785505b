use Rattle.rw_core.specs.declared.reply.RwReply.TheVariants.{Arrived}
use Rattle.rw_core.specs.declared.reply.Arrival.TheVariants.{Acquired, Queued}
use Rattle.rw_core.specs.RwCore.{state_of}
use Rattle.rw_core.proofs.Validity.{arrived-by, at_once-valid, later-valid}
use Rattle.rw_core.proofs.rw.RwCore.w_arrive.Goals as goal

pub invariant_of-self : goal.invariant_of-self
invariant_of-self c = record {
  valid =
      let below = rw (← c.self.view_is) at c.requires.is_caller in
      let out = rw (← c.self.view_is) at c.requires.is_out in
      arrived-by _ c.args.caller c.args.now _ below out c.in-Queued.ensures.step c.in-Queued.ensures.valid c.self.invariant.valid;
  queue_room = c.self.invariant.queue_room;
  admitted_room = c.self.invariant.admitted_room;
  granted_room = c.self.invariant.granted_room;
}

pub invariant_of-self-then-self-eq0 : goal.invariant_of-self-then-self-eq0
invariant_of-self-then-self-eq0 c = record {
  valid =
      let below = rw (← c.self.view_is) at c.requires.is_caller in
      let out = rw (← c.self.view_is) at c.requires.is_out in
      at_once-valid (record (state_of c.self.inside) { inner = c.arrive.new.self }) c.args.caller (Arrived Acquired) (Arrived Queued) c.if-self-eq0.true
      (arrived-by _ c.args.caller c.args.now _ below out c.in-Acquired.ensures.step c.in-Acquired.ensures.valid c.self.invariant.valid);
  queue_room = c.self.invariant.queue_room;
  admitted_room = c.self.invariant.admitted_room;
  granted_room = c.self.invariant.granted_room;
}

pub invariant_of-self-in-Acquired : goal.invariant_of-self-in-Acquired
invariant_of-self-in-Acquired c = record {
  valid =
      let below = rw (← c.self.view_is) at c.requires.is_caller in
      let out = rw (← c.self.view_is) at c.requires.is_out in
      later-valid (record (state_of c.self.inside) { inner = c.arrive.new.self }) c.args.caller (Arrived Acquired) (Arrived Queued) c.if-self-eq0.false
      (arrived-by _ c.args.caller c.args.now _ below out c.in-Acquired.ensures.step c.in-Acquired.ensures.valid c.self.invariant.valid);
  queue_room = c.self.invariant.queue_room;
  admitted_room = c.self.invariant.admitted_room;
  granted_room = c.self.invariant.granted_room;
}
