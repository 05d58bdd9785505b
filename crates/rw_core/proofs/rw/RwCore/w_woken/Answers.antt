use Rattle.rw_core.specs.declared.reply.RwReply.TheVariants.{Resumed}
use Rattle.rw_core.specs.declared.reply.Resumption.TheVariants.{Acquired, Queued}
use Rattle.rw_core.specs.RwCore.{state_of}
use Rattle.rw_core.proofs.Places.{in_flight}
use Rattle.rw_core.proofs.Validity.{resumed-by, at_once-valid, later-valid}
use Rattle.rw_core.proofs.rw.RwCore.w_woken.Goals as goal

pub woken-requires-clause-in_flight : goal.woken-requires-clause-in_flight
woken-requires-clause-in_flight c = in_flight (state_of c.self.inside) c.args.caller (rw (← c.self.view_is) at c.requires.in_flight)

pub invariant_of-self : goal.invariant_of-self
invariant_of-self c = record {
  valid =
      let below = rw (← c.self.view_is) at c.requires.is_caller in
      let at = in_flight (state_of c.self.inside) c.args.caller (rw (← c.self.view_is) at c.requires.in_flight) in
      resumed-by _ c.args.caller c.args.now _ below at c.in-Requeued.ensures.step c.in-Requeued.ensures.valid c.self.invariant.valid;
  queue_room = c.self.invariant.queue_room;
  admitted_room = c.self.invariant.admitted_room;
  granted_room = c.self.invariant.granted_room;
}

pub invariant_of-self-then-self-eq0 : goal.invariant_of-self-then-self-eq0
invariant_of-self-then-self-eq0 c = record {
  valid =
      let below = rw (← c.self.view_is) at c.requires.is_caller in
      let at = in_flight (state_of c.self.inside) c.args.caller (rw (← c.self.view_is) at c.requires.in_flight) in
      at_once-valid (record (state_of c.self.inside) { inner = c.woken.new.self }) c.args.caller (Resumed Acquired) (Resumed Queued) c.if-self-eq0.true
      (resumed-by _ c.args.caller c.args.now _ below at c.in-Acquired.ensures.step c.in-Acquired.ensures.valid c.self.invariant.valid);
  queue_room = c.self.invariant.queue_room;
  admitted_room = c.self.invariant.admitted_room;
  granted_room = c.self.invariant.granted_room;
}

pub invariant_of-self-in-Acquired : goal.invariant_of-self-in-Acquired
invariant_of-self-in-Acquired c = record {
  valid =
      let below = rw (← c.self.view_is) at c.requires.is_caller in
      let at = in_flight (state_of c.self.inside) c.args.caller (rw (← c.self.view_is) at c.requires.in_flight) in
      later-valid (record (state_of c.self.inside) { inner = c.woken.new.self }) c.args.caller (Resumed Acquired) (Resumed Queued) c.if-self-eq0.false
      (resumed-by _ c.args.caller c.args.now _ below at c.in-Acquired.ensures.step c.in-Acquired.ensures.valid c.self.invariant.valid);
  queue_room = c.self.invariant.queue_room;
  admitted_room = c.self.invariant.admitted_room;
  granted_room = c.self.invariant.granted_room;
}
