use Rattle.std.proofs.Common.{◌≡◌, arith, eq-eqb}
use Rattle.rw_core.proofs.Validity.{tried-by, try-refused, next-try_refused}
use Rattle.rw_core.specs.RwCore.{state_of}
use Rattle.rw_core.proofs.rw.RwCore.w_try.Goals as goal

pub invariant_of-self : goal.invariant_of-self
invariant_of-self c =
    let below = rw (← c.self.view_is) at c.requires.is_caller in
    let out = rw (← c.self.view_is) at c.requires.is_out in
    let same = try-refused (state_of c.self.inside) c.args.caller c.try_arrive.new.self below out c.self.invariant.valid c.if-not-try_arrive.ensures.step in
    rw same c.self.invariant

pub returns-then-not-try_arrive : goal.returns-then-not-try_arrive
returns-then-not-try_arrive c =
    let below = rw (← c.self.view_is) at c.requires.is_caller in
    let out = rw (← c.self.view_is) at c.requires.is_out in
    let same = try-refused (state_of c.self.inside) c.args.caller c.try_arrive.new.self below out c.self.invariant.valid c.if-not-try_arrive.ensures.step in
    rw (← c.self.view_is, same) (next-try_refused (state_of c.self.inside) c.args.caller c.try_arrive.new.self below out c.if-not-try_arrive.ensures.step)

pub invariant_of-self-2 : goal.invariant_of-self-2
invariant_of-self-2 c = record {
  valid =
      let below = rw (← c.self.view_is) at c.requires.is_caller in
      let out = rw (← c.self.view_is) at c.requires.is_out in
      let none : c.self.inside.readers ≡ 0 = omega arith in
      rw (eq-eqb c.self.inside.readers 0 none) at (tried-by _ c.args.caller _ below out c.if-not-try_arrive.ensures.step c.if-not-try_arrive.ensures.valid c.self.invariant.valid);
  queue_room = c.self.invariant.queue_room;
  admitted_room = c.self.invariant.admitted_room;
  granted_room = c.self.invariant.granted_room;
}
