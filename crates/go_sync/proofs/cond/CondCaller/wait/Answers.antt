use Rattle.std.proofs.Common.{refl}
use Rattle.go_sync.proofs.Waiting.{waited_so}
use Rattle.go_sync.proofs.cond.CondCaller.wait.Goals as goal

pub returns : goal.returns
returns g c = record {
  cond = refl;
  mutex = refl;
  at = (refl, refl);
  ready = c.ready.new.pass;
  ready_is = c.ready.ensures.same;
  lent = c.ready_for_lock.new.pass;
  lent_is = c.ready_for_lock.ensures.same;
  did = waited_so (g.C.Clock.shows c.args.self.now.clock.now) c.args.self.now.cond.now c.args.mutex.now.mutex.now c.ready.new.pass c.wait.new.pass c.ready_for_lock.new.pass c.wait.new.mutex_pass _ _ c.wait.result c.new.ensures c.wait.ensures.events;
  lawful = c.wait.ensures.journal.0;
}
