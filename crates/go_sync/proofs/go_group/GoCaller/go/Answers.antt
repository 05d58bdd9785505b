use Rattle.std.proofs.Common.{refl}
use Rattle.go_sync.proofs.Going.{went_so}
use Rattle.go_sync.proofs.go_group.GoCaller.go.Goals as goal

pub returns : goal.returns
returns g c = record {
  group = refl;
  at = refl;
  starts = refl;
  ready = c.ready_for_group.new.pass;
  ready_is = c.ready_for_group.ensures.same;
  held = c.ready.new.pass;
  held_is = c.ready.ensures.same;
  did = went_so c.args.worker c.args.self.now.member.group.now c.args.self.now.starts.now c.ready_for_group.new.pass c.go.new.pass c.ready.new.pass c.go.new.starts_pass _ _ c.go.result c.new.ensures c.go.ensures.events;
  lawful = c.go.ensures.journal.0;
}
