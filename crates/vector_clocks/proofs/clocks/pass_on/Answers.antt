use Rattle.std.proofs.Common.{subst}
use Rattle.vector_clocks.specs.Knowing.{AreGiven, AreSet}
use Rattle.vector_clocks.proofs.clocks.pass_on.Goals as goal

pub returns : goal.returns
returns c = (
  c.give.new.channels,
  subst (λ xs. AreGiven xs c.args.clock.now c.args.channels.now c.give.new.channels) c.deref.ensures.value c.give.ensures,
  subst (λ xs. AreSet xs c.args.clock.now c.give.new.channels c.set_all.new.channels) c.deref-2.ensures.value c.set_all.ensures,
)
