use Rattle.ruled_object.specs.Gathered.{AreNew}
use Rattle.call_loop.specs.Between.{AreNewBetween}
use Rattle.call_loop.proofs.Fresh.{if_ok, new_between}
use Rattle.call_loop.proofs.begin.new.Goals as goal

pub returns-clause-passes : goal.returns-clause-passes
returns-clause-passes g c =
    let p = g.P.Protocol in
    if_ok (λ made. AreNew made.0 c.args.calls made.1.items) (λ made. AreNewBetween p.out p.stands made.0 c.args.calls made.1.items) c.new.result (λ made new. new_between p.out p.stands made.0 c.args.calls made.1.items new) c.new.ensures.passes
