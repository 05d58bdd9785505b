use Rattle.std.proofs.Common.{List, take, ◌++◌, sym, subst, arith}
use Rattle.step_runner.specs.declared.turns.item.Item.{Item}
use Rattle.race_clocks.specs.Passing.{AreTold}
use Rattle.race_clocks.proofs.ItemChannels.{told_none, told_more}
use Rattle.race_clocks.proofs.Lists.{take_next, take_whole}
use Rattle.race_clocks.proofs.Notified.{notices_so}
use Rattle.race_clocks.proofs.seen.Seen.pass_all.Goals as goal

pub loop-item-init : goal.loop-item-init
loop-item-init c = record {
  are = c.requires;
  told = told_none c.args.workload.now c.args.call.now c.args.self.now (record { takes = c.new.result; gives = c.new-2.result }) c.new.ensures c.new-2.ensures;
}

pub loop-item-preserved : goal.loop-item-preserved
loop-item-preserved c =
    let plan = c.args.workload.now in
    let items : List Item = c.args.items.now in
    let i = c.loop-item.item-index in
    let item : Item = c.item-item.result in
    let call = c.args.call.now in
    let next = take_next items i item c.item-item.is (omega (arith, c.loop-item-test.true, c.loop-item.auto.item-index-end)) in
    record {
      are = c.in_ok-pass.ensures.are;
      told = subst (λ (list : List Item). AreTold plan list call c.args.self.now c.pass.new.self c.pass.new.passing) (sym next)
          (λ earlier comes.
          let so_far = c.loop-item.invariant.told earlier comes in
          told_more plan earlier (take i items) item call c.loop-item.self c.pass.new.self c.loop-item.passing c.pass.new.passing so_far c.in_ok-pass.ensures
          (λ m n. notices_so plan (earlier ++ take i items) item c.loop-item.self so_far.comes m n));
    }

pub returns-clause-told : goal.returns-clause-told
returns-clause-told c =
    let items : List Item = c.args.items.now in
    subst (λ (list : List Item). AreTold c.args.workload.now list c.args.call.now c.args.self.now c.loop-item.self c.loop-item.passing)
    (take_whole items c.loop-item.item-index (omega (arith, c.loop-item-test.false, c.loop-item.auto.item-index-end))) c.loop-item.invariant.told
