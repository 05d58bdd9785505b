use Rattle.std.proofs.Common.{List, refl, subst, ap, ◌∙◌}
use Rattle.step_runner.specs.declared.turns.item.Item.{Item}
use Rattle.race_clocks.specs.Numbering.{numbers_of, HandedOn}
use Rattle.race_clocks.specs.Passing.{AreTold}
use Rattle.race_clocks.specs.declared.channel.Channel.{Channel}
use Rattle.race_clocks.proofs.steps.step_of.Goals as goal

pub returns : goal.returns
returns c = record {
  worker = refl;
  access = c.access.ensures;
  sets = c.new.ensures.items;
  passing = c.in_ok-passing.passing;
  told = subst (λ (items : List Item). AreTold c.args.workload.now items c.args.turn.now.call c.args.seen.now c.pass_all.new.self c.in_ok-passing.passing) c.as_slice.ensures c.in_ok-passing.ensures.told;
  takes = c.in_ok-takes.ensures ∙ ap (numbers_of c.args.numbers.now.tables) c.as_slice-2.ensures;
  gives = subst (λ (channels : List Channel). HandedOn c.args.numbers.now c.give_all.new.self c.in_ok-gives.gives.items channels) c.as_slice-3.ensures c.in_ok-gives.ensures;
}
