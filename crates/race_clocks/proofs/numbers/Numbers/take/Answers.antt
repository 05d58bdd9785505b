use Rattle.std.proofs.Common.{◌++◌, take, sym, ap, ◌∙◌, arith}
use Rattle.std.specs.Option.{option_to_list}
use Rattle.race_clocks.specs.Numbering.{number_at, numbers_of}
use Rattle.race_clocks.proofs.Lists.{take_next}
use Rattle.race_clocks.proofs.NumberLemmas.{numbers_more}
use Rattle.race_clocks.proofs.numbers.Numbers.take.Goals as goal

pub loop-channel-preserved : goal.loop-channel-preserved
loop-channel-preserved c =
    let tables = c.args.self.now.tables in
    let channels = c.args.channels.now in
    let i = c.loop-channel.channel-index in
    c.in_ok-push_some.ensures
    ∙ ap (λ number. c.loop-channel.numbers.items ++ option_to_list number) c.number.ensures
    ∙ ap (λ numbers. numbers ++ option_to_list (number_at tables c.channel-item.result)) c.loop-channel.invariant
    ∙ sym (numbers_more tables (take i channels) c.channel-item.result)
    ∙ ap (numbers_of tables) (sym (take_next channels i c.channel-item.result c.channel-item.is (omega (arith, c.loop-channel-test.true, c.loop-channel.auto.channel-index-end))))
