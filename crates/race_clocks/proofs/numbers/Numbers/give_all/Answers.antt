use Rattle.std.proofs.Common.{ℕ, List, take, ◌++◌, ◌∷◌, [], sym, subst, arith}
use Rattle.race_clocks.specs.Numbering.{HandedOn}
use Rattle.race_clocks.specs.declared.channel.Channel.{Channel}
use Rattle.race_clocks.proofs.NumberLemmas.{handed_more}
use Rattle.race_clocks.proofs.Lists.{take_next}
use Rattle.race_clocks.proofs.numbers.Numbers.give_all.Goals as goal

pub loop-channel-preserved : goal.loop-channel-preserved
loop-channel-preserved c =
    let channels : List Channel = c.args.channels.now in
    let i : ℕ = c.loop-channel.channel-index in
    let item : Channel = c.channel-item.result in
    let more : HandedOn c.args.self.now c.give.new.self (c.loop-channel.numbers.items ++ c.in_ok-give.field-0 ∷ []) (take i channels ++ item ∷ []) =
    handed_more c.args.self.now c.loop-channel.self c.give.new.self item c.in_ok-give.field-0 c.loop-channel.numbers.items (take i channels) c.loop-channel.invariant c.in_ok-give.ensures in
    let numbers : HandedOn c.args.self.now c.give.new.self c.push.new.self.items (take i channels ++ item ∷ []) =
    subst (λ (list : List ℕ). HandedOn c.args.self.now c.give.new.self list (take i channels ++ item ∷ [])) (sym c.in_ok-push.ensures.items) more in
    subst (λ (list : List Channel). HandedOn c.args.self.now c.give.new.self c.push.new.self.items list)
    (sym (take_next channels i item c.channel-item.is (omega (arith, c.loop-channel-test.true, c.loop-channel.auto.channel-index-end)))) numbers
