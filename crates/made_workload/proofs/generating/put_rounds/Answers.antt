use Rattle.std.proofs.Common.{◌∙◌}
use Rattle.made_workload.proofs.Rounds.{round_more, behind_round, rounds_done, behind_done}
use Rattle.made_workload.proofs.generating.put_rounds.Goals as goal

pub loop-round-preserved : goal.loop-round-preserved
loop-round-preserved c =
    let g = c.loop-round.generator in
    let h = c.next_word-first.new.self in
    let k = c.next_word-second.new.self in
    let more = c.loop-round-test.true in
    record {
      text = round_more c.args.worker c.loop-round._round _ _ _ _ _ g h k more c.next_word-first.ensures c.next_word-second.ensures c.in_ok-put_round.ensures c.loop-round.invariant.text;
      generator = behind_round c.loop-round._round _ _ g h k more c.next_word-first.ensures c.next_word-second.ensures ∙ c.loop-round.invariant.generator;
    }

pub returns-clause-text : goal.returns-clause-text
returns-clause-text c = rounds_done c.args.worker c.loop-round._round _ _ c.loop-round.generator c.loop-round-test.false c.loop-round.invariant.text

pub returns-clause-generator : goal.returns-clause-generator
returns-clause-generator c = behind_done c.loop-round._round _ _ c.loop-round-test.false c.loop-round.invariant.generator
