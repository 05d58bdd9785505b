use Rattle.std.proofs.Common.{◌++◌, map, drop, ap, ◌∙◌}
use Rattle.std.proofs.lemmas.List.{drop_all}
use Rattle.workload.specs.Words.{turn_word}
use Rattle.workload.specs.Canonical.{behind_spaces}
use Rattle.workload_text.proofs.PrintLemmas.{close_line}
use Rattle.workload_text.proofs.printing.put_turns.Goals as goal

pub returns : goal.returns
returns c =
    let turns = c.args.turns.now in
    let done = ap (map turn_word) (drop_all c.loop-turn.turn-index turns c.loop-turn-test.false) in
    let start = c.loop-turn.invariant ∙ ap (λ t. t ++ behind_spaces (map turn_word turns)) c.in_ok-put_keyword.ensures in
    c.in_ok-push.ensures.items ∙ close_line c.args.text.now.items c.loop-turn.text.items _ (map turn_word turns) (map turn_word (drop c.loop-turn.turn-index turns)) done start
