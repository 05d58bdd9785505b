use Rattle.std.proofs.Common.{◌≡◌, ◌++◌, drop, map}
use Rattle.workload.specs.Words.{turn_word}
use Rattle.workload.specs.Canonical.{behind_spaces}
use Rattle.workload_text.proofs.printing.put_turns.Given as goal

abbrev pub invariant-loop-turn : goal.invariant-loop-turn
invariant-loop-turn l =
    l.text.items ++ behind_spaces (map turn_word (drop l.turn-index l.turns)) ≡ l.initial.text.items ++ behind_spaces (map turn_word l.turns)
