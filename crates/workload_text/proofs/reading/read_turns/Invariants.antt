use Rattle.std.proofs.Common.{◌≡◌, true, ◌++◌, map, drop}
use Rattle.std.specs.List.{list_all, flat_map}
use Rattle.workload.specs.Words.{turn_word}
use Rattle.workload.specs.Draft.{is_item}
use Rattle.workload.specs.Checks.{first_failing, item_checks}
use Rattle.workload_text.proofs.reading.read_turns.Given as goal

abbrev pub invariant-loop-word : goal.invariant-loop-word
invariant-loop-word l =
    (map turn_word l.turns ++ map (λ w. w.now) (drop l.word-index l.words) ≡ map (λ w. w.now) l.words)
    × (list_all (is_item l.workers) l.turns ≡ true)
    × (first_failing (flat_map (item_checks l.workers) (map (λ w. w.now) (drop l.word-index l.words))) ≡ first_failing (flat_map (item_checks l.workers) (map (λ w. w.now) l.words)))
