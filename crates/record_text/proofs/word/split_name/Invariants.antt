use Rattle.std.proofs.Common.{◌≡◌, ◌++◌, take, drop}
use Rattle.record_text.specs.Names.{up_to_mark, behind_mark}
use Rattle.record_text.proofs.word.split_name.Given as goal

abbrev pub invariant-loop-index : goal.invariant-loop-index
invariant-loop-index l = (take l.index l.word ++ up_to_mark (drop l.index l.word) ≡ up_to_mark l.word) × (behind_mark (drop l.index l.word) ≡ behind_mark l.word)
