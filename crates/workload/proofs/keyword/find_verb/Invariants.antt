use Rattle.std.proofs.Common.{◌≡◌, drop}
use Rattle.workload.specs.KeywordWords.{verb_word, first_named}
use Rattle.workload.proofs.keyword.find_verb.Given as goal

abbrev pub invariant-loop-verb : goal.invariant-loop-verb
invariant-loop-verb l = first_named verb_word (drop l.verb-index l.verbs) l.word ≡ first_named verb_word l.verbs l.word
