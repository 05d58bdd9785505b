use Rattle.std.proofs.Common.{◌≡◌, drop}
use Rattle.workload.specs.KeywordWords.{keyword_word, first_named}
use Rattle.workload.proofs.keyword.find_keyword.Given as goal

abbrev pub invariant-loop-keyword : goal.invariant-loop-keyword
invariant-loop-keyword l = first_named keyword_word (drop l.keyword-index l.keywords) l.word ≡ first_named keyword_word l.keywords l.word
