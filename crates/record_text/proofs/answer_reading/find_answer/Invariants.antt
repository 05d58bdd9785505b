use Rattle.std.proofs.Common.{◌≡◌, drop}
use Rattle.workload.specs.KeywordWords.{first_named}
use Rattle.record_text.specs.AnswerWords.{answer_name}
use Rattle.record_text.proofs.answer_reading.find_answer.Given as goal

abbrev pub invariant-loop-answer : goal.invariant-loop-answer
invariant-loop-answer l = first_named answer_name (drop l.answer-index l.answers) l.name ≡ first_named answer_name l.answers l.name
