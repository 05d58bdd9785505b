use Rattle.workload.proofs.Keywords.{keyword_at-keyword_word, keyword_from, same_keyword}
use Rattle.workload.proofs.laws.keywords.Goals as goal

pub returns-clause-read : goal.returns-clause-read
returns-clause-read c = λ keyword. keyword_at-keyword_word keyword

pub returns-clause-spelled : goal.returns-clause-spelled
returns-clause-spelled c = λ word keyword is. keyword_from word keyword is

pub returns-clause-apart : goal.returns-clause-apart
returns-clause-apart c = λ keyword other same. same_keyword keyword other same
