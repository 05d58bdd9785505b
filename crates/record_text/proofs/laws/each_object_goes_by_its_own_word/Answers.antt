use Rattle.record_text.proofs.OwnWords.{apart, own_word}
use Rattle.record_text.proofs.laws.each_object_goes_by_its_own_word.Goals as goal

pub returns-clause-named : goal.returns-clause-named
returns-clause-named c plan object readable within = own_word plan readable.few_workers readable.objects object within

pub returns-clause-apart : goal.returns-clause-apart
returns-clause-apart c plan object other readable within also = apart plan object other (own_word plan readable.few_workers readable.objects object within) (own_word plan readable.few_workers readable.objects other also)
