use Rattle.sync_model.proofs.Journals.{rise_on}
use Rattle.sync_model.proofs.laws.journals.earlier_entries_have_lower_numbers.Goals as goal

pub returns : goal.returns
returns g c = λ earlier between later first second. rise_on earlier between later first second
