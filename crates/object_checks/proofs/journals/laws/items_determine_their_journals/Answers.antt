use Rattle.object_checks.proofs.OneJournal.{one_list, number_is_place, once_each, fronts_fit}
use Rattle.object_checks.proofs.journals.laws.items_determine_their_journals.Goals as goal

pub returns : goal.returns
returns c = record { one = one_list; number = number_is_place; once = once_each; fronts = fronts_fit }
