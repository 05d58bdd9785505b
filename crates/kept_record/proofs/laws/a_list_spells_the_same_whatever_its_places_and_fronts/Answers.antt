use Rattle.kept_record.proofs.AlikeLines.{line_like}
use Rattle.kept_record.proofs.laws.a_list_spells_the_same_whatever_its_places_and_fronts.Goals as goal

pub returns : goal.returns
returns c plan worker line list is alike = line_like plan worker line list is alike
