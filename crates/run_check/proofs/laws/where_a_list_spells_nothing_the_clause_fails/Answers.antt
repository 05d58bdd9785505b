use Rattle.run_check.proofs.SpellNothing.{none_spells}
use Rattle.run_check.proofs.laws.where_a_list_spells_nothing_the_clause_fails.Goals as goal

pub returns : goal.returns
returns c = none_spells c.a_spelling_is_blind.ensures.lines
