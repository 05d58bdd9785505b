use Rattle.run_check.proofs.SpellHolds.{each_spells, some_spells}
use Rattle.run_check.proofs.laws.where_all_lists_spell_the_clause_holds.Goals as goal

pub returns-clause-each : goal.returns-clause-each
returns-clause-each c told found readable are = each_spells told found are c.a_spelling_is_blind.ensures.lines readable

pub returns-clause-some : goal.returns-clause-some
returns-clause-some c told found readable are = some_spells told found are c.a_spelling_is_blind.ensures.lines readable
