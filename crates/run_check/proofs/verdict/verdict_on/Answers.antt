use Rattle.record_text.specs.Reads.{told_by}
use Rattle.run_check.proofs.FoundVerdicts.{at_first}
use Rattle.run_check.proofs.verdict.verdict_on.Goals as goal

pub returns-in-None : goal.returns-in-None
returns-in-None c = at_first (told_by c.args.text.now) (c.where_a_list_spells_nothing_the_clause_fails.ensures (told_by c.args.text.now) (rw c.as_slice.ensures at (rw c.in-None.is at c.in_ok-spell_all.ensures)))
