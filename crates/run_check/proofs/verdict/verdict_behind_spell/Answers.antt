use Rattle.record_text.specs.Reads.{told_by}
use Rattle.run_check.proofs.FoundVerdicts.{at_second}
use Rattle.run_check.proofs.verdict.verdict_behind_spell.Goals as goal

pub returns-in-None : goal.returns-in-None
returns-in-None c =
    at_second (told_by c.args.text.now) (c.where_all_lists_spell_the_clause_holds.ensures.some (told_by c.args.text.now) c.args.found c.workers-workers.ensures.readable c.requires.spelt)
    (rw c.in-None.is at c.in_ok-place_calls.ensures)
