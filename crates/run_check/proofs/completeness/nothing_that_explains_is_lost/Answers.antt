use Rattle.record_clauses.specs.declared.clause.Clause.{Clause}
use Rattle.record_clauses.specs.Account.{Account, Claim}
use Rattle.record_clauses.specs.Clauses.{Holds}
use Rattle.record_clauses.specs.declared.clause.Verdict.TheVariants.{Yes}
use Rattle.record_text.specs.Told.{Told}
use Rattle.workload.specs.Readable.{IsReadable}
use Rattle.run_check.specs.Completeness.{AreLinesOf}
use Rattle.run_check.specs.Tells.{ComesTo}
use Rattle.run_check.proofs.ToldYes.{comes_to_yes, not_no}
use Rattle.run_check.proofs.completeness.nothing_that_explains_is_lost.Goals as goal

pub returns : goal.returns
returns c = record { yes = yes; no = λ told claim account fails readable no are all. not_no told fails (yes told claim account readable all are) no } where
  yes : (told : Told) (claim : Claim) (account : Account) → IsReadable told.plan → ((clause : Clause) → Holds claim account clause) → AreLinesOf told claim → ComesTo told Yes
  yes =
      comes_to_yes (record { after = c.calls_keep_the_type.ensures.after; reply = c.calls_keep_the_type.ensures.reply }) c.each_entry_is_a_call.ensures.call c.a_spelling_is_blind.ensures.lines
      c.the_clauses_are_put_together_part_by_part.ensures.lawful c.the_clauses_are_put_together_part_by_part.ensures.lines c.the_clauses_are_put_together_part_by_part.ensures.agrees
