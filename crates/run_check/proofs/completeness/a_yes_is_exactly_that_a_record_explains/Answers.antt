use Rattle.std.proofs.Common.{◌≡◌, ◌↔◌, ℕ, List, sym, subst}
use Rattle.workload.specs.Readable.{IsReadable}
use Rattle.record_clauses.specs.declared.clause.Verdict.TheVariants.{Yes}
use Rattle.record_clauses.specs.Account.{Claim}
use Rattle.record_clauses.specs.Verdicts as claims
use Rattle.record_text.specs.Told.{IsTold, Told}
use Rattle.run_check.specs.Completeness.{AreLinesOf}
use Rattle.run_check.specs.Tells.{ComesTo}
use Rattle.run_check.proofs.completeness.a_yes_is_exactly_that_a_record_explains.Goals as goal

exactly : goal.After-a_text_comes_to_one_verdict → (bytes : List ℕ) (told : Told) → IsTold bytes told → IsReadable told.plan → (ComesTo told Yes ↔ (claim : Claim) × AreLinesOf told claim × claims.ComesTo claim Yes)
exactly c bytes told is readable = (
  λ (claim, tells, comes). (
    claim,
    record {
      plan = tells.plan;
      misused = tells.misused;
      workers = tells.workers;
      written = λ worker list at. c.what_a_text_tells_is_written_as_its_lines.ensures bytes told claim worker list is tells at;
      report = tells.report;
    },
    comes,
  ),
  λ (claim, lines, (account, holds)). c.nothing_that_explains_is_lost.ensures.yes told claim account readable holds lines,
)

pub returns-clause-told : goal.returns-clause-told
returns-clause-told c bytes told is readable = exactly c bytes told is readable

pub returns-clause-bytes : goal.returns-clause-bytes
returns-clause-bytes c bytes verdict (told, is, readable, comes) = (
  λ yes. (told, is, (exactly c bytes told is readable).0 (subst (λ v. ComesTo told v) yes comes)),
  λ (other, says, (claim, lines, holds)).
      let same = c.a_text_tells_one_thing.ensures bytes other told says is in
      c.a_text_comes_to_one_verdict.ensures.one bytes told told verdict Yes is is comes
      ((exactly c bytes told is readable).1 (claim, subst (λ (t : Told). AreLinesOf t claim) same lines, holds)),
)
