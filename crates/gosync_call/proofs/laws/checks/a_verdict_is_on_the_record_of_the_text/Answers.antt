use Rattle.std.proofs.Common.{subst}
use Rattle.workload.specs.Readable.{IsReadable}
use Rattle.record_clauses.specs.declared.clause.Verdict.TheVariants as verdicts
use Rattle.record_text.specs.Told.{Told}
use Rattle.run_check.specs.Tells.{ComesTo}
use Rattle.gosync_call.proofs.Judged.{come_so, judged_so}
use Rattle.gosync_call.proofs.laws.checks.a_verdict_is_on_the_record_of_the_text.Goals as goal

pub returns-clause-yes : goal.returns-clause-yes
returns-clause-yes c bytes text old new tells judges =
    let explains = c.yes_is_that_a_record_of_the_text_explains.ensures text (judged_so bytes text verdicts.Yes c.a_text_tells_one_thing.ensures tells judges.0) in
    (explains.2.0, explains.2.1, explains.2.3, explains.2.4)

pub returns-clause-no : goal.returns-clause-no
returns-clause-no c bytes text clause old new tells judges =
    (judged_so bytes text (verdicts.No clause) c.a_text_tells_one_thing.ensures tells judges.0).1

pub returns-clause-never_in_vain : goal.returns-clause-never_in_vain
returns-clause-never_in_vain c bytes text claim account clause old new tells holds lines judges =
    let (told, is, readable, comes) = come_so bytes (verdicts.No clause) judges.0 in
    let same = c.a_text_tells_one_thing.ensures bytes told text is tells in
    c.nothing_that_explains_is_lost.ensures.no text claim account clause (subst (λ (t : Told). IsReadable t.plan) same readable) (subst (λ (t : Told). ComesTo t (verdicts.No clause)) same comes) lines holds

pub returns-clause-exactly : goal.returns-clause-exactly
returns-clause-exactly c bytes verdict old new judges = c.a_yes_is_exactly_that_a_record_explains.ensures.bytes bytes verdict (come_so bytes verdict judges.0)
