-- The stage `end`: where the clauses up to `edge` hold, those up to `end` do exactly where the lists end as they have to.
use Rattle.std.proofs.Common.{◌≡◌, ◌↔◌, ℕ, List, [], map, length, Option, Some, None, slice_get, refl, sym, ◌∙◌, subst, arith}
use Rattle.std.specs.Prelude.{All}
use Rattle.script_calls.specs.declared.outcome.Report.{Report}
use Rattle.sync_types.specs.declared.end.End.{End}
use Rattle.sync_types.specs.declared.misuse.Misuse.{Misuse}
use Rattle.workload.specs.Plan.{Plan}
use Rattle.run_record.specs.Explains.{HasEnded, IsAtEnd}
use Rattle.run_record.specs.Lines.{Line}
use Rattle.list_checks.specs.declared.spell.line.SpeltLine.{SpeltLine}
use Rattle.list_checks.specs.SpellLines.{line_end}
use Rattle.record_text.specs.Told.{Told}
use Rattle.record_clauses.specs.Account.{Account, Claim}
use Rattle.record_clauses.specs.Clauses.{HasEnds, IsSpelt}
use Rattle.record_clauses.specs.declared.clause.Clause.TheVariants as clauses
use Rattle.record_clauses.specs.Verdicts as claims
use Rattle.run_check.specs.declared.spelling.Spelling.{Spelling}
use Rattle.run_check.specs.Found.{IsFoundOf, ends_after}
use Rattle.run_check.proofs.Endings.{AreFound, all_ended, all_of_found, found_of_all}
use Rattle.run_check.proofs.FoundLines.{ends_found}
use Rattle.run_check.proofs.Parts.{up_to_end, with_lines}
use Rattle.run_check.proofs.ReportRest.{scripts_are}
use Rattle.run_check.proofs.SpellHolds.{halts_of_none}
use Rattle.run_check.proofs.SpellNothing.{IsBlind}
use Rattle.run_check.proofs.SpeltClaims.{OwnLine, are_spelt, endings_are, own_lines}

-- how the lists have to end in a run that ended so
abbrev pub EndSo : List SpeltLine → Option Misuse → Type 0
EndSo found None = All (λ (line : SpeltLine). IsAtEnd (line_end line.ending)) found
EndSo found (Some misuse) = Unit {0}

module _ (blind : IsBlind) (told : Told) (found : Spelling) (claim : Claim) (is : IsFoundOf told found claim) where
  pub scripts : length claim.plan.scripts ≡ claim.plan.workers
  scripts = subst (λ (p : Plan). length p.scripts ≡ p.workers) (sym is.tells.plan) (scripts_are told.plan is.readable.valid)

  -- what a run left behind whose lists spell this
  abbrev pub left_with : List End → Report
  left_with ends = record { replies = map (λ (line : SpeltLine). line.replies) found.lines; ends = ends }

  -- the lines that were found, as those of an account
  pub record OwnLines (account : Account) (ends : List End) (lines : List Line) : Type 0 where
    pub spelt : IsSpelt claim (with_lines account lines (left_with ends))
    pub are_found : AreFound found.lines (with_lines account lines (left_with ends))

  pub own : (account : Account) (ends : List End) → (lines : List Line) × OwnLines account ends lines
  own account ends = by (own_lines blind told found is.spelt claim is.tells) where
    by : (lines : List Line) × (length lines ≡ told.plan.workers) × ((worker : ℕ) (line : Line) → slice_get lines worker ≡ Some line → OwnLine blind told found is.spelt claim is.tells worker line) → (lines : List Line) × OwnLines account ends lines
    by (lines, count, each) = (
      lines,
      record {
        spelt = are_spelt blind told found is.spelt claim is.tells lines count each scripts (halts_of_none told claim is.tells) account.history account.journals ends;
        are_found = endings_are blind told found is.spelt claim is.tells lines count each;
      },
    )

  -- lines that have ended are found
  pub ended_found : (account : Account) → IsSpelt claim account → All (λ (line : Line). HasEnded line.ending) account.lines → AreFound found.lines account
  ended_found account spelt ended = ends_found blind told found is.spelt claim is.tells account spelt scripts ended

  -- the ends of an account of which `end` holds
  pub ends_so : (account : Account) → IsSpelt claim account → (by : Option Misuse) → HasEnds claim account by → EndSo found.lines by
  ends_so account spelt None ends = found_of_all IsAtEnd account.lines found.lines (ended_found account spelt (all_ended account.lines ends.0)) ends.0
  ends_so account spelt (Some misuse) ends = tt

  pub has_ends : (account : Account) (lines : List Line) → AreFound found.lines (with_lines account lines (left_with [])) → (by : Option Misuse) → EndSo found.lines by → HasEnds claim (with_lines account lines (left_with (ends_after claim.plan account.history by))) by
  has_ends account lines are None end = (all_of_found IsAtEnd lines found.lines are end, refl)
  has_ends account lines are (Some misuse) end = refl

  pub end_stage : (by : Option Misuse) → told.misused ≡ by → claims.UpTo claim clauses.Edge → (EndSo found.lines by ↔ claims.UpTo claim clauses.End)
  end_stage by by_is (account, before) = (forth, back) where
    ended_by : claim.misused ≡ by
    ended_by = is.tells.misused ∙ by_is

    forth : EndSo found.lines by → claims.UpTo claim clauses.End
    forth end =
        let ends = ends_after claim.plan account.history by in
        let (lines, of) = own account ends in
        let has : HasEnds claim (with_lines account lines (left_with ends)) claim.misused = subst (λ (m : Option Misuse). HasEnds claim (with_lines account lines (left_with ends)) m) (sym ended_by) (has_ends account lines of.are_found by end) in
        (with_lines account lines (left_with ends), up_to_end claim account lines (left_with ends) before of.spelt has)

    back : claims.UpTo claim clauses.End → EndSo found.lines by
    back (other, holds) = ends_so other (holds clauses.Spell (omega arith)) by (subst (λ (m : Option Misuse). HasEnds claim other m) ended_by (holds clauses.End (omega arith)))
