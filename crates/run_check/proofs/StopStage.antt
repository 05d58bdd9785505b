-- The stage `stop`: where the clauses up to `end` hold, those up to `stop` do exactly where halts stand as they may, and the run ended by the first of Stop.
use Rattle.std.proofs.Common.{◌≡◌, ◌↔◌, ◌≤◌, List, map, Option, Some, None, refl, sym, ap, ◌∙◌, subst, arith}
use Rattle.std.specs.Prelude.{All}
use Rattle.sync_types.specs.declared.misuse.Misuse.{Misuse}
use Rattle.sync_model.specs.Journal.{halt_of}
use Rattle.run_record.specs.Explains.{HasEnded}
use Rattle.run_record.specs.Lines.{Line}
use Rattle.run_record.specs.Record.{ObjectEntry, journal_of, stop}
use Rattle.record_text.specs.Told.{Told}
use Rattle.record_clauses.specs.Account.{Account, Claim, made_in, record_of}
use Rattle.record_clauses.specs.Clauses.{HasEnds, HasJournals, Holds, IsSpelt, IsStoppedBy}
use Rattle.record_clauses.specs.declared.clause.Clause.{Clause}
use Rattle.record_clauses.specs.declared.clause.Clause.TheVariants as clauses
use Rattle.record_clauses.specs.Verdicts as claims
use Rattle.run_check.specs.declared.spelling.Spelling.{Spelling}
use Rattle.run_check.specs.Found.{AllHaltsBehind, IsFoundOf, IsStoppedSo, ends_after}
use Rattle.run_check.proofs.Endings.{all_ended, endings}
use Rattle.run_check.proofs.EndStage.{ended_found, ends_so, has_ends, left_with, own}
use Rattle.run_check.proofs.HaltsAlike.{behind_found, behind_told}
use Rattle.run_check.proofs.HaltsLast.{StopHolds, ends_before, held, holds as halts_hold}
use Rattle.run_check.proofs.Parts.{keeps_ends, keeps_spell, up_to_end, with_lines}
use Rattle.run_check.proofs.SpellNothing.{IsBlind}

-- where `end` and `stop` hold, all workers have ended
pub both_ended : (claim : Claim) (account : Account) (by : Option Misuse) → HasEnds claim account by → IsStoppedBy claim account by → All (λ (line : Line). HasEnded line.ending) account.lines
both_ended claim account None ends stopped = all_ended account.lines ends.0
both_ended claim account (Some misuse) ends stopped = stopped.0

module _ (blind : IsBlind) (told : Told) (found : Spelling) (claim : Claim) (is : IsFoundOf told found claim) (stops : List ObjectEntry)
    (journal : (account : Account) → HasJournals claim account → journal_of (record_of claim account) stop ≡ stops) where
  -- all halts stand where they may, and the run ended so
  abbrev pub StopSo : Option Misuse → Type 0
  StopSo by = AllHaltsBehind found.all found.lines × IsStoppedSo found.lines (halt_of stops) by

  -- an account of which the clauses up to `end` hold, with halts behind its lines
  stops_there : (account : Account) → ((clause : Clause) → claims.place_of clause ≤ claims.place_of clauses.End → Holds claim account clause) → StopSo claim.misused → claims.UpTo claim clauses.Stop
  stops_there account before (behind, stopped) =
      let ends = ends_after claim.plan account.history claim.misused in
      let (lines, of) = own blind told found claim is account ends in
      let left = left_with blind told found claim is ends in
      let mine = with_lines account lines left in
      let end_so = ends_so blind told found claim is account (before clauses.Spell (omega arith)) claim.misused (before clauses.End (omega arith)) in
      let has : HasEnds claim mine claim.misused = has_ends blind told found claim is account lines of.are_found claim.misused end_so in
      let there = halts_hold claim mine (map made_in claim.lists) found.lines stops refl of.are_found of.spelt.lines.lists (journal account (before clauses.Machine (omega arith))) (behind_told told found is.spelt claim is.tells behind) stopped in
      by lines left of.spelt has there
    where
      by : (lines : List Line) (left : _) → IsSpelt claim (with_lines account lines left) → HasEnds claim (with_lines account lines left) claim.misused → StopHolds claim (with_lines account lines left) → claims.UpTo claim clauses.Stop
      by lines left spelt has (more, same, halts) = (with_lines account more left, all) where
        ends_same : endings lines ≡ endings more
        ends_same = sym (ends_before lines) ∙ ap endings (sym same) ∙ ends_before more

        up_to : (clause : Clause) → claims.place_of clause ≤ claims.place_of clauses.End → Holds claim (with_lines account more left) clause
        up_to = up_to_end claim account more left (λ clause below. before clause (omega (arith, below)))
            (keeps_spell claim (with_lines account lines left) (with_lines account more left) (sym same) refl spelt)
            (keeps_ends claim (with_lines account lines left) (with_lines account more left) claim.misused ends_same refl refl has)

        all : (clause : Clause) → claims.place_of clause ≤ claims.place_of clauses.Stop → Holds claim (with_lines account more left) clause
        all clauses.Stop below = halts
        all clauses.Report below = absurd (omega (arith, below))
        all clause below = up_to clause (omega arith)

  -- an account of which they hold up to `stop`
  stopped_there : (account : Account) → ((clause : Clause) → claims.place_of clause ≤ claims.place_of clauses.Stop → Holds claim account clause) → StopSo claim.misused
  stopped_there account holds =
      let spelt = holds clauses.Spell (omega arith) in
      let halts = holds clauses.Stop (omega arith) in
      let ended = both_ended claim account claim.misused (holds clauses.End (omega arith)) halts.stopped in
      let are = ended_found blind told found claim is account spelt ended in
      let (behind, stopped) = held claim account (map made_in claim.lists) found.lines stops refl are spelt.lines.lists (journal account (holds clauses.Machine (omega arith))) (account.lines, refl, halts) in
      (behind_found told found is.spelt claim is.tells behind, stopped)

  pub stop_stage : (by : Option Misuse) → told.misused ≡ by → claims.UpTo claim clauses.End → (StopSo by ↔ claims.UpTo claim clauses.Stop)
  stop_stage by by_is (account, before) = (
    λ so. stops_there account before (subst StopSo (sym ended_by) so),
    λ up. stopped_by up,
  ) where
    ended_by : claim.misused ≡ by
    ended_by = is.tells.misused ∙ by_is

    stopped_by : claims.UpTo claim clauses.Stop → StopSo by
    stopped_by (other, holds) = subst StopSo ended_by (stopped_there other holds)
