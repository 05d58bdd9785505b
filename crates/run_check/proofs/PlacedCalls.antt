-- What is told is on objects that are there; and what `range` asks is asked of the marked calls and their history.
use Rattle.std.proofs.Common.{◌≡◌, ℕ, ◌≤◌, List, map, sym, ap, subst, arith}
use Rattle.std.proofs.Math.Path.{fun_ext}
use Rattle.sync_model.specs.declared.item.Item.{Item}
use Rattle.sync_model.specs.declared.item.SharedCall.{SharedCall}
use Rattle.sync_model.specs.declared.item.SharedEntry.{SharedEntry}
use Rattle.sync_model.specs.SharedHistory.{Contents}
use Rattle.workload.specs.Plan.{Plan}
use Rattle.workload.specs.Readable.{IsReadable}
use Rattle.run_record.specs.Objects.{contents_of}
use Rattle.run_record.specs.Record.{calls_of}
use Rattle.shared_checks.specs.Calls.{calls_in}
use Rattle.shared_checks.specs.Fronts.{LawfulFronts}
use Rattle.shared_checks.specs.Parts.{LawfulBegins, LawfulHistory, LawfulRanges}
use Rattle.shared_checks.specs.Placing.{AreOn, IsOn}
use Rattle.shared_checks.specs.Marks.{AreMarked, HaveNoHistory, unmarked}
use Rattle.record_text.specs.Told.{Told}
use Rattle.record_clauses.specs.declared.clause.Clause.{Clause}
use Rattle.record_clauses.specs.declared.clause.Clause.TheVariants.{Spell, Legal, Front, Range}
use Rattle.record_clauses.specs.Account.{Account, Claim, record_of}
use Rattle.record_clauses.specs.Clauses.{HasFronts, HasRanges, Holds, IsLegallyPlaced, IsSpelt}
use Rattle.record_clauses.specs.Verdicts as claims
use Rattle.run_check.specs.declared.spelling.Spelling.{Spelling}
use Rattle.run_check.specs.Lists.{AreSpeltTo}
use Rattle.run_check.specs.Placed.{IsPlaced}
use Rattle.run_check.proofs.PlacedClaims.{same_law}
use Rattle.run_check.proofs.SpellHolds.{some_spells}
use Rattle.run_check.proofs.SpellNothing.{IsBlind}
use Rattle.run_check.proofs.SpeltOn.{all_on}
use Rattle.run_check.proofs.ToldLists.{paired}
use Rattle.run_check.proofs.ToldShared.{same_calls}

-- ---- on objects that are there

-- calls that differ in their marks alone are on the same objects
same_on : (contents : Contents) (one other : ℕ → List Item) → ((c : ℕ) → map unmarked (one c) ≡ map unmarked (other c)) → AreOn contents one → AreOn contents other
same_on contents one other same on c j x at =
    let (y, there, alike) = paired unmarked unmarked (one c) (other c) (same c) j x at in
    subst (λ (call : SharedCall). IsOn contents call) (ap (λ (z : Item). z.call) alike) (on c j y there)

module _ (told : Told) (found : Spelling) (are : AreSpeltTo told.plan told.items told.plan.workers found) (blind : IsBlind) (readable : IsReadable told.plan) where
  pub told_on : AreOn (contents_of told.plan) (calls_in found.shared.items)
  told_on =
      let (claim, tells, (account, holds)) = some_spells told found are blind readable in
      let spelt : IsSpelt claim account = holds Spell (omega arith) in
      let on : AreOn (contents_of claim.plan) (calls_of (record_of claim account)) = all_on claim account (subst IsReadable (sym tells.plan) readable) spelt in
      same_on (contents_of told.plan) (calls_of (record_of claim account)) (calls_in found.shared.items) (same_calls told found are claim tells account)
      (subst (λ (p : Plan). AreOn (contents_of p) (calls_of (record_of claim account))) tells.plan on)

pub marked_on : (contents : Contents) (lists marked : List (List Item)) → AreMarked contents lists marked → AreOn contents (calls_in lists) → AreOn contents (calls_in marked)
marked_on contents lists marked is on = same_on contents (calls_in lists) (calls_in marked) (λ c. sym (is.same c)) on

pub placed_on : (told : Told) (marked : List (List Item)) (history : List SharedEntry) (claim : Claim) → IsReadable told.plan → IsPlaced told marked history claim → AreOn (contents_of told.plan) (calls_in marked)
placed_on told marked history claim readable placed = by placed.holds where
  by : claims.UpTo claim Legal → AreOn (contents_of told.plan) (calls_in marked)
  by (account, holds) =
      let spelt : IsSpelt claim account = holds Spell (omega arith) in
      let on : AreOn (contents_of claim.plan) (calls_of (record_of claim account)) = all_on claim account (subst IsReadable (sym placed.tells.plan) readable) spelt in
      subst (λ (cs : ℕ → List Item). AreOn (contents_of told.plan) cs) (fun_ext (placed.calls account)) (subst (λ (p : Plan). AreOn (contents_of p) (calls_of (record_of claim account))) placed.tells.plan on)

-- marked calls without a lawful history have none with any marks
pub none_at_all : (start : Contents) (lists marked : List (List Item)) → AreMarked start lists marked → ((history : List SharedEntry) → LawfulHistory start history (calls_in marked) → ⊥) → HaveNoHistory start lists
none_at_all start lists marked is none calls history same law = none history (same_law start history calls (calls_in marked) (is.only calls history same law) law)

-- ---- the clause `range`

abbrev pub HaveOneHistory : Type 0
HaveOneHistory = (start other : Contents) (first second : List SharedEntry) (calls : ℕ → List Item) → LawfulHistory start first calls → LawfulHistory other second calls → first ≡ second

module _ (once : HaveOneHistory) (told : Told) (marked : List (List Item)) (history : List SharedEntry) (claim : Claim) (placed : IsPlaced told marked history claim) where
  -- the calls by an account
  abbrev Calls : Account → ℕ → List Item
  Calls account = calls_of (record_of claim account)

  same_all : (account : Account) → Calls account ≡ calls_in marked
  same_all account = fun_ext (placed.calls account)

  pub same_history : (account : Account) → IsLegallyPlaced claim account → account.history ≡ history
  same_history account law =
      once (contents_of claim.plan) (contents_of told.plan) account.history history (calls_in marked)
      (same_law (contents_of claim.plan) account.history (Calls account) (calls_in marked) (placed.calls account) law) placed.legal

  pub marked_fronts : claims.UpTo claim Front → LawfulFronts (calls_in marked)
  marked_fronts (account, holds) = let fronts : HasFronts claim account = holds Front (omega arith) in subst LawfulFronts (same_all account) fronts.calls

  pub ranges_hold : LawfulBegins (calls_in marked) → LawfulRanges (contents_of told.plan) history (calls_in marked) → claims.UpTo claim Front → claims.UpTo claim Range
  ranges_hold begins ranges (account, holds) = (account, λ earlier before. by earlier before) where
    same : account.history ≡ history
    same = same_history account (holds Legal (omega arith))

    shown : LawfulRanges (contents_of claim.plan) account.history (Calls account)
    shown =
        subst (λ (p : Plan). LawfulRanges (contents_of p) account.history (Calls account)) (sym placed.tells.plan)
        (subst (λ (h : List SharedEntry). LawfulRanges (contents_of told.plan) h (Calls account)) (sym same) (subst (λ (cs : ℕ → List Item). LawfulRanges (contents_of told.plan) history cs) (sym (same_all account)) ranges))

    by : (clause : Clause) → claims.place_of clause ≤ 3 → Holds claim account clause
    by Spell before = holds Spell (omega arith)
    by Legal before = holds Legal (omega arith)
    by Front before = holds Front (omega arith)
    by Range before = record { begun = subst LawfulBegins (sym (same_all account)) begins; shown = shown }
    by clause before = absurd (omega (arith, before))

  pub ranges_are : claims.UpTo claim Range → LawfulBegins (calls_in marked) × LawfulRanges (contents_of told.plan) history (calls_in marked)
  ranges_are (account, holds) =
      let ranges : HasRanges claim account = holds Range (omega arith) in
      let same : account.history ≡ history = same_history account (holds Legal (omega arith)) in (
        subst LawfulBegins (same_all account) ranges.begun,
        subst (λ (cs : ℕ → List Item). LawfulRanges (contents_of told.plan) history cs) (same_all account)
            (subst (λ (h : List SharedEntry). LawfulRanges (contents_of told.plan) h (Calls account)) same
            (subst (λ (p : Plan). LawfulRanges (contents_of p) account.history (Calls account)) placed.tells.plan ranges.shown)),
      )
