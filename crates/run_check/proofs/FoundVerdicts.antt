-- One clause after the other, over what was found.
use Rattle.std.proofs.Common.{◌≡◌, ℕ, zero, suc, ◌+◌, ◌≤◌, arith, Bool, true, false, replicate, List, None, sym, ◌∙◌, subst}
use Rattle.std.proofs.lemmas.Bool.{false≢true}
use Rattle.std.specs.FinMap.{empty, get, get-empty}
use Rattle.std.specs.Ordering.{nat_cmp}
use Rattle.std.specs.Prelude.{IsTrue, ◌↔◌, count_by, slice_index_or}
use Rattle.sync_model.specs.SharedHistory.{value_at}
use Rattle.workload.specs.declared.object.ObjectLine.{ObjectLine}
use Rattle.workload.specs.Plan.{Plan}
use Rattle.workload.specs.Readable.{IsReadable}
use Rattle.run_record.specs.Objects.{contents_of, is_map}
use Rattle.record_text.specs.Told.{IsTold, Told}
use Rattle.record_clauses.specs.declared.clause.Clause.{Clause}
use Rattle.record_clauses.specs.declared.clause.Clause.TheVariants.{Spell, Legal, Stop}
use Rattle.record_clauses.specs.declared.clause.Verdict.TheVariants.{No}
use Rattle.record_clauses.specs.Account.{Claim}
use Rattle.record_clauses.specs.Verdicts as claims
use Rattle.run_check.specs.declared.spelling.Spelling.{Spelling}
use Rattle.run_check.specs.declared.verdict.Findings.{Findings}
use Rattle.run_check.specs.Findings.{HoldsTo, IsFound}
use Rattle.run_check.specs.Found.{IsFoundOf, IsStoppedOf}
use Rattle.run_check.specs.Lists.{AreSpeltTo}
use Rattle.run_check.specs.Placed.{IsPlaced}
use Rattle.run_check.specs.Tells.{ComesTo, UpTo}
use Rattle.run_check.proofs.FirstClause.{same_place}
use Rattle.run_check.proofs.PlacedVerdicts.{comes_to_no}

-- ---- no key is in a map at the start

none_in : (n m key : ℕ) → get (slice_index_or (replicate n (empty {K = ℕ} {X = ℕ} {R = nat_cmp})) m empty) key ≡ None
none_in zero m key = get-empty nat_cmp key
none_in (suc n) zero key = get-empty nat_cmp key
none_in (suc n) (suc m) key = none_in n m key

pub none_at_start : (plan : Plan) (m key : ℕ) → value_at (contents_of plan) m key ≡ None
none_at_start plan m key = none_in (count_by (λ (object : ObjectLine). is_map object.kind) plan.objects) m key

-- ---- the first two clauses

-- none stands before the first clause
pub at_first : (told : Told) → (UpTo told Spell → ⊥) → ComesTo told (No Spell)
at_first told fails = (λ earlier is. absurd (omega (arith, is)), fails)

pub at_second : (told : Told) → UpTo told Spell → (UpTo told Legal → ⊥) → ComesTo told (No Legal)
at_second told up fails = (λ earlier is. subst (λ (c : Clause). UpTo told c) (same_place Spell earlier (omega (arith, is))) up, fails)

-- what was found of a claim that has the marked calls
pub found_so : (told : Told) (bytes : List ℕ) → IsTold bytes told → (found : Spelling) → AreSpeltTo told.plan told.items told.plan.workers found
    → (findings : Findings) → found.lines ≡ findings.lines → found.all ≡ findings.all → found.entries ≡ findings.entries
    → (claim : Claim) × IsPlaced told findings.marked.items findings.history.items claim → HoldsTo told findings Legal
found_so told bytes text found spelt findings lines all entries (claim, placed) = (
  claim,
  record { bytes = bytes; text = text; found = found; spelt = spelt; lines = lines; all = all; entries = entries; placed = placed },
  placed.holds,
)

-- ---- the later ones

-- what an answer says of a clause
pub fails : {A : Type 0} (holds : Bool) → holds ≡ false → (IsTrue holds ↔ A) → A → ⊥
fails holds is decides some = false≢true (sym is ∙ decides.1 some)

pub holds_so : {A : Type 0} (holds : Bool) → holds ≡ true → (IsTrue holds ↔ A) → A
holds_so holds is decides = decides.0 is

-- where a clause fails behind another one, it is the first
pub stops_at : (told : Told) (findings : Findings) (claim : Claim) → IsFound told findings claim → (before clause : Clause) → 1 ≤ claims.place_of before → claims.place_of before + 1 ≡ claims.place_of clause
    → claims.UpTo claim before → (claims.UpTo claim clause → ⊥) → ComesTo told (No clause)
stops_at told findings claim found = comes_to_no told findings.marked.items findings.history.items claim found.placed

-- the claim is one that the text tells, whose lists spell what was found
pub found_of : (told : Told) (findings : Findings) (claim : Claim) → (is : IsFound told findings claim) → IsReadable told.plan → IsFoundOf told is.found claim
found_of told findings claim is readable = record { readable = readable; spelt = is.spelt; tells = is.placed.tells }

-- and of which the clauses up to `stop` hold
pub stopped_of : (told : Told) (findings : Findings) (claim : Claim) → (is : IsFound told findings claim) → IsReadable told.plan → claims.UpTo claim Stop
    → IsStoppedOf told is.found findings.marked.items findings.history.items claim
stopped_of told findings claim is readable up = record { is = found_of told findings claim is readable; calls = is.placed.calls; legal = is.placed.legal; stopped = up }
