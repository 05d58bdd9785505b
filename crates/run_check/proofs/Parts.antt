-- Which clause reads which part of an account. So an account with another part keeps each clause that doesn't read it.
use Rattle.std.proofs.Common.{◌≡◌, ℕ, ◌≤◌, ◌+◌, List, [], map, length, get_or, Option, Some, None, slice_get, refl, sym, ap, ◌∙◌, subst, arith}
use Rattle.std.specs.Option.{option_map}
use Rattle.std.proofs.lemmas.Option.{slice_get-map}
use Rattle.script_calls.specs.declared.outcome.Report.{Report}
use Rattle.script_calls.specs.Outcome.{left_by}
use Rattle.sync_types.specs.declared.misuse.Misuse.{Misuse}
use Rattle.sync_model.specs.declared.item.SharedEntry.{SharedEntry}
use Rattle.sync_model.specs.Journal.{KeepsEdges}
use Rattle.sync_model.specs.SharedHistory.{contents_after}
use Rattle.workload.specs.Puts.{puts_at}
use Rattle.run_record.specs.Calls.{IsJournalOf}
use Rattle.run_record.specs.Edges.{frees, takes}
use Rattle.run_record.specs.Explains.{IsAtEnd}
use Rattle.run_record.specs.Journals.{IsStops}
use Rattle.run_record.specs.Lines.{Line, items_of, replies_of}
use Rattle.run_record.specs.Objects.{contents_of, ends_in, first_part, object_count, starts_number}
use Rattle.run_record.specs.PoolKind.{IsPartJournal}
use Rattle.run_record.specs.Record.{ObjectEntry, calls_of, object_number, stop}
use Rattle.run_record.specs.StartsKind.{IsStartsJournal}
use Rattle.run_cuts.specs.CallsAlong.{calls_along}
use Rattle.shared_checks.specs.Parts.{LawfulHistory, LawfulRanges}
use Rattle.record_clauses.specs.Account.{Account, Claim, ToldItem, outcome_by, record_of}
use Rattle.record_clauses.specs.Clauses.{HasEdges, HasEnds, HasFronts, HasJournals, HasRanges, Holds, IsLegallyPlaced, IsSpelt}
use Rattle.record_clauses.specs.Journals.{numbered_by, without_fronts}
use Rattle.record_clauses.specs.Lists.{before_halts, calls_told}
use Rattle.record_clauses.specs.declared.clause.Clause.{Clause}
use Rattle.record_clauses.specs.declared.clause.Clause.TheVariants as clauses
use Rattle.record_clauses.specs.Verdicts.{place_of}
use Rattle.run_check.proofs.Endings.{all_again, endings}
use Rattle.run_check.proofs.ToldLists.{mapped}

-- what a run left behind, however it ended
pub left_behind : (misused : Option Misuse) (left : Report) → (left_by (outcome_by misused left)).replies ≡ left.replies
left_behind None left = refl
left_behind (Some misuse) left = refl

module _ (claim : Claim) (one other : Account) where
  -- `spell` reads the lines, but for their halts, and the replies
  pub keeps_spell : map before_halts one.lines ≡ map before_halts other.lines → one.left.replies ≡ other.left.replies → IsSpelt claim one → IsSpelt claim other
  keeps_spell lines replies spelt = record {
    lines = record {
      count = ap (λ (ls : List Line). length ls) (sym lines) ∙ spelt.lines.count;
      runs = λ worker line at. spelt.lines.runs worker line (ap (λ (ls : List Line). slice_get ls worker) lines ∙ at);
      lists = ap (λ (ls : List Line). map items_of ls) (sym lines) ∙ spelt.lines.lists;
      replies = ap (λ (ls : List Line). map replies_of ls) (sym lines) ∙ spelt.lines.replies ∙ left_behind claim.misused one.left ∙ replies ∙ sym (left_behind claim.misused other.left);
      each = λ worker line at. spelt.lines.each worker line (ap (λ (ls : List Line). slice_get ls worker) lines ∙ at);
    };
    told = record { calls = calls; halts = spelt.told.halts };
  } where
    calls : (worker : ℕ) (list : List ToldItem) (line : Line) → slice_get claim.lists worker ≡ Some list → slice_get other.lines worker ≡ Some line → calls_told list ≡ calls_along line
    calls worker list line there at =
        let theirs : option_map before_halts (slice_get other.lines worker) ≡ Some (before_halts line) = ap (option_map before_halts) at in
        let both : slice_get (map before_halts one.lines) worker ≡ Some (before_halts line) = ap (λ (ls : List Line). slice_get ls worker) lines ∙ slice_get-map before_halts other.lines worker ∙ theirs in
        let (mine, at_mine, same) = mapped before_halts (slice_get one.lines worker) (before_halts line) (sym (slice_get-map before_halts one.lines worker) ∙ both) in
        spelt.told.calls worker list mine there at_mine ∙ ap calls_along same

  -- `legal` reads the history
  pub keeps_legal : one.history ≡ other.history → IsLegallyPlaced claim one → IsLegallyPlaced claim other
  keeps_legal same legal = subst (λ (history : List SharedEntry). LawfulHistory (contents_of claim.plan) history (calls_of (record_of claim other))) same legal

  -- `front` reads what is told alone
  pub keeps_fronts : HasFronts claim one → HasFronts claim other
  keeps_fronts fronts = record {
    calls = fronts.calls;
    items = record { rises = fronts.items.rises; own = fronts.items.own; made = fronts.items.made };
  }

  -- `range` reads the history
  pub keeps_ranges : one.history ≡ other.history → HasRanges claim one → HasRanges claim other
  keeps_ranges same ranges = record {
    begun = ranges.begun;
    shown = subst (λ (history : List SharedEntry). LawfulRanges (contents_of claim.plan) history (calls_of (record_of claim other))) same ranges.shown;
  }

  -- `machine` and `edge` read the journals
  pub keeps_journals : one.journals ≡ other.journals → HasJournals claim one → HasJournals claim other
  keeps_journals same has = record {
    objects = subst (λ (js : List (List ObjectEntry)). length js ≡ object_count claim.plan) same has.objects;
    stops = subst (λ (js : List (List ObjectEntry)). IsStops (get_or js stop [])) same has.stops;
    each = λ place object at. subst (λ (js : List (List ObjectEntry)). IsJournalOf claim.plan place object.kind (without_fronts (get_or js (object_number place) []))) same (has.each place object at);
    parts = λ place part object at pool below.
        subst (λ (js : List (List ObjectEntry)). IsPartJournal (puts_at place claim.plan.scripts) (without_fronts (get_or js (first_part claim.plan place + part) []))) same (has.parts place part object at pool below);
    starts = λ some. subst (λ (js : List (List ObjectEntry)). IsStartsJournal claim.plan.dormant (without_fronts (get_or js (starts_number claim.plan) []))) same (has.starts some);
    told = λ worker object. has.told worker object ∙ ap (λ (js : List (List ObjectEntry)). numbered_by worker (get_or js object [])) same;
  }

  pub keeps_edges : one.journals ≡ other.journals → HasEdges claim one → HasEdges claim other
  keeps_edges same edges object = subst (λ (js : List (List ObjectEntry)). KeepsEdges frees takes (get_or js object [])) same (edges object)

  -- `end` reads how the lines end, the history, and the ends
  pub keeps_ends : (misused : Option Misuse) → endings one.lines ≡ endings other.lines → one.history ≡ other.history → one.left.ends ≡ other.left.ends → HasEnds claim one misused → HasEnds claim other misused
  keeps_ends None lines same ends has = (
    all_again IsAtEnd one.lines other.lines lines has.0,
    sym ends ∙ has.1 ∙ ap (λ (history : List SharedEntry). ends_in claim.plan (contents_after (contents_of claim.plan) history)) same,
  )
  keeps_ends (Some misuse) lines same ends has = sym ends ∙ has

-- the account with other lines, which left this behind
abbrev pub with_lines : Account → List Line → Report → Account
with_lines account lines left = record { history = account.history; journals = account.journals; lines = lines; left = left }

module _ (claim : Claim) (account : Account) (lines : List Line) (left : Report) where
  -- it keeps the clauses from `legal` to `edge`, so `spell` and `end` are left
  pub up_to_end : ((clause : Clause) → place_of clause ≤ place_of clauses.Edge → Holds claim account clause) → IsSpelt claim (with_lines account lines left) → HasEnds claim (with_lines account lines left) claim.misused
      → (clause : Clause) → place_of clause ≤ place_of clauses.End → Holds claim (with_lines account lines left) clause
  up_to_end before spelt ends clauses.Spell below = spelt
  up_to_end before spelt ends clauses.Legal below = keeps_legal claim account (with_lines account lines left) refl (before clauses.Legal (omega arith))
  up_to_end before spelt ends clauses.Front below = keeps_fronts claim account (with_lines account lines left) (before clauses.Front (omega arith))
  up_to_end before spelt ends clauses.Range below = keeps_ranges claim account (with_lines account lines left) refl (before clauses.Range (omega arith))
  up_to_end before spelt ends clauses.Machine below = keeps_journals claim account (with_lines account lines left) refl (before clauses.Machine (omega arith))
  up_to_end before spelt ends clauses.Edge below = keeps_edges claim account (with_lines account lines left) refl (before clauses.Edge (omega arith))
  up_to_end before spelt ends clauses.End below = ends
  up_to_end before spelt ends clauses.Stop below = absurd (omega (arith, below))
  up_to_end before spelt ends clauses.Report below = absurd (omega (arith, below))

-- the account with other journals
abbrev pub with_journals : Account → List (List ObjectEntry) → Account
with_journals account journals = record { history = account.history; journals = journals; lines = account.lines; left = account.left }

module _ (claim : Claim) (account : Account) (journals : List (List ObjectEntry)) where
  -- it keeps the clauses before `machine`
  pub up_to_machine : ((clause : Clause) → place_of clause ≤ place_of clauses.Range → Holds claim account clause) → HasJournals claim (with_journals account journals)
      → (clause : Clause) → place_of clause ≤ place_of clauses.Machine → Holds claim (with_journals account journals) clause
  up_to_machine before has clauses.Spell below = keeps_spell claim account (with_journals account journals) refl refl (before clauses.Spell (omega arith))
  up_to_machine before has clauses.Legal below = keeps_legal claim account (with_journals account journals) refl (before clauses.Legal (omega arith))
  up_to_machine before has clauses.Front below = keeps_fronts claim account (with_journals account journals) (before clauses.Front (omega arith))
  up_to_machine before has clauses.Range below = keeps_ranges claim account (with_journals account journals) refl (before clauses.Range (omega arith))
  up_to_machine before has clauses.Machine below = has
  up_to_machine before has clause below = absurd (omega (arith, below))
