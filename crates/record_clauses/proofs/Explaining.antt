-- All clauses together are that the record explains the outcome, and that the report is that of it.
use Rattle.std.proofs.Common.{◌≡◌, ◌↔◌, ℕ, ◌+◌, List, [], map, get_or, Option, Some, None, slice_get, sym, ap, ◌∙◌, subst}
use Rattle.std.proofs.lemmas.List.{length-map}
use Rattle.script_calls.specs.Runs.{RunsAlong}
use Rattle.sync_types.specs.declared.misuse.Misuse.{Misuse}
use Rattle.sync_model.specs.declared.item.Item.{Item}
use Rattle.sync_model.specs.declared.item.SharedEntry.{SharedEntry}
use Rattle.sync_model.specs.Journal.{KeepsEdges}
use Rattle.sync_model.specs.SharedCalls.{Lawful}
use Rattle.sync_model.specs.SharedHistory.{Contents}
use Rattle.workload.specs.Plan.{Plan}
use Rattle.run_record.specs.declared.made.Made.{Made}
use Rattle.run_record.specs.Edges.{frees, takes}
use Rattle.run_record.specs.Explains.{AreLines, IsRecordOf, Agrees, Explains}
use Rattle.run_record.specs.Halts.{halts_made}
use Rattle.run_record.specs.Lines.{Line, calls_made, items_of, IsLineOf}
use Rattle.run_record.specs.Objects.{contents_of, first_part, starts_number}
use Rattle.run_record.specs.Record.{Record, object_number, journal_of, calls_of}
use Rattle.shared_checks.specs.Parts.{AllParts}
use Rattle.record_clauses.specs.declared.clause.Clause.{Clause}
use Rattle.record_clauses.specs.declared.clause.Clause.TheVariants.{Spell, Legal, Front, Range, Machine, Edge, End, Stop, Report}
use Rattle.record_clauses.specs.Account.{Claim, Account, record_of, outcome_by, outcome_of}
use Rattle.record_clauses.specs.Clauses.{TellsCalls, TellsNumbers, IsSpelt, IsLegallyPlaced, HasFronts, HasRanges, HasJournals, HasEdges, HasEnds, IsStoppedBy, HasHalts, HasReport, Holds}
use Rattle.record_clauses.specs.Lists.{without_halts, before_halts}
use Rattle.record_clauses.proofs.HaltsAside.{calm_part, same_items, line_aside, line_back, aside_at, aside_from, replies_aside, lists_aside}
use Rattle.record_clauses.proofs.Journals.{aside_of_kind, aside_of_part, aside_of_starts, back_of_kind, back_of_part, back_of_starts}
use Rattle.record_clauses.proofs.ToldLists.{entries_told}

-- what is used of the crates below: the law of calls in its parts, the edges of a record, and that halts stand behind all else
abbrev pub LawIsItsParts : Type 0
LawIsItsParts = (start : Contents) (history : List SharedEntry) (calls : ℕ → List Item) → (Lawful start history calls ↔ AllParts start history calls)

abbrev pub EdgesAreKept : Type 0
EdgesAreKept = (plan : Plan) (r : Record) (object : ℕ) → IsRecordOf plan r → KeepsEdges frees takes (journal_of r object)

abbrev pub HaltsComeLast : Type 0
HaltsComeLast = (plan : Plan) (worker : ℕ) (line : Line) → IsLineOf plan worker line → halts_made (calm_part line) ≡ []

module _ (claim : Claim) (account : Account) where
  abbrev r : Record
  r = record_of claim account

  -- ---- from the clauses

  pub lines_of : IsSpelt claim account → HasHalts claim account → AreLines claim.plan r (outcome_of claim account) account.lines
  lines_of spelt halts = record {
    count = sym (length-map account.lines before_halts) ∙ spelt.lines.count;
    runs = λ worker line at. spelt.lines.runs worker (before_halts line) (aside_at account.lines worker line at);
    lists = halts.lists;
    replies = sym (replies_aside account.lines) ∙ spelt.lines.replies;
    each = λ worker line at. line_back claim.plan worker line (spelt.lines.each worker (before_halts line) (aside_at account.lines worker line at)) (halts.halts worker line at);
  }

  pub lawful_of : LawIsItsParts → IsLegallyPlaced claim account → HasFronts claim account → HasRanges claim account → HasJournals claim account → HasEdges claim account → IsRecordOf claim.plan r
  lawful_of parts legal fronts ranges journals edges = record {
    shared = (parts (contents_of claim.plan) account.history (calls_of r)).1 (record { history_part = legal; fronts_part = fronts.calls; begins_part = ranges.begun; ranges_part = ranges.shown });
    objects = journals.objects;
    stops = journals.stops;
    journals = λ place object at. back_of_kind claim.plan place object.kind (journal_of r (object_number place)) (journals.each place object at) (edges (object_number place));
    parts = λ place part object at pool within. back_of_part _ (journal_of r (first_part claim.plan place + part)) (journals.parts place part object at pool within) (edges (first_part claim.plan place + part));
    starts = λ some. back_of_starts claim.plan.dormant (journal_of r (starts_number claim.plan)) (journals.starts some) (edges (starts_number claim.plan));
    once = λ worker object. entries_told claim.lists worker object (journal_of r object) (journals.told worker object);
    fronts = fronts.items;
  }

  pub agreed : (misused : Option Misuse) → HasEnds claim account misused → IsStoppedBy claim account misused → Agrees claim.plan r account.lines (outcome_by misused account.left)
  agreed None ends stopped = ends
  agreed (Some misuse) ends stopped = (stopped.0, ends, stopped.1)

  pub explained : LawIsItsParts → ((clause : Clause) → Holds claim account clause) → Explains claim.plan (outcome_of claim account) r
  explained parts all = record {
    lines = account.lines;
    are = lines_of (all Spell) (all Stop);
    lawful = lawful_of parts (all Legal) (all Front) (all Range) (all Machine) (all Edge);
    agrees = agreed claim.misused (all End) (all Stop).stopped;
  }

  -- ---- to the clauses

  module _ (last : HaltsComeLast) (are : AreLines claim.plan r (outcome_of claim account) account.lines) where
    items_aside : (worker : ℕ) (line : Line) → slice_get account.lines worker ≡ Some line → items_of (before_halts line) ≡ without_halts (items_of line)
    items_aside worker line at = same_items line (last claim.plan worker line (are.each worker line at)) (are.each worker line at).halts

    runs_aside : (worker : ℕ) (line : Line) → slice_get (map before_halts account.lines) worker ≡ Some line → RunsAlong (get_or claim.plan.scripts worker []) (calls_made line) line.rest
    runs_aside worker line at =
        let from = aside_from account.lines worker line at in
        subst (λ (l : Line). RunsAlong (get_or claim.plan.scripts worker []) (calls_made l) l.rest) from.2 (are.runs worker from.0 from.1)

    each_aside : (worker : ℕ) (line : Line) → slice_get (map before_halts account.lines) worker ≡ Some line → IsLineOf claim.plan worker line
    each_aside worker line at =
        let from = aside_from account.lines worker line at in
        subst (λ (l : Line). IsLineOf claim.plan worker l) from.2 (line_aside claim.plan worker from.0 (are.each worker from.0 from.1))

    pub spelt_of : TellsCalls claim account → IsSpelt claim account
    spelt_of told = record {
      lines = record {
        count = length-map account.lines before_halts ∙ are.count;
        runs = runs_aside;
        lists = lists_aside account.lines items_aside ∙ ap (λ (lists : List (List Made)). map without_halts lists) are.lists;
        replies = replies_aside account.lines ∙ are.replies;
        each = each_aside;
      };
      told = told;
    }

    pub halts_of : IsStoppedBy claim account claim.misused → HasHalts claim account
    halts_of stopped = record { lists = are.lists; halts = λ worker line at. (are.each worker line at).halts; stopped = stopped }

  module _ (parts : LawIsItsParts) (lawful : IsRecordOf claim.plan r) where
    pub parts_of : AllParts (contents_of claim.plan) account.history (calls_of r)
    parts_of = (parts (contents_of claim.plan) account.history (calls_of r)).0 lawful.shared

    pub fronts_of : HasFronts claim account
    fronts_of = record { calls = parts_of.fronts_part; items = lawful.fronts }

    pub ranges_of : HasRanges claim account
    ranges_of = record { begun = parts_of.begins_part; shown = parts_of.ranges_part }

    pub journals_of : TellsNumbers claim account → HasJournals claim account
    journals_of told = record {
      objects = lawful.objects;
      stops = lawful.stops;
      each = λ place object at. aside_of_kind claim.plan place object.kind (journal_of r (object_number place)) (lawful.journals place object at);
      parts = λ place part object at pool within. aside_of_part _ (journal_of r (first_part claim.plan place + part)) (lawful.parts place part object at pool within);
      starts = λ some. aside_of_starts claim.plan.dormant (journal_of r (starts_number claim.plan)) (lawful.starts some);
      told = told;
    }

  pub ended : (misused : Option Misuse) → Agrees claim.plan r account.lines (outcome_by misused account.left) → HasEnds claim account misused × IsStoppedBy claim account misused
  ended None agrees = (agrees, tt)
  ended (Some misuse) agrees = (agrees.1, (agrees.0, agrees.2))

  pub all_hold : LawIsItsParts → EdgesAreKept → HaltsComeLast → (explains : Explains claim.plan (outcome_of claim account) r) → explains.lines ≡ account.lines → TellsCalls claim account → TellsNumbers claim account → HasReport claim account
      → (clause : Clause) → Holds claim account clause
  all_hold parts kept last explains same calls numbers report = by_clause where
    are : AreLines claim.plan r (outcome_of claim account) account.lines
    are = subst (λ (lines : List Line). AreLines claim.plan r (outcome_of claim account) lines) same explains.are

    ends : HasEnds claim account claim.misused × IsStoppedBy claim account claim.misused
    ends = ended claim.misused (subst (λ (lines : List Line). Agrees claim.plan r lines (outcome_of claim account)) same explains.agrees)

    by_clause : (clause : Clause) → Holds claim account clause
    by_clause Spell = spelt_of last are calls
    by_clause Legal = (parts_of parts explains.lawful).history_part
    by_clause Front = fronts_of parts explains.lawful
    by_clause Range = ranges_of parts explains.lawful
    by_clause Machine = journals_of parts explains.lawful numbers
    by_clause Edge = λ object. kept claim.plan r object explains.lawful
    by_clause End = ends.0
    by_clause Stop = halts_of last are ends.1
    by_clause Report = report
