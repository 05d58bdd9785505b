use Rattle.std.proofs.Common.{◌≡◌, ◌∙◌, List, [], length, get_or, refl, sym, subst}
use Rattle.std.proofs.lemmas.Bool.{false≢true}
use Rattle.std.proofs.lemmas.Option.{slice_get_read, get_or_from_slice_get}
use Rattle.sync_model.specs.Journal.{KeepsEdges}
use Rattle.run_record.specs.Edges.{frees, takes}
use Rattle.object_checks.specs.declared.journals.row.Row.{Row}
use Rattle.object_checks.specs.JournalItems.{entries_in_row, HaveFronts}
use Rattle.object_checks.proofs.EdgeLemmas.{edges_more, edges_all, edge_at}
use Rattle.object_checks.proofs.journals.edge.keep_all_edges.Goals as goal
use Rattle.object_checks.proofs.journals.edge.keep_all_edges.Goals.{After-as_slice}

same : (c : After-as_slice) → c.as_slice.result.now ≡ get_or c.args.journals.now c.loop-journal.journal-index []
same c = c.as_slice.ensures ∙ sym (get_or_from_slice_get c.args.journals.now c.loop-journal.journal-index c.journal-item.result []
    (slice_get_read c.args.journals.now (length c.args.journals.now) c.loop-journal.journal-index c.journal-item.result refl c.loop-journal-test.true c.journal-item.is))

pub keeps_the_edge_law-requires : goal.keeps_the_edge_law-requires
keeps_the_edge_law-requires c = subst HaveFronts (sym (same (goal.at.keeps_the_edge_law-requires c).After-as_slice)) (c.requires c.loop-journal.journal-index)

pub loop-journal-preserved : goal.loop-journal-preserved
loop-journal-preserved c = edges_more c.args.journals.now c.loop-journal.journal-index
    (subst (λ (r : List Row). KeepsEdges frees takes (entries_in_row r)) (same (goal.at.loop-journal-preserved c).After-as_slice) (c.in_ok-keeps_the_edge_law.ensures.0 c.if-not-branch.false)) c.loop-journal.invariant

pub returns-then-not-branch : goal.returns-then-not-branch
returns-then-not-branch c = (
  λ yes_. absurd (false≢true yes_),
  λ all. absurd (false≢true (sym c.if-not-branch.true
      ∙ c.in_ok-keeps_the_edge_law.ensures.1 (subst (λ (r : List Row). KeepsEdges frees takes (entries_in_row r)) (sym (same (goal.at.returns-then-not-branch c).After-as_slice)) (edge_at c.args.journals.now c.loop-journal.journal-index all)))),
)

pub returns : goal.returns
returns c = (λ yes_. edges_all c.args.journals.now c.loop-journal.journal-index c.loop-journal-test.false c.loop-journal.invariant, λ all. refl)
