use Rattle.std.proofs.Common.{◌↔◌, List, map, subst}
use Rattle.std.specs.Prelude.{IsTrue}
use Rattle.sync_model.specs.Journal.{KeepsEdges}
use Rattle.shared_checks.specs.declared.edges.Note.{Note}
use Rattle.shared_checks.specs.Edges.{entry_of, is_freeing, is_taking}
use Rattle.run_record.specs.Edges.{frees, takes}
use Rattle.object_checks.specs.JournalItems.{entry_in}
use Rattle.object_checks.proofs.journals.edge.keeps_the_edge_law.Goals as goal

pub returns : goal.returns
returns c =
    let both = c.notes_stand_for_a_journal.ensures frees takes (map entry_in c.args.journal.now) c.in_ok-notes.notes.items c.in_ok-notes.ensures in
    let kept = subst (λ (l : List Note). IsTrue c.keeps_edges.result ↔ KeepsEdges is_freeing is_taking (map entry_of l)) c.deref.ensures.value c.keeps_edges.ensures in
    (λ yes_. both.1 (kept.0 yes_), λ law. kept.1 (both.0 law))
