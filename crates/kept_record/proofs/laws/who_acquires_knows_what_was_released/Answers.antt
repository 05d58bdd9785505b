use Rattle.std.proofs.Common.{List, sym, subst}
use Rattle.sync_model.specs.Journal.{KeepsEdges}
use Rattle.run_record.specs.Edges.{frees, takes}
use Rattle.run_record.specs.Record.{ObjectEntry}
use Rattle.kept_record.specs.Keeping.{account_of}
use Rattle.kept_record.proofs.Keeps.{keeps}
use Rattle.kept_record.proofs.Within.{journal_is}
use Rattle.kept_record.proofs.laws.who_acquires_knows_what_was_released.Goals as goal

pub returns : goal.returns
returns c plan acts object all =
    let kept = keeps plan acts all in
    subst (λ (l : List ObjectEntry). KeepsEdges frees takes l) (sym (journal_is plan (account_of plan acts) kept.within object)) (kept.edges.edges object)
