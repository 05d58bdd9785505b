use Rattle.std.proofs.Common.{sym, ap, ◌∙◌}
use Rattle.sync_model.specs.Journal.{by}
use Rattle.run_record.specs.Record.{entries_in}
use Rattle.kept_record.specs.Keeping.{account_of}
use Rattle.kept_record.proofs.Keeps.{keeps}
use Rattle.kept_record.proofs.Within.{list_is, journal_is}
use Rattle.kept_record.proofs.laws.each_entry_stands_in_one_list.Goals as goal

pub returns : goal.returns
returns c plan acts worker object all =
    let kept = keeps plan acts all in
    ap (entries_in object) (list_is plan (account_of plan acts) kept.within worker) ∙ (kept.once worker object ∙ ap (by worker) (sym (journal_is plan (account_of plan acts) kept.within object)))
