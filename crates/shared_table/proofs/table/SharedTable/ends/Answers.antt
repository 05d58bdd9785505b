use Rattle.std.proofs.Common.{List, length, ap, ◌∙◌, subst}
use Rattle.sync_model.specs.declared.caller.Caller.{Caller}
use Rattle.sync_model.specs.Shared.{calls_of}
use Rattle.sync_model.specs.SharedHistory.{contents_after}
use Rattle.table_words.specs.EndContents.{contents_of}
use Rattle.shared_table.specs.declared.note.SharedNote.{SharedNote}
use Rattle.shared_table.specs.Notes.{own_by}
use Rattle.shared_table.specs.Settling.{Gathered}
use Rattle.shared_table.specs.Tables.{first_of}
use Rattle.shared_table.proofs.Endings.{are_ends}
use Rattle.shared_table.proofs.table.SharedTable.ends.Goals as goal

pub returns-clause-ends : goal.returns-clause-ends
returns-clause-ends c =
    let gathered = subst (λ (l : List (Caller SharedNote)). Gathered c.args.self l (length l) c.gather-all.result.me) c.deref_mut.ensures.value c.gather-all.ensures.gathered in
    are_ends c.args.self c.args.callers.items c.requires c.gather-all.result.me gathered (contents_of c.ends.result) c.ends.ensures.ends c.one_more_call_keeps_the_law.ensures.same

pub returns-clause-after : goal.returns-clause-after
returns-clause-after c history lawful =
    let start = first_of c.args.self in
    let gathered = subst (λ (l : List (Caller SharedNote)). Gathered c.args.self l (length l) c.gather-all.result.me) c.deref_mut.ensures.value c.gather-all.ensures.gathered in
    let ends = are_ends c.args.self c.args.callers.items c.requires c.gather-all.result.me gathered (contents_of c.ends.result) c.ends.ensures.ends c.one_more_call_keeps_the_law.ensures.same in
    ends.is ∙ ap (contents_after start) (c.the_calls_determine_the_history.ensures start start ends.history history (calls_of own_by c.args.callers.items) ends.lawful lawful)
