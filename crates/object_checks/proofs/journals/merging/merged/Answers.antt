use Rattle.std.proofs.Common.{◌∙◌, ◌<◌, ◌≤◌, ℕ, List, [], length, get_or, sym, ap, subst}
use Rattle.std.proofs.lemmas.Bool.{false≢true}
use Rattle.std.proofs.lemmas.List.{length-replicate, length-set}
use Rattle.object_checks.specs.declared.journals.row.Row.{Row}
use Rattle.object_checks.specs.JournalItems.{entries_in_row}
use Rattle.object_checks.specs.JournalRows.{items_in, AreTaken}
use Rattle.object_checks.proofs.Merging.{Merges, none_merged, row_merged, not_merged}
use Rattle.object_checks.proofs.RowLemmas.{all_one}
use Rattle.object_checks.proofs.TakenLemmas.{left_in, fewer_left, next_within, no_items_in}
use Rattle.object_checks.proofs.journals.merging.merged.Goals as goal

pub loop-row-init : goal.loop-row-init
loop-row-init c =
    let zeros = c.in_ok-heads.ensures in
    record {
      heads = ap (λ (l : List ℕ). length l) zeros ∙ length-replicate (length c.args.tables.now) 0;
      merges = subst (λ (rows : List Row). Merges (items_in c.args.tables.now c.args.object) c.in_ok-heads.heads.items (entries_in_row rows)) (sym c.new-rows.ensures)
          (none_merged (items_in c.args.tables.now c.args.object) c.in_ok-heads.heads.items (λ worker. ap (λ (l : List ℕ). get_or l worker 0) zeros ∙ all_one (length c.args.tables.now) worker 0));
    }

pub loop-row-smaller : goal.loop-row-smaller
loop-row-smaller c =
    subst (λ (hs : List ℕ). left_in c.args.object c.args.tables.now hs < left_in c.args.object c.args.tables.now c.loop-row.heads.items) (sym c.take_one.ensures)
    (fewer_left c.args.object c.args.tables.now c.loop-row.heads.items c.in-Some.row.caller
    (subst (λ (hs : List ℕ). c.in-Some.row.caller < length hs) c.deref.ensures.value c.in-Some.ensures.next.worker_is)
    (subst (λ (hs : List ℕ). get_or hs c.in-Some.row.caller 0 < length (get_or (get_or c.args.tables.now c.in-Some.row.caller []) c.args.object [])) c.deref.ensures.value
    (next_within c.args.tables.now c.args.object c.deref.result.now c.len.result c.in-Some.row.caller c.in-Some.row.item.now c.in-Some.ensures.next)))

pub loop-row-preserved : goal.loop-row-preserved
loop-row-preserved c = record {
  heads = ap (λ (l : List ℕ). length l) c.take_one.ensures ∙ length-set c.loop-row.heads.items c.in-Some.row.caller _ ∙ c.loop-row.invariant.heads;
  merges = row_merged (items_in c.args.tables.now c.args.object) c.loop-row.heads.items c.loop-row.rows c.loop-row.invariant.merges c.deref.result.now c.deref.ensures.value c.len.result c.len.ensures
      c.in-Some.row c.in-Some.ensures.next c.push.new.self c.in_ok-push.ensures.ok c.take_one.new.heads.items c.take_one.ensures;
}

pub returns : goal.returns
returns c = not_merged (items_in c.args.tables.now c.args.object) c.loop-row.heads.items c.loop-row.rows c.loop-row.invariant.merges c.deref.result.now c.deref.ensures.value c.len.result c.len.ensures
    c.in_default.ensures.next
    (λ worker past. no_items_in c.args.tables.now c.args.object c.loop-row.heads.items worker (subst (λ n. n ≤ worker) c.loop-row.invariant.heads past))
    (λ all. false≢true (sym c.if-are_taken.false ∙ c.are_taken.ensures.1 (subst (AreTaken (items_in c.args.tables.now c.args.object)) (sym c.deref-2.ensures.value) all)))
