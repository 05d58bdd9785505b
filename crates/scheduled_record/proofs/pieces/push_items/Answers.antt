use Rattle.std.proofs.Common.{◌+◌, ◌++◌, ◌∷◌, [], map, drop, ap}
use Rattle.std.specs.List.{list_all}
use Rattle.record_text.specs.ItemLines.{item_text}
use Rattle.record_text.specs.Told.{is_short_line, joined}
use Rattle.scheduled_record.proofs.Gaining.{goes_wrong, item_next}
use Rattle.scheduled_record.proofs.pieces.push_items.Goals as goal

pub returns-then-not-branch-clause-gains : goal.returns-then-not-branch-clause-gains
returns-then-not-branch-clause-gains c =
    let plan = c.args.workload.now in
    let items = c.args.items.now in
    let i = c.loop-item.item-index in
    let item = c.item-item.result in
    let here = item_next items i item c.loop-item-test.true c.item-item.is in
    goes_wrong c.args.text.now.items c.loop-item.text.items c.push_item.new.text.items (joined (map (item_text plan) items)) _ (item_text plan item ++ 10 ∷ []) (joined (map (item_text plan) (drop (i + 1) items))) c.push_item.new.text.items
    (list_all is_short_line (map (item_text plan) items)) _ (is_short_line (item_text plan item)) (list_all is_short_line (map (item_text plan) (drop (i + 1) items))) c.in_ok-push_item.field-0 c.if-not-branch.true
    (ap (λ ls. joined (map (item_text plan) ls)) here) (ap (λ ls. list_all is_short_line (map (item_text plan) ls)) here) c.in_ok-push_item.ensures.gains c.loop-item.invariant.goes
