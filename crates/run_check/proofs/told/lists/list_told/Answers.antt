use Rattle.std.proofs.Common.{◌≡◌, ℕ, List, sym, ap, ◌∙◌}
use Rattle.run_check.specs.ToldLists.{parts_with}
use Rattle.run_check.proofs.ListLemmas.{line_next, says}
use Rattle.run_check.proofs.told.lists.list_told.Goals as goal

pub loop-index-preserved : goal.loop-index-preserved
loop-index-preserved c =
    let line = c.index-items-index.result in
    let next = line_next c.args.items.now c.loop-index.index line c.loop-index-test.true c.index-items-index.is in
    let found = sym c.sketch_told-found.ensures ∙ c.in-Some.is in
    let parts = c.in_ok-add_item.ensures ∙ ap (λ (front : List ℕ). parts_with c.loop-index.told (record { index = line.index; front = front; sketch = c.in-Some.sketch })) c.as_slice.ensures in
    let more = says c.args.workload.now c.args.kept.now c.args.worker c.args.items.now c.loop-index.index c.loop-index.along c.loop-index.told c.loop-index.invariant line next c.if-line-worker.false c.in-Some.sketch found c.add_item.new.told parts in
    rw c.along_behind-along.ensures more
