use Rattle.workload.proofs.DraftLemmas.{indexed_start}
use Rattle.workload.proofs.draft.Draft.start.Goals as goal

pub invariant_of-result : goal.invariant_of-result
invariant_of-result c = rw (c.in_ok-new-3.ensures.ok, c.new.ensures, c.in_ok-none_yet.ensures, c.in_ok-none_yet-2.ensures, c.in_ok-empty_scripts.ensures, c.new-2.ensures, c.in_ok-new.ensures, c.in_ok-new-2.ensures) (indexed_start c.args.workers c.requires.some c.requires.few)
