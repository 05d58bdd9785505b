use Rattle.std.proofs.Common.{◌≡◌, replicate, sym, ap, ◌∙◌, rules}
use Rattle.std.specs.List.{list_any}
use Rattle.wait_cores.specs.declared.group.GroupPlace.TheVariants.{Out}
use Rattle.wait_cores.specs.GroupMachine.{is_waiting}
use Rattle.wait_cores.proofs.GroupLemmas.{none_at_start}
use Rattle.wait_cores.proofs.group.GroupCore.new.Goals as goal

pub invariant_of-result : goal.invariant_of-result
invariant_of-result c =
    let all_out : c.in_ok-vec.field-0.items ≡ replicate c.args.callers Out = search rules in
    sym (ap (list_any is_waiting) all_out ∙ none_at_start c.args.callers)
