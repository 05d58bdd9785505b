use Rattle.std.proofs.Common.{◌≡◌, length, sym, ap, ◌∙◌, subst}
use Rattle.sync_model.specs.EndsOfHistory.{HasKeysBelow}
use Rattle.sync_model.specs.SharedHistory.{Contents, contents_after}
use Rattle.workload.specs.Keys.{keys_in}
use Rattle.run_record.specs.Objects.{contents_of}
use Rattle.shared_checks.specs.Placing.{contents_of as held_by}
use Rattle.run_check.proofs.outcome.ends_left.Goals as goal

pub ends_of-requires : goal.ends_of-requires
ends_of-requires c =
    let plan = c.args.workload.now in
    let held : held_by c.play_all.new.objects ≡ contents_after (contents_of plan) c.args.history.now =
    c.in_ok-play_all.ensures ∙ ap (λ (start : Contents). contents_after start c.args.history.now) c.in_ok-objects.ensures in
    subst (HasKeysBelow (length (keys_in plan.scripts))) (sym held) c.requires.keys
