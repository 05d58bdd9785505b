use Rattle.std.specs.Ordering.{nat_cmp}
use Rattle.std.specs.FinMap.{nat_cmp-IsAntisymmetric}
use Rattle.std.proofs.lemmas.Cmp.{nat_cmp_total}
use Rattle.run_check.proofs.ShownKeys.{shows_keys}
use Rattle.run_check.proofs.shown_keys.a_cursor_shows_the_workloads_keys.Goals as goal

pub returns : goal.returns
returns c told claim account worker tells legal ranges =
    let keys = c.keys_are_numbered_by_first_appearance.ensures in
    shows_keys (c.calls_leave_other_keys.ensures nat_cmp (nat_cmp_total, nat_cmp-IsAntisymmetric)) c.only_a_clear_has_no_key.ensures told claim tells
    (record { among = keys.keys claim.plan.scripts; number = λ name number. (keys.number claim.plan.scripts name number).0 })
    account legal ranges worker
