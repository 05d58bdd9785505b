use Rattle.std.proofs.Common.{List, length, ap, ◌∙◌, arith}
use Rattle.std.specs.Ordering.{nat_cmp}
use Rattle.std.specs.FinMap.{nat_cmp-IsAntisymmetric}
use Rattle.std.proofs.lemmas.Cmp.{nat_cmp_total}
use Rattle.std.proofs.lemmas.List.{take_all}
use Rattle.sync_model.specs.declared.item.SharedEntry.{SharedEntry}
use Rattle.sync_model.specs.SharedHistory.{contents_after, value_at}
use Rattle.run_record.specs.Objects.{contents_of}
use Rattle.run_record.specs.Record.{calls_of}
use Rattle.run_record.proofs.Limits.{keys_at}
use Rattle.run_record.proofs.NamedLemmas.{scripted_named}
use Rattle.run_record.proofs.PairLemmas.{all_known}
use Rattle.run_record.proofs.laws.limits.maps_end_with_the_workloads_keys.Goals as goal

pub returns : goal.returns
returns c plan r outcome m key value explains has =
    let start = contents_of plan in
    let keys = c.keys_are_numbered_by_first_appearance.ensures in
    let named = scripted_named plan (keys.keys plan.scripts) (λ name number. (keys.number plan.scripts name number).0) in
    keys_at plan (c.calls_leave_other_keys.ensures nat_cmp (nat_cmp_total, nat_cmp-IsAntisymmetric)) c.only_a_clear_has_no_key.ensures r.history (calls_of r) (all_known plan r outcome explains.lines explains.are named)
    (λ n entry at. c.each_entry_is_a_call.ensures.call start r.history (calls_of r) n entry explains.lawful.shared at)
    (length r.history) m key value
    (ap (λ (entries : List SharedEntry). value_at (contents_after start entries) m key) (take_all (length r.history) r.history (omega arith)) ∙ has)
