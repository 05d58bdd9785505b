use Rattle.std.specs.Cmp.{nat_cmp_total}
use Rattle.std.specs.FinMap.{nat_cmp-IsAntisymmetric}
use Rattle.std.specs.Ordering.{nat_cmp}
use Rattle.script_calls.specs.declared.outcome.Outcome.TheVariants.{Done}
use Rattle.run_record.specs.Objects.{contents_of}
use Rattle.run_record.specs.Record.{calls_of}
use Rattle.run_laws.proofs.DoneLines.{Plainly}
use Rattle.run_laws.proofs.KeyAtEnd.{Facts}
use Rattle.run_laws.proofs.UnionAtEnd.{union_at_end}
use Rattle.run_laws.proofs.owners.a_map_is_the_union_of_its_workers_maps.Goals as goal

pub returns : goal.returns
returns c plan place object left r plain no_tests live at kind apart explains =
    let start = contents_of plan in
    let lawful = explains.lawful.shared in
    let plainly : Plainly plan = λ w line of. ((c.where_nobody_waits_to_be_started_lists_are_of_calls.ensures.lines plan w line live).0 of, (c.where_nobody_waits_to_be_started_lists_are_of_calls.ensures.done plan w line live of).0) in
    let spelt = (c.scripts_without_tests_are_spelt_call_by_call.ensures plan r (Done left) explains.lines no_tests).0 explains.are in
    let keys = c.keys_are_numbered_by_first_appearance.ensures in
    let facts : Facts r = record {
      call = λ n e is. c.each_entry_is_a_call.ensures.call start r.history (calls_of r) n e lawful is;
      entry = λ w j x is entered. c.each_entry_is_a_call.ensures.entry start r.history (calls_of r) w j x lawful is entered;
      below = λ w i j x y before is_x is_y entered. c.a_callers_calls_are_in_order.ensures.below start r.history (calls_of r) w i j x y lawful before is_x is_y entered;
      order = λ w i j x y before is_x is_y. c.a_callers_calls_are_in_order.ensures.order start r.history (calls_of r) w i j x y lawful before is_x is_y;
      only = λ held call none. c.only_entries_change.ensures nat_cmp (nat_cmp_total, nat_cmp-IsAntisymmetric) held call none;
    } in
    union_at_end plan r left explains plainly spelt.scripts facts plain (keys.keys plan.scripts) (keys.named plan.scripts) (λ name n. (keys.number plan.scripts name n).0) (λ name n. (keys.number plan.scripts name n).1) place object at kind apart
