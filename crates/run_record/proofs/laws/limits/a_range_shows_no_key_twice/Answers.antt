use Rattle.std.proofs.Common.{arith}
use Rattle.std.specs.Ordering.{nat_cmp}
use Rattle.std.specs.FinMap.{nat_cmp-IsAntisymmetric}
use Rattle.std.proofs.lemmas.Cmp.{nat_cmp_total}
use Rattle.run_record.specs.Objects.{contents_of}
use Rattle.run_record.specs.Record.{calls_of}
use Rattle.run_record.proofs.Limits.{few_shown}
use Rattle.run_record.proofs.NamedLemmas.{scripted_named}
use Rattle.run_record.proofs.PairLemmas.{all_known, shows_few}
use Rattle.run_record.proofs.laws.limits.a_range_shows_no_key_twice.Goals as goal

pub returns : goal.returns
returns c plan r outcome most explains within =
    let start = contents_of plan in
    let ranges = c.a_range_shows_each_key_once_and_misses_none.ensures in
    let keys = c.keys_are_numbered_by_first_appearance.ensures in
    let lawful = explains.lawful.shared in
    let named = scripted_named plan (keys.keys plan.scripts) (λ name number. (keys.number plan.scripts name number).0) in
    shows_few plan r outcome explains.lines explains.are named most (λ worker shown has.
    let few = few_shown plan (c.calls_leave_other_keys.ensures nat_cmp (nat_cmp_total, nat_cmp-IsAntisymmetric)) c.only_a_clear_has_no_key.ensures r.history (calls_of r) (all_known plan r outcome explains.lines explains.are named)
    (λ n entry at. c.each_entry_is_a_call.ensures.call start r.history (calls_of r) n entry lawful at)
    worker shown has
    (λ b i j key value other x y first second. ranges.once start r.history (calls_of r) worker b i j key value other x y lawful first second)
    (λ b i m key value begin x at is step. let was = ranges.shown start r.history (calls_of r) worker b i m key value begin x lawful at is step in (was.0, was.3)) in
    omega (arith, few, within))
