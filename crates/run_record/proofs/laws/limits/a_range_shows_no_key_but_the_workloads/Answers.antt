use Rattle.std.specs.Ordering.{nat_cmp}
use Rattle.std.specs.FinMap.{nat_cmp-IsAntisymmetric}
use Rattle.std.proofs.lemmas.Cmp.{nat_cmp_total}
use Rattle.std.proofs.lemmas.List.Elements.{All-weaker}
use Rattle.run_record.specs.Objects.{contents_of}
use Rattle.run_record.specs.Limits.{IsCallOf}
use Rattle.run_record.proofs.Limits.{KnowsKey, few_shown, knows_key}
use Rattle.run_record.proofs.laws.limits.a_range_shows_no_key_but_the_workloads.Goals as goal

pub returns : goal.returns
returns c plan history calls caller shown lawful all has =
    let start = contents_of plan in
    let ranges = c.a_range_shows_each_key_once_and_misses_none.ensures in
    few_shown plan (c.calls_leave_other_keys.ensures nat_cmp (nat_cmp_total, nat_cmp-IsAntisymmetric)) c.only_a_clear_has_no_key.ensures history calls (λ d. All-weaker (λ x. IsCallOf plan x.call) (λ x. KnowsKey plan x.call) (λ x is. knows_key plan x.call is) (calls d) (all d))
    (λ n entry at. c.each_entry_is_a_call.ensures.call start history calls n entry lawful at)
    caller shown has
    (λ b i j key value other x y first second. ranges.once start history calls caller b i j key value other x y lawful first second)
    (λ b i m key value begin x at is step. let was = ranges.shown start history calls caller b i m key value begin x lawful at is step in (was.0, was.3))
