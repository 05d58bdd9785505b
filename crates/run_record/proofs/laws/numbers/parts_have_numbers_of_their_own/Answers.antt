use Rattle.std.proofs.Common.{◌≡◌, ℕ, suc, ◌+◌, ◌*◌, Bool, true, false, cond, List, length, take, count_by, ap, arith}
use Rattle.std.proofs.Math.Seq.{take-length}
use Rattle.workload.specs.declared.object.ObjectLine.{ObjectLine}
use Rattle.run_record.specs.Objects.{is_pool, starts_number}
use Rattle.run_record.specs.Record.{object_number}
use Rattle.run_record.proofs.NumberLemmas.{next_parts, within, apart}
use Rattle.run_record.proofs.laws.numbers.parts_have_numbers_of_their_own.Goals as goal

chosen : (b : Bool) (workers : ℕ) → cond b 1 0 * workers ≡ cond b workers 0
chosen true workers = omega arith
chosen false workers = omega arith

pub returns-clause-follow : goal.returns-clause-follow
returns-clause-follow c plan place object here =
    let next : place + 1 ≡ suc place = omega arith in
    let same : count_by (λ (o : ObjectLine). is_pool o.kind) (take (place + 1) plan.objects) * plan.workers ≡ count_by (λ (o : ObjectLine). is_pool o.kind) (take (suc place) plan.objects) * plan.workers = ap (λ (n : ℕ). count_by (λ (o : ObjectLine). is_pool o.kind) (take n plan.objects) * plan.workers) next in
    omega (arith, same, next_parts plan.workers plan.objects place object here, chosen (is_pool object.kind) plan.workers)

pub returns-clause-all : goal.returns-clause-all
returns-clause-all c plan = ap (λ (xs : List ObjectLine). object_number (length plan.objects) + count_by (λ (o : ObjectLine). is_pool o.kind) xs * plan.workers) (take-length plan.objects)

pub returns-clause-starts : goal.returns-clause-starts
returns-clause-starts c plan some = ap (λ (b : Bool). starts_number plan + cond b 1 0) some

pub returns-clause-no_starts : goal.returns-clause-no_starts
returns-clause-no_starts c plan none = omega (arith, ap (λ (b : Bool). starts_number plan + cond b 1 0) none)

pub returns-clause-within : goal.returns-clause-within
returns-clause-within c plan place part object here pool below = omega (arith, within plan.workers plan.objects place part object here pool below)

pub returns-clause-apart : goal.returns-clause-apart
returns-clause-apart c plan place other part another object one here pool below there also under is =
    apart plan.workers plan.objects place other part another object one here pool below there also under (omega (arith, is))
