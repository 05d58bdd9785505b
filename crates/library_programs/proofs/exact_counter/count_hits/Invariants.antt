use Rattle.std.specs.Prelude.{◌≡◌, ◌+◌, ◌*◌, vec_len}
use Rattle.library_programs.proofs.exact_counter.count_hits.Given as goal

abbrev pub invariant-loop-i : goal.invariant-loop-i
invariant-loop-i g l = (l.all.parts + l._i ≡ l.threads + 1) × (l.all.amount + l._i * l.each ≡ l.threads * l.each) × (vec_len l.workers ≡ l._i)

abbrev pub invariant-loop-spent : goal.invariant-loop-spent
invariant-loop-spent g l = (l.all.parts + vec_len l.done ≡ l.threads + 1) × (l.all.amount ≡ 0)

abbrev pub decreases-loop-spent : goal.decreases-loop-spent
decreases-loop-spent g l = vec_len l.done
