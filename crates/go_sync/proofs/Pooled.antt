-- What a call of a pool did with a pass that was renewed before, it did with the pass as it was.
use Rattle.std.proofs.Common.{◌≡◌, ℕ, subst}
use Rattle.sync_model.specs.declared.answer.Answer.{Answer}
use Rattle.go_pool.specs.declared.pass.PoolPass.{PoolPass}
use Rattle.go_pool.specs.declared.pool.Pool.{Pool}
use Rattle.go_pool.specs.Pools.{Deeds, Did}
use Rattle.go_sync.specs.Made.{no_front}
use Rattle.go_sync.specs.PoolCallers.{IsSamePass}

-- calls that are left say nothing of the parts' journals
with_left : {N H A : Type 0} (pool : Pool N H) (spells : Deeds → Answer A → Type 0) (old new : PoolPass N) (calls first last : ℕ) (answer : Answer A)
    → Did pool spells (record old { left = calls }) (no_front first) answer new (no_front last) → Did pool spells old (no_front first) answer new (no_front last)
with_left pool spells old new calls first last answer did = record {
  deeds = did.deeds;
  entries = did.entries;
  grows = record { history = did.grows.history; mine = did.grows.mine; right = did.grows.right; fronts = did.grows.fronts; number = did.grows.number };
  done = did.done;
  spelt = did.spelt;
  halted = did.halted;
}

pub did_so : {N H A : Type 0} (pool : Pool N H) (spells : Deeds → Answer A → Type 0) (old mid new : PoolPass N) (first last : ℕ) (answer : Answer A)
    → IsSamePass old mid → first ≡ 0 → Did pool spells mid (no_front first) answer new (no_front last) → (time : ℕ) × Did pool spells old (no_front 0) answer new (no_front time)
did_so pool spells old mid new first last answer same fresh did = (
  last,
  with_left pool spells old new same.0 0 last answer
      (subst (λ p. Did pool spells p (no_front 0) answer new (no_front last)) same.1 (subst (λ t. Did pool spells mid (no_front t) answer new (no_front last)) fresh did)),
)
