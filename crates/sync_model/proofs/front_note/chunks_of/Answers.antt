use Rattle.std.proofs.Common.{◌≡◌, ℕ, ◌<◌, ◌≤◌, ◌*◌, ◌⊎◌, inl, inr, get_or, length, arith}
use Rattle.std.proofs.lemmas.Bool.Decides.{nat_tests}
use Rattle.std.proofs.lemmas.Grind.{div_ceil_times}
use Rattle.std.proofs.lemmas.List.{get_or_past}
use Rattle.sync_model.proofs.front_note.chunks_of.Goals as goal

le_or_lt : (m n : ℕ) → (m ≤ n) ⊎ (n < m)
le_or_lt m n = grind (arith, nat_tests)

pub returns-clause-rest : goal.returns-clause-rest
returns-clause-rest c k behind =
    let bounds = div_ceil_times c.loop-caller.used 16 (omega arith) in
    let is = c.div_ceil.ensures in
    let unused : c.loop-caller.used ≤ k = omega arith in
    elim (le_or_lt (length c.args.counts.now) k) [ inl past ↦ get_or_past c.args.counts.now k 0 past | inr within ↦ c.loop-caller.invariant.rest k unused (omega arith) ]
