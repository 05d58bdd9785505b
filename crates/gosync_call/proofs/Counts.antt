-- What it means that a count stands.
use Rattle.std.proofs.Common.{◌≡◌, ◌⊎◌, inl, inr, ℕ, ◌-◌, ◌^◌, ◌<◌, ◌≤◌, arith}
use Rattle.sync_outside.specs.Faults.{Rose}
use Rattle.gosync_call.specs.Input.{ReadFailed}

-- a count that stands short of its last value didn't rise
pub no_rise : (before now : ℕ) → Rose before now → now ≤ before → now < 2 ^ 64 - 1 → ⊥
no_rise before now (inl higher) stands short = omega arith
no_rise before now (inr last) stands short = omega arith

-- one that rose and stands is at its last value
pub is_last : (before now : ℕ) → Rose before now → now ≤ before → now ≡ 2 ^ 64 - 1
is_last before now (inl higher) stands = absurd (omega arith)
is_last before now (inr last) stands = last

pub which_is_last : (opens opens_now reads reads_now : ℕ) → ReadFailed opens opens_now reads reads_now → opens_now ≤ opens → reads_now ≤ reads
    → (opens_now ≡ 2 ^ 64 - 1) ⊎ (reads_now ≡ 2 ^ 64 - 1)
which_is_last opens opens_now reads reads_now (inl opened) first second = inl (is_last opens opens_now opened first)
which_is_last opens opens_now reads reads_now (inr read) first second = inr (is_last reads reads_now read second)

pub none_failed : (opens reads : ℕ) → opens < 2 ^ 64 - 1 → reads < 2 ^ 64 - 1 → ReadFailed opens opens reads reads → ⊥
none_failed opens reads first second (inl opened) = no_rise opens opens opened (omega arith) first
none_failed opens reads first second (inr read) = no_rise reads reads read (omega arith) second
