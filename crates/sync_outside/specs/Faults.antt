-- Counts of faults and of calls, which are u64s.
use Rattle.std.specs.Prelude.{◌≡◌, ℕ, ◌+◌, ◌-◌, ◌^◌, ◌<◌, ◌≤◌, ◌⊎◌, min, Result, Ok, Err}

-- the count is higher than before, or stands at its type's last value
abbrev pub Rose : ℕ → ℕ → Type 0
Rose before now = (before < now) ⊎ (now ≡ 2 ^ 64 - 1)

-- the count is higher than before by this number at least, or stands at its type's last value
abbrev pub RoseBy : ℕ → ℕ → ℕ → Type 0
RoseBy number before now = (before + number ≤ now) ⊎ (now ≡ 2 ^ 64 - 1)

-- so many more, up to the type's last value
abbrev pub raised_by : ℕ → ℕ → ℕ
raised_by number count = min (count + number) (2 ^ 64 - 1)

-- one more, up to the type's last value
abbrev pub raised : ℕ → ℕ
raised count = min (count + 1) (2 ^ 64 - 1)

-- the count after a call with this result: one more where it failed
abbrev pub count_after : {A E : Type 0} → Result A E → ℕ → ℕ
count_after (Ok value) count = count
count_after (Err error) count = raised count
