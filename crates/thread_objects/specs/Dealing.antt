-- What a column becomes when its last pass is taken, or one is added, whatever its object.
use Rattle.std.specs.Global.{Vec}
use Rattle.std.specs.Prelude.{◌≡◌, ℕ, ◌+◌, ◌^◌, ◌<◌, [], ◌∷◌, ◌++◌, IsSome, MatchOption, vec_capacity, vec_len}
use Rattle.ruled_object.specs.declared.pass.Pass.{Pass}
use Rattle.thread_objects.specs.declared.column.AnyColumn.{AnyColumn}
use Rattle.thread_objects.specs.declared.pass.AnyPass.{AnyPass}
use Rattle.thread_objects.specs.ByKind.{of_column}
use Rattle.thread_objects.specs.Columns.{AreNone}
use Rattle.thread_objects.specs.Passes.{IsNone}

-- the passes but for the last one, which is this, in the same memory
abbrev pub IsWithout : {S N E R : Type 0} → Vec (Pass S N E R) → Vec (Pass S N E R) → Pass S N E R → Type 0
IsWithout all rest last = (all.items ≡ rest.items ++ last ∷ []) × (vec_capacity rest ≡ vec_capacity all)

module _ {N : Type 0} where
  -- there is a pass
  abbrev pub HasLast : AnyColumn N → Type 0
  HasLast column = of_column (record { none = λ n. 0 < n; each = λ kind ps. 0 < vec_len ps }) column

  -- the last pass was taken: this one
  abbrev pub Takes : AnyColumn N → AnyColumn N → AnyPass N → Type 0
  Takes old new pass = of_column (record {
    none = λ n. ((count : ℕ) → n ≡ count + 1 → AreNone count new) × IsNone pass;
    each = λ kind ps. MatchOption (kind.column new) ⊥ (λ qs. MatchOption (kind.pass pass) ⊥ (λ p. IsWithout ps qs p));
  }) old

  -- the pass is of the column's kind, and there is room for it, in memory that is taken
  abbrev pub HasRoomFor : AnyColumn N → AnyPass N → Type 0
  HasRoomFor column pass = of_column (record {
    none = λ n. (n + 1 < 2 ^ 32) × IsNone pass;
    each = λ kind ps. (vec_len ps < vec_capacity ps) × IsSome (kind.pass pass);
  }) column

  -- this pass was added, as the last one
  abbrev pub Adds : AnyColumn N → AnyColumn N → AnyPass N → Type 0
  Adds old new pass = of_column (record {
    none = λ n. (count : ℕ) → n ≡ count → AreNone (count + 1) new;
    each = λ kind ps. MatchOption (kind.column new) ⊥ (λ qs. MatchOption (kind.pass pass) ⊥ (λ p. IsWithout qs ps p));
  }) old
