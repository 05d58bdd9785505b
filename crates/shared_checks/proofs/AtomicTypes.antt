-- An atomic keeps its type.
use Rattle.std.proofs.Common.{◌≡◌, Bool, true, false, ◌&&◌, refl}
use Rattle.sync_types.specs.declared.atomic_object.AtomicKind.{AtomicKind}
use Rattle.sync_types.specs.declared.atomic_object.AtomicKind.TheVariants as kinds
use Rattle.sync_types.specs.declared.atomic_object.Number.{Number}
use Rattle.sync_types.specs.declared.atomic_object.Number.TheVariants.{Int32, Int64, Uint32, Uint64, Bool as Truth}
use Rattle.sync_types.specs.declared.atomic_object.AtomicCall.{AtomicCall}
use Rattle.sync_types.specs.declared.atomic_object.AtomicCall.TheVariants.{Load, Store, Swap, Add, And, Or, CompareAndSwap}
use Rattle.sync_types.specs.SequentialAtomic.{kind_of, sum, bits_of_both, bits_of_either, is_same, is_of, is_atomic_call, atomic_after}
use Rattle.std.specs.Prelude.{cond}

sum_type : (a b : Number) → kind_of (sum a b) ≡ kind_of a
sum_type (Int32 a) (Int32 b) = refl
sum_type (Int64 a) (Int64 b) = refl
sum_type (Uint32 a) (Uint32 b) = refl
sum_type (Uint64 a) (Uint64 b) = refl
sum_type (Truth a) (Truth b) = refl
sum_type a b = cc

both_type : (a b : Number) → kind_of (bits_of_both a b) ≡ kind_of a
both_type (Int32 a) (Int32 b) = refl
both_type (Int64 a) (Int64 b) = refl
both_type (Uint32 a) (Uint32 b) = refl
both_type (Uint64 a) (Uint64 b) = refl
both_type (Truth a) (Truth b) = refl
both_type a b = cc

either_type : (a b : Number) → kind_of (bits_of_either a b) ≡ kind_of a
either_type (Int32 a) (Int32 b) = refl
either_type (Int64 a) (Int64 b) = refl
either_type (Uint32 a) (Uint32 b) = refl
either_type (Uint64 a) (Uint64 b) = refl
either_type (Truth a) (Truth b) = refl
either_type a b = cc

of_type : (kind : AtomicKind) (number : Number) → is_of kind number ≡ true → kind_of number ≡ kind
of_type kinds.Int32 (Int32 z) e = refl
of_type kinds.Int64 (Int64 z) e = refl
of_type kinds.Uint32 (Uint32 n) e = refl
of_type kinds.Uint64 (Uint64 n) e = refl
of_type kinds.Bool (Truth b) e = refl
of_type kind number e = absurd cc

last : (a b : Bool) → (a && b) ≡ true → b ≡ true
last true b e = e
last false b e = absurd cc

chosen : (b : Bool) (new held : Number) → kind_of new ≡ kind_of held → kind_of (cond b new held) ≡ kind_of held
chosen true new held e = e
chosen false new held e = refl

-- a call that its type has leaves an atomic's type
pub after_type : (call : AtomicCall) (held : Number) → is_atomic_call (kind_of held) call ≡ true → kind_of (atomic_after call held) ≡ kind_of held
after_type Load held e = refl
after_type (Store value) held e = of_type (kind_of held) value e
after_type (Swap value) held e = of_type (kind_of held) value e
after_type (Add operand) held e = sum_type held operand
after_type (And operand) held e = both_type held operand
after_type (Or operand) held e = either_type held operand
after_type (CompareAndSwap old new) held e = chosen (is_same held old) new held (of_type (kind_of held) new (last (is_of (kind_of held) old) (is_of (kind_of held) new) e))
