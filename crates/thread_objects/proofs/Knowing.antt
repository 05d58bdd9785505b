-- What a worker knows at each item that it makes.
use Rattle.std.proofs.Common.{◌≡◌, ℕ, zero, suc, ◌+◌, ◌<◌, ◌≤◌, List, [], ◌∷◌, length, take, Some, slice_get, slice_index, refl, ap, subst, arith}
use Rattle.std.proofs.lemmas.Option.{none-some, same_Some}
use Rattle.sync_model.specs.Front.{Front, AtLeast, Later}
use Rattle.sync_model.specs.Journal.{front_at}
use Rattle.run_record.specs.declared.made.Made.{Made}
use Rattle.run_record.specs.declared.made.Made.TheVariants.{Shared, Entered}
use Rattle.run_record.specs.InOneOrder.{NumbersRise}
use Rattle.run_record.specs.Record.{shared_in, front_of}
use Rattle.thread_objects.specs.Working.{Rises, CountsOwn}
use Rattle.thread_objects.proofs.Moving.{least_over}

counted_first : (worker before : ℕ) (x made : Made) → slice_index (front_of x) worker ≡ before → Some x ≡ Some made → slice_index (front_of made) worker ≡ before + 0
counted_first worker before x made counted at = omega (arith, counted, ap (λ (m : Made). slice_index (front_of m) worker) (same_Some x made at))

pub counted_at : (worker before : ℕ) (items : List Made) (i : ℕ) (made : Made) → CountsOwn worker before items → slice_get items i ≡ Some made → slice_index (front_of made) worker ≡ before + length (shared_in (take i items))
counted_at worker before [] i made counts at = absurd (none-some made at)
counted_at worker before (Shared x ∷ items) zero made counts at = counted_first worker before (Shared x) made counts.0 at
counted_at worker before (Entered object entry ∷ items) zero made counts at = counted_first worker before (Entered object entry) made counts.0 at
counted_at worker before (Shared x ∷ items) (suc i) made counts at = omega (arith, counted_at worker (before + 1) items i made counts.1 at)
counted_at worker before (Entered object entry ∷ items) (suc i) made counts at = counted_at worker before items i made counts.1 at

-- what is known at the first item and its number, and the numbers that are left behind it
abbrev at_item : Made → List ℕ → Front
at_item (Shared x) times = record { counts = x.front; time = slice_index times 0 }
at_item (Entered object entry) times = front_at entry

abbrev behind_item : Made → List ℕ → List ℕ
behind_item (Shared x) [] = []
behind_item (Shared x) (time ∷ times) = times
behind_item (Entered object entry) times = times

counts_at : (x : Made) (times : List ℕ) → (at_item x times).counts ≡ front_of x
counts_at (Shared x) times = refl
counts_at (Entered object entry) times = refl

-- from one item to the next
step : (from to : Front) (x : Made) (items : List Made) (times : List ℕ) → Rises from (x ∷ items) times to → Later (at_item x times) from × Rises (at_item x times) items (behind_item x times) to
step from to (Shared x) items [] rises = absurd rises
step from to (Shared x) items (time ∷ times) rises = rises
step from to (Entered object entry) items times rises = rises

-- all that rises from one front on is at least that front
pub risen_from : (from to : Front) (items : List Made) (times : List ℕ) (i : ℕ) (made : Made) → Rises from items times to → slice_get items i ≡ Some made → AtLeast (front_of made) from.counts
risen_from from to [] times i made rises at = absurd (none-some made at)
risen_from from to (x ∷ items) times zero made rises at =
    subst (λ (m : Made). AtLeast (front_of m) from.counts) (same_Some x made at) (subst (λ (f : List ℕ). AtLeast f from.counts) (counts_at x times) (step from to x items times rises).0.0)
risen_from from to (x ∷ items) times (suc i) made rises at =
    let next = step from to x items times rises in
    least_over from.counts (at_item x times).counts (front_of made) next.0.0 (risen_from (at_item x times) to items (behind_item x times) i made next.1 at)

risen_whole : (from to : Front) (items : List Made) (times : List ℕ) → Rises from items times to → AtLeast to.counts from.counts
risen_whole from to [] [] rises = rises.0
risen_whole from to [] (time ∷ times) rises = absurd rises
risen_whole from to (x ∷ items) times rises =
    let next = step from to x items times rises in
    least_over from.counts (at_item x times).counts to.counts next.0.0 (risen_whole (at_item x times) to items (behind_item x times) next.1)

pub risen_to : (from to : Front) (items : List Made) (times : List ℕ) (i : ℕ) (made : Made) → Rises from items times to → slice_get items i ≡ Some made → AtLeast to.counts (front_of made)
risen_to from to [] times i made rises at = absurd (none-some made at)
risen_to from to (x ∷ items) times zero made rises at =
    subst (λ (m : Made). AtLeast to.counts (front_of m)) (same_Some x made at) (subst (λ (f : List ℕ). AtLeast to.counts f) (counts_at x times) (risen_whole (at_item x times) to items (behind_item x times) (step from to x items times rises).1))
risen_to from to (x ∷ items) times (suc i) made rises at = risen_to (at_item x times) to items (behind_item x times) i made (step from to x items times rises).1 at

pub risen_between : (from to : Front) (items : List Made) (times : List ℕ) (i j : ℕ) (earlier later : Made) → Rises from items times to → i < j → slice_get items i ≡ Some earlier → slice_get items j ≡ Some later → AtLeast (front_of later) (front_of earlier)
risen_between from to [] times i j earlier later rises before first second = absurd (none-some earlier first)
risen_between from to (x ∷ items) times i zero earlier later rises before first second = absurd (omega (arith, before))
risen_between from to (x ∷ items) times zero (suc j) earlier later rises before first second =
    subst (λ (m : Made). AtLeast (front_of later) (front_of m)) (same_Some x earlier first)
    (subst (λ (f : List ℕ). AtLeast (front_of later) f) (counts_at x times) (risen_from (at_item x times) to items (behind_item x times) j later (step from to x items times rises).1 second))
risen_between from to (x ∷ items) times (suc i) (suc j) earlier later rises before first second =
    risen_between (at_item x times) to items (behind_item x times) i j earlier later (step from to x items times rises).1 (omega (arith, before)) first second

-- the numbers of the items rise too
pub numbers_rise : (least : ℕ) (from to : Front) (items : List Made) (times : List ℕ) → least ≤ from.time + 1 → Rises from items times to → NumbersRise least items times
numbers_rise least from to [] [] low rises = tt
numbers_rise least from to [] (time ∷ times) low rises = absurd rises
numbers_rise least from to (Shared x ∷ items) [] low rises = absurd rises
numbers_rise least from to (Shared x ∷ items) (time ∷ times) low rises = (omega (arith, low, rises.0.1), numbers_rise (time + 1) (record { counts = x.front; time = time }) to items times (omega arith) rises.1)
numbers_rise least from to (Entered object entry ∷ items) times low rises = (omega (arith, low, rises.0.1), numbers_rise (entry.time + 1) (front_at entry) to items times (omega arith) rises.1)
