-- Numbers that rise item by item.
use Rattle.std.proofs.Common.{◌≡◌, ℕ, zero, suc, ◌+◌, ◌<◌, ◌≤◌, List, [], ◌∷◌, take, Some, slice_get, slice_index, refl, subst, arith}
use Rattle.std.proofs.lemmas.Option.{none-some, same_Some}
use Rattle.run_record.specs.declared.made.Made.{Made}
use Rattle.run_record.specs.declared.made.Made.TheVariants.{Shared, Entered}
use Rattle.run_record.specs.InOneOrder.{NumbersRise, number_behind}

-- the numbers that are left behind the first item
abbrev left : Made → List ℕ → List ℕ
left (Shared x) [] = []
left (Shared x) (time ∷ times) = times
left (Entered object entry) times = times

-- from the first item to those behind it
step : (least : ℕ) (x : Made) (list : List Made) (times : List ℕ) → NumbersRise least (x ∷ list) times → (least ≤ number_behind times [] x) × NumbersRise (number_behind times [] x + 1) list (left x times)
step least (Shared x) list [] rise = absurd rise
step least (Shared x) list (time ∷ times) rise = rise
step least (Entered object entry) list times rise = rise

-- a later item has its number among those that are left
later : (least : ℕ) (x : Made) (list : List Made) (times : List ℕ) (earlier : List Made) (made : Made) → NumbersRise least (x ∷ list) times → number_behind (left x times) earlier made ≡ number_behind times (x ∷ earlier) made
later least (Shared x) list [] earlier made rise = absurd rise
later least (Shared x) list (time ∷ times) earlier (Shared y) rise = refl
later least (Shared x) list (time ∷ times) earlier (Entered object entry) rise = refl
later least (Entered other entry) list times earlier (Shared y) rise = refl
later least (Entered other entry) list times earlier (Entered object made) rise = refl

-- each item has at least the number from which they rise
at_least : (least : ℕ) (list : List Made) (times : List ℕ) (i : ℕ) (x : Made) → NumbersRise least list times → slice_get list i ≡ Some x → least ≤ number_behind times (take i list) x
at_least least [] times i x rise at = absurd (none-some x at)
at_least least (y ∷ list) times zero x rise at = subst (λ (m : Made). least ≤ number_behind times [] m) (same_Some y x at) (step least y list times rise).0
at_least least (y ∷ list) times (suc i) x rise at =
    let next = step least y list times rise in
    let more = at_least (number_behind times [] y + 1) list (left y times) i x next.1 at in
    subst (λ (n : ℕ). least ≤ n) (later least y list times (take i list) x rise) (omega (arith, next.0, more))

-- and of two the later one has the higher number
pub rise_between : (least : ℕ) (list : List Made) (times : List ℕ) (i j : ℕ) (x y : Made) → NumbersRise least list times → i < j → slice_get list i ≡ Some x → slice_get list j ≡ Some y
    → number_behind times (take i list) x < number_behind times (take j list) y
rise_between least [] times i j x y rise before at_x at_y = absurd (none-some x at_x)
rise_between least (z ∷ list) times i zero x y rise before at_x at_y = absurd (omega (arith, before))
rise_between least (z ∷ list) times zero (suc j) x y rise before at_x at_y =
    let more = at_least (number_behind times [] z + 1) list (left z times) j y (step least z list times rise).1 at_y in
    subst (λ (m : Made). number_behind times [] m < number_behind times (z ∷ take j list) y) (same_Some z x at_x) (omega (arith, more, later least z list times (take j list) y rise))
rise_between least (z ∷ list) times (suc i) (suc j) x y rise before at_x at_y =
    let among = rise_between (number_behind times [] z + 1) list (left z times) i j x y (step least z list times rise).1 (omega (arith, before)) at_x at_y in
    omega (arith, among, later least z list times (take i list) x rise, later least z list times (take j list) y rise)
