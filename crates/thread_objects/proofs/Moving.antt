-- What a worker makes, one after the other.
use Rattle.std.proofs.Common.{◌≡◌, ℕ, ◌+◌, Bool, true, false, ◌==◌, cond, List, [], ◌∷◌, ◌++◌, length, refl, sym, ap, ◌∙◌, subst, arith, append_assoc, Option, Some, None, slice_index}
use Rattle.std.proofs.lemmas.List.{append-nil, length-append}
use Rattle.std.proofs.lemmas.Option.{none-some, same_Some}
use Rattle.sync_model.specs.declared.item.Item.{Item}
use Rattle.sync_model.specs.Front.{Front, AtLeast, NoLess}
use Rattle.sync_model.specs.Journal.{front_at}
use Rattle.sync_model.specs.Note.{Holding, IsCounted}
use Rattle.sync_model.specs.Shared.{items_of}
use Rattle.run_record.specs.declared.made.Made.{Made}
use Rattle.run_record.specs.declared.made.Made.TheVariants.{Shared, Entered}
use Rattle.run_record.specs.Record.{ObjectEntry, shared_in, entries_in}
use Rattle.thread_objects.specs.Working.{Desk, Rises, CountsOwn, Moves, number_in}

pub least_over : (low from to : List ℕ) → AtLeast from low → AtLeast to from → AtLeast to low
least_over low from to a b i = omega (arith, a i, b i)

-- of a note that counts all its holder's calls, the desk's front does
pub counted_of : (own : Option Holding) (front : List ℕ) → IsCounted own front → (worker : ℕ) → number_in own ≡ Some worker → slice_index front worker ≡ length (items_of own)
counted_of None front counted worker is = absurd (none-some worker is)
counted_of (Some holding) front counted worker is = ap (λ (n : ℕ). slice_index front n) (sym (same_Some holding.number worker is)) ∙ counted

pub shared_append : (xs ys : List Made) → shared_in (xs ++ ys) ≡ shared_in xs ++ shared_in ys
shared_append [] ys = refl
shared_append (Shared x ∷ xs) ys = ap (λ (l : List Item). x ∷ l) (shared_append xs ys)
shared_append (Entered object entry ∷ xs) ys = shared_append xs ys

entries_joined : (here : Bool) (entry : ObjectEntry) (xs ys both : List ObjectEntry) → both ≡ xs ++ ys → cond here (entry ∷ both) both ≡ cond here (entry ∷ xs) xs ++ ys
entries_joined true entry xs ys both is = ap (λ (l : List ObjectEntry). entry ∷ l) is
entries_joined false entry xs ys both is = is

entries_append : (object : ℕ) (xs ys : List Made) → entries_in object (xs ++ ys) ≡ entries_in object xs ++ entries_in object ys
entries_append object [] ys = refl
entries_append object (Shared x ∷ xs) ys = entries_append object xs ys
entries_append object (Entered other entry ∷ xs) ys = entries_joined (other == object) entry (entries_in object xs) (entries_in object ys) (entries_in object (xs ++ ys)) (entries_append object xs ys)

rises_from : (low from to : Front) (xs : List Made) (times : List ℕ) → NoLess from low → Rises from xs times to → Rises low xs times to
rises_from low from to [] [] least rises = (least_over low.counts from.counts to.counts least.0 rises.0, omega (arith, least.1, rises.1))
rises_from low from to [] (time ∷ times) least rises = absurd rises
rises_from low from to (Shared x ∷ xs) [] least rises = absurd rises
rises_from low from to (Shared x ∷ xs) (time ∷ times) least rises = ((least_over low.counts from.counts x.front least.0 rises.0.0, omega (arith, least.1, rises.0.1)), rises.1)
rises_from low from to (Entered object entry ∷ xs) times least rises = ((least_over low.counts from.counts entry.front least.0 rises.0.0, omega (arith, least.1, rises.0.1)), rises.1)

rises_append : (from between to : Front) (xs : List Made) (times : List ℕ) (ys : List Made) (more : List ℕ) → Rises from xs times between → Rises between ys more to → Rises from (xs ++ ys) (times ++ more) to
rises_append from between to [] [] ys more first later = rises_from from between to ys more first later
rises_append from between to [] (time ∷ times) ys more first later = absurd first
rises_append from between to (Shared x ∷ xs) [] ys more first later = absurd first
rises_append from between to (Shared x ∷ xs) (time ∷ times) ys more first later = (first.0, rises_append (record { counts = x.front; time = time }) between to xs times ys more first.1 later)
rises_append from between to (Entered object entry ∷ xs) times ys more first later = (first.0, rises_append (front_at entry) between to xs times ys more first.1 later)

counts_append : (worker before : ℕ) (xs ys : List Made) → CountsOwn worker before xs → CountsOwn worker (before + length (shared_in xs)) ys → CountsOwn worker before (xs ++ ys)
counts_append worker before [] ys first later = subst (λ (n : ℕ). CountsOwn worker n ys) (omega arith) later
counts_append worker before (Shared x ∷ xs) ys first later =
    (first.0, counts_append worker (before + 1) xs ys first.1 (subst (λ (n : ℕ). CountsOwn worker n ys) (omega arith) later))
counts_append worker before (Entered object entry ∷ xs) ys first later = (first.0, counts_append worker before xs ys first.1 later)

-- nothing is made
pub stays : (desk : Desk) → Moves desk [] desk
stays desk = record { worker = refl; owns = λ object. sym (append-nil (desk.owns object)); calls = sym (append-nil desk.calls); numbers = []; times = sym (append-nil desk.times); fronts = (λ i. omega arith, omega arith); counts = λ worker is. tt }

-- these items, and then those
pub joined : (old between new : Desk) (xs ys : List Made) → Moves old xs between → Moves between ys new → Moves old (xs ++ ys) new
joined old between new xs ys a b = record {
  worker = b.worker ∙ a.worker;
  owns = λ object. b.owns object ∙ ap (λ (l : List ObjectEntry). l ++ entries_in object ys) (a.owns object) ∙ append_assoc (old.owns object) (entries_in object xs) (entries_in object ys) ∙ ap (λ (l : List ObjectEntry). old.owns object ++ l) (sym (entries_append object xs ys));
  calls = b.calls ∙ ap (λ (l : List Item). l ++ shared_in ys) a.calls ∙ append_assoc old.calls (shared_in xs) (shared_in ys) ∙ ap (λ (l : List Item). old.calls ++ l) (sym (shared_append xs ys));
  numbers = a.numbers ++ b.numbers;
  times = b.times ∙ ap (λ (l : List ℕ). l ++ b.numbers) a.times ∙ append_assoc old.times a.numbers b.numbers;
  fronts = rises_append old.front between.front new.front xs a.numbers ys b.numbers a.fronts b.fronts;
  counts = λ worker is. counts_append worker (length old.calls) xs ys (a.counts worker is) (subst (λ (n : ℕ). CountsOwn worker n ys) (ap (λ (l : List Item). length l) a.calls ∙ length-append old.calls (shared_in xs)) (b.counts worker (a.worker ∙ is)));
}
