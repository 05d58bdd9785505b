-- A caller's own number in its own note's front is the number of its calls.
use Rattle.std.specs.Prelude.{◌≡◌, ℕ, zero, suc, ◌+◌, ◌<◌, Bool, true, false, ◌==◌, cond, List, [], ◌∷◌, ◌++◌, length, map, Option, Some, None, slice_index}
use Rattle.std.specs.List.{range_with_len}
use mathlib.Core.Path.{refl, sym, ap, ◌∙◌}
use native.Mathlib.Omega.{arith}
use Rattle.sync_model.specs.declared.item.SharedCall.{SharedCall}
use Rattle.sync_model.specs.declared.item.Item.{Item}
use Rattle.sync_model.specs.Note.{IsCounted}
use Rattle.ruled_object.specs.Notes.{held_by}
use Rattle.ruled_object.specs.Passes.{number_of, seen_by}
use Rattle.shared_plain.specs.declared.event.Answered.{Answered}
use Rattle.shared_plain.specs.declared.mark.Mark.{Mark}
use Rattle.shared_plain.specs.declared.plain.Plain.{Plain}
use Rattle.shared_plain.specs.Marks.{counts_by, holding, own_by, IsMarkOf}
use Rattle.shared_plain.specs.PlainHistory.{Step, call_in, counts, calls_counted, front_of, item_at, listed, items_from, items_by}

module _ (n c : ℕ) where
  listed_count : (before : List Step) (x : Step) (found : Option (SharedCall × Answered)) (later : List Item) (k : ℕ) → length later ≡ k → length (listed n c before x found later) ≡ counts c x.caller found + k
  listed_count before x None later k is = omega arith
  listed_count before x (Some did) later k is = by_caller (x.caller == c)
    where
      by_caller : (b : Bool) → length (cond b (item_at n before x.knew did ∷ later) later) ≡ cond b 1 0 + k
      by_caller true = omega arith
      by_caller false = omega arith

  -- a caller has as many calls as are counted
  pub length-items : (before xs : List Step) → length (items_from n c before xs) ≡ calls_counted c xs
  length-items before [] = refl
  length-items before (x ∷ xs) = listed_count before x (call_in x.deed) (items_from n c (before ++ x ∷ []) xs) (calls_counted c xs) (length-items (before ++ x ∷ []) xs)

at_caller : (f : ℕ → ℕ) (from count i : ℕ) → i < count → slice_index (map f (range_with_len from count)) i ≡ f (from + i)
at_caller f from zero i below = absurd (omega arith)
at_caller f from (suc count) zero below = let same : from ≡ from + 0 = omega arith in ap f same
at_caller f from (suc count) (suc i) below = let same : (from + 1) + i ≡ from + suc i = omega arith in at_caller f (from + 1) count i (omega arith) ∙ ap f same

-- a caller's number in the front of what it has seen is the number of its calls there
pub counted_by : (n c : ℕ) (seen : List Step) → c < n → slice_index (front_of n seen) c ≡ length (items_by n c seen)
counted_by n c seen below =
    let first : 0 + c ≡ c = omega arith in
    at_caller (λ d. calls_counted d seen) 0 n c below ∙ (ap (λ d. calls_counted d seen) first ∙ sym (length-items n c [] seen))

pub is_counted : (home : Plain) (mark : Mark) → IsMarkOf home mark → IsCounted (own_by mark) (counts_by mark)
is_counted home mark is = by_held (held_by mark.pass)
  where
    below : number_of mark.pass < mark.callers
    below = let inside = is.pass.caller in let same = is.callers in omega arith

    by_held : (found : Option (List Step)) → IsCounted (holding mark found) (counts_by mark)
    by_held None = tt
    by_held (Some own) = counted_by mark.callers (number_of mark.pass) (seen_by mark.pass) below
