-- New maps and atomics, and their callers.
use Rattle.std.proofs.Common.{◌≡◌, ℕ, zero, suc, ◌+◌, List, [], ◌∷◌, length, map, get_or, Some, slice_get, refl, sym, ap, ◌∙◌, subst, arith}
use Rattle.std.specs.Prelude.{slice_index}
use Rattle.std.specs.List.{range_with_len, zip}
use Rattle.std.proofs.lemmas.List.{length-replicate}
use Rattle.std.proofs.lemmas.Option.{same_Some}
use Rattle.sync_types.specs.declared.atomic_object.AtomicKind.{AtomicKind}
use Rattle.sync_types.specs.declared.atomic_object.AtomicKind.TheVariants as kinds
use Rattle.sync_types.specs.SequentialAtomic.{kind_of, zero_of}
use Rattle.sync_model.specs.Journal.{by}
use Rattle.ruled_object.specs.Notes.{held_by, IsNoteOf}
use Rattle.ruled_object.specs.Passes.{number_of, seen_by, own_by as entries_of}
use Rattle.shared_plain.specs.declared.mark.Mark.{Mark}
use Rattle.shared_plain.specs.declared.plain.Plain.{Plain}
use Rattle.shared_plain.specs.Marks.{counts_by, holding, own_by, seen_of, IsMarkOf}
use Rattle.shared_plain.specs.PlainHistory.{calls_counted, history_of, items_by, times_by}
use Rattle.shared_plain.specs.PlainMachine.{Holdings, first_holdings}
use Rattle.shared_plain.specs.Plains.{caller_count}
use Rattle.shared_plain.specs.Walks.{AreInOrder}

kind_of_zero : (kind : AtomicKind) → kind_of (zero_of kind) ≡ kind
kind_of_zero kinds.Int32 = refl
kind_of_zero kinds.Int64 = refl
kind_of_zero kinds.Uint32 = refl
kind_of_zero kinds.Uint64 = refl
kind_of_zero kinds.Bool = refl

-- new atomics are of the types that were asked for
pub kinds_of_zeros : (list : List AtomicKind) → map kind_of (map zero_of list) ≡ list
kinds_of_zeros [] = refl
kinds_of_zeros (kind ∷ list) = λ i. kind_of_zero kind i ∷ kinds_of_zeros list i

module _ (start : Holdings) (maps keys : ℕ) (list : List AtomicKind) (is : start ≡ first_holdings maps keys list) where
  -- there are as many maps as were asked for
  pub maps_asked : length start.maps ≡ maps
  maps_asked = ap (λ (h : Holdings). length h.maps) is ∙ length-replicate maps _

  -- and the atomics are of the types that were asked for
  pub kinds_asked : map kind_of start.numbers ≡ list
  kinds_asked = ap (λ (h : Holdings). map kind_of h.numbers) is ∙ kinds_of_zeros list

  -- so the start is a first one of its own numbers
  pub is_first : start ≡ first_holdings (length start.maps) keys (map kind_of start.numbers)
  is_first = is ∙ (λ i. first_holdings (sym maps_asked i) keys (sym kinds_asked i))

-- item i of each of two lists, and what was made of them
pub record Beside {A B C : Type 0} (f : A × B → C) (xs : List A) (ys : List B) (i : ℕ) (made : C) : Type 0 where
  pub first : A
  pub second : B
  pub at_first : slice_get xs i ≡ Some first
  pub at_second : slice_get ys i ≡ Some second
  pub is : f (first, second) ≡ made

module _ {A B C : Type 0} (f : A × B → C) where
  pub beside : (xs : List A) (ys : List B) (i : ℕ) (made : C) → slice_get (map f (zip xs ys)) i ≡ Some made → Beside f xs ys i made
  beside [] ys i made e = (cc)
  beside (x ∷ xs) [] i made e = (cc)
  beside (x ∷ xs) (y ∷ ys) zero made e = record { first = x; second = y; at_first = refl; at_second = refl; is = same_Some (f (x, y)) made e }
  beside (x ∷ xs) (y ∷ ys) (suc i) made e = let rest = beside xs ys i made e in record { first = rest.first; second = rest.second; at_first = rest.at_first; at_second = rest.at_second; is = rest.is }

  pub length-beside : (xs : List A) (ys : List B) → length xs ≡ length ys → length (map f (zip xs ys)) ≡ length xs
  length-beside [] ys e = refl
  length-beside (x ∷ xs) [] e = absurd (omega arith)
  length-beside (x ∷ xs) (y ∷ ys) e = let rest = length-beside xs ys (omega arith) in omega arith

knows_none : (n from c : ℕ) → get_or (map (λ d. calls_counted d []) (range_with_len from n)) c 0 ≡ 0
knows_none zero from c = refl
knows_none (suc n) from zero = refl
knows_none (suc n) from (suc c) = knows_none n (from + 1) c

-- the note of caller i, who did nothing and has seen nothing
pub record IsNewMark (plain : Plain) (i spare : ℕ) (mark : Mark) : Type 0 where
  pub is : IsMarkOf plain mark
  pub own : own_by mark ≡ Some (record { number = i; items = []; times = []; spare = spare })
  pub seen : seen_of mark ≡ []
  pub knows : (c : ℕ) → slice_index (counts_by mark) c ≡ 0

pub new_mark : (plain : Plain) (mark : Mark) (i spare : ℕ) → IsNoteOf plain.object mark.pass → held_by mark.pass ≡ Some (entries_of mark.pass) → number_of mark.pass ≡ i → seen_by mark.pass ≡ [] → entries_of mark.pass ≡ []
    → mark.callers ≡ caller_count plain → mark.spare ≡ spare → mark.done ≡ 0 → IsNewMark plain i spare mark
new_mark plain mark i spare is held number seen own callers left done = record {
  is = record {
    pass = is;
    callers = callers;
    keeps = λ mine e. record {
      own_is = same_Some mine (entries_of mark.pass) (sym e ∙ held) ∙ (own ∙ sym (ap (by (number_of mark.pass)) seen));
      order = subst (λ journal. AreInOrder mark.callers (number_of mark.pass) [] journal) (sym seen) tt;
      done = λ _. done ∙ sym (ap (calls_counted (number_of mark.pass)) seen);
    };
  };
  own = ap (holding mark) held ∙ (λ j. Some (record { number = number j; items = ap (items_by mark.callers (number_of mark.pass)) seen j; times = ap (times_by (number_of mark.pass)) seen j; spare = left j }));
  seen = ap history_of seen;
  knows = λ c. ap (λ journal. get_or (map (λ d. calls_counted d journal) (range_with_len 0 mark.callers)) c 0) seen ∙ knows_none mark.callers 0 c;
}
