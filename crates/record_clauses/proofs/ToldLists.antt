-- What numbers that are told make of lists and journals.
use Rattle.std.proofs.Common.{◌≡◌, ℕ, zero, suc, ◌+◌, ◌==◌, Bool, true, false, cond, List, [], ◌∷◌, map, get_or, refl, sym, ap, ◌∙◌}
use Rattle.sync_model.specs.Journal.{by}
use Rattle.run_record.specs.declared.made.Made.{Made}
use Rattle.run_record.specs.declared.made.Made.TheVariants.{Shared, Entered}
use Rattle.run_record.specs.Record.{ObjectEntry, entries_in}
use Rattle.record_clauses.specs.Account.{ToldItem, made_in}
use Rattle.record_clauses.specs.Journals.{numbered_from, numbered_by}
use Rattle.record_clauses.specs.Lists.{numbered, numbered_in}

abbrev pub entries_of : List (ℕ × ObjectEntry) → List ObjectEntry
entries_of pairs = map (λ (pair : ℕ × ObjectEntry). pair.1) pairs

in_list : (object : ℕ) (list : List ToldItem) → entries_of (numbered_in object list) ≡ entries_in object (made_in list)
in_list object [] = refl
in_list object (x ∷ list) = by_item x.made (in_list object list) where
  chosen : (b : Bool) (entry : ObjectEntry) → entries_of (numbered_in object list) ≡ entries_in object (made_in list)
      → entries_of (cond b ((x.number, entry) ∷ numbered_in object list) (numbered_in object list)) ≡ cond b (entry ∷ entries_in object (made_in list)) (entries_in object (made_in list))
  chosen true entry rest = ap (λ (es : List ObjectEntry). entry ∷ es) rest
  chosen false entry rest = rest

  by_item : (item : Made) → entries_of (numbered_in object list) ≡ entries_in object (made_in list) → entries_of (numbered object x.number item (numbered_in object list)) ≡ entries_in object (item ∷ made_in list)
  by_item (Shared y) rest = rest
  by_item (Entered other entry) rest = chosen (other == object) entry rest

pub in_journal : (n c : ℕ) (journal : List ObjectEntry) → entries_of (numbered_from n c journal) ≡ by c journal
in_journal n c [] = refl
in_journal n c (x ∷ xs) = chosen (x.caller == c) (in_journal (n + 1) c xs) where
  chosen : (b : Bool) → entries_of (numbered_from (n + 1) c xs) ≡ by c xs → entries_of (cond b ((n, x) ∷ numbered_from (n + 1) c xs) (numbered_from (n + 1) c xs)) ≡ cond b (x ∷ by c xs) (by c xs)
  chosen true rest = ap (λ (es : List ObjectEntry). x ∷ es) rest
  chosen false rest = rest

list_made : (lists : List (List ToldItem)) (worker : ℕ) → get_or (map made_in lists) worker [] ≡ made_in (get_or lists worker [])
list_made [] worker = refl
list_made (list ∷ lists) zero = refl
list_made (list ∷ lists) (suc worker) = list_made lists worker

-- a list whose numbers are those of a journal has the worker's entries of the journal
pub entries_told : (lists : List (List ToldItem)) (worker object : ℕ) (journal : List ObjectEntry) → numbered_in object (get_or lists worker []) ≡ numbered_by worker journal
    → entries_in object (get_or (map made_in lists) worker []) ≡ by worker journal
entries_told lists worker object journal told =
    ap (λ (l : List Made). entries_in object l) (list_made lists worker) ∙ sym (in_list object (get_or lists worker [])) ∙ ap entries_of told ∙ in_journal 0 worker journal
