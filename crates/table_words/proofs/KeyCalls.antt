-- A call on one key does to the map what it does to the key, and leaves all other keys and maps.
use Rattle.std.proofs.Common.{◌≡◌, ◌≢◌, ◌⊎◌, inl, inr, ℕ, ◌<◌, List, length, set, get_or, Option, Some, sym, ap, ◌∙◌, subst, arith, get_or-set_same, get_or-set_other}
use Rattle.std.proofs.lemmas.Bool.{cases_eq}
use Rattle.std.proofs.lemmas.List.{length-replicate}
use Rattle.std.specs.FinMap.{FinMap, empty, get}
use Rattle.std.specs.Ordering.{nat_cmp}
use Rattle.sync_model.specs.declared.item.Item.{Item}
use Rattle.sync_model.specs.declared.item.SharedCall.TheVariants as calls
use Rattle.sync_model.specs.declared.item.SharedEntry.{SharedEntry}
use Rattle.sync_types.specs.declared.map_object.MapCall.{MapCall}
use Rattle.sync_model.specs.Journal.{Begins}
use Rattle.sync_types.specs.SequentialMap.{map_key, map_after}
use Rattle.sync_model.specs.SharedHistory.{Contents, map_at, value_at, contents_after, is_entry, shared_after, history_with}
use Rattle.table_rule.specs.declared.begin.Begin.{Begin}
use Rattle.sync_types.specs.KeyCalls.{key_after}
use Rattle.table_words.specs.Laws.{HistoryLaws}
use Rattle.table_rule.specs.Shape.{start_of}
use Rattle.table_words.proofs.Ledgers.{contents_on}

-- a call on this key
abbrev pub IsOn : ℕ → MapCall ℕ → Type 0
IsOn key call = map_key call ≡ Some key

-- a history that goes on, so that one key of one map has this, and all else stays
pub record ChangesKey (k : Begin) (log log' : List SharedEntry) (m key : ℕ) (value : Option ℕ) : Type 0 where
  pub history : Begins log' log
  pub numbers : (contents_after (start_of k) log').numbers ≡ (contents_after (start_of k) log).numbers
  pub here : value_at (contents_after (start_of k) log') m key ≡ value
  pub others : (n q : ℕ) → (n ≢ m) ⊎ (q ≢ key) → value_at (contents_after (start_of k) log') n q ≡ value_at (contents_after (start_of k) log) n q

module _ (k : Begin) (laws : HistoryLaws) (log : List SharedEntry) (c : ℕ) (x : Item) (m key : ℕ) (call : MapCall ℕ) (is : x.call ≡ calls.Map m call) (on : IsOn key call) (below : m < k.maps) where
  abbrev before : Contents
  before = contents_after (start_of k) log

  abbrev map_now : FinMap nat_cmp ℕ
  map_now = map_after call (map_at before m)

  many : m < length before.maps
  many = let long = laws.maps_long (start_of k) log in let same : length (start_of k).maps ≡ k.maps = length-replicate k.maps empty in omega arith

  pub changes_key : x.entry ≡ is_entry x.call (contents_after (start_of k) log) → Begins (history_with log c x) log → ChangesKey k log (history_with log c x) m key (key_after call (value_at (contents_after (start_of k) log) m key))
  changes_key entry history =
      let now : contents_after (start_of k) (history_with log c x) ≡ record before { maps = set before.maps m map_now } = contents_on laws k log c x entry ∙ ap (λ y. shared_after y before) is in record {
        history = history;
        numbers = ap (λ (z : Contents). z.numbers) now;
        here = ap (λ (z : Contents). value_at z m key) now ∙ ap (λ f. get f key) (get_or-set_same before.maps m map_now empty many) ∙ laws.keys.left call key (map_at before m) on;
        others = λ n q off. ap (λ (z : Contents). value_at z n q) now ∙ elim (cases_eq n m) [
          | inl same ↦ subst (λ i. get (get_or (set before.maps m map_now) i empty) q ≡ get (get_or before.maps i empty) q) (sym same)
              (ap (λ f. get f q) (get_or-set_same before.maps m map_now empty many) ∙ laws.keys.others call key q (map_at before m) on (elim off [ inl ne ↦ absurd (ne same) | inr ne ↦ ne ]))
          | inr other ↦ ap (λ f. get f q) (get_or-set_other before.maps m n map_now empty other)
        ];
      }
