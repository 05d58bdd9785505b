-- A table's own seats step on a word of it.
use Rattle.std.proofs.Common.{◌≡◌, ℕ, ◌<◌, sym, subst, arith}
use Rattle.atomic_table.specs.Table.{Me, Allows}
use Rattle.table_rule.specs.declared.view.View.{View}
use Rattle.table_words.specs.declared.words.TableWords.{TableWords}
use Rattle.table_rule.specs.Layout.{gate_word, size_of}
use Rattle.table_rule.specs.Rule.{Kept}

-- a word of the table, which the seat may change so
abbrev pub May : (table : TableWords) (id : ℕ) (me : Me (Unit {0}) View) → ℕ → (ℕ → ℕ) → (ℕ → Me (Unit {0}) View → Type 0) → Type 0
May table id me word f then = (word < table.table.shared.table_id.words) × Allows (Kept table.table.shared.key) table.table.shared.table_id.slots id me word f then

pub may : (table : TableWords) (id : ℕ) (me : Me (Unit {0}) View) (word at : ℕ) (f : ℕ → ℕ) (then : ℕ → Me (Unit {0}) View → Type 0) → at ≡ word → at < size_of table.table.shared.key → Allows (Kept table.table.shared.key) 0 id me at f then → May table id me word f then
may table id me word at f then is within allows = let sized = table.sized.0 in
    (omega arith, subst (λ i. Allows (Kept table.table.shared.key) table.table.shared.table_id.slots id me i f then) is (subst (λ slots. Allows (Kept table.table.shared.key) slots id me at f then) (sym table.sized.1) allows))

-- the words of maps are there
pub gate_there : (table : TableWords) (m : ℕ) → m < table.table.shared.key.maps → gate_word table.table.shared.key m < table.table.shared.table_id.words
gate_there table m below = let sized = table.sized.0 in omega arith
