-- A table's own seats may be copied, dealt out and joined, and may look at the whole history.
use Rattle.std.proofs.Common.{◌≡◌, ℕ, ◌<◌, true, length, sym, subst, arith}
use Rattle.atomic_table.specs.Table.{Me, Allows, Splits}
use Rattle.table_rule.specs.declared.view.View.{View}
use Rattle.table_words.specs.declared.words.TableWords.{TableWords}
use Rattle.table_words.specs.Laws.{HistoryLaws}
use Rattle.table_rule.specs.Rule.{Kept}
use Rattle.table_rule.specs.Views.{copied, dealt, kept, IsIdle, Looks}
use Rattle.table_words.proofs.Looking.{looks}
use Rattle.table_words.proofs.Seats.{copies, deals}

-- there is a word to look at
pub some_word : (table : TableWords) → 0 < table.table.shared.table_id.words
some_word table = let sized = table.sized.0 in omega arith

pub may_copy : (table : TableWords) (id : ℕ) (v : View) → v.live ≡ true → IsIdle v → (0 < table.table.shared.table_id.words) × Splits (Kept table.table.shared.key) id v v (copied v)
may_copy table id v live idle = (some_word table, copies table.table.shared.key id v live idle)

pub may_deal : (table : TableWords) (id : ℕ) (v : View) → v.live ≡ true → IsIdle v → 0 < length v.owns → (0 < table.table.shared.table_id.words) × Splits (Kept table.table.shared.key) id v (kept v) (dealt v)
may_deal table id v live idle stands = (some_word table, deals table.table.shared.key id v live idle stands)

-- a seat that counts may look
pub may_look : (table : TableWords) (id : ℕ) (me : Me (Unit {0}) View) → HistoryLaws → me.0.live ≡ true → me.0.begin ≡ table.table.shared.key
    → Allows (Kept table.table.shared.key) table.table.shared.table_id.slots id me 0 (λ n. n) (λ found after. (after.1 ≡ me.1) × Looks me.0 after.0)
may_look table id me laws live begin = subst (λ slots. Allows (Kept table.table.shared.key) slots id me 0 (λ n. n) (λ found after. (after.1 ≡ me.1) × Looks me.0 after.0)) (sym table.sized.1) (looks table.table.shared.key laws id me 0 live begin)
