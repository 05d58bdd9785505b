-- A table's own seats may write a slot.
use Rattle.std.proofs.Common.{◌≡◌, ℕ, ◌+◌, ◌<◌, ◌≤◌, sym, ap, ◌∙◌, subst, arith}
use Rattle.atomic_table.specs.Table.{Me, Allows}
use Rattle.sync_types.specs.declared.map_object.MapCall.{MapCall}
use Rattle.table_rule.specs.declared.begin.Begin.{Begin}
use Rattle.table_rule.specs.declared.view.Lock.{Lock}
use Rattle.table_rule.specs.declared.view.View.{View}
use Rattle.table_words.specs.declared.words.TableWords.{TableWords}
use Rattle.table_words.specs.Laws.{HistoryLaws}
use Rattle.table_rule.specs.Layout.{size_of}
use Rattle.table_rule.specs.Making.{used_in, IsLockAt, MayPublish, Publishes}
use Rattle.table_rule.specs.Rule.{Kept}
use Rattle.table_words.specs.TrieLaws.{TrieLaws}
use Rattle.table_rule.specs.Walking.{HasWords}
use Rattle.trie_nodes.specs.Layout.{slot_word}
use Rattle.trie_nodes.specs.Paths.{nibble}
use Rattle.table_words.proofs.Makes.{publishes}

pub may_publish : (table : TableWords) (id : ℕ) (me : Me (Unit {0}) View) (word : ℕ) → HistoryLaws → TrieLaws → (call : MapCall ℕ) (m key node level slot new : ℕ) → (l : Lock) × IsLockAt l key node level × MayPublish table.table.shared.key me.0 call m l new → HasWords me.0 node 18
    → slot ≡ nibble key table.begin.seed level → slot < 16 → word ≡ slot_word node slot
    → (word < table.table.shared.table_id.words) × Allows (Kept table.table.shared.key) table.table.shared.table_id.slots id me word (λ n. new) (λ found. Publishes m call (used_in me.0.owns) me)
may_publish table id me word laws tries call m key node level slot new may has slot_is below is =
    let k = table.table.shared.key in
    let l = may.0 in
    let at = may.1 in
    let sized = table.sized.0 in
    let within : node + 18 ≤ size_of k = subst (λ (b : Begin). node + 18 ≤ size_of b) may.2.sees.begin has.0 in
    let here : slot_word l.node (nibble l.key k.seed l.level) ≡ word =
    (λ i. slot_word (at.1 i) (nibble (at.0 i) k.seed (at.2 i))) ∙ ap (slot_word node) (ap (λ (b : Begin). nibble key b.seed level) table.same ∙ sym slot_is) ∙ sym is in (
      omega arith,
      subst (λ i. Allows (Kept k) table.table.shared.table_id.slots id me i (λ n. new) (λ found. Publishes m call (used_in me.0.owns) me)) here
          (subst (λ slots. Allows (Kept k) slots id me (slot_word l.node (nibble l.key k.seed l.level)) (λ n. new) (λ found. Publishes m call (used_in me.0.owns) me)) (sym table.sized.1) (publishes k laws tries id me call m l new may.2)),
    )
