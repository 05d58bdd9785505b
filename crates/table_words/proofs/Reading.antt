-- A table's own seats may make the reads of a lookup.
use Rattle.std.proofs.Common.{◌≡◌, ℕ, ◌+◌, ◌^◌, ◌<◌, ◌≤◌, sym, ap, ◌∙◌, subst, arith}
use Rattle.atomic_table.specs.Table.{Me, Allows}
use Rattle.sync_types.specs.declared.map_object.MapCall.{MapCall}
use Rattle.sync_model.specs.Shared.{cost_of}
use Rattle.table_rule.specs.declared.begin.Begin.{Begin}
use Rattle.table_words.specs.declared.words.TableWords.{TableWords}
use Rattle.table_rule.specs.declared.view.View.{View}
use Rattle.table_rule.specs.declared.view.Walk.{Walk}
use Rattle.table_words.specs.Laws.{HistoryLaws}
use Rattle.trie_nodes.specs.Layout.{slot_word}
use Rattle.trie_nodes.specs.Paths.{nibble}
use Rattle.trie_nodes.specs.Slots.{slot_in}
use Rattle.table_rule.specs.Layout.{root_word, size_of}
use Rattle.table_rule.specs.Rule.{Kept}
use Rattle.table_rule.specs.Walking.{told_at, HasWords, Enters, MayEnter, LooksIn, Affords, ReadsKey, KeepsValue, ReadsValue, OnWay, AtEntry}
use Rattle.table_words.proofs.KeyCalls.{IsOn}
use Rattle.table_words.proofs.Lookups.{enters, looks_in, reads_key, keeps_value, reads_value}
use Rattle.table_words.proofs.Stepping.{may}

module _ (table : TableWords) (id : ℕ) (me : Me (Unit {0}) View) (word : ℕ) where
  abbrev key : Begin
  key = table.table.shared.key

  -- a word of the table, on which the seat may make a read
  abbrev pub MayRead : (ℕ → Me (Unit {0}) View → Type 0) → Type 0
  MayRead then = (word < table.table.shared.table_id.words) × Allows (Kept table.table.shared.key) table.table.shared.table_id.slots id me word (λ n. n) then

  may_read : (place words : ℕ) (then : ℕ → Me (Unit {0}) View → Type 0) → me.0.begin ≡ key → HasWords me.0 place words → word < place + words → Allows (Kept key) 0 id me word (λ n. n) then → MayRead then
  may_read place words then begin has inside allows =
      let sized = table.sized.0 in
      let within : place + words ≤ size_of key = subst (λ (k : Begin). place + words ≤ size_of k) begin has.0 in
      (omega arith, subst (λ slots. Allows (Kept key) slots id me word (λ n. n) then) (sym table.sized.1) allows)

  pub may_read_key : (place : ℕ) → me.0.begin ≡ table.table.shared.key → AtEntry me place → HasWords me.0 place 2 → word ≡ place → MayRead (ReadsKey me)
  may_read_key place begin at has is = may_read place 2 (ReadsKey me) begin has (omega arith)
      (subst (λ i. Allows (Kept key) 0 id me i (λ n. n) (ReadsKey me)) (at.place_is ∙ sym is) (reads_key key id me at.entry at.live at.is))

  pub may_read_value : (place : ℕ) → me.0.begin ≡ table.table.shared.key → AtEntry me place → HasWords me.0 place 2 → word ≡ place + 1 → MayRead (ReadsValue me)
  may_read_value place begin at has is = may_read place 2 (ReadsValue me) begin has (omega arith)
      (subst (λ i. Allows (Kept key) 0 id me i (λ n. n) (ReadsValue me)) (ap (λ p. p + 1) at.place_is ∙ sym is) (reads_value key id me at.entry at.live at.is))

  pub may_keep_value : (place : ℕ) → me.0.begin ≡ table.table.shared.key → AtEntry me place → HasWords me.0 place 2 → word ≡ place + 1 → MayRead (KeepsValue me)
  may_keep_value place begin at has is = may_read place 2 (KeepsValue me) begin has (omega arith)
      (subst (λ i. Allows (Kept key) 0 id me i (λ n. n) (KeepsValue me)) (ap (λ p. p + 1) at.place_is ∙ sym is) (keeps_value key id me at.entry at.live at.is))

  -- the same, where the seat is as another was
  module _ (before : Me (Unit {0}) View) (stays : me ≡ before) (place : ℕ) (begin : before.0.begin ≡ table.table.shared.key) (at : AtEntry before place) (has : HasWords before.0 place 2) (is : word ≡ place + 1) where
    pub then_read_value : MayRead (ReadsValue me)
    then_read_value = may_read_value place (ap (λ m. m.0.begin) stays ∙ begin) (subst (λ m. AtEntry m place) (sym stays) at) (subst (λ m. HasWords m.0 place 2) (sym stays) has) is

    pub then_keep_value : MayRead (KeepsValue me)
    then_keep_value = may_keep_value place (ap (λ m. m.0.begin) stays ∙ begin) (subst (λ m. AtEntry m place) (sym stays) at) (subst (λ m. HasWords m.0 place 2) (sym stays) has) is

  pub may_enter : (m told key_of before : ℕ) → MayEnter table.table.shared.key me → m < table.table.shared.key.maps → key_of < 2 ^ 32 → told ≡ m → word ≡ root_word table.table.shared.key m → MayRead (Enters told key_of (told_at before me))
  may_enter m told key_of before free below is_key same is =
      let sized = table.sized.0 in
      let within : root_word key m < size_of key = omega arith in
      subst (λ n. MayRead (Enters n key_of (told_at before me))) (sym same) (may table id me word (root_word key m) (λ n. n) (Enters m key_of (told_at before me)) (sym is) within (enters key id me m key_of before free.0 free.1 below is_key free.2))

  pub may_look_in : HistoryLaws → (w : Walk) (slot : ℕ) (call : MapCall ℕ) → OnWay table.table.shared.key me w → HasWords me.0 w.node 18 → slot ≡ nibble w.key table.begin.seed w.level → slot < 16 → word ≡ slot_word w.node slot → IsOn w.key call
      → Affords (cost_of call) me.0.owns → MayRead (λ found. LooksIn call me (slot_in found))
  may_look_in laws w slot call way has slot_is inside is on affords = may_read w.node 18 (λ found. LooksIn call me (slot_in found)) way.begin has (omega arith)
      (subst (λ i. Allows (Kept key) 0 id me i (λ n. n) (λ found. LooksIn call me (slot_in found))) (sym is)
      (looks_in key laws id me w slot call way.live way.begin way.some way.walk way.leaf (slot_is ∙ ap (λ (b : Begin). nibble w.key b.seed w.level) (sym table.same)) inside way.since on affords))
