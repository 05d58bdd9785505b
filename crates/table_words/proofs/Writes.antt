-- A table's own seats may make the steps of a call that writes, up to the write.
use Rattle.std.proofs.Common.{◌≡◌, ℕ, suc, ◌+◌, ◌-◌, ◌%◌, ◌^◌, ◌<◌, ◌≤◌, ◌==◌, List, length, Some, sym, ap, ◌∙◌, subst, arith}
use Rattle.std.proofs.lemmas.Option.{same_Some}
use prog.Atomic.{either}
use Rattle.atomic_table.specs.Table.{Me, State, Allows}
use Rattle.table_rule.specs.declared.begin.Begin.{Begin}
use Rattle.table_words.specs.declared.words.TableWords.{TableWords}
use Rattle.table_rule.specs.declared.view.Lock.{Lock}
use Rattle.table_rule.specs.declared.view.Own.{Own}
use Rattle.table_rule.specs.declared.view.View.{View}
use Rattle.table_rule.specs.declared.view.Walk.{Walk}
use Rattle.table_words.specs.Laws.{HistoryLaws}
use Rattle.sync_types.specs.declared.map_object.MapCall.{MapCall}
use Rattle.sync_model.specs.Shared.{cost_of}
use Rattle.trie_nodes.specs.Layout.{slot_word}
use Rattle.trie_nodes.specs.Paths.{nibble}
use Rattle.trie_nodes.specs.Slots.{slot_in}
use Rattle.table_rule.specs.Layout.{gate_word, size_of}
use Rattle.table_rule.specs.Making.{StandsLocked, LooksHeld}
use Rattle.table_rule.specs.Rule.{Kept}
use Rattle.table_rule.specs.Walking.{HasWords, Affords, IsFree}
use Rattle.table_rule.specs.Writing.{IsWriter, TriesLock, Holds, Unlocks, ComesIn, IsInside, GoesOut, Drafts, HasDraft}
use Rattle.table_words.proofs.Drafting.{drafts, drafts_zero}
use Rattle.table_words.proofs.Gating.{comes_in, goes_out}
use Rattle.table_words.proofs.Held.{looks_held}
use Rattle.table_words.proofs.KeyCalls.{IsOn}
use Rattle.table_words.proofs.Locking.{tries_lock, unlocks}
use Rattle.table_words.proofs.Stepping.{May, may}

-- a step that tells more tells less
pub allows_then : (holds : State (Unit {0}) View → Type 0) (slots id : ℕ) (me : Me (Unit {0}) View) (i : ℕ) (f : ℕ → ℕ) (p q : ℕ → Me (Unit {0}) View → Type 0) → ((n : ℕ) (after : Me (Unit {0}) View) → p n after → q n after) → Allows holds slots id me i f p → Allows holds slots id me i f q
allows_then holds slots id me i f p q more allows = λ s kept len at bounded. let t = allows s kept len at bounded in (t.0, t.1, t.2, t.3, more _ _ t.4)

module _ (table : TableWords) (id : ℕ) (me : Me (Unit {0}) View) (word : ℕ) (laws : HistoryLaws) where
  abbrev key : Begin
  key = table.table.shared.key

  -- the seat may change the word so
  abbrev pub MayChange : (ℕ → ℕ) → (ℕ → Me (Unit {0}) View → Type 0) → Type 0
  MayChange = May table id me word

  pub may_come_in : (m told before old : ℕ) → IsFree table.table.shared.key me → m < table.table.shared.key.maps → old < 2 ^ 32 → told ≡ m → word ≡ gate_word table.table.shared.key m → MayChange (λ n. either (n == old) (old + 1) n) (ComesIn told before old me)
  may_come_in m told before old free below small same is = subst (λ n. MayChange (λ n. either (n == old) (old + 1) n) (ComesIn n before old me)) (sym same) (may table id me word (gate_word key m) (λ n. either (n == old) (old + 1) n) (ComesIn m before old me) (sym is) (omega arith) (comes_in key laws id me m before old free below small))

  pub may_go_out : (m : ℕ) → IsInside table.table.shared.key me m → m < table.table.shared.key.maps → word ≡ gate_word table.table.shared.key m → MayChange (λ n. (n + (2 ^ 64 - 1)) % 2 ^ 64) (GoesOut me)
  may_go_out m writer below is = may table id me word (gate_word key m) (λ n. (n + (2 ^ 64 - 1)) % 2 ^ 64) (GoesOut me) (sym is) (omega arith) (goes_out key laws id me m writer)

  pub words_within : (place : ℕ) → me.0.begin ≡ key → HasWords me.0 place 18 → place + 18 ≤ size_of key
  words_within place begin has = subst (λ (k : Begin). place + 18 ≤ size_of k) begin has.0

  pub may_try_lock : (node new : ℕ) → (w : Walk) × (w.node ≡ node) × IsWriter table.table.shared.key me w → HasWords me.0 node 18 → word ≡ node → new ≡ me.0.number + 1
      → MayChange (λ n. either (n == 0) new n) (λ found after. (w : Walk) → me.0.walk ≡ Some w → TriesLock w me found after)
  may_try_lock node new writer has is held =
      let w = writer.0 in
      let within = words_within node writer.2.begin has in
      let new_is : suc me.0.number ≡ new = omega arith in
      may table id me word w.node (λ n. either (n == 0) new n) (λ found after. (w : Walk) → me.0.walk ≡ Some w → TriesLock w me found after) (writer.1 ∙ sym is) (let same = writer.1 in omega arith)
      (allows_then (Kept key) 0 id me w.node (λ n. either (n == 0) new n) (TriesLock w me) (λ found after. (w : Walk) → me.0.walk ≡ Some w → TriesLock w me found after)
      (λ n after told z e. subst (λ x. TriesLock x me n after) (same_Some w z (sym writer.2.walk ∙ e)) told)
      (subst (λ y. Allows (Kept key) 0 id me w.node (λ n. either (n == 0) y n) (TriesLock w me)) new_is (tries_lock key laws id me w writer.2)))

  pub may_look_held : (w : Walk) (slot : ℕ) (call : MapCall ℕ) → (up : ℕ) × StandsLocked table.table.shared.key me w up → HasWords me.0 w.node 18 → slot ≡ nibble w.key table.begin.seed w.level → slot < 16 → word ≡ slot_word w.node slot → IsOn w.key call → Affords (cost_of call) me.0.owns
      → MayChange (λ n. n) (λ found. LooksHeld call me (slot_in found))
  may_look_held w slot call stands has slot_is below is on affords =
      let within = words_within w.node stands.1.begin has in
      may table id me word (slot_word w.node slot) (λ n. n) (λ found. LooksHeld call me (slot_in found)) (sym is) (omega arith)
      (looks_held key laws id me w stands.0 slot call stands.1 (slot_is ∙ ap (λ (b : Begin). nibble w.key b.seed w.level) (sym table.same)) below on affords)

  pub may_unlock : (node : ℕ) → (l : Lock) × (l.node ≡ node) × Holds table.table.shared.key me l → HasWords me.0 node 18 → word ≡ node → MayChange (λ n. 0) (λ found. Unlocks me 0)
  may_unlock node lock has is = let within = words_within node lock.2.begin has in let node_is = lock.1 in
      may table id me word lock.0.node (λ n. 0) (λ found. Unlocks me 0) (lock.1 ∙ sym is) (omega arith) (unlocks key laws id me lock.0 lock.2)

  pub may_draft : (own : Own) (owns : List Own) (next written x : ℕ) → HasDraft table.table.shared.key me own owns next written → word ≡ next + written → MayChange (λ n. x) (λ found. Drafts x me x)
  may_draft own owns next written x has is =
      let next_is = has.next_is in
      let written_is = has.written_is in
      let room = has.room in
      let within = has.within in
      may table id me word (own.next + length own.draft) (λ n. x) (λ found. Drafts x me x) (omega arith) (omega arith) (drafts key laws id me own owns x has.live has.owns_are (omega arith))

  pub may_draft_zero : (own : Own) (owns : List Own) (next written : ℕ) → HasDraft table.table.shared.key me own owns next written → word ≡ next + written → MayChange (λ n. n) (λ found. Drafts 0 me 0)
  may_draft_zero own owns next written has is =
      let next_is = has.next_is in
      let written_is = has.written_is in
      let room = has.room in
      let within = has.within in
      may table id me word (own.next + length own.draft) (λ n. n) (λ found. Drafts 0 me 0) (omega arith) (omega arith) (drafts_zero key laws id me own owns has.live has.owns_are (omega arith))

pub draft_within : (table : TableWords) (me : Me (Unit {0}) View) (own : Own) (owns : List Own) (next written : ℕ) → HasDraft table.table.shared.key me own owns next written → next + written < 2 ^ 32
draft_within table me own owns next written has = let room = has.room in let within = has.within in let objects = table.made.objects in let units = table.made.units in omega arith
