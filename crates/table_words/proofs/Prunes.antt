-- A table's own seats may make the steps that prune a node.
use Rattle.std.proofs.Common.{◌≡◌, ℕ, suc, ◌+◌, ◌<◌, ◌==◌, true, false, [], ◌∷◌, Some, None, sym, ◌∙◌, subst, arith}
use Rattle.std.proofs.lemmas.Option.{same_Some}
use prog.Atomic.{either}
use Rattle.atomic_table.specs.Table.{Me, Allows}
use Rattle.table_rule.specs.declared.begin.Begin.{Begin}
use Rattle.table_words.specs.declared.words.TableWords.{TableWords}
use Rattle.table_rule.specs.declared.view.CutNode.{CutNode}
use Rattle.table_rule.specs.declared.view.Lock.{Lock}
use Rattle.table_rule.specs.declared.view.View.{View}
use Rattle.table_words.specs.Laws.{HistoryLaws}
use Rattle.trie_nodes.specs.Layout.{parent_word, slot_word, dead_word}
use Rattle.trie_nodes.specs.Paths.{nibble}
use Rattle.table_rule.specs.Making.{bare}
use Rattle.table_rule.specs.Pruning.{having_cut, marked, IsPruned, SeesSlot, LooksAtSlot, ReadsParent, TriedUpper, TriesUpper, HoldsBoth, Marks, CutsOff}
use Rattle.table_rule.specs.Rule.{Kept}
use Rattle.table_words.specs.TrieLaws.{TrieLaws}
use Rattle.table_rule.specs.Walking.{HasWords}
use Rattle.table_rule.specs.Writing.{holding, Holds}
use Rattle.table_words.proofs.Cuts.{cuts_off}
use Rattle.table_words.proofs.Outside.{nibble_below}
use Rattle.table_words.proofs.UpperLocks.{looks_at_slot, reads_parent, tries_upper, marks}
use Rattle.table_words.proofs.Stepping.{May, may}
use Rattle.table_words.proofs.Writes.{words_within, allows_then}

module _ (table : TableWords) (id : ℕ) (me : Me (Unit {0}) View) (word : ℕ) (laws : HistoryLaws) where
  abbrev key : Begin
  key = table.table.shared.key

  pub may_look_at_slot : (node slot : ℕ) → (l : Lock) × (l.node ≡ node) × (l.empty ≡ slot) × Holds table.table.shared.key me l → HasWords me.0 node 18 → slot < 16 → word ≡ slot_word node slot → May table id me word (λ n. n) (LooksAtSlot me)
  may_look_at_slot node slot lock has below is =
      let l = lock.0 in
      let node_is = lock.1 in
      let slot_is = lock.2 in
      let within = words_within table id me word laws node lock.3.begin has in
      may table id me word (slot_word l.node l.empty) (λ n. n) (LooksAtSlot me) (omega arith) (omega arith)
      (allows_then (Kept key) 0 id me (slot_word l.node l.empty) (λ n. n) (λ found. SeesSlot l found (found == 0) me) (LooksAtSlot me)
      (λ n after told z e. subst (λ y. SeesSlot y n (n == 0) me after) (same_Some l z (sym lock.3.lock ∙ e)) told)
      (looks_at_slot key laws id me l lock.3 (omega arith)))

  pub may_read_parent : (node : ℕ) → (l : Lock) × (l.node ≡ node) × Holds table.table.shared.key me l → HasWords me.0 node 18 → word ≡ parent_word node → May table id me word (λ n. n) (ReadsParent me)
  may_read_parent node lock has is =
      let l = lock.0 in
      let node_is = lock.1 in
      let within = words_within table id me word laws node lock.2.begin has in
      may table id me word (parent_word l.node) (λ n. n) (ReadsParent me) (omega arith) (omega arith)
      (allows_then (Kept key) 0 id me (parent_word l.node) (λ n. n) (λ found after. (after ≡ me) × (found ≡ l.up) × (0 < l.level → (0 < found) × HasWords me.0 found 18)) (ReadsParent me)
      (λ n after told. (told.0, λ z e. subst (λ (y : Lock). (n ≡ y.up) × (0 < y.level → (0 < n) × HasWords me.0 n 18)) (same_Some l z (sym lock.2.lock ∙ e)) (told.1, told.2)))
      (reads_parent key laws id me l lock.2))

  pub may_try_upper : (parent new : ℕ) → (l : Lock) × (l.up ≡ parent) × (0 < l.level) × Holds table.table.shared.key me l → HasWords me.0 parent 18 → word ≡ parent → new ≡ me.0.number + 1
      → May table id me word (λ n. either (n == 0) new n) (TriesUpper me)
  may_try_upper parent new lock has is held =
      let l = lock.0 in
      let up_is = lock.1 in
      let within = words_within table id me word laws parent lock.3.begin has in
      let new_is : suc me.0.number ≡ new = omega arith in
      may table id me word l.up (λ n. either (n == 0) new n) (TriesUpper me) (omega arith) (omega arith)
      (allows_then (Kept key) 0 id me l.up (λ n. either (n == 0) new n) (λ found. TriedUpper l (found == 0) me) (TriesUpper me)
      (λ n after told z e. subst (λ y. TriedUpper y (n == 0) me after) (same_Some l z (sym lock.3.lock ∙ e)) told)
      (subst (λ y. Allows (Kept key) 0 id me l.up (λ n. either (n == 0) y n) (λ found. TriedUpper l (found == 0) me)) new_is (tries_upper key laws id me l lock.3 lock.2)))

  pub may_mark : (node : ℕ) → (l : Lock) × (u : Lock) × (l.node ≡ node) × HoldsBoth table.table.shared.key me l u false → HasWords me.0 node 18 → word ≡ node → May table id me word (λ n. dead_word) (λ found. Marks me)
  may_mark node (l, u, node_is, both) has is =
      let within = words_within table id me word laws node both.begin has in
      may table id me word l.node (λ n. dead_word) (λ found. Marks me) (omega arith) (omega arith)
      (allows_then (Kept key) 0 id me l.node (λ n. dead_word) (λ found after. (after.1 ≡ me.1) × (after.0 ≡ holding me.0 me.0.gate (Some (marked l)) me.0.upper)) (λ found. Marks me)
      (λ n after told. (told.0, λ z e. subst (λ (y : Lock). after.0 ≡ holding me.0 me.0.gate (Some (marked y)) me.0.upper) (same_Some l z (sym both.lock ∙ e)) told.1))
      (marks key laws id me l u both))

  pub may_cut_off : TrieLaws → (parent slot x : ℕ) → (l : Lock) × (u : Lock) × (u.node ≡ parent) × (slot ≡ nibble u.key table.table.shared.key.seed u.level) × HoldsBoth table.table.shared.key me l u true → HasWords me.0 parent 18 → word ≡ slot_word parent slot → x ≡ 0
      → May table id me word (λ n. x) (λ found. CutsOff me)
  may_cut_off tries parent slot x (l, u, node_is, slot_is, both) has is empty =
      let within = words_within table id me word laws parent both.begin has in
      let low = nibble_below u.key table.table.shared.key.seed u.level in
      subst (λ y. May table id me word (λ n. y) (λ found. CutsOff me)) (sym empty)
      (may table id me word (slot_word u.node (nibble u.key table.table.shared.key.seed u.level)) (λ n. 0) (λ found. CutsOff me) (omega arith) (omega arith)
      (allows_then (Kept key) 0 id me (slot_word u.node (nibble u.key table.table.shared.key.seed u.level)) (λ n. 0) (λ found after. (after.1 ≡ me.1) × ((d : CutNode) × IsPruned me.0 l d × (after.0 ≡ having_cut (holding me.0 me.0.gate (Some (bare u)) None) (d ∷ [])))) (λ found. CutsOff me)
      (λ n after told. (
        told.0,
        λ y z e f. let cut = told.1 in (
          cut.0,
          subst (λ x. IsPruned me.0 x cut.0) (same_Some l y (sym both.lock ∙ e)) cut.1,
          cut.2 ∙ (λ i. having_cut (holding me.0 me.0.gate (Some (bare (same_Some u z (sym both.upper ∙ f) i))) None) (cut.0 ∷ [])),
        ),
      ))
      (cuts_off key laws tries id me l u both)))
