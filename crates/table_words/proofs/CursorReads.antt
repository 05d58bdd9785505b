-- A table's own seats may make the steps of a cursor.
use Rattle.std.proofs.Common.{◌≡◌, ℕ, ◌+◌, ◌<◌, ◌≤◌, true, List, [], ◌∷◌, ◌++◌, length, None, sym, subst, arith}
use Rattle.atomic_table.specs.Table.{Me, Allows}
use Rattle.table_rule.specs.declared.begin.Begin.{Begin}
use Rattle.table_words.specs.declared.words.TableWords.{TableWords}
use Rattle.table_rule.specs.declared.view.Spot.{Spot}
use Rattle.table_rule.specs.declared.view.View.{View}
use Rattle.trie_nodes.specs.Layout.{slot_word}
use Rattle.trie_nodes.specs.Slots.{slot_in}
use Rattle.table_rule.specs.Cursors.{BeginsCursor, SweepsSlot, GoesUp, ShowsNone, Sweeping, StandsIn}
use Rattle.table_words.specs.Laws.{HistoryLaws}
use Rattle.table_rule.specs.Layout.{root_word, size_of}
use Rattle.table_rule.specs.Rule.{Kept}
use Rattle.table_words.specs.SweepLaws.{SweepLaws}
use Rattle.table_rule.specs.Walking.{HasWords}
use Rattle.table_words.proofs.CursorSteps.{sweeps_slot, moves_up, shows_none}
use Rattle.table_words.proofs.Mounting.{begins_cursor}

module _ (table : TableWords) (laws : HistoryLaws) (sweep : SweepLaws) (id : ℕ) (me : Me (Unit {0}) View) where
  abbrev key : Begin
  key = table.table.shared.key

  -- a word of the table, on which the seat may make a read
  abbrev May : ℕ → (ℕ → Me (Unit {0}) View → Type 0) → Type 0
  May word then = (word < table.table.shared.table_id.words) × Allows (Kept table.table.shared.key) table.table.shared.table_id.slots id me word (λ n. n) then

  may : (word : ℕ) (then : ℕ → Me (Unit {0}) View → Type 0) → word < size_of key → Allows (Kept key) 0 id me word (λ n. n) then → May word then
  may word then inside allows = let sized = table.sized.0 in (omega arith, subst (λ slots. Allows (Kept key) slots id me word (λ n. n) then) (sym table.sized.1) allows)

  pub may_sweep : (z : Spot) (node slot word : ℕ) → Sweeping table.table.shared.key me z → StandsIn z node slot → HasWords me.0 node 18 → slot < 16 → word ≡ slot_word node slot → May word (λ found. SweepsSlot me (slot_in found))
  may_sweep z node slot word with_cursor stands_in has inside is =
      let within : node + 18 ≤ size_of key = subst (λ (k : Begin). node + 18 ≤ size_of k) with_cursor.begin has.0 in
      may word (λ found. SweepsSlot me (slot_in found)) (omega arith) (subst (λ i. Allows (Kept key) 0 id me i (λ n. n) (λ found. SweepsSlot me (slot_in found))) (sym is) (sweeps_slot key laws sweep id me z node slot with_cursor stands_in inside))

  pub may_rise : (z : Spot) (node slot : ℕ) (front above : List ℕ) → Sweeping table.table.shared.key me z → z.slots ≡ front ++ slot ∷ 16 ∷ [] → z.nodes ≡ above ++ node ∷ [] → May 0 (GoesUp me)
  may_rise z node slot front above with_cursor slots_are nodes_are = may 0 (GoesUp me) (omega arith) (moves_up key laws sweep id me z 0 node slot front above with_cursor slots_are nodes_are)

  pub may_show_none : (z : Spot) → Sweeping table.table.shared.key me z → z.slots ≡ 16 ∷ [] → May 0 (ShowsNone me)
  may_show_none z with_cursor ended = may 0 (ShowsNone me) (omega arith) (shows_none key laws sweep id me z 0 with_cursor ended)

  pub may_begin : (m told before word : ℕ) → me.0.live ≡ true → me.0.begin ≡ table.table.shared.key → 0 < length me.0.owns → me.0.walk ≡ None → m < table.table.shared.key.maps → told ≡ m → word ≡ root_word table.table.shared.key m → May word (BeginsCursor told before me)
  may_begin m told before word live begin some_owns nowhere below same is =
      let here = sym is in
      may word (BeginsCursor told before me) (omega arith) (subst (λ (x : ℕ × ℕ). Allows (Kept key) 0 id me x.0 (λ n. n) (BeginsCursor x.1 before me)) (λ i. (here i, sym same i)) (begins_cursor key laws sweep id me m before live begin some_owns nowhere below))
