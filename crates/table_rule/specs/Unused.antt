-- Words that nothing uses, which are 0.
use Rattle.std.specs.Prelude.{◌≡◌, ◌≢◌, ℕ, ◌+◌, ◌<◌, ◌≤◌, true, List, Some, length, slice_get}
use mathlib.Core.Option.{some}
use lib.ListN.{get_elem?}
use Rattle.table_rule.specs.declared.begin.Begin.{Begin}
use Rattle.table_rule.specs.declared.view.Own.{Own}
use Rattle.table_rule.specs.declared.view.View.{View}
use Rattle.trie_nodes.specs.Layout.{atomic_word}
use Rattle.table_rule.specs.Layout.{root_word, gate_word, heads}
use Rattle.table_rule.specs.Shape.{Shape}

-- none of these callers has drafted word i: it lies before or behind what each has written of its room
abbrev pub IsUndrafted : List Own → ℕ → Type 0
IsUndrafted owns i = (n : ℕ) (own : Own) → slice_get owns n ≡ Some own → own.next ≤ i → own.next + length own.draft ≤ i

-- nothing uses word i: it is no atomic's, no map's root word or gate, and no word of a node or an entry, and no caller of a seat that counts has drafted it
pub record IsUnused (k : Begin) (sh : Shape) (views : List View) (i : ℕ) : Type 0 where
  pub atomic : (a : ℕ) → a < length k.kinds → i ≢ atomic_word a
  pub root : (m : ℕ) → m < k.maps → i ≢ root_word k m
  pub gate : (m : ℕ) → m < k.maps → i ≢ gate_word k m
  pub node : (p : ℕ) → sh.kind_of p ≡ 1 → p ≤ i → p + 18 ≤ i
  pub entry : (p : ℕ) → sh.kind_of p ≡ 2 → p ≤ i → p + 2 ≤ i
  pub draft : (j : ℕ) (v : View) → get_elem? views j ≡ some v → v.live ≡ true → IsUndrafted v.owns i

-- the layout leaves word i out: it stands before the first node, and is no atomic's word, and no map's root word or gate. Word 0 is such a one, and those beside a root word or a gate are
pub record IsLeftOut (k : Begin) (i : ℕ) : Type 0 where
  pub head : i < heads k
  pub atomic : (a : ℕ) → a < length k.kinds → i ≢ atomic_word a
  pub root : (m : ℕ) → m < k.maps → i ≢ root_word k m
  pub gate : (m : ℕ) → m < k.maps → i ≢ gate_word k m
