-- What a walk through a node's slots finds, slot by slot.
use Rattle.std.proofs.Common.{◌≡◌, ◌≢◌, ℕ, zero, suc, ◌+◌, ◌-◌, ◌*◌, ◌^◌, ◌<◌, ◌≤◌, List, [], ◌++◌, length, refl, sym, ap, ◌∙◌, subst, arith, length-append, append_assoc}
use Rattle.std.specs.Prelude.{All}
use Rattle.std.proofs.lemmas.List.{append-nil}
use Rattle.std.proofs.lemmas.List.Elements.{All-drop, All-take}
use Rattle.std.proofs.Math.Nat.{pow-le-pow_right}
use Rattle.std.proofs.Math.Seq.{take-append_seam, drop-append_seam}
use Rattle.trie_nodes.specs.declared.slot.Slot.{Slot}
use Rattle.trie_nodes.specs.declared.slot.Slot.TheVariants.{Empty, Node, Entry}
use Rattle.trie_nodes.specs.Nodes.{slot_at}
use Rattle.trie_nodes.specs.Walks.{slot_pairs, pairs_in_slots, pairs_within}

module _ (words : List ℕ) (node : ℕ) where
  pub no_levels : (levels : ℕ) → levels ≡ 0 → pairs_within words levels node ≡ []
  unfolding pairs_within
  no_levels zero none = refl
  no_levels (suc levels) some = absurd (omega arith)

  pub all_slots : (levels : ℕ) → levels ≢ 0 → pairs_within words levels node ≡ pairs_in_slots words (pairs_within words (levels - 1)) node 16
  unfolding pairs_within
  all_slots zero none = absurd (none refl)
  all_slots (suc levels) some = let e : levels ≡ suc levels - 1 = omega arith in ap (λ n. pairs_in_slots words (pairs_within words n) node 16) e

  module _ (below : ℕ → List (ℕ × ℕ)) where
    pub no_slots : pairs_in_slots words below node 0 ≡ []
    unfolding pairs_in_slots
    no_slots = refl

    pub one_slot : (slot : ℕ) → pairs_in_slots words below node (slot + 1) ≡ pairs_in_slots words below node slot ++ slot_pairs words below (slot_at words node slot)
    unfolding pairs_in_slots
    one_slot slot = let e : slot + 1 ≡ suc slot = omega arith in ap (pairs_in_slots words below node) e

    -- the first slots' pairs come first
    first : (slots more : ℕ) → (behind : List (ℕ × ℕ)) × (pairs_in_slots words below node (slots + more) ≡ pairs_in_slots words below node slots ++ behind)
    unfolding pairs_in_slots
    first slots zero = let e : slots + zero ≡ slots = omega arith in ([], ap (pairs_in_slots words below node) e ∙ sym (append-nil (pairs_in_slots words below node slots)))
    first slots (suc more) =
        let e : slots + suc more ≡ suc (slots + more) = omega arith in
        let rest = first slots more in
        let last = slot_pairs words below (slot_at words node (slots + more)) in
        (rest.0 ++ last, ap (pairs_in_slots words below node) e ∙ ap (λ l. l ++ last) rest.1 ∙ append_assoc (pairs_in_slots words below node slots) rest.0 last)

    -- a slot's pairs lie among all
    among : (slot : ℕ) → slot < 16 → (behind : List (ℕ × ℕ)) × (pairs_in_slots words below node 16 ≡ pairs_in_slots words below node slot ++ (slot_pairs words below (slot_at words node slot) ++ behind))
    among slot inside =
        let rest = first (slot + 1) (15 - slot) in
        let e : 16 ≡ slot + 1 + (15 - slot) = omega arith in (
          rest.0,
          ap (pairs_in_slots words below node) e ∙ rest.1 ∙ ap (λ l. l ++ rest.0) (one_slot slot) ∙ append_assoc (pairs_in_slots words below node slot) (slot_pairs words below (slot_at words node slot)) rest.0,
        )

    pub room_for_slot : (slot : ℕ) (s : Slot) → slot < 16 → slot_at words node slot ≡ s → length (pairs_in_slots words below node slot) + length (slot_pairs words below s) ≤ length (pairs_in_slots words below node 16)
    room_for_slot slot s inside is = subst (λ s. length (pairs_in_slots words below node slot) + length (slot_pairs words below s) ≤ length (pairs_in_slots words below node 16)) is
        (let split = among slot inside in
        let all = ap length split.1 in
        let outer = length-append (pairs_in_slots words below node slot) (slot_pairs words below (slot_at words node slot) ++ split.0) in
        let inner = length-append (slot_pairs words below (slot_at words node slot)) split.0 in
        omega arith)

    pub each_of_slot : (P : ℕ × ℕ → Type 0) (slot : ℕ) (s : Slot) → slot < 16 → slot_at words node slot ≡ s → All P (pairs_in_slots words below node 16) → All P (slot_pairs words below s)
    each_of_slot P slot s inside is all =
        let split = among slot inside in
        let before = pairs_in_slots words below node slot in
        let here = slot_pairs words below (slot_at words node slot) in
        let later = subst (All P) (drop-append_seam before (here ++ split.0)) (All-drop P (length before) (before ++ (here ++ split.0)) (subst (All P) split.1 all)) in
        subst (λ s. All P (slot_pairs words below s)) is (subst (All P) (take-append_seam here split.0) (All-take P (length here) (here ++ split.0) later))

    -- sixteen slots have no more than sixteen times as many as each
    slots_few : (most slots : ℕ) → ((place : ℕ) → length (below place) ≤ most) → 1 ≤ most → length (pairs_in_slots words below node slots) ≤ slots * most
    unfolding pairs_in_slots
    slots_few most zero few some = omega arith
    slots_few most (suc slots) few some =
        let before = slots_few most slots few some in
        let here = in_slot (slot_at words node slots) in
        let both = length-append (pairs_in_slots words below node slots) (slot_pairs words below (slot_at words node slots)) in
        omega arith
      where
        in_slot : (s : Slot) → length (slot_pairs words below s) ≤ most
        in_slot Empty = omega arith
        in_slot (Node place) = few place
        in_slot (Entry entry) = some

some_power : (n : ℕ) → 1 ≤ 16 ^ n
some_power n = let sixteen : 0 < 16 = omega arith in let base : 0 ≤ n = omega arith in pow-le-pow_right sixteen base

within_few : (words : List ℕ) (levels node : ℕ) → length (pairs_within words levels node) ≤ 16 ^ levels
unfolding pairs_within
within_few words zero node = omega arith
within_few words (suc levels) node = let few = slots_few words node (pairs_within words levels) (16 ^ levels) 16 (λ place. within_few words levels place) (some_power levels) in omega arith

-- a node leads to no more pairs than there are keys
pub within_bound : (words : List ℕ) (levels node : ℕ) → levels ≤ 8 → length (pairs_within words levels node) ≤ 2 ^ 32
within_bound words levels node le = let few = within_few words levels node in let sixteen : 0 < 16 = omega arith in let up : 16 ^ levels ≤ 16 ^ 8 = pow-le-pow_right sixteen le in omega arith
