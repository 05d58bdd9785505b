-- Words of slots and back.
use Rattle.std.proofs.Common.{◌≡◌, ◌≢◌, ◌⊎◌, inl, inr, ℕ, ◌+◌, ◌*◌, ◌/◌, ◌%◌, ◌<◌, ◌==◌, true, false, cond, sym, ap, ◌∙◌, arith}
use Rattle.std.proofs.lemmas.Bool.Decides.{eqb_tells}
use Rattle.trie_nodes.specs.declared.slot.Slot.TheVariants.{Empty, Node, Entry}
use Rattle.trie_nodes.specs.Slots.{word_of_slot, slot_in}

-- a test of two numbers
pub test-same : (a b : ℕ) → a ≡ b → (a == b) ≡ true
test-same a b e = elim (eqb_tells a b) [ inl same ↦ same.0 | inr apart ↦ absurd (apart.1 e) ]

pub test-apart : (a b : ℕ) → a ≢ b → (a == b) ≡ false
test-apart a b ne = elim (eqb_tells a b) [ inl same ↦ absurd (ne same.1) | inr apart ↦ apart.0 ]

pub slot_in-zero : (word : ℕ) → word ≡ 0 → slot_in word ≡ Empty
slot_in-zero word e = ap (λ b. cond b Empty (cond (word % 2 == 0) (Node (word / 2)) (Entry (word / 2)))) (test-same word 0 e)

pub slot_in-even : (word : ℕ) → word ≢ 0 → word % 2 ≡ 0 → slot_in word ≡ Node (word / 2)
slot_in-even word ne even = ap (λ b. cond b Empty (cond (word % 2 == 0) (Node (word / 2)) (Entry (word / 2)))) (test-apart word 0 ne) ∙ ap (λ b. cond b (Node (word / 2)) (Entry (word / 2))) (test-same (word % 2) 0 even)

pub slot_in-odd : (word : ℕ) → word % 2 ≡ 1 → slot_in word ≡ Entry (word / 2)
slot_in-odd word odd =
    let ne : word ≢ 0 = omega arith in
    let uneven : word % 2 ≢ 0 = omega arith in
    ap (λ b. cond b Empty (cond (word % 2 == 0) (Node (word / 2)) (Entry (word / 2)))) (test-apart word 0 ne) ∙ ap (λ b. cond b (Node (word / 2)) (Entry (word / 2))) (test-apart (word % 2) 0 uneven)

pub slot_in-node : (word place : ℕ) → 0 < place → word ≡ 2 * place → slot_in word ≡ Node place
slot_in-node word place placed e = let half : word / 2 ≡ place = omega arith in slot_in-even word (omega arith) (omega arith) ∙ ap Node half

pub slot_in-entry : (word place : ℕ) → word ≡ 2 * place + 1 → slot_in word ≡ Entry place
slot_in-entry word place e = let half : word / 2 ≡ place = omega arith in slot_in-odd word (omega arith) ∙ ap Entry half

-- a word of each kind
pub word_kinds : (word : ℕ) → ((word ≡ 0) × (slot_in word ≡ Empty)) ⊎ (((word ≢ 0) × (word % 2 ≡ 0) × (slot_in word ≡ Node (word / 2))) ⊎ ((word % 2 ≡ 1) × (slot_in word ≡ Entry (word / 2))))
word_kinds word = elim (eqb_tells word 0) [
  | inl same ↦ inl (same.1, slot_in-zero word same.1)
  | inr apart ↦
      elim (eqb_tells (word % 2) 0) [
        | inl even ↦ inr (inl (apart.1, even.1, slot_in-even word apart.1 even.1))
        | inr uneven ↦ let odd : word % 2 ≡ 1 = omega (arith, uneven.1) in inr (inr (odd, slot_in-odd word odd))
      ]
]

-- the word of what a word says is the word
pub word_of_slot-slot_in : (word : ℕ) → word_of_slot (slot_in word) ≡ word
word_of_slot-slot_in word = elim (word_kinds word) [
  | inl empty ↦ ap word_of_slot empty.1 ∙ sym empty.0
  | inr full ↦
      elim full [
        | inl node ↦ ap word_of_slot node.2 ∙ omega (arith, node.1)
        | inr entry ↦ ap word_of_slot entry.1 ∙ omega (arith, entry.0)
      ]
]
