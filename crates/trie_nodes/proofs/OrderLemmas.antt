-- The order in which a walk passes the keys.
use Rattle.std.proofs.Common.{◌≡◌, ◌⊎◌, inl, inr, ℕ, zero, suc, ◌+◌, ◌<◌, List, [], ◌∷◌, ◌++◌, length, refl, sym, ap, ◌∙◌, arith, length-append}
use Rattle.std.specs.Prelude.{◌↔◌}
use Rattle.std.proofs.Math.Seq.{append_snoc}
use Rattle.trie_nodes.specs.Paths.{nibble, route, Passed}
use Rattle.trie_nodes.proofs.PathLemmas.{nibble-lt, length-route, same_ends}

-- the key's nibbles from a level on are these
abbrev Along : ℕ → ℕ → List ℕ → ℕ → Type 0
Along seed level [] key = Unit {0}
Along seed level (slot ∷ slots) key = (nibble key seed level ≡ slot) × Along seed (suc level) slots key

-- a number below, or equal and then more
abbrev Turn : ℕ → ℕ → Type 0 → Type 0
Turn n slot more = (n < slot) ⊎ ((n ≡ slot) × more)

turn_map : (n slot : ℕ) (A B : Type 0) → (A → B) → Turn n slot A → Turn n slot B
turn_map n slot A B f turn = elim turn [ inl below ↦ inl below | inr here ↦ inr (here.0, f here.1) ]

below_suc : (n slot : ℕ) → n < suc slot → (n < slot) ⊎ (n ≡ slot)
below_suc n slot lt = grind arith

goes_on-to : (seed level slot key : ℕ) (slots : List ℕ) → Passed seed level (slots ++ suc slot ∷ []) key → Passed seed level (slots ++ slot ∷ []) key ⊎ Along seed level (slots ++ slot ∷ []) key
goes_on-to seed level slot key [] passed = elim passed [
  | inl lt ↦ elim (below_suc (nibble key seed level) slot lt) [ inl below ↦ inl (inl below) | inr here ↦ inr (here, tt) ]
  | inr never ↦ absurd never.1
]
goes_on-to seed level slot key (s ∷ slots) passed = elim passed [
  | inl below ↦ inl (inl below)
  | inr here ↦ elim (goes_on-to seed (suc level) slot key slots here.1) [ inl before ↦ inl (inr (here.0, before)) | inr along ↦ inr (here.0, along) ]
]

passed-more : (seed level slot key : ℕ) (slots : List ℕ) → Passed seed level (slots ++ slot ∷ []) key → Passed seed level (slots ++ suc slot ∷ []) key
passed-more seed level slot key [] passed = elim passed [ inl below ↦ inl (omega (arith, below)) | inr never ↦ absurd never.1 ]
passed-more seed level slot key (s ∷ slots) passed = turn_map (nibble key seed level) s (Passed seed (suc level) (slots ++ slot ∷ []) key) (Passed seed (suc level) (slots ++ suc slot ∷ []) key) (passed-more seed (suc level) slot key slots) passed

along-passed : (seed level slot key : ℕ) (slots : List ℕ) → Along seed level (slots ++ slot ∷ []) key → Passed seed level (slots ++ suc slot ∷ []) key
along-passed seed level slot key [] along = inl (omega (arith, along.0))
along-passed seed level slot key (s ∷ slots) along = inr (along.0, along-passed seed (suc level) slot key slots along.1)

along-once : (seed level slot key : ℕ) (slots : List ℕ) → Along seed level (slots ++ slot ∷ []) key → Passed seed level (slots ++ slot ∷ []) key → ⊥
along-once seed level slot key [] along passed = elim passed [ inl below ↦ absurd (omega (arith, along.0, below)) | inr never ↦ absurd never.1 ]
along-once seed level slot key (s ∷ slots) along passed = elim passed [ inl below ↦ absurd (omega (arith, along.0, below)) | inr here ↦ along-once seed (suc level) slot key slots along.1 here.1 ]

goes_down-to : (seed level slot key : ℕ) (slots : List ℕ) → Passed seed level (slots ++ slot ∷ 0 ∷ []) key → Passed seed level (slots ++ slot ∷ []) key
goes_down-to seed level slot key [] passed = elim passed [
  | inl below ↦ inl below
  | inr here ↦ elim here.1 [ inl below ↦ absurd (omega (arith, below)) | inr never ↦ absurd never.1 ]
]
goes_down-to seed level slot key (s ∷ slots) passed = turn_map (nibble key seed level) s (Passed seed (suc level) (slots ++ slot ∷ 0 ∷ []) key) (Passed seed (suc level) (slots ++ slot ∷ []) key) (goes_down-to seed (suc level) slot key slots) passed

goes_down-from : (seed level slot key : ℕ) (slots : List ℕ) → Passed seed level (slots ++ slot ∷ []) key → Passed seed level (slots ++ slot ∷ 0 ∷ []) key
goes_down-from seed level slot key [] passed = elim passed [ inl below ↦ inl below | inr never ↦ absurd never.1 ]
goes_down-from seed level slot key (s ∷ slots) passed = turn_map (nibble key seed level) s (Passed seed (suc level) (slots ++ slot ∷ []) key) (Passed seed (suc level) (slots ++ slot ∷ 0 ∷ []) key) (goes_down-from seed (suc level) slot key slots) passed

goes_up-to : (seed level slot key : ℕ) (slots : List ℕ) → Passed seed level (slots ++ slot ∷ 16 ∷ []) key → Passed seed level (slots ++ suc slot ∷ []) key
goes_up-to seed level slot key [] passed = elim passed [
  | inl below ↦ inl (omega (arith, below))
  | inr here ↦ inl (omega (arith, here.0))
]
goes_up-to seed level slot key (s ∷ slots) passed = turn_map (nibble key seed level) s (Passed seed (suc level) (slots ++ slot ∷ 16 ∷ []) key) (Passed seed (suc level) (slots ++ suc slot ∷ []) key) (goes_up-to seed (suc level) slot key slots) passed

goes_up-from : (seed level slot key : ℕ) (slots : List ℕ) → Passed seed level (slots ++ suc slot ∷ []) key → Passed seed level (slots ++ slot ∷ 16 ∷ []) key
goes_up-from seed level slot key [] passed = elim passed [
  | inl lt ↦ elim (below_suc (nibble key seed level) slot lt) [ inl below ↦ inl below | inr here ↦ inr (here, inl (nibble-lt key seed (suc level))) ]
  | inr never ↦ absurd never.1
]
goes_up-from seed level slot key (s ∷ slots) passed = turn_map (nibble key seed level) s (Passed seed (suc level) (slots ++ suc slot ∷ []) key) (Passed seed (suc level) (slots ++ slot ∷ 16 ∷ []) key) (goes_up-from seed (suc level) slot key slots) passed

append_nil : (xs : List ℕ) → xs ++ [] ≡ xs
append_nil [] = refl
append_nil (x ∷ xs) = ap (λ l. x ∷ l) (append_nil xs)

zero_add : (n : ℕ) → 0 + n ≡ n
zero_add n = omega arith

length_cons : (level slot : ℕ) (slots : List ℕ) → level + length (slot ∷ slots) ≡ suc level + length slots
length_cons level slot slots = omega arith

length_snoc : (level slot : ℕ) (before : List ℕ) → length before ≡ level → length (before ++ slot ∷ []) ≡ suc level
length_snoc level slot before len = length-append before (slot ∷ []) ∙ omega (arith, len)

-- the route of a key is the nibbles that it goes along
along-route : (seed level key : ℕ) (before slots : List ℕ) → length before ≡ level → route seed level key ≡ before → Along seed level slots key → route seed (level + length slots) key ≡ before ++ slots
along-route seed level key before [] len is along = let e : level + zero ≡ level = omega arith in ap (λ n. route seed n key) e ∙ is ∙ sym (append_nil before)
along-route seed level key before (slot ∷ slots) len is along =
    let here : route seed (suc level) key ≡ before ++ slot ∷ [] = ap (λ l. l ++ nibble key seed level ∷ []) is ∙ ap (λ n. before ++ n ∷ []) along.0 in
    ap (λ n. route seed n key) (length_cons level slot slots)
    ∙ along-route seed (suc level) key (before ++ slot ∷ []) slots (length_snoc level slot before len) here along.1
    ∙ append_snoc before slot slots

route-along : (seed level key : ℕ) (before slots : List ℕ) → length before ≡ level → route seed (level + length slots) key ≡ before ++ slots → (route seed level key ≡ before) × Along seed level slots key
route-along seed level key before [] len is = let e : level ≡ level + zero = omega arith in (ap (λ n. route seed n key) e ∙ is ∙ append_nil before, tt)
route-along seed level key before (slot ∷ slots) len is =
    let further = route-along seed (suc level) key (before ++ slot ∷ []) slots (length_snoc level slot before len)
    (ap (λ n. route seed n key) (sym (length_cons level slot slots)) ∙ is ∙ sym (append_snoc before slot slots)) in
    let ends = same_ends (route seed level key) before (nibble key seed level) slot (length-route seed level key ∙ sym len) further.0 in
    (ends.0, (ends.1, further.1))

there-along : (seed slot key : ℕ) (slots : List ℕ) → route seed (suc (length slots)) key ≡ slots ++ slot ∷ [] → Along seed 0 (slots ++ slot ∷ []) key
there-along seed slot key slots is =
    let e : length (slots ++ slot ∷ []) ≡ suc (length slots) = length_snoc (length slots) slot slots refl in
    (route-along seed 0 key [] (slots ++ slot ∷ []) refl (ap (λ n. route seed n key) (zero_add (length (slots ++ slot ∷ [])) ∙ e) ∙ is)).1

along-there : (seed slot key : ℕ) (slots : List ℕ) → Along seed 0 (slots ++ slot ∷ []) key → route seed (suc (length slots)) key ≡ slots ++ slot ∷ []
along-there seed slot key slots along =
    let e : length (slots ++ slot ∷ []) ≡ suc (length slots) = length_snoc (length slots) slot slots refl in
    ap (λ n. route seed n key) (sym (zero_add (length (slots ++ slot ∷ [])) ∙ e)) ∙ along-route seed 0 key [] (slots ++ slot ∷ []) refl refl along

-- from a slot to the next a walk passes the keys of the slot
pub passed-next : (seed slot key : ℕ) (slots : List ℕ) → Passed seed 0 (slots ++ suc slot ∷ []) key ↔ (Passed seed 0 (slots ++ slot ∷ []) key ⊎ (route seed (suc (length slots)) key ≡ slots ++ slot ∷ []))
passed-next seed slot key slots = (
  λ passed. elim (goes_on-to seed 0 slot key slots passed) [ inl before ↦ inl before | inr along ↦ inr (along-there seed slot key slots along) ],
  λ either. elim either [ inl before ↦ passed-more seed 0 slot key slots before | inr there ↦ along-passed seed 0 slot key slots (there-along seed slot key slots there) ],
)

-- which it hadn't passed
pub passed-once : (seed slot key : ℕ) (slots : List ℕ) → route seed (suc (length slots)) key ≡ slots ++ slot ∷ [] → Passed seed 0 (slots ++ slot ∷ []) key → ⊥
passed-once seed slot key slots there = along-once seed 0 slot key slots (there-along seed slot key slots there)

pub passed-down : (seed slot key : ℕ) (slots : List ℕ) → Passed seed 0 (slots ++ slot ∷ 0 ∷ []) key ↔ Passed seed 0 (slots ++ slot ∷ []) key
passed-down seed slot key slots = (goes_down-to seed 0 slot key slots, goes_down-from seed 0 slot key slots)

pub passed-up : (seed slot key : ℕ) (slots : List ℕ) → Passed seed 0 (slots ++ slot ∷ 16 ∷ []) key ↔ Passed seed 0 (slots ++ suc slot ∷ []) key
passed-up seed slot key slots = (goes_up-to seed 0 slot key slots, goes_up-from seed 0 slot key slots)

pub passed-all : (seed key : ℕ) → Passed seed 0 (16 ∷ []) key
passed-all seed key = inl (nibble-lt key seed 0)
