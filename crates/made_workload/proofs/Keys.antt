-- Whose a key is.
use Rattle.std.proofs.Common.{◌≡◌, ℕ, ◌+◌, ◌/◌, ◌%◌, ◌<◌, Bool, true, false, ◌||◌, List, [], ◌∷◌, ◌++◌, map, take, get_or, codes, refl, sym, ap, ◌∙◌, inl, inr, ◌⊎◌, arith}
use Rattle.std.specs.Fmt.{decimal}
use Rattle.std.specs.List.{flat_map, list_any}
use Rattle.std.specs.Str.{bytes_eq}
use Rattle.std.proofs.lemmas.Slice.Eq.{bytes_eq-Decides}
use Rattle.std.proofs.lemmas.Fmt.{decimal_digit}
use Rattle.workload.specs.Draft.{keys_of}
use Rattle.made_workload.specs.Generated.{key_of, in_twos, script_by, drawn_for}
use Rattle.made_workload.proofs.Scripts.{round_key, script_keys}

-- what the keys of a worker begin with
abbrev pub mark_of : ℕ → List ℕ
mark_of worker = codes "k" ++ decimal worker ++ codes "_"

pub key_marked : (worker number : ℕ) → worker < 8 → take 3 (key_of worker number) ≡ mark_of worker
key_marked worker number there =
    let digit = decimal_digit worker (omega arith) in
    ap (λ (d : List ℕ). take 3 (codes "k" ++ d ++ codes "_" ++ decimal number)) digit ∙ ap (λ (d : List ℕ). codes "k" ++ d ++ codes "_") (sym digit)

first_or_later : (a b : Bool) → (a || b) ≡ true → (a ≡ true) ⊎ (b ≡ true)
first_or_later true b h = inl refl
first_or_later false b h = inr h

-- the keys of rounds
round_marked : (worker : ℕ) (rounds : List (ℕ × ℕ)) (key : List ℕ) → worker < 8 → list_any (bytes_eq key) (map (round_key worker) rounds) ≡ true → take 3 key ≡ mark_of worker
round_marked worker [] key there h = absurd cc
round_marked worker (words ∷ rounds) key there h = elim (first_or_later (bytes_eq key (round_key worker words)) (list_any (bytes_eq key) (map (round_key worker) rounds)) h) [
  | inl this ↦ ap (take 3) ((bytes_eq-Decides key (round_key worker words)).0 this) ∙ key_marked worker (words.1 / 4 % 64) there
  | inr later ↦ round_marked worker rounds key there later
]

pub key_begins : (seed worker : ℕ) (key : List ℕ) → worker < 8 → list_any (bytes_eq key) (flat_map keys_of (script_by worker (drawn_for seed worker))) ≡ true → take 3 key ≡ mark_of worker
key_begins seed worker key there h =
    let rounds = in_twos (drawn_for seed worker) in
    round_marked worker rounds key there (ap (list_any (bytes_eq key)) (sym (script_keys worker rounds)) ∙ h)

-- workers have marks of their own
pub marks_apart : (worker other : ℕ) → worker < 8 → other < 8 → mark_of worker ≡ mark_of other → worker ≡ other
marks_apart worker other there too same =
    let here : (w : ℕ) → w < 8 → get_or (mark_of w) 1 0 ≡ 48 + w = λ w below. ap (λ (d : List ℕ). get_or (codes "k" ++ d ++ codes "_") 1 0) (decimal_digit w (omega arith)) in
    let byte : 48 + worker ≡ 48 + other = sym (here worker there) ∙ ap (λ (mark : List ℕ). get_or mark 1 0) same ∙ here other too in
    omega arith

pub key_apart : (seed worker other : ℕ) (key : List ℕ) → worker < 8 → other < 8 → list_any (bytes_eq key) (flat_map keys_of (script_by worker (drawn_for seed worker))) ≡ true
    → list_any (bytes_eq key) (flat_map keys_of (script_by other (drawn_for seed other))) ≡ true → worker ≡ other
key_apart seed worker other key there too h k = marks_apart worker other there too (sym (key_begins seed worker key there h) ∙ key_begins seed other key too k)
