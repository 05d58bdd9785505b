-- The routes of two keys agree exactly as far as their hashes have the same low bits.
use Rattle.std.proofs.Common.{◌≡◌, ◌≢◌, ◌⊎◌, inl, inr, ℕ, zero, suc, ◌+◌, ◌-◌, ◌*◌, ◌/◌, ◌%◌, ◌^◌, ◌<◌, ◌≤◌, bit_xor, List, [], ◌∷◌, ◌++◌, length, get_or, take, refl, sym, ap, subst, ◌∙◌, arith, length-append}
use Rattle.std.specs.Int.Bits.{xor_assoc, xor_self, xor_zero_r}
use Rattle.std.proofs.Math.Nat.{mod-lt, mod-one, mod-eq_of_lt, pow-le-pow_right}
use Rattle.std.proofs.Math.Seq.{get_or-append_seam, take-append_seam}
use Rattle.std.proofs.lemmas.Bool.{cases_eq}
use Rattle.std.proofs.lemmas.Nat.{pow_pos, mod-pow-add, mod_low, shr_high, xor_lt, same_from_place, mul-add-lt}
use Rattle.trie_nodes.specs.Paths.{nibble, route}

pub nibble-lt : (key seed level : ℕ) → nibble key seed level < 16
unfolding nibble
nibble-lt key seed level = mod-lt (bit_xor key seed / 2 ^ (4 * level)) (omega arith)

pub nibble-bits : (key seed level : ℕ) → nibble key seed level ≡ bit_xor key seed / 2 ^ (4 * level) % 2 ^ 4
unfolding nibble
nibble-bits key seed level = refl

pub length-route : (seed level key : ℕ) → length (route seed level key) ≡ level
length-route seed zero key = refl
length-route seed (suc level) key = length-append (route seed level key) (nibble key seed level ∷ []) ∙ ap (λ n. n + 1) (length-route seed level key) ∙ omega arith

-- two lists of one length that are equal have equal last elements, and are equal before
pub same_ends : (xs ys : List ℕ) (x y : ℕ) → length xs ≡ length ys → xs ++ x ∷ [] ≡ ys ++ y ∷ [] → (xs ≡ ys) × (x ≡ y)
same_ends xs ys x y len same = (
  sym (take-append_seam xs (x ∷ [])) ∙ ap (take (length xs)) same ∙ ap (λ n. take n (ys ++ y ∷ [])) len ∙ take-append_seam ys (y ∷ []),
  sym (get_or-append_seam xs x [] 0) ∙ ap (λ l. get_or l (length xs) 0) same ∙ ap (λ n. get_or (ys ++ y ∷ []) n 0) len ∙ get_or-append_seam ys y [] 0,
)

-- routes that agree one level further down agree here, and have the same nibble of this level
pub route-parts : (seed level key other : ℕ) → route seed (suc level) key ≡ route seed (suc level) other → (route seed level key ≡ route seed level other) × (nibble key seed level ≡ nibble other seed level)
route-parts seed level key other same =
    same_ends (route seed level key) (route seed level other) (nibble key seed level) (nibble other seed level) (length-route seed level key ∙ sym (length-route seed level other)) same

pub route-join : (seed level key other : ℕ) → route seed level key ≡ route seed level other → nibble key seed level ≡ nibble other seed level → route seed (suc level) key ≡ route seed (suc level) other
route-join seed level key other same same_nibble = cc

-- routes that agree some levels down agree here
pub route-same : (seed level more key other : ℕ) → route seed (level + more) key ≡ route seed (level + more) other → route seed level key ≡ route seed level other
route-same seed level zero key other same = let e : level + zero ≡ level = omega arith in subst (λ n. route seed n key ≡ route seed n other) e same
route-same seed level (suc more) key other same =
    let e : level + suc more ≡ suc (level + more) = omega arith in
    let same' = subst (λ n. route seed n key ≡ route seed n other) e same in
    route-same seed level more key other (route-parts seed (level + more) key other same').0

pub route-above : (seed level below key other : ℕ) → level ≤ below → route seed below key ≡ route seed below other → route seed level key ≡ route seed level other
route-above seed level below key other le same =
    let e : below ≡ level + (below - level) = omega arith in
    route-same seed level (below - level) key other (subst (λ n. route seed n key ≡ route seed n other) e same)

-- and have the same nibbles of all levels above
pub nibble-same : (seed level below key other : ℕ) → level < below → route seed below key ≡ route seed below other → nibble key seed level ≡ nibble other seed level
nibble-same seed level below key other lt same = (route-parts seed level key other (route-above seed (suc level) below key other lt same)).1

-- the low bits of a hash, one nibble more
low-suc : (h level : ℕ) → h % 2 ^ (4 * suc level) ≡ (h / 2 ^ (4 * level) % 2 ^ 4) * 2 ^ (4 * level) + h % 2 ^ (4 * level)
low-suc h level = let e : 4 * suc level ≡ 4 + 4 * level = omega arith in ap (λ n. h % 2 ^ n) e ∙ mod-pow-add h 4 (4 * level)

-- keys whose routes agree have hashes with the same low bits
pub route-low : (seed level key other : ℕ) → route seed level key ≡ route seed level other → bit_xor key seed % 2 ^ (4 * level) ≡ bit_xor other seed % 2 ^ (4 * level)
route-low seed zero key other same = mod-one (bit_xor key seed) ∙ sym (mod-one (bit_xor other seed))
route-low seed (suc level) key other same =
    let parts = route-parts seed level key other same in
    let low = route-low seed level key other parts.0 in
    let one = nibble-bits key seed level in
    let two = nibble-bits other seed level in
    let bits = sym one ∙ parts.1 ∙ two in
    low-suc (bit_xor key seed) level
    ∙ ap (λ n. n * 2 ^ (4 * level) + bit_xor key seed % 2 ^ (4 * level)) bits
    ∙ ap (λ n. (bit_xor other seed / 2 ^ (4 * level) % 2 ^ 4) * 2 ^ (4 * level) + n) low
    ∙ sym (low-suc (bit_xor other seed) level)

-- and the other way round
pub low-route : (seed level key other : ℕ) → bit_xor key seed % 2 ^ (4 * level) ≡ bit_xor other seed % 2 ^ (4 * level) → route seed level key ≡ route seed level other
low-route seed zero key other same = refl
low-route seed (suc level) key other same =
    let joined = sym (low-suc (bit_xor key seed) level) ∙ same ∙ low-suc (bit_xor other seed) level in
    let parts = same_from_place (bit_xor key seed / 2 ^ (4 * level) % 2 ^ 4) (bit_xor key seed % 2 ^ (4 * level)) (bit_xor other seed / 2 ^ (4 * level) % 2 ^ 4) (bit_xor other seed % 2 ^ (4 * level)) (2 ^ (4 * level))
    (mod-lt (bit_xor key seed) (pow_pos (4 * level))) (mod-lt (bit_xor other seed) (pow_pos (4 * level))) joined in
    route-join seed level key other (low-route seed level key other parts.1) (nibble-bits key seed level ∙ parts.0 ∙ sym (nibble-bits other seed level))

-- a key comes back from its hash
pub xor_back : (key seed : ℕ) → bit_xor (bit_xor key seed) seed ≡ key
xor_back key seed = xor_assoc key seed seed ∙ ap (bit_xor key) (xor_self seed) ∙ xor_zero_r key

-- keys with one route of 8 nibbles are equal
pub route-one_to_one : (seed key other : ℕ) → seed < 2 ^ 32 → key < 2 ^ 32 → other < 2 ^ 32 → route seed 8 key ≡ route seed 8 other → key ≡ other
route-one_to_one seed key other fits_seed fits_key fits_other same =
    let low = route-low seed 8 key other same in
    let hash = sym (mod-eq_of_lt (xor_lt 32 key seed fits_key fits_seed)) ∙ low ∙ mod-eq_of_lt (xor_lt 32 other seed fits_other fits_seed) in
    sym (xor_back key seed) ∙ ap (λ h. bit_xor h seed) hash ∙ xor_back other seed

-- two routes agree, or part at some level above
pub route-part : (seed level key other : ℕ) → (route seed level key ≡ route seed level other) ⊎ ((d : ℕ) × (d < level) × (route seed d key ≡ route seed d other) × (nibble key seed d ≢ nibble other seed d))
route-part seed zero key other = inl refl
route-part seed (suc level) key other = elim (route-part seed level key other) [
  | inl same ↦
      elim (cases_eq (nibble key seed level) (nibble other seed level)) [
        | inl same_nibble ↦ inl (route-join seed level key other same same_nibble)
        | inr parts ↦ inr (level, omega arith, same, parts)
      ]
  | inr found ↦ inr (found.0, omega (arith, found.1), found.2, found.3)
]

-- the routes of different keys part
pub different_part : (seed key other : ℕ) → seed < 2 ^ 32 → key < 2 ^ 32 → other < 2 ^ 32 → key ≢ other →
    (d : ℕ) × (d < 8) × (route seed d key ≡ route seed d other) × (nibble key seed d ≢ nibble other seed d)
different_part seed key other fits_seed fits_key fits_other differ = elim (route-part seed 8 key other) [
  | inl same ↦ absurd (differ (route-one_to_one seed key other fits_seed fits_key fits_other same))
  | inr found ↦ found
]

-- a hash that has these low bits and this nibble above them
with_nibble : ℕ → ℕ → ℕ → ℕ
with_nibble low slot level = slot * 2 ^ (4 * level) + low

with_nibble-lt : (low slot level : ℕ) → level < 8 → slot < 16 → low < 2 ^ (4 * level) → with_nibble low slot level < 2 ^ 32
unfolding with_nibble
with_nibble-lt low slot level lt fits low_fits =
    let two : 0 < 2 = omega arith in
    let le : 4 * level ≤ 28 = omega arith in
    let top : 2 ^ (4 * level) ≤ 2 ^ 28 = pow-le-pow_right two le in
    omega (arith, mul-add-lt slot (2 ^ (4 * level)) low 16 fits low_fits)

-- on the path of each key, each slot of each node has a key
pub each_slot_has_key : (seed key level slot : ℕ) → seed < 2 ^ 32 → level < 8 → slot < 16 →
    (other : ℕ) × (other < 2 ^ 32) × (route seed level other ≡ route seed level key) × (nibble other seed level ≡ slot)
unfolding with_nibble
each_slot_has_key seed key level slot fits_seed lt fits =
    let low = bit_xor key seed % 2 ^ (4 * level) in
    let low_fits = mod-lt (bit_xor key seed) (pow_pos (4 * level)) in
    let hash = with_nibble low slot level in
    let back = xor_back hash seed in
    let small : slot % 2 ^ 4 ≡ slot = mod-eq_of_lt fits in (
      bit_xor hash seed,
      xor_lt 32 hash seed (with_nibble-lt low slot level lt fits low_fits) fits_seed,
      low-route seed level (bit_xor hash seed) key (ap (λ h. h % 2 ^ (4 * level)) back ∙ mod_low slot (4 * level) low low_fits),
      nibble-bits (bit_xor hash seed) seed level ∙ ap (λ h. h / 2 ^ (4 * level) % 2 ^ 4) back ∙ ap (λ n. n % 2 ^ 4) (shr_high slot (4 * level) low low_fits) ∙ small,
    )
