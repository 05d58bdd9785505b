-- Histories in two parts: what they leave, whether they are legal, and whose their entries are.
use Rattle.std.proofs.Common.{◌≡◌, ◌≢◌, ℕ, zero, suc, ◌+◌, ◌<◌, ◌≤◌, Bool, true, false, ◌==◌, cond, List, [], ◌∷◌, ◌++◌, length, set, Some, slice_get, ◌⊎◌, inl, inr, refl, sym, ap, ◌∙◌, subst, arith, append-nil}
use Rattle.std.specs.FinMap.{empty, nat_cmp-IsAntisymmetric}
use Rattle.std.proofs.lemmas.Cmp.{nat_cmp_total}
use Rattle.std.proofs.lemmas.List.{take-append-le, take_all, length-set, set-get_or}
use Rattle.std.proofs.lemmas.Option.{none-some, same_Some}
use Rattle.std.proofs.lemmas.Bool.{eqb-true, eq-eqb}
use Rattle.sync_types.specs.declared.atomic_object.Number.{Number}
use Rattle.sync_types.specs.declared.atomic_object.Number.TheVariants.{Bool as Truth}
use Rattle.sync_types.specs.declared.atomic_object.AtomicCall.{AtomicCall}
use Rattle.sync_types.specs.declared.atomic_object.AtomicCall.TheVariants.{Load, Store, Swap, Add, And, Or, CompareAndSwap}
use Rattle.sync_model.specs.declared.item.SharedCall.{SharedCall}
use Rattle.sync_model.specs.declared.item.SharedCall.TheVariants.{Map, Begin, Next, Atomic}
use Rattle.sync_model.specs.declared.item.SharedEntry.{SharedEntry}
use Rattle.sync_model.specs.declared.item.Item.{Item}
use Rattle.sync_types.specs.SequentialMap.{map_after}
use Rattle.sync_types.specs.SequentialAtomic.{atomic_after, is_atomic_entry}
use Rattle.sync_model.specs.SharedHistory.{Contents, map_at, number_at, IsReply, is_entry, shared_after, contents_after, contents_at, IsLegal, entries_from, entries_by, entry_of, marked_in, history_with}
use Rattle.sync_types.proofs.MapLemmas as on_maps

module _ {A : Type 0} where
  -- an item of a list's first part is an item of the list
  pub get_left : (xs ys : List A) (i : ℕ) (x : A) → slice_get xs i ≡ Some x → slice_get (xs ++ ys) i ≡ Some x
  get_left [] ys i x e = absurd (none-some x e)
  get_left (a ∷ xs) ys zero x e = e
  get_left (a ∷ xs) ys (suc i) x e = get_left xs ys i x e

  -- and the other way round, below the first part's length
  pub get_front : (xs ys : List A) (i : ℕ) (x : A) → i < length xs → slice_get (xs ++ ys) i ≡ Some x → slice_get xs i ≡ Some x
  get_front [] ys i x below e = absurd (omega arith)
  get_front (a ∷ xs) ys zero x below e = e
  get_front (a ∷ xs) ys (suc i) x below e = get_front xs ys i x (omega arith) e

  -- an item of a list with one more is one of the list, or the last
  pub get_on : (xs : List A) (z x : A) (i : ℕ) → slice_get (xs ++ z ∷ []) i ≡ Some x → (slice_get xs i ≡ Some x) ⊎ ((i ≡ length xs) × (x ≡ z))
  get_on [] z x zero e = inr (refl, sym (same_Some z x e))
  get_on [] z x (suc i) e = absurd (none-some x e)
  get_on (a ∷ xs) z x zero e = inl e
  get_on (a ∷ xs) z x (suc i) e = elim (get_on xs z x i e) [ inl h ↦ inl h | inr h ↦ inr (ap suc h.0, h.1) ]

  pub get_last : (xs : List A) (z : A) → slice_get (xs ++ z ∷ []) (length xs) ≡ Some z
  get_last [] z = refl
  get_last (a ∷ xs) z = get_last xs z

  pub get_mid : (xs ys : List A) (z : A) → slice_get (xs ++ z ∷ ys) (length xs) ≡ Some z
  get_mid [] ys z = refl
  get_mid (a ∷ xs) ys z = get_mid xs ys z

-- a call leaves as many maps and atomics as there were
pub maps_after : (call : SharedCall) (contents : Contents) → length (shared_after call contents).maps ≡ length contents.maps
maps_after (Map m call) contents = length-set contents.maps m (map_after call (map_at contents m))
maps_after (Begin m) contents = refl
maps_after (Next begin) contents = refl
maps_after (Atomic a call) contents = refl

pub numbers_after : (call : SharedCall) (contents : Contents) → length (shared_after call contents).numbers ≡ length contents.numbers
numbers_after (Map m call) contents = refl
numbers_after (Begin m) contents = refl
numbers_after (Next begin) contents = refl
numbers_after (Atomic a call) contents = length-set contents.numbers a (atomic_after call (number_at contents a))

pub maps_long : (start : Contents) (history : List SharedEntry) → length (contents_after start history).maps ≡ length start.maps
maps_long start [] = refl
maps_long start (entry ∷ later) = maps_long (shared_after entry.call start) later ∙ maps_after entry.call start

pub numbers_long : (start : Contents) (history : List SharedEntry) → length (contents_after start history).numbers ≡ length start.numbers
numbers_long start [] = refl
numbers_long start (entry ∷ later) = numbers_long (shared_after entry.call start) later ∙ numbers_after entry.call start

pub contents_both : (start : Contents) (earlier later : List SharedEntry) → contents_after start (earlier ++ later) ≡ contents_after (contents_after start earlier) later
contents_both start [] later = refl
contents_both start (entry ∷ earlier) later = contents_both (shared_after entry.call start) earlier later

-- what comes later changes nothing of the contents before
pub contents_same : (start : Contents) (earlier later : List SharedEntry) (n : ℕ) → n ≤ length earlier → contents_at start (earlier ++ later) n ≡ contents_at start earlier n
contents_same start earlier later n within = ap (contents_after start) (take-append-le n earlier later within)

pub contents_all : (start : Contents) (history : List SharedEntry) (n : ℕ) → length history ≤ n → contents_at start history n ≡ contents_after start history
contents_all start history n past = ap (contents_after start) (take_all n history past)

pub legal_apart : (start : Contents) (earlier later : List SharedEntry) → IsLegal start (earlier ++ later) → IsLegal start earlier × IsLegal (contents_after start earlier) later
legal_apart start [] later legal = (tt, legal)
legal_apart start (entry ∷ earlier) later legal = let rest = legal_apart (shared_after entry.call start) earlier later legal.2 in ((legal.0, legal.1, rest.0), rest.1)

pub legal_joined : (start : Contents) (earlier later : List SharedEntry) → IsLegal start earlier → IsLegal (contents_after start earlier) later → IsLegal start (earlier ++ later)
legal_joined start [] later front back = back
legal_joined start (entry ∷ earlier) later front back = (front.0, front.1, legal_joined (shared_after entry.call start) earlier later front.2 back)

-- an entry is legal after those before it
pub legal_at : (start : Contents) (history : List SharedEntry) (n : ℕ) (entry : SharedEntry) → IsLegal start history → slice_get history n ≡ Some entry
    → (is_entry entry.call (contents_at start history n) ≡ true) × IsReply entry.call entry.reply (contents_at start history n)
legal_at start [] n entry legal e = absurd (none-some entry e)
legal_at start (first ∷ later) zero entry legal e = subst (λ (x : SharedEntry). (is_entry x.call start ≡ true) × IsReply x.call x.reply start) (same_Some first entry e) (legal.0, legal.1)
legal_at start (first ∷ later) (suc n) entry legal e = legal_at (shared_after first.call start) later n entry legal.2 e

cond_append : {A : Type 0} (b : Bool) (x : A) (all front back : List A) → all ≡ front ++ back → cond b (x ∷ all) all ≡ cond b (x ∷ front) front ++ back
cond_append true x all front back e = ap (λ xs. x ∷ xs) e
cond_append false x all front back e = e

module _ (c : ℕ) where
  pub entries_both : (n : ℕ) (earlier later : List SharedEntry) → entries_from n c (earlier ++ later) ≡ entries_from n c earlier ++ entries_from (n + length earlier) c later
  entries_both n [] later = ap (λ k. entries_from k c later) (omega arith)
  entries_both n (entry ∷ earlier) later =
      let same : (n + 1) + length earlier ≡ n + length (entry ∷ earlier) = omega arith in
      cond_append (entry.caller == c) (n, entry) (entries_from (n + 1) c (earlier ++ later)) (entries_from (n + 1) c earlier) (entries_from (n + length (entry ∷ earlier)) c later)
      (entries_both (n + 1) earlier later ∙ ap (λ k. entries_from (n + 1) c earlier ++ entries_from k c later) same)

  pub marked_both : (earlier later : List Item) → marked_in c (earlier ++ later) ≡ marked_in c earlier ++ marked_in c later
  marked_both [] later = refl
  marked_both (x ∷ earlier) later = cond_append x.entry (x.place, entry_of c x) (marked_in c (earlier ++ later)) (marked_in c earlier) (marked_in c later) (marked_both earlier later)

  -- one caller's entry, and another's
  pub entries_own : (n : ℕ) (entry : SharedEntry) → entry.caller ≡ c → entries_from n c (entry ∷ []) ≡ (n, entry) ∷ []
  entries_own n entry same = let one : List (ℕ × SharedEntry) = (n, entry) ∷ [] in ap (λ b. cond b one []) (eq-eqb entry.caller c same)

  pub entries_other : (n : ℕ) (entry : SharedEntry) → entry.caller ≢ c → entries_from n c (entry ∷ []) ≡ []
  entries_other n entry other = let one : List (ℕ × SharedEntry) = (n, entry) ∷ [] in by_test one (entry.caller == c) refl
    where
      by_test : (one : List (ℕ × SharedEntry)) (b : Bool) → (entry.caller == c) ≡ b → cond b one [] ≡ []
      by_test one true e = absurd (other (eqb-true entry.caller c e))
      by_test one false e = refl

-- one more entry is its caller's
pub entries_one : (c : ℕ) (history : List SharedEntry) (entry : SharedEntry) → entry.caller ≡ c → entries_by c (history ++ entry ∷ []) ≡ entries_by c history ++ (length history, entry) ∷ []
entries_one c history entry mine =
    let Pairs : ℕ → List (ℕ × SharedEntry) = λ n. (n, entry) ∷ [] in
    let number : 0 + length history ≡ length history = omega arith in
    entries_both c 0 history (entry ∷ []) ∙ ap (λ xs. entries_by c history ++ xs) (entries_own c (0 + length history) entry mine ∙ ap Pairs number)

pub entries_none : (c : ℕ) (history : List SharedEntry) (entry : SharedEntry) → entry.caller ≢ c → entries_by c (history ++ entry ∷ []) ≡ entries_by c history
entries_none c history entry other = entries_both c 0 history (entry ∷ []) ∙ ap (λ xs. entries_by c history ++ xs) (entries_other c (0 + length history) entry other) ∙ append-nil (entries_by c history)

number_unchanged : (call : AtomicCall) (held : Number) → is_atomic_entry call held ≡ false → atomic_after call held ≡ held
number_unchanged Load held e = refl
number_unchanged (Store value) held e = absurd cc
number_unchanged (Swap value) held e = absurd cc
number_unchanged (Add operand) held e = absurd cc
number_unchanged (And operand) held e = absurd cc
number_unchanged (Or operand) held e = absurd cc
number_unchanged (CompareAndSwap old new) held e = ap (λ b. cond b new held) e

-- a call that is no entry changes nothing
pub unchanged : (call : SharedCall) (contents : Contents) → is_entry call contents ≡ false → shared_after call contents ≡ contents
unchanged (Map m call) contents e =
    ap (λ held. record contents { maps = set contents.maps m held }) (on_maps.unchanged (nat_cmp_total, nat_cmp-IsAntisymmetric) (map_at contents m) call e)
    ∙ ap (λ maps. record contents { maps = maps }) (set-get_or contents.maps m empty)
unchanged (Begin m) contents e = refl
unchanged (Next begin) contents e = refl
unchanged (Atomic a call) contents e =
    ap (λ held. record contents { numbers = set contents.numbers a held }) (number_unchanged call (number_at contents a) e)
    ∙ ap (λ numbers. record contents { numbers = numbers }) (set-get_or contents.numbers a (Truth false))

-- what a call adds to the history
abbrev pub added : ℕ → Item → List SharedEntry
added c x = cond x.entry (entry_of c x ∷ []) []

pub added_is : (history : List SharedEntry) (c : ℕ) (x : Item) → history_with history c x ≡ history ++ added c x
added_is history c x = by_test x.entry
  where
    by_test : (b : Bool) → cond b (history ++ entry_of c x ∷ []) history ≡ history ++ cond b (entry_of c x ∷ []) []
    by_test true = refl
    by_test false = sym (append-nil history)
