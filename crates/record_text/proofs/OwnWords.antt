-- Each object of a record goes by a word of its own.
use Rattle.std.proofs.Common.{◌≡◌, ℕ, zero, suc, ◌+◌, ◌^◌, ◌<◌, ◌≤◌, Bool, true, false, ◌&&◌, not, cond, eqb, List, [], ◌∷◌, ◌++◌, map, length, slice_get, codes, Option, Some, refl, sym, ap, ◌∙◌, subst, arith}
use Rattle.std.specs.Prelude.{is_some, nat_le, ◌||◌}
use Rattle.std.specs.List.{AllByRecursion, flat_map, list_all, position_from, range_with_len}
use Rattle.std.specs.Str.{bytes_eq}
use Rattle.std.specs.Fmt.{decimal}
use Rattle.std.specs.Option.{option_map_or}
use Rattle.std.proofs.lemmas.Bool.{eq-eqb, false≢true, ne_eqb}
use Rattle.std.proofs.lemmas.Fmt.{decimal_injective, decimal_nonempty}
use Rattle.std.proofs.lemmas.Slice.Eq.{bytes_eq-Decides}
use Rattle.sync_types.specs.Name.{is_letter, is_name, is_name_byte}
use Rattle.sync_types.specs.declared.name.TheConstants.{MAX_NAME}
use Rattle.workload.specs.declared.object.ObjectKind.{ObjectKind}
use Rattle.workload.specs.declared.object.ObjectKind.TheVariants as object_kinds
use Rattle.workload.specs.declared.object.ObjectLine.{ObjectLine}
use Rattle.workload.specs.Draft.{declared_from, is_kind}
use Rattle.workload.specs.Plan.{Plan, refers}
use Rattle.workload.specs.Readable.{may_declare, may_join}
use Rattle.record_text.specs.declared.directory.Named.{Named}
use Rattle.record_text.specs.declared.event.JournalKind.TheVariants as kinds
use Rattle.record_text.specs.ItemLines.{is_named, object_word}
use Rattle.record_text.specs.Journals.{named_in, named_object, named_part, named_parts, number_named, part_count}
use Rattle.record_text.proofs.Decimals.{both, pair}
use Rattle.record_text.proofs.OneItem.{same_some, unequal}
use Rattle.record_text.proofs.SaidLemmas.{found_so}

module _ {A : Type 0} where
  pub each_both : (P : A → Type 0) (xs ys : List A) → AllByRecursion P xs → AllByRecursion P ys → AllByRecursion P (xs ++ ys)
  each_both P [] ys first second = second
  each_both P (x ∷ xs) ys first second = (first.0, each_both P xs ys first.1 second)

  pub each_split : (P : A → Type 0) (xs ys : List A) → AllByRecursion P (xs ++ ys) → AllByRecursion P xs × AllByRecursion P ys
  each_split P [] ys each = (tt, each)
  each_split P (x ∷ xs) ys each = let rest = each_split P xs ys each.1 in ((each.0, rest.0), rest.1)

  pub each_mono : (P Q : A → Type 0) → ((x : A) → P x → Q x) → (xs : List A) → AllByRecursion P xs → AllByRecursion Q xs
  each_mono P Q leads [] each = tt
  each_mono P Q leads (x ∷ xs) each = (leads x each.0, each_mono P Q leads xs each.1)

  pub each_at : (P : A → Type 0) (xs : List A) (i : ℕ) (x : A) → AllByRecursion P xs → slice_get xs i ≡ Some x → P x
  each_at P [] i x each at = absurd cc
  each_at P (y ∷ xs) zero x each at = subst P (let same : y ≡ x = cc in same) each.0
  each_at P (y ∷ xs) (suc i) x each at = each_at P xs i x each.1 at

  -- no two have one word
  module _ (word : A → List ℕ) where
    abbrev pub Apart : List A → Type 0
    Apart [] = Unit {0}
    Apart (x ∷ xs) = AllByRecursion (λ y. word x ≡ word y → ⊥) xs × Apart xs

    -- words of two sorts differ
    apart_both : (P Q : A → Type 0) → ((x y : A) → P x → Q y → word x ≡ word y → ⊥) → (xs ys : List A) → AllByRecursion P xs → AllByRecursion Q ys → Apart xs → Apart ys → Apart (xs ++ ys)
    apart_both P Q differ [] ys first second here there = there
    apart_both P Q differ (x ∷ xs) ys first second here there = (
      each_both (λ y. word x ≡ word y → ⊥) xs ys here.0 (each_mono Q (λ y. word x ≡ word y → ⊥) (λ y is. differ x y first.0 is) ys second),
      apart_both P Q differ xs ys first.1 second here.1 there,
    )

module _ {A B : Type 0} (f : A → B) where
  pub each_mapped : (P : B → Type 0) (xs : List A) → AllByRecursion (λ x. P (f x)) xs → AllByRecursion P (map f xs)
  each_mapped P [] each = tt
  each_mapped P (x ∷ xs) each = (each.0, each_mapped P xs each.1)

  apart_mapped : (word : B → List ℕ) (xs : List A) → Apart (λ x. word (f x)) xs → Apart word (map f xs)
  apart_mapped word [] apart = tt
  apart_mapped word (x ∷ xs) apart = (each_mapped (λ y. word (f x) ≡ word y → ⊥) xs apart.0, apart_mapped word xs apart.1)

-- the object at a place is the first with its word
first_at : (n : ℕ) (names : List Named) (i : ℕ) (named : Named) → Apart (λ x. x.word) names → slice_get names i ≡ Some named → position_from (λ x. bytes_eq named.word x.word) n names ≡ Some (n + i)
first_at n [] i named apart at = absurd cc
first_at n (x ∷ names) zero named apart at =
    let same : x ≡ named = cc in
    ap (λ b. cond b (Some n) (position_from (λ x. bytes_eq named.word x.word) (n + 1) names)) ((bytes_eq-Decides named.word x.word).1 (ap (λ (y : Named). y.word) (sym same)))
    ∙ ap (λ (k : ℕ). Some k) (let e : n ≡ n + 0 = omega arith in e)
first_at n (x ∷ names) (suc i) named apart at =
    ap (λ b. cond b (Some n) (position_from (λ x. bytes_eq named.word x.word) (n + 1) names)) (unequal named.word x.word (λ same. each_at (λ y. x.word ≡ y.word → ⊥) names i named apart.0 at (sym same)))
    ∙ first_at (n + 1) names i named apart.1 at
    ∙ ap (λ (k : ℕ). Some k) (let e : n + 1 + i ≡ n + suc i = omega arith in e)

-- ---- the declared objects

abbrev Differs : List ℕ → ObjectLine → Type 0
Differs name object = object.name ≡ name → ⊥

no_some : (b : Bool) → not b ≡ true → b ≡ true → ⊥
no_some true h t = false≢true h
no_some false h t = false≢true t

new_among : (place : ℕ) (name : List ℕ) (objects : List ObjectLine) → (is_some (declared_from place name objects) ≡ true → ⊥) → AllByRecursion (Differs name) objects
new_among place name [] new = tt
new_among place name (object ∷ objects) new =
    elim (bytes_eq name object.name) as (λ b. bytes_eq name object.name ≡ b → (is_some (cond b (Some (record { place = place; kind = object.kind })) (declared_from (place + 1) name objects)) ≡ true → ⊥) → AllByRecursion (Differs name) (object ∷ objects)) [
      | true ↦ λ same found. absurd (found refl)
      | false ↦ λ other later. (
        (λ same. false≢true (sym other ∙ (bytes_eq-Decides name object.name).1 (sym same))),
        new_among (place + 1) name objects later,
      )
    ] refl new

abbrev pub IsNamed : ObjectLine → Type 0
IsNamed object = is_name object.name ≡ true

-- the names are names, and no two are the same
pub record AreDeclared (others objects : List ObjectLine) : Type 0 where
  pub names : AllByRecursion IsNamed objects
  pub apart : Apart (λ (o : ObjectLine). o.name) objects
  pub new : AllByRecursion (λ (o : ObjectLine). AllByRecursion (Differs o.name) others) objects

pub are_declared : (others objects : List ObjectLine) → may_declare others objects ≡ true → AreDeclared others objects
are_declared others [] h = record { names = tt; apart = tt; new = tt }
are_declared others (object ∷ objects) h =
    let parts = both (may_join others object) (may_declare (others ++ object ∷ []) objects) h in
    let join = both (is_name object.name) (not (is_some (declared_from 0 object.name others)) && (refers others object.kind && (is_kind object.kind && _))) parts.0 in
    let new = both (not (is_some (declared_from 0 object.name others))) (refers others object.kind && (is_kind object.kind && _)) join.1 in
    let rest = are_declared (others ++ object ∷ []) objects parts.1 in
    record {
      names = (join.0, rest.names);
      apart = (
        each_mono (λ (o : ObjectLine). AllByRecursion (Differs o.name) (others ++ object ∷ [])) (λ (o : ObjectLine). object.name ≡ o.name → ⊥) (λ o each. (each_split (Differs o.name) others (object ∷ []) each).1.0) objects rest.new,
        rest.apart,
      );
      new = (
        new_among 0 object.name others (no_some _ new.0),
        each_mono (λ (o : ObjectLine). AllByRecursion (Differs o.name) (others ++ object ∷ [])) (λ (o : ObjectLine). AllByRecursion (Differs o.name) others) (λ o each. (each_split (Differs o.name) others (object ∷ []) each).0) objects rest.new,
      );
    }

-- ---- the byte `!` stands in no name

-- what stands before the first one, and behind it
before : List ℕ → List ℕ
before [] = []
before (byte ∷ bytes) = cond (eqb byte 33) [] (byte ∷ before bytes)

behind : List ℕ → List ℕ
behind [] = []
behind (byte ∷ bytes) = cond (eqb byte 33) bytes (behind bytes)

no_mark : (byte : ℕ) → is_name_byte byte ≡ true → eqb byte 33 ≡ false
no_mark byte h = ne_eqb byte 33 (λ same. false≢true (subst (λ (b : ℕ). is_name_byte b ≡ true) same h))

letter_byte : (byte : ℕ) → is_letter byte ≡ true → is_name_byte byte ≡ true
letter_byte byte h = ap (λ b. (b || (nat_le 48 byte && nat_le byte 57)) || eqb byte 95) h

pub name_bytes : (name : List ℕ) → is_name name ≡ true → list_all is_name_byte name ≡ true
name_bytes [] h = absurd (false≢true h)
name_bytes (first ∷ rest) h =
    let parts = both (nat_le (length (first ∷ rest)) MAX_NAME && is_letter first) (list_all is_name_byte rest) h in
    pair (is_name_byte first) (list_all is_name_byte rest) (letter_byte first (both (nat_le (length (first ∷ rest)) MAX_NAME) (is_letter first) parts.0).1) parts.1

before_name : (name rest : List ℕ) → list_all is_name_byte name ≡ true → before (name ++ 33 ∷ rest) ≡ name
unfolding before
before_name [] rest h = refl
before_name (byte ∷ name) rest h =
    let parts = both (is_name_byte byte) (list_all is_name_byte name) h in
    ap (λ b. cond b [] (byte ∷ before (name ++ 33 ∷ rest))) (no_mark byte parts.0) ∙ ap (λ (bs : List ℕ). byte ∷ bs) (before_name name rest parts.1)

before_alone : (name : List ℕ) → list_all is_name_byte name ≡ true → before name ≡ name
unfolding before
before_alone [] h = refl
before_alone (byte ∷ name) h =
    let parts = both (is_name_byte byte) (list_all is_name_byte name) h in
    ap (λ b. cond b [] (byte ∷ before name)) (no_mark byte parts.0) ∙ ap (λ (bs : List ℕ). byte ∷ bs) (before_alone name parts.1)

behind_name : (name rest : List ℕ) → list_all is_name_byte name ≡ true → behind (name ++ 33 ∷ rest) ≡ rest
unfolding behind
behind_name [] rest h = refl
behind_name (byte ∷ name) rest h =
    let parts = both (is_name_byte byte) (list_all is_name_byte name) h in
    ap (λ b. cond b (name ++ 33 ∷ rest) (behind (name ++ 33 ∷ rest))) (no_mark byte parts.0) ∙ behind_name name rest parts.1

behind_alone : (name : List ℕ) → list_all is_name_byte name ≡ true → behind name ≡ []
unfolding behind
behind_alone [] h = refl
behind_alone (byte ∷ name) h =
    let parts = both (is_name_byte byte) (list_all is_name_byte name) h in
    ap (λ b. cond b name (behind name)) (no_mark byte parts.0) ∙ behind_alone name parts.1

-- ---- the parts of pools

abbrev part_word : List ℕ → ℕ → List ℕ
part_word name part = name ++ 33 ∷ decimal part

-- the word of a part of an object of this sort
abbrev pub IsPart : (ObjectLine → Type 0) → Named → Type 0
IsPart sort named = (object : ObjectLine) × (part : ℕ) × (named.word ≡ part_word object.name part) × (part < 2 ^ 64) × IsNamed object × sort object

same_name : (name other : List ℕ) (xs ys : List ℕ) → is_name name ≡ true → is_name other ≡ true → name ++ 33 ∷ xs ≡ other ++ 33 ∷ ys → (name ≡ other) × (xs ≡ ys)
same_name name other xs ys is also e = (
  sym (before_name name xs (name_bytes name is)) ∙ ap before e ∙ before_name other ys (name_bytes other also),
  sym (behind_name name xs (name_bytes name is)) ∙ ap behind e ∙ behind_name other ys (name_bytes other also),
)

below_range : (a n most : ℕ) → a + n ≤ most → AllByRecursion (λ (k : ℕ). (a ≤ k) × (k < most)) (range_with_len a n)
below_range a zero most low = tt
below_range a (suc n) most low = (
  (omega arith, omega (arith, low)),
  each_mono (λ (k : ℕ). (a + 1 ≤ k) × (k < most)) (λ (k : ℕ). (a ≤ k) × (k < most)) (λ k is. let more = is.0 in (omega (arith, more), is.1)) (range_with_len (a + 1) n) (below_range (a + 1) n most (omega (arith, low))),
)

-- the parts of one object
parts_apart : (object : ObjectLine) (a n : ℕ) → IsNamed object → a + n < 2 ^ 64 → Apart (λ (k : ℕ). part_word object.name k) (range_with_len a n)
parts_apart object a zero named low = tt
parts_apart object a (suc n) named low = (
  each_mono (λ (k : ℕ). (a + 1 ≤ k) × (k < 2 ^ 64)) (λ (k : ℕ). part_word object.name a ≡ part_word object.name k → ⊥)
      (λ k is e. let same = decimal_injective a k (omega (arith, low)) is.1 (same_name object.name object.name (decimal a) (decimal k) named named e).1 in let more = is.0 in omega (arith, same, more))
      (range_with_len (a + 1) n) (below_range (a + 1) n (2 ^ 64) (omega (arith, low))),
  parts_apart object (a + 1) n named (omega (arith, low)),
)

few_parts : (workers : ℕ) (kind : ObjectKind) → part_count workers kind ≤ workers
few_parts workers object_kinds.Pool = omega arith
few_parts workers object_kinds.Map = omega arith
few_parts workers (object_kinds.Atomic type) = omega arith
few_parts workers object_kinds.Mutex = omega arith
few_parts workers object_kinds.RwMutex = omega arith
few_parts workers (object_kinds.Cond mutex) = omega arith
few_parts workers (object_kinds.WaitGroup start) = omega arith
few_parts workers (object_kinds.Once atomic delta) = omega arith
few_parts workers (object_kinds.OnceFunc code) = omega arith
few_parts workers (object_kinds.OnceValue value) = omega arith
few_parts workers (object_kinds.Sema size) = omega arith
few_parts workers (object_kinds.Flight atomic delta) = omega arith
few_parts workers object_kinds.Var = omega arith

parts_are : (sort : ObjectLine → Type 0) (workers : ℕ) (object : ObjectLine) → workers ≤ 32 → IsNamed object → sort object → AllByRecursion (IsPart sort) (named_parts workers object)
parts_are sort workers object few named is =
    let count = few_parts workers object.kind in
    each_mapped (named_part object) (IsPart sort) (range_with_len 0 (part_count workers object.kind))
    (each_mono (λ (k : ℕ). (0 ≤ k) × (k < 2 ^ 64)) (λ (k : ℕ). IsPart sort (named_part object k)) (λ k low. (object, k, refl, low.1, named, is))
    (range_with_len 0 (part_count workers object.kind)) (below_range 0 (part_count workers object.kind) (2 ^ 64) (omega (arith, few, count))))

pub all_parts : (sort : ObjectLine → Type 0) (workers : ℕ) (objects : List ObjectLine) → workers ≤ 32 → AllByRecursion IsNamed objects → AllByRecursion sort objects → AllByRecursion (IsPart sort) (flat_map (named_parts workers) objects)
all_parts sort workers [] few named is = tt
all_parts sort workers (object ∷ objects) few named is =
    each_both (IsPart sort) (named_parts workers object) (flat_map (named_parts workers) objects) (parts_are sort workers object few named.0 is.0) (all_parts sort workers objects few named.1 is.1)

all_apart : (workers : ℕ) (objects : List ObjectLine) → workers ≤ 32 → AllByRecursion IsNamed objects → Apart (λ (o : ObjectLine). o.name) objects → Apart (λ (x : Named). x.word) (flat_map (named_parts workers) objects)
all_apart workers [] few named apart = tt
all_apart workers (object ∷ objects) few named apart =
    let count = few_parts workers object.kind in
    apart_both (λ (x : Named). x.word) (IsPart (λ o. o.name ≡ object.name)) (IsPart (λ (o : ObjectLine). object.name ≡ o.name → ⊥)) other_pool
    (named_parts workers object) (flat_map (named_parts workers) objects)
    (parts_are (λ o. o.name ≡ object.name) workers object few named.0 refl)
    (all_parts (λ (o : ObjectLine). object.name ≡ o.name → ⊥) workers objects few named.1 apart.0)
    (apart_mapped (named_part object) (λ (x : Named). x.word) (range_with_len 0 (part_count workers object.kind)) (parts_apart object 0 (part_count workers object.kind) named.0 (omega (arith, few, count))))
    (all_apart workers objects few named.1 apart.1)
  where
    other_pool : (x y : Named) → IsPart (λ o. o.name ≡ object.name) x → IsPart (λ (o : ObjectLine). object.name ≡ o.name → ⊥) y → x.word ≡ y.word → ⊥
    other_pool x y (o, k, is, low, one, mine) (p, m, is_p, low_p, one_p, others) e = others (sym mine ∙ (same_name o.name p.name (decimal k) (decimal m) one one_p (sym is ∙ e ∙ is_p)).0)

-- ---- all objects

abbrev pub Anything : ObjectLine → Type 0
Anything object = Unit {0}

pub any : (objects : List ObjectLine) → AllByRecursion Anything objects
any [] = tt
any (object ∷ objects) = (tt, any objects)

-- a name stands before the first `!` of its word
abbrev Unmarked : Named → Type 0
Unmarked named = is_name (before named.word) ≡ true

-- a name stands before the first `!`, and nothing behind it
abbrev Alone : Named → Type 0
Alone named = behind named.word ≡ []

-- or something behind it
abbrev Numbered : Named → Type 0
Numbered named = 0 < length (behind named.word)

declared : (objects : List ObjectLine) → AllByRecursion IsNamed objects → AllByRecursion (λ (x : Named). Unmarked x × Alone x) (map named_object objects)
declared objects named =
    each_mapped named_object (λ (x : Named). Unmarked x × Alone x) objects
    (each_mono IsNamed (λ (o : ObjectLine). Unmarked (named_object o) × Alone (named_object o))
    (λ (o : ObjectLine) is. (subst (λ (w : List ℕ). is_name w ≡ true) (sym (before_alone o.name (name_bytes o.name is))) is, behind_alone o.name (name_bytes o.name is))) objects named)

numbered_part : (x : Named) → IsPart Anything x → Unmarked x × Numbered x
numbered_part x (o, part, is, low, named, sort) =
    let some = decimal_nonempty part low in
    let rest = ap length (ap behind is ∙ behind_name o.name (decimal part) (name_bytes o.name named)) in (
      subst (λ (w : List ℕ). is_name w ≡ true) (sym (ap before is ∙ before_name o.name (decimal part) (name_bytes o.name named))) named,
      omega (arith, some, rest),
    )

abbrev starts_named : Named
starts_named = record { word = codes "!starts"; kind = kinds.Starts }

abbrev stop_named : Named
stop_named = record { word = codes "!stop"; kind = kinds.Stop }

is_marked : before (codes "!stop") ≡ []
unfolding before
is_marked = refl

is_marked_too : before (codes "!starts") ≡ []
unfolding before
is_marked_too = refl

no_name : (word other : List ℕ) → before other ≡ [] → is_name (before word) ≡ true → word ≡ other → ⊥
no_name word other none named e = false≢true (subst (λ (w : List ℕ). is_name w ≡ true) (ap before e ∙ none) named)

stop_or_starts : codes "!stop" ≡ codes "!starts" → ⊥
stop_or_starts e = false≢true (sym (ap (λ (w : List ℕ). eqb (length w) 5) e))

module _ (plan : Plan) (few : plan.workers ≤ 32) (may : may_declare [] plan.objects ≡ true) where
  abbrev objects : List Named
  objects = map named_object plan.objects

  abbrev parts : List Named
  parts = flat_map (named_parts plan.workers) plan.objects

  abbrev names : AreDeclared [] plan.objects
  names = are_declared [] plan.objects may

  abbrev word : Named → List ℕ
  word named = named.word

  each_part : AllByRecursion (λ (x : Named). Unmarked x × Numbered x) parts
  each_part = each_mono (IsPart Anything) (λ (x : Named). Unmarked x × Numbered x) numbered_part parts (all_parts Anything plan.workers plan.objects few names.names (any plan.objects))

  each_object : AllByRecursion (λ (x : Named). Unmarked x × Alone x) objects
  each_object = declared plan.objects names.names

  unmarked : AllByRecursion Unmarked (objects ++ parts)
  unmarked =
      each_both Unmarked objects parts
      (each_mono (λ (x : Named). Unmarked x × Alone x) Unmarked (λ x is. is.0) objects each_object)
      (each_mono (λ (x : Named). Unmarked x × Numbered x) Unmarked (λ x is. is.0) parts each_part)

  objects_apart : Apart word (objects ++ parts)
  objects_apart =
      apart_both word (λ (x : Named). Unmarked x × Alone x) (λ (x : Named). Unmarked x × Numbered x)
      (λ x y is also e. let none = ap length (sym is.1) in let same = ap (λ (w : List ℕ). length (behind w)) e in let some = also.1 in omega (arith, none, same, some))
      objects parts each_object each_part
      (apart_mapped named_object word plan.objects names.apart)
      (all_apart plan.workers plan.objects few names.names names.apart)

  all_words : Apart word (named_in plan)
  all_words = (
    each_both (λ (y : Named). codes "!stop" ≡ y.word → ⊥) (objects ++ parts) (starts_named ∷ [])
        (each_mono Unmarked (λ (y : Named). codes "!stop" ≡ y.word → ⊥) (λ y is e. no_name y.word (codes "!stop") is_marked is (sym e)) (objects ++ parts) unmarked)
        (stop_or_starts, tt),
    apart_both word Unmarked (λ (y : Named). before y.word ≡ []) (λ x y is none e. no_name x.word y.word none is e)
        (objects ++ parts) (starts_named ∷ []) unmarked (is_marked_too, tt) objects_apart (tt, tt),
  )

  pub own_word : (object : ℕ) → object < length (named_in plan) → is_named plan object ≡ true
  own_word object within =
      let (named, at) = there (named_in plan) object within in
      ap (λ (w : List ℕ). option_map_or (λ number. eqb number object) (number_named (named_in plan) w) false) (ap (λ (o : Option Named). option_map_or (λ (x : Named). x.word) o []) at)
      ∙ ap (λ (o : Option ℕ). option_map_or (λ number. eqb number object) o false) (first_at 0 (named_in plan) object named all_words at)
      ∙ eq-eqb (0 + object) object (omega arith)
    where
      there : (xs : List Named) (i : ℕ) → i < length xs → (x : Named) × (slice_get xs i ≡ Some x)
      there [] i low = absurd (omega (arith, low))
      there (x ∷ xs) zero low = (x, refl)
      there (x ∷ xs) (suc i) low = there xs i (omega (arith, low))

-- no two objects have one word
pub apart : (plan : Plan) (object other : ℕ) → is_named plan object ≡ true → is_named plan other ≡ true → object_word plan object ≡ object_word plan other → object ≡ other
apart plan object other is also e = same_some object other (sym (found_so (number_named (named_in plan) (object_word plan object)) object is) ∙ ap (number_named (named_in plan)) e ∙ found_so (number_named (named_in plan) (object_word plan other)) other also)
