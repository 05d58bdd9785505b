-- That each record which explains an outcome can be told: the items of its lists, each with its call and its number.
use Rattle.std.proofs.Common.{◌≡◌, ℕ, zero, suc, ◌+◌, ◌==◌, Bool, true, false, cond, List, [], ◌∷◌, ◌++◌, length, get_or, Option, None, Some, slice_get, refl, sym, ap, ◌∙◌, subst, arith}
use Rattle.std.specs.Prelude.{drop, replicate}
use Rattle.std.specs.List.{flat_map}
use Rattle.std.proofs.lemmas.Bool.{false≢true, eqb-true}
use Rattle.std.proofs.lemmas.List.{length-append, length-replicate}
use Rattle.std.proofs.lemmas.Option.{none-some, same_Some}
use Rattle.script_calls.specs.declared.call.Call.{Call}
use Rattle.script_calls.specs.Runs.{passed_over}
use Rattle.run_record.specs.declared.made.Made.{Made}
use Rattle.run_record.specs.declared.made.Made.TheVariants.{Shared, Entered}
use Rattle.run_record.specs.Lines.{Line, SpeltCall}
use Rattle.run_record.specs.Record.{ObjectEntry, entries_in}
use Rattle.record_clauses.specs.Account.{ToldItem, made_in}
use Rattle.run_cuts.specs.CallsAlong.{calls_from, calls_along}
use Rattle.record_clauses.specs.Lists.{halts, is_halt, without_halts, calls_told, numbered_in}
use Rattle.record_clauses.proofs.FrontsAside.{first_same, rest_same, no_more}
use Rattle.record_clauses.proofs.HaltsAside.{calm_part}
use Rattle.record_clauses.proofs.ToldLists.{entries_of}

abbrev Numbers : Type 0
Numbers = ℕ → List (ℕ × ObjectEntry)

-- the numbers that are left behind an entry of an object
abbrev behind : ℕ → Numbers → Numbers
behind object numbers other = cond (object == other) (drop 1 (numbers other)) (numbers other)

abbrev told : Made → Option ℕ → ℕ → ToldItem
told item call number = record { made = item; call = call; number = number }

abbrev first_call : List (Option ℕ) → Option ℕ
first_call calls = get_or calls 0 None

abbrev first_number : List (ℕ × ObjectEntry) → ℕ
first_number [] = 0
first_number (pair ∷ pairs) = pair.0

-- the items with these calls, and with the numbers of each object
abbrev pub tell : List (Option ℕ) → Numbers → List Made → List ToldItem
tell calls numbers [] = []
tell calls numbers (Shared x ∷ items) = told (Shared x) (first_call calls) 0 ∷ tell (drop 1 calls) numbers items
tell calls numbers (Entered object entry ∷ items) = cond (halts entry.deed)
    (told (Entered object entry) None (first_number (numbers object)) ∷ tell calls (behind object numbers) items)
    (told (Entered object entry) (first_call calls) (first_number (numbers object)) ∷ tell (drop 1 calls) (behind object numbers) items)

pub made_told : (calls : List (Option ℕ)) (numbers : Numbers) (items : List Made) → made_in (tell calls numbers items) ≡ items
made_told calls numbers [] = refl
made_told calls numbers (Shared x ∷ items) = ap (λ (l : List Made). Shared x ∷ l) (made_told (drop 1 calls) numbers items)
made_told calls numbers (Entered object entry ∷ items) = by_halt (halts entry.deed) (made_told calls (behind object numbers) items) (made_told (drop 1 calls) (behind object numbers) items) where
  n : ℕ
  n = first_number (numbers object)

  by_halt : (b : Bool) → made_in (tell calls (behind object numbers) items) ≡ items → made_in (tell (drop 1 calls) (behind object numbers) items) ≡ items
      → made_in (cond b (told (Entered object entry) None n ∷ tell calls (behind object numbers) items) (told (Entered object entry) (first_call calls) n ∷ tell (drop 1 calls) (behind object numbers) items)) ≡ Entered object entry ∷ items
  by_halt true one other = ap (λ (l : List Made). Entered object entry ∷ l) one
  by_halt false one other = ap (λ (l : List Made). Entered object entry ∷ l) other

-- ---- the numbers

-- these are the numbers of the entries
abbrev Number : Numbers → List Made → Type 0
Number numbers items = (object : ℕ) → entries_of (numbers object) ≡ entries_in object items

no_numbers : (pairs : List (ℕ × ObjectEntry)) → entries_of pairs ≡ [] → [] ≡ pairs
no_numbers [] none = refl
no_numbers (pair ∷ pairs) none = absurd (no_more pair.1 (entries_of pairs) none)

one_number : (pairs : List (ℕ × ObjectEntry)) (entry : ObjectEntry) (rest : List ObjectEntry) → entries_of pairs ≡ entry ∷ rest → ((first_number pairs, entry) ∷ drop 1 pairs ≡ pairs) × (entries_of (drop 1 pairs) ≡ rest)
one_number [] entry rest is = absurd (no_more entry rest (sym is))
one_number (pair ∷ pairs) entry rest is =
    (ap (λ (e : ObjectEntry). (pair.0, e) ∷ pairs) (sym (first_same pair.1 entry (entries_of pairs) rest is)), rest_same pair.1 entry (entries_of pairs) rest is)

left_numbers : (numbers : Numbers) (object : ℕ) (entry : ObjectEntry) (items : List Made) → Number numbers (Entered object entry ∷ items) → Number (behind object numbers) items
left_numbers numbers object entry items are other = by_object (object == other) (are other) where
  by_object : (b : Bool) → entries_of (numbers other) ≡ cond b (entry ∷ entries_in other items) (entries_in other items) → entries_of (cond b (drop 1 (numbers other)) (numbers other)) ≡ entries_in other items
  by_object true is = (one_number (numbers other) entry (entries_in other items) is).1
  by_object false is = is

-- an entry with its number, before what is left
with_number : (numbers : Numbers) (object other : ℕ) (entry : ObjectEntry) (items : List Made) → Number numbers (Entered object entry ∷ items)
    → cond (object == other) ((first_number (numbers object), entry) ∷ behind object numbers other) (behind object numbers other) ≡ numbers other
with_number numbers object other entry items are = by_object (object == other) refl (are other) where
  by_object : (b : Bool) → (object == other) ≡ b → entries_of (numbers other) ≡ cond b (entry ∷ entries_in other items) (entries_in other items)
      → cond b ((first_number (numbers object), entry) ∷ cond b (drop 1 (numbers other)) (numbers other)) (cond b (drop 1 (numbers other)) (numbers other)) ≡ numbers other
  by_object true here is =
      ap (λ (n : ℕ). (first_number (numbers n), entry) ∷ drop 1 (numbers other)) (eqb-true object other here) ∙ (one_number (numbers other) entry (entries_in other items) is).0
  by_object false here is = refl

pub numbers_told : (calls : List (Option ℕ)) (numbers : Numbers) (items : List Made) → Number numbers items → (object : ℕ) → numbered_in object (tell calls numbers items) ≡ numbers object
numbers_told calls numbers [] are other = no_numbers (numbers other) (are other)
numbers_told calls numbers (Shared x ∷ items) are other = numbers_told (drop 1 calls) numbers items are other
numbers_told calls numbers (Entered object entry ∷ items) are other =
    by_halt (halts entry.deed) (numbers_told calls (behind object numbers) items left other) (numbers_told (drop 1 calls) (behind object numbers) items left other) ∙ with_number numbers object other entry items are where
      n : ℕ
      n = first_number (numbers object)

      left : Number (behind object numbers) items
      left = left_numbers numbers object entry items are

      by_halt : (b : Bool) → numbered_in other (tell calls (behind object numbers) items) ≡ behind object numbers other → numbered_in other (tell (drop 1 calls) (behind object numbers) items) ≡ behind object numbers other
          → numbered_in other (cond b (told (Entered object entry) None n ∷ tell calls (behind object numbers) items) (told (Entered object entry) (first_call calls) n ∷ tell (drop 1 calls) (behind object numbers) items))
          ≡ cond (object == other) ((n, entry) ∷ behind object numbers other) (behind object numbers other)
      by_halt true one rest = ap (λ (l : List (ℕ × ObjectEntry)). cond (object == other) ((n, entry) ∷ l) l) one
      by_halt false one rest = ap (λ (l : List (ℕ × ObjectEntry)). cond (object == other) ((n, entry) ∷ l) l) rest

-- ---- the calls

one_call : (calls : List (Option ℕ)) (n : ℕ) → length calls ≡ suc n → (first_call calls ∷ drop 1 calls ≡ calls) × (length (drop 1 calls) ≡ n)
one_call [] n long = absurd (omega (arith, long))
one_call (call ∷ calls) n long = (refl, omega (arith, long))

pub calls_are_told : (calls : List (Option ℕ)) (numbers : Numbers) (items : List Made) → length calls ≡ length (without_halts items) → calls_told (tell calls numbers items) ≡ calls
calls_are_told [] numbers [] long = refl
calls_are_told (call ∷ calls) numbers [] long = absurd (omega (arith, long))
calls_are_told calls numbers (Shared x ∷ items) long =
    let one = one_call calls (length (without_halts items)) (omega (arith, long)) in
    ap (λ (l : List (Option ℕ)). first_call calls ∷ l) (calls_are_told (drop 1 calls) numbers items one.1) ∙ one.0
calls_are_told calls numbers (Entered object entry ∷ items) long =
    by_halt (halts entry.deed) refl long (λ more. calls_are_told calls (behind object numbers) items more) (λ more. calls_are_told (drop 1 calls) (behind object numbers) items more) where
      n : ℕ
      n = first_number (numbers object)

      by_halt : (b : Bool) → halts entry.deed ≡ b → length calls ≡ length (cond b (without_halts items) (Entered object entry ∷ without_halts items))
          → (length calls ≡ length (without_halts items) → calls_told (tell calls (behind object numbers) items) ≡ calls)
          → (length (drop 1 calls) ≡ length (without_halts items) → calls_told (tell (drop 1 calls) (behind object numbers) items) ≡ drop 1 calls)
          → calls_told (cond b (told (Entered object entry) None n ∷ tell calls (behind object numbers) items) (told (Entered object entry) (first_call calls) n ∷ tell (drop 1 calls) (behind object numbers) items)) ≡ calls
      by_halt true is long one rest = ap (λ (b : Bool). cond b (calls_told (tell calls (behind object numbers) items)) (None ∷ calls_told (tell calls (behind object numbers) items))) is ∙ one long
      by_halt false is long one rest =
          let first = one_call calls (length (without_halts items)) (omega (arith, long)) in
          ap (λ (b : Bool). cond b (calls_told (tell (drop 1 calls) (behind object numbers) items)) (first_call calls ∷ calls_told (tell (drop 1 calls) (behind object numbers) items))) is
          ∙ ap (λ (l : List (Option ℕ)). first_call calls ∷ l) (rest first.1) ∙ first.0

pub halts_told : (calls : List (Option ℕ)) (numbers : Numbers) (items : List Made) (i : ℕ) (x : ToldItem) → slice_get (tell calls numbers items) i ≡ Some x → is_halt x.made ≡ true → x.call ≡ None
halts_told calls numbers [] i x at is = absurd (none-some x at)
halts_told calls numbers (Shared y ∷ items) zero x at is = absurd (false≢true (subst (λ (t : ToldItem). is_halt t.made ≡ true) (sym (same_Some (told (Shared y) (first_call calls) 0) x at)) is))
halts_told calls numbers (Shared y ∷ items) (suc i) x at is = halts_told (drop 1 calls) numbers items i x at is
halts_told calls numbers (Entered object entry ∷ items) i x at is =
    by_halt (halts entry.deed) refl i at (λ j. halts_told calls (behind object numbers) items j x) (λ j. halts_told (drop 1 calls) (behind object numbers) items j x) where
      n : ℕ
      n = first_number (numbers object)

      by_halt : (b : Bool) → halts entry.deed ≡ b → (i : ℕ)
          → slice_get (cond b (told (Entered object entry) None n ∷ tell calls (behind object numbers) items) (told (Entered object entry) (first_call calls) n ∷ tell (drop 1 calls) (behind object numbers) items)) i ≡ Some x
          → ((j : ℕ) → slice_get (tell calls (behind object numbers) items) j ≡ Some x → is_halt x.made ≡ true → x.call ≡ None)
          → ((j : ℕ) → slice_get (tell (drop 1 calls) (behind object numbers) items) j ≡ Some x → is_halt x.made ≡ true → x.call ≡ None)
          → x.call ≡ None
      by_halt true here zero at one rest = ap (λ (t : ToldItem). t.call) (sym (same_Some (told (Entered object entry) None n) x at))
      by_halt true here (suc j) at one rest = one j at is
      by_halt false here zero at one rest = absurd (false≢true (sym here ∙ subst (λ (t : ToldItem). is_halt t.made ≡ true) (sym (same_Some (told (Entered object entry) (first_call calls) n) x at)) is))
      by_halt false here (suc j) at one rest = rest j at is

-- a line has a call for each item up to its halts
calls_from_length : (place : ℕ) (spelt : List SpeltCall) (rest : List Call) (last : List Made) → length (calls_from place spelt rest last) ≡ length (flat_map (λ s. s.items) spelt ++ last)
calls_from_length place [] rest last = length-replicate _ _
calls_from_length place (s ∷ spelt) rest last =
    let later = calls_from (place + 1 + passed_over s.call s.reply) spelt rest last in
    let items = flat_map (λ (t : SpeltCall). t.items) spelt in
    let here : length (replicate (length s.items) (Some place)) ≡ length s.items = length-replicate _ _ in
    let one : length (replicate (length s.items) (Some place) ++ later) ≡ length (replicate (length s.items) (Some place)) + length later = length-append (replicate (length s.items) (Some place)) later in
    let two : length ((s.items ++ items) ++ last) ≡ length (s.items ++ items) + length last = length-append (s.items ++ items) last in
    let three : length (s.items ++ items) ≡ length s.items + length items = length-append s.items items in
    let four : length (items ++ last) ≡ length items + length last = length-append items last in
    omega (arith, here, one, two, three, four, calls_from_length (place + 1 + passed_over s.call s.reply) spelt rest last)

pub calls_along_length : (line : Line) → length (calls_along line) ≡ length (calm_part line)
calls_along_length line =
    let later = calls_from 0 line.spelt line.rest line.last in
    let items = flat_map (λ (t : SpeltCall). t.items) line.spelt ++ line.last in
    let none : List (Option ℕ) = replicate (length line.first) None in
    let here : length none ≡ length line.first = length-replicate _ _ in
    let one : length (none ++ later) ≡ length none + length later = length-append none later in
    let two : length (line.first ++ items) ≡ length line.first + length items = length-append line.first items in
    omega (arith, here, one, two, calls_from_length 0 line.spelt line.rest line.last)
