-- Which calls items are told to be of: those at the places that the report's lines show.
use Rattle.std.proofs.Common.{◌≡◌, ℕ, zero, suc, ◌+◌, List, [], ◌∷◌, ◌++◌, map, length, Option, None, Some, slice_get, refl, sym, ap, ◌∙◌, subst, arith, append_assoc}
use Rattle.std.specs.Prelude.{drop, replicate}
use Rattle.std.specs.List.{flat_map}
use Rattle.std.proofs.lemmas.List.{length-append, length-replicate}
use Rattle.script_calls.specs.declared.call.Call.{Call}
use Rattle.script_calls.specs.declared.call.Reply.{Reply}
use Rattle.script_calls.specs.Runs.{passed_over, places_from, RunsAlong}
use Rattle.run_record.specs.declared.made.Made.{Made}
use Rattle.run_record.specs.Lines.{Line, SpeltCall}
use Rattle.run_report.specs.Shown.{IsCompleted}
use Rattle.run_cuts.specs.CallsAlong.{next_call, calls_from, calls_along}

drop_past : (p k : ℕ) (xs : List Call) (x : Call) (ys : List Call) → drop p xs ≡ x ∷ ys → drop (p + 1 + k) xs ≡ drop k ys
drop_past zero k xs x ys is =
    let number : zero + 1 + k ≡ suc k = omega arith in
    ap (λ (n : ℕ). drop n xs) number ∙ ap (λ (l : List Call). drop (suc k) l) is
drop_past (suc p) k [] x ys is = let long = ap (λ (l : List Call). length l) is in absurd (omega (arith, long))
drop_past (suc p) k (z ∷ zs) x ys is =
    let number : suc p + 1 + k ≡ suc (p + 1 + k) = omega arith in
    ap (λ (n : ℕ). drop n (z ∷ zs)) number ∙ drop_past p k zs x ys is

there : (p : ℕ) (xs : List Call) (x : Call) (ys : List Call) → drop p xs ≡ x ∷ ys → slice_get xs p ≡ Some x
there zero xs x ys is = ap (λ (l : List Call). slice_get l 0) is
there (suc p) [] x ys is = let long = ap (λ (l : List Call). length l) is in absurd (omega (arith, long))
there (suc p) (z ∷ zs) x ys is = there p zs x ys is

abbrev made_in : List SpeltCall → List (Call × Reply ℕ)
made_in spelt = map (λ s. (s.call, s.reply)) spelt

abbrev replies_in : List SpeltCall → List (Reply ℕ)
replies_in spelt = map (λ s. s.reply) spelt

abbrev items_in : List SpeltCall → List Made
items_in spelt = flat_map (λ s. s.items) spelt

-- the items of a call, among those from a place of the script on
record IsToldAt (script left rest : List Call) (last : List Made) (from : ℕ) (all earlier : List SpeltCall) (spelt : SpeltCall) : Type 0 where
  place : ℕ
  before : List (Option ℕ)
  after : List (Option ℕ)
  at : slice_get (places_from from left (replies_in all)) (length earlier) ≡ Some place
  is : slice_get script place ≡ Some spelt.call
  answered : slice_get (replies_in all) (length earlier) ≡ Some spelt.reply
  told : calls_from from all rest last ≡ before ++ (replicate (length spelt.items) (Some place) ++ after)
  long : length before ≡ length (items_in earlier)

module _ (script rest : List Call) (last : List Made) where
  told_at : (from : ℕ) (left : List Call) (earlier later : List SpeltCall) (spelt : SpeltCall) → drop from script ≡ left → RunsAlong left (made_in (earlier ++ spelt ∷ later)) rest
      → IsToldAt script left rest last from (earlier ++ spelt ∷ later) earlier spelt
  told_at from left [] later spelt here runs = record {
    place = from;
    before = [];
    after = calls_from (from + 1 + passed_over spelt.call spelt.reply) later rest last;
    at = ap (λ (l : List Call). slice_get (places_from from l (spelt.reply ∷ replies_in later)) 0) runs.1;
    is = there from script spelt.call runs.0 (here ∙ runs.1);
    answered = refl;
    told = refl;
    long = refl;
  }
  told_at from left (e ∷ earlier) later spelt here runs =
      let passed = passed_over e.call e.reply in
      let next = told_at (from + 1 + passed) (drop passed runs.0) earlier later spelt (drop_past from passed script e.call runs.0 (here ∙ runs.1)) runs.2 in
      let mine : List (Option ℕ) = replicate (length e.items) (Some from) in
      let one : length mine ≡ length e.items = length-replicate _ _ in
      let two : length (mine ++ next.before) ≡ length mine + length next.before = length-append mine next.before in
      let three : length (e.items ++ items_in earlier) ≡ length e.items + length (items_in earlier) = length-append e.items (items_in earlier) in
      record {
        place = next.place;
        before = mine ++ next.before;
        after = next.after;
        at = ap (λ (l : List Call). slice_get (places_from from l (e.reply ∷ replies_in (earlier ++ spelt ∷ later))) (suc (length earlier))) runs.1 ∙ next.at;
        is = next.is;
        answered = next.answered;
        told = ap (λ (l : List (Option ℕ)). mine ++ l) next.told ∙ sym (append_assoc mine next.before (replicate (length spelt.items) (Some next.place) ++ next.after));
        long = omega (arith, one, two, three, next.long);
      }

  -- behind all of them stands what is left
  next_at : (from : ℕ) (left : List Call) (spelt : List SpeltCall) (call : Call) (behind : List Call) → drop from script ≡ left → RunsAlong left (made_in spelt) rest → rest ≡ call ∷ behind
      → (place : ℕ) × (before : List (Option ℕ)) × (slice_get script place ≡ Some call) × (calls_from from spelt rest last ≡ before ++ replicate (length last) (Some place)) × (length before ≡ length (items_in spelt))
  next_at from left [] call behind here runs is =
      (from, [], there from script call behind (here ∙ sym runs ∙ is), ap (λ (l : List Call). replicate (length last) (next_call from l)) is, refl)
  next_at from left (e ∷ spelt) call behind here runs is =
      let passed = passed_over e.call e.reply in
      let next = next_at (from + 1 + passed) (drop passed runs.0) spelt call behind (drop_past from passed script e.call runs.0 (here ∙ runs.1)) runs.2 is in
      let mine : List (Option ℕ) = replicate (length e.items) (Some from) in
      let one : length mine ≡ length e.items = length-replicate _ _ in
      let two : length (mine ++ next.1) ≡ length mine + length next.1 = length-append mine next.1 in
      let three : length (e.items ++ items_in spelt) ≡ length e.items + length (items_in spelt) = length-append e.items (items_in spelt) in
      let four = next.4 in
      (next.0, mine ++ next.1, next.2, ap (λ (l : List (Option ℕ)). mine ++ l) next.3 ∙ sym (append_assoc mine next.1 (replicate (length last) (Some next.0))), omega (arith, one, two, three, four))

-- what is told of a completed call
abbrev pub Completed : List Call → Line → List SpeltCall → SpeltCall → List SpeltCall → Type 0
Completed script line earlier spelt all = (place : ℕ) × (before : List (Option ℕ)) × (after : List (Option ℕ)) × IsCompleted script (replies_in all) (length earlier) place spelt.call spelt.reply
    × (replicate (length line.first) None ++ calls_from 0 all line.rest line.last ≡ before ++ (replicate (length spelt.items) (Some place) ++ after)) × (length before ≡ length (line.first ++ items_in earlier))

-- what stands before the script is told before all else
with_first : (line : Line) (before : List (Option ℕ)) (earlier : List SpeltCall) → length before ≡ length (items_in earlier)
    → length (replicate (length line.first) None ++ before) ≡ length (line.first ++ items_in earlier)
with_first line before earlier long =
    let none : List (Option ℕ) = replicate (length line.first) None in
    let one : length none ≡ length line.first = length-replicate _ _ in
    let two : length (none ++ before) ≡ length none + length before = length-append none before in
    let three : length (line.first ++ items_in earlier) ≡ length line.first + length (items_in earlier) = length-append line.first (items_in earlier) in
    omega (arith, one, two, three, long)

pub completed : (script : List Call) (line : Line) (earlier later : List SpeltCall) (spelt : SpeltCall) → RunsAlong script (made_in line.spelt) line.rest → line.spelt ≡ earlier ++ spelt ∷ later → Completed script line earlier spelt line.spelt
completed script line earlier later spelt runs is = subst (λ (all : List SpeltCall). Completed script line earlier spelt all) (sym is) whole where
  told : IsToldAt script script line.rest line.last 0 (earlier ++ spelt ∷ later) earlier spelt
  told = told_at script line.rest line.last 0 script earlier later spelt refl (subst (λ (all : List SpeltCall). RunsAlong script (made_in all) line.rest) is runs)

  none : List (Option ℕ)
  none = replicate (length line.first) None

  same : none ++ calls_from 0 (earlier ++ spelt ∷ later) line.rest line.last ≡ (none ++ told.before) ++ (replicate (length spelt.items) (Some told.place) ++ told.after)
  same = ap (λ (l : List (Option ℕ)). none ++ l) told.told ∙ sym (append_assoc none told.before (replicate (length spelt.items) (Some told.place) ++ told.after))

  whole : Completed script line earlier spelt (earlier ++ spelt ∷ later)
  whole = (told.place, none ++ told.before, told.after, record { at = told.at; is = told.is; answered = told.answered }, same, with_first line told.before earlier told.long)

pub next : (script : List Call) (line : Line) (call : Call) (behind : List Call) → RunsAlong script (made_in line.spelt) line.rest → line.rest ≡ call ∷ behind
    → (place : ℕ) × (before : List (Option ℕ)) × (slice_get script place ≡ Some call) × (calls_along line ≡ before ++ replicate (length line.last) (Some place)) × (length before ≡ length (line.first ++ items_in line.spelt))
next script line call behind runs is =
    let told = next_at script line.rest line.last 0 script line.spelt call behind refl runs is in (
      told.0,
      replicate (length line.first) None ++ told.1,
      told.2,
      ap (λ (l : List (Option ℕ)). replicate (length line.first) None ++ l) told.3 ∙ sym (append_assoc (replicate (length line.first) None) told.1 (replicate (length line.last) (Some told.0))),
      with_first line told.1 line.spelt told.4,
    )
