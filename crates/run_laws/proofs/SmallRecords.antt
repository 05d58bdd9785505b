-- What makes a small record one that explains a run: of two workers whose journals' entries know of no call on a map or an atomic.
use Rattle.std.proofs.Common.{◌≡◌, ◌↔◌, ℕ, zero, suc, ◌+◌, ◌<◌, ◌≤◌, ◌==◌, Bool, true, false, cond, List, [], ◌∷◌, length, take, Option, Some, slice_get, slice_index, refl, sym, ap, ◌∙◌, subst, arith}
use Rattle.std.specs.Prelude.{nat_lt, unwrap_or, get_or, All, Ok}
use Rattle.std.specs.List.{AllByRecursion, list_any}
use Rattle.std.proofs.lemmas.Bool.{false≢true, eqb-true, eqb-false, ltb-true, ltb-false}
use Rattle.std.proofs.lemmas.Option.{none-some}
use Rattle.sync_model.specs.declared.answer.Answer.TheVariants.{Done}
use Rattle.sync_model.specs.declared.item.Item.{Item}
use Rattle.sync_model.specs.declared.journal.Entry.{Entry}
use Rattle.sync_model.specs.Front.{AtLeast}
use Rattle.sync_model.specs.Journal.{by, KeepsEdges}
use Rattle.sync_model.specs.SharedCalls.{Lawful}
use Rattle.sync_model.specs.SharedHistory.{Contents, marked_in}
use Rattle.script_calls.specs.declared.outcome.Outcome.{Outcome}
use Rattle.script_calls.specs.Runs.{have_tests}
use Rattle.workload.specs.declared.object.ObjectKind.TheVariants as kinds
use Rattle.workload.specs.declared.object.ObjectLine.{ObjectLine}
use Rattle.workload.specs.Plan.{Plan, has_dormant, is_dormant}
use Rattle.workload.specs.Puts.{puts_at}
use Rattle.run_record.specs.declared.made.Made.{Made}
use Rattle.run_record.specs.declared.made.Made.TheVariants.{Shared, Entered}
use Rattle.run_record.specs.Calls.{IsJournalOf}
use Rattle.run_record.specs.Explains.{KeepsFronts, IsRecordOf, IsAtEnd, AreLines}
use Rattle.run_record.specs.Lines.{SpeltCall, Line, whole, AreSpelt, IsLineOf}
use Rattle.run_record.specs.Objects.{contents_of, first_part, object_count, is_pool, starts_number}
use Rattle.run_record.specs.Parts.{and_then, returns}
use Rattle.run_record.specs.PoolKind.{IsPartJournal}
use Rattle.run_record.specs.Record.{Record, ObjectEntry, object_number, journal_of, list_of, calls_of, shared_in, entries_in, front_of}
use Rattle.run_record.specs.Runs.{SpellScripts}
use Rattle.run_record.specs.StartsKind.{wait_start_part, end_part, done_part, IsStartsJournal}
use Rattle.run_laws.specs.Examples.{none_known, record_of}

-- the lines of a workload without tests are those of its scripts
abbrev pub ByScript : Type 0
ByScript = (plan : Plan) (r : Record) (outcome : Outcome) (lines : List Line) → have_tests plan.scripts ≡ false → AreLines plan r outcome lines ↔ SpellScripts plan r outcome lines

module _ {A : Type 0} where
  -- what holds of each element, one after the other, holds of that at any place
  pub each_at : (P : A → Type 0) (xs : List A) → AllByRecursion P xs → (i : ℕ) (x : A) → slice_get xs i ≡ Some x → P x
  each_at P [] all i x at = absurd (none-some x at)
  each_at P (y ∷ ys) all zero x at = subst P (ap (λ (o : Option A). unwrap_or o x) at) all.0
  each_at P (y ∷ ys) all (suc i) x at = each_at P ys all.1 i x at

  -- the same of an element and its place, counted from a number on
  abbrev pub EachFrom : ℕ → (ℕ → A → Type 0) → List A → Type 0
  EachFrom n P [] = Unit {0}
  EachFrom n P (x ∷ xs) = P n x × EachFrom (n + 1) P xs

  pub from_at : (P : ℕ → A → Type 0) (n : ℕ) (xs : List A) → EachFrom n P xs → (i : ℕ) (x : A) → slice_get xs i ≡ Some x → P (n + i) x
  from_at P n [] all i x at = absurd (none-some x at)
  from_at P n (y ∷ ys) all zero x at = subst (λ (k : ℕ). P k x) (omega arith) (subst (P n) (ap (λ (o : Option A). unwrap_or o x) at) all.0)
  from_at P n (y ∷ ys) all (suc i) x at = subst (λ (k : ℕ). P k x) (omega arith) (from_at P (n + 1) ys all.1 i x at)

  -- what holds of each two, the first of which stands before the other
  abbrev pub Pairs : (A → A → Type 0) → List A → Type 0
  Pairs P [] = Unit {0}
  Pairs P (x ∷ xs) = AllByRecursion (P x) xs × Pairs P xs

  pub pair_at : (P : A → A → Type 0) (xs : List A) → Pairs P xs → (i j : ℕ) (x y : A) → i < j → slice_get xs i ≡ Some x → slice_get xs j ≡ Some y → P x y
  pair_at P [] all i j x y before at_x at_y = absurd (none-some x at_x)
  pair_at P (z ∷ zs) all i zero x y before at_x at_y = absurd (omega (arith, before))
  pair_at P (z ∷ zs) all zero (suc j) x y before at_x at_y = subst (λ (first : A). P first y) (ap (λ (o : Option A). unwrap_or o x) at_x) (each_at (P z) zs all.0 j y at_y)
  pair_at P (z ∷ zs) all (suc i) (suc j) x y before at_x at_y = pair_at P zs all.1 i j x y (omega (arith, before)) at_x at_y

-- what holds of each number below one
abbrev pub Below : ℕ → (ℕ → Type 0) → Type 0
Below zero P = Unit {0}
Below (suc n) P = P n × Below n P

pub below : (P : ℕ → Type 0) (n : ℕ) → Below n P → (k : ℕ) → k < n → P k
below P zero all k less = absurd (omega (arith, less))
below P (suc n) all k less = by_test (k == n) refl (below P n all.1 k) where
  by_test : (b : Bool) → (k == n) ≡ b → (k < n → P k) → P k
  by_test true same lower = subst P (sym (eqb-true k n same)) all.0
  by_test false other lower = lower (omega (arith, less, eqb-false k n other))

-- fronts that are the same know the same
pub same_front : (a b : List ℕ) → a ≡ none_known → b ≡ none_known → AtLeast a b
same_front a b is also c = omega (arith, ap (λ (l : List ℕ). slice_index l c) (is ∙ sym also))

pub none_at : (c : ℕ) → slice_index none_known c ≡ 0
none_at zero = refl
none_at (suc zero) = refl
none_at (suc (suc c)) = refl

-- any front knows at least nothing, and what it knows
pub above_none : (front : List ℕ) → AtLeast front none_known
above_none front c = omega (arith, none_at c)

pub same_known : (front : List ℕ) → AtLeast front front
same_known front c = omega arith

-- the edges of a journal whose entries know nothing
pub quiet_edges : {E R : Type 0} (frees takes : E → R → Bool) (own : List (Entry E R)) → AllByRecursion (λ x. x.front ≡ none_known) own → KeepsEdges frees takes own
quiet_edges {E} {R} frees takes own quiet i j x y before at_x at_y gives gains =
    let knows_none = each_at (λ (z : Entry E R). z.front ≡ none_known) own quiet in
    same_front y.front x.front (knows_none j y at_y) (knows_none i x at_x)

-- an item that is an entry of one of so many objects, by a worker that knows nothing
abbrev pub IsQuiet : ℕ → Made → Type 0
IsQuiet objects (Shared x) = ⊥
IsQuiet objects (Entered object entry) = (nat_lt object objects ≡ true) × (entry.front ≡ none_known)

-- an entry of one of the two workers
abbrev pub IsOfTwo : ObjectEntry → Type 0
IsOfTwo entry = nat_lt entry.caller 2 ≡ true

quiet_calls : (objects : ℕ) (list : List Made) → AllByRecursion (IsQuiet objects) list → shared_in list ≡ []
quiet_calls objects [] quiet = refl
quiet_calls objects (Shared x ∷ list) quiet = absurd quiet.0
quiet_calls objects (Entered object entry ∷ list) quiet = quiet_calls objects list quiet.1

quiet_take : (objects i : ℕ) (list : List Made) → AllByRecursion (IsQuiet objects) list → shared_in (take i list) ≡ []
quiet_take objects zero list quiet = refl
quiet_take objects (suc i) [] quiet = refl
quiet_take objects (suc i) (Shared x ∷ list) quiet = absurd quiet.0
quiet_take objects (suc i) (Entered object entry ∷ list) quiet = quiet_take objects i list quiet.1

quiet_front : (objects : ℕ) (x : Made) → IsQuiet objects x → front_of x ≡ none_known
quiet_front objects (Shared x) quiet = absurd quiet
quiet_front objects (Entered object entry) quiet = quiet.1

-- nothing is entered in an object that isn't among so many
no_entries : (objects other : ℕ) (list : List Made) → AllByRecursion (IsQuiet objects) list → objects ≤ other → entries_in other list ≡ []
no_entries objects other [] quiet out = refl
no_entries objects other (Shared x ∷ list) quiet out = absurd quiet.0
no_entries objects other (Entered object entry ∷ list) quiet out = by_test (object == other) refl (no_entries objects other list quiet.1 out) where
  by_test : (b : Bool) → (object == other) ≡ b → entries_in other list ≡ [] → cond (object == other) (entry ∷ entries_in other list) (entries_in other list) ≡ []
  by_test true same none = absurd (omega (arith, ltb-true object objects quiet.0.0, eqb-true object other same, out))
  by_test false differs none = ap (λ (b : Bool). cond b (entry ∷ entries_in other list) (entries_in other list)) differs ∙ none

-- and no entry is by a third worker
pub no_third : (worker : ℕ) (journal : List ObjectEntry) → AllByRecursion IsOfTwo journal → by (suc (suc worker)) journal ≡ []
no_third worker [] two = refl
no_third worker (x ∷ journal) two = by_test (x.caller == suc (suc worker)) refl (no_third worker journal two.1) where
  by_test : (b : Bool) → (x.caller == suc (suc worker)) ≡ b → by (suc (suc worker)) journal ≡ [] → cond (x.caller == suc (suc worker)) (x ∷ by (suc (suc worker)) journal) (by (suc (suc worker)) journal) ≡ []
  by_test true same none = absurd (omega (arith, ltb-true x.caller 2 two.0, eqb-true x.caller (suc (suc worker)) same))
  by_test false differs none = ap (λ (b : Bool). cond b (x ∷ by (suc (suc worker)) journal) (by (suc (suc worker)) journal)) differs ∙ none

-- a journal is one of them, or has nothing
no_journal : (journals : List (List ObjectEntry)) (n : ℕ) → length journals ≤ n → get_or journals n [] ≡ []
no_journal [] n out = refl
no_journal (j ∷ journals) zero out = absurd (omega (arith, out))
no_journal (j ∷ journals) (suc n) out = no_journal journals n (omega (arith, out))

two_in : (journals : List (List ObjectEntry)) → AllByRecursion (AllByRecursion IsOfTwo) journals → (n : ℕ) → AllByRecursion IsOfTwo (get_or journals n [])
two_in [] two n = tt
two_in (j ∷ journals) two zero = two.0
two_in (j ∷ journals) two (suc n) = two_in journals two.1 n

-- a small record, of which this has to be seen
pub record IsSmall (plan : Plan) (journals : List (List ObjectEntry)) (first second : List Made) : Type 0 where
  pub objects : length ([] ∷ journals) ≡ object_count plan
  pub quiet_first : AllByRecursion (IsQuiet (suc (length journals))) first
  pub quiet_second : AllByRecursion (IsQuiet (suc (length journals))) second
  pub two : AllByRecursion (AllByRecursion IsOfTwo) journals
  pub follow : EachFrom 0 (λ place object. IsJournalOf plan place object.kind (journal_of (record_of journals first second) (object_number place))) plan.objects
  pub parts : (place part : ℕ) (object : ObjectLine) → slice_get plan.objects place ≡ Some object → object.kind ≡ kinds.Pool → part < plan.workers → IsPartJournal (puts_at place plan.scripts) (journal_of (record_of journals first second) (first_part plan place + part))
  pub starts : has_dormant plan ≡ true → IsStartsJournal plan.dormant (journal_of (record_of journals first second) (starts_number plan))
  pub once_first : Below (suc (length journals)) (λ object. entries_in object first ≡ by 0 (journal_of (record_of journals first second) object))
  pub once_second : Below (suc (length journals)) (λ object. entries_in object second ≡ by 1 (journal_of (record_of journals first second) object))

module _ (plan : Plan) (journals : List (List ObjectEntry)) (first second : List Made) (small : IsSmall plan journals first second) where
  abbrev r : Record
  r = record_of journals first second

  abbrev count : ℕ
  count = suc (length journals)

  quiet : (worker : ℕ) → AllByRecursion (IsQuiet count) (list_of r worker)
  quiet zero = small.quiet_first
  quiet (suc zero) = small.quiet_second
  quiet (suc (suc worker)) = tt

  no_calls : (worker : ℕ) → calls_of r worker ≡ []
  no_calls worker = quiet_calls count (list_of r worker) (quiet worker)

  none_there : (worker j : ℕ) (x : Item) → slice_get (calls_of r worker) j ≡ Some x → ⊥
  none_there worker j x at = none-some x (ap (λ (xs : List Item). slice_get xs j) (sym (no_calls worker)) ∙ at)

  lawful : (start : Contents) → Lawful start [] (calls_of r)
  lawful start = record {
    legal = tt;
    marked = λ c. ap (marked_in c) (no_calls c);
    sound = λ c j x at. absurd (none_there c j x at);
    rises = λ c i j x y before at_x at_y. absurd (none_there c i x at_x);
    ranges = λ c b m x at is. absurd (none_there c b x at);
  }

  knows_none : (worker i : ℕ) (x : Made) → slice_get (list_of r worker) i ≡ Some x → front_of x ≡ none_known
  knows_none worker i x at = quiet_front count x (each_at (IsQuiet count) (list_of r worker) (quiet worker) i x at)

  fronts : KeepsFronts r
  fronts = record {
    rises = λ worker i j x y before at_x at_y. same_front (front_of y) (front_of x) (knows_none worker j y at_y) (knows_none worker i x at_x);
    own = λ worker i x at. ap (λ (l : List ℕ). slice_index l worker) (knows_none worker i x at) ∙ (none_at worker ∙ sym (ap (λ (l : List Item). length l) (quiet_take count i (list_of r worker) (quiet worker))));
    made = λ worker i other x at. omega (arith, ap (λ (l : List ℕ). slice_index l other) (knows_none worker i x at), none_at other);
  }

  once : (worker object : ℕ) → entries_in object (list_of r worker) ≡ by worker (journal_of r object)
  once worker object = by_test worker (nat_lt object count) refl where
    by_test : (worker : ℕ) (b : Bool) → nat_lt object count ≡ b → entries_in object (list_of r worker) ≡ by worker (journal_of r object)
    by_test zero true within = below (λ k. entries_in k first ≡ by 0 (journal_of r k)) count small.once_first object (ltb-true object count within)
    by_test (suc zero) true within = below (λ k. entries_in k second ≡ by 1 (journal_of r k)) count small.once_second object (ltb-true object count within)
    by_test (suc (suc worker)) true within = sym (no_third worker (journal_of r object) (two_in ([] ∷ journals) (tt, small.two) object))
    by_test worker false out = no_entries count object (list_of r worker) (quiet worker) (ltb-false object count out) ∙ sym (ap (by worker) (no_journal ([] ∷ journals) object (ltb-false object count out)))

  pub is_record : IsRecordOf plan r
  is_record = record {
    shared = lawful (contents_of plan);
    objects = small.objects;
    stops = λ k d within. absurd (omega (arith, within));
    journals = λ place object at. subst (λ (k : ℕ). IsJournalOf plan k object.kind (journal_of r (object_number k))) (omega arith) (from_at (λ place object. IsJournalOf plan place object.kind (journal_of r (object_number place))) 0 plan.objects small.follow place object at);
    parts = small.parts;
    starts = small.starts;
    once = once;
    fronts = fronts;
  }

-- where no object is a pool, there is nothing to see of pools' parts
pub no_parts : (plan : Plan) (journals : List (List ObjectEntry)) (first second : List Made) → AllByRecursion (λ (object : ObjectLine). is_pool object.kind ≡ false) plan.objects
    → (place part : ℕ) (object : ObjectLine) → slice_get plan.objects place ≡ Some object → object.kind ≡ kinds.Pool → part < plan.workers → IsPartJournal (puts_at place plan.scripts) (journal_of (record_of journals first second) (first_part plan place + part))
no_parts plan journals first second none place part object at pool within =
    absurd (false≢true (sym (each_at (λ (o : ObjectLine). is_pool o.kind ≡ false) plan.objects none place object at) ∙ ap is_pool pool))

-- neither of the two workers waits to be started
abbrev pub NoneWaits : Plan → Type 0
NoneWaits plan = plan.dormant ≡ false ∷ false ∷ []

none_waits : (plan : Plan) → NoneWaits plan → has_dormant plan ≡ false
none_waits plan none = ap (λ (l : List Bool). list_any (λ waits. waits) l) none

-- and then there is no journal of Starts
pub no_starts : (plan : Plan) (journal : List ObjectEntry) → NoneWaits plan → has_dormant plan ≡ true → IsStartsJournal plan.dormant journal
no_starts plan journal none waits = absurd (false≢true (sym (none_waits plan none) ∙ waits))

-- a line whose calls were all completed
abbrev pub whole_line : List SpeltCall → Line
whole_line spelt = record { first = []; spelt = spelt; last = []; halts = []; rest = []; ending = whole }

is_whole : (plan : Plan) (worker : ℕ) (spelt : List SpeltCall) → is_dormant plan worker ≡ false → has_dormant plan ≡ false → AreSpelt plan worker 0 spelt → IsLineOf plan worker (whole_line spelt)
is_whole plan worker spelt live none are = record {
  opens = subst (λ (b : Bool). cond b (wait_start_part (starts_number plan)) (returns true) [] (Done (Ok true))) (sym live) (refl, refl);
  calls = are;
  ends = (refl, subst (λ (b : Bool). cond b (and_then (done_part plan worker) (λ done. end_part (starts_number plan))) (returns tt) [] (Done (Ok tt))) (sym none) (refl, refl));
  halts = refl;
}

pub are_whole : (plan : Plan) → NoneWaits plan → (first second : List SpeltCall) → AreSpelt plan 0 0 first → AreSpelt plan 1 0 second
    → (worker : ℕ) (line : Line) → slice_get (whole_line first ∷ whole_line second ∷ []) worker ≡ Some line → IsLineOf plan worker line
are_whole plan none first second spelt also zero line at =
    subst (IsLineOf plan 0) (ap (λ (o : Option Line). unwrap_or o line) at) (is_whole plan 0 first (ap (λ (l : List Bool). get_or l 0 false) none) (none_waits plan none) spelt)
are_whole plan none first second spelt also (suc zero) line at =
    subst (IsLineOf plan 1) (ap (λ (o : Option Line). unwrap_or o line) at) (is_whole plan 1 second (ap (λ (l : List Bool). get_or l 1 false) none) (none_waits plan none) also)
are_whole plan none first second spelt also (suc (suc worker)) line at = absurd (none-some line at)

pub both_ended : (first second : List SpeltCall) → All (λ (line : Line). IsAtEnd line.ending) (whole_line first ∷ whole_line second ∷ [])
both_ended first second zero d within = tt
both_ended first second (suc zero) d within = tt
both_ended first second (suc (suc k)) d within = absurd (omega (arith, within))
