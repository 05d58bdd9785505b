-- A load behind the wait for a worker that was started, which finds what that one added; one that finds what there was before; and a wait that returns before the worker is done.
use Rattle.std.proofs.Common.{◌≡◌, ℕ, zero, suc, pos, negsuc, ◌<◌, ◌≤◌, ◌==◌, Bool, true, false, cond, List, [], ◌∷◌, length, take, Option, Some, slice_get, slice_index, refl, sym, ap, ◌∙◌, subst, arith}
use Rattle.std.specs.Prelude.{Ok, All, nat_lt, unwrap_or}
use Rattle.std.specs.List.{AllByRecursion}
use Rattle.std.proofs.lemmas.Bool.{eqb-true, ltb-true, false≢true, true≢false}
use Rattle.std.proofs.lemmas.Option.{none-some}
use Rattle.script_calls.specs.declared.call.ComposedCall.TheVariants.{Go}
use Rattle.script_calls.specs.declared.call.Operation.TheVariants as operations
use Rattle.script_calls.specs.declared.call.Reply.TheVariants as replies
use Rattle.script_calls.specs.declared.outcome.Outcome.{Outcome}
use Rattle.starts_core.specs.declared.protocol.StartsOutcome.TheVariants as outcomes
use Rattle.starts_core.specs.declared.starts.StartEvent.{StartEvent}
use Rattle.starts_core.specs.declared.starts.StartEvent.TheVariants.{Start, End, Leave}
use Rattle.starts_core.specs.declared.starts.StartReply.{StartReply}
use Rattle.starts_core.specs.declared.starts.StartReply.TheVariants as started
use Rattle.starts_core.specs.StartsEdges.{starts_releases, starts_acquires}
use Rattle.sync_model.specs.declared.answer.Answer.TheVariants.{Done}
use Rattle.sync_model.specs.declared.item.Item.{Item}
use Rattle.sync_model.specs.declared.item.SharedCall.{SharedCall}
use Rattle.sync_model.specs.declared.item.SharedCall.TheVariants as shared
use Rattle.sync_model.specs.declared.item.SharedEntry.{SharedEntry}
use Rattle.sync_model.specs.declared.journal.Entry.{Entry}
use Rattle.sync_model.specs.Front.{AtLeast}
use Rattle.sync_model.specs.Journal.{by, is_such}
use Rattle.sync_model.specs.SharedCalls.{IsSound, Knows, Lawful, bound}
use Rattle.sync_model.specs.SharedHistory.{entries_by, marked_in}
use Rattle.sync_types.specs.declared.atomic_object.AtomicCall.TheVariants.{Load, Add}
use Rattle.sync_types.specs.declared.atomic_object.AtomicReply.TheVariants.{Held}
use Rattle.sync_types.specs.declared.atomic_object.Number.TheVariants.{Int64}
use Rattle.sync_types.specs.declared.wait_call.WaitGroupCall.TheVariants as calls
use Rattle.wait_cores.specs.GroupEdges.{is_done as is_done_by, group_releases, group_acquires}
use Rattle.wait_cores.specs.GroupMachine.{next}
use Rattle.wait_cores.specs.declared.group.GroupEvent.{GroupEvent}
use Rattle.wait_cores.specs.declared.group.GroupEvent.TheVariants as on_group
use Rattle.wait_cores.specs.declared.group.GroupReply.{GroupReply}
use Rattle.wait_cores.specs.declared.group.GroupReply.TheVariants as grouped
use Rattle.workload.specs.declared.object.ObjectKind.TheVariants as kinds
use Rattle.workload.specs.declared.object.ObjectLine.{ObjectLine}
use Rattle.run_record.specs.declared.entered.ObjectEvent.TheVariants as event
use Rattle.run_record.specs.declared.entered.ObjectReply.TheVariants as reply
use Rattle.run_record.specs.declared.made.Made.{Made}
use Rattle.run_record.specs.declared.made.Made.TheVariants.{Shared, Entered}
use Rattle.run_record.specs.Calls.{IsJournalOf}
use Rattle.run_record.specs.Explains.{IsRecordOf, IsAtEnd, Explains}
use Rattle.run_record.specs.Lines.{SpeltCall, Line, whole, IsLineOf}
use Rattle.run_record.specs.Objects.{contents_of, is_pool}
use Rattle.run_record.specs.Record.{object_number, journal_of, list_of, calls_of, shared_in, entries_in, front_of}
use Rattle.run_record.specs.StartsKind.{IsStartsJournal}
use Rattle.run_record.specs.WaitGroupKind.{IsWaitGroupJournal, group_start}
use Rattle.run_laws.specs.Examples.{declared, on, entry, none_known}
use Rattle.run_laws.specs.ExamplesGo.{plan, outcome, addition_known, both_known, joins, starts, goes, adds, added, is_done, ends, waits, loads, finds_the_sum, finds_nothing, left_before}
use Rattle.run_laws.proofs.Backs.{wait_group_back, is_wait_group_back}
use Rattle.run_laws.proofs.SmallRecords.{ByScript, none_at, above_none, same_known, Pairs, pair_at, EachFrom, from_at, each_at, no_third}
use Rattle.run_laws.proofs.Unlifted.{follows_back, edges_back}

-- ---- the record that is explained

abbrev load : Item
load = loads 1 (pos 7) addition_known

abbrev made_first : List Made
made_first = Entered 1 joins ∷ Entered 3 starts ∷ Entered 1 (waits addition_known) ∷ Shared load ∷ Entered 3 (ends 0 both_known) ∷ []

abbrev made_second : List Made
made_second = Entered 3 goes ∷ Shared adds ∷ Entered 1 is_done ∷ Entered 3 (ends 1 addition_known) ∷ []

both_more : AtLeast both_known addition_known
both_more zero = omega arith
both_more (suc zero) = omega arith
both_more (suc (suc c)) = omega arith

-- the group's journal

abbrev group_entry : ℕ → GroupEvent → List ℕ → Entry GroupEvent GroupReply
group_entry worker e knows = record (entry worker e grouped.Done) { front = knows }

abbrev own_group : List (Entry GroupEvent GroupReply)
own_group = group_entry 0 (on_group.Add (pos 1)) none_known ∷ group_entry 1 (on_group.Add (negsuc 0)) addition_known ∷ group_entry 0 on_group.Wait addition_known ∷ []

abbrev KeepsEdge : {E R : Type 0} → (E → R → Bool) → (E → R → Bool) → Entry E R → Entry E R → Type 0
KeepsEdge frees takes x y = is_such frees x.deed ≡ true → is_such takes y.deed ≡ true → AtLeast y.front x.front

group_pairs : Pairs (KeepsEdge group_releases group_acquires) own_group
group_pairs = (((λ frees takes. above_none addition_known), ((λ frees takes. above_none addition_known), tt)), (((λ frees takes. same_known addition_known), tt), (tt, tt)))

is_group : IsWaitGroupJournal 2 0 (joins ∷ is_done ∷ waits addition_known ∷ [])
is_group = (own_group, refl, ((refl, refl), ((refl, refl), ((refl, refl), tt))), λ i j x y before at_x at_y. pair_at (KeepsEdge group_releases group_acquires) own_group group_pairs i j x y before at_x at_y)

-- that of Starts

abbrev starts_entry : ℕ → StartEvent → StartReply → List ℕ → Entry StartEvent StartReply
starts_entry worker e r knows = record (entry worker e r) { front = knows }

abbrev own_starts : List (Entry StartEvent StartReply)
own_starts =
    starts_entry 0 (Start 1) started.Done none_known ∷ starts_entry 1 Leave started.Go none_known ∷ starts_entry 1 End started.Done addition_known ∷ starts_entry 0 End started.Done both_known ∷ []

starts_pairs : Pairs (KeepsEdge starts_releases starts_acquires) own_starts
starts_pairs = (
  ((λ frees takes. same_known none_known), ((λ frees takes. above_none addition_known), ((λ frees takes. above_none both_known), tt))),
  (((λ frees takes. above_none addition_known), ((λ frees takes. above_none both_known), tt)), (((λ frees takes. both_more), tt), (tt, tt))),
)

is_starts : IsStartsJournal (false ∷ true ∷ []) (starts ∷ goes ∷ ends 1 addition_known ∷ ends 0 both_known ∷ [])
is_starts = (
  own_starts,
  refl,
  ((refl, refl), ((refl, refl), ((refl, refl), ((refl, refl), tt)))),
  λ i j x y before at_x at_y. pair_at (KeepsEdge starts_releases starts_acquires) own_starts starts_pairs i j x y before at_x at_y,
)

-- the calls on the int64

both_calls : (P : ℕ → ℕ → Item → Type 0) → P 0 0 load → P 1 0 adds → (c j : ℕ) (x : Item) → slice_get (calls_of finds_the_sum c) j ≡ Some x → P c j x
both_calls P first second zero zero x at = subst (P 0 0) (ap (λ (o : Option Item). unwrap_or o x) at) first
both_calls P first second zero (suc j) x at = absurd (none-some x at)
both_calls P first second (suc zero) zero x at = subst (P 1 0) (ap (λ (o : Option Item). unwrap_or o x) at) second
both_calls P first second (suc zero) (suc j) x at = absurd (none-some x at)
both_calls P first second (suc (suc c)) j x at = absurd (none-some x at)

abbrev is_next : SharedCall → Bool
is_next (shared.Next begin) = true
is_next call = false

abbrev is_begin : SharedCall → Bool
is_begin (shared.Begin m) = true
is_begin call = false

marked : (c : ℕ) → marked_in c (calls_of finds_the_sum c) ≡ entries_by c (added ∷ [])
marked zero = refl
marked (suc zero) = refl
marked (suc (suc c)) = by_test (1 == suc (suc c)) refl where
  by_test : (b : Bool) → (1 == suc (suc c)) ≡ b → let numbered : ℕ × SharedEntry = (0, added) in [] ≡ cond b (numbered ∷ []) []
  by_test true same = absurd (omega (arith, eqb-true 1 (suc (suc c)) same))
  by_test false other = refl

addition_made : (c : ℕ) → slice_index addition_known c ≤ length (calls_of finds_the_sum c)
addition_made zero = omega arith
addition_made (suc zero) = omega arith
addition_made (suc (suc c)) = omega arith

both_made : (c : ℕ) → slice_index both_known c ≤ length (calls_of finds_the_sum c)
both_made zero = omega arith
both_made (suc zero) = omega arith
both_made (suc (suc c)) = omega arith

none_made : (c : ℕ) → slice_index none_known c ≤ length (calls_of finds_the_sum c)
none_made c = omega (arith, none_at c)

-- the load knows the addition, and lies behind it
knows_addition : Knows (calls_of finds_the_sum) addition_known 1
knows_addition = record {
  made = addition_made;
  within = λ c j x before at. both_calls (λ c j x. j < slice_index addition_known c → bound x ≤ 1) (λ less. omega arith) (λ less. omega arith) c j x at before;
}

knows_none : Knows (calls_of finds_the_sum) none_known 0
knows_none = record {
  made = none_made;
  within = λ c j x before at. absurd (omega (arith, before, none_at c));
}

is_sound : (c j : ℕ) (x : Item) → slice_get (calls_of finds_the_sum c) j ≡ Some x → IsSound (contents_of plan) (added ∷ []) (calls_of finds_the_sum) c j x
is_sound = both_calls (λ c j x. IsSound (contents_of plan) (added ∷ []) (calls_of finds_the_sum) c j x)
    (record { place = omega arith; reply = refl; entry = refl; knows = knows_addition; own = refl; begun = λ b is. absurd (false≢true (ap is_next is)) })
    (record { place = omega arith; reply = refl; entry = refl; knows = knows_none; own = refl; begun = λ b is. absurd (false≢true (ap is_next is)) })

alone : (c j : ℕ) (x : Item) → slice_get (calls_of finds_the_sum c) j ≡ Some x → j ≡ 0
alone = both_calls (λ c j x. j ≡ 0) refl refl

begins_none : (c j : ℕ) (x : Item) → slice_get (calls_of finds_the_sum c) j ≡ Some x → is_begin x.call ≡ false
begins_none = both_calls (λ c j x. is_begin x.call ≡ false) refl refl

lawful_calls : Lawful (contents_of plan) (added ∷ []) (calls_of finds_the_sum)
lawful_calls = record {
  legal = (refl, refl, tt);
  marked = marked;
  sound = is_sound;
  rises = λ c i j x y before at_x at_y. absurd (omega (arith, before, alone c i x at_x, alone c j y at_y));
  ranges = λ c b m x at is. absurd (false≢true (sym (begins_none c b x at) ∙ ap is_begin is));
}

-- what there is in the lists

in_lists : (P : ℕ → ℕ → Made → Type 0) → EachFrom 0 (P 0) made_first → EachFrom 0 (P 1) made_second → (worker i : ℕ) (x : Made) → slice_get (list_of finds_the_sum worker) i ≡ Some x → P worker i x
in_lists P first second zero i x at = subst (λ (k : ℕ). P 0 k x) (omega arith) (from_at (P 0) 0 made_first first i x at)
in_lists P first second (suc zero) i x at = subst (λ (k : ℕ). P 1 k x) (omega arith) (from_at (P 1) 0 made_second second i x at)
in_lists P first second (suc (suc worker)) i x at = absurd (none-some x at)

abbrev KnowsMore : Made → Made → Type 0
KnowsMore x y = AtLeast (front_of y) (front_of x)

first_pairs : Pairs KnowsMore made_first
first_pairs = (
  (above_none none_known, (above_none addition_known, (above_none addition_known, (above_none both_known, tt)))),
  (
    (above_none addition_known, (above_none addition_known, (above_none both_known, tt))),
    ((same_known addition_known, (both_more, tt)), ((both_more, tt), (tt, tt))),
  ),
)

second_pairs : Pairs KnowsMore made_second
second_pairs = (
  (above_none none_known, (above_none addition_known, (above_none addition_known, tt))),
  ((above_none addition_known, (above_none addition_known, tt)), ((same_known addition_known, tt), (tt, tt))),
)

rises : (worker i j : ℕ) (x y : Made) → i < j → slice_get (list_of finds_the_sum worker) i ≡ Some x → slice_get (list_of finds_the_sum worker) j ≡ Some y → AtLeast (front_of y) (front_of x)
rises zero i j x y before at_x at_y = pair_at KnowsMore made_first first_pairs i j x y before at_x at_y
rises (suc zero) i j x y before at_x at_y = pair_at KnowsMore made_second second_pairs i j x y before at_x at_y
rises (suc (suc worker)) i j x y before at_x at_y = absurd (none-some x at_x)

-- nothing is entered in an object but 0 to 3

abbrev IsWithin : Made → Type 0
IsWithin (Shared x) = Unit {0}
IsWithin (Entered object entry) = nat_lt object 4 ≡ true

none_past : (other : ℕ) (list : List Made) → AllByRecursion IsWithin list → 4 ≤ other → entries_in other list ≡ []
none_past other [] within past = refl
none_past other (Shared x ∷ list) within past = none_past other list within.1 past
none_past other (Entered object entry ∷ list) within past = by_test (object == other) refl (none_past other list within.1 past) where
  by_test : (b : Bool) → (object == other) ≡ b → entries_in other list ≡ [] → cond (object == other) (entry ∷ entries_in other list) (entries_in other list) ≡ []
  by_test true same none = absurd (omega (arith, ltb-true object 4 within.0, eqb-true object other same, past))
  by_test false differs none = ap (λ (b : Bool). cond b (entry ∷ entries_in other list) (entries_in other list)) differs ∙ none

all_within : (worker : ℕ) → AllByRecursion IsWithin (list_of finds_the_sum worker)
all_within zero = (refl, (refl, (refl, (tt, (refl, tt)))))
all_within (suc zero) = (refl, (tt, (refl, (refl, tt))))
all_within (suc (suc worker)) = tt

once : (worker object : ℕ) → entries_in object (list_of finds_the_sum worker) ≡ by worker (journal_of finds_the_sum object)
once zero zero = refl
once zero (suc zero) = refl
once zero (suc (suc zero)) = refl
once zero (suc (suc (suc zero))) = refl
once (suc zero) zero = refl
once (suc zero) (suc zero) = refl
once (suc zero) (suc (suc zero)) = refl
once (suc zero) (suc (suc (suc zero))) = refl
once (suc (suc worker)) zero = refl
once (suc (suc worker)) (suc zero) = sym (no_third worker (journal_of finds_the_sum 1) (refl, (refl, (refl, tt))))
once (suc (suc worker)) (suc (suc zero)) = refl
once (suc (suc worker)) (suc (suc (suc zero))) = sym (no_third worker (journal_of finds_the_sum 3) (refl, (refl, (refl, (refl, tt)))))
once worker (suc (suc (suc (suc object)))) = none_past (suc (suc (suc (suc object)))) (list_of finds_the_sum worker) (all_within worker) (omega arith)

follow : EachFrom 0 (λ place object. IsJournalOf plan place object.kind (journal_of finds_the_sum (object_number place))) plan.objects
follow = (is_group, (refl, tt))

is_record : IsRecordOf plan finds_the_sum
is_record = record {
  shared = lawful_calls;
  objects = refl;
  stops = λ k d within. absurd (omega (arith, within));
  journals = λ place object at. subst (λ (k : ℕ). IsJournalOf plan k object.kind (journal_of finds_the_sum (object_number k))) (omega arith) (from_at (λ place object. IsJournalOf plan place object.kind (journal_of finds_the_sum (object_number place))) 0 plan.objects follow place object at);
  parts = λ place part object at pool within. absurd (false≢true (sym (each_at (λ (o : ObjectLine). is_pool o.kind ≡ false) plan.objects (refl, (refl, tt)) place object at) ∙ ap is_pool pool));
  starts = λ some. is_starts;
  once = once;
  fronts = record {
    rises = rises;
    own = in_lists (λ w i x. slice_index (front_of x) w ≡ length (shared_in (take i (list_of finds_the_sum w)))) (refl, (refl, (refl, (refl, (refl, tt))))) (refl, (refl, (refl, (refl, tt))));
    made = λ worker i other x at. in_lists (λ w i x. slice_index (front_of x) other ≤ length (calls_of finds_the_sum other))
        (none_made other, (none_made other, (addition_made other, (addition_made other, (both_made other, tt))))) (none_made other, (none_made other, (addition_made other, (addition_made other, tt)))) worker i x at;
  };
}

-- the lines

abbrev go_made : SpeltCall
go_made = record { call = on 0 (operations.Composed (Go 1)); items = Entered 1 joins ∷ Entered 3 starts ∷ []; reply = replies.Returned }

abbrev wait_made : SpeltCall
wait_made = record { call = on 0 (operations.WaitGroup calls.Wait); items = Entered 1 (waits addition_known) ∷ []; reply = replies.Returned }

abbrev load_made : SpeltCall
load_made = record { call = on 1 (operations.Atomic Load); items = Shared load ∷ []; reply = replies.Atomic (Held (Int64 (pos 7))) }

abbrev add_made : SpeltCall
add_made = record { call = on 1 (operations.Atomic (Add (Int64 (pos 7)))); items = Shared adds ∷ []; reply = replies.Atomic (Held (Int64 (pos 7))) }

abbrev first_line : Line
first_line = record { first = []; spelt = go_made ∷ wait_made ∷ load_made ∷ []; last = Entered 3 (ends 0 both_known) ∷ []; halts = []; rest = []; ending = whole }

abbrev second_line : Line
second_line = record { first = Entered 3 goes ∷ []; spelt = add_made ∷ []; last = Entered 1 is_done ∷ Entered 3 (ends 1 addition_known) ∷ []; halts = []; rest = []; ending = whole }

is_first : IsLineOf plan 0 first_line
is_first = record {
  opens = (refl, refl);
  calls = (
    (
      Entered 1 joins ∷ [],
      Entered 3 starts ∷ [],
      Done (Ok replies.Returned),
      refl,
      (Done (Ok tt), (group_entry 0 (on_group.Add (pos 1)) none_known ∷ [], refl, ((0, refl), (refl, refl))), refl),
      (Done (Ok outcomes.Done), (starts_entry 0 (Start 1) started.Done none_known ∷ [], refl, ((0, refl), (refl, refl))), refl),
    ),
    ((Done (Ok tt), (group_entry 0 on_group.Wait addition_known ∷ [], refl, ((0, refl), (refl, refl))), refl), ((Held (Int64 (pos 7)), (load ∷ [], refl, refl), refl), tt)),
  );
  ends = (refl, ([], Entered 3 (ends 0 both_known) ∷ [], Done (Ok tt), refl, (refl, refl), (Done (Ok outcomes.Done), (starts_entry 0 End started.Done both_known ∷ [], refl, ((0, refl), (refl, refl))), refl)));
  halts = refl;
}

is_second : IsLineOf plan 1 second_line
is_second = record {
  opens = (Done (Ok (outcomes.Started true)), (starts_entry 1 Leave started.Go none_known ∷ [], refl, ((0, refl), (refl, refl))), refl);
  calls = ((Held (Int64 (pos 7)), (adds ∷ [], refl, refl), refl), tt);
  ends = (
    refl,
    (
      Entered 1 is_done ∷ [],
      Entered 3 (ends 1 addition_known) ∷ [],
      Done (Ok tt),
      refl,
      (Done (Ok replies.Returned), (Done (Ok tt), (group_entry 1 (on_group.Add (negsuc 0)) addition_known ∷ [], refl, ((0, refl), (refl, refl))), refl), refl),
      (Done (Ok outcomes.Done), (starts_entry 1 End started.Done addition_known ∷ [], refl, ((0, refl), (refl, refl))), refl),
    ),
  );
  halts = refl;
}

each : (worker : ℕ) (line : Line) → slice_get (first_line ∷ second_line ∷ []) worker ≡ Some line → IsLineOf plan worker line
each zero line at = subst (IsLineOf plan 0) (ap (λ (o : Option Line). unwrap_or o line) at) is_first
each (suc zero) line at = subst (IsLineOf plan 1) (ap (λ (o : Option Line). unwrap_or o line) at) is_second
each (suc (suc worker)) line at = absurd (none-some line at)

at_end : All (λ (line : Line). IsAtEnd line.ending) (first_line ∷ second_line ∷ [])
at_end zero d within = tt
at_end (suc zero) d within = tt
at_end (suc (suc k)) d within = absurd (omega (arith, within))

pub explained : ByScript → Explains plan outcome finds_the_sum
explained by_script = record {
  lines = first_line ∷ second_line ∷ [];
  are = (by_script plan _ _ _ refl).1 (record { scripts = refl; lists = refl; replies = refl; each = each });
  lawful = is_record;
  agrees = (at_end, refl);
}

-- ---- those that aren't

-- behind the `done` the wait knows the addition, and so does the load: it can't lie before it
pub refused : (other : Outcome) (at_wait at_load : List ℕ) → Explains plan other (finds_nothing at_wait at_load) → ⊥
refused other at_wait at_load explains =
    let is : IsWaitGroupJournal 2 0 (joins ∷ is_done ∷ waits at_wait ∷ []) = explains.lawful.journals 0 (declared 103 (kinds.WaitGroup 0)) refl in
    let edges = edges_back event.WaitGroup reply.WaitGroup wait_group_back is_wait_group_back next group_releases group_acquires (group_start 2 0) (joins ∷ is_done ∷ waits at_wait ∷ []) is in
    let waited : AtLeast at_wait addition_known = edges 1 2 (group_entry 1 (on_group.Add (negsuc 0)) addition_known) (group_entry 0 on_group.Wait at_wait) (omega arith) refl refl refl refl in
    let loaded : AtLeast at_load at_wait = explains.lawful.fronts.rises 0 2 3 (Entered 1 (waits at_wait)) (Shared (loads 0 (pos 0) at_load)) (omega arith) refl refl in
    let known : 1 ≤ slice_index at_load 1 = omega (arith, waited 1, loaded 1) in
    let behind : 1 ≤ 0 = (explains.lawful.shared.sound 0 0 (loads 0 (pos 0) at_load) refl).knows.within 1 0 adds (omega (arith, known)) refl in
    omega (arith, behind)

-- before it the counter is 1, and a wait doesn't return
pub not_left : (other : Outcome) (at_wait at_load : List ℕ) → Explains plan other (left_before at_wait at_load) → ⊥
not_left other at_wait at_load explains =
    let is : IsWaitGroupJournal 2 0 (joins ∷ waits at_wait ∷ is_done ∷ []) = explains.lawful.journals 0 (declared 103 (kinds.WaitGroup 0)) refl in
    let follows = follows_back event.WaitGroup reply.WaitGroup wait_group_back is_wait_group_back next group_releases group_acquires (group_start 2 0) (joins ∷ waits at_wait ∷ is_done ∷ []) is in
    true≢false (ap is_done_by follows.1.0.1)
