-- Two workers, each of which is done with the wait group that the other one has waited for before.
use Rattle.std.proofs.Common.{◌≡◌, ◌⊎◌, inl, inr, ⊎_elim, ℕ, zero, suc, ◌+◌, ◌<◌, true, false, negsuc, List, [], ◌∷◌, ◌++◌, map, length, Some, None, slice_get, get_or, refl, sym, ap, ◌∙◌, subst, arith, append-nil, append_assoc}
use Rattle.std.specs.Prelude.{Ok}
use Rattle.std.proofs.lemmas.Bool.{true≢false}
use Rattle.std.proofs.lemmas.Option.{none-some, same_Some}
use Rattle.script_calls.specs.declared.call.Call.{Call}
use Rattle.script_calls.specs.declared.call.Operation.TheVariants as operations
use Rattle.script_calls.specs.declared.call.Reply.{Reply}
use Rattle.script_calls.specs.declared.outcome.Outcome.TheVariants as outcomes
use Rattle.script_calls.specs.declared.outcome.Report.{Report}
use Rattle.sync_types.specs.declared.wait_call.WaitGroupCall.{WaitGroupCall}
use Rattle.sync_types.specs.declared.wait_call.WaitGroupCall.TheVariants as calls
use Rattle.sync_model.specs.declared.answer.Answer.TheVariants.{Done}
use Rattle.sync_model.specs.declared.journal.Deed.{Deed}
use Rattle.sync_model.specs.declared.journal.Deed.TheVariants.{Event, Refused, Halt}
use Rattle.sync_model.specs.declared.journal.Entry.{Entry}
use Rattle.sync_model.specs.Journal.{is_such}
use Rattle.wait_cores.specs.declared.group.GroupEvent.{GroupEvent}
use Rattle.wait_cores.specs.declared.group.GroupEvent.TheVariants as on_group
use Rattle.wait_cores.specs.declared.group.GroupReply.{GroupReply}
use Rattle.wait_cores.specs.declared.group.GroupReply.TheVariants as grouped
use Rattle.wait_cores.specs.GroupEdges.{group_releases}
use Rattle.protocols.specs.declared.wait_group.GroupStage.{GroupStage}
use Rattle.protocols.specs.declared.wait_group.GroupStage.TheVariants as stage
use Rattle.protocols.specs.GroupStages.{group_event, group_meaning, wait_meaning, leave_meaning}
use Rattle.protocols.specs.Spelling.{CallAnswer, Rest, IsFirstDeed, Spells}
use Rattle.workload.specs.declared.object.ObjectKind.TheVariants as kinds
use Rattle.workload.specs.declared.object.ObjectLine.{ObjectLine}
use Rattle.workload.specs.Plan.{Plan}
use Rattle.run_record.specs.declared.entered.ObjectEvent.TheVariants as event
use Rattle.run_record.specs.declared.entered.ObjectReply.TheVariants as reply
use Rattle.run_record.specs.declared.made.Made.{Made}
use Rattle.run_record.specs.declared.made.Made.TheVariants.{Shared, Entered}
use Rattle.run_record.specs.Calls.{SpellsCall}
use Rattle.run_record.specs.Edges.{frees, takes}
use Rattle.run_record.specs.Explains.{Explains, IsRecordOf}
use Rattle.run_record.specs.InOneOrder.{InOneOrder}
use Rattle.run_record.specs.Lines.{SpeltCall, script_of, AreSpelt}
use Rattle.run_record.specs.Parts.{lifted, lifted_deed}
use Rattle.run_record.specs.Record.{Record, ObjectEntry, object_number, journal_of, list_of, shared_in}
use Rattle.run_record.specs.Returns.{WaitGroupReturns}
use Rattle.run_record.specs.WaitGroupKind.{wait_group_call}
use Rattle.run_record.specs.Waits.{IsOnGroup}
use Rattle.run_laws.specs.Examples.{declared, on}
use Rattle.run_laws.specs.ExamplesCircle.{plan}
use Rattle.run_laws.proofs.DoneLines.{Plainly, calls_in, items_in, list_at, list_past, script_at}
use Rattle.run_laws.proofs.EachOf.{Each, each_at}
use Rattle.run_laws.proofs.OneOrder.{same_object, same_entry, in_list, in_journal}

abbrev GroupEntry : Type 0
GroupEntry = Entry GroupEvent GroupReply

abbrev GroupDeed : Type 0
GroupDeed = Deed GroupEvent GroupReply

-- an item of a wait on the object, by which nobody is let go
abbrev pub IsWaiting : ℕ → Made → Type 0
IsWaiting object (Shared x) = ⊥
IsWaiting object (Entered other entry) = (other ≡ object) × (is_such frees entry.deed ≡ false)

module _ (object : ℕ) where
  abbrev entered : GroupEntry → Made
  entered entry = Entered object (lifted event.WaitGroup reply.WaitGroup entry)

  abbrev deeds : List GroupEntry → List GroupDeed
  deeds entries = map (λ entry. entry.deed) entries

  abbrev Waits : List GroupEntry → Type 0
  Waits entries = Each (IsWaiting object) (map entered entries)

  nothing_left : (entries : List GroupEntry) → deeds entries ≡ [] → Waits entries
  nothing_left [] is = tt
  nothing_left (x ∷ entries) is = absurd (omega (arith, ap (λ (l : List GroupDeed). length l) is))

  -- an event of a wait, which lets nobody go
  waits_by : (e : GroupEvent) (r : GroupReply) → (e ≡ on_group.Wait) ⊎ (e ≡ on_group.Leave) → group_releases e r ≡ false
  waits_by e r (inl is) = ap (λ (x : GroupEvent). group_releases x r) is
  waits_by e r (inr is) = ap (λ (x : GroupEvent). group_releases x r) is

  module _ (answer : CallAnswer (Unit {0})) where
    abbrev Spelt : GroupStage → List GroupEntry → Type 0
    Spelt from entries = Spells group_event group_meaning from (deeds entries) answer

    first_leaves : (d : GroupDeed) (entries : List GroupEntry) → (Spelt stage.Leave entries → Waits entries) → IsFirstDeed group_event group_meaning stage.Leave d (deeds entries) (λ later. Spelt later entries) answer
        → (is_such frees (lifted_deed event.WaitGroup reply.WaitGroup d) ≡ false) × Waits entries
    first_leaves (Event e r) entries on ((now, is), rest) = (waits_by e r (inr is), by_reply r rest) where
      by_reply : (r : GroupReply) → Rest (leave_meaning r) (deeds entries) (λ later. Spelt later entries) answer → Waits entries
      by_reply grouped.Done (none, gives) = nothing_left entries none
      by_reply (grouped.Misused m) (none, gives) = nothing_left entries none
      by_reply grouped.Still more = on more
      by_reply grouped.Queued more = absurd more
    first_leaves (Refused e m) entries on (is, none, gives) = (refl, nothing_left entries none)
    first_leaves (Halt m) entries on begun = absurd begun

    leaves : (entries : List GroupEntry) → Spelt stage.Leave entries → Waits entries
    leaves [] spelt = absurd spelt
    leaves (x ∷ entries) spelt = let first = first_leaves x.deed entries (λ more. leaves entries more) spelt in ((refl, first.0), first.1)

    first_waits : (d : GroupDeed) (entries : List GroupEntry) → IsFirstDeed group_event group_meaning stage.Wait d (deeds entries) (λ later. Spelt later entries) answer
        → (is_such frees (lifted_deed event.WaitGroup reply.WaitGroup d) ≡ false) × Waits entries
    first_waits (Event e r) entries ((now, is), rest) = (waits_by e r (inl is), by_reply r rest) where
      by_reply : (r : GroupReply) → Rest (wait_meaning r) (deeds entries) (λ later. Spelt later entries) answer → Waits entries
      by_reply grouped.Done (none, gives) = nothing_left entries none
      by_reply grouped.Queued more = leaves entries more
      by_reply grouped.Still more = absurd more
      by_reply (grouped.Misused m) more = absurd more
    first_waits (Refused e m) entries (is, none, gives) = (refl, nothing_left entries none)
    first_waits (Halt m) entries begun = absurd begun

    waits : (entries : List GroupEntry) → Spelt stage.Wait entries → Waits entries
    waits [] spelt = absurd spelt
    waits (x ∷ entries) spelt = let first = first_waits x.deed entries spelt in ((refl, first.0), first.1)

  -- the items of a wait, however it ended
  of_wait : (items : List Made) (answer : CallAnswer (Reply ℕ)) → wait_group_call object calls.Wait items answer → Each (IsWaiting object) items
  of_wait items answer (given, (entries, are, spelt), gives) = subst (λ (l : List Made). Each (IsWaiting object) l) (sym are) (waits given entries spelt)

-- what a worker made that waited for a group and was then done with another one
pub record WaitsFirst (object other : ℕ) (list : List Made) : Type 0 where
  pub items : List Made
  pub waiting : Each (IsWaiting object) items
  pub earlier : List Made
  pub returned : ObjectEntry
  pub ends : items ≡ earlier ++ Entered object returned ∷ []
  pub takes_in : is_such takes returned.deed ≡ true
  pub done : ObjectEntry
  pub list_is : list ≡ items ++ Entered other done ∷ []

module _ {A B : Type 0} (f : A → B) where
  mapped_at : (xs : List A) (i : ℕ) (y : B) → slice_get (map f xs) i ≡ Some y → (x : A) × (slice_get xs i ≡ Some x) × (f x ≡ y)
  mapped_at [] i y at = absurd (none-some y at)
  mapped_at (x ∷ xs) zero y at = (x, refl, same_Some (f x) y at)
  mapped_at (x ∷ xs) (suc i) y at = mapped_at xs i y at

  mapped_past : (xs : List A) (i : ℕ) → slice_get (map f xs) i ≡ None → slice_get xs i ≡ None
  mapped_past [] i none = refl
  mapped_past (x ∷ xs) zero none = absurd (none-some (f x) (sym none))
  mapped_past (x ∷ xs) (suc i) none = mapped_past xs i none

module _ {A : Type 0} where
  at_end : (xs ys : List A) (y : A) → slice_get (xs ++ y ∷ ys) (length xs) ≡ Some y
  at_end [] ys y = refl
  at_end (x ∷ xs) ys y = at_end xs ys y

  in_or_last : (xs : List A) (y x : A) (i : ℕ) → slice_get (xs ++ y ∷ []) i ≡ Some x → (slice_get xs i ≡ Some x) ⊎ (y ≡ x)
  in_or_last [] y x zero at = inr (same_Some y x at)
  in_or_last [] y x (suc i) at = absurd (none-some x at)
  in_or_last (z ∷ xs) y x zero at = inl at
  in_or_last (z ∷ xs) y x (suc i) at = in_or_last xs y x i at

module _ (object other : ℕ) (list : List Made) (made : WaitsFirst object other list) where
  pub returned_at : slice_get list (length made.earlier) ≡ Some (Entered object made.returned)
  returned_at = ap (λ (l : List Made). slice_get l (length made.earlier)) (made.list_is ∙ (ap (λ (l : List Made). l ++ Entered other made.done ∷ []) made.ends ∙ append_assoc made.earlier (Entered object made.returned ∷ []) (Entered other made.done ∷ [])))
      ∙ at_end made.earlier (Entered other made.done ∷ []) (Entered object made.returned)

  pub done_at : slice_get list (length made.items) ≡ Some (Entered other made.done)
  done_at = ap (λ (l : List Made). slice_get l (length made.items)) made.list_is ∙ at_end made.items [] (Entered other made.done)

  pub returned_first : length made.earlier < length made.items
  returned_first = let e = ap (λ (l : List Made). length l) made.ends in let more = one_more made.earlier in omega (arith, e, more) where
    one_more : (xs : List Made) → length (xs ++ Entered object made.returned ∷ []) ≡ suc (length xs)
    one_more [] = refl
    one_more (x ∷ xs) = ap suc (one_more xs)

  -- whatever is entered there, on which object, and whether it lets anybody go
  pub made_at : (i n : ℕ) (x : ObjectEntry) → slice_get list i ≡ Some (Entered n x) → ((n ≡ object) × (is_such frees x.deed ≡ false)) ⊎ ((n ≡ other) × (x ≡ made.done))
  made_at i n x at = by_place (in_or_last made.items (Entered other made.done) (Entered n x) i (ap (λ (l : List Made). slice_get l i) (sym made.list_is) ∙ at)) where
    by_place : (slice_get made.items i ≡ Some (Entered n x)) ⊎ (Entered other made.done ≡ Entered n x) → ((n ≡ object) × (is_such frees x.deed ≡ false)) ⊎ ((n ≡ other) × (x ≡ made.done))
    by_place (inl there) = inl (each_at (IsWaiting object) made.items i (Entered n x) made.waiting there)
    by_place (inr last) = inr (sym (same_object other n made.done x last), sym (same_entry other n made.done x last))

-- what a completed call on a wait group has made
abbrev pub Returning : Type 0
Returning = (plan : Plan) (worker before start : ℕ) (object : ObjectLine) (call : Call) (of : WaitGroupCall) (items : List Made) (answer : Reply ℕ)
    → slice_get plan.objects call.object ≡ Some object → object.kind ≡ kinds.WaitGroup start → call.operation ≡ operations.WaitGroup of
    → SpellsCall plan worker before call items (Done (Ok answer)) → WaitGroupReturns (object_number call.object) of items answer

-- behind what addition a wait returns
abbrev pub Behind : Type 0
Behind = (plan : Plan) (r : Record) (place start n : ℕ) (object : ObjectLine) (returned : ObjectEntry)
    → IsRecordOf plan r → slice_get plan.objects place ≡ Some object → object.kind ≡ kinds.WaitGroup start → 0 < start
    → slice_get (journal_of r (object_number place)) n ≡ Some returned → is_such takes returned.deed ≡ true
    → (m : ℕ) × (added : ObjectEntry) × (below : ℕ) × (m < n) × (slice_get (journal_of r (object_number place)) m ≡ Some added)
    × IsOnGroup (on_group.Add (negsuc below)) grouped.Done added × (InOneOrder r → added.time < returned.time)

abbrev waiting_for : ℕ → Call
waiting_for place = on place (operations.WaitGroup calls.Wait)

abbrev done_with : ℕ → Call
done_with place = on place (operations.WaitGroup calls.Done)

-- a worker whose script is such
module _ (returning : Returning) (worker place other : ℕ) (object another : ObjectLine)
    (here : slice_get plan.objects place ≡ Some object) (kind : object.kind ≡ kinds.WaitGroup 1) (there : slice_get plan.objects other ≡ Some another) (also : another.kind ≡ kinds.WaitGroup 1)
    (is_wait : (items : List Made) (answer : CallAnswer (Reply ℕ)) → SpellsCall plan worker 0 (waiting_for place) items answer → wait_group_call (object_number place) calls.Wait items answer) where
  of_two : (before : ℕ) (s t : SpeltCall) → s.call ≡ waiting_for place → t.call ≡ done_with other → SpellsCall plan worker 0 s.call s.items (Done (Ok s.reply)) → SpellsCall plan worker before t.call t.items (Done (Ok t.reply))
      → WaitsFirst (object_number place) (object_number other) (items_in (s ∷ t ∷ []))
  of_two before s t is_first is_second first second =
      let wait = subst (λ (call : Call). SpellsCall plan worker 0 call s.items (Done (Ok s.reply))) is_first first in
      let done = subst (λ (call : Call). SpellsCall plan worker before call t.items (Done (Ok t.reply))) is_second second in
      let returned = (returning plan worker 0 1 object (waiting_for place) calls.Wait s.items s.reply here kind refl wait).2 in
      let once = (returning plan worker before 1 another (done_with other) calls.Done t.items t.reply there also refl done).1 in
      record {
        items = s.items;
        waiting = of_wait (object_number place) s.items (Done (Ok s.reply)) (is_wait s.items (Done (Ok s.reply)) wait);
        earlier = returned.earlier;
        returned = returned.last;
        ends = returned.are;
        takes_in = returned.takes_in;
        done = once.entry;
        list_is = ap (λ (l : List Made). s.items ++ l) (append-nil t.items ∙ once.are);
      }

  of_spelt : (spelt : List SpeltCall) → calls_in spelt ≡ waiting_for place ∷ done_with other ∷ [] → AreSpelt plan worker 0 spelt → WaitsFirst (object_number place) (object_number other) (items_in spelt)
  of_spelt [] is are = absurd (omega (arith, ap (λ (l : List Call). length l) is))
  of_spelt (s ∷ []) is are = absurd (omega (arith, ap (λ (l : List Call). length l) is))
  of_spelt (s ∷ (t ∷ [])) is are = of_two (0 + length (shared_in s.items)) s t (ap (λ (l : List Call). get_or l 0 s.call) is) (ap (λ (l : List Call). get_or l 1 t.call) is) are.0 are.1.0
  of_spelt (s ∷ (t ∷ (u ∷ rest))) is are = absurd (omega (arith, ap (λ (l : List Call). length l) is))

  pub of_worker : (r : Record) (left : Report) (explains : Explains plan (outcomes.Done left) r) → Plainly plan → map script_of explains.lines ≡ plan.scripts → slice_get plan.scripts worker ≡ Some (waiting_for place ∷ done_with other ∷ [])
      → WaitsFirst (object_number place) (object_number other) (list_of r worker)
  of_worker r left explains plainly scripts script =
      let found = mapped_at script_of explains.lines worker (waiting_for place ∷ done_with other ∷ []) (ap (λ (l : List (List Call)). slice_get l worker) scripts ∙ script) in
      subst (λ (l : List Made). WaitsFirst (object_number place) (object_number other) l) (sym (list_at plan r left explains plainly worker found.0 found.1))
      (of_spelt found.0.spelt (sym (script_at plan r left explains plainly worker found.0 found.1) ∙ found.2) (explains.are.each worker found.0 found.1).calls)

module _ (behind : Behind) (r : Record) (order : InOneOrder r) (lawful : IsRecordOf plan r) (two : (worker : ℕ) (i : ℕ) (x : Made) → slice_get (list_of r worker) i ≡ Some x → (worker ≡ 0) ⊎ (worker ≡ 1)) where
  -- the wait returns behind the other one's `done`
  returns_behind : (place other waiter : ℕ) (object : ObjectLine) (mine : WaitsFirst (object_number place) (object_number other) (list_of r waiter)) (maker : ℕ) (its : WaitsFirst (object_number other) (object_number place) (list_of r maker))
      → (place ≡ other → ⊥) → ((worker : ℕ) → (worker ≡ 0) ⊎ (worker ≡ 1) → (worker ≡ waiter) ⊎ (worker ≡ maker)) → slice_get plan.objects place ≡ Some object → object.kind ≡ kinds.WaitGroup 1 → its.done.time < mine.returned.time
  returns_behind place other waiter object mine maker its apart either at kind = by_caller (either there.1.caller (two there.1.caller listed.0 (Entered (object_number place) there.1) listed.1)) where
    stands : (n : ℕ) × (slice_get (journal_of r (object_number place)) n ≡ Some mine.returned)
    stands = in_journal plan r lawful waiter (object_number place) (length mine.earlier) mine.returned (returned_at (object_number place) (object_number other) (list_of r waiter) mine)

    there : (m : ℕ) × (added : ObjectEntry) × (below : ℕ) × (m < stands.0) × (slice_get (journal_of r (object_number place)) m ≡ Some added)
        × IsOnGroup (on_group.Add (negsuc below)) grouped.Done added × (InOneOrder r → added.time < mine.returned.time)
    there = behind plan r place 1 stands.0 object mine.returned lawful at kind (omega arith) stands.1 mine.takes_in

    listed : (i : ℕ) × (slice_get (list_of r there.1.caller) i ≡ Some (Entered (object_number place) there.1))
    listed = in_list plan r lawful (object_number place) there.0 there.1 there.4

    lets_go : is_such frees there.1.deed ≡ true
    lets_go = ap (is_such frees) there.5

    numbers : object_number place ≡ object_number other → ⊥
    numbers same = apart (omega (arith, same))

    own : ((object_number place ≡ object_number place) × (is_such frees there.1.deed ≡ false)) ⊎ ((object_number place ≡ object_number other) × (there.1 ≡ mine.done)) → its.done.time < mine.returned.time
    own (inl (same, none)) = absurd (true≢false (sym lets_go ∙ none))
    own (inr (same, is)) = absurd (numbers same)

    others : ((object_number place ≡ object_number other) × (is_such frees there.1.deed ≡ false)) ⊎ ((object_number place ≡ object_number place) × (there.1 ≡ its.done)) → its.done.time < mine.returned.time
    others (inl (same, none)) = absurd (numbers same)
    others (inr (same, is)) = subst (λ (e : ObjectEntry). e.time < mine.returned.time) is (there.6 order)

    by_caller : (there.1.caller ≡ waiter) ⊎ (there.1.caller ≡ maker) → its.done.time < mine.returned.time
    by_caller (inl is) = own (made_at (object_number place) (object_number other) (list_of r waiter) mine listed.0 (object_number place) there.1
        (subst (λ (c : ℕ). slice_get (list_of r c) listed.0 ≡ Some (Entered (object_number place) there.1)) is listed.1))
    by_caller (inr is) = others (made_at (object_number other) (object_number place) (list_of r maker) its listed.0 (object_number place) there.1
        (subst (λ (c : ℕ). slice_get (list_of r c) listed.0 ≡ Some (Entered (object_number place) there.1)) is listed.1))

  -- and the worker's own `done` has a number past that of its wait's return
  done_later : (object other worker : ℕ) (mine : WaitsFirst object other (list_of r worker)) → mine.returned.time < mine.done.time
  done_later object other worker mine = order.lists worker (length mine.earlier) (length mine.items) (Entered object mine.returned) (Entered other mine.done)
      (returned_first object other (list_of r worker) mine) (returned_at object other (list_of r worker) mine) (done_at object other (list_of r worker) mine)

  no_circle : (first : WaitsFirst 1 2 (list_of r 0)) (second : WaitsFirst 2 1 (list_of r 1)) → ⊥
  no_circle first second =
      let one = returns_behind 0 1 0 (declared 103 (kinds.WaitGroup 1)) first 1 second (λ e. omega (arith, e)) (λ worker either. either) refl refl in
      let two = returns_behind 1 0 1 (declared 104 (kinds.WaitGroup 1)) second 0 first (λ e. omega (arith, e)) (λ worker either. ⊎_elim (λ e. inr e) (λ e. inl e) either) refl refl in
      let three = done_later 1 2 0 first in
      let four = done_later 2 1 1 second in
      omega (arith, one, two, three, four)

module _ (returning : Returning) (behind : Behind) (r : Record) (left : Report) (order : InOneOrder r) (explains : Explains plan (outcomes.Done left) r) (plainly : Plainly plan) (scripts : map script_of explains.lines ≡ plan.scripts) where
  of_two_workers : (worker i : ℕ) (x : Made) → slice_get (list_of r worker) i ≡ Some x → (worker ≡ 0) ⊎ (worker ≡ 1)
  of_two_workers zero i x at = inl refl
  of_two_workers (suc zero) i x at = inr refl
  of_two_workers (suc (suc worker)) i x at =
      let none = mapped_past script_of explains.lines (suc (suc worker)) (ap (λ (l : List (List Call)). slice_get l (suc (suc worker))) scripts) in
      absurd (none-some x (ap (λ (l : List Made). slice_get l i) (sym (list_past plan r left explains plainly (suc (suc worker)) none)) ∙ at))

  pub never_done : ⊥
  never_done = no_circle behind r order explains.lawful of_two_workers
      (of_worker returning 0 0 1 (declared 103 (kinds.WaitGroup 1)) (declared 104 (kinds.WaitGroup 1)) refl refl refl refl (λ items answer spelt. spelt) r left explains plainly scripts refl)
      (of_worker returning 1 1 0 (declared 104 (kinds.WaitGroup 1)) (declared 103 (kinds.WaitGroup 1)) refl refl refl refl (λ items answer spelt. spelt) r left explains plainly scripts refl)
