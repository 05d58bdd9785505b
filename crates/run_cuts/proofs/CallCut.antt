-- That a call of a workload is cut as it is spelt.
use Rattle.std.proofs.Common.{◌≡◌, ◌∙◌, ℕ, Bool, true, false, cond, List, ◌++◌, Option, Some, None, refl, sym, ap, subst}
use Rattle.std.specs.Prelude.{Err, Ok, slice_get}
use Rattle.sync_model.specs.declared.answer.Answer.TheVariants.{Done, Halted}
use Rattle.protocols.specs.Spelling.{CallAnswer}
use Rattle.script_calls.specs.Runs.{passes_of, says_no}
use Rattle.script_calls.specs.declared.call.Reply.{Reply}
use Rattle.script_calls.specs.declared.call.Reply.TheVariants as replies
use Rattle.script_calls.specs.declared.call.Call.{Call}
use Rattle.script_calls.specs.declared.call.ComposedCall.TheVariants.{IfEqual, WaitFor, Go}
use Rattle.script_calls.specs.declared.call.Operation.{Operation}
use Rattle.script_calls.specs.declared.call.Operation.TheVariants as operations
use Rattle.workload.specs.Keys.{keys_in, key_number}
use Rattle.workload.specs.Plan.{Plan}
use Rattle.workload.specs.declared.object.ObjectKind.{ObjectKind}
use Rattle.workload.specs.declared.object.ObjectKind.TheVariants as kinds
use Rattle.workload.specs.declared.object.ObjectLine.{ObjectLine}
use Rattle.run_record.specs.Calls.{SpellsCall, call_at, call_on}
use Rattle.run_record.specs.MapKind.{AreSorted, cursor_showing, range_call}
use Rattle.run_record.specs.Parts.{Part, Places, never, read_as, with_outcome}
use Rattle.run_record.specs.declared.made.Made.{Made}
use Rattle.run_record.specs.Objects.{map_number, atomic_number, first_part, starts_number}
use Rattle.run_record.specs.Record.{object_number}
use Rattle.run_cuts.specs.CallCuts.{at_cut, call_cut, is_told, on_cut}
use Rattle.run_cuts.specs.Cuts.{Cutter, Cuts, never_cut, read_cut, whole}
use Rattle.run_cuts.specs.OneLine.{CutsCall, CutsCalls, SettlesAnswer, settled_as, settles_by}
use Rattle.run_cuts.specs.RangeCuts.{shows, shows_cut}
use Rattle.run_cuts.proofs.CondCut.{cond_cuts}
use Rattle.run_cuts.proofs.CutLemmas.{never_cuts, read_cuts, wrong_within}
use Rattle.run_cuts.proofs.FlightCut.{fly_cuts}
use Rattle.run_cuts.proofs.GroupCut.{group_cuts}
use Rattle.run_cuts.proofs.MutexCut.{mutex_cuts}
use Rattle.run_cuts.proofs.OnceCut.{do_cuts, func_cuts, value_cuts}
use Rattle.run_cuts.proofs.PoolCut.{pool_cuts}
use Rattle.run_cuts.proofs.RangeCut.{range_cut}
use Rattle.run_cuts.proofs.RwMutexCut.{rw_mutex_cuts}
use Rattle.run_cuts.proofs.SemaCut.{sema_cuts}
use Rattle.run_cuts.proofs.SharedCut.{atomic_cuts, if_equal_cuts, map_cuts}
use Rattle.run_cuts.proofs.SortedPairs.{are_sorted, sorted_pairs}
use Rattle.run_cuts.proofs.StartsCut.{go_cuts}
use Rattle.run_cuts.proofs.WaitForCut.{wait_for_cuts}

on_cuts : (plan : Plan) (worker before place : ℕ) (kind : ObjectKind) (operation : Operation) → is_told operation ≡ true → Cuts (call_on plan worker before place kind operation) (on_cut plan worker before place kind operation)
on_cuts plan worker before place kinds.Map (operations.Map call) h = map_cuts (keys_in plan.scripts) (map_number plan.objects place) call
on_cuts plan worker before place kind operations.Range h = absurd cc
on_cuts plan worker before place (kinds.Atomic type) (operations.Atomic call) h = atomic_cuts (atomic_number plan.objects place) call
on_cuts plan worker before place (kinds.Atomic type) (operations.Composed (IfEqual value passes)) h = if_equal_cuts (atomic_number plan.objects place) value
on_cuts plan worker before place kinds.Mutex (operations.Mutex call) h = mutex_cuts (object_number place) call
on_cuts plan worker before place kinds.RwMutex (operations.RwMutex call) h = rw_mutex_cuts (object_number place) call
on_cuts plan worker before place (kinds.Cond mutex) (operations.Cond call) h = cond_cuts (object_number place) (object_number mutex) call
on_cuts plan worker before place (kinds.Cond mutex) (operations.Composed (WaitFor atomic value tries)) h = wait_for_cuts (object_number place) (object_number mutex) (atomic_number plan.objects atomic) value tries
on_cuts plan worker before place (kinds.WaitGroup start) (operations.WaitGroup call) h = group_cuts (object_number place) call
on_cuts plan worker before place (kinds.WaitGroup start) (operations.Composed (Go started)) h = go_cuts (object_number place) (starts_number plan) started
on_cuts plan worker before place (kinds.Once atomic delta) operations.Once h = do_cuts (object_number place) (atomic_number plan.objects atomic) delta
on_cuts plan worker before place (kinds.OnceFunc code) operations.OnceFunc h = func_cuts (object_number place) code
on_cuts plan worker before place (kinds.OnceValue value) operations.OnceValue h = value_cuts (object_number place) value
on_cuts plan worker before place kinds.Pool (operations.Pool call) h = pool_cuts plan.workers worker (first_part plan place) call
on_cuts plan worker before place (kinds.Sema size) (operations.Sema call) h = sema_cuts (object_number place) call
on_cuts plan worker before place (kinds.Flight atomic delta) (operations.Fly key) h = fly_cuts (object_number place) (atomic_number plan.objects atomic) delta (key_number (keys_in plan.scripts) key)
on_cuts plan worker before place kind operation h = never_cuts

at_cuts : (plan : Plan) (worker before place : ℕ) (object : Option ObjectLine) (operation : Operation) → is_told operation ≡ true → Cuts (call_at plan worker before place object operation) (at_cut plan worker before place object operation)
at_cuts plan worker before place None operation h = never_cuts
at_cuts plan worker before place (Some object) operation h = on_cuts plan worker before place object.kind operation h

pub call_cuts : (plan : Plan) (worker before : ℕ) (call : Call) → is_told call.operation ≡ true → Cuts (SpellsCall plan worker before call) (call_cut plan worker before call)
call_cuts plan worker before call h = at_cuts plan worker before call.object (slice_get plan.objects call.object) call.operation h

-- ---- the reply that is told of a call

settled_told : (keys : List (List ℕ)) (operation : Operation) → is_told operation ≡ true → (told reply : Reply ℕ) → settled_as keys operation told reply → told ≡ reply
settled_told keys operations.Range h told reply settled = absurd cc
settled_told keys operation h told reply settled = settled

told_settles : (keys : List (List ℕ)) (operation : Operation) → is_told operation ≡ true → (told reply : Reply ℕ) → told ≡ reply → settled_as keys operation told reply
told_settles keys operations.Range h told reply same = absurd cc
told_settles keys operation h told reply same = same

module _ (settles : Reply ℕ → Reply ℕ → Type 0) (is_same : (told reply : Reply ℕ) → settles told reply → told ≡ reply) (same_is : (told reply : Reply ℕ) → told ≡ reply → settles told reply) where
  same_answer : (told answer : CallAnswer (Reply ℕ)) → SettlesAnswer settles told answer → told ≡ answer
  same_answer (Done (Ok told)) answer (reply, settled, is) = ap (λ (r : Reply ℕ). let a : CallAnswer (Reply ℕ) = Done (Ok r) in a) (is_same told reply settled) ∙ sym is
  same_answer (Done (Err misuse)) answer is = sym is
  same_answer (Halted misuse) answer is = sym is

  settles_itself : (answer : CallAnswer (Reply ℕ)) → SettlesAnswer settles answer answer
  settles_itself (Done (Ok reply)) = (reply, same_is reply reply refl, refl)
  settles_itself (Done (Err misuse)) = refl
  settles_itself (Halted misuse) = refl

  -- where the items tell the reply
  exactly : (part : Part (Reply ℕ)) (cut : Cutter (Reply ℕ)) → Cuts part cut → CutsCall settles part cut
  exactly part cut cuts = record {
    sound = λ list items rest told answer is settled. subst (λ (a : CallAnswer (Reply ℕ)). part items a) (same_answer told answer settled) (cuts.sound list items rest told is).1;
    is_part = λ list items rest told is. (cuts.sound list items rest told is).0;
    complete = λ items rest answer spelt. (answer, settles_itself answer, cuts.complete items rest answer spelt);
    goes_on = cuts.goes_on;
  }

-- a range
module _ (keys : List (List ℕ)) (m begin : ℕ) where
  abbrev shown_cut : Cutter (Reply ℕ)
  shown_cut = read_cut replies.Pairs (shows_cut m begin)

  shown_cuts : Cuts (read_as replies.Pairs (shows keys m begin)) shown_cut
  shown_cuts = read_cuts replies.Pairs (shows keys m begin) (shows_cut m begin) (range_cut keys m begin).items

  range_cuts : CutsCall (settled_as keys operations.Range) (range_call keys m begin) shown_cut
  range_cuts = record {
    sound = λ list items rest told answer is settled. spells items told answer (shown_cuts.sound list items rest told is).1 settled;
    is_part = λ list items rest told is. (shown_cuts.sound list items rest told is).0;
    complete = complete;
    goes_on = λ list is. on list (shown_cuts.goes_on list is);
  } where
    pairs_are : (a b : List (ℕ × ℕ)) → replies.Pairs a ≡ replies.Pairs b → a ≡ b
    pairs_are a b e = cc

    sorts : (shown : List (ℕ × ℕ)) (reply : Reply ℕ) → settled_as keys operations.Range (replies.Pairs shown) reply → (pairs : List (ℕ × ℕ)) × (reply ≡ replies.Pairs pairs) × AreSorted keys m shown pairs
    sorts shown reply (n, other, pairs, told, is, sorted) = (pairs, is, subst (λ (l : List (ℕ × ℕ)). AreSorted keys m l pairs) (sym (pairs_are shown other told)) sorted)

    by_pairs : (items : List Made) (shown : List (ℕ × ℕ)) (answer : CallAnswer (Reply ℕ)) → Places (cursor_showing keys m begin shown) items → SettlesAnswer (settled_as keys operations.Range) (Done (Ok (replies.Pairs shown))) answer → range_call keys m begin items answer
    by_pairs items shown answer places (reply, settled, is) = with_pairs (sorts shown reply settled) where
      with_pairs : (pairs : List (ℕ × ℕ)) × (reply ≡ replies.Pairs pairs) × AreSorted keys m shown pairs → range_call keys m begin items answer
      with_pairs (pairs, same, sorted) = (shown, pairs, places, sorted, is ∙ ap (λ (r : Reply ℕ). let a : CallAnswer (Reply ℕ) = Done (Ok r) in a) same)

    spells : (items : List Made) (told answer : CallAnswer (Reply ℕ)) → read_as replies.Pairs (shows keys m begin) items told → SettlesAnswer (settled_as keys operations.Range) told answer → range_call keys m begin items answer
    spells items told answer (given, (shown, places, is), read) settled =
        let same : told ≡ Done (Ok (replies.Pairs shown)) = read ∙ ap (with_outcome replies.Pairs) is in
        by_pairs items shown answer places (subst (λ (a : CallAnswer (Reply ℕ)). SettlesAnswer (settled_as keys operations.Range) a answer) same settled)

    complete : (items rest : List Made) (answer : CallAnswer (Reply ℕ)) → range_call keys m begin items answer → (told : CallAnswer (Reply ℕ)) × SettlesAnswer (settled_as keys operations.Range) told answer × (shown_cut (items ++ rest) ≡ whole items told rest)
    complete items rest answer (shown, pairs, places, sorted, is) =
        (Done (Ok (replies.Pairs shown)), (replies.Pairs pairs, (m, shown, pairs, refl, refl, sorted), is), shown_cuts.complete items rest (Done (Ok (replies.Pairs shown))) (Done (Ok shown), (shown, places, refl), refl))

    on : (list : List Made) → (later : List Made) × (answer : CallAnswer (Reply ℕ)) × read_as replies.Pairs (shows keys m begin) (list ++ later) answer → (later : List Made) × (answer : CallAnswer (Reply ℕ)) × range_call keys m begin (list ++ later) answer
    on list (later, answer, (given, (shown, places, is), read)) =
        let pairs = sorted_pairs keys shown in (later, Done (Ok (replies.Pairs pairs)), (shown, pairs, places, are_sorted keys m shown, refl))

never_settles : (settles : Reply ℕ → Reply ℕ → Type 0) → CutsCall settles never never_cut
never_settles settles = record {
  sound = λ list items rest told answer is settled. absurd (never_cuts.sound list items rest told is).1;
  is_part = λ list items rest told is. absurd (never_cuts.sound list items rest told is).1;
  complete = λ items rest answer spelt. absurd spelt;
  goes_on = λ list is. absurd (wrong_within is);
}

range_on : (plan : Plan) (worker before place : ℕ) (kind : ObjectKind) → CutsCall (settled_as (keys_in plan.scripts) operations.Range) (call_on plan worker before place kind operations.Range) (on_cut plan worker before place kind operations.Range)
range_on plan worker before place kinds.Map = range_cuts (keys_in plan.scripts) (map_number plan.objects place) before
range_on plan worker before place kind = never_settles (settled_as (keys_in plan.scripts) operations.Range)

range_at : (plan : Plan) (worker before place : ℕ) (object : Option ObjectLine) → CutsCall (settled_as (keys_in plan.scripts) operations.Range) (call_at plan worker before place object operations.Range) (at_cut plan worker before place object operations.Range)
range_at plan worker before place None = never_settles (settled_as (keys_in plan.scripts) operations.Range)
range_at plan worker before place (Some object) = range_on plan worker before place object.kind

told_at : (plan : Plan) (worker before place : ℕ) (object : Option ObjectLine) (operation : Operation) → is_told operation ≡ true → CutsCall (settled_as (keys_in plan.scripts) operation) (call_at plan worker before place object operation) (at_cut plan worker before place object operation)
told_at plan worker before place object operation h =
    exactly (settled_as (keys_in plan.scripts) operation) (settled_told (keys_in plan.scripts) operation h) (told_settles (keys_in plan.scripts) operation h)
    (call_at plan worker before place object operation) (at_cut plan worker before place object operation) (at_cuts plan worker before place object operation h)

each_at : (plan : Plan) (worker before place : ℕ) (object : Option ObjectLine) (operation : Operation) → CutsCall (settled_as (keys_in plan.scripts) operation) (call_at plan worker before place object operation) (at_cut plan worker before place object operation)
each_at plan worker before place object operations.Range = range_at plan worker before place object
each_at plan worker before place object operation = told_at plan worker before place object operation refl

same_passes : (keys : List (List ℕ)) (operation : Operation) (told reply : Reply ℕ) → settled_as keys operation told reply → cond (says_no told) (passes_of operation) 0 ≡ cond (says_no reply) (passes_of operation) 0
same_passes keys operations.Range told reply settled = none (says_no told) ∙ sym (none (says_no reply)) where
  none : (b : Bool) → ◌≡◌ {A = ℕ} (cond b 0 0) 0
  none true = refl
  none false = refl
same_passes keys operation told reply settled = ap (λ (r : Reply ℕ). cond (says_no r) (passes_of operation) 0) settled

-- each call
pub calls_cut : (plan : Plan) (worker : ℕ) → CutsCalls plan worker (settles_by plan) (call_cut plan worker)
calls_cut plan worker = record {
  calls = λ before call. each_at plan worker before call.object (slice_get plan.objects call.object) call.operation;
  passes = λ call told reply settled. same_passes (keys_in plan.scripts) call.operation told reply settled;
}
