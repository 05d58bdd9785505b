-- Each step of a cursor in a line is of the cursor that the worker began last.
use Rattle.std.proofs.Common.{Err, List, None, Ok, Option, Some, [], ap, append_assoc, arith, false, length, map, refl, slice_get, subst, suc, sym, true, ℕ, ◌++◌, ◌+◌, ◌∷◌, ◌≡◌}
use Rattle.std.specs.List.{AllByRecursion, flat_map}
use Rattle.sync_types.specs.declared.once_call.DoReply.TheVariants as do_replies
use Rattle.sync_model.specs.declared.item.Item.{Item}
use Rattle.sync_model.specs.declared.item.SharedCall.{SharedCall}
use Rattle.sync_model.specs.declared.item.SharedCall.TheVariants as calls
use Rattle.sync_model.specs.declared.item.SharedReply.{SharedReply}
use Rattle.sync_model.specs.declared.item.SharedReply.TheVariants as answers
use Rattle.script_calls.specs.declared.call.Call.{Call}
use Rattle.script_calls.specs.declared.call.ComposedCall.TheVariants.{IfEqual, WaitFor, Go}
use Rattle.script_calls.specs.declared.call.Operation.{Operation}
use Rattle.script_calls.specs.declared.call.Operation.TheVariants as operations
use Rattle.script_calls.specs.declared.call.Reply.{Reply}
use Rattle.script_calls.specs.declared.call.Reply.TheVariants as replies
use Rattle.workload.specs.declared.object.ObjectKind.{ObjectKind}
use Rattle.workload.specs.declared.object.ObjectKind.TheVariants as kinds
use Rattle.workload.specs.declared.object.ObjectLine.{ObjectLine}
use Rattle.workload.specs.Keys.{keys_in}
use Rattle.workload.specs.Plan.{Plan}
use Rattle.run_record.specs.declared.made.Made.{Made}
use Rattle.run_record.specs.declared.made.Made.TheVariants.{Shared, Entered}
use Rattle.run_record.specs.AtomicKind.{adds}
use Rattle.run_record.specs.Calls.{SpellsCall, call_at, call_on}
use Rattle.run_record.specs.Lines.{AreSpelt, EndsBy, IsLineOf, Line, LineEnd, OpensBy, SpeltCall, whole, misused, halted, unfinished, stayed, never, stopped, waits}
use Rattle.run_record.specs.FlightKind.{flight_part}
use Rattle.run_record.specs.MapKind.{cursor_showing, step_showing}
use Rattle.run_record.specs.Objects.{atomic_number, map_number}
use Rattle.run_record.specs.OnceKind.{failure}
use Rattle.run_record.specs.Parts.{returns}
use Rattle.run_record.specs.Record.{object_number, shared_in}
use Rattle.run_record.specs.Tests.{compared}
use Rattle.record_text.proofs.EachDeed.{EachOf, by_flight, by_read, by_returns, by_then}
use Rattle.protocols.specs.Spelling.{CallAnswer}
use Rattle.sync_model.specs.declared.answer.Answer.TheVariants.{Done, Halted}
use Rattle.record_text.proofs.OwnWords.{each_split}
use Rattle.run_check.proofs.ToldCalls.{Fits, of_adds, of_atomic, of_closing, of_cond_call, of_map, of_once, of_opening, of_pool_call, of_rw_part, of_stages, of_test, of_waits_for}

-- the call is no step of a cursor
abbrev pub NoNext : SharedCall → Type 0
NoNext (calls.Next begin) = ⊥
NoNext call = Unit {0}

abbrev IsNoRange : ObjectKind → Operation → Type 0
IsNoRange kinds.Map operations.Range = ⊥
IsNoRange kind operation = Unit {0}

-- a step is of the cursor that was begun last
abbrev pub NextIs : ℕ → SharedCall → Type 0
NextIs begin (calls.Next of) = begin ≡ of
NextIs begin call = Unit {0}

abbrev pub begin_behind : (before begin : ℕ) → SharedCall → ℕ
begin_behind before begin (calls.Begin m) = before
begin_behind before begin call = begin

-- so is each step in a list, behind so many calls, of which this one began the last cursor
abbrev pub NextsAre : (before begin : ℕ) → List Made → Type 0
NextsAre before begin [] = Unit {0}
NextsAre before begin (Shared x ∷ items) = NextIs begin x.call × NextsAre (before + 1) (begin_behind before begin x.call) items
NextsAre before begin (Entered object entry ∷ items) = NextsAre before begin items

no_next_is : (begin : ℕ) (call : SharedCall) → NoNext call → NextIs begin call
no_next_is begin (calls.Next of) none = absurd none
no_next_is begin (calls.Map m call) none = tt
no_next_is begin (calls.Atomic a call) none = tt
no_next_is begin (calls.Begin m) none = tt

no_nexts : (items : List Made) → AllByRecursion (Fits NoNext) items → (before begin : ℕ) → NextsAre before begin items
no_nexts [] each before begin = tt
no_nexts (Shared x ∷ items) each before begin = (no_next_is begin x.call each.0, no_nexts items each.1 (before + 1) (begin_behind before begin x.call))
no_nexts (Entered object entry ∷ items) each before begin = no_nexts items each.1 before begin

nexts_both : (xs ys : List Made) (before begin : ℕ) → NextsAre before begin xs → ((b : ℕ) → NextsAre (before + length (shared_in xs)) b ys) → NextsAre before begin (xs ++ ys)
nexts_both [] ys before begin first second = subst (λ (n : ℕ). NextsAre n begin ys) (let here : before + 0 ≡ before = omega arith in here) (second begin)
nexts_both (Shared x ∷ xs) ys before begin first second =
    (first.0, nexts_both xs ys (before + 1) (begin_behind before begin x.call) first.1 (λ b. subst (λ (n : ℕ). NextsAre n b ys) (let there : before + suc (length (shared_in xs)) ≡ before + 1 + length (shared_in xs) = omega arith in there) (second b)))
nexts_both (Entered object entry ∷ xs) ys before begin first second = nexts_both xs ys before begin first second

nexts_first : (xs ys : List Made) (before begin : ℕ) → NextsAre before begin (xs ++ ys) → NextsAre before begin xs
nexts_first [] ys before begin all = tt
nexts_first (Shared x ∷ xs) ys before begin all = (all.0, nexts_first xs ys (before + 1) (begin_behind before begin x.call) all.1)
nexts_first (Entered object entry ∷ xs) ys before begin all = nexts_first xs ys before begin all

-- ---- a range

abbrev pair_of : Item → SharedCall × SharedReply
pair_of x = (x.call, x.reply)

abbrev IsStepOf : ℕ → SharedCall × SharedReply → Type 0
IsStepOf begin pair = pair.0 ≡ calls.Next begin

all_steps : (keys : List (List ℕ)) (m begin : ℕ) (shown : List (ℕ × ℕ)) → AllByRecursion (IsStepOf begin) (map (step_showing keys m begin) shown ++ (calls.Next begin, answers.Shown None) ∷ [])
all_steps keys m begin [] = (refl, tt)
all_steps keys m begin (pair ∷ shown) = (refl, all_steps keys m begin shown)

steps_are : (begin before : ℕ) (made : List Item) → AllByRecursion (IsStepOf begin) (map pair_of made) → NextsAre before begin (map Shared made)
steps_are begin before [] each = tt
steps_are begin before (x ∷ made) each = (
  subst (NextIs begin) (sym each.0) refl,
  subst (λ (b : ℕ). NextsAre (before + 1) b (map Shared made)) (sym (ap (begin_behind before begin) each.0)) (steps_are begin (before + 1) made each.1),
)

cursor_is : (keys : List (List ℕ)) (m before begin : ℕ) (shown : List (ℕ × ℕ)) (made : List Item) → map pair_of made ≡ cursor_showing keys m before shown → NextsAre before begin (map Shared made)
cursor_is keys m before begin shown [] same = absurd cc
cursor_is keys m before begin shown (x ∷ made) same =
    let first : pair_of x ≡ (calls.Begin m, answers.Begun) = cc in
    let rest : map pair_of made ≡ map (step_showing keys m before) shown ++ (calls.Next before, answers.Shown None) ∷ [] = cc in
    let call : x.call ≡ calls.Begin m = ap (λ (p : SharedCall × SharedReply). p.0) first in (
      subst (NextIs begin) (sym call) tt,
      subst (λ (b : ℕ). NextsAre (before + 1) b (map Shared made)) (sym (ap (begin_behind before begin) call))
          (steps_are before (before + 1) made (subst (AllByRecursion (IsStepOf before)) (sym rest) (all_steps keys m before shown))),
    )

-- ---- a call

module _ (plan : Plan) (worker before : ℕ) where
  no_next_on : (place : ℕ) (kind : ObjectKind) (operation : Operation) → IsNoRange kind operation → EachOf (Fits NoNext) (call_on plan worker before place kind operation)
  no_next_on place kinds.Map (operations.Map call) not_range = of_map _ (keys_in plan.scripts) (map_number plan.objects place) call tt
  no_next_on place kinds.Map operations.Range not_range = absurd not_range
  no_next_on place (kinds.Atomic type) (operations.Atomic call) not_range = of_atomic _ (atomic_number plan.objects place) call tt
  no_next_on place (kinds.Atomic type) (operations.Composed (IfEqual value passes)) not_range = by_read _ compared _ (of_test _ (atomic_number plan.objects place) value tt)
  no_next_on place kinds.Mutex (operations.Mutex call) not_range = by_read _ replies.Lock _ (of_stages _ _ _ _ _ _ _)
  no_next_on place kinds.RwMutex (operations.RwMutex call) not_range = by_read _ replies.Lock _ (of_rw_part _ _ call)
  no_next_on place (kinds.Cond mutex) (operations.Cond call) not_range = of_cond_call _ _ _ call
  no_next_on place (kinds.Cond mutex) (operations.Composed (WaitFor atomic value tries)) not_range = by_read _ compared _ (of_waits_for _ _ _ (atomic_number plan.objects atomic) value tries tt)
  no_next_on place (kinds.WaitGroup start) (operations.WaitGroup call) not_range = by_read _ (λ done. replies.Returned) _ (of_stages _ _ _ _ _ _ _)
  no_next_on place (kinds.WaitGroup start) (operations.Composed (Go started)) not_range =
      by_then _ _ _ (by_read _ (λ done. replies.Returned) _ (of_stages _ _ _ _ _ _ _)) (λ added. by_read _ (λ started. replies.Returned) _ (of_stages _ _ _ _ _ _ _))
  no_next_on place (kinds.Once atomic delta) operations.Once not_range =
      of_once _ _ (adds (atomic_number plan.objects atomic) delta) (λ sum. replies.Once (do_replies.Ran sum)) (λ kept. replies.Once do_replies.Done) (of_stages _ _ _ _ _ _) (of_adds _ (atomic_number plan.objects atomic) delta tt)
  no_next_on place (kinds.OnceFunc code) operations.OnceFunc not_range =
      of_once _ _ (returns code) (λ kept. replies.OnceFunc (failure kept)) (λ kept. replies.OnceFunc (failure kept)) (of_stages _ _ _ _ _ _) (by_returns _ code)
  no_next_on place (kinds.OnceValue value) operations.OnceValue not_range = of_once _ _ (returns value) replies.OnceValue replies.OnceValue (of_stages _ _ _ _ _ _) (by_returns _ value)
  no_next_on place kinds.Pool (operations.Pool call) not_range = of_pool_call _ _ _ _ call
  no_next_on place (kinds.Sema size) (operations.Sema call) not_range = by_read _ replies.Lock _ (of_stages _ _ _ _ _ _ _)
  no_next_on place (kinds.Flight atomic delta) (operations.Fly key) not_range =
      by_flight _ (flight_part (object_number place)) (adds (atomic_number plan.objects atomic) delta) (of_stages _ _ _ _ _ _) (of_adds _ (atomic_number plan.objects atomic) delta tt) _
  no_next_on place kind operation not_range = λ items answer spelt. absurd spelt

  nexts_on : (place : ℕ) (kind : ObjectKind) (operation : Operation) (items : List Made) (answer : CallAnswer (Reply ℕ)) → call_on plan worker before place kind operation items answer → (begin : ℕ) → NextsAre before begin items
  nexts_on place kinds.Map operations.Range items answer (shown, pairs, (made, are, told), sorted, is) begin = subst (NextsAre before begin) (sym are) (cursor_is (keys_in plan.scripts) (map_number plan.objects place) before begin shown made told)
  nexts_on place kind operation items answer spelt begin = no_nexts items (no_next_on place kind operation tt items answer spelt) before begin

  nexts_at : (object : Option ObjectLine) (call : Call) (items : List Made) (answer : CallAnswer (Reply ℕ)) → call_at plan worker before call.object object call.operation items answer → (begin : ℕ) → NextsAre before begin items
  nexts_at None call items answer spelt begin = absurd spelt
  nexts_at (Some object) call items answer spelt begin = nexts_on call.object object.kind call.operation items answer spelt begin

  pub nexts_of : (call : Call) (items : List Made) (answer : CallAnswer (Reply ℕ)) → SpellsCall plan worker before call items answer → (begin : ℕ) → NextsAre before begin items
  nexts_of call items answer spelt begin = nexts_at (slice_get plan.objects call.object) call items answer spelt begin

-- ---- a line

-- no call on a map or an atomic at all
abbrev NoCall : SharedCall → Type 0
NoCall call = ⊥

no_calls : (items : List Made) → AllByRecursion (Fits NoCall) items → (before begin : ℕ) → NextsAre before begin items × (length (shared_in items) ≡ 0)
no_calls [] each before begin = (tt, refl)
no_calls (Shared x ∷ items) each before begin = absurd each.0
no_calls (Entered object entry ∷ items) each before begin = no_calls items each.1 before begin

count_both : (xs ys : List Made) → length (shared_in (xs ++ ys)) ≡ length (shared_in xs) + length (shared_in ys)
count_both [] ys = omega arith
count_both (Shared x ∷ xs) ys = let rest = count_both xs ys in omega (arith, rest)
count_both (Entered object entry ∷ xs) ys = count_both xs ys

module _ (plan : Plan) (worker : ℕ) where
  closing_nexts : (before begin : ℕ) (last : List Made) → AllByRecursion (Fits NoCall) last → NextsAre before begin last
  closing_nexts before begin last each = (no_calls last each before begin).0

  ends_nexts : (before begin : ℕ) (ending : LineEnd) (rest : List Call) (last : List Made) → EndsBy plan worker before ending rest last → NextsAre before begin last
  ends_nexts before begin whole rest last ends = closing_nexts before begin last (of_closing NoCall plan worker last (Done (Ok tt)) ends.1)
  ends_nexts before begin (misused misuse) [] last ends = closing_nexts before begin last (of_closing NoCall plan worker last (Done (Err misuse)) ends)
  ends_nexts before begin (misused misuse) (call ∷ rest) last ends = nexts_of plan worker before call last (Done (Err misuse)) ends begin
  ends_nexts before begin (halted misuse) [] last ends = closing_nexts before begin last (of_closing NoCall plan worker last (Halted misuse) ends)
  ends_nexts before begin (halted misuse) (call ∷ rest) last ends = nexts_of plan worker before call last (Halted misuse) ends begin
  ends_nexts before begin unfinished [] last (later, answer, some, made) = closing_nexts before begin last (each_split (Fits NoCall) last later (of_closing NoCall plan worker (last ++ later) answer made)).0
  ends_nexts before begin unfinished (call ∷ rest) last (later, answer, made) = nexts_first last later before begin (nexts_of plan worker before call (last ++ later) answer made begin)
  ends_nexts before begin (stayed stay) rest last ends = subst (NextsAre before begin) (sym ends) tt

  spelt_nexts : (before begin : ℕ) (spelt : List SpeltCall) (last : List Made) → AreSpelt plan worker before spelt → ((b : ℕ) → NextsAre (before + length (shared_in (flat_map (λ (s : SpeltCall). s.items) spelt))) b last)
      → NextsAre before begin (flat_map (λ (s : SpeltCall). s.items) spelt ++ last)
  spelt_nexts before begin [] last are behind = subst (λ (n : ℕ). NextsAre n begin last) (let here : before + 0 ≡ before = omega arith in here) (behind begin)
  spelt_nexts before begin (s ∷ spelt) last are behind =
      let items = flat_map (λ (t : SpeltCall). t.items) spelt in
      let count = count_both s.items items in
      subst (NextsAre before begin) (sym (append_assoc s.items items last))
      (nexts_both s.items (items ++ last) before begin (nexts_of plan worker before s.call s.items (Done (Ok s.reply)) are.0 begin)
      (λ b. spelt_nexts (before + length (shared_in s.items)) b spelt last are.1 (λ c. subst (λ (n : ℕ). NextsAre n c last) (let there : before + length (shared_in (s.items ++ items)) ≡ before + length (shared_in s.items) + length (shared_in items) = omega (arith, count) in there) (behind c))))

  opens_calls : (ending : LineEnd) (spelt : List SpeltCall) (first : List Made) → OpensBy plan worker ending spelt first → AllByRecursion (Fits NoCall) first
  opens_calls whole spelt first opens = of_opening NoCall plan worker first (Done (Ok true)) opens
  opens_calls (misused misuse) spelt first opens = of_opening NoCall plan worker first (Done (Ok true)) opens
  opens_calls (halted misuse) spelt first opens = of_opening NoCall plan worker first (Done (Ok true)) opens
  opens_calls unfinished spelt first opens = of_opening NoCall plan worker first (Done (Ok true)) opens
  opens_calls (stayed never) spelt first opens = of_opening NoCall plan worker first (Done (Ok false)) opens.1
  opens_calls (stayed (stopped misuse)) spelt first opens = of_opening NoCall plan worker first (Halted misuse) opens.1
  opens_calls (stayed waits) spelt first (none, (later, answer, some, made)) = (each_split (Fits NoCall) first later (of_opening NoCall plan worker (first ++ later) answer made)).0

  -- each step of a cursor in a line is of the one that was begun last
  pub line_nexts : (line : Line) → IsLineOf plan worker line → NextsAre 0 0 (line.first ++ (flat_map (λ (s : SpeltCall). s.items) line.spelt ++ line.last))
  line_nexts line is =
      let (first, none) = no_calls line.first (opens_calls line.ending line.spelt line.first is.opens) 0 0 in
      nexts_both line.first (flat_map (λ (s : SpeltCall). s.items) line.spelt ++ line.last) 0 0 first
      (λ b. subst (λ (n : ℕ). NextsAre n b (flat_map (λ (s : SpeltCall). s.items) line.spelt ++ line.last)) (let here : 0 ≡ 0 + length (shared_in line.first) = omega (arith, none) in here)
      (spelt_nexts 0 b line.spelt line.last is.calls (λ c. ends_nexts (0 + length (shared_in (flat_map (λ (s : SpeltCall). s.items) line.spelt))) c line.ending line.rest line.last
      (subst (λ (n : ℕ). EndsBy plan worker n line.ending line.rest line.last) (let there : length (shared_in (flat_map (λ (s : SpeltCall). s.items) line.spelt)) ≡ 0 + length (shared_in (flat_map (λ (s : SpeltCall). s.items) line.spelt)) = omega arith in there) is.ends))))
