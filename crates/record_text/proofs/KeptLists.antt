-- A worker puts into its own part of a pool no more items than its script puts into the pool, and none into another part.
use Rattle.std.proofs.Common.{◌≡◌, ℕ, zero, suc, ◌+◌, ◌<◌, ◌≤◌, Bool, true, false, ◌&&◌, cond, List, [], ◌∷◌, ◌++◌, map, length, drop, get_or, slice_get, Option, Some, None, Ok, Err, refl, sym, ap, ◌∙◌, subst, arith}
use Rattle.std.specs.Prelude.{count_by, ◌==◌}
use Rattle.std.specs.List.{AllByRecursion, flat_map}
use Rattle.std.proofs.lemmas.Bool.{eq-eqb, eqb-true, false≢true}
use Rattle.std.proofs.lemmas.List.Elements.{recursion_from_All}
use Rattle.std.proofs.lemmas.List.Sums.{sum_by-cons}
use Rattle.sync_types.specs.declared.misuse.Misuse.{Misuse}
use Rattle.sync_types.specs.declared.pool_call.PoolCall.TheVariants as pool_calls
use Rattle.script_calls.specs.declared.call.Call.{Call}
use Rattle.script_calls.specs.declared.call.Operation.{Operation}
use Rattle.script_calls.specs.declared.call.Operation.TheVariants as operations
use Rattle.script_calls.specs.declared.call.Reply.{Reply}
use Rattle.script_calls.specs.Runs.{RunsAlong, passed_over}
use Rattle.sync_model.specs.declared.answer.Answer.TheVariants.{Done, Halted}
use Rattle.sync_model.specs.declared.journal.Deed.{Deed}
use Rattle.sync_model.specs.declared.journal.Deed.TheVariants.{Event, Refused, Halt}
use Rattle.sync_model.specs.declared.journal.Entry.{Entry}
use Rattle.pool_core.specs.declared.pool_event.PoolEvent.{PoolEvent}
use Rattle.pool_core.specs.declared.pool_event.PoolEvent.TheVariants as pool_events
use Rattle.pool_core.specs.declared.pool_event.PoolReply.{PoolReply}
use Rattle.pool_core.specs.declared.pool_event.PoolReply.TheVariants as pool_replies
use Rattle.protocols.specs.declared.pool.PoolOutcome.{PoolOutcome}
use Rattle.protocols.specs.declared.pool.PoolStage.{PoolStage}
use Rattle.protocols.specs.declared.pool.PoolStage.TheVariants as pool_stage
use Rattle.protocols.specs.PoolStages.{pool_event, pool_meaning, put_meaning}
use Rattle.protocols.specs.Spelling.{CallAnswer, IsFirstDeed, Rest, Spells}
use Rattle.workload.specs.declared.object.ObjectKind.{ObjectKind}
use Rattle.workload.specs.declared.object.ObjectKind.TheVariants as object_kinds
use Rattle.workload.specs.declared.object.ObjectLine.{ObjectLine}
use Rattle.workload.specs.Keys.{keys_in}
use Rattle.workload.specs.Plan.{Plan}
use Rattle.workload.specs.Puts.{is_put, is_put_at}
use Rattle.run_record.specs.declared.entered.ObjectEvent.{ObjectEvent}
use Rattle.run_record.specs.declared.entered.ObjectEvent.TheVariants as object_events
use Rattle.run_record.specs.declared.entered.ObjectReply.{ObjectReply}
use Rattle.run_record.specs.declared.entered.ObjectReply.TheVariants as object_replies
use Rattle.run_record.specs.declared.made.Made.{Made}
use Rattle.run_record.specs.declared.made.Made.TheVariants.{Entered, Shared}
use Rattle.run_record.specs.Calls.{SpellsCall, call_at, call_on}
use Rattle.run_record.specs.Lines.{AreHalts, AreSpelt, EndsBy, IsHalt, IsLineOf, Line, LineEnd, OpensBy, SpeltCall, Stay, StaysBy, calls_made, halted, items_of, misused, never, stayed, stopped, unfinished, waits, whole}
use Rattle.run_record.specs.Objects.{first_part}
use Rattle.run_record.specs.Parts.{Part, lifted}
use Rattle.run_record.specs.Record.{entries_in, shared_in}
use Rattle.run_record.specs.StartsKind.{closing, opening}
use Rattle.record_text.proofs.EachDeed.{EachOf}
use Rattle.record_text.proofs.KeptItems.{put_object, puts_in}
use Rattle.record_text.proofs.MeantItems.{IsMeantItem, MayPutDeed, MayPutItem, PutsAmong, of_call, of_closing, of_opening}
use Rattle.record_text.proofs.OwnWords.{each_mono}
use Rattle.record_text.proofs.WorkerItems.{CallIsAmong, along}

-- ---- the puts of a list

abbrev put_on : ℕ → Made → ℕ
put_on object (Shared x) = 0
put_on object (Entered other entry) = cond (other == object) (put_object entry.deed) 0

abbrev pub puts_on : ℕ → List Made → ℕ
puts_on object [] = 0
puts_on object (x ∷ list) = put_on object x + puts_on object list

pub puts_entered : (object : ℕ) (list : List Made) → puts_in (entries_in object list) ≡ puts_on object list
puts_entered object [] = refl
puts_entered object (Shared x ∷ list) = let rest = puts_entered object list in omega (arith, rest)
puts_entered object (Entered other entry ∷ list) = chosen (other == object) (puts_entered object list) where
  chosen : (b : Bool) → puts_in (entries_in object list) ≡ puts_on object list → puts_in (cond b (entry ∷ entries_in object list) (entries_in object list)) ≡ cond b (put_object entry.deed) 0 + puts_on object list
  chosen true rest = omega (arith, rest)
  chosen false rest = omega (arith, rest)

puts_both : (object : ℕ) (xs ys : List Made) → puts_on object (xs ++ ys) ≡ puts_on object xs + puts_on object ys
puts_both object [] ys = omega arith
puts_both object (x ∷ xs) ys = let rest = puts_both object xs ys in omega (arith, rest)

no_put : (deed : Deed ObjectEvent ObjectReply) → MayPutDeed ⊥ deed → put_object deed ≡ 0
no_put (Event (object_events.Pool (pool_events.Put item)) reply) may = absurd may
no_put (Event event reply) may = refl
no_put (Refused event misuse) may = refl
no_put (Halt misuse) may = refl

none_put : (object : ℕ) (items : List Made) → AllByRecursion (MayPutItem ⊥) items → puts_on object items ≡ 0
none_put object [] each = refl
none_put object (Shared x ∷ items) each = let rest = none_put object items each.1 in omega (arith, rest)
none_put object (Entered other entry ∷ items) each = chosen (other == object) (no_put entry.deed each.0) (none_put object items each.1) where
  chosen : (b : Bool) → put_object entry.deed ≡ 0 → puts_on object items ≡ 0 → cond b (put_object entry.deed) 0 + puts_on object items ≡ 0
  chosen true here rest = omega (arith, here, rest)
  chosen false here rest = omega (arith, rest)

most_one : (deed : Deed ObjectEvent ObjectReply) → put_object deed ≤ 1
most_one (Event (object_events.Pool (pool_events.Put item)) reply) = omega arith
most_one (Event event reply) = omega arith
most_one (Refused event misuse) = omega arith
most_one (Halt misuse) = omega arith

-- ---- the puts of a call

no_puts : (operation : Operation) → is_put operation ≡ false → PutsAmong ⊥ operation
no_puts (operations.Pool (pool_calls.Put item)) h = absurd (false≢true (sym h))
no_puts operation h = tt

a_put : (operation : Operation) → is_put operation ≡ true → (item : ℕ) × (operation ≡ operations.Pool (pool_calls.Put item))
a_put (operations.Pool (pool_calls.Put item)) h = (item, refl)
a_put operation h = absurd (false≢true h)

-- a put is one deed
put_ends : (r : PoolReply ℕ) (rest : List (Deed (PoolEvent ℕ) (PoolReply ℕ))) (on : PoolStage → Type 0) (answer : CallAnswer PoolOutcome) → Rest (put_meaning r) rest on answer → rest ≡ []
put_ends pool_replies.Kept rest on answer goes = goes.0
put_ends (pool_replies.Dropped item) rest on answer goes = goes.0
put_ends r rest on answer goes = absurd goes

one_deed : (item : ℕ) (deed : Deed (PoolEvent ℕ) (PoolReply ℕ)) (rest : List (Deed (PoolEvent ℕ) (PoolReply ℕ))) (on : PoolStage → Type 0) (answer : CallAnswer PoolOutcome) → IsFirstDeed pool_event pool_meaning (pool_stage.Put item) deed rest on answer → rest ≡ []
one_deed item (Event event reply) rest on answer first = put_ends reply rest on answer first.1
one_deed item (Refused event misuse) rest on answer first = first.1
one_deed item (Halt misuse) rest on answer first = absurd first

none_mapped : {A B : Type 0} (f : A → B) (xs : List A) → map f xs ≡ [] → xs ≡ []
none_mapped f [] e = refl
none_mapped f (x ∷ xs) e = absurd cc

put_entries : (object other item : ℕ) (entries : List (Entry (PoolEvent ℕ) (PoolReply ℕ))) (answer : CallAnswer PoolOutcome) → Spells pool_event pool_meaning (pool_stage.Put item) (map (λ entry. entry.deed) entries) answer
    → puts_on object (map (λ entry. Entered other (lifted object_events.Pool object_replies.Pool entry)) entries) ≤ cond (other == object) 1 0
put_entries object other item [] answer spelt = absurd spelt
put_entries object other item (entry ∷ rest) answer spelt =
    let none = none_mapped (λ (e : Entry (PoolEvent ℕ) (PoolReply ℕ)). e.deed) rest (one_deed item entry.deed (map (λ (e : Entry (PoolEvent ℕ) (PoolReply ℕ)). e.deed) rest) _ answer spelt) in
    let empty = ap (λ (l : List (Entry (PoolEvent ℕ) (PoolReply ℕ))). puts_on object (map (λ e. Entered other (lifted object_events.Pool object_replies.Pool e)) l)) none in
    let first = chosen (other == object) (most_one (lifted object_events.Pool object_replies.Pool entry).deed) in
    omega (arith, empty, first)
  where
    chosen : (b : Bool) → put_object (lifted object_events.Pool object_replies.Pool entry).deed ≤ 1 → cond b (put_object (lifted object_events.Pool object_replies.Pool entry).deed) 0 ≤ cond b 1 0
    chosen true low = low
    chosen false low = omega arith

module _ (plan : Plan) (place part : ℕ) (pool : ObjectLine) (at : slice_get plan.objects place ≡ Some pool) (is_pool : pool.kind ≡ object_kinds.Pool) (low : part < plan.workers)
    (apart : (place other part another : ℕ) (object one : ObjectLine) → slice_get plan.objects place ≡ Some object → object.kind ≡ object_kinds.Pool → part < plan.workers → slice_get plan.objects other ≡ Some one → one.kind ≡ object_kinds.Pool → another < plan.workers
    → first_part plan place + part ≡ first_part plan other + another → (place ≡ other) × (part ≡ another)) (worker : ℕ) (below : worker < plan.workers) where
  abbrev object : ℕ
  object = first_part plan place + part

  -- a put of the part's own worker into the pool puts one item there, and any other call none
  abbrev limit : Call → ℕ
  limit call = cond (worker == part) (cond (is_put_at place call) 1 0) 0

  limit_is : (call : Call) (item : ℕ) (line : ObjectLine) → call.operation ≡ operations.Pool (pool_calls.Put item) → slice_get plan.objects call.object ≡ Some line → line.kind ≡ object_kinds.Pool → cond (first_part plan call.object + worker == object) 1 0 ≤ limit call
  limit_is call item line is line_at kind = by (first_part plan call.object + worker == object) refl where
    by : (b : Bool) → (first_part plan call.object + worker == object) ≡ b → cond b 1 0 ≤ limit call
    by false other = omega arith
    by true same =
        let where_is = apart call.object place worker part line pool line_at kind below at is_pool low (eqb-true (first_part plan call.object + worker) object same) in
        let put : is_put_at place call ≡ true = ap (λ b. b && is_put call.operation) (eq-eqb call.object place where_is.0) ∙ ap is_put is in
        let one : limit call ≡ 1 = ap (λ b. cond b (cond (is_put_at place call) 1 0) 0) (eq-eqb worker part where_is.1) ∙ ap (λ b. cond b 1 0) put in
        omega (arith, one)

  put_on_kind : (before item : ℕ) (call : Call) (line : ObjectLine) (kind : ObjectKind) (items : List Made) (answer : CallAnswer (Reply ℕ)) → line.kind ≡ kind → call.operation ≡ operations.Pool (pool_calls.Put item) → slice_get plan.objects call.object ≡ Some line
      → call_on plan worker before call.object kind (operations.Pool (pool_calls.Put item)) items answer → puts_on object items ≤ limit call
  put_on_kind before item call line object_kinds.Pool items answer kind is line_at (given, (entries, made, spelt), same) =
      let few = put_entries object (first_part plan call.object + worker) item entries given spelt in
      let most = limit_is call item line is line_at kind in
      let items_are = ap (puts_on object) made in
      omega (arith, few, most, items_are)
  put_on_kind before item call line kind items answer same is line_at spelt = absurd spelt

  put_at_object : (before item : ℕ) (call : Call) (line : Option ObjectLine) (items : List Made) (answer : CallAnswer (Reply ℕ)) → slice_get plan.objects call.object ≡ line → call.operation ≡ operations.Pool (pool_calls.Put item)
      → call_at plan worker before call.object line (operations.Pool (pool_calls.Put item)) items answer → puts_on object items ≤ limit call
  put_at_object before item call None items answer line_at is spelt = absurd spelt
  put_at_object before item call (Some line) items answer line_at is spelt = put_on_kind before item call line line.kind items answer refl is line_at spelt

  call_puts : (before : ℕ) (call : Call) (items : List Made) (answer : CallAnswer (Reply ℕ)) → CallIsAmong plan call → SpellsCall plan worker before call items answer → puts_on object items ≤ limit call
  call_puts before call items answer among spelt = by (is_put call.operation) refl where
    by : (b : Bool) → is_put call.operation ≡ b → puts_on object items ≤ limit call
    by true put =
        let (item, is) = a_put call.operation put in
        put_at_object before item call (slice_get plan.objects call.object) items answer refl is (subst (λ (o : Operation). call_at plan worker before call.object (slice_get plan.objects call.object) o items answer) is spelt)
    by false other =
        let none = none_put object items (each_mono (λ (x : Made). IsMeantItem plan.workers (length (keys_in plan.scripts)) x × MayPutItem ⊥ x) (MayPutItem ⊥) (λ x is. is.1) items
        (of_call ⊥ plan.workers (length (keys_in plan.scripts)) plan worker before call among (no_puts call.operation other) items answer spelt)) in
        omega (arith, none)

  -- ---- along a run

  abbrev total : List Call → ℕ
  total [] = 0
  total (call ∷ calls) = limit call + total calls

  total_drop : (n : ℕ) (calls : List Call) → total (drop n calls) ≤ total calls
  total_drop zero calls = omega arith
  total_drop (suc n) [] = omega arith
  total_drop (suc n) (call ∷ calls) = let rest = total_drop n calls in omega (arith, rest)

  total_along : (script : List Call) (made : List (Call × Reply ℕ)) (rest : List Call) → RunsAlong script made rest → total (map (λ (m : Call × Reply ℕ). m.0) made) + total rest ≤ total script
  total_along script [] rest is = let same = ap total is in omega (arith, same)
  total_along script (m ∷ made) rest (behind, is, runs) =
      let later = total_along (drop (passed_over m.0 m.1) behind) made rest runs in
      let less = total_drop (passed_over m.0 m.1) behind in
      let all = ap total is in
      omega (arith, later, less, all)

  spelt_puts : (before : ℕ) (spelt : List SpeltCall) → AreSpelt plan worker before spelt → AllByRecursion (λ (m : Call × Reply ℕ). CallIsAmong plan m.0) (map (λ (s : SpeltCall). (s.call, s.reply)) spelt)
      → puts_on object (flat_map (λ (s : SpeltCall). s.items) spelt) ≤ total (map (λ (m : Call × Reply ℕ). m.0) (map (λ (s : SpeltCall). (s.call, s.reply)) spelt))
  spelt_puts before [] are each = omega arith
  spelt_puts before (s ∷ spelt) are each =
      let here = call_puts before s.call s.items (Done (Ok s.reply)) each.0 are.0 in
      let rest = spelt_puts (before + length (shared_in s.items)) spelt are.1 each.1 in
      let both = puts_both object s.items (flat_map (λ (s : SpeltCall). s.items) spelt) in
      omega (arith, here, rest, both)

  -- what is no call puts nothing
  none_of : {O : Type 0} (part : Part O) → EachOf (λ (x : Made). IsMeantItem plan.workers (length (keys_in plan.scripts)) x × MayPutItem ⊥ x) part → (items : List Made) (answer : CallAnswer O) → part items answer → puts_on object items ≡ 0
  none_of part each items answer made = none_put object items (each_mono (λ (x : Made). IsMeantItem plan.workers (length (keys_in plan.scripts)) x × MayPutItem ⊥ x) (MayPutItem ⊥) (λ x is. is.1) items (each items answer made))

  closing_puts : (items : List Made) (answer : CallAnswer (Unit {0})) → closing plan worker items answer → puts_on object items ≡ 0
  closing_puts = none_of (closing plan worker) (of_closing ⊥ plan.workers (length (keys_in plan.scripts)) plan worker)

  opening_puts : (items : List Made) (answer : CallAnswer Bool) → opening plan worker items answer → puts_on object items ≡ 0
  opening_puts = none_of (opening plan worker) (of_opening ⊥ plan.workers (length (keys_in plan.scripts)) plan worker)

  first_puts : (earlier later : List Made) (most : ℕ) → puts_on object (earlier ++ later) ≤ most → puts_on object earlier ≤ most
  first_puts earlier later most few = let both = puts_both object earlier later in omega (arith, few, both)

  ends_puts : (before : ℕ) (ending : LineEnd) (rest : List Call) (last : List Made) → AllByRecursion (CallIsAmong plan) rest → EndsBy plan worker before ending rest last → puts_on object last ≤ total rest
  ends_puts before whole rest last each ends = let none = closing_puts last (Done (Ok tt)) ends.1 in omega (arith, none)
  ends_puts before (misused misuse) [] last each ends = let none = closing_puts last (Done (Err misuse)) ends in omega (arith, none)
  ends_puts before (misused misuse) (call ∷ rest) last each ends = let few = call_puts before call last (Done (Err misuse)) each.0 ends in omega (arith, few)
  ends_puts before (halted misuse) [] last each ends = let none = closing_puts last (Halted misuse) ends in omega (arith, none)
  ends_puts before (halted misuse) (call ∷ rest) last each ends = let few = call_puts before call last (Halted misuse) each.0 ends in omega (arith, few)
  ends_puts before unfinished [] last each (later, answer, some, made) = let none = closing_puts (last ++ later) answer made in first_puts last later 0 (omega (arith, none))
  ends_puts before unfinished (call ∷ rest) last each (later, answer, made) =
      let few = first_puts last later (limit call) (call_puts before call (last ++ later) answer each.0 made) in
      omega (arith, few)
  ends_puts before (stayed stay) rest last each ends = let none = ap (puts_on object) ends in omega (arith, none)

  stays_puts : (stay : Stay) (first : List Made) → StaysBy plan worker stay first → puts_on object first ≤ 0
  stays_puts never first stays = let none = opening_puts first (Done (Ok false)) stays in omega (arith, none)
  stays_puts (stopped misuse) first stays = let none = opening_puts first (Halted misuse) stays in omega (arith, none)
  stays_puts waits first (later, answer, some, made) = let none = opening_puts (first ++ later) answer made in first_puts first later 0 (omega (arith, none))

  opens_puts : (ending : LineEnd) (spelt : List SpeltCall) (first : List Made) → OpensBy plan worker ending spelt first → puts_on object first ≤ 0
  opens_puts whole spelt first opens = let none = opening_puts first (Done (Ok true)) opens in omega (arith, none)
  opens_puts (misused misuse) spelt first opens = let none = opening_puts first (Done (Ok true)) opens in omega (arith, none)
  opens_puts (halted misuse) spelt first opens = let none = opening_puts first (Done (Ok true)) opens in omega (arith, none)
  opens_puts unfinished spelt first opens = let none = opening_puts first (Done (Ok true)) opens in omega (arith, none)
  opens_puts (stayed stay) spelt first opens = stays_puts stay first opens.1

  halt_puts : (misuse : Misuse) (x : Made) → IsHalt misuse x → MayPutItem ⊥ x
  halt_puts misuse (Shared x) is = absurd is
  halt_puts misuse (Entered other entry) is = subst (MayPutDeed ⊥) (sym is) tt

  halts_put : (ending : LineEnd) (halts : List Made) → AreHalts ending halts → puts_on object halts ≡ 0
  halts_put (misused misuse) halts are = none_put object halts (each_mono (IsHalt misuse) (MayPutItem ⊥) (halt_puts misuse) halts (recursion_from_All (IsHalt misuse) halts are))
  halts_put whole halts are = ap (puts_on object) are
  halts_put (halted misuse) halts are = ap (puts_on object) are
  halts_put unfinished halts are = ap (puts_on object) are
  halts_put (stayed stay) halts are = ap (puts_on object) are

  -- a line puts no more than its script
  pub line_puts : (line : Line) → IsLineOf plan worker line → RunsAlong (get_or plan.scripts worker []) (calls_made line) line.rest → AllByRecursion (CallIsAmong plan) (get_or plan.scripts worker []) → puts_on object (items_of line) ≤ total (get_or plan.scripts worker [])
  line_puts line is runs each =
      let calls = along (CallIsAmong plan) (get_or plan.scripts worker []) (calls_made line) line.rest runs each in
      let first = opens_puts line.ending line.spelt line.first is.opens in
      let spelt = spelt_puts 0 line.spelt is.calls calls.0 in
      let last = ends_puts (length (shared_in (flat_map (λ (s : SpeltCall). s.items) line.spelt))) line.ending line.rest line.last calls.1 is.ends in
      let halts = halts_put line.ending line.halts is.halts in
      let all = total_along (get_or plan.scripts worker []) (calls_made line) line.rest runs in
      let one = puts_both object line.first (flat_map (λ (s : SpeltCall). s.items) line.spelt ++ (line.last ++ line.halts)) in
      let two = puts_both object (flat_map (λ (s : SpeltCall). s.items) line.spelt) (line.last ++ line.halts) in
      let three = puts_both object line.last line.halts in
      omega (arith, first, spelt, last, halts, all, one, two, three)

  -- the puts of the part's own worker are those of its script, and another's are none
  pub total_is : (script : List Call) → total script ≡ cond (worker == part) (count_by (is_put_at place) script) 0
  total_is [] = by (worker == part) where
    by : (b : Bool) → ◌≡◌ {A = ℕ} 0 (cond b 0 0)
    by true = refl
    by false = refl
  total_is (call ∷ script) = by (worker == part) (sum_by-cons (λ (c : Call). cond (is_put_at place c) 1 0) call script) (total_is script) where
    by : (b : Bool) → count_by (is_put_at place) (call ∷ script) ≡ cond (is_put_at place call) 1 0 + count_by (is_put_at place) script → total script ≡ cond b (count_by (is_put_at place) script) 0
        → cond b (cond (is_put_at place call) 1 0) 0 + total script ≡ cond b (count_by (is_put_at place) (call ∷ script)) 0
    by true count rest = omega (arith, count, rest)
    by false count rest = omega (arith, rest)
