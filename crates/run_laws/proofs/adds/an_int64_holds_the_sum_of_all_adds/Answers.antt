use Rattle.std.proofs.Common.{◌≡◌, ℕ, ◌+◌, ◌<◌, ◌==◌, false, true, cond, List, map, length, Some, slice_get, sym, ap, ◌∙◌, subst, arith}
use Rattle.std.specs.Prelude.{sum_by, zip}
use Rattle.std.specs.List.{list_all, flat_map}
use Rattle.std.specs.Option.{option_map}
use Rattle.std.proofs.lemmas.Option.{slice_get_within, get_or_from_slice_get, slice_get-get_or, slice_get-map}
use Rattle.sync_types.specs.declared.atomic_object.AtomicKind.TheVariants as types
use Rattle.sync_types.specs.declared.atomic_object.Number.TheVariants.{Bool as Truth}
use Rattle.sync_types.specs.declared.atomic_object.Number.{Number}
use Rattle.script_calls.specs.declared.call.Call.{Call}
use Rattle.script_calls.specs.declared.outcome.Outcome.TheVariants.{Done}
use Rattle.sync_model.specs.declared.item.Item.{Item}
use Rattle.sync_model.specs.declared.item.SharedEntry.{SharedEntry}
use Rattle.sync_types.specs.declared.end.End.{End}
use Rattle.sync_types.specs.Ends.{number_end}
use Rattle.sync_types.specs.SequentialAtomic.{zero_of}
use Rattle.sync_model.specs.SharedHistory.{contents_at, contents_after, entries_from}
use Rattle.run_record.specs.Lines.{Line, script_of}
use Rattle.run_record.specs.Objects.{contents_of, is_atomic, places_from, types_of, atomic_number}
use Rattle.run_record.specs.Record.{calls_of, shared_in}
use Rattle.run_laws.specs.Adds.{is_add, amounts_at}
use Rattle.run_laws.proofs.AsMany.{as_many_after, get_left, get_zip, place_at}
use Rattle.run_laws.proofs.AddedUp.{of_bits, zero_bits, all_bits, in_any_order, call_bits, scripts_bits}
use Rattle.run_laws.proofs.AddItems.{shared_bits, AddsTo, after_all, entries_add, script_alike}
use Rattle.run_laws.proofs.ByCaller.{over_same, over_items, entry_sum, by_callers, marked_sum}
use Rattle.run_laws.proofs.DoneLines.{Plainly, items_in, script_at, calls_at, line_at, sum_by_mapped}
use Rattle.run_laws.proofs.EachOf.{each_at}
use Rattle.run_laws.proofs.Numbered.{type_at}
use Rattle.run_laws.proofs.PlainCalls.{list_all_at}
use Rattle.run_laws.proofs.adds.an_int64_holds_the_sum_of_all_adds.Goals as goal

pub returns-clause-holds : goal.returns-clause-holds
returns-clause-holds c plan place object left r only no_tests live at kind explains =
    let a = atomic_number plan.objects place in
    let start = contents_of plan in
    let lawful = explains.lawful.shared in
    let lines = explains.lines in
    let plainly : Plainly plan = λ w line of. ((c.where_nobody_waits_to_be_started_lists_are_of_calls.ensures.lines plan w line live).0 of, (c.where_nobody_waits_to_be_started_lists_are_of_calls.ensures.done plan w line live of).0) in
    let script_lines : map script_of lines ≡ plan.scripts = ((c.scripts_without_tests_are_spelt_call_by_call.ensures plan r (Done left) lines no_tests).0 explains.are).scripts in
    let bits : Item → ℕ = λ x. shared_bits a x.call in
    let typed = type_at plan.objects place object types.Int64 at kind in
    let zeros : slice_get start.numbers a ≡ Some (zero_of types.Int64) = slice_get-map zero_of (flat_map (λ o. types_of o.kind) plan.objects) a ∙ ap (option_map zero_of) typed in
    let alike = λ (worker : ℕ) (line : Line) (is : slice_get lines worker ≡ Some line).
    let script : slice_get plan.scripts worker ≡ Some (script_of line) = ap (λ (l : List (List Call)). slice_get l worker) (sym script_lines) ∙ (slice_get-map script_of lines worker ∙ ap (option_map script_of) is) in
    let adds = list_all_at (list_all (λ (call : Call). cond (call.object == place) (is_add call.operation) true)) plan.scripts worker (script_of line) only.adds script in
    script_alike plan place object at kind only.plain worker 0 line.spelt (explains.are.each worker line is).calls (ap (list_all (λ (call : Call). cond (call.object == place) (is_add call.operation) true)) (sym (script_at plan r left explains plainly worker line is)) ∙ adds) in
    let item_adds = λ (worker i : ℕ) (x : Item) (is : slice_get (calls_of r worker) i ≡ Some x).
    let line = line_at plan r left explains plainly worker i x is in
    let listed : slice_get (shared_in (items_in line.0.spelt)) i ≡ Some x = ap (λ (l : List Item). slice_get l i) (sym (calls_at plan r left explains plainly worker line.0 line.1)) ∙ is in
    each_at (λ (y : Item). AddsTo a y.call) (shared_in (items_in line.0.spelt)) i x (alike worker line.0 line.1).0 listed in
    let entry_adds = λ (i : ℕ) (e : SharedEntry) (is : slice_get r.history i ≡ Some e).
    let made = c.each_entry_is_a_call.ensures.call start r.history (calls_of r) i e lawful is in
    subst (AddsTo a) made.5 (item_adds e.caller made.0 made.1 made.2) in
    let callers = λ (i : ℕ) (e : SharedEntry) (is : slice_get r.history i ≡ Some e).
    let made = c.each_entry_is_a_call.ensures.call start r.history (calls_of r) i e lawful is in
    let line = line_at plan r left explains plainly e.caller made.0 made.1 made.2 in
    slice_get_within lines e.caller line.0 line.1 in
    let after = after_all a r.history 0 start (slice_get_within start.numbers a (zero_of types.Int64) zeros) (get_or_from_slice_get start.numbers a (zero_of types.Int64) (Truth false) zeros ∙ zero_bits) entry_adds in
    let split = by_callers (shared_bits a) lines 0 r.history callers in
    let marked = over_same {A = Line} (λ worker. entry_sum (shared_bits a) (entries_from 0 worker r.history)) (λ worker. sum_by bits (calls_of r worker)) 0 lines
    (λ worker. ap (entry_sum (shared_bits a)) (sym (lawful.marked worker)) ∙ marked_sum (shared_bits a) worker (calls_of r worker)
    (λ i x is none. entries_add a x.call (contents_at start r.history x.place) (item_adds worker i x is) (sym (lawful.sound worker i x is).entry ∙ none))) in
    let by_line = over_items (λ worker. sum_by bits (calls_of r worker)) (λ (line : Line). sum_by (call_bits place) (script_of line)) 0 lines
    (λ i line is. let e : 0 + i ≡ i = omega arith in ap (λ n. sum_by bits (calls_of r n)) e ∙ (ap (sum_by bits) (calls_at plan r left explains plainly i line is) ∙ ((alike i line is).1 ∙ ap (sum_by (call_bits place)) (sym (script_at plan r left explains plainly i line is))))) in
    let scripts : sum_by (λ (line : Line). sum_by (call_bits place) (script_of line)) lines ≡ sum_by (λ script. sum_by (call_bits place) script) plan.scripts =
    sym (sum_by_mapped (λ (script : List Call). sum_by (call_bits place) script) script_of lines) ∙ ap (sum_by (λ (script : List Call). sum_by (call_bits place) script)) script_lines in
    after ∙ (ap of_bits (let e : 0 + sum_by (λ (x : SharedEntry). shared_bits a x.call) r.history ≡ sum_by (λ (x : SharedEntry). shared_bits a x.call) r.history = omega arith in
    e ∙ (split ∙ (marked ∙ (by_line ∙ (scripts ∙ sym (scripts_bits place plan.scripts)))))) ∙ sym (all_bits (amounts_at place plan.scripts)))

pub returns-clause-shown : goal.returns-clause-shown
returns-clause-shown c plan place object left r only no_tests live at kind explains =
    let a = atomic_number plan.objects place in
    let contents = contents_after (contents_of plan) r.history in
    let holds = returns-clause-holds c plan place object left r only no_tests live at kind explains in
    let typed = type_at plan.objects place object types.Int64 at kind in
    let within : a < length contents.numbers = omega (arith, (as_many_after r.history (contents_of plan)).1, slice_get_within (contents_of plan).numbers a (zero_of types.Int64) (slice_get-map zero_of (flat_map (λ o. types_of o.kind) plan.objects) a ∙ ap (option_map zero_of) typed)) in
    let number = slice_get-get_or contents.numbers a (Truth false) within ∙ ap (λ (n : Number). Some n) holds in
    let placed : slice_get (places_from 0 is_atomic plan.objects) a ≡ Some place = place_at is_atomic 0 plan.objects place object at (ap is_atomic kind) ∙ (let e : 0 + place ≡ place = omega arith in ap (λ n. Some n) e) in
    let pairs = zip (places_from 0 is_atomic plan.objects) contents.numbers in
    let first = slice_get-map number_end pairs a ∙ ap (option_map number_end) (get_zip (places_from 0 is_atomic plan.objects) contents.numbers a place _ placed number) in
    (a, ap (λ (es : List End). slice_get es a) explains.agrees.1 ∙ get_left (map number_end pairs) _ a _ first)

pub returns-clause-any_order : goal.returns-clause-any_order
returns-clause-any_order c amounts others same = in_any_order amounts others same
