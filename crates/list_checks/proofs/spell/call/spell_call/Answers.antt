use Rattle.std.proofs.Common.{◌≡◌, true, false, List, length, Some, None, slice_get, refl, subst}
use Rattle.std.proofs.lemmas.Option.{slice_get_past, slice_get_read}
use Rattle.workload.specs.declared.object.ObjectLine.{ObjectLine}
use Rattle.list_checks.specs.SpellLines.{is_range_of_map}
use Rattle.list_checks.proofs.SpellCalls.{call_there, nothing_there, on_ok, range_there}
use Rattle.list_checks.proofs.spell.call.spell_call.Goals as goal

pub returns-in_default : goal.returns-in_default
returns-in_default c =
    let place = c.args.call.now.object in
    let nothing = subst (λ (objects : List ObjectLine). slice_get objects place ≡ None) c.objects.ensures.objects (slice_get_past c.objects.result.now place c.in_default.ensures.lookup.3) in
    nothing_there c.args.workload.now c.args.worker c.args.before c.args.call.now.object c.args.items.now c.args.from c.args.call.now.operation nothing

pub returns-then-is_range_of_map : goal.returns-then-is_range_of_map
returns-then-is_range_of_map c =
    let place = c.args.call.now.object in
    let here = slice_get_read c.objects.result.now (length c.objects.result.now) place c.in-Some.object.now refl c.in-Some.ensures.lookup.3.0 c.in-Some.ensures.lookup.1 in
    let there = subst (λ (objects : List ObjectLine). slice_get objects place ≡ Some c.in-Some.object.now) c.objects.ensures.objects here in
    let ranged : is_range_of_map c.in-Some.object.now.kind c.args.call.now.operation ≡ true = cc in
    on_ok c.spell_range.result (λ found is. range_there c.args.workload.now c.args.worker c.args.before c.args.call.now.object c.args.items.now c.args.from c.in-Some.object.now c.args.call.now.operation found there ranged is) c.spell_range.ensures

pub returns : goal.returns
returns c =
    let place = c.args.call.now.object in
    let here = slice_get_read c.objects.result.now (length c.objects.result.now) place c.in-Some.object.now refl c.in-Some.ensures.lookup.3.0 c.in-Some.ensures.lookup.1 in
    let there = subst (λ (objects : List ObjectLine). slice_get objects place ≡ Some c.in-Some.object.now) c.objects.ensures.objects here in
    let told : is_range_of_map c.in-Some.object.now.kind c.args.call.now.operation ≡ false = cc in
    call_there c.args.workload.now c.args.worker c.args.before c.args.call.now.object c.args.items.now c.args.from c.in-Some.object.now c.args.call.now.operation c.spell_on.result there told (c.spell_on.ensures c.args.before)
