use Rattle.std.proofs.Common.{◌≡◌, ℕ, List, Ok, Err, drop, subst}
use Rattle.std.specs.Prelude.{IsSortedByKey}
use Rattle.std.specs.Cmp.Lexicographic.{slice_cmp}
use Rattle.std.specs.Ordering.{nat_cmp}
use Rattle.workload.specs.Keys.{key_name, keys_in}
use Rattle.run_record.specs.Objects.{map_number}
use Rattle.run_cuts.specs.RangeCuts.{shows_cut}
use Rattle.list_checks.specs.SpellFound.{IsFound}
use Rattle.list_checks.proofs.SpellCalls.{range_stopped, sorted_found}
use Rattle.list_checks.proofs.spell.call.spell_range.Goals as goal

pub returns-in-Ok : goal.returns-in-Ok
returns-in-Ok c =
    let plan = c.args.workload.now in
    let list = c.args.items.now in
    let map_is : c.map_number-map.result ≡ map_number plan.objects c.args.place = cc in
    let named : c.names.result.now ≡ keys_in plan.scripts = cc in
    let here = subst (λ found. IsFound list c.args.from (shows_cut c.map_number-map.result c.args.before (drop c.args.from list)) found) c.in-Ok.is c.in_ok-spelt.ensures in
    let found = subst (λ (m : ℕ). IsFound list c.args.from (shows_cut m c.args.before (drop c.args.from list)) (Ok c.in-Ok.spelt)) map_is here in
    let sorted = subst (λ (keys : List (List ℕ)). IsSortedByKey (λ (pair : ℕ × ℕ). key_name keys pair.0) (slice_cmp nat_cmp) c.sorted-pairs.result) named c.sorted-pairs.ensures.sorted in
    sorted_found (keys_in plan.scripts) list c.args.from c.in-Ok.spelt.end (shows_cut (map_number plan.objects c.args.place) c.args.before (drop c.args.from list)) c.in-Ok.spelt.outcome c.sorted-pairs.result found (c.sorted-pairs.ensures.permutation, sorted)

pub returns-in-Err : goal.returns-in-Err
returns-in-Err c =
    let plan = c.args.workload.now in
    let list = c.args.items.now in
    let map_is : c.map_number-map.result ≡ map_number plan.objects c.args.place = cc in
    let here = subst (λ found. IsFound list c.args.from (shows_cut c.map_number-map.result c.args.before (drop c.args.from list)) found) c.in-Err.is c.in_ok-spelt.ensures in
    let found = subst (λ (m : ℕ). IsFound list c.args.from (shows_cut m c.args.before (drop c.args.from list)) (Err c.in-Err.stop)) map_is here in
    range_stopped (keys_in plan.scripts) list c.args.from (shows_cut (map_number plan.objects c.args.place) c.args.before (drop c.args.from list)) c.in-Err.stop found
