use Rattle.std.proofs.Common.{ℕ, ◌<◌, List, length, slice_index, ap, sym, ◌∙◌, arith}
use Rattle.std.specs.Prelude.{sum}
use Rattle.std.proofs.lemmas.Option.{slice_get_within, same_Some}
use Rattle.sync_model.specs.Note.{Holding}
use Rattle.sync_model.specs.Shared.{items_of}
use Rattle.thread_runner.proofs.ScriptCalls.{one_script_each}
use Rattle.thread_runner.proofs.Costs.{atomics_and_maps, few_units}
use Rattle.thread_runner.proofs.trie_maps.TrieRunMaps.new_for.Goals as goal

pub new-requires-clause-objects : goal.new-requires-clause-objects
new-requires-clause-objects c =
    let plan = c.args.workload.now in
    let few = c.a_workload_has_few_objects.ensures plan c.workers-workers.ensures.readable in
    let kinds = ap (λ (l : List _). length l) (c.deref.ensures.value ∙ c.in_ok-kinds.ensures) in
    omega (arith, few, kinds, c.map_count.ensures, atomics_and_maps plan.objects)

pub new-requires-clause-units : goal.new-requires-clause-units
new-requires-clause-units c =
    let plan = c.args.workload.now in
    let workers = one_script_each plan c.workers-workers.ensures.valid in
    let spares = c.in_ok-spares.ensures in
    let units = few_units c.in_ok-spares.spares.items plan.scripts (spares.count ∙ sym workers) (λ i within. spares.few i (omega (arith, within, workers))) in
    let same = ap (λ (l : List ℕ). sum l) c.deref-2.ensures.value in
    omega (arith, units, same, c.workers-workers.ensures.readable.call_room)

pub returns-clause-shared : goal.returns-clause-shared
returns-clause-shared c =
    let plan = c.args.workload.now in
    let made = c.in_ok-table.ensures.table in
    record {
      all_maps = made.1 ∙ c.map_count.ensures;
      all_types = made.0 ∙ c.deref.ensures.value ∙ c.in_ok-kinds.ensures;
      keys = λ key within.
          let count = c.keys_are_numbered_by_first_appearance.ensures.count plan.scripts in
          omega (arith, within, count, c.workers-workers.ensures.readable.key_room);
    }

pub returns-clause-unused : goal.returns-clause-unused
returns-clause-unused c = λ i caller at. ap items_of (c.in_ok-table.ensures.callers.own i caller at)

pub returns-clause-spare : goal.returns-clause-spare
returns-clause-spare c = λ i caller at holding own.
    let new = c.in_ok-table.ensures.callers in
    let plan = c.args.workload.now in
    let value = c.deref-2.ensures.value in
    let workers = c.in_ok-table.ensures.table.3 ∙ ap (λ (l : List ℕ). length l) value ∙ c.in_ok-spares.ensures.count in
    let within = slice_get_within c.in_ok-table.callers.items i caller at in
    let below : i < plan.workers = omega (arith, within, new.all.all, workers) in
    let same = same_Some holding _ (sym own ∙ new.own i caller at) in
    let cost = ap (λ (h : Holding). h.spare) same ∙ ap (λ (l : List ℕ). slice_index l i) value ∙ c.in_ok-spares.ensures.each i below in
    omega (arith, cost)
