use Rattle.std.proofs.Common.{◌≡◌, ℕ, ◌<◌, List, length, slice_index, ap, sym, ◌∙◌, arith}
use Rattle.std.proofs.lemmas.Option.{slice_get_within, same_Some}
use Rattle.sync_model.specs.Note.{Holding}
use Rattle.sync_model.specs.Shared.{items_of}
use Rattle.workload.specs.Keys.{keys_in}
use Rattle.program_tests.proofs.plain_maps.plain_for.Goals as goal

pub overflow_cast-keys : goal.overflow_cast-keys
overflow_cast-keys c =
    let scripts = c.args.workload.now.scripts in
    let long : length c.names.result.now ≡ length (keys_in scripts) = ap (λ (names : List (List ℕ)). length names) (c.names.ensures ∙ c.keys.ensures) in
    let count = c.keys_are_numbered_by_first_appearance.ensures.count scripts in
    omega (arith, long, count, c.workers-workers.ensures.readable.key_room)

pub returns-clause-unused : goal.returns-clause-unused
returns-clause-unused c = λ i caller at. ap items_of (c.in_ok-plain.ensures.callers.own i caller at)

pub returns-clause-spare : goal.returns-clause-spare
returns-clause-spare c = λ i caller at holding own.
    let new = c.in_ok-plain.ensures.callers in
    let plan = c.args.workload.now in
    let value = c.deref-2.ensures.value in
    let workers = c.in_ok-plain.ensures.plain.3 ∙ ap (λ (l : List ℕ). length l) value ∙ c.in_ok-spares.ensures.count in
    let within = slice_get_within c.in_ok-plain.callers.items i caller at in
    let below : i < plan.workers = omega (arith, within, new.all.all, workers) in
    let same = same_Some holding _ (sym own ∙ new.own i caller at) in
    let cost = ap (λ (h : Holding). h.spare) same ∙ ap (λ (l : List ℕ). slice_index l i) value ∙ c.in_ok-spares.ensures.each i below in
    omega (arith, cost)
