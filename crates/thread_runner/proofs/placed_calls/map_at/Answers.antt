use Rattle.run_record.specs.Limits.{IsKeyOf}
use Rattle.std.proofs.Common.{ℕ, refl, sym, ◌∙◌, subst}
use Rattle.sync_types.specs.declared.map_object.MapCall.{MapCall}
use Rattle.sync_model.specs.Shared.{IsMapCall}
use Rattle.workload.specs.Keys.{keys_in}
use Rattle.workload.specs.declared.object.ObjectKind.TheVariants as kinds
use Rattle.thread_runner.proofs.Sites.{number_is, map_within, placed_as}
use Rattle.thread_runner.proofs.ScriptCalls.{number_within, by_its_number, numbered_fits}
use Rattle.thread_runner.proofs.placed_calls.map_at.Goals as goal

pub call_map-requires-clause-map : goal.call_map-requires-clause-map
call_map-requires-clause-map g c =
    let plan = c.args.site.now.catalog.workload.now in
    map_within plan c.args.place c.args.site.now.catalog.numbers.now c.requires.site.numbered _ _ _ c.requires.site.shared _ c.requires.place refl

pub call_map-requires-clause-call : goal.call_map-requires-clause-call
call_map-requires-clause-call g c =
    let scripts = c.args.site.now.catalog.workload.now.scripts in
    let keys = keys_in scripts in
    let law = c.keys_are_numbered_by_first_appearance.ensures in
    let takes = g.S.Shared.takes c.args.site.now.catalog.shared.now in
    let call = c.args.call.now in
    let is = c.numbered-by_number.ensures ∙ by_its_number keys c.args.number call c.requires.number in
    subst (λ (by_number : MapCall ℕ). IsMapCall takes by_number) (sym is)
    (numbered_fits keys takes c.requires.site.shared.keys call c.requires.call (λ name at. number_within keys name (λ number. (law.number scripts name number).0) (law.keys scripts name ∙ c.requires.key name at)))

pub returns-clause-works : goal.returns-clause-works
returns-clause-works g c = λ owns.
    let plan = c.args.site.now.catalog.workload.now in
    let call = c.args.call.now in
    let is = c.numbered-by_number.ensures ∙ by_its_number (keys_in plan.scripts) c.args.number call c.requires.number in
    placed_as (keys_in plan.scripts) _ _ _ call _ _ _ (number_is plan c.args.place c.args.site.now.catalog.numbers.now c.requires.site.numbered kinds.Map c.requires.place) is (c.call_map.ensures.works owns)

pub returns-clause-calls : goal.returns-clause-calls
returns-clause-calls g c =
    let plan = c.args.site.now.catalog.workload.now in
    let keys = keys_in plan.scripts in
    let law = c.keys_are_numbered_by_first_appearance.ensures in
    let call = c.args.call.now in
    let is = c.numbered-by_number.ensures ∙ by_its_number keys c.args.number call c.requires.number in
    let fits : IsMapCall (IsKeyOf plan) c.numbered-by_number.result = subst (λ (by_number : MapCall ℕ). IsMapCall (IsKeyOf plan) by_number) (sym is)
    (numbered_fits keys (IsKeyOf plan) (λ key low. low) call c.requires.call (λ name at. number_within keys name (λ number. (law.number plan.scripts name number).0) (law.keys plan.scripts name ∙ c.requires.key name at))) in
    c.call_map.ensures.calls plan fits.key
