use Rattle.std.specs.Prelude.{IfNone}
use Rattle.sync_model.specs.Shared.{items_of}
use Rattle.thread_objects.specs.GivenUp.{ShowedTooMany}
use Rattle.std.proofs.Common.{ℕ, ◌≤◌, List, length, refl, sym, subst, ◌∙◌}
use Rattle.std.proofs.lemmas.Option.{IfSome_then}
use Rattle.workload.specs.declared.object.ObjectKind.TheVariants as kinds
use Rattle.workload.specs.Keys.{keys_in}
use Rattle.thread_runner.proofs.Sites.{map_within, number_is, range_as}
use Rattle.thread_runner.proofs.placed_calls.range_at.Goals as goal

pub call_range-requires-clause-map : goal.call_range-requires-clause-map
call_range-requires-clause-map g c = map_within c.args.site.now.catalog.workload.now c.args.place c.args.site.now.catalog.numbers.now c.requires.site.numbered _ _ _ c.requires.site.shared _ c.requires.place refl

pub returns-clause-works : goal.returns-clause-works
returns-clause-works g c =
    let plan = c.args.site.now.catalog.workload.now in
    let at = number_is plan c.args.place c.args.site.now.catalog.numbers.now c.requires.site.numbered kinds.Map c.requires.place in
    IfSome_then c.call_range.result c.call_range.ensures.works (λ answer works owns. range_as _ _ answer (keys_in plan.scripts) _ _ _ _ (c.names-names.ensures ∙ c.keys.ensures) at (works owns))

pub call_range-requires-clause-room : goal.call_range-requires-clause-room
call_range-requires-clause-room g c = subst (λ (keys : List (List ℕ)). length keys ≤ c.args.room.room) (sym (c.names-names.ensures ∙ c.keys.ensures)) c.requires.room

pub returns-clause-many : goal.returns-clause-many
returns-clause-many g c = subst (λ (keys : List (List ℕ)). IfNone c.call_range.result (ShowedTooMany (length keys) (items_of (g.S.Mark.Note.own c.call_range.new.caller.note)))) (c.names-names.ensures ∙ c.keys.ensures) c.call_range.ensures.many

pub returns-clause-calls : goal.returns-clause-calls
returns-clause-calls g c = c.call_range.ensures.calls c.args.site.now.catalog.workload.now
