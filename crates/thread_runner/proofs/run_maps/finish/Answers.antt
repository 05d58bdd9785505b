use Rattle.std.proofs.Common.{◌≡◌, ℕ, ◌++◌, List, count_by, sym, ap, ◌∙◌, subst}
use Rattle.sync_types.specs.declared.atomic_object.AtomicKind.{AtomicKind}
use Rattle.sync_types.specs.declared.end.End.{End}
use Rattle.script_calls.specs.declared.outcome.Outcome.{Outcome}
use Rattle.script_calls.specs.declared.outcome.Outcome.TheVariants.{Done}
use Rattle.sync_model.specs.declared.item.SharedEntry.{SharedEntry}
use Rattle.sync_model.specs.EndsByName.{HasKeysAmong, ends_by_name}
use Rattle.sync_model.specs.EndsOfHistory.{ends_by}
use Rattle.sync_model.specs.Shared.{calls_of}
use Rattle.sync_model.specs.SharedCalls.{Lawful}
use Rattle.sync_model.specs.SharedHistory.{Contents, first_contents, contents_after, value_at}
use Rattle.workload.specs.Keys.{keys_in, key_number, key_name}
use Rattle.run_record.specs.Explains.{Explains}
use Rattle.run_record.specs.Objects.{is_map, is_atomic, contents_of, places_from}
use Rattle.thread_runner.specs.Runs.{with_ends, ends_after}
use Rattle.thread_runner.proofs.run_maps.finish.Goals as goal

pub returns-in-Done : goal.returns-in-Done
returns-in-Done g c =
    let plan = c.args.workload.now in
    let shared = c.requires.shared in
    let made = c.requires.plan in
    let comes = c.requires.comes in
    let left = c.in-Done.left in
    let history = comes.settled.history in
    let run = comes.explained.run in
    let keys = keys_in plan.scripts in
    let order = c.args.plan.order.items in
    let atomics = c.args.plan.places.atomics.items in
    let maps = c.args.plan.places.maps.items in
    let held = contents_after (contents_of plan) history in
    let start : first_contents (g.M.Shared.maps c.args.maps) (g.M.Shared.kinds c.args.maps) ≡ contents_of plan =
    ap (λ (n : ℕ). first_contents n (g.M.Shared.kinds c.args.maps)) shared.all_maps
    ∙ ap (λ (types : List AtomicKind). first_contents (count_by (λ object. is_map object.kind) plan.objects) types) shared.all_types in
    let lawful = subst (λ (from : Contents). Lawful from history (calls_of g.M.Mark.Note.own c.args.callers.items)) (sym start) comes.settled.lawful in
    let before = c.args.plan.ends.items in
    let pushed : c.end.new.ends.items ≡ before ++ ends_by order atomics maps held =
    c.end.ensures.ends history lawful
    ∙ ap (λ (from : Contents). before ++ ends_by c.deref-in-Done-2.result.now c.deref.result.now c.deref-in-Done.result.now (contents_after from history)) start
    ∙ ap (λ (l : List ℕ). before ++ ends_by l c.deref.result.now c.deref-in-Done.result.now held) c.deref-in-Done-2.ensures.value
    ∙ ap (λ (l : List ℕ). before ++ ends_by order l c.deref-in-Done.result.now held) c.deref.ensures.value
    ∙ ap (λ (l : List ℕ). before ++ ends_by order atomics l held) c.deref-in-Done.ensures.value in
    let among : HasKeysAmong order held = λ m key value is. made.all_keys key (c.maps_end_with_the_workloads_keys.ensures plan run (with_ends (ends_after plan history) c.args.outcome) m key value comes.explained.explains
    (ap (λ (entries : List SharedEntry). value_at (contents_after (contents_of plan) entries) m key) comes.explained.history_is ∙ is)) in
    let named = c.ends_are_in_name_order.ensures (key_name keys) (key_number keys) order atomics maps held made.in_order among in
    let list : c.from_vec.result ≡ ends_after plan history =
    c.from_vec.ensures ∙ pushed ∙ ap (λ (l : List End). l ++ ends_by order atomics maps held) made.none ∙ named
    ∙ ap (λ (places : List ℕ). ends_by_name (key_name keys) (key_number keys) places maps held) made.atomics_are
    ∙ ap (λ (places : List ℕ). ends_by_name (key_name keys) (key_number keys) (places_from 0 is_atomic plan.objects) places held) made.maps_are in
    let outcome : with_ends (ends_after plan history) c.args.outcome ≡ Done (record { replies = left.replies; ends = c.from_vec.result }) =
    ap (λ (o : Outcome). with_ends (ends_after plan history) o) c.in-Done.is
    ∙ ap (λ (l : List End). Done (record { replies = left.replies; ends = l })) (sym list) in
    (run, subst (λ (o : Outcome). Explains plan o run) outcome comes.explained.explains, comes.explained.order)
