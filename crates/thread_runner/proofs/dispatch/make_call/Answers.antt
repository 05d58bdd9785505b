use Rattle.std.proofs.Common.{sym, ap, ◌∙◌, arith}
use Rattle.std.proofs.lemmas.Option.{slice_get_within}
use Rattle.workload.specs.declared.object.ObjectKind.{ObjectKind}
use Rattle.workload.specs.Plan.{refers}
use Rattle.thread_runner.proofs.ByKind.{kind_has, line_of, spells_if}
use Rattle.thread_runner.proofs.ScriptCalls.{worker_within, in_range, keys_are_known, on_object, refers_at, starts_one}
use Rattle.thread_runner.proofs.dispatch.make_call.Goals as goal

pub kind_at-kind-requires : goal.kind_at-kind-requires
kind_at-kind-requires g c =
    let plan = c.args.site.now.catalog.workload.now in
    let call = c.args.call.now in
    let line = line_of plan.objects call (on_object plan c.args.worker.now.number call c.requires.call c.workers-workers.ensures.valid) in
    slice_get_within plan.objects call.object line.0 line.1

pub call_at-requires-clause-call : goal.call_at-requires-clause-call
call_at-requires-clause-call g c =
    let plan = c.args.site.now.catalog.workload.now in
    let worker = c.args.worker.now.number in
    let call = c.args.call.now in
    let valid = c.workers-workers.ensures.valid in
    let is = c.kind_at-kind.ensures in
    record {
      there = is;
      has = kind_has plan worker 0 call _ is (on_object plan worker call c.requires.call valid);
      reference = ap (λ (k : ObjectKind). refers plan.objects k) (sym is.2) ∙ refers_at plan call.object is.0 valid is.1;
      dormant = starts_one plan worker call c.requires.call valid;
      ranged = in_range plan worker call c.requires.call c.workers-workers.ensures.readable;
      keys = keys_are_known plan worker call c.requires.call;
    }

pub returns-clause-works : goal.returns-clause-works
returns-clause-works g c = spells_if c.args.site.now.catalog.workload.now c.args.worker.now.number _ c.args.call.now _ c.kind_at-kind.ensures _ _ c.call_at.result c.call_at.ensures.works

pub call_at-requires-clause-own : goal.call_at-requires-clause-own
call_at-requires-clause-own g c = omega (arith, worker_within c.args.site.now.catalog.workload.now c.args.worker.now.number c.args.call.now c.requires.call c.workers-workers.ensures.valid, c.requires.site.counted)
