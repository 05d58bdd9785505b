use Rattle.std.proofs.Common.{◌≡◌, ℕ, ◌<◌, true, length, List, [], sym, ap, subst, arith}
use Rattle.std.proofs.lemmas.Option.{slice_get-get_or}
use Rattle.std.proofs.lemmas.Result.{IfOk-weaker}
use Rattle.workload.specs.declared.object.ObjectLine.{ObjectLine}
use Rattle.workload.specs.Readable.{may_declare}
use Rattle.thread_objects.specs.ByKind.{passes_in}
use Rattle.thread_objects.specs.Columns.{IsUntouched}
use Rattle.thread_objects.specs.Passes.{owns_of}
use Rattle.thread_objects.proofs.Histories.{nothing_made}
use Rattle.thread_objects.proofs.KindsFit.{kind_fits}
use Rattle.thread_objects.proofs.making.make_object.Goals as goal

pub make_kind-requires-clause-kind : goal.make_kind-requires-clause-kind
make_kind-requires-clause-kind g c =
    let objects = c.objects.result.now in
    let is = c.objects.ensures.objects in
    let within : c.args.place < length objects = omega (arith, c.requires.place, ap (λ (xs : List ObjectLine). length xs) is) in
    kind_fits [] objects c.args.place _ (subst (λ (xs : List ObjectLine). may_declare [] xs ≡ true) (sym is) c.workers-workers.ensures.readable.objects) (slice_get-get_or objects c.args.place c.index-objects-place.result within)

pub returns-clause-untouched : goal.returns-clause-untouched
returns-clause-untouched g c = IfOk-weaker c.make_kind.result (λ made. IsUntouched made.0 made.1) (λ made. (worker : ℕ) → owns_of (passes_in made.1) worker ≡ []) (λ made. nothing_made made.0 made.1) c.make_kind.ensures.untouched
