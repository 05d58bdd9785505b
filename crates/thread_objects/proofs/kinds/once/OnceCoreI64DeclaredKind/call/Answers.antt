use Rattle.std.proofs.Common.{◌≡◌, ℤ, sym, to_z, of_z, rules}
use Rattle.std.specs.Int.{w64}
use Rattle.std.proofs.lemmas.Option.{IfSome_then}
use Rattle.run_record.specs.Objects.{atomic_number}
use Rattle.run_record.specs.OnceKind.{do_call}
use Rattle.run_record.specs.Record.{object_number}
use Rattle.thread_objects.proofs.Working.{part_as}
use Rattle.thread_objects.proofs.kinds.once.OnceCoreI64DeclaredKind.call.Goals as goal

pub returns-clause-works : goal.returns-clause-works
returns-clause-works g c =
    let atomic = atomic_number c.args.catalog.now.workload.now.objects c.in-Once-Once.atomic in
    let fits : to_z w64 (of_z w64 c.in-Once-Once.delta) ≡ c.in-Once-Once.delta = search rules in
    IfSome_then c.do_on.result c.do_on.ensures.works (λ answer works before place.
    rw (c.in-Once-Once.is-0, c.in-Once-Once.is-1) (part_as (λ (d : ℤ). do_call (object_number place) atomic d) c.in-Once-Once.delta _ _ _ answer (sym fits) (works (object_number place))))
