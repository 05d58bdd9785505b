use Rattle.std.proofs.Common.{◌≡◌, true, sym, subst}
use Rattle.workload.specs.declared.line.Line.TheVariants as lines
use Rattle.workload.specs.Plan.{Plan}
use Rattle.workload.specs.Draft.{may_follow}
use Rattle.workload.proofs.DraftLemmas.{indexed_object}
use Rattle.workload.proofs.draft.Draft.with_object.Goals as goal

pub invariant_of-result : goal.invariant_of-result
invariant_of-result c =
    let d = c.self.inside.parts.value in
    let plan : Plan = record { workers = d.workers; objects = d.objects; dormant = d.dormant.items; scripts = d.scripts; schedule = d.schedule } in
    let follows = subst (λ draft. may_follow draft (lines.Object c.args.object c.args.reference) ≡ true) (sym c.self.view_is) c.requires in
    rw (c.in_ok-push.ensures.ok, c.in_ok-insert.ensures.ok, c.as_bytes.ensures.bytes, c.len.ensures, c.deref_mut-known.ensures.value) (indexed_object plan d.current d.names d.keys d.started.items d.calls d.ranges d.tries d.accesses c.args.object c.args.reference c.self.invariant follows)
