use Rattle.workload.specs.Plan.{Plan}
use Rattle.workload.proofs.DraftLemmas.{indexed_dormant}
use Rattle.workload.proofs.draft.Draft.with_dormant.Goals as goal

pub invariant_of-result : goal.invariant_of-result
invariant_of-result c =
    let d = c.self.inside.parts.value in
    let plan : Plan = record { workers = d.workers; objects = d.objects; dormant = d.dormant.items; scripts = d.scripts; schedule = d.schedule } in
    rw c.deref_mut.ensures.value (indexed_dormant plan d.current d.names d.keys d.started.items d.calls d.ranges d.tries d.accesses c.args.worker c.self.invariant)
