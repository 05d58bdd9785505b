use Rattle.std.proofs.Common.{◌≡◌, true, Some, sym, subst}
use Rattle.workload.specs.declared.line.Line.TheVariants as lines
use Rattle.workload.specs.Plan.{Plan}
use Rattle.workload.specs.Draft.{may_follow}
use Rattle.workload.specs.Index.{IsIndexed}
use Rattle.workload.proofs.DraftLemmas.{indexed_call}
use Rattle.workload.proofs.draft.Draft.with_call.Goals as goal

pub invariant_of-result : goal.invariant_of-result
invariant_of-result c =
    let d = c.self.inside.parts.value in
    let plan : Plan = record { workers = d.workers; objects = d.objects; dormant = d.dormant.items; scripts = d.scripts; schedule = d.schedule } in
    let worker = c.in-Some.worker in
    let here : d.current ≡ Some worker = rw (← c.deref_mut-known.ensures.value) c.in-Some.is in
    let indexed = subst (λ w. IsIndexed plan w d.names d.keys d.started.items d.calls d.ranges d.tries d.accesses) here c.self.invariant in
    let follows = subst (λ draft. may_follow draft (lines.Call c.args.name c.args.second c.args.call) ≡ true) (sym c.self.view_is) c.requires in
    let at : may_follow (record { plan = plan; current = Some worker }) (lines.Call c.args.name c.args.second c.args.call) ≡ true = subst (λ w. may_follow (record { plan = plan; current = w }) (lines.Call c.args.name c.args.second c.args.call) ≡ true) here follows in
    rw (c.ranges_in.ensures, c.tries_in.ensures, c.accesses_in.ensures, c.mark_started.ensures, c.in_ok-push_at.ensures.ok, c.in_ok-insert_keys.ensures, c.deref_mut-known.ensures.value, here) (indexed_call plan worker d.names d.keys d.started.items d.calls d.ranges d.tries d.accesses c.args.name c.args.second c.args.call indexed at)
