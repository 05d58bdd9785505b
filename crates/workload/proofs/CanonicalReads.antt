-- The canonical text of a readable workload says it, and is read as it in each dialect that knows its objects.
use Rattle.std.proofs.Common.{◌≡◌, ◌≤◌, false, None, length, subst, arith}
use Rattle.workload.specs.declared.keyword.Dialect.{Dialect}
use Rattle.workload.specs.declared.limits.TheConstants.{MAX_INPUT}
use Rattle.workload.specs.Lines.{lines_of}
use Rattle.workload.specs.Plan.{Plan}
use Rattle.workload.specs.Readable.{IsReadable}
use Rattle.workload.specs.Reads.{ReadsIn}
use Rattle.workload.specs.Canonical.{canonical, canonical_lines}
use Rattle.workload.proofs.Dialects.{has_unknown, on_reads}
use Rattle.workload.proofs.FollowOn.{says_all, all_length}
use Rattle.workload.proofs.CanonicalFollows.{canonical_follows, canonical_count}
use Rattle.workload.proofs.Says.{SaysOn}

pub canonical_says : (plan : Plan) → IsReadable plan → SaysOn (lines_of (canonical plan)) None plan
canonical_says plan h =
    let follows = canonical_follows plan h in
    subst (λ (p : Plan). SaysOn (lines_of (canonical plan)) None p) follows.2 (says_all plan.workers (canonical_lines plan) follows.0 h.some_workers h.few_workers follows.1)

canonical_fits : (plan : Plan) → IsReadable plan → length (canonical plan) ≤ MAX_INPUT
canonical_fits plan h =
    let follows = canonical_follows plan h in
    omega (arith, all_length plan.workers (canonical_lines plan) follows.0 h.few_workers follows.1, canonical_count plan h)

pub canonical_reads : (dialect : Dialect) (plan : Plan) → IsReadable plan → has_unknown dialect plan ≡ false → ReadsIn dialect (canonical plan) plan
canonical_reads dialect plan h known = record { fits = canonical_fits plan h; lines = on_reads dialect (lines_of (canonical plan)) None plan (canonical_says plan h) known }
