use Rattle.std.proofs.Common.{◌≡◌, ℕ, ◌<◌, ◌≤◌, ap, ◌∙◌, subst, arith}
use Rattle.std.specs.Prelude.{ℤ, pos, ◌≤ℤ◌}
use Rattle.std.proofs.Common.{w32}
use Rattle.std.proofs.lemmas.Int.{to_z-of_z}
use Rattle.wait_cores.specs.declared.group.GroupEvent.TheVariants.{Add}
use Rattle.wait_cores.specs.declared.group.GroupReply.{GroupReply}
use Rattle.wait_cores.specs.GroupMachine.{GroupState, start, next, callers_of}
use Rattle.go_waits.specs.Groups.{IsBegun}
use Rattle.go_waits.proofs.GroupStart.{begins}
use Rattle.go_waits.proofs.group.WaitGroup.new.Goals as goal

begun : (callers : ℕ) (delta : ℤ) (core new : GroupState) (reply : GroupReply) → pos 0 ≤ℤ delta → delta ≤ℤ pos 10000 → 1 ≤ callers → core ≡ start callers → callers_of core ≡ callers
    → (read : ℤ) → read ≡ delta → ((caller : ℕ) → caller < callers_of core → next core caller (Add read) ≡ (new, reply)) → IsBegun callers delta new
begun callers delta core new reply least few some is sized read back step =
    let below : 0 < callers_of core = omega arith in
    begins callers delta new reply least few some (subst (λ (d : ℤ). next (start callers) 0 (Add d) ≡ (new, reply)) back (subst (λ (s : GroupState). next s 0 (Add read) ≡ (new, reply)) is (step 0 below)))

pub new-requires-2-clause-begun : goal.new-requires-2-clause-begun
new-requires-2-clause-begun g c =
    (begun c.args.callers c.args.start c.in_ok-core.core c.add-started.new.self _ c.requires.start.0 c.requires.start.1 c.requires.callers.0 c.in_ok-core.ensures.start c.in_ok-core.ensures.callers _ (to_z-of_z w32 c.args.start c.ranges.start) c.add-started.ensures.step).1

pub returns-clause-group : goal.returns-clause-group
returns-clause-group g c =
    let at = begun c.args.callers c.args.start c.in_ok-core.core c.add-started.new.self _ c.requires.start.0 c.requires.start.1 c.requires.callers.0 c.in_ok-core.ensures.start c.in_ok-core.ensures.callers _ (to_z-of_z w32 c.args.start c.ranges.start) c.add-started.ensures.step in
    let object = c.in_ok-object.ensures.object in
    (object.0, (ap (λ (s : GroupState). pos s.counter) object.1 ∙ at.0, ap (λ (s : GroupState). s.places) object.1 ∙ at.1), object.2)
