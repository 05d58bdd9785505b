use Rattle.std.proofs.Common.{rules, inl}
use Rattle.go_sync.proofs.guarded.GuardedCaller.with.Goals as goal

pub hold-held-requires : goal.hold-held-requires
hold-held-requires g c = inl (c.args.self.now.caller, search rules)
