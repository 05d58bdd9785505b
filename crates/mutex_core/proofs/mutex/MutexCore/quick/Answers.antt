use Rattle.std.proofs.Common.{◌≡◌, false, subst}
use Rattle.mutex_core.specs.Word.{is_uncontended, told_by}
use Rattle.mutex_core.proofs.PackedWord.{contended}
use Rattle.mutex_core.proofs.mutex.MutexCore.quick.Goals as goal

pub returns-then-word-gt1-clause-left : goal.returns-then-word-gt1-clause-left
returns-then-word-gt1-clause-left c =
    subst (λ s. is_uncontended (told_by s c.args.word) c.args.caller c.args.event ≡ false) c.self.view_is
    (contended _ c.args.word c.args.caller c.args.event c.self.invariant.valid (rw (← c.self.view_is) at c.requires) c.if-word-gt1.true)
