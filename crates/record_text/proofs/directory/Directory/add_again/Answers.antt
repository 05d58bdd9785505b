use Rattle.std.proofs.Common.{◌∙◌}
use Rattle.record_text.proofs.DirectoryLemmas.{push_old}
use Rattle.record_text.proofs.directory.Directory.add_again.Goals as goal

pub invariant_of-result : goal.invariant_of-result
invariant_of-result c = λ q.
    rw (c.in_ok-push.ensures.ok, c.from_vec-word.ensures, c.in_ok-from_slice.ensures.items)
    (c.self.invariant q ∙ push_old c.self.inside.names (record { word = c.args.word.now; kind = c.args.kind }) q (rw (← c.self.view_is) at c.requires))
