use Rattle.std.proofs.Common.{◌∷◌, ◌++◌, [], ap, ◌∙◌}
use Rattle.record_text.specs.Journals.{named_part}
use Rattle.record_text.proofs.DirectoryLemmas.{parts_more}
use Rattle.record_text.proofs.directory.Directory.add_parts.Goals as goal

pub loop-part-preserved : goal.loop-part-preserved
loop-part-preserved c =
    c.in_ok-directory.ensures
    ∙ ap (λ d. d ++ named_part c.args.object.now c.loop-part.part ∷ []) c.loop-part.invariant
    ∙ parts_more c.args.self c.args.object.now c.loop-part.part
