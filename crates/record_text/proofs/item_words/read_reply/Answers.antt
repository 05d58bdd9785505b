use Rattle.std.proofs.Common.{◌∷◌, ◌∙◌, ap}
use Rattle.record_text.proofs.ReplyLemmas.{no_three}
use Rattle.record_text.proofs.item_words.read_reply.Goals as goal

pub returns-in-Some-default-Some : goal.returns-in-Some-default-Some
returns-in-Some-default-Some c = λ x fits e.
    let first = c.in_ok-first.first.now in
    let cut = rw c.in-Some-default-Some.field-0-1-is at c.in-Some-default-Some.ensures in
    no_three first c.in-Some-default-Some.field-0-0.now c.in-Some-default-Some.field-0-1-0.now x fits (e ∙ c.in_ok-first.ensures ∙ ap (λ ws. first ∷ ws) cut)
