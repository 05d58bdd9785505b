use Rattle.std.proofs.Common.{◌∙◌}
use Rattle.gosync_call.proofs.MessageTexts.{says_same, refusal_text}
use Rattle.gosync_call.proofs.message.say_refusal.Goals as goal

pub returns-clause-says : goal.returns-clause-says
returns-clause-says g c =
    says_same _ _ _ _ _ _ (refusal_text _ _ _ _ (c.as_bytes-line.ensures.value ∙ c.format.ensures.text) c.as_bytes.ensures.value) c.say_pieces.ensures.says
