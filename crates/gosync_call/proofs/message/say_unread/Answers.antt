use Rattle.gosync_call.proofs.MessageTexts.{says_same, cannot_read_text}
use Rattle.gosync_call.proofs.message.say_unread.Goals as goal

pub returns-in-CannotRead-clause-says : goal.returns-in-CannotRead-clause-says
returns-in-CannotRead-clause-says g c =
    rw c.in-CannotRead.is (says_same _ _ _ _ _ _ (cannot_read_text _ _ c.as_bytes.ensures.value) c.say_pieces.ensures.says)

pub returns-in-NotAccepted-clause-says : goal.returns-in-NotAccepted-clause-says
returns-in-NotAccepted-clause-says g c = rw (c.in-NotAccepted.is, ← c.text.ensures) c.say_refusal.ensures.says

pub returns-in-NoRecord-clause-says : goal.returns-in-NoRecord-clause-says
returns-in-NoRecord-clause-says g c = rw (c.in-NoRecord.is, ← c.text-in-NoRecord.ensures) c.say_refusal-in-NoRecord.ensures.says
