use Rattle.ruled_object.proofs.object.Object.word_at_rest.Goals as goal

pub returns-clause-one_journal : goal.returns-clause-one_journal
returns-clause-one_journal g c = let one = c.look_at_rest.ensures.one_journal in (one.0, one.1, one.3, one.4)
