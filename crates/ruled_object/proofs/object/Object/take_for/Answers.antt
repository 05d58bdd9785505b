use Rattle.std.proofs.Common.{ap, sym, ◌∙◌}
use Rattle.ruled_object.proofs.object.Object.take_for.Goals as goal

pub choose-event-requires-clause-held : goal.choose-event-requires-clause-held
choose-event-requires-clause-held g c =
    let took = c.take_word-word.ensures.takes in
    let lies = took.3.lies in
    (took.1, ap (λ me. me.1) took.2, lies.told ∙ ap g.M.Worded.tells (sym lies.state))

pub returns-clause-takes : goal.returns-clause-takes
returns-clause-takes g c = let took = c.take_word-word.ensures.takes in (took.0, took.1, c.choose-event.ensures.seat.1 ∙ took.2, took.3, took.4)

pub returns-clause-chosen : goal.returns-clause-chosen
returns-clause-chosen g c = let chosen = c.choose-event.ensures.chosen in (chosen.0, ap (λ me. me.1) c.choose-event.ensures.seat.1 ∙ chosen.1, chosen.2)
