use Rattle.std.proofs.Common.{◌≡◌, cond, None, sym, ap, ◌∙◌}
use Rattle.run_check.specs.declared.told.deeds.Speaker.{Speaker}
use Rattle.run_check.specs.ToldItems.{entered, speaker_of}
use Rattle.run_check.proofs.told.sketch.sketch_told.Goals as goal

pub returns-then-may_be_of : goal.returns-then-may_be_of
returns-then-may_be_of c =
    let may = sym c.may_be_of.ensures ∙ c.if-may_be_of.true in
    let speaks = speaker_of c.args.workload.now c.args.kept.now c.in-Entered.object c.args.worker c.args.along.sum in
    rw c.in-Entered.is
    (c.entered.ensures
    ∙ ap (λ (s : Speaker). entered s c.in-Entered.object c.in-Entered.number c.in-Entered.event c.in-Entered.answer) c.speaker_along-speaker.ensures
    ∙ sym (ap (λ b. cond b (entered speaks c.in-Entered.object c.in-Entered.number c.in-Entered.event c.in-Entered.answer) None) may))
