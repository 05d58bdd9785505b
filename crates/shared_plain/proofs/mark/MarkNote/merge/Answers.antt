use Rattle.std.proofs.Common.{le_refl, refl, sym, ap, ◌∙◌, subst}
use Rattle.sync_model.specs.Front.{AtLeast}
use Rattle.sync_model.specs.Journal.{by}
use Rattle.ruled_object.specs.Passes.{number_of, seen_by}
use Rattle.shared_plain.specs.PlainHistory.{front_of, times_by}
use Rattle.shared_plain.specs.declared.mark.Mark.{Mark}
use Rattle.shared_plain.proofs.Orders.{keeps_on, note_of}
use Rattle.shared_plain.proofs.Passing.{rises, kept_items, same_own}
use Rattle.shared_plain.proofs.mark.MarkNote.merge.Goals as goal
use Rattle.shared_plain.proofs.Numbers.{kept_times}

pub returns-clause-home : goal.returns-clause-home
returns-clause-home c home is =
    let old = c.args.self.now in
    let new : Mark = record { pass = c.merge.new.pass; callers = old.callers; spare = old.spare; stamp = old.stamp; done = old.done } in
    record {
      pass = note_of c.args.home.now home old new c.requires.home.0.pass c.merge.ensures.pass.0 c.merge.ensures.pass.1.0 is.pass;
      callers = is.callers;
      keeps = λ own held. keeps_on old new own refl c.merge.ensures.pass.1.0 refl c.merge.ensures.seen.0 (c.merge.ensures.shows.own own held) (is.keeps own (sym c.merge.ensures.held ∙ held));
    }

pub returns-clause-front : goal.returns-clause-front
returns-clause-front c =
    let old = c.args.self.now in
    let other = c.args.other in
    let new = seen_by c.merge.new.pass in
    let callers = c.requires.home.1.callers ∙ sym c.requires.home.0.callers in (
      (rises old.callers (seen_by old.pass) new c.merge.ensures.seen.0, le_refl old.stamp.time),
      subst (λ n. AtLeast (front_of old.callers new) (front_of n (seen_by other.pass))) (sym callers) (rises old.callers (seen_by other.pass) new c.merge.ensures.seen.1),
    )

pub returns-clause-own : goal.returns-clause-own
returns-clause-own c =
    let old = c.args.self.now in
    let pass = c.merge.new.pass in
    let new : Mark = record { pass = pass; callers = old.callers; spare = old.spare; stamp = old.stamp; done = old.done } in
    let number = c.merge.ensures.pass.1.0 in
    let held = c.merge.ensures.held in
    same_own new old held number refl refl
    (λ own is. kept_items old.callers (number_of old.pass) (seen_by old.pass) (seen_by pass) c.merge.ensures.seen.0
    (ap (λ c. by c (seen_by pass)) (sym number) ∙ (sym (c.merge.ensures.shows.own own (held ∙ is)) ∙ (c.requires.home.0.keeps own is).own_is)))
    (λ own is. ap (λ d. times_by d (seen_by pass)) number ∙ kept_times (number_of old.pass) (seen_by old.pass) (seen_by pass) c.merge.ensures.seen.0
    (ap (λ c. by c (seen_by pass)) (sym number) ∙ (sym (c.merge.ensures.shows.own own (held ∙ is)) ∙ (c.requires.home.0.keeps own is).own_is)))
