use Rattle.std.proofs.Common.{◌≡◌, ◌≢◌, ℕ, ◌<◌, ◌+◌, ◌-◌, ◌^◌, false, ◌++◌, [], ◌∷◌, None, arith, sym, ap, ◌∙◌, subst}
use Rattle.std.proofs.Common.{Option}
use Rattle.std.proofs.lemmas.Option.{same_Some}
use Rattle.shared_plain.specs.declared.event.Event.TheVariants.{Next}
use Rattle.shared_plain.specs.declared.event.Answered.{Answered}
use Rattle.sync_model.specs.declared.journal.Deed.TheVariants.{Event as Did}
use Rattle.sync_model.specs.Journal.{by, halt_of, state_after, Right, Follows}
use Rattle.sync_model.specs.Front.{Front}
use Rattle.sync_model.specs.Shared.{Called, items_of, state_of}
use Rattle.ruled_object.specs.Passes.{number_of, seen_by, start_of}
use Rattle.shared_plain.specs.declared.mark.Mark.{Mark}
use Rattle.shared_plain.specs.Marks.{front_by, holding, own_by, seen_of}
use Rattle.shared_plain.specs.PlainHistory.{call_in, calls_counted, items_by}
use Rattle.shared_plain.specs.PlainMachine.{call_of, contents_of, next}
use Rattle.shared_plain.specs.Walks.{StandsAt, AreInOrder}
use Rattle.shared_plain.proofs.Calling.{state_at, called, adds_same, held_there, unanswered}
use Rattle.shared_plain.proofs.Fitting.{fits_for_ever, shown_fits}
use Rattle.shared_plain.proofs.Orders.{note_of, more_count, more_order, same_event}
use Rattle.shared_plain.proofs.plain.Plain.event.Goals as goal

pub unreachable-requires : goal.unreachable-requires
unreachable-requires g c =
    let start = start_of c.args.self.now.object in
    let pass = c.args.mark.now.pass in
    let entry = c.in-Done-None.ensures.entry in
    let front = seen_by pass ++ entry.1.between in
    let deed = entry.2 ∙ ap (λ f. Did c.args.event f) c.in-Done-None.field-0-is in
    let right = subst (Right next false (state_after next start front) (halt_of front) (number_of pass)) deed entry.1.right in
    let fit = fits_for_ever start front (number_of pass) c.args.event c.requires.fits in
    unanswered (next (state_after next start front) (number_of pass) c.args.event).1 fit.0 right.1 fit.1

pub returns-clause-home : goal.returns-clause-home
returns-clause-home g c home is =
    let object = c.args.self.now.object in
    let old : Mark = c.args.mark.now in
    let new : Mark = record { pass = c.call.new.pass; callers = old.callers; spare = old.spare - c.args.cost; stamp = c.time-mark.result; done = c.one_more-mark.result } in
    let at_self = c.requires.mark.0 in
    let had = held_there old c.requires.mark.1 in
    let kept = at_self.keeps had.0 had.1 in
    let was_pass = c.passes_and_copies.ensures.is_pass object old.pass had.0 at_self.pass had.1 in
    let is_pass = c.passes_and_copies.ensures.holds object new.pass c.call.ensures.pass.0 in
    let entry = c.in-Done-Some.ensures.entry in
    let adds = entry.1 in
    let answered = c.in-Done-Some.answered in
    let deed = entry.2 ∙ ap (λ f. Did c.args.event f) (c.in-Done-Some.field-0-is) in
    let n = old.callers in
    let who = number_of old.pass in
    let number = c.call.ensures.pass.1.0 in
    let seen = seen_by old.pass in
    let same = adds_same who seen adds.between entry.0 _ _ adds.mine (adds.all ∙ ap (λ l. by who l) adds.history) adds.caller (was_pass.1 ∙ kept.own_is) in
    let asked : items_of (own_by old) ≡ items_by n who seen = ap (λ o. items_of (holding old o)) had.1 in
    let steps : (m b from : ℕ) (reply : Option Answered) → entry.0.deed ≡ Did (Next m b from) reply → StandsAt (items_by n who seen) m b from = λ m b from reply did. subst (λ l. StandsAt l m b from) asked (c.requires.steps m b from (same_event c.args.event _ m b from reply (sym deed ∙ did))) in
    let order = more_order n who seen adds.between entry.0 same adds.caller adds.knew steps kept.order in
    let more = more_count n who seen adds.between entry.0 (call_of c.args.event, answered) same adds.caller (ap call_in deed) in
    let whole : calls_counted (number_of new.pass) (seen_by new.pass) ≡ calls_counted who seen + 1 = ap (λ d. calls_counted d (seen_by new.pass)) number ∙ (ap (calls_counted who) adds.history ∙ more) in
    let done : new.done ≢ 2 ^ 64 - 1 → new.done ≡ calls_counted (number_of new.pass) (seen_by new.pass) = λ below. let one = c.one_more-mark.ensures below in one.1 ∙ (ap (λ (k : ℕ). k + 1) (kept.done one.0) ∙ sym whole) in
    record {
      pass = note_of c.args.self.now home old new at_self.pass is_pass.0 number is.pass;
      callers = is.callers;
      keeps = λ own held. record {
        own_is = same_Some own _ (sym held ∙ is_pass.1) ∙ (adds.all ∙ ap (λ d. by d (seen_by new.pass)) (sym number));
        order = subst (λ d. AreInOrder n d [] (seen_by new.pass)) (sym number) (subst (λ l. AreInOrder n who [] l) (sym adds.history) order);
        done = done;
      };
    }

pub returns-clause-called : goal.returns-clause-called
returns-clause-called g c =
    let object = c.args.self.now.object in
    let start = start_of object in
    let old : Mark = c.args.mark.now in
    let new : Mark = record { pass = c.call.new.pass; callers = old.callers; spare = old.spare - c.args.cost; stamp = c.time-mark.result; done = c.one_more-mark.result } in
    let is = c.requires.mark.0 in
    let had = held_there old c.requires.mark.1 in
    let was_pass = c.passes_and_copies.ensures.is_pass object old.pass had.0 is.pass had.1 in
    let is_pass = c.passes_and_copies.ensures.holds object new.pass c.call.ensures.pass.0 in
    let entry = c.in-Done-Some.ensures.entry in
    let adds = entry.1 in
    let answered = c.in-Done-Some.answered in
    let deed = entry.2 ∙ ap (λ f. Did c.args.event f) (c.in-Done-Some.field-0-is) in
    let n = old.callers in
    let who = number_of old.pass in
    let inside = is.pass.caller in
    let same_callers = is.callers in
    let below : who < n = omega arith in
    let enough = c.requires.spare in
    let left = old.spare - c.args.cost in
    let spent : left + c.args.cost ≡ old.spare = omega arith in
    let whole = (seen_by old.pass ++ adds.between) ++ entry.0 ∷ [] in
    let at : entry.0.time ≡ c.call.new.note.stamp.time = ap (λ (f : Front). f.time) entry.3 in
    let rising = c.call.ensures.makes.grows.fronts in
    let first = rising.0.1 in
    let then = rising.1.1 in
    let later : old.stamp.time < entry.0.time = omega arith in
    let told : c.time-mark.result.time ≡ entry.0.time = c.time-mark.ensures ∙ sym at in
    let made = called c.maps_and_atomics_stay.ensures.no_entry start n who c.args.event answered (seen_by old.pass) adds.between entry.0 old.spare left old.stamp.time c.args.cost below spent later record {
      caller = adds.caller;
      knew = adds.knew;
      deed = deed;
      same = adds_same who (seen_by old.pass) adds.between entry.0 _ _ adds.mine (adds.all ∙ ap (λ l. by who l) adds.history) adds.caller (was_pass.1 ∙ (is.keeps had.0 had.1).own_is);
      follows = subst (λ l. Follows next false start None l) adds.history adds.follows;
    } in
    let number = c.call.ensures.pass.1.0 in
    let from : state_of own_by front_by seen_of old ≡ state_at n who old.spare old.stamp.time (seen_by old.pass) = λ i. record (state_of own_by front_by seen_of old) { own = ap (holding old) had.1 i } in
    let to : state_of own_by front_by seen_of new ≡ state_at n who left entry.0.time whole =
    (λ i. record (state_of own_by front_by seen_of new) { own = ap (holding new) is_pass.1 i }) ∙ (λ i. state_at n (number i) left (told i) (adds.history i)) in
    subst (λ s. Called (contents_of start) (call_of c.args.event) answered.reply c.args.cost s (state_of own_by front_by seen_of new)) (sym from)
    (subst (λ s. Called (contents_of start) (call_of c.args.event) answered.reply c.args.cost (state_at n who old.spare old.stamp.time (seen_by old.pass)) s) (sym to) made)

pub returns-clause-shown : goal.returns-clause-shown
returns-clause-shown g c key value is =
    let plain = c.args.self.now in
    let start = start_of plain.object in
    let pass = c.args.mark.now.pass in
    let entry = c.in-Done-Some.ensures.entry in
    let front = seen_by pass ++ entry.1.between in
    let deed = entry.2 ∙ ap (λ f. Did c.args.event f) c.in-Done-Some.field-0-is in
    let right = subst (Right next false (state_after next start front) (halt_of front) (number_of pass)) deed entry.1.right in
    shown_fits start front (number_of pass) c.args.event c.in-Done-Some.answered key value _ plain.keys _ plain.begun (sym right.1) is
