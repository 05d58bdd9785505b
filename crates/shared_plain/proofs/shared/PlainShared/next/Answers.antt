use Rattle.std.proofs.Common.{◌≡◌, ◌<◌, sym, ap, ◌∙◌, subst}
use Rattle.sync_model.specs.declared.item.SharedCall.TheVariants as calls
use Rattle.sync_model.specs.declared.item.SharedReply.TheVariants as replies
use Rattle.sync_model.specs.Shared.{Called, items_of, state_of}
use Rattle.sync_model.specs.SharedHistory.{first_contents}
use Rattle.ruled_object.specs.Passes.{start_of}
use Rattle.shared_plain.specs.declared.mark.Mark.{Mark}
use Rattle.shared_plain.specs.Fits.{fits}
use Rattle.shared_plain.specs.Marks.{front_by, holding, own_by, seen_of}
use Rattle.shared_plain.specs.PlainMachine.{call_of, contents_of}
use Rattle.shared_plain.specs.Plains.{kinds_of, maps_of}
use Rattle.shared_plain.specs.Walks.{StandsAt}
use Rattle.shared_plain.proofs.Begun.{step_stands, stepped_stands}
use Rattle.shared_plain.proofs.Calling.{held_there}
use Rattle.shared_plain.proofs.Fitting.{next_fits}
use Rattle.shared_plain.proofs.shared.PlainShared.next.Goals as goal

pub event-answered-requires-clause-fits : goal.event-answered-requires-clause-fits
event-answered-requires-clause-fits g c =
    let start = start_of c.args.self.now.object in
    let old : Mark = c.args.caller.now.note in
    let cursor = c.args.cursor.now in
    let held = held_there old c.requires.caller.1 in
    let stands = c.requires.cursor.2 _ (ap (holding old) held.1) in
    ap (fits start) c.step.ensures ∙ next_fits start cursor.map cursor.begin cursor.from (subst (λ k. k < maps_of c.args.self.now) (sym stands.is_map) stands.there)

pub event-answered-requires-clause-steps : goal.event-answered-requires-clause-steps
event-answered-requires-clause-steps g c m b from is =
    let old : Mark = c.args.caller.now.note in
    let held = held_there old c.requires.caller.1 in
    let had = ap (holding old) held.1 in
    let stands = c.requires.cursor.2 _ had in
    subst (λ l. StandsAt l m b from) (sym (ap (λ o. items_of o) had)) (step_stands c.args.self.now c.args.cursor.now c.requires.cursor.0 c.requires.cursor.1 _ _ c.step.ensures stands m b from is)

pub behind-cursor-requires : goal.behind-cursor-requires
behind-cursor-requires g c key value is = c.event-answered.ensures.shown key value (c.in_shown-shown.ensures ∙ ap (λ s. replies.Shown s) is)

pub returns-clause-called : goal.returns-clause-called
returns-clause-called g c map begin stand =
    let plain = c.args.self.now in
    let old : Mark = c.args.caller.now.note in
    let new : Mark = c.event-answered.new.mark in
    let held = held_there old c.requires.caller.1 in
    let stands = stand _ (ap (holding old) held.1) in
    let start : contents_of (start_of plain.object) ≡ first_contents (maps_of plain) (kinds_of plain) = ap contents_of plain.begun ∙ c.starts_empty.ensures (maps_of plain) plain.keys (kinds_of plain) in
    let call : call_of c.step.result ≡ calls.Next begin = ap call_of c.step.ensures ∙ ap (λ k. calls.Next k) stands.is_begin in
    let from = state_of own_by front_by seen_of old in
    let to = state_of own_by front_by seen_of new in
    subst (λ s. Called s (calls.Next begin) (replies.Shown c.in_shown-shown.result) 0 from to) start
    (subst (λ k. Called (contents_of (start_of plain.object)) k (replies.Shown c.in_shown-shown.result) 0 from to) call
    (subst (λ r. Called (contents_of (start_of plain.object)) (call_of c.step.result) r 0 from to) c.in_shown-shown.ensures c.event-answered.ensures.called))

pub returns-clause-stands : goal.returns-clause-stands
returns-clause-stands g c map begin stand becomes has =
    let plain = c.args.self.now in
    let old : Mark = c.args.caller.now.note in
    let held = held_there old c.requires.caller.1 in
    let had = ap (holding old) held.1 in
    stepped_stands plain c.args.cursor.now map begin c.behind-cursor.result c.in_shown-shown.result _ _ _ _ becomes had has (returns-clause-called g c map begin stand) c.behind-cursor.ensures (stand _ had)
