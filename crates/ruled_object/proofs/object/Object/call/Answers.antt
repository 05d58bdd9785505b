use Rattle.std.proofs.Common.{ap, subst, ◌∙◌}
use Rattle.sync_model.specs.Journal.{is_such}
use Rattle.ruled_object.specs.Cells.{deed_of}
use Rattle.ruled_object.specs.Growth.{Makes}
use Rattle.ruled_object.proofs.Growth.{at_hand}
use Rattle.ruled_object.proofs.object.Object.call.Goals as goal

pub returns-clause-entry : goal.returns-clause-entry
returns-clause-entry g c =
    let m = g.M.Machine in
    let front = g.N.Note.front in
    let event = c.call_with-did.result.0 in
    let answer = c.call_with-did.result.1 in
    let is = at_hand m.next m.HALTS c.args.self.now.table.shared.key.state c.args.event c.args.pass.now c.call_with-did.new.pass (front c.args.note.now) (front c.call_with-did.new.note) event answer c.call_with-did.ensures.makes in
    let added = c.call_with-did.ensures.entry in
    (added.0, added.1, added.2 ∙ ap (λ e. deed_of e answer) is, added.3)

pub returns-clause-makes : goal.returns-clause-makes
returns-clause-makes g c =
    let m = g.M.Machine in
    let front = g.N.Note.front in
    let start = c.args.self.now.table.shared.key.state in
    let event = c.call_with-did.result.0 in
    let answer = c.call_with-did.result.1 in
    let old = c.args.pass.now in
    let new = c.call_with-did.new.pass in
    let from = front c.args.note.now in
    let to = front c.call_with-did.new.note in
    let made = c.call_with-did.ensures.makes in
    subst (λ e. Makes m.next m.HALTS start old from e answer new to) (at_hand m.next m.HALTS start c.args.event old new from to event answer made) made.makes

pub returns-clause-no_edge : goal.returns-clause-no_edge
returns-clause-no_edge g c none =
    let m = g.M.Machine in
    let front = g.N.Note.front in
    let event = c.call_with-did.result.0 in
    let answer = c.call_with-did.result.1 in
    let is = at_hand m.next m.HALTS c.args.self.now.table.shared.key.state c.args.event c.args.pass.now c.call_with-did.new.pass (front c.args.note.now) (front c.call_with-did.new.note) event answer c.call_with-did.ensures.makes in
    c.call_with-did.ensures.no_edge (ap (λ e. is_such m.takes (deed_of e answer)) is ∙ none)
