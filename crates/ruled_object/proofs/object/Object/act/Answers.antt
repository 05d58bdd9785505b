use Rattle.std.proofs.Common.{◌≡◌, false, None, ap, sym, ◌∙◌, subst}
use Rattle.std.proofs.lemmas.Bool.{false≢true}
use Rattle.ruled_object.proofs.Calls.{one_cell}
use Rattle.ruled_object.proofs.object.Object.act.Goals as goal

pub act_deep-reply-requires-clause-held : goal.act_deep-reply-requires-clause-held
act_deep-reply-requires-clause-held g c =
    let me = c.args.pass.now.seat.me in
    let held = c.requires.held in
    let left = c.in_default.ensures.left.1 in
    let lay = ap (λ m. m.1) c.take_turn.ensures.took ∙ (ap (λ m. m.1) left.2.0 ∙ held.1) in
    (held.0, lay, (held.2.0, subst (λ cell. cell.halted ≡ None) (one_cell me left.0 held.0 left.1 held.1) left.2.1))

pub returns-clause-acts : goal.returns-clause-acts
returns-clause-acts g c =
    let me = c.args.pass.now.seat.me in
    let left = c.in_default.ensures.left.1 in
    let acts = c.act_deep-reply.ensures.acts in
    let lay = sym (ap (λ m. m.1) left.2.0) ∙ (sym (ap (λ m. m.1) c.take_turn.ensures.took) ∙ acts.1) in
    let no = subst (λ cell. g.M.Worded.alone (g.M.Worded.means cell.state c.args.word) c.args.pass.now.number c.args.event ≡ false) (one_cell me left.0 acts.0 left.1 lay) left.2.2 in
    (acts.0, lay, (acts.2.0, ap (λ m. m.1) c.give_turn.ensures.gave ∙ acts.2.1, (acts.2.2.0, acts.2.2.1, (λ is. absurd (false≢true (sym no ∙ is))))))
