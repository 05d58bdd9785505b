use Rattle.std.proofs.Common.{◌≡◌, IsSome, length, refl, sym, ap, ◌∙◌, subst}
use Rattle.std.specs.Slots.{slots_items}
use mathlib.Core.Option.{some-injective}
use Rattle.ruled_object.specs.Gathered.{Gathered}
use Rattle.ruled_object.proofs.Gathering.{whole}
use Rattle.ruled_object.proofs.Steps.{ends, first_is}
use Rattle.ruled_object.proofs.object.Object.finish.Goals as goal

pub unwrap-state-requires : goal.unwrap-state-requires
unwrap-state-requires g c =
    let m = g.M.Machine in
    let n = g.N.Note in
    let begin = c.args.self.table.shared.key in
    let seat = c.gather-all.result in
    let d = c.gather-all.ensures.gathered in
    let ended = ends m.next m.HALTS m.frees m.takes n.front n.at g.M.Worded.tells g.M.Worded.means begin seat.id seat.me.0 _ _ d.stage d.number (d.count ∙ (ap length c.deref_mut.ensures.value ∙ c.requires.count)) c.close_with-closed.ensures.values.2 in
    let is = some-injective _ _ (sym c.take.ensures.value ∙ ended.2) in
    subst IsSome (sym is) refl

pub returns : goal.returns
returns g c =
    let m = g.M.Machine in
    let n = g.N.Note in
    let begin = c.args.self.table.shared.key in
    let seat = c.gather-all.result in
    let d = c.gather-all.ensures.gathered in
    let ended = ends m.next m.HALTS m.frees m.takes n.front n.at g.M.Worded.tells g.M.Worded.means begin seat.id seat.me.0 _ _ d.stage d.number (d.count ∙ (ap length c.deref_mut.ensures.value ∙ c.requires.count)) c.close_with-closed.ensures.values.2 in
    let is = some-injective _ _ (sym c.take.ensures.value ∙ ended.2) in
    let same : c.unwrap-state.result ≡ ended.1 = (let e = sym c.unwrap-state.ensures ∙ is in (cc)) in
    let gathered = subst (λ passes. Gathered (length passes) passes seat.me.0) c.deref_mut.ensures.value d in
    let word = c.word-word.result in
    let told = first_is (slots_items c.close_with-closed.result.words) word c.word-word.ensures in (
      ended.0,
      whole m.next m.HALTS m.frees m.takes n.front n.at g.M.Worded.tells g.M.Worded.means begin c.args.passes.items seat.me.0 ended.0 _ ended.1 c.requires.count gathered ended.3,
      c.refresh.ensures ∙ ((λ i. g.M.Worded.means (same i).state (sym told i)) ∙ ended.3.lies.state),
    )
