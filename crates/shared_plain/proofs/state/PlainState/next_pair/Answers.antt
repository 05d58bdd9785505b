use Rattle.std.proofs.Common.{◌<◌, length, Some, sym, ap, ◌∙◌, subst}
use Rattle.std.proofs.lemmas.Option.{slice_get-get_or}
use Rattle.shared_plain.specs.MapWalks.{IsNextPair}
use Rattle.shared_plain.specs.PlainMachine.{Holdings, contents_of}
use Rattle.shared_plain.proofs.Cursors.{pair_is}
use Rattle.shared_plain.proofs.state.PlainState.next_pair.Goals as goal

pub returns : goal.returns
returns c =
    let maps = c.self.inside.maps.items in
    let held : Holdings = record { maps = maps; numbers = c.self.inside.numbers.items } in
    let below = subst (λ (h : Holdings). c.args.map < length h.maps) (sym c.self.view_is) c.requires.map in
    subst (λ (h : Holdings). IsNextPair (contents_of h) c.args.map c.args.from c.next_pair.result) c.self.view_is
    (pair_is held c.args.map c.args.from c.index.result.now c.next_pair.result
    (slice_get-get_or maps c.args.map c.index.result.now below ∙ ap (λ s. Some s) (sym c.index.ensures)) c.next_pair.ensures)
