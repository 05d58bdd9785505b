use Rattle.std.proofs.Common.{◌≡◌, [], length, slice_get, ◌∙◌, refl, sym, ap}
use Rattle.std.proofs.lemmas.Bool.{false≢true}
use Rattle.std.proofs.lemmas.Option.{slice_get_read, get_or_from_slice_get}
use Rattle.shared_checks.specs.Calls.{calls_in}
use Rattle.shared_checks.proofs.fronts.are_known.Goals as goal

pub returns-then-not-are_known_of : goal.returns-then-not-are_known_of
returns-then-not-are_known_of c =
    let index = c.loop-items.items-index in
    let at = slice_get_read c.args.lists.now (length c.args.lists.now) index c.items-item.result refl c.loop-items-test.true c.items-item.is in
    let same : calls_in c.args.lists.now index ≡ c.as_slice.result.now = get_or_from_slice_get c.args.lists.now index c.items-item.result [] at ∙ sym c.as_slice.ensures in
    (λ no_. absurd (false≢true no_), λ all. absurd (false≢true (sym c.if-not-are_known_of.true ∙ c.are_known_of.ensures.1 (λ j x there. all index j x (ap (λ xs. slice_get xs j) same ∙ there)))))
