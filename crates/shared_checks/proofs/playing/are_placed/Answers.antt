use Rattle.std.proofs.Common.{refl, sym, ◌∙◌, rules}
use Rattle.std.proofs.lemmas.Bool.{false≢true}
use Rattle.std.proofs.lemmas.Option.{slice_get-get_or}
use Rattle.shared_checks.proofs.OwnerLemmas.{rise_at}
use Rattle.shared_checks.proofs.PlayedLemmas.{all_at_places, is_past, goes_on, between_on, not_played, call_on, placed_stands, one_call_more}
use Rattle.shared_checks.proofs.playing.are_placed.Goals as goal

pub returns-then-one-history : goal.returns-then-one-history
returns-then-one-history c = (
  λ no_. absurd (false≢true no_),
  λ are. absurd (is_past _ _ _ _ c.requires.entries c.requires.all (rise_at _ c.requires.rise) c.requires.on _ _ (slice_get-get_or _ _ _ c.loop-one-test.true) _ c.item_of-item.ensures _ _ c.loop-one.invariant c.if-one-history.true are),
)

pub slice_bounds-play-count : goal.slice_bounds-play-count
slice_bounds-play-count c = goes_on _ _ _ _ c.requires.entries c.requires.all (rise_at _ c.requires.rise) c.requires.on _ _ (slice_get-get_or _ _ _ c.loop-one-test.true) _ c.item_of-item.ensures _ _ c.loop-one.invariant

pub slice_bounds-play-start : goal.slice_bounds-play-start
slice_bounds-play-start c = let order = slice_bounds-play-count c in search rules

pub play-requires : goal.play-requires
play-requires c = between_on _ _ _ _ c.requires.entries c.requires.all (rise_at _ c.requires.rise) c.requires.on _ _ (slice_get-get_or _ _ _ c.loop-one-test.true) _ c.item_of-item.ensures _ _ c.loop-one.invariant

pub returns-then-not-branch : goal.returns-then-not-branch
returns-then-not-branch c = (
  λ no_. absurd (false≢true no_),
  λ are. absurd (not_played _ _ _ _ c.requires.entries c.requires.all (rise_at _ c.requires.rise) c.requires.on _ _ (slice_get-get_or _ _ _ c.loop-one-test.true) _ c.item_of-item.ensures _ _ c.loop-one.invariant (c.in_ok-play.ensures.no c.if-not-branch.true) are),
)

pub stands-requires : goal.stands-requires
stands-requires c = call_on _ _ _ _ c.requires.entries c.requires.all (rise_at _ c.requires.rise) c.requires.on _ _ (slice_get-get_or _ _ _ c.loop-one-test.true) _ c.item_of-item.ensures _ _ c.loop-one.invariant _ (c.in_ok-play.ensures.yes c.if-not-branch.false)

pub returns-then-not-stands : goal.returns-then-not-stands
returns-then-not-stands c = (
  λ no_. absurd (false≢true no_),
  λ are. absurd (false≢true (sym c.if-not-stands.true ∙ c.stands.ensures.1 (placed_stands _ _ _ _ c.requires.entries c.requires.all (rise_at _ c.requires.rise) c.requires.on _ _ (slice_get-get_or _ _ _ c.loop-one-test.true) _ c.item_of-item.ensures _ _ c.loop-one.invariant _ (c.in_ok-play.ensures.yes c.if-not-branch.false) are))),
)

pub loop-one-preserved : goal.loop-one-preserved
loop-one-preserved c = one_call_more _ _ _ _ c.requires.entries c.requires.all (rise_at _ c.requires.rise) c.requires.on _ _ (slice_get-get_or _ _ _ c.loop-one-test.true) _ c.item_of-item.ensures _ _ c.loop-one.invariant _ (c.in_ok-play.ensures.yes c.if-not-branch.false) c.if-one-history.false (c.stands.ensures.0 c.if-not-stands.false)

pub returns : goal.returns
returns c = (
  λ yes_. all_at_places _ _ _ _ c.requires.entries c.requires.all (rise_at _ c.requires.rise) c.requires.on _ _ _ c.loop-one-test.false c.loop-one.invariant,
  λ are. refl,
)
