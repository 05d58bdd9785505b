use Rattle.std.proofs.Common.{Option, IsSome, sym, ◌∙◌, subst}
use Rattle.synced_map.proofs.map.copies.Goals as goal

pub copy-second-requires : goal.copy-second-requires
copy-second-requires c = c.copy-first.ensures.home.0 _ c.requires.0

pub returns-clause-caller : goal.returns-clause-caller
returns-clause-caller c = (
  c.copy-second.ensures.home.0 _ (c.copy-first.ensures.home.0 _ c.requires.0),
  subst (λ (o : Option _). IsSome o) (sym (c.copy-second.ensures.own.0 ∙ c.copy-first.ensures.own.0)) c.requires.1,
)

pub returns-clause-copies : goal.returns-clause-copies
returns-clause-copies c = (c.copy-first.ensures.home.1 _ c.requires.0, c.copy-second.ensures.home.1 _ (c.copy-first.ensures.home.0 _ c.requires.0))
