use Rattle.std.proofs.Common.{◌-◌, length, ◌∙◌, refl, sym, arith}
use Rattle.std.proofs.lemmas.Bool.{false≢true}
use Rattle.std.proofs.lemmas.Option.{slice_get_read}
use Rattle.shared_checks.proofs.fronts.is_next.Goals as goal

pub returns-else-lies_below : goal.returns-else-lies_below
returns-else-lies_below c = (
  λ yes_. absurd (false≢true (sym c.if-lies_below.false ∙ yes_)),
  λ next. c.lies_below.ensures.1 (next.behind c.index-items-index-2.result c.index-items-index.result (omega (arith, c.if-index-eq0.false))
      (slice_get_read c.args.items.now (length c.args.items.now) (c.args.index - 1) c.index-items-index-2.result refl (omega (arith, c.requires, c.if-index-eq0.false)) c.index-items-index-2.is)
      (slice_get_read c.args.items.now (length c.args.items.now) c.args.index c.index-items-index.result refl c.requires c.index-items-index.is)),
)
