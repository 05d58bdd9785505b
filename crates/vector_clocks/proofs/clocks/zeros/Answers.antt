use Rattle.std.proofs.Common.{[], ◌∷◌, sym, ap, subst, length, arith}
use Rattle.std.proofs.lemmas.List.{length-append}
use Rattle.vector_clocks.specs.Knowing.{AreZero}
use Rattle.vector_clocks.proofs.Rows.{none_zero, more_zero}
use Rattle.vector_clocks.proofs.clocks.zeros.Goals as goal

pub loop-init : goal.loop-init
loop-init c = record { many = ap length c.new-clocks.ensures.items; none = subst AreZero (sym c.new-clocks.ensures.items) none_zero }

pub loop-preserved : goal.loop-preserved
loop-preserved c = record {
  many = let e = ap length c.in_ok-push.ensures.items in let f = length-append c.loop.clocks.items (c.zero.result ∷ []) in let g = c.loop.invariant.many in omega (arith, e, f, g);
  none = subst AreZero (sym c.in_ok-push.ensures.items) (more_zero c.loop.clocks.items c.zero.result c.zero.ensures c.loop.invariant.none);
}
