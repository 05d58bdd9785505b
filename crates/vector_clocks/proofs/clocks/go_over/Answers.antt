use Rattle.std.proofs.Common.{◌+◌, [], ◌∷◌, sym, ap, subst, length, arith}
use Rattle.std.proofs.lemmas.List.{length-append}
use Rattle.vector_clocks.specs.Knowing.{ClocksUpTo}
use Rattle.vector_clocks.proofs.Rows.{first_at, more_clocks, no_clocks, are_clocks}
use Rattle.vector_clocks.proofs.clocks.go_over.Goals as goal

pub loop-n-init : goal.loop-n-init
loop-n-init c = record {
  are = first_at c.args.trace.now c.args.workers.now c.args.channels.now c.requires.workers c.requires.channels;
  many = ap length c.new-clocks.ensures.items;
  upto = subst (ClocksUpTo c.args.trace.now 0) (sym c.new-clocks.ensures.items) (no_clocks c.args.trace.now);
}

pub loop-n-preserved : goal.loop-n-preserved
loop-n-preserved c = record {
  are = c.advance.ensures.are;
  many = let e = ap length c.in_ok-push.ensures.items in let f = length-append c.loop-n.clocks.items (c.advance.result ∷ []) in let g = c.loop-n.invariant.many in omega (arith, e, f, g);
  upto = subst (ClocksUpTo c.args.trace.now (c.loop-n.n + 1)) (sym c.in_ok-push.ensures.items)
      (more_clocks c.args.trace.now c.loop-n.n c.loop-n.clocks.items c.advance.result c.loop-n.invariant.many c.advance.ensures.behind c.loop-n.invariant.upto);
}

pub returns : goal.returns
returns c = are_clocks c.args.trace.now c.loop-n.n c.loop-n.clocks.items (let e = c.loop-n.invariant.many in let f = c.loop-n-test.false in let g = c.loop-n.auto.n-end in omega (arith, e, f, g)) c.loop-n.invariant.upto
