use Rattle.std.proofs.Common.{◌≡◌, ◌⊎◌, inl, inr, ◌∙◌, ◌<◌, ◌≤◌, length, slice_get, refl, sym, ap, subst, arith}
use Rattle.std.proofs.Math.Nat.{eq-or-lt_of_le}
use Rattle.std.proofs.lemmas.Bool.{false≢true}
use Rattle.std.proofs.lemmas.Option.{same_Some, slice_get_read}
use Rattle.run_record.specs.Lines.{IsHalt}
use Rattle.run_check.proofs.HaltWalks.{all_halts, halt_at}
use Rattle.run_check.proofs.stops.are_halts_by.Goals as goal

pub returns-then-not-is_halt_by : goal.returns-then-not-is_halt_by
returns-then-not-is_halt_by c =
    let at = slice_get_read c.args.list.now (length c.args.list.now) c.loop-index.index c.index-list-index.result refl c.loop-index-test.true c.index-list-index.is in
    let behind : c.args.from ≤ c.loop-index.index = omega arith in (
      λ no_. absurd (false≢true no_),
      λ all. absurd (false≢true (sym c.if-not-is_halt_by.true ∙ c.is_halt_by.ensures.1 (halt_at c.args.list.now c.args.misuse c.args.from c.loop-index.index c.index-list-index.result all behind at))),
    )

pub loop-index-preserved : goal.loop-index-preserved
loop-index-preserved c k x behind below at = by (eq-or-lt_of_le {n = k} {m = c.loop-index.index} (omega (arith, below))) where
  by : (k ≡ c.loop-index.index) ⊎ (k < c.loop-index.index) → IsHalt c.args.misuse x
  by (inr less) = c.loop-index.invariant k x behind less at
  by (inl same) =
      let there = slice_get_read c.args.list.now (length c.args.list.now) c.loop-index.index c.index-list-index.result refl c.loop-index-test.true c.index-list-index.is in
      subst (IsHalt c.args.misuse) (same_Some c.index-list-index.result x (sym there ∙ ap (slice_get c.args.list.now) (sym same) ∙ at)) (c.is_halt_by.ensures.0 c.if-not-is_halt_by.false)

pub returns : goal.returns
returns c = (λ yes_. all_halts c.args.list.now c.args.misuse c.args.from c.loop-index.index (omega (arith, c.loop-index-test.false)) c.loop-index.invariant, λ all. refl)
