use Rattle.std.proofs.Common.{◌≡◌, ◌⊎◌, inl, inr, ◌∙◌, ℕ, ◌<◌, [], length, get_or, refl, sym, subst, arith}
use Rattle.std.proofs.Math.Nat.{eq-or-lt_of_le}
use Rattle.std.proofs.lemmas.Bool.{false≢true}
use Rattle.std.proofs.lemmas.Option.{slice_get_read, get_or_from_slice_get}
use Rattle.object_checks.specs.JournalItems.{HaveFronts}
use Rattle.object_checks.proofs.EdgeLemmas.{no_rows}
use Rattle.object_checks.proofs.journals.edge.fronts_fit.Goals as goal
use Rattle.object_checks.proofs.journals.edge.fronts_fit.Goals.{After-as_slice}

same : (c : After-as_slice) → c.as_slice.result.now ≡ get_or c.args.journals.now c.loop-journal.journal-index []
same c = c.as_slice.ensures ∙ sym (get_or_from_slice_get c.args.journals.now c.loop-journal.journal-index c.journal-item.result []
    (slice_get_read c.args.journals.now (length c.args.journals.now) c.loop-journal.journal-index c.journal-item.result refl c.loop-journal-test.true c.journal-item.is))

pub loop-journal-preserved : goal.loop-journal-preserved
loop-journal-preserved c object below = by (eq-or-lt_of_le {n = object} {m = c.loop-journal.journal-index} (omega (arith, below))) where
  by : (object ≡ c.loop-journal.journal-index) ⊎ (object < c.loop-journal.journal-index) → HaveFronts (get_or c.args.journals.now object [])
  by (inr less) = c.loop-journal.invariant object less
  by (inl is) = subst (λ (o : ℕ). HaveFronts (get_or c.args.journals.now o [])) (sym is) (subst HaveFronts (same (goal.at.loop-journal-preserved c).After-as_slice) (c.each_front_fits.ensures.0 c.if-not-each_front_fits.false))

pub returns-then-not-each_front_fits : goal.returns-then-not-each_front_fits
returns-then-not-each_front_fits c = (
  λ yes_. absurd (false≢true yes_),
  λ all. absurd (false≢true (sym c.if-not-each_front_fits.true ∙ c.each_front_fits.ensures.1 (subst HaveFronts (sym (same (goal.at.returns-then-not-each_front_fits c).After-as_slice)) (all c.loop-journal.journal-index)))),
)

pub returns : goal.returns
returns c = (λ yes_ object. no_rows c.args.journals.now c.loop-journal.journal-index object (omega (arith, c.loop-journal-test.false)) c.loop-journal.invariant, λ all. refl)
