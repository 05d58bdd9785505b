use Rattle.std.proofs.Common.{◌≡◌, length, refl, sym, ap, ◌∙◌, subst, slice_get, Some}
use Rattle.std.proofs.lemmas.Bool.{false≢true}
use Rattle.std.proofs.lemmas.Option.{slice_get_read}
use Rattle.shared_checks.specs.declared.counts.Counts.{Counts}
use Rattle.shared_checks.proofs.Released.{IsMost, kept_more, most_next, no_law, none_kept, most_zeros, kept_law}
use Rattle.shared_checks.proofs.edges.keeps_edges.Goals as goal

pub loop-note-init : goal.loop-note-init
loop-note-init c = record { most = subst (IsMost c.args.notes.now 0) (sym c.none-released.ensures) (most_zeros c.args.notes.now 64); kept = none_kept c.args.notes.now }

at : (c : goal.After-release) → slice_get c.args.notes.now c.loop-note.note-index ≡ Some c.note-item.result
at c = slice_get_read c.args.notes.now (length c.args.notes.now) c.loop-note.note-index c.note-item.result refl c.loop-note-test.true c.note-item.is

pub loop-note-preserved : goal.loop-note-preserved
loop-note-preserved c = record {
  most = most_next c.args.notes.now c.loop-note.note-index c.note-item.result (at c) c.loop-note.released.of c.loop-note.invariant.most c.release.new.released.of
      c.release.ensures.frees (λ frees. ap (λ (f : Counts). f.of) (c.release.ensures.else_ frees));
  kept = kept_more c.args.notes.now c.loop-note.note-index c.note-item.result (at c) c.loop-note.released.of c.loop-note.invariant.most c.loop-note.invariant.kept
      (c.may_follow.ensures.0 c.if-not-may_follow.false);
}

pub returns-then-not-may_follow : goal.returns-then-not-may_follow
returns-then-not-may_follow c = (
  λ none. absurd (false≢true none),
  λ law. absurd (no_law c.args.notes.now c.loop-note.note-index c.note-item.result
      (slice_get_read c.args.notes.now (length c.args.notes.now) c.loop-note.note-index c.note-item.result refl c.loop-note-test.true c.note-item.is)
      c.loop-note.released.of c.loop-note.invariant.most (λ knows. false≢true (sym c.if-not-may_follow.true ∙ c.may_follow.ensures.1 knows)) law),
)

pub returns : goal.returns
returns c = (λ yes_. kept_law c.args.notes.now c.loop-note.note-index c.loop-note-test.false c.loop-note.invariant.kept, λ law. refl)
