use Rattle.std.proofs.Common.{◌≡◌, length, refl, slice_get, Some}
use Rattle.std.proofs.lemmas.Bool.{false≢true}
use Rattle.std.proofs.lemmas.Option.{slice_get_read}
use Rattle.object_checks.proofs.Replays.{leads_on, leads_nowhere, leads_all}
use Rattle.object_checks.proofs.journals.replay.follows_machine.Goals as goal

pub loop-row-init : goal.loop-row-init
loop-row-init g c = (λ follows. follows, λ follows. follows)

pub loop-row-preserved : goal.loop-row-preserved
loop-row-preserved g c =
    let at : slice_get c.args.journal.now c.loop-row.row-index ≡ Some c.row-item.result = slice_get_read c.args.journal.now (length c.args.journal.now) c.loop-row.row-index c.row-item.result refl c.loop-row-test.true c.row-item.is in
    let went = c.goes_on.ensures.yes c.if-not-goes_on.false in
    leads_on g.K.JournalKind.event g.K.JournalKind.reply c.laws.ensures.events c.laws.ensures.replies g.K.Machine.next c.args.start c.args.journal.now c.loop-row.row-index c.row-item.result at
    c.loop-row.state c.loop-row.halted c.loop-row.invariant went.0 went.1 went.2 c.goes_on.new.state c.goes_on.new.halted went.3 went.4

pub returns-then-not-goes_on : goal.returns-then-not-goes_on
returns-then-not-goes_on g c =
    let at : slice_get c.args.journal.now c.loop-row.row-index ≡ Some c.row-item.result = slice_get_read c.args.journal.now (length c.args.journal.now) c.loop-row.row-index c.row-item.result refl c.loop-row-test.true c.row-item.is in (
      λ yes_. absurd (false≢true yes_),
      λ follows. absurd (leads_nowhere g.K.JournalKind.event g.K.JournalKind.reply c.laws.ensures.events c.laws.ensures.replies g.K.Machine.next c.args.start c.args.journal.now c.loop-row.row-index c.row-item.result at
          c.loop-row.state c.loop-row.halted c.loop-row.invariant (c.goes_on.ensures.no c.if-not-goes_on.true) follows),
    )

pub returns : goal.returns
returns g c = (
  λ yes_. leads_all g.K.JournalKind.event g.K.JournalKind.reply c.laws.ensures.events c.laws.ensures.replies g.K.Machine.next c.args.start c.args.journal.now c.loop-row.row-index c.loop-row.state c.loop-row.halted c.loop-row-test.false c.loop-row.invariant,
  λ follows. refl,
)
