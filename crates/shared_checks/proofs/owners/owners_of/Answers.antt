use Rattle.std.proofs.lemmas.Option.{slice_get-get_or}
use Rattle.shared_checks.proofs.OwnerLemmas.{gone_on, owners_all, no_history, rise_at}
use Rattle.shared_checks.proofs.owners.owners_of.Goals as goal

pub returns-then-not-branch : goal.returns-then-not-branch
returns-then-not-branch c = λ history entries.
    let no_ = c.in_ok-go_on.ensures.no c.if-not-branch.true in
    no_history c.args.lists.now c.args.placed.now c.requires.all (rise_at c.args.placed.now c.requires.rise) c.loop-one.one-index _ (slice_get-get_or c.args.placed.now c.loop-one.one-index _ c.loop-one-test.true)
    c.loop-one.owners.items c.loop-one.invariant no_.marked no_.not_next no_.not_there history entries

pub loop-one-preserved : goal.loop-one-preserved
loop-one-preserved c = gone_on c.args.lists.now c.args.placed.now c.loop-one.one-index _ (slice_get-get_or c.args.placed.now c.loop-one.one-index _ c.loop-one-test.true)
    c.loop-one.owners.items c.loop-one.invariant _ (c.in_ok-go_on.ensures.yes c.if-not-branch.false)

pub returns : goal.returns
returns c = owners_all c.args.lists.now c.args.placed.now c.requires.all c.loop-one.one-index c.loop-one.owners.items c.loop-one-test.false c.loop-one.invariant
