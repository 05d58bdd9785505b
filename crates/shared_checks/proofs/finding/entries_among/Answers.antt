use Rattle.std.proofs.Common.{◌<◌, ◌≤◌, get_or, ◌∙◌, subst}
use Rattle.std.proofs.lemmas.Option.{slice_get-get_or}
use Rattle.shared_checks.proofs.OwnerLemmas.{rise_at}
use Rattle.shared_checks.proofs.FoundMarks.{all_owned, call_on, contains_there, forward, is_call, looked, next_on, none_collide, none_open}
use Rattle.shared_checks.proofs.finding.entries_among.Goals as goal

pub returns-then-one-len : goal.returns-then-one-len
returns-then-one-len c = none_open _ _ _ c.requires.all (rise_at _ c.requires.rise) _ _ (slice_get-get_or _ _ _ c.loop-one-test.true) _ _ _ _ c.loop-one.invariant (subst (λ n. n < (get_or c.args.placed.now c.loop-one.one-index (record { caller = 0; index = 0; place = 0 })).place) (c.len.ensures ∙ c.loop-one.owners.ok.0) c.if-one-len.true)

pub make_up_to-requires-clause-order : goal.make_up_to-requires-clause-order
make_up_to-requires-clause-order c = forward _ _ _ c.requires.all (rise_at _ c.requires.rise) _ _ (slice_get-get_or _ _ _ c.loop-one-test.true) _ _ _ _ c.loop-one.invariant (subst (λ n. (get_or c.args.placed.now c.loop-one.one-index (record { caller = 0; index = 0; place = 0 })).place ≤ n) (c.len.ensures ∙ c.loop-one.owners.ok.0) c.if-one-len.false)

pub make_up_to-requires-clause-on : goal.make_up_to-requires-clause-on
make_up_to-requires-clause-on c = rw c.deref.ensures.value (next_on _ _ _ c.requires.all (rise_at _ c.requires.rise) _ _ (slice_get-get_or _ _ _ c.loop-one-test.true) _ _ _ _ c.loop-one.invariant (subst (λ n. (get_or c.args.placed.now c.loop-one.one-index (record { caller = 0; index = 0; place = 0 })).place ≤ n) (c.len.ensures ∙ c.loop-one.owners.ok.0) c.if-one-len.false) c.requires.on)

pub look_at-requires-clause-call : goal.look_at-requires-clause-call
look_at-requires-clause-call c = is_call _ _ _ c.requires.all (rise_at _ c.requires.rise) _ _ (slice_get-get_or _ _ _ c.loop-one-test.true) _ _ _ _ c.loop-one.invariant

pub look_at-requires-clause-on : goal.look_at-requires-clause-on
look_at-requires-clause-on c =
    call_on _ _ _ c.requires.all (rise_at _ c.requires.rise) _ _ (slice_get-get_or _ _ _ c.loop-one-test.true) _ _ _ _ c.loop-one.invariant (subst (λ n. (get_or c.args.placed.now c.loop-one.one-index (record { caller = 0; index = 0; place = 0 })).place ≤ n) (c.len.ensures ∙ c.loop-one.owners.ok.0) c.if-one-len.false) _
    (contains_there _ _ _ c.requires.all (rise_at _ c.requires.rise) _ _ (slice_get-get_or _ _ _ c.loop-one-test.true) _ _ _ _ c.loop-one.invariant (subst (λ n. (get_or c.args.placed.now c.loop-one.one-index (record { caller = 0; index = 0; place = 0 })).place ≤ n) (c.len.ensures ∙ c.loop-one.owners.ok.0) c.if-one-len.false) _ c.in_ok-make_up_to.ensures.same (rw c.deref.ensures.value at c.in_ok-make_up_to.ensures.more))
    c.requires.on

pub returns-then-not-branch : goal.returns-then-not-branch
returns-then-not-branch c =
    none_collide _ _ _ c.requires.all (rise_at _ c.requires.rise) _ _ (slice_get-get_or _ _ _ c.loop-one-test.true) _ _ _ _ c.loop-one.invariant (subst (λ n. (get_or c.args.placed.now c.loop-one.one-index (record { caller = 0; index = 0; place = 0 })).place ≤ n) (c.len.ensures ∙ c.loop-one.owners.ok.0) c.if-one-len.false) _
    (contains_there _ _ _ c.requires.all (rise_at _ c.requires.rise) _ _ (slice_get-get_or _ _ _ c.loop-one-test.true) _ _ _ _ c.loop-one.invariant (subst (λ n. (get_or c.args.placed.now c.loop-one.one-index (record { caller = 0; index = 0; place = 0 })).place ≤ n) (c.len.ensures ∙ c.loop-one.owners.ok.0) c.if-one-len.false) _ c.in_ok-make_up_to.ensures.same (rw c.deref.ensures.value at c.in_ok-make_up_to.ensures.more))
    (c.in_ok-look_at.ensures.no c.if-not-branch.true)

pub loop-one-preserved : goal.loop-one-preserved
loop-one-preserved c =
    looked _ _ _ c.requires.all (rise_at _ c.requires.rise) _ _ (slice_get-get_or _ _ _ c.loop-one-test.true) _ _ _ _ c.loop-one.invariant (subst (λ n. (get_or c.args.placed.now c.loop-one.one-index (record { caller = 0; index = 0; place = 0 })).place ≤ n) (c.len.ensures ∙ c.loop-one.owners.ok.0) c.if-one-len.false) _
    (contains_there _ _ _ c.requires.all (rise_at _ c.requires.rise) _ _ (slice_get-get_or _ _ _ c.loop-one-test.true) _ _ _ _ c.loop-one.invariant (subst (λ n. (get_or c.args.placed.now c.loop-one.one-index (record { caller = 0; index = 0; place = 0 })).place ≤ n) (c.len.ensures ∙ c.loop-one.owners.ok.0) c.if-one-len.false) _ c.in_ok-make_up_to.ensures.same (rw c.deref.ensures.value at c.in_ok-make_up_to.ensures.more))
    _ _ c.requires.on (c.in_ok-look_at.ensures.yes c.if-not-branch.false)

pub returns : goal.returns
returns c = all_owned _ _ _ c.requires.all _ _ _ _ _ c.loop-one-test.false c.loop-one.invariant
