use Rattle.std.proofs.Common.{rules, ◌<◌, ◌+◌, get_or, slice_get, set, length, length-set, sym, ap, ◌∙◌, subst, arith, le_refl}
use Rattle.std.proofs.lemmas.Option.{slice_get-get_or, slice_get_within}
use mathlib.Core.Logic.{dite}
use native.Mathlib.Decide.{ℕ_discrete}
use Rattle.ruled_object.specs.Gathered.{Dealing, IsDealt}
use Rattle.ruled_object.proofs.Gathering.{dealing_on, is_dealt, same_on, turns_on, get_set_same, get_set_other}
use Rattle.ruled_object.proofs.object.Object.deal_out.Goals as goal

pub deal_to-requires-clause-all : goal.deal_to-requires-clause-all
deal_to-requires-clause-all g c = (c.loop-pass.invariant.table, c.loop-pass.invariant.empty)

pub deal_to-requires-clause-idle : goal.deal_to-requires-clause-idle
deal_to-requires-clause-idle g c = c.loop-pass.invariant.dealing.stage

pub deal_to-requires-clause-some : goal.deal_to-requires-clause-some
deal_to-requires-clause-some g c =
    let count = c.loop-pass.invariant.dealing.count in
    let sized = c.requires.count.0 in
    let inside = c.loop-pass-test.true in
    omega arith

pub loop-pass-preserved : goal.loop-pass-preserved
loop-pass-preserved g c =
    let i = c.loop-pass.pass-index in
    let passes = c.loop-pass.passes in
    let old = c.args.all.now.me.0 in
    let same = c.loop-pass.invariant.same.count in
    let count = c.loop-pass.invariant.dealing.count in
    let sized = c.requires.count.0 in
    let inside = c.loop-pass-test.true in
    let below : i < length passes = omega arith in
    let here = slice_get-get_or passes i c.pass-item.result below in
    let at_i = sym (c.loop-pass.invariant.rest i (le_refl i)) ∙ here in
    let v = c.loop-pass.all.me.0 in
    let some_own : 0 < length v.owns = omega arith in
    let number = c.requires.order i _ at_i in
    let before = get_or passes i c.pass-item.result in
    let after = c.deal_to.new.pass in
    let same_pass = c.deal_to.ensures.pass in
    let mine = is_dealt c.args.self.now i old.seen old.owns v after c.loop-pass.invariant.dealing some_own (subst (λ k. i < k) c.requires.count.1 inside) c.deal_to.ensures.dealt.0 c.deal_to.ensures.dealt.1 (same_pass.0 ∙ number) (λ own is. same_pass.2 ∙ c.requires.counted i before own at_i is) in
    record {
      table = search rules;
      empty = search rules;
      dealing = subst (λ me. Dealing (i + 1) old.seen old.owns me.0) (sym c.deal_to.ensures.all.1) (dealing_on i old.seen old.owns v some_own c.loop-pass.invariant.dealing);
      turns = turns_on c.args.passes.now passes i before after at_i same_pass.2 c.loop-pass.invariant.turns;
      same = same_on c.args.passes.now passes i before after at_i (same_pass.0, same_pass.1) (length-set passes i after) c.loop-pass.invariant.same;
      dealt = λ k pass at_most at_k. dite (ℕ_discrete k i)
          (λ is. let it = get_set_same passes i after pass (ap (slice_get (set passes i after)) (sym is) ∙ at_k) in
          subst (λ j. IsDealt c.args.self.now j old.seen old.owns pass) (sym is) (subst (IsDealt c.args.self.now i old.seen old.owns) it mine))
          (λ other. c.loop-pass.invariant.dealt k pass (omega arith) (sym (get_set_other passes i k after other) ∙ at_k));
      rest = λ k past. get_set_other passes i k after (λ e. omega arith) ∙ c.loop-pass.invariant.rest k (omega arith);
    }

pub returns-clause-dealt : goal.returns-clause-dealt
returns-clause-dealt g c i pass at_i =
    let below = slice_get_within c.loop-pass.passes i pass at_i in
    let same = c.loop-pass.invariant.same.count in
    let ended = c.loop-pass-test.false in
    c.loop-pass.invariant.dealt i pass (omega arith) at_i
