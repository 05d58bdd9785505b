use Rattle.std.proofs.Common.{rules, ◌≡◌, ◌<◌, ◌+◌, [], ◌∷◌, All, ⊎_elim, length, length-append, replicate, slice_get, refl, sym, ap, ◌∙◌, subst, arith}
use Rattle.std.proofs.lemmas.List.Elements.{All-push}
use Rattle.ruled_object.specs.Gathered.{Dealing, IsDealt}
use Rattle.ruled_object.specs.Passes.{capped, left_of, own_in, turns_of}
use Rattle.ruled_object.specs.Steps.{new_own}
use Rattle.ruled_object.proofs.Gathering.{dealing_on, is_dealt, is_new, pass_of, some_left}
use Rattle.ruled_object.proofs.Journals.{at_end}
use Rattle.ruled_object.proofs.object.Object.first_passes.Goals as goal

pub loop-number-preserved : goal.loop-number-preserved
loop-number-preserved g c =
    let i = c.loop-number.number in
    let items = c.loop-number.passes.items in
    let all = replicate c.args.callers new_own in
    let v = c.loop-number.all.me.0 in
    let inside = c.loop-number-test.true in
    let some_own = some_left i c.args.callers [] v c.loop-number.invariant.dealing inside in
    let pass = pass_of i c.args.calls 0 c.deal-seat.result in
    let mine = is_dealt c.args.self.now i [] all v pass c.loop-number.invariant.dealing some_own (subst (λ k. i < k) c.requires.callers inside) c.deal-seat.ensures.dealt.0 c.deal-seat.ensures.dealt.1 refl (λ own is. ap (λ o. capped o.turns) (sym (is_new c.args.callers i own is))) in
    record {
      table = search rules;
      empty = search rules;
      dealing = subst (λ me. Dealing (i + 1) [] all me.0) (sym c.deal-seat.ensures.all.1) (dealing_on i [] all v some_own c.loop-number.invariant.dealing);
      made = search rules;
      count = let made = c.loop-number.invariant.count in ap length c.push_reserved.ensures.items ∙ omega (arith, length-append items (pass ∷ []));
      room = search rules;
      turns = subst (All (λ p. turns_of p ≡ 0)) (sym c.push_reserved.ensures.items) (All-push (λ p. turns_of p ≡ 0) items pass c.loop-number.invariant.turns refl);
      dealt = λ k p at_k. ⊎_elim (λ t. c.loop-number.invariant.dealt k p t)
          (λ t. let is : k ≡ i = t.0 ∙ c.loop-number.invariant.count in
          subst (λ j. IsDealt c.args.self.now j [] all p × (left_of p ≡ c.args.calls)) (sym is) (subst (λ q. IsDealt c.args.self.now i [] all q × (left_of q ≡ c.args.calls)) t.1 (mine, refl)))
          (at_end items pass p k (ap (λ l. slice_get l k) (sym c.push_reserved.ensures.items) ∙ at_k));
    }

pub returns-clause-new : goal.returns-clause-new
returns-clause-new g c =
    let ended = c.loop-number-test.false in
    let least = c.loop-number.auto.number-end in
    let made = c.loop-number.invariant.count in
    let dealt = c.loop-number.invariant.dealt in
    record {
      all = record {
        count = (let k : c.loop-number.number ≡ c.args.callers = omega arith in made ∙ k) ∙ c.requires.callers;
        each = λ i pass at_i. let d = (dealt i pass at_i).0 in (d.is, d.number);
      };
      left = λ i pass at_i. (dealt i pass at_i).1;
      seen = λ i pass at_i. (dealt i pass at_i).0.seen;
      own = λ i pass at_i. ap (λ o. o.entries) (is_new c.args.callers i (own_in pass) (dealt i pass at_i).0.own);
    }
