use Rattle.std.proofs.Common.{rules, ◌+◌, ◌<◌, length, arith, ap, sym, ◌∙◌, subst}
use mathlib.Core.Option.{some-injective}
use Rattle.ruled_object.specs.Gathered.{Dealing}
use Rattle.ruled_object.specs.Passes.{own_in}
use Rattle.ruled_object.proofs.Assembling.{handed_back}
use Rattle.ruled_object.proofs.Gathering.{dealing_on}
use Rattle.ruled_object.proofs.object.Object.hand_back.Goals as goal

pub returns-clause-all : goal.returns-clause-all
returns-clause-all g c journal passes back =
    let n = c.args.pass.now.number in
    let v = c.args.all.now.seat.me.0 in
    let count = back.dealing.count in
    let sized = back.sized in
    let callers = back.passes_are.count in
    let below = c.requires.pass in
    let some_own : 0 < length v.owns = omega arith in record {
      table = search rules;
      empty = search rules;
      passes_are = back.passes_are;
      owns = back.owns;
      sized = back.sized;
      own = back.own;
      turns = back.turns;
      dealing = subst (λ me. Dealing (n + 1) journal back.owns me.0) (sym c.deal_to.ensures.all.1) (dealing_on n journal back.owns v some_own back.dealing);
    }

pub returns-clause-pass : goal.returns-clause-pass
returns-clause-pass g c =
    let back = c.requires.all in
    ((handed_back c.args.self.now c.args.pass.now.number back.0 back.1 c.args.all.now c.deal_to.new.pass back.2 c.requires.pass c.deal_to.ensures.dealt.0 c.deal_to.ensures.dealt.1 c.deal_to.ensures.pass.0 c.deal_to.ensures.pass.2).is, search rules)

pub returns-clause-turns : goal.returns-clause-turns
returns-clause-turns g c journal passes before back at_n = c.deal_to.ensures.pass.2 ∙ back.turns c.args.pass.now.number before at_n

pub returns-clause-own : goal.returns-clause-own
returns-clause-own g c journal passes before back at_n =
    let n = c.args.pass.now.number in
    let after = c.deal_to.new.pass in
    let dealt = handed_back c.args.self.now n journal passes c.args.all.now after back c.requires.pass c.deal_to.ensures.dealt.0 c.deal_to.ensures.dealt.1 c.deal_to.ensures.pass.0 c.deal_to.ensures.pass.2 in
    ap (λ own. own.entries) (some-injective (own_in after) (own_in before) (sym dealt.own ∙ back.own n before at_n))
