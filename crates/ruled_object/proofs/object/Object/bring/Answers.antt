use Rattle.std.proofs.Common.{rules, ◌≡◌, ◌++◌, [], ◌∷◌, length, length-set, set, ◌∙◌, arith, sym, subst}
use Rattle.ruled_object.specs.Assembled.{HasTurns}
use Rattle.ruled_object.specs.Gathered.{Gathered}
use Rattle.ruled_object.proofs.Assembling.{gathered_more, turns_more}
use Rattle.ruled_object.proofs.object.Object.bring.Goals as goal

pub returns-clause-all : goal.returns-clause-all
returns-clause-all g c passes brought =
    let all = passes ++ c.args.pass.now ∷ [] in record {
      table = search rules;
      empty = search rules;
      room = length-set c.args.all.now.turns c.args.pass.now.number c.args.pass.now.turns ∙ brought.room;
      turns = (let number = c.requires.all.2 in let brought_now = c.requires.all.1.gathered.count in let count = brought.gathered.count in let is : c.args.pass.now.number ≡ length passes = omega arith in
          let below = c.requires.pass.caller in let most = c.args.self.now.callers.2 in let room = brought.room in
          subst (λ n. HasTurns all record { seat = c.take_in.new.all; turns = set c.args.all.now.turns n c.args.pass.now.turns }) (sym is) (turns_more passes c.args.pass.now c.args.all.now.turns (omega arith) brought.turns));
      gathered = subst (λ me. Gathered (length all) all me.0) (sym c.take_in.ensures.all.1) (gathered_more passes c.args.pass.now c.args.all.now.seat.me.0 c.requires.pass.one brought.gathered);
    }
