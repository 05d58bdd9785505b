use Rattle.std.proofs.Common.{◌∙◌, ◌-◌, ◌+◌, [], ◌∷◌, refl, sym, ap, subst, arith, ◌≡◌}
use Rattle.shared_table.specs.Pruning.{HoldsAt}
use Rattle.shared_table.proofs.Prunings.{comes_first, comes_on, stays_root, stays_in_use}
use Rattle.shared_table.proofs.table.SharedTable.prune.Goals as goal

pub loop-up-init : goal.loop-up-init
loop-up-init g c = record {
  table = refl;
  comes = ([], comes_first c.args.self.now.words.table.shared.key c.args.seat.now.me c.args.key c.args.node c.args.level c.requires.holds);
  holds = let level : c.args.level ≡ c.args.level - 0 = omega arith in subst (HoldsAt c.args.self.now.words.table.shared.key c.args.seat.now.me c.args.key c.args.node) level c.requires.holds;
}

pub loop-up-preserved : goal.loop-up-preserved
loop-up-preserved g c =
    let comes = c.loop-up.invariant.comes in
    let came = c.in-Some.ensures.pruned in record {
      table = c.prune_at.ensures.table ∙ c.loop-up.invariant.table;
      comes = (
        came.0 ∷ comes.0,
        comes_on c.loop-up.node c.in-Some.parent comes.0 (came.0 ∷ []) c.args.seat.now.me c.loop-up.seat.me c.prune_at.new.seat.me comes.1 came.2,
      );
      holds = let level : c.args.level - c.loop-up.up - 1 ≡ c.args.level - (c.loop-up.up + 1) = omega arith in subst (HoldsAt c.args.self.now.words.table.shared.key c.prune_at.new.seat.me c.args.key c.in-Some.parent) level came.3;
    }

pub prune_at-requires-clause-caller : goal.prune_at-requires-clause-caller
prune_at-requires-clause-caller g c = c.requires.caller ∙ sym (ap (λ v. v.number) c.loop-up.invariant.comes.1.is)

pub returns-in-None-clause-pruned : goal.returns-in-None-clause-pruned
returns-in-None-clause-pruned g c = (c.loop-up.invariant.comes.0, comes_on c.loop-up.node c.loop-up.node c.loop-up.invariant.comes.0 [] c.args.seat.now.me c.loop-up.seat.me c.prune_at.new.seat.me c.loop-up.invariant.comes.1 c.in-None.ensures.pruned)

pub returns-in-None-clause-stays : goal.returns-in-None-clause-stays
returns-in-None-clause-stays g c = stays_in_use c.prune_at.new.seat.me.0 (c.in-None.ensures.stays refl)

pub returns-clause-stays : goal.returns-clause-stays
returns-clause-stays g c = stays_root c.args.self.now.words.table.shared.key c.loop-up.seat.me c.args.key c.loop-up.node (c.args.level - c.loop-up.up) c.loop-up.invariant.holds (let past = c.loop-up-test.false in let last = c.loop-up.auto.up-end in omega arith)
