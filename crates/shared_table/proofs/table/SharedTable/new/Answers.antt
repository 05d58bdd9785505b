use Rattle.std.proofs.Common.{rules, ℕ, ◌<◌, ◌≤◌, List, length, sum, sym, ◌∙◌, subst}
use Rattle.shared_table.proofs.AllCallers.{all_callers}
use Rattle.shared_table.proofs.table.SharedTable.new.Goals as goal

pub new-requires : goal.new-requires
new-requires c =
    let spares = c.from_vec-2.ensures ∙ c.in_ok-from_slice-2.ensures.items in
    record {
      begin = record {
        seed = search rules;
        some = subst (λ (l : List ℕ). 0 < length l) (sym spares) c.requires.callers.0;
        callers = subst (λ (l : List ℕ). length l ≤ 64) (sym spares) c.requires.callers.1;
        objects = search rules;
        units = subst (λ (l : List ℕ). sum l ≤ 1000000) (sym spares) c.requires.units;
      };
    }

pub returns-clause-each : goal.returns-clause-each
returns-clause-each c = all_callers _ _ c.in_ok-callers.callers.items c.in_ok-callers.ensures
