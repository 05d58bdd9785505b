use Rattle.std.proofs.Common.{ℕ, ◌≡◌, ap, subst, sym, rules, List, IsSortedByKey}
use Rattle.std.proofs.lemmas.Cmp.{nat_list_cmp_total}
use Rattle.std.proofs.lemmas.Fn.{always_returns_same}
use Rattle.std.proofs.lemmas.List.Sorted.{ranks_by}
use Rattle.std.specs.Ordering.{is_lt, nat_cmp}
use Rattle.std.specs.Cmp.Lexicographic.{slice_cmp}
use Rattle.workload.specs.Keys.{key_name}
use Rattle.list_checks.proofs.spell.range.sorted.Goals as goal

pub returns-clause-sorted : goal.returns-clause-sorted
returns-clause-sorted c =
    let keys = c.args.keys.now in
    let lt = λ (x y : ℕ × ℕ). is_lt (slice_cmp nat_cmp (key_name keys x.0) (key_name keys y.0)) in
    let sorted = c.sort_unstable_by.ensures.sorted lt (ranks_by nat_list_cmp_total (λ (p : ℕ × ℕ). key_name keys p.0)) (always_returns_same _ _ _ (λ a r f h. let same : r ≡ slice_cmp nat_cmp (key_name keys a.0.now.0) (key_name keys a.1.0.now.0) = search rules in (ap is_lt same, search rules))) in
    subst (λ (pairs : List (ℕ × ℕ)). IsSortedByKey (λ (p : ℕ × ℕ). key_name keys p.0) (slice_cmp nat_cmp) pairs) (sym c.from_vec.ensures) sorted
