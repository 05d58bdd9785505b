use Rattle.std.proofs.Common.{◌≡◌, ◌+◌, true, false, sym, ap, ◌∙◌}
use Rattle.std.specs.Prelude.{is_some}
use Rattle.std.specs.List.{list_any}
use Rattle.std.specs.Str.{bytes_eq}
use Rattle.std.specs.FinMap.{from_entries, get, len}
use Rattle.workload.specs.Draft.{all_keys}
use Rattle.workload.specs.Index.{marks}
use Rattle.workload.proofs.KeyLemmas.{has_name, len_names}
use Rattle.workload.proofs.draft.Draft.keys_with.Goals as goal

pub returns-then-is_some : goal.returns-then-is_some
returns-then-is_some c =
    let all = all_keys c.self.inside.parts.value.scripts in
    let key = c.args.key.now in
    let keys : c.deref.result.now.keys ≡ from_entries (marks all) = rw c.deref.ensures c.self.invariant.keys in
    let there : list_any (bytes_eq key) all ≡ true = sym (has_name all key) ∙ ap (λ m. is_some (get m key)) (sym keys) ∙ ap is_some (sym c.get.ensures) ∙ sym c.is_some.ensures ∙ c.if-is_some.true in
    rw (← c.self.view_is) (rw there (c.len.ensures.len ∙ ap len keys ∙ len_names all))

pub returns-else-is_some : goal.returns-else-is_some
returns-else-is_some c =
    let all = all_keys c.self.inside.parts.value.scripts in
    let key = c.args.key.now in
    let keys : c.deref.result.now.keys ≡ from_entries (marks all) = rw c.deref.ensures c.self.invariant.keys in
    let absent : list_any (bytes_eq key) all ≡ false = sym (has_name all key) ∙ ap (λ m. is_some (get m key)) (sym keys) ∙ ap is_some (sym c.get.ensures) ∙ sym c.is_some.ensures ∙ c.if-is_some.false in
    rw (← c.self.view_is) (rw absent (ap (λ n. n + 1) (c.len-else-is_some.ensures.len ∙ ap len keys ∙ len_names all)))
