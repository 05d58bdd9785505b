use Rattle.std.proofs.Common.{◌≡◌, [], sym, ap, ◌∙◌}
use Rattle.std.specs.FinMap.{from_entries, len}
use Rattle.std.specs.Option.{option_copied, option_to_list}
use Rattle.workload.specs.Draft.{all_keys, key_count, keys_of}
use Rattle.workload.specs.Index.{marks}
use Rattle.workload.proofs.KeyLemmas.{len_names}
use Rattle.workload.proofs.draft.Draft.keys_with_call.Goals as goal

pub returns-in-None : goal.returns-in-None
returns-in-None c =
    let scripts = c.self.inside.parts.value.scripts in
    let keys : c.deref.result.now.keys ≡ from_entries (marks (all_keys scripts)) = rw c.deref.ensures c.self.invariant.keys in
    let none : keys_of c.args.call.now ≡ [] = c.call_key.ensures ∙ ap (λ o. option_to_list (option_copied o)) c.in-None.is in
    rw (← c.self.view_is) (c.len.ensures.len ∙ ap len keys ∙ len_names (all_keys scripts) ∙ ap (key_count scripts) (sym none))
