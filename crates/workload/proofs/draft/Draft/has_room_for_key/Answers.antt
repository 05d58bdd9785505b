use Rattle.std.proofs.Common.{◌≡◌, sym, ap, ◌∙◌, arith}
use Rattle.std.specs.FinMap.{from_entries, len}
use Rattle.std.proofs.lemmas.Bool.{le-leb, lt-ltb}
use Rattle.workload.specs.declared.limits.TheConstants.{MAX_KEYS}
use Rattle.workload.specs.Draft.{all_keys, distinct_count, key_count, keys_of}
use Rattle.workload.specs.Index.{marks}
use Rattle.workload.proofs.KeyLemmas.{key_more, len_names}
use Rattle.workload.proofs.draft.Draft.has_room_for_key.Goals as goal

pub returns-then-len-lt-MAX_KEYS : goal.returns-then-len-lt-MAX_KEYS
returns-then-len-lt-MAX_KEYS c =
    let scripts = c.self.inside.parts.value.scripts in
    let call = c.args.call.now in
    let keys : c.deref.result.now.keys ≡ from_entries (marks (all_keys scripts)) = rw c.deref.ensures c.self.invariant.keys in
    let many : c.len.result ≡ distinct_count (all_keys scripts) = c.len.ensures.len ∙ ap len keys ∙ len_names (all_keys scripts) in
    let room = le-leb (key_count scripts (keys_of call)) MAX_KEYS (omega (arith, key_more scripts call, many, c.if-len-lt-MAX_KEYS.true)) in
    rw (← c.self.view_is) (lt-ltb c.len.result MAX_KEYS c.if-len-lt-MAX_KEYS.true ∙ sym room)
