-- What a run leaves behind, and how many pairs its replies show.
use Rattle.std.specs.Prelude.{ℕ, Bool, true, nat_le, map, length}
use Rattle.std.specs.List.{list_all}
use Rattle.script_calls.specs.declared.call.Reply.{Reply}
use Rattle.script_calls.specs.declared.call.Reply.TheVariants as replies
use Rattle.script_calls.specs.declared.outcome.Report.{Report}
use Rattle.script_calls.specs.declared.outcome.Outcome.{Outcome}
use Rattle.script_calls.specs.declared.outcome.Outcome.TheVariants as outcomes

-- a reply with other names for keys, which only that of a `range` has
abbrev pub with_keys_renamed : {K L : Type 0} → (K → L) → Reply K → Reply L
with_keys_renamed rename (replies.Map reply) = replies.Map reply
with_keys_renamed rename (replies.Pairs pairs) = replies.Pairs (map (λ pair. (rename pair.0, pair.1)) pairs)
with_keys_renamed rename (replies.Atomic reply) = replies.Atomic reply
with_keys_renamed rename (replies.Lock reply) = replies.Lock reply
with_keys_renamed rename replies.Returned = replies.Returned
with_keys_renamed rename (replies.Once reply) = replies.Once reply
with_keys_renamed rename (replies.OnceFunc code) = replies.OnceFunc code
with_keys_renamed rename (replies.OnceValue value) = replies.OnceValue value
with_keys_renamed rename (replies.Pool reply) = replies.Pool reply
with_keys_renamed rename (replies.Flown value shared) = replies.Flown value shared
with_keys_renamed rename (replies.Var reply) = replies.Var reply

-- whether a reply shows at most so many pairs; only that of a `range` shows any
abbrev pub has_pairs_to : {K : Type 0} → ℕ → Reply K → Bool
has_pairs_to most (replies.Map reply) = true
has_pairs_to most (replies.Pairs pairs) = nat_le (length pairs) most
has_pairs_to most (replies.Atomic reply) = true
has_pairs_to most (replies.Lock reply) = true
has_pairs_to most replies.Returned = true
has_pairs_to most (replies.Once reply) = true
has_pairs_to most (replies.OnceFunc code) = true
has_pairs_to most (replies.OnceValue value) = true
has_pairs_to most (replies.Pool reply) = true
has_pairs_to most (replies.Flown value shared) = true
has_pairs_to most (replies.Var reply) = true

-- what a run leaves behind
abbrev pub left_by : Outcome → Report
left_by (outcomes.Done left) = left
left_by (outcomes.Misused left misuse) = left
left_by (outcomes.Deadlocked left) = left

-- whether no reply shows more pairs than so many
abbrev pub shows_to : ℕ → Outcome → Bool
shows_to most outcome = list_all (list_all (has_pairs_to most)) (left_by outcome).replies
