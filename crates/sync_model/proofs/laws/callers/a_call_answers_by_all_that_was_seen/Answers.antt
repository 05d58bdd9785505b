use Rattle.std.proofs.Common.{◌≡◌, take, ◌-◌, length}
use Rattle.sync_types.specs.declared.atomic_object.AtomicReply.{AtomicReply}
use Rattle.sync_types.specs.declared.map_object.MapReply.{MapReply}
use Rattle.sync_model.specs.declared.item.SharedReply.TheVariants as replies
use Rattle.sync_model.proofs.SharedUses.{on_then, legal_then, answered_then}
use Rattle.sync_model.proofs.laws.callers.a_call_answers_by_all_that_was_seen.Goals as goal

map_is : (a b : MapReply) → replies.Map a ≡ replies.Map b → a ≡ b
map_is a b e = cc

atomic_is : (a b : AtomicReply) → replies.Atomic a ≡ replies.Atomic b → a ≡ b
atomic_is a b e = cc

pub returns-clause-map : goal.returns-clause-map
returns-clause-map c = λ start m cost call reply old new called. (take (called.item.place - length old.seen) called.begins.0, on_then start called, legal_then start called, map_is reply _ (answered_then start called))

pub returns-clause-atomic : goal.returns-clause-atomic
returns-clause-atomic c = λ start a cost call reply old new called. (take (called.item.place - length old.seen) called.begins.0, on_then start called, legal_then start called, atomic_is reply _ (answered_then start called))
