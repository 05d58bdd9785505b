-- What a wait knows by its last event, and what a done tells by its own.
use Rattle.std.proofs.Common.{◌≡◌, ◌⊎◌, inl, inr, ℕ, true, false, List, [], ◌∷◌, ◌++◌, replicate, negsuc, Result, Ok, Err, refl}
use Rattle.sync_types.specs.declared.misuse.Misuse.{Misuse}
use Rattle.sync_model.specs.declared.answer.Answer.{Answer}
use Rattle.sync_model.specs.declared.answer.Answer.TheVariants.{Done, Halted}
use Rattle.sync_model.specs.declared.journal.Deed.TheVariants.{Event}
use Rattle.sync_model.specs.Front.{Front}
use Rattle.sync_model.specs.Journal.{is_such}
use Rattle.wait_cores.specs.declared.group.GroupEvent.{GroupEvent}
use Rattle.wait_cores.specs.declared.group.GroupEvent.TheVariants.{Add, Wait, Leave}
use Rattle.wait_cores.specs.declared.group.GroupReply.{GroupReply}
use Rattle.wait_cores.specs.declared.group.GroupReply.TheVariants as reply
use Rattle.wait_cores.specs.GroupEdges.{group_acquires, group_releases}
use Rattle.wait_cores.specs.GroupMachine.{GroupState, next}
use Rattle.ruled_object.specs.declared.pass.Pass.{Pass}
use Rattle.ruled_object.specs.Growth.{Placed, Grows, IsLawful, MeetsHalt, deeds_of}
use Rattle.go_waits.specs.GroupCalls.{GroupDeeds, Adds, Waits}
use Rattle.synced_map.specs.Telling.{KnowsBy, Tells}
use Rattle.synced_map.proofs.Telling.{knows_by, tells_by}

-- a wait that returned ends with the event by which it did
record EndWaited (ds : GroupDeeds) : Type 0 where
  pub first : GroupDeeds
  pub by : GroupEvent
  pub parts : ds ≡ first ++ Event by reply.Done ∷ []
  pub returns : group_acquires by reply.Done ≡ true
  pub lets_go : group_releases by reply.Done ≡ false

end_waited : (ds : GroupDeeds) → Waits ds (Done (Ok tt)) → EndWaited ds
end_waited ds (inl at_once) = record { first = []; by = Wait; parts = at_once; returns = refl; lets_go = refl }
end_waited ds (inr leaves) = record { first = Event Wait reply.Queued ∷ replicate leaves.0 (Event Leave reply.Still); by = Leave; parts = leaves.1; returns = refl; lets_go = refl }

module _ {N : Type 0} (start : GroupState) (old new : Pass GroupState N GroupEvent GroupReply) (from to : Front) where
  pub wait_knows : (answer : Answer (Result (Unit {0}) Misuse)) → ((es : List (Placed GroupEvent GroupReply)) × Grows next true start old from es new to × Waits (deeds_of es) answer × MeetsHalt es answer)
      → IsLawful next true group_releases group_acquires start new → answer ≡ Done (Ok tt) → KnowsBy group_releases new to.counts
  wait_knows (Done (Ok tt)) did lawful is =
      let end = end_waited (deeds_of did.0) did.2 in
      knows_by next true group_releases group_acquires start old new from to did.0 end.first (Event end.by reply.Done) did.1 lawful.edges end.parts end.returns end.lets_go
  wait_knows (Done (Err m)) did lawful is = cc
  wait_knows (Halted m) did lawful is = cc

  pub done_tells : (answer : Answer (Result (Unit {0}) Misuse)) → ((es : List (Placed GroupEvent GroupReply)) × Grows next true start old from es new to × Adds (negsuc 0) (deeds_of es) answer × MeetsHalt es answer)
      → answer ≡ Done (Ok tt) → Tells group_releases from.counts old new
  done_tells (Done (Ok tt)) did is = tells_by next true group_releases group_acquires start old new from to did.0 (Event (Add (negsuc 0)) reply.Done) did.1 did.2 refl
  done_tells (Done (Err m)) did is = cc
  done_tells (Halted m) did is = cc
