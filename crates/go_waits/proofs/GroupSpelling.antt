-- The calls of a wait group's protocol, in the words of this crate.
use Rattle.std.proofs.Common.{◌≡◌, ◌≢◌, inl, inr, ℕ, ℤ, false, [], ◌∷◌, ◌++◌, replicate, suc, Ok, Err, refl, sym, subst}
use Rattle.sync_model.specs.declared.answer.Answer.TheVariants.{Done, Halted}
use Rattle.sync_model.specs.declared.journal.Deed.TheVariants.{Event, Refused, Halt}
use Rattle.wait_cores.specs.declared.group.GroupEvent.{GroupEvent}
use Rattle.wait_cores.specs.declared.group.GroupEvent.TheVariants.{Add, Wait, Leave}
use Rattle.wait_cores.specs.declared.group.GroupReply.TheVariants as reply
use Rattle.protocols.specs.declared.wait_group.GroupStage.TheVariants as stage
use Rattle.protocols.specs.GroupStages.{group_event, group_meaning, group_gains}
use Rattle.protocols.specs.Spelling.{CallAnswer, Spells}
use Rattle.call_loop.specs.Calls.{has_gained}
use Rattle.go_waits.specs.GroupCalls.{GroupDeeds, Adds, Waits}
use Rattle.go_waits.proofs.Calling.{ends, once_more}

-- an add
pub adds_by : (delta : ℤ) (deeds : GroupDeeds) (answer : CallAnswer Unit) → Spells group_event group_meaning (stage.Add delta) deeds answer → Adds delta deeds answer
adds_by delta [] answer spelt = absurd spelt
adds_by delta (Event e reply.Done ∷ rest) answer (of, on) = ends (Adds delta) [] (λ x. Event x reply.Done) e (Add delta) rest answer (Done (Ok tt)) of.1 on.0 on.1 refl
adds_by delta (Event e (reply.Misused m) ∷ rest) answer (of, on) = ends (Adds delta) [] (λ x. Event x (reply.Misused m)) e (Add delta) rest answer (Done (Err m)) of.1 on.0 on.1 refl
adds_by delta (Event e reply.Queued ∷ rest) answer (of, on) = absurd on
adds_by delta (Event e reply.Still ∷ rest) answer (of, on) = absurd on
adds_by delta (Refused e m ∷ rest) answer (of, none, is) = ends (Adds delta) [] (λ x. Refused x m) e (Add delta) rest answer (Halted m) of.1 none is refl
adds_by delta (Halt m ∷ rest) answer spelt = absurd spelt

-- a caller so far that was queued, and tried to leave
abbrev tried : ℕ → GroupDeeds
tried count = Event Wait reply.Queued ∷ replicate count (Event Leave reply.Still)

leaves_by : (count : ℕ) (deeds : GroupDeeds) (answer : CallAnswer Unit) → Spells group_event group_meaning stage.Leave deeds answer → Waits (tried count ++ deeds) answer
leaves_by count [] answer spelt = absurd spelt
leaves_by count (Event e reply.Done ∷ rest) answer (of, on) = ends Waits (tried count) (λ x. Event x reply.Done) e Leave rest answer (Done (Ok tt)) of.1 on.0 on.1 (inr (count, refl))
leaves_by count (Event e (reply.Misused m) ∷ rest) answer (of, on) = ends Waits (tried count) (λ x. Event x (reply.Misused m)) e Leave rest answer (Done (Err m)) of.1 on.0 on.1 (count, refl)
leaves_by count (Event e reply.Still ∷ rest) answer (of, on) =
    let still : GroupDeeds = Event Leave reply.Still ∷ rest in
    let more : Waits (tried count ++ still) answer = subst (λ (ds : GroupDeeds). Waits (Event Wait reply.Queued ∷ ds) answer) (once_more count (Event Leave reply.Still) rest) (leaves_by (suc count) rest answer on) in
    subst (λ (x : GroupEvent). Waits (tried count ++ Event x reply.Still ∷ rest) answer) (sym of.1) more
leaves_by count (Event e reply.Queued ∷ rest) answer (of, on) = absurd on
leaves_by count (Refused e m ∷ rest) answer (of, none, is) = ends Waits (tried count) (λ x. Refused x m) e Leave rest answer (Halted m) of.1 none is (inr (count, refl))
leaves_by count (Halt m ∷ rest) answer spelt = absurd spelt

-- a wait
pub waits_by : (deeds : GroupDeeds) (answer : CallAnswer Unit) → Spells group_event group_meaning stage.Wait deeds answer → Waits deeds answer
waits_by [] answer spelt = absurd spelt
waits_by (Event e reply.Done ∷ rest) answer (of, on) = ends Waits [] (λ x. Event x reply.Done) e Wait rest answer (Done (Ok tt)) of.1 on.0 on.1 (inl refl)
waits_by (Event e reply.Queued ∷ rest) answer (of, on) = subst (λ (x : GroupEvent). Waits (Event x reply.Queued ∷ rest) answer) (sym of.1) (leaves_by 0 rest answer on)
waits_by (Event e (reply.Misused m) ∷ rest) answer (of, on) = absurd on
waits_by (Event e reply.Still ∷ rest) answer (of, on) = absurd on
waits_by (Refused e m ∷ rest) answer (of, none, is) = ends Waits [] (λ x. Refused x m) e Wait rest answer (Halted m) of.1 none is (inl refl)
waits_by (Halt m ∷ rest) answer spelt = absurd spelt

-- a wait gains only where it is no misuse and isn't halted
pub wait_gains : (answer : CallAnswer Unit) → answer ≢ Done (Ok tt) → has_gained (group_gains stage.Wait) answer ≡ false
wait_gains (Done (Ok tt)) other = absurd (other refl)
wait_gains (Done (Err m)) other = refl
wait_gains (Halted m) other = refl
