-- Whose call may run its function: a caller of a once that is to run it, and one that leads a flight.
use Rattle.std.proofs.Common.{◌≡◌, ℕ, true, List, [], ◌∷◌, refl, subst}
use Rattle.sync_model.specs.declared.journal.Deed.TheVariants.{Event}
use Rattle.sync_model.specs.Front.{Front}
use Rattle.flight_core.specs.declared.event.FlightEvent.{FlightEvent}
use Rattle.flight_core.specs.declared.event.FlightEvent.TheVariants.{Join}
use Rattle.flight_core.specs.declared.event.FlightReply.{FlightReply}
use Rattle.flight_core.specs.declared.event.FlightReply.TheVariants.{Lead}
use Rattle.flight_core.specs.FlightMachine as flights
use Rattle.wait_cores.specs.declared.once.OnceEvent.{OnceEvent}
use Rattle.wait_cores.specs.declared.once.OnceEvent.TheVariants.{Begin}
use Rattle.wait_cores.specs.declared.once.OnceReply.{OnceReply}
use Rattle.wait_cores.specs.declared.once.OnceReply.TheVariants.{Run}
use Rattle.wait_cores.specs.OnceMachine as onces
use Rattle.ruled_object.specs.Growth.{Placed, deeds_of}
use Rattle.go_waits.specs.declared.once.Once.{Once}
use Rattle.go_waits.specs.OnceCalls.{HasBegun, RunsOnce}
use Rattle.go_waits.specs.Onces.{OncePass, OnceGrows, IsRunnerOf, start_of}
use Rattle.single_flight.specs.declared.group.Group.{Group}
use Rattle.single_flight.specs.Flights as flying
use Rattle.single_flight.specs.Flights.{FlightPass, FlightGrows, IsLeaderOf}
use Rattle.go_sync.specs.Flying.{MayLand}
use Rattle.go_sync.specs.Made.{no_front}
use Rattle.go_sync.specs.OnceRunners.{MayRun}
use Rattle.go_sync.specs.Renewing.{IsSame}
use Rattle.go_sync.proofs.Renewed.{grew_so}

module _ {T N H : Type 0} (once : Once T N H) (old mid runner : OncePass T N) where
  -- by what a beginning shows that began with a new note
  pub may_run : (first : ℕ) (between : Front) → first ≡ 0 → ((es : List (Placed (OnceEvent T) (OnceReply T))) × OnceGrows once old (no_front first) es runner between × (deeds_of es ≡ Event Begin Run ∷ [])) → IsRunnerOf once runner → RunsOnce runner → MayRun once old runner
  may_run first between fresh begun runs alone = record {
    runs = runs;
    alone = alone;
    front = between;
    entries = begun.0;
    grows = subst (λ t. OnceGrows once old (no_front t) begun.0 runner between) fresh begun.1;
    deeds = begun.2;
  }

  -- with a pass that was renewed before, it may with the pass as it was
  pub may_run_so : IsSame old mid → MayRun once mid runner → MayRun once old runner
  may_run_so same run = record {
    runs = run.runs;
    alone = run.alone;
    front = run.front;
    entries = run.entries;
    grows = grew_so onces.next true (start_of once) old mid runner 0 run.front run.entries same refl run.grows;
    deeds = run.deeds;
  }

  -- the same, as the once below says it
  pub begun_so : (first : ℕ) → IsSame old mid → first ≡ 0 → HasBegun once mid (no_front first) runner → MayRun once old runner
  begun_so first same fresh begun = record {
    runs = begun.runs;
    alone = begun.alone;
    front = begun.front;
    entries = begun.entries;
    grows = grew_so onces.next true (start_of once) old mid runner first begun.front begun.entries same fresh begun.grows;
    deeds = begun.deeds;
  }

module _ {N H : Type 0} (group : Group N H) (key : ℕ) (old mid leader : FlightPass N) where
  -- by what the coming for a key shows that began with a new note
  pub may_land : (first : ℕ) (between : Front) → first ≡ 0 → ((es : List (Placed FlightEvent FlightReply)) × FlightGrows group old (no_front first) es leader between × (deeds_of es ≡ Event (Join key) Lead ∷ [])) → IsLeaderOf group leader → MayLand group key old leader
  may_land first between fresh begun leads = record {
    leads = leads;
    front = between;
    entries = begun.0;
    grows = subst (λ t. FlightGrows group old (no_front t) begun.0 leader between) fresh begun.1;
    deeds = begun.2;
  }

  -- with a pass that was renewed before, it may with the pass as it was
  pub may_land_so : IsSame old mid → MayLand group key mid leader → MayLand group key old leader
  may_land_so same lead = record {
    leads = lead.leads;
    front = lead.front;
    entries = lead.entries;
    grows = grew_so flights.next true (flying.start_of group) old mid leader 0 lead.front lead.entries same refl lead.grows;
    deeds = lead.deeds;
  }
