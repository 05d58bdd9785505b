-- The spelling of a pool's protocol, in the words of this crate.
use Rattle.std.proofs.Common.{◌≡◌, ◌≢◌, ℕ, Bool, true, false, [], ◌∷◌, Result, Ok, Err, refl, sym, subst, ◌∙◌}
use Rattle.sync_types.specs.declared.misuse.Misuse.{Misuse}
use Rattle.sync_model.specs.declared.answer.Answer.{Answer}
use Rattle.sync_model.specs.declared.answer.Answer.TheVariants.{Done, Halted}
use Rattle.sync_model.specs.declared.journal.Deed.TheVariants.{Event, Refused, Halt}
use Rattle.sync_model.specs.Front.{Front}
use Rattle.pool_core.specs.declared.pool_event.PoolEvent.{PoolEvent}
use Rattle.pool_core.specs.declared.pool_event.PoolReply.{PoolReply}
use Rattle.pool_core.specs.declared.pool_event.PoolReply.TheVariants as reply
use Rattle.pool_core.specs.PartMachine.{part_start, part_next}
use Rattle.pool_core.specs.PoolParts.{reply_of_put, reply_of_look}
use Rattle.protocols.specs.declared.step.Step.{Step}
use Rattle.protocols.specs.declared.step.Step.TheVariants.{Finished, Misused, Waits, Next, Never}
use Rattle.protocols.specs.declared.pool.PoolOutcome.{PoolOutcome}
use Rattle.protocols.specs.declared.pool.PoolOutcome.TheVariants.{Kept, Dropped, Item, Nothing, Swept}
use Rattle.protocols.specs.declared.pool.PoolStage.{PoolStage}
use Rattle.protocols.specs.declared.pool.PoolStage.TheVariants as stage
use Rattle.protocols.specs.PoolStages.{pool_event, pool_moment, look_meaning, pool_meaning, pool_gains}
use Rattle.protocols.specs.Spelling.{CallAnswer, Rest, Spells, AreTimely}
use Rattle.call_loop.specs.Calls.{told, retold, IsGiven, has_gained}
use Rattle.go_pool.specs.declared.pass.PoolPass.{PoolPass}
use Rattle.go_pool.specs.declared.pool.Pool.{Pool}
use Rattle.go_pool.specs.AtParts.{DidAt}
use Rattle.go_pool.specs.Calls.{Single}
use Rattle.go_pool.specs.Items.{IsLook}
use Rattle.go_pool.specs.PoolAnswers.{put_of, look_of, sweep_of}
use Rattle.go_pool.specs.Pools.{Deeds, room_of}

only_event : (e made : PoolEvent ℕ) (r given : PoolReply ℕ) (rest : Deeds) → e ≡ made → r ≡ given → rest ≡ [] → Event e r ∷ rest ≡ Event made given ∷ []
only_event e made r given rest of is empty = cc

only_refusal : (e made : PoolEvent ℕ) (m : Misuse) (rest : Deeds) → e ≡ made → rest ≡ [] → Refused e m ∷ rest ≡ Refused made m ∷ []
only_refusal e made m rest of empty = cc

-- no event of a pool carries a moment
untimed : (g : PoolStage) (now : ℕ) → pool_event g now ≡ pool_event g 0
untimed (stage.Put item) now = refl
untimed stage.LookOwn now = refl
untimed (stage.LookOther part) now = refl
untimed (stage.LookVictim part) now = refl
untimed stage.Sweep now = refl

module _ {A : Type 0} (reply : A → PoolReply ℕ) (words : Result PoolOutcome Misuse → A) where
  -- a call ends by this reply to its one event, which its answer tells
  abbrev pub Ended : PoolReply ℕ → Step PoolStage PoolOutcome → Type 0
  Ended r (Finished outcome) = r ≡ reply (words (Ok outcome))
  Ended r (Misused misuse) = ⊥
  Ended r (Waits later) = ⊥
  Ended r (Next later) = ⊥
  Ended r Never = Unit {0}

  module _ (made : PoolEvent ℕ) where
    event_by : (e : PoolEvent ℕ) (r : PoolReply ℕ) (step : Step PoolStage PoolOutcome) (rest : Deeds) (answer : CallAnswer PoolOutcome) (on : PoolStage → Type 0) → e ≡ made → Ended r step → Rest step rest on answer → Single made reply (Event e r ∷ rest) (told words answer)
    event_by e r (Finished outcome) rest answer on of ended goes =
        subst (λ (a : CallAnswer PoolOutcome). Single made reply (Event e r ∷ rest) (told words a)) (sym goes.1) (only_event e made r (reply (words (Ok outcome))) rest of ended goes.0)
    event_by e r (Misused misuse) rest answer on of ended goes = absurd ended
    event_by e r (Waits later) rest answer on of ended goes = absurd ended
    event_by e r (Next later) rest answer on of ended goes = absurd ended
    event_by e r Never rest answer on of ended goes = absurd goes

    single_by : (g : PoolStage) → pool_event g 0 ≡ made → ((r : PoolReply ℕ) → Ended r (pool_meaning g r)) → (answer : CallAnswer PoolOutcome) (deeds : Deeds) → Spells pool_event pool_meaning g deeds answer → Single made reply deeds (told words answer)
    single_by g is ended answer [] spelt = absurd spelt
    single_by g is ended answer (Event e r ∷ rest) (of, goes) = event_by e r (pool_meaning g r) rest answer (λ later. Spells pool_event pool_meaning later rest answer) (of.1 ∙ (untimed g of.0 ∙ is)) (ended r) goes
    single_by g is ended answer (Refused e m ∷ rest) (of, none, refused) =
        subst (λ (a : CallAnswer PoolOutcome). Single made reply (Refused e m ∷ rest) (told words a)) (sym refused) (only_refusal e made m rest (of.1 ∙ (untimed g of.0 ∙ is)) none)
    single_by g is ended answer (Halt m ∷ rest) spelt = absurd spelt

pub put_ended : (item : ℕ) (r : PoolReply ℕ) → Ended reply_of_put put_of r (pool_meaning (stage.Put item) r)
put_ended item reply.Kept = refl
put_ended item (reply.Dropped other) = refl
put_ended item _ = tt

pub sweep_ended : (r : PoolReply ℕ) → Ended {A = Unit {0}} (λ done. reply.Swept) sweep_of r (pool_meaning stage.Sweep r)
sweep_ended reply.Swept = refl
sweep_ended _ = tt

looked : (r : PoolReply ℕ) → Ended reply_of_look look_of r (look_meaning r)
looked (reply.Item item) = refl
looked reply.Nothing = refl
looked _ = tt

pub look_ended : (g : PoolStage) → IsLook (pool_event g 0) → (r : PoolReply ℕ) → Ended reply_of_look look_of r (pool_meaning g r)
look_ended stage.LookOwn is r = looked r
look_ended (stage.LookOther part) is r = looked r
look_ended (stage.LookVictim part) is r = looked r
look_ended _ is r = absurd is

-- only a call that took an item gains
pub gains_nothing : (g : PoolStage) (answer : CallAnswer PoolOutcome) → ((item : ℕ) → answer ≢ Done (Ok (Item item))) → has_gained (pool_gains g) answer ≡ false
gains_nothing g (Done (Ok Kept)) none = refl
gains_nothing g (Done (Ok (Dropped _))) none = refl
gains_nothing g (Done (Ok (Item item))) none = absurd (none item refl)
gains_nothing g (Done (Ok Nothing)) none = refl
gains_nothing g (Done (Ok Swept)) none = refl
gains_nothing g (Done (Err m)) none = refl
gains_nothing g (Halted m) none = refl

-- no such call is given an item that may not give one
pub gives_none : (gives : Result PoolOutcome Misuse → Bool) → ((item : ℕ) → gives (Ok (Item item)) ≡ false) → (answer : CallAnswer PoolOutcome) → IsGiven gives answer → (item : ℕ) → answer ≢ Done (Ok (Item item))
gives_none gives never answer given item is = let may = subst (λ (a : CallAnswer PoolOutcome). IsGiven gives a) is given in let no = never item in (cc)

-- what a call of one event did at a part, by what its protocol's call did
pub single_at : {N H : Type 0} (pool : Pool N H) (part : ℕ) (shows : ℕ → Type 0) {old new : PoolPass N} {from to : Front} {A : Type 0} (g : PoolStage) (made : PoolEvent ℕ) (reply : A → PoolReply ℕ) (words : Result PoolOutcome Misuse → A) → pool_event g 0 ≡ made → ((r : PoolReply ℕ) → Ended reply words r (pool_meaning g r))
    → {answer : CallAnswer PoolOutcome} {result : Answer A} → result ≡ told words answer → DidAt pool part (λ ds a. Spells pool_event pool_meaning g ds a) (λ ds. AreTimely pool_moment shows ds) old from answer new to → DidAt pool part (λ ds a. Single made reply ds a) (λ ds. Unit {0}) old from result new to
single_at pool part shows {old} {new} {from} {to} g made reply words is ended {answer} {result} told_so did =
    let spells : Deeds → CallAnswer PoolOutcome → Type 0 = λ ds a. Spells pool_event pool_meaning g ds a in record {
      before = did.before;
      after = did.after;
      was = did.was;
      set_is = did.set_is;
      number = did.number;
      did = retold part_next true (part_start (room_of pool)) spells (λ ds. AreTimely pool_moment shows ds) (λ ds a. Single made reply ds a) (λ ds. Unit {0}) words did.before did.after from to answer result (single_by reply words made g is ended answer) (λ ds timely. tt) told_so did.did;
    }
