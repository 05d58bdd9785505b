-- What the code finds in a list from a place on, as a beginning of what stands there.
use Rattle.std.specs.Prelude.{◌≡◌, ℕ, ℤ, ◌+◌, ◌≤◌, Bool, false, cond, ◌==◌, List, length, drop, Option, Some, None, Ok, Err, Result}
use Rattle.std.specs.List.{slice_range}
use Rattle.std.specs.Ordering.{int_eq}
use Rattle.script_calls.specs.declared.call.Reply.{Reply}
use Rattle.script_calls.specs.declared.call.Reply.TheVariants as replies
use Rattle.sync_types.specs.declared.once_call.DoReply.TheVariants as do_replies
use Rattle.flight_core.specs.declared.calls.FlightStage.TheVariants as flight_stage
use Rattle.protocols.specs.OnceStages.{once_meaning}
use Rattle.protocols.specs.declared.once.OnceStage.TheVariants as stage
use Rattle.sync_model.specs.declared.answer.Answer.TheVariants.{Done, Halted}
use Rattle.sync_model.specs.declared.item.SharedCall.{SharedCall}
use Rattle.sync_model.specs.declared.item.SharedReply.{SharedReply}
use Rattle.run_record.specs.FlightKind.{was_shared}
use Rattle.run_record.specs.OnceKind.{failure}
use Rattle.run_record.specs.declared.made.Made.{Made}
use Rattle.run_record.specs.declared.made.Made.TheVariants.{Shared, Entered}
use Rattle.run_cuts.specs.Cuts.{Beginning, whole, within, wrong, Cutter, Move, answers_by, goes_to, no_call, move, never_cut, read_cut, returns_cut, stages_cut, then_cut}
use Rattle.run_cuts.specs.OnceCuts.{do_event_in, do_reply_in, func_event_in, func_reply_in, value_event_in, value_reply_in, is_once_event}
use Rattle.run_cuts.specs.CondCuts.{cond_cut}
use Rattle.run_cuts.specs.FlightCuts.{flight_cut}
use Rattle.run_cuts.specs.RangeCuts.{is_begin, is_step, shows_cut}
use Rattle.run_cuts.specs.SharedCuts.{adds_cut, tests_cut}
use Rattle.run_cuts.specs.PoolCuts.{pool_part_cut}
use Rattle.run_cuts.specs.StartsCuts.{starts_cut}
use Rattle.run_record.specs.PoolKind.{part_of, stage_of}
use Rattle.pool_core.specs.declared.pool_event.PoolEvent.{PoolEvent}
use Rattle.protocols.specs.declared.pool.PoolOutcome.{PoolOutcome}
use Rattle.protocols.specs.declared.pool.PoolOutcome.TheVariants.{Kept, Dropped, Item, Nothing, Swept}
use Rattle.run_cuts.specs.WaitForCuts.{unless_met_cut}
use Rattle.sync_types.specs.declared.atomic_object.Number.{Number}
use Rattle.sync_types.specs.declared.wait_call.CondCall.TheVariants.{Wait}
use Rattle.starts_core.specs.declared.protocol.StartsStage.TheVariants as starts_stage
use Rattle.list_checks.specs.declared.spell.automaton.Moved.{Moved}
use Rattle.list_checks.specs.declared.spell.automaton.Moved.TheVariants as moved
use Rattle.sync_model.specs.declared.item.SharedReply.TheVariants as shared_replies
use Rattle.list_checks.specs.declared.spell.range.Shown.{Shown}
use Rattle.list_checks.specs.declared.spell.range.Shown.TheVariants as shown
use Rattle.list_checks.specs.declared.spell.spelt.Spelt.{Spelt}
use Rattle.list_checks.specs.declared.spell.spelt.Stop.{Stop}
use Rattle.list_checks.specs.declared.spell.spelt.Stop.TheVariants as stop

-- how a call goes on
abbrev pub move_of : {G O : Type 0} → Moved G O → Move G O
move_of (moved.On later) = goes_to later
move_of (moved.Done outcome) = answers_by (Done (Ok outcome))
move_of (moved.Misused misuse) = answers_by (Done (Err misuse))
move_of (moved.Halted misuse) = answers_by (Halted misuse)
move_of moved.Wrong = no_call

-- from the first of these numbers up to the last
abbrev pub IsFrom : ℕ → ℕ → ℕ → Type 0
IsFrom from end most = (from ≤ end) × (end ≤ most)

module _ {O : Type 0} where
  -- what was found, of the part of a list behind a place
  abbrev pub beginning_of : List Made → ℕ → Result (Spelt O) Stop → Beginning O
  beginning_of list from (Ok spelt) = whole (slice_range list from spelt.end) (Done (Ok spelt.outcome)) (drop spelt.end list)
  beginning_of list from (Err (stop.Misused end misuse)) = whole (slice_range list from end) (Done (Err misuse)) (drop end list)
  beginning_of list from (Err (stop.Halted end misuse)) = whole (slice_range list from end) (Halted misuse) (drop end list)
  beginning_of list from (Err stop.Within) = within
  beginning_of list from (Err stop.Wrong) = wrong

  -- it ends behind that place, within the list
  abbrev pub EndsWithin : List Made → ℕ → Result (Spelt O) Stop → Type 0
  EndsWithin list from (Ok spelt) = IsFrom from spelt.end (length list)
  EndsWithin list from (Err (stop.Misused end misuse)) = IsFrom from end (length list)
  EndsWithin list from (Err (stop.Halted end misuse)) = IsFrom from end (length list)
  EndsWithin list from (Err stop.Within) = Unit {0}
  EndsWithin list from (Err stop.Wrong) = Unit {0}

  -- the beginning of what stands behind the place is what was found
  pub record IsFound (list : List Made) (from : ℕ) (beginning : Beginning O) (found : Result (Spelt O) Stop) : Type 0 where
    pub is : beginning ≡ beginning_of list from found
    pub ends : EndsWithin list from found

-- what a placed call comes to by an item, where that is the call
abbrev pub placed_outcome : {O : Type 0} → (SharedCall → Bool) → (SharedReply → Option O) → Made → Option O
placed_outcome is_call read (Shared x) = cond (is_call x.call) (read x.reply) None
placed_outcome is_call read (Entered object entry) = None

-- the end of a function that came to this: a sum, a code, a value
abbrev pub sum_cut : ℕ → ℤ → Cutter (Reply ℕ)
sum_cut object sum = read_cut (λ ended. replies.Once (do_replies.Ran sum)) (stages_cut (move do_event_in do_reply_in (is_once_event int_eq) once_meaning) object (stage.End sum))

abbrev pub code_cut : ℕ → ℕ → Cutter (Reply ℕ)
code_cut object code = read_cut (λ ended. replies.OnceFunc (failure code)) (stages_cut (move func_event_in func_reply_in (is_once_event (λ a b. a == b)) once_meaning) object (stage.End code))

abbrev pub end_value_cut : ℕ → ℕ → Cutter (Reply ℕ)
end_value_cut object value = read_cut (λ ended. replies.OnceValue value) (stages_cut (move value_event_in value_reply_in (is_once_event (λ a b. a == b)) once_meaning) object (stage.End value))

-- what a once's function does, and its end
abbrev pub run_do_cut : ℕ → ℕ → ℤ → Cutter (Reply ℕ)
run_do_cut object a amount = then_cut (adds_cut a amount) (λ sum. sum_cut object sum)

-- the landing of a flight that came to this
abbrev pub land_cut : ℕ → ℤ → Cutter (Reply ℕ)
land_cut object sum = read_cut (λ outcome. replies.Flown sum (was_shared outcome)) (flight_cut object (flight_stage.Land sum))

-- what the leader of a flight does: the function, and the landing
abbrev pub lead_cut : ℕ → ℕ → ℤ → Cutter (Reply ℕ)
lead_cut object a amount = then_cut (adds_cut a amount) (λ sum. land_cut object sum)

-- the start of a worker
abbrev pub start_cut : ℕ → ℕ → Cutter (Reply ℕ)
start_cut starts worker = read_cut (λ started. replies.Returned) (starts_cut starts (starts_stage.Start worker))

-- a wait, which didn't find the value
abbrev pub waited_cut : (cond mutex : ℕ) → Cutter Bool
waited_cut cond mutex = read_cut (λ waited. false) (cond_cut cond mutex Wait)

-- a test, and a wait behind it where it didn't find the value
abbrev pub try_cut : (cond mutex a : ℕ) → Number → Cutter Bool
try_cut cond mutex a value = then_cut (tests_cut a value) (unless_met_cut (waited_cut cond mutex))

-- the item that a look took, if it took one
abbrev pub taken_cut : PoolOutcome → Cutter (Option ℕ)
taken_cut (Item item) = returns_cut (Some item)
taken_cut Nothing = returns_cut None
taken_cut Kept = never_cut
taken_cut (Dropped item) = never_cut
taken_cut Swept = never_cut

-- one look of a worker's `get`, at the part that it is about
abbrev pub look_cut : (worker first : ℕ) → PoolEvent ℕ → Cutter (Option ℕ)
look_cut worker first look = then_cut (pool_part_cut (first + part_of worker look) (stage_of look)) taken_cut

-- what a step of a cursor shows by its reply
abbrev pub shown_by : SharedReply → Shown
shown_by (shared_replies.Shown (Some pair)) = shown.Pair pair
shown_by (shared_replies.Shown None) = shown.End
shown_by other = shown.Wrong

-- what an item shows, as a step of the cursor that the worker's call of this number began
abbrev pub shown_at : ℕ → Made → Shown
shown_at begin (Shared x) = cond (is_step begin x.call) (shown_by x.reply) shown.Wrong
shown_at begin (Entered object entry) = shown.Wrong

abbrev pub begun_by : Bool → SharedReply → Bool
begun_by begins shared_replies.Begun = begins
begun_by begins other = false

-- whether an item begins a cursor over a map
abbrev pub is_begun : ℕ → Made → Bool
is_begun m (Shared x) = begun_by (is_begin m x.call) x.reply
is_begun m (Entered object entry) = false

-- a range, told by the pairs that were shown
abbrev pub range_cut : (m begin : ℕ) → Cutter (Reply ℕ)
range_cut m begin = read_cut replies.Pairs (shows_cut m begin)
