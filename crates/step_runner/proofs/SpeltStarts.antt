-- What a worker makes on Starts before its script and behind it, where some workers wait to be started, and the `done` of one that was.
use Rattle.std.proofs.Common.{◌≡◌, ◌≢◌, ℕ, zero, suc, Bool, true, false, cond, List, [], ◌∷◌, ◌++◌, get_or, Option, Some, None, refl, sym, ◌∙◌, subst, append-nil, append_assoc}
use Rattle.std.specs.Prelude.{Ok, Err, slice_get}
use Rattle.std.specs.List.{list_any}
use Rattle.sync_model.specs.declared.answer.Answer.TheVariants.{Done, Halted}
use Rattle.sync_model.specs.declared.journal.Deed.TheVariants.{Event}
use Rattle.sync_model.specs.declared.journal.Entry.{Entry}
use Rattle.protocols.specs.Spelling.{CallAnswer}
use Rattle.script_calls.specs.Starts.{group_of}
use Rattle.script_calls.specs.declared.call.Operation.TheVariants as operations
use Rattle.script_calls.specs.declared.call.Reply.{Reply}
use Rattle.sync_types.specs.declared.misuse.Misuse.{Misuse}
use Rattle.sync_types.specs.declared.wait_call.WaitGroupCall.TheVariants as group_calls
use Rattle.starts_core.specs.declared.protocol.StartsOutcome.TheVariants as outcome
use Rattle.starts_core.specs.declared.starts.StartEvent.{StartEvent}
use Rattle.starts_core.specs.declared.starts.StartEvent.TheVariants as starts
use Rattle.starts_core.specs.declared.starts.StartReply.{StartReply}
use Rattle.starts_core.specs.declared.starts.StartReply.TheVariants as told
use Rattle.workload.specs.declared.object.ObjectKind.{ObjectKind}
use Rattle.workload.specs.declared.object.ObjectKind.TheVariants as kinds
use Rattle.workload.specs.declared.object.ObjectLine.{ObjectLine}
use Rattle.workload.specs.Plan.{Plan, is_dormant, has_dormant}
use Rattle.run_record.specs.Calls.{call_on, call_at, SpellsCall}
use Rattle.run_record.specs.Lines.{whole, never, waits, StaysBy}
use Rattle.run_record.specs.Objects.{starts_number}
use Rattle.run_record.specs.Parts.{and_then, returns, with_outcome}
use Rattle.run_record.specs.Record.{object_number}
use Rattle.run_record.specs.StartsKind.{opening, closing, done_under, done_part, wait_start_part, end_part}
use Rattle.run_record.specs.WaitGroupKind.{wait_group_call}
use Rattle.run_record.specs.declared.made.Made.{Made}
use Rattle.step_runner.specs.Spelt.{made_on_starts, going_items, opening_items, closing_items, stays_by}
use Rattle.step_runner.specs.TurnWithin.{done_on}
use Rattle.step_runner.specs.Turns.{done_calls, closing_calls}

-- an event of a worker on it
abbrev entry_on : ℕ → StartEvent → StartReply → Entry StartEvent StartReply
entry_on worker event answer = record { caller = worker; deed = Event event answer; front = []; knew = 0; time = 0 }

-- ---- before the script

-- one that is told that it is never started
leaves : (plan : Plan) (worker : ℕ) → wait_start_part (starts_number plan) (made_on_starts plan worker starts.Leave told.Never) (Done (Ok false))
leaves plan worker = (Done (Ok (outcome.Started false)), (entry_on worker starts.Leave told.Never ∷ [], refl, ((0, refl), (refl, refl))), refl)

opens_asleep : (plan : Plan) (worker : ℕ) → is_dormant plan worker ≡ true → opening plan worker (made_on_starts plan worker starts.Leave told.Never) (Done (Ok false))
opens_asleep plan worker asleep =
    subst (λ (b : Bool). cond b (wait_start_part (starts_number plan)) (returns true) (made_on_starts plan worker starts.Leave told.Never) (Done (Ok false))) (sym asleep) (leaves plan worker)

-- who waits to be started stays, and leaves where the run has ended
pub stays : (plan : Plan) (worker : ℕ) (over : Bool) → is_dormant plan worker ≡ true → StaysBy plan worker (cond over never waits) (opening_items plan worker (stays_by over))
stays plan worker true asleep = opens_asleep plan worker asleep
stays plan worker false asleep = (made_on_starts plan worker starts.Leave told.Never, Done (Ok false), some, opens_asleep plan worker asleep)
  where
    some : made_on_starts plan worker starts.Leave told.Never ≢ []
    some e = cc

-- whoever is started goes, and any other comes to its script at once
pub opens : (plan : Plan) (worker : ℕ) → opening plan worker (going_items plan worker) (Done (Ok true))
opens plan worker = by_sort (is_dormant plan worker)
  where
    by_sort : (b : Bool) → cond b (wait_start_part (starts_number plan)) (returns true) (cond b (made_on_starts plan worker starts.Leave told.Go) []) (Done (Ok true))
    by_sort true = (Done (Ok (outcome.Started true)), (entry_on worker starts.Leave told.Go ∷ [], refl, ((0, refl), (refl, refl))), refl)
    by_sort false = (refl, refl)

-- ---- what is done on a group

-- nothing, where no call stands behind the script
pub none_done : (plan : Plan) (worker : ℕ) → closing_calls plan worker ≡ [] → done_part plan worker [] (Done (Ok tt))
none_done plan worker none = by_sort (is_dormant plan worker) (group_of worker plan.scripts) none
  where
    by_sort : (b : Bool) (group : Option ℕ) → cond b (done_calls group) [] ≡ [] → cond b (done_under group) (returns tt) [] (Done (Ok tt))
    by_sort false group none = (refl, refl)
    by_sort true None none = (refl, refl)
    by_sort true (Some group) none = absurd cc

-- or for one that doesn't wait to be started
pub awake_done : (plan : Plan) (worker : ℕ) → is_dormant plan worker ≡ false → done_part plan worker [] (Done (Ok tt))
awake_done plan worker awake = subst (λ (b : Bool). cond b (done_under (group_of worker plan.scripts)) (returns tt) [] (Done (Ok tt))) (sym awake) (refl, refl)

-- else the items spell the `done`
module _ (plan : Plan) (worker before group : ℕ) where
  at_kind : (kind : ObjectKind) (items : List Made) (answer : CallAnswer (Reply ℕ)) → call_on plan worker before group kind (operations.WaitGroup group_calls.Done) items answer
      → wait_group_call (object_number group) group_calls.Done items answer
  at_kind (kinds.WaitGroup start) items answer spelt = spelt
  at_kind kind items answer none = absurd none

  at_line : (o : Option ObjectLine) (items : List Made) (answer : CallAnswer (Reply ℕ)) → call_at plan worker before group o (operations.WaitGroup group_calls.Done) items answer
      → wait_group_call (object_number group) group_calls.Done items answer
  at_line None items answer none = absurd none
  at_line (Some line) items answer spelt = at_kind line.kind items answer spelt

  pub done_spelt : (items : List Made) (answer : CallAnswer (Reply ℕ)) → is_dormant plan worker ≡ true → group_of worker plan.scripts ≡ Some group → SpellsCall plan worker before (done_on group) items answer
      → done_part plan worker items (with_outcome (λ (reply : Reply ℕ). tt) answer)
  done_spelt items answer asleep under spelt =
      subst (λ (b : Bool). cond b (done_under (group_of worker plan.scripts)) (returns tt) items (with_outcome (λ (reply : Reply ℕ). tt) answer)) (sym asleep)
      (subst (λ (o : Option ℕ). done_under o items (with_outcome (λ (reply : Reply ℕ). tt) answer)) (sym under) (answer, at_line (slice_get plan.objects group) items answer spelt, refl))

-- ---- behind the script

nobody : (dormant : List Bool) (worker : ℕ) → list_any (λ (waits : Bool). waits) dormant ≡ false → get_or dormant worker false ≡ false
nobody [] worker none = refl
nobody (true ∷ dormant) worker none = absurd cc
nobody (false ∷ dormant) zero none = refl
nobody (false ∷ dormant) (suc worker) none = nobody dormant worker none

some_waits : (plan : Plan) (worker : ℕ) → is_dormant plan worker ≡ true → has_dormant plan ≡ true
some_waits plan worker asleep = by_any (has_dormant plan) refl
  where
    by_any : (b : Bool) → has_dormant plan ≡ b → b ≡ true
    by_any true some = refl
    by_any false none = let clash : true ≡ false = sym asleep ∙ nobody plan.dormant worker none in cc

module _ (plan : Plan) (worker : ℕ) where
  abbrev ending : List Made
  ending = made_on_starts plan worker starts.End told.Done

  ends : end_part (starts_number plan) ending (Done (Ok tt))
  ends = (Done (Ok outcome.Done), (entry_on worker starts.End told.Done ∷ [], refl, ((0, refl), (refl, refl))), refl)

  -- a worker ends behind what it did on its group, where some wait to be started
  pub closes : (last : List Made) → done_part plan worker last (Done (Ok tt)) → closing plan worker (last ++ closing_items plan worker whole) (Done (Ok tt))
  closes last done = by_any (has_dormant plan) refl
    where
      nothing : has_dormant plan ≡ false → last ≡ []
      nothing none = (subst (λ (b : Bool). cond b (done_under (group_of worker plan.scripts)) (returns tt) last (Done (Ok tt))) (nobody plan.dormant worker none) done).0

      by_any : (b : Bool) → has_dormant plan ≡ b
          → cond b (and_then (done_part plan worker) (λ done. end_part (starts_number plan))) (returns tt) (last ++ cond b (made_on_starts plan worker starts.End told.Done) []) (Done (Ok tt))
      by_any true some = (last, ending, Done (Ok tt), refl, done, ends)
      by_any false none = (append-nil last ∙ nothing none, refl)

  module _ (asleep : is_dormant plan worker ≡ true) where
    closing_is : (items : List Made) (answer : CallAnswer (Unit {0})) → and_then (done_part plan worker) (λ done. end_part (starts_number plan)) items answer → closing plan worker items answer
    closing_is items answer spelt =
        subst (λ (b : Bool). cond b (and_then (done_part plan worker) (λ done. end_part (starts_number plan))) (returns tt) items answer) (sym (some_waits plan worker asleep)) spelt

    -- not behind a misuse
    pub closes_misused : (last : List Made) (misuse : Misuse) → done_part plan worker last (Done (Err misuse)) → closing plan worker last (Done (Err misuse))
    closes_misused last misuse done = closing_is last (Done (Err misuse)) (last, [], Done (Err misuse), sym (append-nil last), done, (refl, refl))

    -- with what may follow some items
    abbrev pub ClosesLater : List Made → Type 0
    ClosesLater last = (later : List Made) × (answer : CallAnswer (Unit {0})) × (later ≢ []) × closing plan worker (last ++ later) answer

    pub closes_later : (last later : List Made) (given : CallAnswer (Unit {0})) → later ≢ [] → done_part plan worker (last ++ later) given → ClosesLater last
    closes_later last later (Done (Ok tt)) some done =
        (later ++ ending, Done (Ok tt), more later some, closing_is (last ++ (later ++ ending)) (Done (Ok tt)) (last ++ later, ending, Done (Ok tt), sym (append_assoc last later ending), done, ends))
      where
        more : (later : List Made) → later ≢ [] → later ++ ending ≢ []
        more [] some e = some refl
        more (x ∷ later) some e = cc
    closes_later last later (Done (Err misuse)) some done = (later, Done (Err misuse), some, closes_misused (last ++ later) misuse done)
    closes_later last later (Halted misuse) some done =
        (later, Halted misuse, some, closing_is (last ++ later) (Halted misuse) (last ++ later, [], Halted misuse, sym (append-nil (last ++ later)), done, (refl, refl)))
