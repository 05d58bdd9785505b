-- The looks of a pool's get, and the parts of a sweep, one after the other.
use Rattle.std.proofs.Common.{◌≡◌, ℕ, ◌+◌, ◌-◌, ◌*◌, ◌<◌, suc, List, [], ◌∷◌, map, Ok, refl, sym, ap, ◌∙◌, subst, arith}
use Rattle.std.specs.List.{range_with_len}
use Rattle.sync_model.specs.declared.answer.Answer.TheVariants.{Done, Halted}
use Rattle.script_calls.specs.declared.call.Reply.{Reply}
use Rattle.script_calls.specs.declared.call.Reply.TheVariants as replies
use Rattle.sync_types.specs.declared.misuse.Misuse.{Misuse}
use Rattle.sync_types.specs.declared.pool_call.PoolCallReply.TheVariants as pool_replies
use Rattle.pool_core.specs.declared.pool_event.PoolEvent.{PoolEvent}
use Rattle.pool_core.specs.declared.pool_event.PoolEvent.TheVariants as events
use Rattle.pool_core.specs.Looks.{look}
use Rattle.protocols.specs.PoolStages.{pool_event}
use Rattle.protocols.specs.declared.pool.PoolOutcome.{PoolOutcome}
use Rattle.protocols.specs.declared.pool.PoolOutcome.TheVariants.{Item, Nothing}
use Rattle.protocols.specs.declared.pool.PoolStage.{PoolStage}
use Rattle.protocols.specs.declared.pool.PoolStage.TheVariants.{Sweep}
use Rattle.protocols.specs.Spelling.{CallAnswer}
use Rattle.run_record.specs.Parts.{returns}
use Rattle.run_record.specs.PoolKind.{pool_part, part_of, found_or, found_by, looks_of, stage_of, swept_by}
use Rattle.thread_objects.specs.Working.{Desk, Works}
use Rattle.thread_objects.specs.Laws.{Stays, Joins}
use Rattle.thread_runner.proofs.Working.{rests, halted_first, went_first}

-- an event's stage is made at the part that the event is about
named : (worker : ℕ) (e : PoolEvent ℕ) → part_of worker (pool_event (stage_of e) 0) ≡ part_of worker e
named worker (events.Put item) = refl
named worker events.LookOwn = refl
named worker (events.LookOther part) = refl
named worker (events.LookVictim part) = refl
named worker events.Sweep = refl

module _ (workers worker first : ℕ) where
  -- the looks that are left
  abbrev pub looks_from : ℕ → List (PoolEvent ℕ)
  looks_from from = map (look workers worker) (range_with_len from (2 * workers - from))

  -- from here the looks that are left answer what all looks answer from the start
  abbrev pub AnswersAll : ℕ → Desk → Desk → Type 0
  AnswersAll from start now = (answer : CallAnswer (Reply ℕ)) (new : Desk) → Works (found_by worker first (looks_from from)) now answer new → Works (found_by worker first (looks_of workers worker)) start answer new

  next_look : (from : ℕ) → from < 2 * workers → looks_from from ≡ look workers worker from ∷ looks_from (from + 1)
  next_look from within =
      let one_less : 2 * workers - from ≡ suc (2 * workers - (from + 1)) = omega (arith, within) in
      ap (λ (n : ℕ). map (look workers worker) (range_with_len from n)) one_less

  no_look : (from : ℕ) → from ≡ 2 * workers → looks_from from ≡ []
  no_look from end =
      let none : 2 * workers - from ≡ 0 = omega (arith, end) in
      ap (λ (n : ℕ). map (look workers worker) (range_with_len from n)) none

  module _ (from : ℕ) (start now later : Desk) (all : AnswersAll from start now) where
    -- the object that this look is made on, and how it is made
    abbrev object : ℕ
    object = first + part_of worker (look workers worker from)

    abbrev stage : PoolStage
    stage = stage_of (look workers worker from)

    -- what this look and those behind it answer, all looks answer
    through : from < 2 * workers → (answer : CallAnswer (Reply ℕ)) (new : Desk) → Works (found_by worker first (look workers worker from ∷ looks_from (from + 1))) now answer new → Works (found_by worker first (looks_of workers worker)) start answer new
    through within answer new works = all answer new (subst (λ (looks : List (PoolEvent ℕ)). Works (found_by worker first looks) now answer new) (sym (next_look from within)) works)

    -- this look
    abbrev pub Looked : CallAnswer PoolOutcome → Type 0
    Looked given = Works (pool_part object stage) now given later

    pub looked_by : (part : ℕ) (made : PoolStage) (given : CallAnswer PoolOutcome) → part ≡ part_of worker (pool_event made 0) → made ≡ stage → Works (pool_part (first + part) made) now given later → Looked given
    looked_by part made given there is works =
        let at : part ≡ part_of worker (look workers worker from) = there ∙ ap (λ (s : PoolStage). part_of worker (pool_event s 0)) is ∙ named worker (look workers worker from) in
        subst (λ (s : PoolStage). Works (pool_part object s) now given later) is (subst (λ (p : ℕ). Works (pool_part (first + p) made) now given later) at works)

    pub looked_on : Stays → Joins → from < 2 * workers → Looked (Done (Ok Nothing)) → AnswersAll (from + 1) start later
    looked_on stays joined within looked answer new works = through within answer new (went_first stays joined (pool_part object stage) (found_or (found_by worker first (looks_from (from + 1)))) now later Nothing new answer looked works)

    pub took : Stays → Joins → from < 2 * workers → (item : ℕ) → Looked (Done (Ok (Item item))) → Works (found_by worker first (looks_of workers worker)) start (Done (Ok (replies.Pool (pool_replies.Put item)))) later
    took stays joined within item looked =
        through within _ later (went_first stays joined (pool_part object stage) (found_or (found_by worker first (looks_from (from + 1)))) now later (Item item) later (Done (Ok (replies.Pool (pool_replies.Put item)))) looked
        (rests stays (returns (replies.Pool (pool_replies.Put item))) later _ (refl, refl)))

    pub halted : Stays → Joins → from < 2 * workers → (misuse : Misuse) → Looked (Halted misuse) → Works (found_by worker first (looks_of workers worker)) start (Halted misuse) later
    halted stays joined within misuse looked = through within _ later (halted_first stays joined (pool_part object stage) (found_or (found_by worker first (looks_from (from + 1)))) now later misuse looked)

  -- all looks found nothing
  pub found_none : Stays → (from : ℕ) (start now : Desk) → AnswersAll from start now → from ≡ 2 * workers → Works (found_by worker first (looks_of workers worker)) start (Done (Ok (replies.Pool pool_replies.New))) now
  found_none stays from start now all end =
      all _ now (subst (λ (looks : List (PoolEvent ℕ)). Works (found_by worker first looks) now (Done (Ok (replies.Pool pool_replies.New))) now) (sym (no_look from end))
      (rests stays (returns (replies.Pool pool_replies.New)) now _ (refl, refl)))

module _ (workers first : ℕ) where
  -- the parts that are left, and from here they answer what all answer from the start
  abbrev pub parts_from : ℕ → List ℕ
  parts_from from = range_with_len from (workers - from)

  abbrev pub SweepsAll : ℕ → Desk → Desk → Type 0
  SweepsAll from start now = (answer : CallAnswer (Reply ℕ)) (new : Desk) → Works (swept_by first (parts_from from)) now answer new → Works (swept_by first (range_with_len 0 workers)) start answer new

  module _ (from : ℕ) (start now later : Desk) (all : SweepsAll from start now) (within : from < workers) where
    sweeps : (answer : CallAnswer (Reply ℕ)) (new : Desk) → Works (swept_by first (from ∷ parts_from (from + 1))) now answer new → Works (swept_by first (range_with_len 0 workers)) start answer new
    sweeps answer new works =
        let one_less : workers - from ≡ suc (workers - (from + 1)) = omega (arith, within) in
        all answer new (subst (λ (parts : List ℕ). Works (swept_by first parts) now answer new) (sym (ap (λ (n : ℕ). range_with_len from n) one_less)) works)

    pub swept_on : Stays → Joins → (outcome : PoolOutcome) → Works (pool_part (first + from) Sweep) now (Done (Ok outcome)) later → SweepsAll (from + 1) start later
    swept_on stays joined outcome swept answer new works = sweeps answer new (went_first stays joined (pool_part (first + from) Sweep) (λ done. swept_by first (parts_from (from + 1))) now later outcome new answer swept works)

    pub sweep_halted : Stays → Joins → (misuse : Misuse) → Works (pool_part (first + from) Sweep) now (Halted misuse) later → Works (swept_by first (range_with_len 0 workers)) start (Halted misuse) later
    sweep_halted stays joined misuse met = sweeps _ later (halted_first stays joined (pool_part (first + from) Sweep) (λ done. swept_by first (parts_from (from + 1))) now later misuse met)

  -- all parts are swept
  pub swept_all : Stays → (from : ℕ) (start now : Desk) → SweepsAll from start now → from ≡ workers → Works (swept_by first (range_with_len 0 workers)) start (Done (Ok (replies.Pool pool_replies.Done))) now
  swept_all stays from start now all end =
      let none : workers - from ≡ 0 = omega (arith, end) in
      all _ now (subst (λ (parts : List ℕ). Works (swept_by first parts) now (Done (Ok (replies.Pool pool_replies.Done))) now) (sym (ap (λ (n : ℕ). range_with_len from n) none))
      (rests stays (returns (replies.Pool pool_replies.Done)) now _ (refl, refl)))
