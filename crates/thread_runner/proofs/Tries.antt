-- What is left of a `waitfor`, try by try.
use Rattle.std.proofs.Common.{◌≡◌, ℕ, suc, ◌+◌, Bool, true, false, refl, sym, arith, Ok, Err}
use Rattle.std.proofs.lemmas.Bool.{false≢true}
use Rattle.sync_model.specs.declared.answer.Answer.TheVariants.{Done, Halted}
use Rattle.sync_types.specs.declared.atomic_object.Number.{Number}
use Rattle.script_calls.specs.declared.call.Reply.{Reply}
use Rattle.sync_types.specs.declared.misuse.Misuse.{Misuse}
use Rattle.protocols.specs.Spelling.{CallAnswer}
use Rattle.run_record.specs.CondKind.{wait_part}
use Rattle.run_record.specs.Parts.{returns}
use Rattle.run_record.specs.Tests.{tests, waits_for}
use Rattle.thread_objects.specs.Laws.{Stays, Joins}
use Rattle.thread_objects.specs.Working.{Desk, Works}
use Rattle.thread_runner.specs.Replies.{is_unmet}
use Rattle.thread_runner.proofs.Working.{rests, halted_first, erred_first, went_first}

module _ (cond mutex a : ℕ) (value : Number) (tries : ℕ) (start : Desk) where
  abbrev pub WaitsAll : CallAnswer Bool → Desk → Type 0
  WaitsAll answer new = Works (waits_for cond mutex a value tries) start answer new

  -- after so many waits, whatever works what is left, works the whole
  abbrev pub WaitsOn : ℕ → Desk → Type 0
  WaitsOn made now = (left : ℕ) → left + made ≡ tries → (answer : CallAnswer Bool) (new : Desk) → Works (waits_for cond mutex a value left) now answer new → WaitsAll answer new

  module _ (made : ℕ) (now between later : Desk) (on : WaitsOn made now) where
    -- what works a test and, unless that found the number, a wait and the rest, works the whole
    through : (left : ℕ) → suc left + made ≡ tries → (answer : CallAnswer Bool) (new : Desk) → Works (waits_for cond mutex a value (suc left)) now answer new → WaitsAll answer new
    through left is answer new works = on (suc left) is answer new works

    pub found : Stays → Joins → (left : ℕ) → suc left + made ≡ tries → Works (tests a value) now (Done (Ok true)) between → WaitsAll (Done (Ok true)) between
    found stays joined left is tested =
        through left is _ between (went_first stays joined (tests a value) _ now between true between (Done (Ok true)) tested (rests stays (returns true) between _ (refl, refl)))

    pub tested_erred : Stays → Joins → (left : ℕ) → suc left + made ≡ tries → (misuse : Misuse) → Works (tests a value) now (Done (Err misuse)) between → WaitsAll (Done (Err misuse)) between
    tested_erred stays joined left is misuse tested = through left is _ between (erred_first stays joined (tests a value) _ now between misuse tested)

    pub tested_halted : Stays → Joins → (left : ℕ) → suc left + made ≡ tries → (misuse : Misuse) → Works (tests a value) now (Halted misuse) between → WaitsAll (Halted misuse) between
    tested_halted stays joined left is misuse tested = through left is _ between (halted_first stays joined (tests a value) _ now between misuse tested)

    -- whatever a test answers but another number ends the call
    pub ended : Stays → Joins → (left : ℕ) → suc left + made ≡ tries → (answer : CallAnswer Bool) → is_unmet answer ≡ false → Works (tests a value) now answer between → WaitsAll answer between
    ended stays joined left is (Done (Ok true)) other tested = found stays joined left is tested
    ended stays joined left is (Done (Ok false)) other tested = absurd (false≢true (sym other))
    ended stays joined left is (Done (Err misuse)) other tested = tested_erred stays joined left is misuse tested
    ended stays joined left is (Halted misuse) other tested = tested_halted stays joined left is misuse tested

    -- and another number goes on
    pub unmet : (answer : CallAnswer Bool) → is_unmet answer ≡ true → Works (tests a value) now answer between → Works (tests a value) now (Done (Ok false)) between
    unmet (Done (Ok true)) is tested = absurd (false≢true is)
    unmet (Done (Ok false)) is tested = tested
    unmet (Done (Err misuse)) is tested = absurd (false≢true is)
    unmet (Halted misuse) is tested = absurd (false≢true is)

    pub waited : Stays → Joins → (reply : Reply ℕ) → Works (tests a value) now (Done (Ok false)) between → Works (wait_part cond mutex) between (Done (Ok reply)) later → WaitsOn (made + 1) later
    waited stays joined reply tested wait left is answer new works =
        through left (omega (arith, is)) answer new (went_first stays joined (tests a value) _ now between false new answer tested (went_first stays joined (wait_part cond mutex) _ between later reply new answer wait works))

    pub wait_erred : Stays → Joins → (left : ℕ) → suc left + made ≡ tries → (misuse : Misuse) → Works (tests a value) now (Done (Ok false)) between → Works (wait_part cond mutex) between (Done (Err misuse)) later → WaitsAll (Done (Err misuse)) later
    wait_erred stays joined left is misuse tested wait =
        through left is _ later (went_first stays joined (tests a value) _ now between false later (Done (Err misuse)) tested (erred_first stays joined (wait_part cond mutex) _ between later misuse wait))

    pub wait_halted : Stays → Joins → (left : ℕ) → suc left + made ≡ tries → (misuse : Misuse) → Works (tests a value) now (Done (Ok false)) between → Works (wait_part cond mutex) between (Halted misuse) later → WaitsAll (Halted misuse) later
    wait_halted stays joined left is misuse tested wait =
        through left is _ later (went_first stays joined (tests a value) _ now between false later (Halted misuse) tested (halted_first stays joined (wait_part cond mutex) _ between later misuse wait))
