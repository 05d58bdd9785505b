-- What a turn before a call or within it uses up: of what is left to do at the objects, and of the waits that the call may make.
use Rattle.std.proofs.Common.{◌≡◌, ℕ, zero, suc, ◌+◌, ◌<◌, ◌≤◌, List, sum_by, refl, ap, arith}
use Rattle.sync_types.specs.declared.atomic_object.Number.{Number}
use Rattle.script_calls.specs.declared.call.Call.{Call}
use Rattle.script_calls.specs.declared.call.ComposedCall.TheVariants.{WaitFor, Go}
use Rattle.script_calls.specs.declared.call.Operation.{Operation}
use Rattle.script_calls.specs.declared.call.Operation.TheVariants as operations
use Rattle.workload.specs.Draft.{tries_of}
use Rattle.step_runner.specs.declared.turns.answer.Answer.{Answer}
use Rattle.step_runner.specs.declared.turns.answer.Answer.TheVariants as answers
use Rattle.step_runner.specs.declared.turns.object_state.ObjectState.{ObjectState}
use Rattle.step_runner.specs.Completes.{IsCompleted}
use Rattle.step_runner.specs.declared.turns.item.Item.{Item}
use Rattle.step_runner.specs.MachinesStand.{MutexStands}
use Rattle.step_runner.specs.ObjectLeft.{object_left, UsesBy}
use Rattle.step_runner.specs.Ready.{IsReady}
use Rattle.step_runner.specs.StandsWithin.{ReadyBy, IsReadyWithin, UsesWithin}
use Rattle.step_runner.specs.TurnAtObjects.{turn_at}
use Rattle.step_runner.specs.TurnWithin.{wait_on, add_one, Taken, begin_wait, turn_by_operation, turn_within}
use Rattle.step_runner.proofs.TurnsWithin.{Steps, takes}
use Rattle.step_runner.proofs.WaitTurns.{Holds, returned_holds, holding_open}
use Rattle.step_runner.proofs.WithinLemmas.{Any, Both, Stays, both_stay, begun_waits}

-- ---- how many waits were begun

module _ (worker moment cond atomic : ℕ) (value : Number) (tries : ℕ) where
  abbrev Few : ℕ → List ObjectState → List Item → Taken → Type 0
  Few begun objects made taken = begun ≤ tries → taken.0.1 ≤ tries

  few_steps : Steps worker moment cond atomic value tries Any Few Few
  few_steps = record {
    stays = λ objects before. tt;
    done = λ met begun objects before few. few;
    begins = λ begun objects before fewer few. omega (arith, fewer, begun_waits begun (turn_at (wait_on cond) worker moment objects));
    first = λ objects made taken before looks. looks;
    waits = λ begun objects before runs_on few. few;
    returned = λ begun objects later taken before completed looks. looks;
  }

by_few : (operation : Operation) (call : Call) (worker moment begun : ℕ) (objects : List ObjectState) → begun ≤ tries_of operation → (turn_by_operation call worker moment begun objects operation).0.1 ≤ tries_of operation
by_few (operations.Composed (WaitFor atomic value tries)) call worker moment begun objects few =
    takes worker moment call.object atomic value tries Any (Few worker moment call.object atomic value tries) (Few worker moment call.object atomic value tries) (few_steps worker moment call.object atomic value tries) begun objects tt few
by_few operation call worker moment begun objects few = few

pub within_few : (worker moment begun : ℕ) (call : Call) (objects : List ObjectState) → begun ≤ tries_of call.operation → (turn_within call worker moment begun objects).0.1 ≤ tries_of call.operation
within_few worker moment begun call objects few = by_few call.operation call worker moment begun objects few

-- ---- what is used up

-- a load with what follows it completes the call and changes nothing, or begins one wait more; where the worker has the mutex, that completes nothing
abbrev Spent : (holds : Type 0) → (begun later old new : ℕ) → Answer → Type 0
Spent holds begun later old new answers.Still = ⊥
Spent holds begun later old new answers.Unfinished = (later ≡ begun + 1) × ((new < old + 4) × (holds → new ≤ old))
Spent holds begun later old new (answers.Completed reply) = new ≡ old
Spent holds begun later old new (answers.Misused misuse) = Unit {0}

begun_spends : (holds : Type 0) (begun : ℕ) (objects : List ObjectState) (step : List ObjectState × Answer) → (holds → IsCompleted step.1 → ⊥) → UsesBy (sum_by object_left objects) (sum_by object_left step.0) (step.0 ≡ objects) step.1
    → Spent holds begun (begin_wait begun step).0.1 (sum_by object_left objects) (sum_by object_left (begin_wait begun step).0.0) (begin_wait begun step).1
begun_spends holds begun objects (after, answers.Still) runs_on used =
    let same : sum_by object_left after ≡ sum_by object_left objects = ap (sum_by object_left) used in
    (refl, (omega (arith, same), λ held. omega (arith, same)))
begun_spends holds begun objects (after, answers.Unfinished) runs_on used = (refl, (omega (arith, used), λ held. omega (arith, used)))
begun_spends holds begun objects (after, answers.Completed reply) runs_on used = (refl, (used, λ held. absurd (runs_on held tt)))
begun_spends holds begun objects (after, answers.Misused misuse) runs_on used = tt

first_uses : (holds same : Type 0) (later old new : ℕ) (a : Answer) → Spent holds zero later old new a → UsesWithin zero later old new same a
first_uses holds same later old new answers.Still spent = absurd spent
first_uses holds same later old new answers.Unfinished spent = omega (arith, spent.0, spent.1.0)
first_uses holds same later old new (answers.Completed reply) spent = omega (arith, spent)
first_uses holds same later old new (answers.Misused misuse) spent = tt

open_uses : (same : Type 0) (begun old new : ℕ) (a : Answer) → UsesBy old new same a → UsesWithin begun begun old new same a
open_uses same begun old new answers.Still used = (used, refl)
open_uses same begun old new answers.Unfinished used = omega (arith, used)
open_uses same begun old new (answers.Completed reply) used = used
open_uses same begun old new (answers.Misused misuse) used = tt

completed_uses : (same : Type 0) (old new : ℕ) (a : Answer) → IsCompleted a → UsesBy old new same a → new < old + 4
completed_uses same old new answers.Still completed used = absurd completed
completed_uses same old new answers.Unfinished completed used = absurd completed
completed_uses same old new (answers.Completed reply) completed used = used
completed_uses same old new (answers.Misused misuse) completed used = absurd completed

returned_uses : (holds same : Type 0) (begun later old mid new : ℕ) (a : Answer) → holds → mid < old + 4 → Spent holds begun later mid new a → UsesWithin begun later old new same a
returned_uses holds same begun later old mid new answers.Still held less spent = absurd spent
returned_uses holds same begun later old mid new answers.Unfinished held less spent = omega (arith, less, spent.0, spent.1.1 held)
returned_uses holds same begun later old mid new (answers.Completed reply) held less spent = omega (arith, less, spent)
returned_uses holds same begun later old mid new (answers.Misused misuse) held less spent = tt

-- what the law of one turn says
abbrev pub Uses : Type 0
Uses = (workers worker moment : ℕ) (call : Call) (objects : List ObjectState) → IsReady workers worker call objects
    → UsesBy (sum_by object_left objects) (sum_by object_left (turn_at call worker moment objects).0) ((turn_at call worker moment objects).0 ≡ objects) (turn_at call worker moment objects).1

module _ (law : MutexStands) (stays : Stays) (uses : Uses) (workers worker moment : ℕ) where
  module _ (cond atomic : ℕ) (value : Number) (tries : ℕ) where
    abbrev LookUses : ℕ → List ObjectState → List Item → Taken → Type 0
    LookUses begun objects made taken = Spent (Holds worker cond objects) begun taken.0.1 (sum_by object_left objects) (sum_by object_left taken.0.0) taken.1

    abbrev TurnUses : ℕ → List ObjectState → List Item → Taken → Type 0
    TurnUses begun objects made taken = UsesWithin begun taken.0.1 (sum_by object_left objects) (sum_by object_left taken.0.0) (taken.0.0 ≡ objects) taken.1

    use_steps : Steps worker moment cond atomic value tries (Both workers worker cond atomic) LookUses TurnUses
    use_steps = record {
      stays = both_stay stays workers worker moment cond atomic;
      done = λ met begun objects both. refl;
      begins = λ begun objects both fewer.
          begun_spends (Holds worker cond objects) begun objects (turn_at (wait_on cond) worker moment objects) (λ held. holding_open workers worker moment cond objects both.0 held) (uses workers worker moment (wait_on cond) objects both.0);
      first = λ objects made taken both spent. first_uses (Holds worker cond objects) (taken.0.0 ≡ objects) taken.0.1 (sum_by object_left objects) (sum_by object_left taken.0.0) taken.1 spent;
      waits = λ begun objects both runs_on.
          let step = turn_at (wait_on cond) worker moment objects in
          open_uses (step.0 ≡ objects) (suc begun) (sum_by object_left objects) (sum_by object_left step.0) step.1 (uses workers worker moment (wait_on cond) objects both.0);
      returned = λ begun objects later taken both completed spent.
          let step = turn_at (wait_on cond) worker moment objects in
          returned_uses (Holds worker cond step.0) (taken.0.0 ≡ objects) (suc begun) taken.0.1 (sum_by object_left objects) (sum_by object_left step.0) (sum_by object_left taken.0.0) taken.1
          (returned_holds law workers worker moment cond objects both.0 completed)
          (completed_uses (step.0 ≡ objects) (sum_by object_left objects) (sum_by object_left step.0) step.1 completed (uses workers worker moment (wait_on cond) objects both.0)) spent;
    }

  by_uses : (operation : Operation) (call : Call) (begun : ℕ) (objects : List ObjectState) → ReadyBy workers worker call objects operation
      → UsesWithin begun (turn_by_operation call worker moment begun objects operation).0.1 (sum_by object_left objects) (sum_by object_left (turn_by_operation call worker moment begun objects operation).0.0)
      ((turn_by_operation call worker moment begun objects operation).0.0 ≡ objects) (turn_by_operation call worker moment begun objects operation).1
  by_uses (operations.Composed (WaitFor atomic value tries)) call begun objects ready =
      takes worker moment call.object atomic value tries (Both workers worker call.object atomic) (LookUses call.object atomic value tries) (TurnUses call.object atomic value tries) (use_steps call.object atomic value tries) begun objects ready
  by_uses (operations.Composed (Go started)) call begun objects ready =
      let add = add_one call.object in
      let step = turn_at add worker moment objects in
      open_uses (step.0 ≡ objects) begun (sum_by object_left objects) (sum_by object_left step.0) step.1 (uses workers worker moment add objects ready)
  by_uses operation call begun objects ready =
      let step = turn_at call worker moment objects in
      open_uses (step.0 ≡ objects) begun (sum_by object_left objects) (sum_by object_left step.0) step.1 (uses workers worker moment call objects ready)

pub within_uses : MutexStands → Stays → Uses → (workers worker moment begun : ℕ) (call : Call) (objects : List ObjectState) → IsReadyWithin workers worker call objects
    → UsesWithin begun (turn_within call worker moment begun objects).0.1 (sum_by object_left objects) (sum_by object_left (turn_within call worker moment begun objects).0.0) ((turn_within call worker moment begun objects).0.0 ≡ objects)
    (turn_within call worker moment begun objects).1
within_uses law stays uses workers worker moment begun call objects ready = by_uses law stays uses workers worker moment call.operation call begun objects ready
