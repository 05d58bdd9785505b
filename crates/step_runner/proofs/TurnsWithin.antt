-- A turn before a call or within it, by the turns at objects that it is made of: a `waitfor` takes at most two of a wait, with a load between them that changes nothing, and any
-- other call takes one.
use Rattle.std.proofs.Common.{◌≡◌, ℕ, zero, suc, ◌<◌, Bool, true, false, nat_le, List, [], ◌++◌, refl, sym, subst}
use Rattle.std.proofs.lemmas.Bool.{leb-false}
use Rattle.std.proofs.lemmas.List.{append-nil}
use Rattle.sync_types.specs.declared.atomic_object.Number.{Number}
use Rattle.script_calls.specs.declared.call.Call.{Call}
use Rattle.step_runner.specs.declared.turns.answer.Answer.{Answer}
use Rattle.step_runner.specs.declared.turns.answer.Answer.TheVariants as answers
use Rattle.step_runner.specs.declared.turns.object_state.ObjectState.{ObjectState}
use Rattle.step_runner.specs.Completes.{IsCompleted}
use Rattle.step_runner.specs.declared.turns.item.Item.{Item}
use Rattle.step_runner.specs.Items.{items_at}
use Rattle.step_runner.specs.TurnAtObjects.{turn_at}
use Rattle.step_runner.specs.TurnWithin.{wait_on, load_of, is_met, Taken, begin_wait, tells, unless_last, unless_met, look, behind_wait, wait_for_turn, unless_last_items, unless_met_items, look_items, behind_wait_items, wait_for_items}

-- the objects behind a turn with which a wait begins
pub begun_objects : (begun : ℕ) (step : List ObjectState × Answer) → (begin_wait begun step).0.0 ≡ step.0
begun_objects begun (objects, answers.Still) = refl
begun_objects begun (objects, answers.Unfinished) = refl
begun_objects begun (objects, answers.Completed reply) = refl
begun_objects begun (objects, answers.Misused misuse) = refl

module _ (worker moment cond atomic : ℕ) (value : Number) (tries : ℕ) where
  abbrev pub wait_turn : List ObjectState → List ObjectState × Answer
  wait_turn objects = turn_at (wait_on cond) worker moment objects

  abbrev pub wait_items : List ObjectState → List Item
  wait_items objects = items_at (wait_on cond) worker moment objects

  abbrev pub loaded : List ObjectState → List Item
  loaded objects = items_at (load_of atomic) worker moment objects

  -- what is so before each turn of a wait; what is so of a load with what follows it, by how many waits were begun, the objects, the items and what they come to; and of a whole turn
  module _ (Before : List ObjectState → Type 0) (Looks Takes : ℕ → List ObjectState → List Item → Taken → Type 0) where
    pub record Steps : Type 0 where
      pub stays : (objects : List ObjectState) → Before objects → Before (wait_turn objects).0
      -- the load completes the call, or a wait begins
      pub done : (met : Bool) (begun : ℕ) (objects : List ObjectState) → Before objects → Looks begun objects (loaded objects ++ []) ((objects, begun), tells met)
      pub begins : (begun : ℕ) (objects : List ObjectState) → Before objects → begun < tries → Looks begun objects (loaded objects ++ wait_items objects) (begin_wait begun (wait_turn objects))
      -- the first turn is a load; any later one goes on with a wait, and is a load with what follows it where that returned
      pub first : (objects : List ObjectState) (made : List Item) (taken : Taken) → Before objects → Looks zero objects made taken → Takes zero objects made taken
      pub waits : (begun : ℕ) (objects : List ObjectState) → Before objects → (IsCompleted (wait_turn objects).1 → ⊥) → Takes (suc begun) objects (wait_items objects ++ []) (((wait_turn objects).0, suc begun), (wait_turn objects).1)
      pub returned : (begun : ℕ) (objects : List ObjectState) (later : List Item) (taken : Taken) → Before objects → IsCompleted (wait_turn objects).1 → Looks (suc begun) (wait_turn objects).0 later taken
          → Takes (suc begun) objects (wait_items objects ++ later) taken

    module _ (steps : Steps) where
      last_looks : (last : Bool) → (begun : ℕ) (objects : List ObjectState) → nat_le tries begun ≡ last → Before objects
          → Looks begun objects (loaded objects ++ unless_last_items worker moment cond atomic value tries last objects) (unless_last worker moment cond atomic value tries last begun objects)
      last_looks true begun objects is before = steps.done false begun objects before
      last_looks false begun objects is before = steps.begins begun objects before (leb-false tries begun is)

      met_looks : (met : Bool) (begun : ℕ) (objects : List ObjectState) → Before objects
          → Looks begun objects (loaded objects ++ unless_met_items worker moment cond atomic value tries met begun objects) (unless_met worker moment cond atomic value tries met begun objects)
      met_looks true begun objects before = steps.done true begun objects before
      met_looks false begun objects before = last_looks (nat_le tries begun) begun objects refl before

      pub looks : (begun : ℕ) (objects : List ObjectState) → Before objects → Looks begun objects (look_items worker moment cond atomic value tries begun objects) (look worker moment cond atomic value tries begun objects)
      looks begun objects before = met_looks (is_met atomic value objects) begun objects before

      not_completed : (begun : ℕ) (objects after : List ObjectState) (answer : Answer) → wait_turn objects ≡ (after, answer) → (IsCompleted answer → ⊥) → Before objects
          → Takes (suc begun) objects (wait_items objects ++ []) ((after, suc begun), answer)
      not_completed begun objects after answer is runs_on before =
          subst (λ (step : List ObjectState × Answer). Takes (suc begun) objects (wait_items objects ++ []) ((step.0, suc begun), step.1)) is
          (steps.waits begun objects before (λ completed. runs_on (subst (λ (step : List ObjectState × Answer). IsCompleted step.1) is completed)))

      behind_takes : (begun : ℕ) (objects : List ObjectState) (step : List ObjectState × Answer) → wait_turn objects ≡ step → Before objects
          → Takes (suc begun) objects (wait_items objects ++ behind_wait_items worker moment cond atomic value tries (suc begun) step) (behind_wait worker moment cond atomic value tries (suc begun) step)
      behind_takes begun objects (after, answers.Still) is before = not_completed begun objects after answers.Still is (λ completed. completed) before
      behind_takes begun objects (after, answers.Unfinished) is before = not_completed begun objects after answers.Unfinished is (λ completed. completed) before
      behind_takes begun objects (after, answers.Misused misuse) is before = not_completed begun objects after (answers.Misused misuse) is (λ completed. completed) before
      behind_takes begun objects (after, answers.Completed reply) is before =
          steps.returned begun objects (look_items worker moment cond atomic value tries (suc begun) after) (look worker moment cond atomic value tries (suc begun) after) before
          (subst (λ (step : List ObjectState × Answer). IsCompleted step.1) (sym is) tt)
          (subst (λ (step : List ObjectState × Answer). Looks (suc begun) step.0 (look_items worker moment cond atomic value tries (suc begun) after) (look worker moment cond atomic value tries (suc begun) after)) (sym is)
          (looks (suc begun) after (subst (λ (step : List ObjectState × Answer). Before step.0) is (steps.stays objects before))))

      -- what is so of a turn of a `waitfor`
      pub takes : (begun : ℕ) (objects : List ObjectState) → Before objects → Takes begun objects (wait_for_items worker moment cond atomic value tries begun objects) (wait_for_turn worker moment cond atomic value tries begun objects)
      takes zero objects before = steps.first objects _ _ before (looks zero objects before)
      takes (suc begun) objects before = behind_takes begun objects (wait_turn objects) refl before

  -- ---- what the items lead to, whatever the answer

  module _ (Before : List ObjectState → Type 0) (Leads : List ObjectState → List Item → List ObjectState → Type 0) where
    pub record Leading : Type 0 where
      pub nowhere : (objects : List ObjectState) → Leads objects [] objects
      pub on : (first middle last : List ObjectState) (made later : List Item) → Leads first made middle → Leads middle later last → Leads first (made ++ later) last
      pub stays : (objects : List ObjectState) → Before objects → Before (wait_turn objects).0
      pub turn : (objects : List ObjectState) → Before objects → Leads objects (wait_items objects) (wait_turn objects).0
      pub load : (objects : List ObjectState) → Before objects → Leads objects (loaded objects) objects

    abbrev Led : ℕ → List ObjectState → List Item → Taken → Type 0
    Led begun objects made taken = Leads objects made taken.0.0

    leading : Leading → Steps Before Led Led
    leading leads = record {
      stays = leads.stays;
      done = λ met begun objects before. leads.on objects objects objects (loaded objects) [] (leads.load objects before) (leads.nowhere objects);
      begins = λ begun objects before fewer. leads.on objects objects _ (loaded objects) (wait_items objects) (leads.load objects before)
          (subst (Leads objects (wait_items objects)) (sym (begun_objects begun (wait_turn objects))) (leads.turn objects before));
      first = λ objects made taken before looks. looks;
      waits = λ begun objects before runs_on. subst (λ (made : List Item). Leads objects made (wait_turn objects).0) (sym (append-nil (wait_items objects))) (leads.turn objects before);
      returned = λ begun objects later taken before completed looks. leads.on objects (wait_turn objects).0 taken.0.0 (wait_items objects) later (leads.turn objects before) looks;
    }

    pub led : Leading → (begun : ℕ) (objects : List ObjectState) → Before objects → Leads objects (wait_for_items worker moment cond atomic value tries begun objects) (wait_for_turn worker moment cond atomic value tries begun objects).0.0
    led leads begun objects before = takes Before Led Led (leading leads) begun objects before

  -- what each turn of a wait keeps
  pub turns_keep : (P : List ObjectState → Type 0) → ((objects : List ObjectState) → P objects → P (wait_turn objects).0) → (begun : ℕ) (objects : List ObjectState) → P objects
      → P (wait_for_turn worker moment cond atomic value tries begun objects).0.0
  turns_keep P turn begun objects is = led (λ objects. Unit {0}) (λ old made new. P old → P new) (record {
    nowhere = λ objects is. is;
    on = λ first middle last made later one two is. two (one is);
    stays = λ objects before. tt;
    turn = λ objects before. turn objects;
    load = λ objects before is. is;
  }) begun objects tt is

  -- what is so of the items of each turn at objects, and of those of turns one after the other
  pub all_items : (P : List Item → Type 0) → P [] → ((one two : List Item) → P one → P two → P (one ++ two)) → ((call : Call) (objects : List ObjectState) → P (items_at call worker moment objects)) → (begun : ℕ) (objects : List ObjectState)
      → P (wait_for_items worker moment cond atomic value tries begun objects)
  all_items P none more each begun objects = led (λ objects. Unit {0}) (λ old made new. P made) (record {
    nowhere = λ objects. none;
    on = λ first middle last made later one two. more made later one two;
    stays = λ objects before. tt;
    turn = λ objects before. each (wait_on cond) objects;
    load = λ objects before. each (load_of atomic) objects;
  }) begun objects tt
