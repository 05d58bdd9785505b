-- How steps that agree with the first turns of a trace go on by one step more.
use Rattle.std.proofs.Common.{◌≡◌, ◌⊎◌, inl, inr, ℕ, zero, suc, ◌<◌, ◌≤◌, List, [], ◌∷◌, ◌++◌, length, Some, slice_get, refl, sym, ap, ◌∙◌, subst, arith}
use Rattle.std.proofs.lemmas.Bool.{cases_lt}
use Rattle.std.proofs.lemmas.Option.{none-some, same_Some, slice_get_within}
use Rattle.workload.specs.Plan.{Plan}
use Rattle.vector_clocks.specs.declared.step.Step.{Step}
use Rattle.vector_clocks.specs.Before as clocks
use Rattle.step_runner.specs.declared.trace.TraceItem.{TraceItem}
use Rattle.race_clocks.specs.Agreement.{StepTakes, AgreesAt, AgreeSoFar, Agree}

-- the elements of a list that goes on
pub front_at : {A : Type 0} (xs ys : List A) (n : ℕ) → n < length xs → slice_get (xs ++ ys) n ≡ slice_get xs n
front_at [] ys n within = absurd (omega (arith, within))
front_at (x ∷ xs) ys zero within = refl
front_at (x ∷ xs) ys (suc n) within = front_at xs ys n (omega (arith, within))

pub next_at : {A : Type 0} (xs : List A) (x : A) → slice_get (xs ++ x ∷ []) (length xs) ≡ Some x
next_at [] x = refl
next_at (y ∷ xs) x = next_at xs x

pub within_next : {A : Type 0} (xs : List A) (x : A) → length (xs ++ x ∷ []) ≡ suc (length xs)
within_next [] x = refl
within_next (y ∷ xs) x = ap suc (within_next xs x)

-- what stands when a step comes hangs on the steps before it
module _ (steps : List Step) (s : Step) (j : ℕ) (within : j ≤ length steps) where
  same : (k : ℕ) → k < j → slice_get (steps ++ s ∷ []) k ≡ slice_get steps k
  same k less = front_at steps (s ∷ []) k (omega (arith, less, within))

  stands_on : (c i : ℕ) → clocks.Stands steps c i j → clocks.Stands (steps ++ s ∷ []) c i j
  stands_on c i st = record {
    giver = st.giver;
    at = same i st.earlier ∙ st.at;
    earlier = st.earlier;
    gives = st.gives;
    kept = λ k x after before at. st.kept k x after before (sym (same k before) ∙ at);
  }

  stood : (c i : ℕ) → clocks.Stands (steps ++ s ∷ []) c i j → clocks.Stands steps c i j
  stood c i st = record {
    giver = st.giver;
    at = sym (same i st.earlier) ∙ st.at;
    earlier = st.earlier;
    gives = st.gives;
    kept = λ k x after before at. st.kept k x after before (same k before ∙ at);
  }

  takes_on : (i : ℕ) (step : Step) → StepTakes steps i j step → StepTakes (steps ++ s ∷ []) i j step
  takes_on i step (c, takes, stands) = (c, takes, stands_on c i stands)

  took : (i : ℕ) (step : Step) → StepTakes (steps ++ s ∷ []) i j step → StepTakes steps i j step
  took i step (c, takes, stands) = (c, takes, stood c i stands)

  pub agrees_on : (plan : Plan) (trace : List TraceItem) (turn : TraceItem) (step : Step) → AgreesAt plan trace steps j turn step → AgreesAt plan trace (steps ++ s ∷ []) j turn step
  agrees_on plan trace turn step agrees = record {
    worker = agrees.worker;
    access = agrees.access;
    taken = λ i takes. takes_on i step (agrees.taken i takes);
    only = λ i takes. agrees.only i (took i step takes);
  }

module _ (plan : Plan) (trace : List TraceItem) where
  -- no steps agree with any turns
  pub agree_none : AgreeSoFar plan trace []
  agree_none j turn step at_turn at_step = absurd (none-some step at_step)

  -- a step more, that tells what the next turn tells
  pub agree_more : (steps : List Step) (s : Step) (turn : TraceItem) → slice_get trace (length steps) ≡ Some turn → AgreeSoFar plan trace steps → AgreesAt plan trace steps (length steps) turn s → AgreeSoFar plan trace (steps ++ s ∷ [])
  agree_more steps s turn at agree next j x y at_x at_y = by (cases_lt j (length steps)) where
    by : (j < length steps) ⊎ (length steps ≤ j) → AgreesAt plan trace (steps ++ s ∷ []) j x y
    by (inl less) = agrees_on steps s j (omega (arith, less)) plan trace x y (agree j x y at_x (sym (front_at steps (s ∷ []) j less) ∙ at_y))
    by (inr more) = subst (λ y. AgreesAt plan trace (steps ++ s ∷ []) j x y) is_s (subst (λ x. AgreesAt plan trace (steps ++ s ∷ []) j x s) is_turn
        (subst (λ n. AgreesAt plan trace (steps ++ s ∷ []) n turn s) (sym last) (agrees_on steps s (length steps) (omega arith) plan trace turn s next))) where
          last : j ≡ length steps
          last = let within = slice_get_within (steps ++ s ∷ []) j y at_y in let longer = within_next steps s in omega (arith, within, longer, more)

          is_turn : turn ≡ x
          is_turn = same_Some turn x (sym at ∙ ap (slice_get trace) (sym last) ∙ at_x)

          is_s : s ≡ y
          is_s = same_Some s y (sym (next_at steps s) ∙ ap (slice_get (steps ++ s ∷ [])) (sym last) ∙ at_y)

  -- one for each turn
  pub agree_all : (steps : List Step) → length steps ≡ length trace → AgreeSoFar plan trace steps → Agree plan trace steps
  agree_all steps all each = record { all = all; each = each }
