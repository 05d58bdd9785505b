-- What plain variables hold at the end: what was written to them last.
use Rattle.std.proofs.Common.{◌≡◌, ℕ, zero, suc, ◌+◌, false, List, [], ◌∷◌, ◌++◌, map, Some, refl, sym, ap, ◌∙◌, subst, arith}
use Rattle.std.proofs.lemmas.List.{map-append}
use Rattle.std.specs.Prelude.{Bool, true, ◌||◌, slice_get}
use Rattle.std.specs.List.{flat_map, list_any}
use Rattle.script_calls.specs.declared.call.Operation.{Operation}
use Rattle.script_calls.specs.declared.call.Operation.TheVariants as operations
use Rattle.script_calls.specs.declared.call.Reply.{Reply}
use Rattle.script_calls.specs.declared.call.VarCall.TheVariants.{Read, Write}
use Rattle.workload.specs.declared.object.ObjectKind.{ObjectKind}
use Rattle.workload.specs.declared.object.ObjectKind.TheVariants as kinds
use Rattle.workload.specs.declared.object.ObjectLine.{ObjectLine}
use Rattle.script_calls.specs.declared.outcome.Ending.{Ending}
use Rattle.script_calls.specs.declared.outcome.Ending.TheVariants as endings
use Rattle.script_calls.specs.declared.outcome.Outcome.TheVariants as outcomes
use Rattle.script_calls.specs.declared.outcome.Report.{Report}
use Rattle.workload.specs.Dialect.{is_variable, has_variables}
use Rattle.workload.specs.Plan.{Plan}
use Rattle.workload.specs.Puts.{puts_at}
use Rattle.workload.specs.Keys.{keys_in}
use Rattle.step_runner.specs.Computed.{whole_run, outcome_of, turns, variables_left}
use Rattle.step_runner.specs.Ends.{variables_of, variables_from, variables_behind}
use Rattle.step_runner.specs.LastWrites.{written_by, written_to, last_or, variable_at, variable_places, last_written}
use Rattle.step_runner.specs.RunItems.{LeadTo}
use Rattle.step_runner.specs.State.{State}
use Rattle.step_runner.specs.LeadsTo.{on_object, CallsTo, VarGoes, LeadsTo}
use Rattle.step_runner.specs.Objects.{new_object, kind_of}
use Rattle.step_runner.specs.declared.ends.VariableEnd.{VariableEnd}
use Rattle.step_runner.specs.declared.turns.item.Deed.TheVariants as deeds
use Rattle.step_runner.specs.declared.turns.item.Item.{Item}
use Rattle.step_runner.specs.declared.turns.object_state.ObjectState.{ObjectState}
use Rattle.step_runner.specs.declared.turns.object_state.ObjectState.TheVariants as states

-- ---- of one variable

one_write : (operation : Operation) (reply : Reply (List ℕ)) (first next : ℕ) (later : List ℕ) → VarGoes operation first reply next → last_or next later ≡ last_or first (written_by (deeds.Placed operation reply) ++ later)
one_write (operations.Var Read) reply first next later goes = ap (λ value. last_or value later) goes.1
one_write (operations.Var (Write value)) reply first next later goes = ap (λ value. last_or value later) goes.1
one_write (operations.Map call) reply first next later goes = absurd goes
one_write operations.Range reply first next later goes = absurd goes
one_write (operations.Atomic call) reply first next later goes = absurd goes
one_write (operations.Mutex call) reply first next later goes = absurd goes
one_write (operations.RwMutex call) reply first next later goes = absurd goes
one_write (operations.Cond call) reply first next later goes = absurd goes
one_write (operations.WaitGroup call) reply first next later goes = absurd goes
one_write operations.Once reply first next later goes = absurd goes
one_write (operations.Sema call) reply first next later goes = absurd goes
one_write (operations.Fly key) reply first next later goes = absurd goes
one_write operations.OnceFunc reply first next later goes = absurd goes
one_write operations.OnceValue reply first next later goes = absurd goes
one_write (operations.Pool call) reply first next later goes = absurd goes
one_write (operations.Composed call) reply first next later goes = absurd goes

calls_write : (made : List Item) (first last : ℕ) → CallsTo VarGoes first made last → last ≡ last_or first (flat_map (λ item. written_by item.deed) made)
calls_write [] first last is = is
calls_write (item ∷ made) first last (operation, reply, next, deed, goes, rest) =
    calls_write made next last rest
    ∙ one_write operation reply first next (flat_map (λ item. written_by item.deed) made) goes
    ∙ ap (λ done. last_or first (written_by done ++ flat_map (λ item. written_by item.deed) made)) (sym deed)

-- an object that is a variable at last was one at first, which held 0
pub variable_writes : (workers room : ℕ) (keys : List (List ℕ)) (kind : ObjectKind) (made : List Item) (last : ℕ) → LeadsTo (new_object workers room keys kind) made (states.Var last) → last ≡ last_or 0 (flat_map (λ item. written_by item.deed) made)
variable_writes workers room keys kinds.Var made last leads = calls_write made 0 last leads
variable_writes workers room keys kinds.Map made last leads = absurd leads
variable_writes workers room keys (kinds.Atomic kind) made last leads = absurd leads
variable_writes workers room keys kinds.Mutex made last leads = absurd leads
variable_writes workers room keys kinds.RwMutex made last leads = absurd leads
variable_writes workers room keys (kinds.Cond place) made last leads = absurd leads
variable_writes workers room keys (kinds.WaitGroup first) made last leads = absurd leads
variable_writes workers room keys (kinds.Once place delta) made last leads = absurd leads
variable_writes workers room keys (kinds.OnceFunc code) made last leads = absurd leads
variable_writes workers room keys (kinds.OnceValue value) made last leads = absurd leads
variable_writes workers room keys kinds.Pool made last leads = absurd leads
variable_writes workers room keys (kinds.Sema size) made last leads = absurd leads
variable_writes workers room keys (kinds.Flight place delta) made last leads = absurd leads

-- ---- of all variables

module _ (made : List Item) where
  abbrev end_by : ℕ → VariableEnd
  end_by place = record { object = place; value = last_or 0 (written_to place made) }

  one_end : (place : ℕ) (object : ObjectState) → ((value : ℕ) → object ≡ states.Var value → value ≡ last_or 0 (written_to place made)) → variables_of place object ≡ map end_by (variable_at place (kind_of object))
  one_end place (states.Var held) is = ap (λ value. record { object = place; value = value } ∷ []) (is held refl)
  one_end place (states.Map entries) is = refl
  one_end place (states.Atomic number) is = refl
  one_end place (states.Mutex m) is = refl
  one_end place (states.RwMutex m) is = refl
  one_end place (states.Cond c other) is = refl
  one_end place (states.WaitGroup g first) is = refl
  one_end place (states.Once o other delta) is = refl
  one_end place (states.OnceFunc o code) is = refl
  one_end place (states.OnceValue o value) is = refl
  one_end place (states.Pool p) is = refl
  one_end place (states.Sema s size) is = refl
  one_end place (states.Flight f keys other delta) is = refl

  pub all_ends : (place : ℕ) (lines : List ObjectLine) (objects : List ObjectState) → map kind_of objects ≡ map (λ line. line.kind) lines
      → ((k value : ℕ) → slice_get objects k ≡ Some (states.Var value) → value ≡ last_or 0 (written_to (k + place) made))
      → variables_from place objects ≡ map end_by (variable_places place lines)
  all_ends place [] [] kinds is = refl
  all_ends place (line ∷ lines) [] kinds is = absurd cc
  all_ends place [] (object ∷ objects) kinds is = absurd cc
  all_ends place (line ∷ lines) (object ∷ objects) kinds is =
      let first : kind_of object ≡ line.kind = cc in
      let below : map kind_of objects ≡ map (λ line. line.kind) lines = cc in
      let head : variables_of place object ≡ map end_by (variable_at place line.kind) =
      subst (λ kind. variables_of place object ≡ map end_by (variable_at place kind)) first
      (one_end place object (λ value same. subst (λ p. value ≡ last_or 0 (written_to p made)) (omega arith) (is 0 value (ap Some same)))) in
      let rest : variables_from (place + 1) objects ≡ map end_by (variable_places (place + 1) lines) =
      all_ends (place + 1) lines objects below (λ k value at. subst (λ p. value ≡ last_or 0 (written_to p made)) (omega arith) (is (suc k) value at)) in
      ap (λ ends. ends ++ variables_from (place + 1) objects) head
      ∙ ap (λ ends. map end_by (variable_at place line.kind) ++ ends) rest
      ∙ sym (map-append end_by (variable_at place line.kind) (variable_places (place + 1) lines))

-- ---- of a run

line_there : (lines : List ObjectLine) (objects : List ObjectState) (k : ℕ) (object : ObjectState) → map kind_of objects ≡ map (λ line. line.kind) lines → slice_get objects k ≡ Some object
    → (line : ObjectLine) × (slice_get lines k ≡ Some line)
line_there [] [] k object kinds at = absurd cc
line_there (line ∷ lines) [] k object kinds at = absurd cc
line_there [] (other ∷ objects) k object kinds at = absurd cc
line_there (line ∷ lines) (other ∷ objects) zero object kinds at = (line, refl)
line_there (line ∷ lines) (other ∷ objects) (suc k) object kinds at =
    let below : map kind_of objects ≡ map (λ line. line.kind) lines = cc in
    line_there lines objects k object below at

-- the objects stand behind these items, by the laws on what they are and by what they came
pub objects_end : (plan : Plan) (made : List Item) (objects : List ObjectState) → map kind_of objects ≡ map (λ line. line.kind) plan.objects → LeadTo plan made objects
    → variables_from 0 objects ≡ last_written made plan.objects
objects_end plan made objects kinds leads =
    all_ends made 0 plan.objects objects kinds
    (λ (k value : ℕ) (at : slice_get objects k ≡ Some (states.Var value)).
    let line = line_there plan.objects objects k (states.Var value) kinds at in
    subst (λ p. value ≡ last_or 0 (written_to p made)) (omega arith)
    (variable_writes plan.workers (puts_at k plan.scripts) (keys_in plan.scripts) line.0.kind (on_object k made) value (leads k line.0 (states.Var value) line.1 at)))

done_ending : (plan : Plan) (x : State × Ending) (report : Report) → outcome_of plan x ≡ outcomes.Done report → x.1 ≡ endings.Done
done_ending plan (s, endings.Done) report is = refl
done_ending plan (s, endings.Misused misuse) report is = absurd cc
done_ending plan (s, endings.Deadlocked) report is = absurd cc

pub left_done : (plan : Plan) (report : Report) → turns plan ≡ outcomes.Done report → variables_left plan ≡ variables_from 0 (whole_run plan).0.objects
left_done plan report done = ap (variables_behind (whole_run plan).0.objects) (done_ending plan (whole_run plan) report done)

either_false : (b rest : Bool) → (b || rest) ≡ false → (b ≡ false) × (rest ≡ false)
either_false true rest none = absurd cc
either_false false rest none = (refl, none)

no_place : (place : ℕ) (kind : ObjectKind) → is_variable kind ≡ false → variable_at place kind ≡ []
no_place place kinds.Var none = absurd cc
no_place place kinds.Map none = refl
no_place place (kinds.Atomic kind) none = refl
no_place place kinds.Mutex none = refl
no_place place kinds.RwMutex none = refl
no_place place (kinds.Cond other) none = refl
no_place place (kinds.WaitGroup first) none = refl
no_place place (kinds.Once other delta) none = refl
no_place place (kinds.OnceFunc code) none = refl
no_place place (kinds.OnceValue value) none = refl
no_place place kinds.Pool none = refl
no_place place (kinds.Sema size) none = refl
no_place place (kinds.Flight other delta) none = refl

none_there : (place : ℕ) (lines : List ObjectLine) → list_any (λ line. is_variable line.kind) lines ≡ false → variable_places place lines ≡ []
none_there place [] none = refl
none_there place (line ∷ lines) none =
    let parts = either_false (is_variable line.kind) (list_any (λ other. is_variable other.kind) lines) none in
    ap (λ places. places ++ variable_places (place + 1) lines) (no_place place line.kind parts.0) ∙ none_there (place + 1) lines parts.1

pub none_behind : (plan : Plan) (x : State × Ending) → has_variables plan ≡ false → (x.1 ≡ endings.Done → (made : List Item) × (variables_from 0 x.0.objects ≡ last_written made plan.objects)) → variables_behind x.0.objects x.1 ≡ []
none_behind plan (s, endings.Done) none so = let written = so refl in written.1 ∙ ap (λ places. map (end_by written.0) places) (none_there 0 plan.objects none)
none_behind plan (s, endings.Misused misuse) none so = refl
none_behind plan (s, endings.Deadlocked) none so = refl
