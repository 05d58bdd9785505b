-- Lines of workers that don't wait to be started, and of workloads where nobody does.
use Rattle.std.proofs.Common.{◌≡◌, ℕ, zero, suc, Bool, true, false, cond, List, [], ◌∷◌, ◌++◌, get_or, refl, sym, ap, subst}
use Rattle.std.specs.Prelude.{Ok, Err}
use Rattle.std.specs.List.{list_any}
use Rattle.std.proofs.lemmas.Bool.{false≢true}
use Rattle.sync_model.specs.declared.answer.Answer.TheVariants.{Done, Halted}
use Rattle.script_calls.specs.declared.call.Call.{Call}
use Rattle.protocols.specs.Spelling.{CallAnswer}
use Rattle.workload.specs.Plan.{Plan, is_dormant, has_dormant}
use Rattle.run_record.specs.declared.made.Made.{Made}
use Rattle.run_record.specs.Lines.{SpeltCall, Stay, never, stopped, waits, LineEnd, whole, misused, halted, unfinished, stayed, EndsBy, OpensBy}
use Rattle.run_record.specs.Objects.{starts_number}
use Rattle.run_record.specs.Parts.{Part, and_then, returns}
use Rattle.run_record.specs.Plain.{EndsPlainly}
use Rattle.run_record.specs.StartsKind.{wait_start_part, end_part, opening, done_part, closing}

-- where nobody waits, no worker does
pub nobody : (dormant : List Bool) (worker : ℕ) → list_any (λ waits. waits) dormant ≡ false → get_or dormant worker false ≡ false
nobody [] worker none = refl
nobody (true ∷ dormant) worker none = cc
nobody (false ∷ dormant) zero none = refl
nobody (false ∷ dormant) (suc worker) none = nobody dormant worker none

pub empty_second : (xs ys : List Made) → xs ++ ys ≡ [] → ys ≡ []
empty_second [] ys is = is
empty_second (x ∷ xs) ys is = cc

-- whether the answer is that it comes to its script
abbrev pub comes : CallAnswer Bool → Bool
comes (Done (Ok came)) = came
comes (Done (Err misuse)) = false
comes (Halted misuse) = false

module _ (plan : Plan) (worker : ℕ) where
  -- one that doesn't wait comes to its script at once
  module _ (awake : is_dormant plan worker ≡ false) where
    pub at_once : (items : List Made) (answer : CallAnswer Bool) → opening plan worker items answer → (items ≡ []) × (answer ≡ Done (Ok true))
    at_once items answer opens = subst (λ (b : Bool). cond b (wait_start_part (starts_number plan)) (returns true) items answer) awake opens

    pub none_first : (ending : LineEnd) (spelt : List SpeltCall) (first : List Made) → OpensBy plan worker ending spelt first → first ≡ []
    none_first whole spelt first opens = (at_once first (Done (Ok true)) opens).0
    none_first (misused misuse) spelt first opens = (at_once first (Done (Ok true)) opens).0
    none_first (halted misuse) spelt first opens = (at_once first (Done (Ok true)) opens).0
    none_first unfinished spelt first opens = (at_once first (Done (Ok true)) opens).0
    none_first (stayed never) spelt first opens = (at_once first (Done (Ok false)) opens.1).0
    none_first (stayed (stopped misuse)) spelt first opens = (at_once first (Halted misuse) opens.1).0
    none_first (stayed waits) spelt first (none, (later, answer, some, opens)) = absurd (some (empty_second first later (at_once (first ++ later) answer opens).0))

    pub none_stayed : (stay : Stay) (spelt : List SpeltCall) (first : List Made) → OpensBy plan worker (stayed stay) spelt first → ⊥
    none_stayed never spelt first opens = false≢true (ap comes (at_once first (Done (Ok false)) opens.1).1)
    none_stayed (stopped misuse) spelt first opens = false≢true (ap comes (at_once first (Halted misuse) opens.1).1)
    none_stayed waits spelt first (none, (later, answer, some, opens)) = some (empty_second first later (at_once (first ++ later) answer opens).0)

    came_so : (first : List Made) → first ≡ [] → opening plan worker first (Done (Ok true))
    came_so first none = subst (λ (b : Bool). cond b (wait_start_part (starts_number plan)) (returns true) first (Done (Ok true))) (sym awake) (none, refl)

    pub opens_so : (ending : LineEnd) (spelt : List SpeltCall) (first : List Made) → first ≡ [] → ((stay : Stay) → ending ≡ stayed stay → ⊥) → OpensBy plan worker ending spelt first
    opens_so whole spelt first none came = came_so first none
    opens_so (misused misuse) spelt first none came = came_so first none
    opens_so (halted misuse) spelt first none came = came_so first none
    opens_so unfinished spelt first none came = came_so first none
    opens_so (stayed stay) spelt first none came = absurd (came stay refl)

  -- what closes a script where some wait
  abbrev pub closing_part : Part (Unit {0})
  closing_part = and_then (done_part plan worker) (λ done. end_part (starts_number plan))

  -- where nobody waits, nothing closes a script
  module _ (none_waits : has_dormant plan ≡ false) where
    pub nothing_closes : (items : List Made) (answer : CallAnswer (Unit {0})) → closing plan worker items answer → (items ≡ []) × (answer ≡ Done (Ok tt))
    nothing_closes items answer closes = subst (λ (b : Bool). cond b closing_part (returns tt) items answer) none_waits closes

    abbrev is_ok : CallAnswer (Unit {0}) → Bool
    is_ok (Done (Ok ended)) = true
    is_ok (Done (Err misuse)) = false
    is_ok (Halted misuse) = false

    pub ends_plainly : (before : ℕ) (ending : LineEnd) (rest : List Call) (last : List Made) → ((stay : Stay) → ending ≡ stayed stay → ⊥) → EndsBy plan worker before ending rest last → EndsPlainly plan worker before ending rest last
    ends_plainly before whole rest last came ends = (ends.0, (nothing_closes last (Done (Ok tt)) ends.1).0)
    ends_plainly before (misused misuse) [] last came ends = false≢true (ap is_ok (nothing_closes last (Done (Err misuse)) ends).1)
    ends_plainly before (misused misuse) (call ∷ rest) last came ends = ends
    ends_plainly before (halted misuse) [] last came ends = false≢true (ap is_ok (nothing_closes last (Halted misuse) ends).1)
    ends_plainly before (halted misuse) (call ∷ rest) last came ends = ends
    ends_plainly before unfinished [] last came (later, answer, some, closes) = some (empty_second last later (nothing_closes (last ++ later) answer closes).0)
    ends_plainly before unfinished (call ∷ rest) last came ends = ends
    ends_plainly before (stayed stay) rest last came ends = came stay refl

    pub ends_so : (before : ℕ) (ending : LineEnd) (rest : List Call) (last : List Made) → EndsPlainly plan worker before ending rest last → EndsBy plan worker before ending rest last
    ends_so before whole rest last ends = (ends.0, subst (λ (b : Bool). cond b closing_part (returns tt) last (Done (Ok tt))) (sym none_waits) (ends.1, refl))
    ends_so before (misused misuse) [] last ends = absurd ends
    ends_so before (misused misuse) (call ∷ rest) last ends = ends
    ends_so before (halted misuse) [] last ends = absurd ends
    ends_so before (halted misuse) (call ∷ rest) last ends = ends
    ends_so before unfinished [] last ends = absurd ends
    ends_so before unfinished (call ∷ rest) last ends = ends
    ends_so before (stayed stay) rest last ends = absurd ends

    pub plainly_came : (before : ℕ) (ending : LineEnd) (rest : List Call) (last : List Made) (stay : Stay) → EndsPlainly plan worker before ending rest last → ending ≡ stayed stay → ⊥
    plainly_came before ending rest last stay ends is = subst (λ (e : LineEnd). EndsPlainly plan worker before e rest last) is ends
