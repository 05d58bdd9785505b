-- Each item in a worker's list is one that a call's protocol makes, or a halt.
use Rattle.std.proofs.Common.{◌≡◌, ℕ, zero, suc, ◌+◌, ◌<◌, Bool, true, false, ◌&&◌, List, [], ◌∷◌, ◌++◌, map, length, drop, get_or, slice_get, Option, Some, Ok, Err, refl, sym, ap, ◌∙◌, subst, arith}
use Rattle.std.specs.Prelude.{◌==◌, ◌||◌, cond}
use Rattle.std.specs.List.{AllByRecursion, flat_map, list_all, list_any, position_from}
use Rattle.std.specs.Option.{option_map_or, option_to_list}
use Rattle.std.specs.Str.{bytes_eq}
use Rattle.std.proofs.lemmas.Bool.{eqb-true, false≢true}
use Rattle.std.proofs.lemmas.List.Elements.{recursion_from_All}
use Rattle.std.proofs.lemmas.Slice.Eq.{bytes_eq-Decides}
use Rattle.script_calls.specs.declared.call.Call.{Call}
use Rattle.script_calls.specs.declared.call.Reply.{Reply}
use Rattle.script_calls.specs.Runs.{RunsAlong, passed_over}
use Rattle.sync_model.specs.declared.answer.Answer.TheVariants.{Done, Halted}
use Rattle.sync_types.specs.declared.misuse.Misuse.{Misuse}
use Rattle.script_calls.specs.declared.outcome.Outcome.{Outcome}
use Rattle.workload.specs.Draft.{all_keys, keys_of, operation_keys}
use Rattle.workload.specs.Keys.{key_number, keys_in}
use Rattle.workload.specs.Plan.{Plan, is_on, is_turn, is_valid, refers, starts_dormant}
use Rattle.run_record.specs.declared.made.Made.{Made}
use Rattle.run_record.specs.declared.made.Made.TheVariants.{Entered, Shared}
use Rattle.run_record.specs.Explains.{AreLines}
use Rattle.run_record.specs.Lines.{AreHalts, AreSpelt, EndsBy, IsHalt, IsLineOf, Line, LineEnd, OpensBy, SpeltCall, Stay, StaysBy, calls_made, halted, items_of, misused, never, stayed, stopped, unfinished, waits, whole}
use Rattle.run_record.specs.Record.{Record, list_of, shared_in}
use Rattle.record_text.proofs.Decimals.{both}
use Rattle.record_text.proofs.MeantItems.{IsAmong, IsMeantDeed, IsMeantItem, KeysAmong, MayPutDeed, MayPutItem, StartsAmong, any_puts, of_call, of_closing, of_opening}
use Rattle.record_text.proofs.OwnWords.{each_at, each_both, each_mono, each_split}

-- ---- the calls of a script

abbrev pub CallStarts : ℕ → Call → Type 0
CallStarts workers call = StartsAmong workers call.operation

there_at : (waiting : List Bool) (i : ℕ) → get_or waiting i false ≡ true → i < length waiting
there_at [] i h = absurd (false≢true h)
there_at (b ∷ waiting) zero h = omega arith
there_at (b ∷ waiting) (suc i) h = let rest = there_at waiting i h in omega (arith, rest)

call_starts : (workers : ℕ) (dormant : List Bool) (call : Call) → length dormant ≡ workers → starts_dormant dormant call.operation ≡ true → CallStarts workers call
call_starts workers dormant call all h worker is =
    let there = there_at dormant worker (sym (ap (λ (o : Option ℕ). option_map_or (λ w. get_or dormant w false) o true) is) ∙ h) in
    omega (arith, there, all)

script_starts : (workers : ℕ) (dormant : List Bool) (script : List Call) → length dormant ≡ workers → list_all (λ (call : Call). starts_dormant dormant call.operation) script ≡ true → AllByRecursion (CallStarts workers) script
script_starts workers dormant [] all h = tt
script_starts workers dormant (call ∷ script) all h =
    let parts = both (starts_dormant dormant call.operation) (list_all (λ (c : Call). starts_dormant dormant c.operation) script) h in
    (call_starts workers dormant call all parts.0, script_starts workers dormant script all parts.1)

scripts_start : (workers : ℕ) (dormant : List Bool) (scripts : List (List Call)) (worker : ℕ) → length dormant ≡ workers → list_all (list_all (λ (call : Call). starts_dormant dormant call.operation)) scripts ≡ true
    → AllByRecursion (CallStarts workers) (get_or scripts worker [])
scripts_start workers dormant [] worker all h = tt
scripts_start workers dormant (script ∷ scripts) zero all h =
    script_starts workers dormant script all (both (list_all (λ (call : Call). starts_dormant dormant call.operation) script) (list_all (list_all (λ (call : Call). starts_dormant dormant call.operation)) scripts) h).0
scripts_start workers dormant (script ∷ scripts) (suc worker) all h =
    scripts_start workers dormant scripts worker all (both (list_all (λ (call : Call). starts_dormant dormant call.operation) script) (list_all (list_all (λ (call : Call). starts_dormant dormant call.operation)) scripts) h).1

pub valid_starts : (plan : Plan) (worker : ℕ) → is_valid plan ≡ true → AllByRecursion (CallStarts plan.workers) (get_or plan.scripts worker [])
valid_starts plan worker h =
    let on = list_all (list_all (λ (call : Call). is_on plan.objects (slice_get plan.objects call.object) call)) plan.scripts in
    let turns = list_all (is_turn plan.workers) plan.schedule in
    let referring = list_all (λ object. refers plan.objects object.kind) plan.objects in
    let waiting = length plan.dormant == plan.workers in
    let starts = list_all (list_all (λ (call : Call). starts_dormant plan.dormant call.operation)) plan.scripts in
    let p1 = both (length plan.scripts == plan.workers) (on && (turns && (referring && (waiting && starts)))) h in
    let p2 = both on (turns && (referring && (waiting && starts))) p1.1 in
    let p3 = both turns (referring && (waiting && starts)) p2.1 in
    let p4 = both referring (waiting && starts) p3.1 in
    let p5 = both waiting starts p4.1 in
    scripts_start plan.workers plan.dormant plan.scripts worker (eqb-true (length plan.dormant) plan.workers p5.0) p5.1

pub each_drop : {A : Type 0} (P : A → Type 0) (n : ℕ) (xs : List A) → AllByRecursion P xs → AllByRecursion P (drop n xs)
each_drop P zero xs each = each
each_drop P (suc n) [] each = tt
each_drop P (suc n) (x ∷ xs) each = each_drop P n xs each.1

-- what holds of a script's calls holds of those that were made, and of what is left
pub along : (P : Call → Type 0) (script : List Call) (made : List (Call × Reply ℕ)) (rest : List Call) → RunsAlong script made rest → AllByRecursion P script → AllByRecursion (λ (m : Call × Reply ℕ). P m.0) made × AllByRecursion P rest
along P script [] rest is each = (tt, subst (AllByRecursion P) (sym is) each)
along P script (m ∷ made) rest (behind, is, runs) each =
    let here = subst (AllByRecursion P) is each in
    let later = along P (drop (passed_over m.0 m.1) behind) made rest runs (each_drop P (passed_over m.0 m.1) behind here.1) in
    ((here.0, later.0), later.1)

-- ---- the keys of a script

abbrev In : List (List ℕ) → List ℕ → Type 0
In names name = list_any (bytes_eq name) names ≡ true

in_later : (first name : List ℕ) (names : List (List ℕ)) → In names name → In (first ∷ names) name
in_later first name names h = by (bytes_eq name first) where
  by : (b : Bool) → (b || list_any (bytes_eq name) names) ≡ true
  by true = refl
  by false = h

each_in : (names : List (List ℕ)) → AllByRecursion (In names) names
each_in [] = tt
each_in (first ∷ names) = (
  ap (λ b. b || list_any (bytes_eq first) names) ((bytes_eq-Decides first first).1 refl),
  each_mono (In names) (In (first ∷ names)) (λ (name : List ℕ) h. in_later first name names h) names (each_in names),
)

module _ (all : List (List ℕ)) where
  abbrev HasKeysIn : Call → Type 0
  HasKeysIn call = AllByRecursion (In all) (keys_of call)

  script_keys : (script : List Call) → AllByRecursion (In all) (flat_map keys_of script) → AllByRecursion HasKeysIn script
  script_keys [] each = tt
  script_keys (call ∷ script) each = let parts = each_split (In all) (keys_of call) (flat_map keys_of script) each in (parts.0, script_keys script parts.1)

  scripts_keys : (scripts : List (List Call)) (worker : ℕ) → AllByRecursion (In all) (all_keys scripts) → AllByRecursion HasKeysIn (get_or scripts worker [])
  scripts_keys [] worker each = tt
  scripts_keys (script ∷ scripts) zero each = script_keys script (each_split (In all) (flat_map keys_of script) (all_keys scripts) each).0
  scripts_keys (script ∷ scripts) (suc worker) each = scripts_keys scripts worker (each_split (In all) (flat_map keys_of script) (all_keys scripts) each).1

position : (name : List ℕ) (first : ℕ) (names : List (List ℕ)) → In names name → (i : ℕ) × (position_from (bytes_eq name) first names ≡ Some (first + i)) × (i < length names)
position name first [] h = absurd (false≢true h)
position name first (other ∷ names) h = by (bytes_eq name other) h (λ later. position name (first + 1) names later) where
  by : (b : Bool) → (b || list_any (bytes_eq name) names) ≡ true → (In names name → (i : ℕ) × (position_from (bytes_eq name) (first + 1) names ≡ Some (first + 1 + i)) × (i < length names))
      → (i : ℕ) × (cond b (Some first) (position_from (bytes_eq name) (first + 1) names) ≡ Some (first + i)) × (i < length (other ∷ names))
  by true h later = (0, ap (λ (n : ℕ). Some n) (let same : first ≡ first + 0 = omega arith in same), omega arith)
  by false h later =
      let rest = later h in
      (suc rest.0, rest.1 ∙ ap (λ (n : ℕ). Some n) (let same : first + 1 + rest.0 ≡ first + suc rest.0 = omega arith in same), (let low = rest.2 in omega (arith, low)))

numbered : (keys : List (List ℕ)) (name : List ℕ) → In keys name → key_number keys name < length keys
numbered keys name h =
    let at = position name 0 keys h in
    let number = ap (λ (o : Option ℕ). option_map_or (λ (n : ℕ). n) o 0) at.1 in
    let low = at.2 in
    omega (arith, number, low)

-- the keys among the workload's are numbered
abbrev pub KeysAreNumbered : Type 0
KeysAreNumbered = (scripts : List (List Call)) (name : List ℕ) → list_any (bytes_eq name) (keys_in scripts) ≡ list_any (bytes_eq name) (all_keys scripts)

abbrev pub CallIsAmong : Plan → Call → Type 0
CallIsAmong plan call = IsAmong plan.workers (length (keys_in plan.scripts)) (keys_in plan.scripts) call.operation

-- a call whose key is among the workload's
key_among : (plan : Plan) (call : Call) → KeysAreNumbered → HasKeysIn (all_keys plan.scripts) call → KeysAmong (length (keys_in plan.scripts)) (keys_in plan.scripts) call.operation
key_among plan call same each of is name key =
    numbered (keys_in plan.scripts) name
    (same plan.scripts name ∙ (subst (λ (names : List (List ℕ)). AllByRecursion (In (all_keys plan.scripts)) names) (ap operation_keys is ∙ ap (λ (o : Option (List ℕ)). option_to_list o) key) each).0)

among : (plan : Plan) (calls : List Call) → KeysAreNumbered → AllByRecursion (CallStarts plan.workers) calls → AllByRecursion (HasKeysIn (all_keys plan.scripts)) calls → AllByRecursion (CallIsAmong plan) calls
among plan [] same starts keys = tt
among plan (call ∷ calls) same starts keys = ((starts.0, key_among plan call same keys.0), among plan calls same starts.1 keys.1)

pub script_among : (plan : Plan) (worker : ℕ) → KeysAreNumbered → is_valid plan ≡ true → AllByRecursion (CallIsAmong plan) (get_or plan.scripts worker [])
script_among plan worker same valid = among plan (get_or plan.scripts worker []) same (valid_starts plan worker valid) (scripts_keys (all_keys plan.scripts) plan.scripts worker (each_in (all_keys plan.scripts)))

-- ---- a line

module _ (plan : Plan) (worker : ℕ) where
  abbrev Is : Made → Type 0
  Is item = IsMeantItem plan.workers (length (keys_in plan.scripts)) item × MayPutItem (Unit {0}) item

  of_spelt : (before : ℕ) (spelt : List SpeltCall) → AreSpelt plan worker before spelt → AllByRecursion (λ (m : Call × Reply ℕ). CallIsAmong plan m.0) (map (λ (s : SpeltCall). (s.call, s.reply)) spelt) → AllByRecursion Is (flat_map (λ (s : SpeltCall). s.items) spelt)
  of_spelt before [] are each = tt
  of_spelt before (s ∷ spelt) are each =
      each_both Is s.items (flat_map (λ (s : SpeltCall). s.items) spelt) (of_call (Unit {0}) plan.workers (length (keys_in plan.scripts)) plan worker before s.call each.0 (any_puts s.call.operation) s.items (Done (Ok s.reply)) are.0) (of_spelt (before + length (shared_in s.items)) spelt are.1 each.1)

  of_ends : (before : ℕ) (ending : LineEnd) (rest : List Call) (last : List Made) → AllByRecursion (CallIsAmong plan) rest → EndsBy plan worker before ending rest last → AllByRecursion Is last
  of_ends before whole rest last each ends = of_closing (Unit {0}) plan.workers (length (keys_in plan.scripts)) plan worker last (Done (Ok tt)) ends.1
  of_ends before (misused misuse) [] last each ends = of_closing (Unit {0}) plan.workers (length (keys_in plan.scripts)) plan worker last (Done (Err misuse)) ends
  of_ends before (misused misuse) (call ∷ rest) last each ends = of_call (Unit {0}) plan.workers (length (keys_in plan.scripts)) plan worker before call each.0 (any_puts call.operation) last (Done (Err misuse)) ends
  of_ends before (halted misuse) [] last each ends = of_closing (Unit {0}) plan.workers (length (keys_in plan.scripts)) plan worker last (Halted misuse) ends
  of_ends before (halted misuse) (call ∷ rest) last each ends = of_call (Unit {0}) plan.workers (length (keys_in plan.scripts)) plan worker before call each.0 (any_puts call.operation) last (Halted misuse) ends
  of_ends before unfinished [] last each (later, answer, some, made) = (each_split Is last later (of_closing (Unit {0}) plan.workers (length (keys_in plan.scripts)) plan worker (last ++ later) answer made)).0
  of_ends before unfinished (call ∷ rest) last each (later, answer, made) = (each_split Is last later (of_call (Unit {0}) plan.workers (length (keys_in plan.scripts)) plan worker before call each.0 (any_puts call.operation) (last ++ later) answer made)).0
  of_ends before (stayed stay) rest last each ends = subst (AllByRecursion Is) (sym ends) tt

  of_stays : (stay : Stay) (first : List Made) → StaysBy plan worker stay first → AllByRecursion Is first
  of_stays never first stays = of_opening (Unit {0}) plan.workers (length (keys_in plan.scripts)) plan worker first (Done (Ok false)) stays
  of_stays (stopped misuse) first stays = of_opening (Unit {0}) plan.workers (length (keys_in plan.scripts)) plan worker first (Halted misuse) stays
  of_stays waits first (later, answer, some, made) = (each_split Is first later (of_opening (Unit {0}) plan.workers (length (keys_in plan.scripts)) plan worker (first ++ later) answer made)).0

  of_opens : (ending : LineEnd) (spelt : List SpeltCall) (first : List Made) → OpensBy plan worker ending spelt first → AllByRecursion Is first
  of_opens whole spelt first opens = of_opening (Unit {0}) plan.workers (length (keys_in plan.scripts)) plan worker first (Done (Ok true)) opens
  of_opens (misused misuse) spelt first opens = of_opening (Unit {0}) plan.workers (length (keys_in plan.scripts)) plan worker first (Done (Ok true)) opens
  of_opens (halted misuse) spelt first opens = of_opening (Unit {0}) plan.workers (length (keys_in plan.scripts)) plan worker first (Done (Ok true)) opens
  of_opens unfinished spelt first opens = of_opening (Unit {0}) plan.workers (length (keys_in plan.scripts)) plan worker first (Done (Ok true)) opens
  of_opens (stayed stay) spelt first opens = of_stays stay first opens.1

  a_halt : (misuse : Misuse) (x : Made) → IsHalt misuse x → Is x
  a_halt misuse (Shared x) is = absurd is
  a_halt misuse (Entered object entry) is = subst (λ d. IsMeantDeed plan.workers d × MayPutDeed (Unit {0}) d) (sym is) (tt, tt)

  of_halts : (ending : LineEnd) (halts : List Made) → AreHalts ending halts → AllByRecursion Is halts
  of_halts (misused misuse) halts are = each_mono (IsHalt misuse) Is (a_halt misuse) halts (recursion_from_All (IsHalt misuse) halts are)
  of_halts whole halts are = subst (AllByRecursion Is) (sym are) tt
  of_halts (halted misuse) halts are = subst (AllByRecursion Is) (sym are) tt
  of_halts unfinished halts are = subst (AllByRecursion Is) (sym are) tt
  of_halts (stayed stay) halts are = subst (AllByRecursion Is) (sym are) tt

  pub of_line : (line : Line) → IsLineOf plan worker line → RunsAlong (get_or plan.scripts worker []) (calls_made line) line.rest → KeysAreNumbered → is_valid plan ≡ true → AllByRecursion Is (items_of line)
  of_line line is runs same valid =
      let each = along (CallIsAmong plan) (get_or plan.scripts worker []) (calls_made line) line.rest runs (script_among plan worker same valid) in
      each_both Is line.first (flat_map (λ (s : SpeltCall). s.items) line.spelt ++ (line.last ++ line.halts)) (of_opens line.ending line.spelt line.first is.opens)
      (each_both Is (flat_map (λ (s : SpeltCall). s.items) line.spelt) (line.last ++ line.halts) (of_spelt 0 line.spelt is.calls each.0)
      (each_both Is line.last line.halts (of_ends (length (shared_in (flat_map (λ (s : SpeltCall). s.items) line.spelt))) line.ending line.rest line.last each.1 is.ends) (of_halts line.ending line.halts is.halts)))

-- ---- the list

-- the line that a list with an item is
line_at : (lines : List Line) (worker place : ℕ) (item : Made) → slice_get (get_or (map items_of lines) worker []) place ≡ Some item → (line : Line) × (slice_get lines worker ≡ Some line) × (slice_get (items_of line) place ≡ Some item) × (worker < length lines)
line_at [] worker place item at = absurd cc
line_at (line ∷ lines) zero place item at = (line, refl, at, omega arith)
line_at (line ∷ lines) (suc worker) place item at = let rest = line_at lines worker place item at in (rest.0, rest.1, rest.2, (let low = rest.3 in omega (arith, low)))

pub each_item : (plan : Plan) (r : Record) (outcome : Outcome) (lines : List Line) (worker place : ℕ) (item : Made) → KeysAreNumbered → is_valid plan ≡ true → AreLines plan r outcome lines → slice_get (list_of r worker) place ≡ Some item
    → (worker < plan.workers) × IsMeantItem plan.workers (length (keys_in plan.scripts)) item
each_item plan r outcome lines worker place item same valid are at =
    let (line, line_is, item_is, below) = line_at lines worker place item (ap (λ (lists : List (List Made)). slice_get (get_or lists worker []) place) are.lists ∙ at) in
    let scripts = eqb-true (length plan.scripts) plan.workers (both (length plan.scripts == plan.workers) _ valid).0 in
    let count = are.count in (
      omega (arith, below, count, scripts),
      (each_at (λ (x : Made). IsMeantItem plan.workers (length (keys_in plan.scripts)) x × MayPutItem (Unit {0}) x) (items_of line) place item (of_line plan worker line (are.each worker line line_is) (are.runs worker line line_is) same valid) item_is).0,
    )
