-- A worker's list, call by call.
use Rattle.std.proofs.Common.{◌≡◌, ℕ, zero, suc, ◌+◌, ◌<◌, ◌≤◌, Bool, true, false, ◌&&◌, cond, List, [], ◌∷◌, ◌++◌, length, take, drop, ◌-◌, Option, Some, None, Ok, Err, Result, slice_get, refl, sym, ap, ◌∙◌, subst, append_assoc, arith}
use Rattle.std.specs.Prelude.{replicate}
use Rattle.std.specs.List.{list_all, slice_range}
use Rattle.std.proofs.lemmas.Bool.{false≢true}
use Rattle.std.proofs.lemmas.List.{append-nil, drop_all, length-append, length-drop, length-replicate, length-take-le}
use Rattle.sync_types.specs.declared.misuse.Misuse.{Misuse}
use Rattle.script_calls.specs.declared.call.Call.{Call}
use Rattle.script_calls.specs.declared.call.Reply.{Reply}
use Rattle.script_calls.specs.Runs.{passed_over}
use Rattle.run_record.specs.declared.made.Made.{Made}
use Rattle.run_record.specs.declared.made.Made.TheVariants.{Shared, Entered}
use Rattle.run_record.specs.Lines.{Line, SpeltCall, LineEnd, Stay, whole as at_end, misused, halted, unfinished, stayed, never, stopped as met_halt, waits}
use Rattle.run_record.specs.Record.{shared_in}
use Rattle.run_cuts.specs.CallsAlong.{calls_along, calls_from, next_call}
use Rattle.run_cuts.specs.Cuts.{Beginning, Cutter}
use Rattle.run_cuts.specs.LineCuts.{by_opening, by_part, cut_from, ends_in_call, if_none_is_left, is_halt, stays_before, with_first, with_spelt}
use Rattle.list_checks.specs.CallMarks.{calls_behind, stop_end, up_to}
use Rattle.list_checks.specs.SpellFound.{beginning_of, EndsWithin, IsFound}
use Rattle.list_checks.specs.SpellLines.{ended_at, ended_by, if_all_read, line_end, line_told, AreSettled, IsCallFound, IsLineTold, SettlesFound, is_shared, stays_by}
use Rattle.list_checks.specs.declared.spell.line.Ending.{Ending}
use Rattle.list_checks.specs.declared.spell.line.Ending.TheVariants as ending
use Rattle.list_checks.specs.declared.spell.line.SpeltLine.{SpeltLine}
use Rattle.list_checks.specs.declared.spell.spelt.Spelt.{Spelt}
use Rattle.list_checks.specs.declared.spell.spelt.Stop.{Stop}
use Rattle.list_checks.specs.declared.spell.spelt.Stop.TheVariants as stop
use Rattle.list_checks.proofs.SpellLists.{at_place, one_more}

few_shared : (items : List Made) → length (shared_in items) ≤ length items
few_shared [] = omega arith
few_shared (Shared x ∷ items) = let later = few_shared items in omega (arith, later)
few_shared (Entered object entry ∷ items) = let later = few_shared items in omega (arith, later)

take_few : {X : Type 0} (n : ℕ) (xs : List X) → length (take n xs) ≤ n
take_few zero xs = omega arith
take_few (suc n) [] = omega arith
take_few (suc n) (x ∷ xs) = let later = take_few n xs in omega (arith, later)

-- ---- lines with completed calls before them

abbrev pub with_all : List SpeltCall → Option Line → Option Line
with_all [] line = line
with_all (spelt ∷ more) line = with_spelt spelt (with_all more line)

with_one_more : (spelt : List SpeltCall) (one : SpeltCall) (line : Option Line) → with_all spelt (with_spelt one line) ≡ with_all (spelt ++ one ∷ []) line
with_one_more [] one line = refl
with_one_more (first ∷ spelt) one line = ap (with_spelt first) (with_one_more spelt one line)

abbrev behind_all : List SpeltCall → Line → Line
behind_all spelt line = record { first = line.first; spelt = spelt ++ line.spelt; last = line.last; halts = line.halts; rest = line.rest; ending = line.ending }

all_before : (spelt : List SpeltCall) (line : Line) → with_all spelt (Some line) ≡ Some (behind_all spelt line)
all_before [] line = refl
all_before (first ∷ spelt) line = ap (with_spelt first) (all_before spelt line)

none_before : (spelt : List SpeltCall) → with_all spelt None ≡ None
none_before [] = refl
none_before (first ∷ spelt) = ap (with_spelt first) (none_before spelt)

abbrev Marks : Type 0
Marks = List (Option ℕ)

-- a line without completed calls, which ends so, and whose items are of these calls, where the next call stands at this place; none, where none may end there
abbrev pub IsEndTold : ℕ → Marks → Option Line → Option Ending → Type 0
IsEndTold place calls cut None = cut ≡ None
IsEndTold place calls cut (Some end) = (line : Line) × (cut ≡ Some line) × (line.ending ≡ line_end end) × (line.spelt ≡ []) × (calls_from place [] line.rest line.last ≡ calls)

-- items of these calls stand before the completed calls, and of those behind them: whatever goes on from the completed calls does so from this place of the script
abbrev pub GoesAlong : (first : Marks) (spelt : List SpeltCall) (done : Marks) (place : ℕ) → Type 0
GoesAlong first spelt done place = (more : List SpeltCall) (rest : List Call) (last : List Made) → first ++ calls_from 0 (spelt ++ more) rest last ≡ done ++ calls_from place more rest last

settled_more : (settles : Call → Reply ℕ → Reply ℕ → Type 0) (spelt : List SpeltCall) (replies : List (Reply ℕ)) (one : SpeltCall) (reply : Reply ℕ) → AreSettled settles spelt replies → settles one.call one.reply reply
    → AreSettled settles (spelt ++ one ∷ []) (replies ++ reply ∷ [])
settled_more settles [] replies one reply are settled = subst (λ (rs : List (Reply ℕ)). AreSettled settles (one ∷ []) (rs ++ reply ∷ [])) (sym are) (settled, refl)
settled_more settles (first ∷ spelt) [] one reply are settled = absurd are
settled_more settles (first ∷ spelt) (given ∷ replies) one reply (here, are) settled = (here, settled_more settles spelt replies one reply are settled)

told_behind : (settles : Call → Reply ℕ → Reply ℕ → Type 0) (cut : Option Line) (end : Option Ending) (spelt : List SpeltCall) (replies : List (Reply ℕ)) (first done later : Marks) (place : ℕ) → AreSettled settles spelt replies → GoesAlong first spelt done place
    → IsEndTold place later cut end → IsLineTold settles (calls_behind first) (with_all spelt cut) (line_told replies (done ++ later) end)
told_behind settles cut None spelt replies first done later place given along is = ap (with_all spelt) is ∙ none_before spelt
told_behind settles cut (Some end) spelt replies first done later place given along (line, is, ends, none, of) = (
  behind_all spelt line,
  ap (with_all spelt) is ∙ all_before spelt line,
  (
    ends,
    subst (λ (more : List SpeltCall). AreSettled settles (spelt ++ more) replies) (sym none) (subst (λ (all : List SpeltCall). AreSettled settles all replies) (sym (append-nil spelt)) given),
    along line.spelt line.rest line.last ∙ ap (λ (more : List SpeltCall). done ++ calls_from place more line.rest line.last) none ∙ ap (λ (calls : Marks). done ++ calls) of,
  ),
)

-- more is left of a list before its end
left_over : {X : Type 0} (list : List X) (n : ℕ) → n < length list → (x : X) × (rest : List X) × (drop n list ≡ x ∷ rest)
left_over [] n less = absurd (omega (arith, less))
left_over (x ∷ list) zero less = (x, list, refl)
left_over (x ∷ list) (suc n) less = left_over list n (omega (arith, less))

pub not_all_read : (list : List Made) (end : ℕ) (of : Ending) → end < length list → None ≡ ended_at list end of
not_all_read list end of less = by (left_over list end less) where
  by : (x : Made) × (rest : List Made) × (drop end list ≡ x ∷ rest) → None ≡ ended_at list end of
  by (x, rest, is) = sym (ap (λ (l : List Made). if_all_read l of) is)

module _ (misuse : Misuse) (list : List Made) (i : ℕ) (item : Made) (there : slice_get list i ≡ Some item) where
  pub a_halt : is_halt misuse item ≡ true → list_all (is_halt misuse) (drop i list) ≡ list_all (is_halt misuse) (drop (i + 1) list)
  a_halt is = ap (list_all (is_halt misuse)) (at_place list i item there) ∙ ap (λ (b : Bool). b && list_all (is_halt misuse) (drop (i + 1) list)) is

  pub no_halt : is_halt misuse item ≡ false → list_all (is_halt misuse) (drop i list) ≡ false
  no_halt is = ap (list_all (is_halt misuse)) (at_place list i item there) ∙ ap (λ (b : Bool). b && list_all (is_halt misuse) (drop (i + 1) list)) is

-- ---- how a list ends

slice_long : {X : Type 0} (list : List X) (from end : ℕ) → from ≤ end → end ≤ length list → length (slice_range list from end) ≡ end - from
slice_long list from end along inside =
    let rest = length-drop from list in
    length-take-le (end - from) (drop from list) (omega (arith, rest, along, inside))

module _ (list : List Made) (place : ℕ) where
  all_read : (end : ℕ) (script : List Call) (last halts : List Made) (lists : LineEnd) (of : Ending) (calls : Marks) → lists ≡ line_end of → replicate (length last) (next_call place script) ≡ calls
      → IsEndTold place calls (if_none_is_left (drop end list) (ends_in_call script last halts lists)) (ended_at list end of)
  all_read end script last halts lists of calls same are = by (drop end list) where
    by : (rest : List Made) → IsEndTold place calls (if_none_is_left rest (ends_in_call script last halts lists)) (if_all_read rest of)
    by [] = (ends_in_call script last halts lists, refl, same, refl, are)
    by (item ∷ rest) = refl

  halts_behind : (halts : Bool) (script : List Call) (items rest : List Made) (misuse : Misuse) (calls : Marks) → replicate (length items) (next_call place script) ≡ calls
      → IsEndTold place calls (cond halts (Some (ends_in_call script items rest (misused misuse))) None) (cond halts (Some (ending.Misused misuse)) None)
  halts_behind true script items rest misuse calls are = (ends_in_call script items rest (misused misuse), refl, refl, refl, are)
  halts_behind false script items rest misuse calls are = refl

  -- the items of a call that isn't done, which begin at a place
  abbrev of_last : ℕ → List Call → Stop → Marks
  of_last from script stopped = replicate (stop_end list stopped - from) (next_call place script)

  ends : {O : Type 0} (from : ℕ) (script : List Call) (on : List Made → O → List Made → Option Line) (stopped : Stop) → EndsWithin {O = O} list from (Err stopped)
      → IsEndTold place (of_last from script stopped) (by_part script (drop from list) (beginning_of list from (Err stopped)) on) (ended_by list stopped)
  ends from script on (stop.Misused end misuse) inside =
      halts_behind (list_all (is_halt misuse) (drop end list)) script (slice_range list from end) (drop end list) misuse (of_last from script (stop.Misused end misuse))
      (ap (λ (n : ℕ). replicate n (next_call place script)) (slice_long list from end inside.0 inside.1))
  ends from script on (stop.Halted end misuse) inside =
      all_read end script (slice_range list from end) [] (halted misuse) (ending.Halted misuse) (of_last from script (stop.Halted end misuse)) refl
      (ap (λ (n : ℕ). replicate n (next_call place script)) (slice_long list from end inside.0 inside.1))
  ends from script on stop.Within inside = (ends_in_call script (drop from list) [] unfinished, refl, refl, refl, ap (λ (n : ℕ). replicate n (next_call place script)) (length-drop from list))
  ends from script on stop.Wrong inside = refl

module _ (settles : Call → Reply ℕ → Reply ℕ → Type 0) (closes : Cutter (Unit {0})) (cut : ℕ → Call → Cutter (Reply ℕ)) (script : List Call) (list : List Made) (from : ℕ) (first : Marks) where
  -- Of the script so many calls are read or passed over, and so many more are to be passed over. The list is read up to a place, with so many calls on maps and atomics; the completed calls replied these, and the items up to the place are of those
  pub record SoFar (read passes at before : ℕ) (replies : List (Reply ℕ)) (calls : Marks) : Type 0 where
    pub inside : at ≤ length list
    pub few : before ≤ at
    pub spelt : List SpeltCall
    pub given : AreSettled settles spelt replies
    pub is : cut_from closes cut 0 0 script (drop from list) ≡ with_all spelt (cut_from closes cut before passes (drop read script) (drop at list))
    pub marked : length calls ≡ at
    pub along : GoesAlong first spelt calls (read + passes)

  pub begins : from ≤ length list → length first ≡ from → SoFar 0 0 from 0 [] first
  begins inside long = record { inside = inside; few = omega arith; spelt = []; given = refl; is = refl; marked = long; along = λ more rest last. refl }

  module _ (read at before : ℕ) (replies : List (Reply ℕ)) (calls : Marks) (call : Call) (there : slice_get script read ≡ Some call) where
    next : drop read script ≡ call ∷ drop (read + 1) script
    next = at_place script read call there

    pub passed : (passes left : ℕ) → passes ≡ suc left → SoFar read passes at before replies calls → SoFar (read + 1) left at before replies calls
    passed passes left is so = let here : read + passes ≡ (read + 1) + left = omega (arith, is) in record {
      inside = so.inside;
      few = so.few;
      spelt = so.spelt;
      given = so.given;
      is = so.is ∙ ap (λ (calls : List Call). with_all so.spelt (cut_from closes cut before passes calls (drop at list))) next
          ∙ ap (λ (n : ℕ). with_all so.spelt (cut_from closes cut before n (call ∷ drop (read + 1) script) (drop at list))) is;
      marked = so.marked;
      along = subst (GoesAlong first so.spelt calls) here so.along;
    }

    module _ (so : SoFar read 0 at before replies calls) where
      here : cut_from closes cut 0 0 script (drop from list) ≡ with_all so.spelt (cut_from closes cut before 0 (call ∷ drop (read + 1) script) (drop at list))
      here = so.is ∙ ap (λ (calls : List Call). with_all so.spelt (cut_from closes cut before 0 calls (drop at list))) next

      abbrev goes_on : List Made → Reply ℕ → List Made → Option Line
      goes_on items reply rest = with_spelt (record { call = call; items = items; reply = reply }) (cut_from closes cut (before + length (shared_in items)) (passed_over call reply) (drop (read + 1) script) rest)

      -- the items of one completed call more
      with_one : (told spelt : Spelt (Reply ℕ)) → IsFound list at (cut before call (drop at list)) (Ok told) → passed_over call told.outcome ≡ passed_over call spelt.outcome
          → (let one : SpeltCall = record { call = call; items = slice_range list at told.end; reply = told.outcome } in GoesAlong first (so.spelt ++ one ∷ []) (up_to calls told.end (Some read)) ((read + 1) + passed_over call spelt.outcome))
      with_one told spelt found passes later rest last =
          let items = slice_range list at told.end in
          let one : SpeltCall = record { call = call; items = items; reply = told.outcome } in
          let here : read + 0 ≡ read = omega arith in
          let behind = told.end - length calls in
          let long : length items ≡ behind = slice_long list at told.end found.ends.0 found.ends.1 ∙ ap (λ (n : ℕ). told.end - n) (sym so.marked) in
          ap (λ (s : List SpeltCall). first ++ calls_from 0 s rest last) (append_assoc so.spelt (one ∷ []) later)
          ∙ so.along (one ∷ later) rest last
          ∙ ap (λ (n : ℕ). calls ++ calls_from n (one ∷ later) rest last) here
          ∙ ap (λ (n : ℕ). calls ++ (replicate n (Some read) ++ calls_from (read + 1 + passed_over call told.outcome) later rest last)) long
          ∙ ap (λ (n : ℕ). calls ++ (replicate behind (Some read) ++ calls_from (read + 1 + n) later rest last)) passes
          ∙ sym (append_assoc calls (replicate behind (Some read)) (calls_from (read + 1 + passed_over call spelt.outcome) later rest last))

      completed_as : (told spelt : Spelt (Reply ℕ)) → IsFound list at (cut before call (drop at list)) (Ok told) → spelt.end ≡ told.end → settles call told.outcome spelt.outcome → passed_over call told.outcome ≡ passed_over call spelt.outcome
          → SoFar (read + 1) (passed_over call spelt.outcome) spelt.end (before + length (shared_in (slice_range list at spelt.end))) (replies ++ spelt.outcome ∷ []) (up_to calls spelt.end (Some read))
      completed_as told spelt found end settled passes =
          let items = slice_range list at told.end in
          let one : SpeltCall = record { call = call; items = items; reply = told.outcome } in
          let more = few_shared items in
          let long : length items ≤ told.end - at = take_few (told.end - at) (drop at list) in
          subst (λ (e : ℕ). SoFar (read + 1) (passed_over call spelt.outcome) e (before + length (shared_in (slice_range list at e))) (replies ++ spelt.outcome ∷ []) (up_to calls e (Some read))) (sym end) (record {
            inside = found.ends.1;
            few = let along = found.ends.0 in let less = so.few in omega (arith, more, long, along, less);
            spelt = so.spelt ++ one ∷ [];
            given = settled_more settles so.spelt replies one spelt.outcome so.given settled;
            is = here ∙ ap (λ (beginning : Beginning (Reply ℕ)). with_all so.spelt (by_part (call ∷ drop (read + 1) script) (drop at list) beginning goes_on)) found.is
                ∙ with_one_more so.spelt one (cut_from closes cut (before + length (shared_in items)) (passed_over call told.outcome) (drop (read + 1) script) (drop told.end list))
                ∙ ap (λ (n : ℕ). with_all (so.spelt ++ one ∷ []) (cut_from closes cut (before + length (shared_in items)) n (drop (read + 1) script) (drop told.end list))) passes;
            marked =
                let both = length-append calls (replicate (told.end - length calls) (Some read)) in
                let new = length-replicate (told.end - length calls) (Some read) in
                let along = found.ends.0 in
                let old = so.marked in
                omega (arith, both, new, along, old);
            along = λ later rest last. with_one told spelt found passes later rest last;
          })

      pub completed : (passes : (told reply : Reply ℕ) → settles call told reply → passed_over call told ≡ passed_over call reply) (spelt : Spelt (Reply ℕ)) → IsCallFound (settles call) list at (cut before call (drop at list)) (Ok spelt)
          → SoFar (read + 1) (passed_over call spelt.outcome) spelt.end (before + length (shared_in (slice_range list at spelt.end))) (replies ++ spelt.outcome ∷ []) (up_to calls spelt.end (Some read))
      completed passes spelt found = by found.told found.is found.settled where
        by : (told : Result (Spelt (Reply ℕ)) Stop) → IsFound list at (cut before call (drop at list)) told → SettlesFound (settles call) told (Ok spelt)
            → SoFar (read + 1) (passed_over call spelt.outcome) spelt.end (before + length (shared_in (slice_range list at spelt.end))) (replies ++ spelt.outcome ∷ []) (up_to calls spelt.end (Some read))
        by (Ok told) is (end, settled) = completed_as told spelt is end settled (passes told.outcome spelt.outcome settled)
        by (Err stopped) is settled = absurd settled

      -- what is told of a list whose next call isn't done
      abbrev told_stopped : Stop → Option SpeltLine
      told_stopped stopped = line_told replies (up_to calls (stop_end list stopped) (Some read)) (ended_by list stopped)

      stops_as : (stopped : Stop) → IsFound list at (cut before call (drop at list)) (Err stopped) → IsLineTold settles (calls_behind first) (cut_from closes cut 0 0 script (drop from list)) (told_stopped stopped)
      stops_as stopped found =
          let number : read + 0 ≡ read = omega arith in
          let along : GoesAlong first so.spelt calls read = subst (GoesAlong first so.spelt calls) number so.along in
          let told = told_behind settles (by_part (call ∷ drop (read + 1) script) (drop at list) (beginning_of list at (Err stopped)) goes_on) (ended_by list stopped) so.spelt replies first calls (of_last list read at (call ∷ drop (read + 1) script) stopped) read so.given along
          (ends list read at (call ∷ drop (read + 1) script) goes_on stopped found.ends) in
          subst (λ (line : Option Line). IsLineTold settles (calls_behind first) line (told_stopped stopped))
          (sym (here ∙ ap (λ (beginning : Beginning (Reply ℕ)). with_all so.spelt (by_part (call ∷ drop (read + 1) script) (drop at list) beginning goes_on)) found.is))
          (subst (λ (n : ℕ). IsLineTold settles (calls_behind first) (with_all so.spelt (by_part (call ∷ drop (read + 1) script) (drop at list) (beginning_of list at (Err stopped)) goes_on)) (line_told replies (calls ++ replicate (stop_end list stopped - n) (Some read)) (ended_by list stopped))) (sym so.marked) told)

      pub stops : (stopped : Stop) → IsCallFound (settles call) list at (cut before call (drop at list)) (Err stopped) → IsLineTold settles (calls_behind first) (cut_from closes cut 0 0 script (drop from list)) (told_stopped stopped)
      stops stopped found = by found.told found.is found.settled where
        by : (told : Result (Spelt (Reply ℕ)) Stop) → IsFound list at (cut before call (drop at list)) told → SettlesFound (settles call) told (Err stopped)
            → IsLineTold settles (calls_behind first) (cut_from closes cut 0 0 script (drop from list)) (told_stopped stopped)
        by (Ok told) is settled = absurd settled
        by (Err told) is same = stops_as stopped (subst (λ (e : Stop). IsFound list at (cut before call (drop at list)) (Err e)) (sym same) is)

  module _ (read passes at before : ℕ) (replies : List (Reply ℕ)) (calls : Marks) (so : SoFar read passes at before replies calls) (all : length script ≤ read) where
    abbrev closed : List Made → Unit {0} → List Made → Option Line
    closed items ended rest = if_none_is_left rest (ends_in_call [] items [] at_end)

    no_more : (n : ℕ) → cut_from closes cut before n [] (drop at list) ≡ by_part [] (drop at list) (closes (drop at list)) closed
    no_more zero = refl
    no_more (suc n) = refl

    left : cut_from closes cut 0 0 script (drop from list) ≡ with_all so.spelt (by_part [] (drop at list) (closes (drop at list)) closed)
    left = so.is ∙ ap (λ (calls : List Call). with_all so.spelt (cut_from closes cut before passes calls (drop at list))) (drop_all read script all) ∙ ap (with_all so.spelt) (no_more passes)

    pub closes_whole : (spelt : Spelt (Unit {0})) → IsFound list at (closes (drop at list)) (Ok spelt)
        → IsLineTold settles (calls_behind first) (cut_from closes cut 0 0 script (drop from list)) (line_told replies (up_to calls spelt.end None) (ended_at list spelt.end ending.Whole))
    closes_whole spelt found =
        let long : length (slice_range list at spelt.end) ≡ spelt.end - length calls = slice_long list at spelt.end found.ends.0 found.ends.1 ∙ ap (λ (n : ℕ). spelt.end - n) (sym so.marked) in
        subst (λ (line : Option Line). IsLineTold settles (calls_behind first) line (line_told replies (up_to calls spelt.end None) (ended_at list spelt.end ending.Whole)))
        (sym (left ∙ ap (λ (beginning : Beginning (Unit {0})). with_all so.spelt (by_part [] (drop at list) beginning closed)) found.is))
        (told_behind settles (closed (slice_range list at spelt.end) spelt.outcome (drop spelt.end list)) (ended_at list spelt.end ending.Whole) so.spelt replies first calls (replicate (spelt.end - length calls) None) (read + passes) so.given so.along
        (all_read list (read + passes) spelt.end [] (slice_range list at spelt.end) [] at_end ending.Whole (replicate (spelt.end - length calls) None) refl (ap (λ (n : ℕ). replicate n None) long)))

    pub closes_otherwise : (stopped : Stop) → IsFound list at (closes (drop at list)) (Err stopped)
        → IsLineTold settles (calls_behind first) (cut_from closes cut 0 0 script (drop from list)) (line_told replies (up_to calls (stop_end list stopped) None) (ended_by list stopped))
    closes_otherwise stopped found =
        let told = told_behind settles (by_part [] (drop at list) (beginning_of list at (Err stopped)) closed) (ended_by list stopped) so.spelt replies first calls (of_last list (read + passes) at [] stopped) (read + passes) so.given so.along
        (ends list (read + passes) at [] closed stopped found.ends) in
        subst (λ (line : Option Line). IsLineTold settles (calls_behind first) line (line_told replies (up_to calls (stop_end list stopped) None) (ended_by list stopped)))
        (sym (left ∙ ap (λ (beginning : Beginning (Unit {0})). with_all so.spelt (by_part [] (drop at list) beginning closed)) found.is))
        (subst (λ (n : ℕ). IsLineTold settles (calls_behind first) (with_all so.spelt (by_part [] (drop at list) (beginning_of list at (Err stopped)) closed)) (line_told replies (calls ++ replicate (stop_end list stopped - n) None) (ended_by list stopped))) (sym so.marked) told)

-- ---- what stands before the script

told_first : (settles : Call → Reply ℕ → Reply ℕ → Type 0) (first : List Made) (line : Option Line) (found : Option SpeltLine) → IsLineTold settles (calls_behind (replicate (length first) None)) line found → IsLineTold settles calls_along (with_first first line) found
told_first settles first line None is = ap (with_first first) is
told_first settles first line (Some spelt) (of, is, told) =
    (record { first = first; spelt = of.spelt; last = of.last; halts = of.halts; rest = of.rest; ending = of.ending }, ap (with_first first) is, told)

module _ (settles : Call → Reply ℕ → Reply ℕ → Type 0) (script : List Call) (list : List Made) (opens : Beginning Bool) (on : List Made → Option Line) where
  abbrev IsToldOpening : Option SpeltLine → Type 0
  IsToldOpening found = IsLineTold settles calls_along (by_opening script list opens on) found

  pub came : (end : ℕ) (found : Option SpeltLine) → IsFound list 0 opens (Ok (record { end = end; outcome = true })) → IsLineTold settles (calls_behind (up_to [] end None)) (on (drop end list)) found → IsToldOpening found
  came end found is told =
      let long : length (slice_range list 0 end) ≡ end - 0 = slice_long list 0 end is.ends.0 is.ends.1 in
      subst (λ (line : Option Line). IsLineTold settles calls_along line found) (sym (ap (λ (beginning : Beginning Bool). by_opening script list beginning on) is.is))
      (told_first settles (slice_range list 0 end) (on (drop end list)) found (subst (λ (n : ℕ). IsLineTold settles (calls_behind (replicate n None)) (on (drop end list)) found) (sym long) told))

  stays : (rest items : List Made) (stay : Stay) (of : Ending) (end : ℕ) → stayed stay ≡ line_end of → length items ≡ end - 0 → IsLineTold settles calls_along (if_none_is_left rest (stays_before script items stay)) (line_told [] (up_to [] end None) (if_all_read rest of))
  stays [] items stay of end same long = (stays_before script items stay, refl, (same, refl, append-nil (replicate (length items) None) ∙ ap (λ (n : ℕ). replicate n None) long))
  stays (item ∷ rest) items stay of end same long = refl

  by_opened : (beginning : Beginning Bool) (found : Option SpeltLine) → opens ≡ beginning → IsLineTold settles calls_along (by_opening script list beginning on) found → IsToldOpening found
  by_opened beginning found is told = subst (λ (line : Option Line). IsLineTold settles calls_along line found) (sym (ap (λ (b : Beginning Bool). by_opening script list b on) is)) told

  pub never_started : (end : ℕ) → IsFound list 0 opens (Ok (record { end = end; outcome = false })) → IsToldOpening (line_told [] (up_to [] end None) (ended_at list end ending.Never))
  never_started end found =
      by_opened _ (line_told [] (up_to [] end None) (ended_at list end ending.Never)) found.is (stays (drop end list) (slice_range list 0 end) never ending.Never end refl (slice_long list 0 end found.ends.0 found.ends.1))

  pub halted_before : (end : ℕ) (misuse : Misuse) → IsFound list 0 opens (Err (stop.Halted end misuse)) → IsToldOpening (line_told [] (up_to [] end None) (ended_at list end (ending.Stopped misuse)))
  halted_before end misuse found =
      by_opened _ (line_told [] (up_to [] end None) (ended_at list end (ending.Stopped misuse))) found.is
      (stays (drop end list) (slice_range list 0 end) (met_halt misuse) (ending.Stopped misuse) end refl (slice_long list 0 end found.ends.0 found.ends.1))

  pub still_waits : IsFound list 0 opens (Err stop.Within) → IsToldOpening (line_told [] (up_to [] (length list) None) (Some ending.Waits))
  still_waits found =
      let long : length list ≡ length list - 0 = omega arith in
      by_opened _ (line_told [] (up_to [] (length list) None) (Some ending.Waits)) found.is (stays_before script list waits, refl, (refl, refl, append-nil (replicate (length list) None) ∙ ap (λ (n : ℕ). replicate n None) long))

  pub misused_before : (end : ℕ) (misuse : Misuse) → IsFound list 0 opens (Err (stop.Misused end misuse)) → IsToldOpening None
  misused_before end misuse found = by_opened _ None found.is refl

  pub nothing_opens : IsFound list 0 opens (Err stop.Wrong) → IsToldOpening None
  nothing_opens found = by_opened _ None found.is refl

  pub came_to : (opened : Spelt Bool) (found : Option SpeltLine) → opened.outcome ≡ true → IsFound list 0 opens (Ok opened) → IsLineTold settles (calls_behind (up_to [] opened.end None)) (on (drop opened.end list)) found → IsToldOpening found
  came_to opened found comes is told = came opened.end found (subst (λ (b : Bool). IsFound list 0 opens (Ok (record { end = opened.end; outcome = b }))) comes is) told

  pub never_came : (opened : Spelt Bool) → opened.outcome ≡ false → IsFound list 0 opens (Ok opened) → IsToldOpening (line_told [] (up_to [] opened.end None) (ended_at list opened.end ending.Never))
  never_came opened isnt is = never_started opened.end (subst (λ (b : Bool). IsFound list 0 opens (Ok (record { end = opened.end; outcome = b }))) isnt is)

  pub stays_otherwise : (stopped : Stop) → IsFound list 0 opens (Err stopped) → IsToldOpening (line_told [] (up_to [] (stop_end list stopped) None) (stays_by list stopped))
  stays_otherwise (stop.Misused end misuse) found = misused_before end misuse found
  stays_otherwise (stop.Halted end misuse) found = halted_before end misuse found
  stays_otherwise stop.Within found = still_waits found
  stays_otherwise stop.Wrong found = nothing_opens found

-- ---- calls on maps and atomics

module _ (list : List Made) (from i : ℕ) (item : Made) (there : slice_get list i ≡ Some item) (along : from ≤ i) where
  shared_split : (a b : List Made) → length (shared_in (a ++ b)) ≡ length (shared_in a) + length (shared_in b)
  shared_split [] b = omega arith
  shared_split (Shared x ∷ a) b = let later = shared_split a b in omega (arith, later)
  shared_split (Entered object entry ∷ a) b = shared_split a b

  one_read : length (shared_in (slice_range list from (i + 1))) ≡ length (shared_in (slice_range list from i)) + length (shared_in (item ∷ []))
  one_read = ap (λ (l : List Made). length (shared_in l)) (sym (one_more list from i item there along)) ∙ shared_split (slice_range list from i) (item ∷ [])

  by_kind : (x : Made) (shared : Bool) → is_shared x ≡ shared → length (shared_in (x ∷ [])) ≡ cond shared 1 0
  by_kind (Shared x) true is = refl
  by_kind (Shared x) false is = absurd (false≢true (sym is))
  by_kind (Entered object entry) true is = absurd (false≢true is)
  by_kind (Entered object entry) false is = refl

  pub a_shared : is_shared item ≡ true → length (shared_in (slice_range list from (i + 1))) ≡ length (shared_in (slice_range list from i)) + 1
  a_shared is = let one = by_kind item true is in let read = one_read in omega (arith, one, read)

  pub an_entry : is_shared item ≡ false → length (shared_in (slice_range list from (i + 1))) ≡ length (shared_in (slice_range list from i))
  an_entry is = let none = by_kind item false is in let read = one_read in omega (arith, none, read)
