-- That a list, however it is read as a line, has its items of the calls of which the line has them that it is cut into.
use Rattle.std.proofs.Common.{◌≡◌, ◌∙◌, ◌⊎◌, inl, inr, ℕ, zero, suc, ◌+◌, Bool, true, false, List, [], ◌∷◌, ◌++◌, drop, get_or, length, slice_get, Option, Some, None, refl, sym, ap, subst, append_assoc, arith}
use Rattle.std.specs.Prelude.{Ok, Err, replicate}
use Rattle.std.specs.List.{list_all}
use Rattle.std.proofs.lemmas.Bool.{and_parts}
use Rattle.std.proofs.lemmas.List.{append-nil}
use Rattle.script_calls.specs.declared.call.Call.{Call}
use Rattle.script_calls.specs.declared.call.Operation.{Operation}
use Rattle.script_calls.specs.declared.call.Operation.TheVariants as operations
use Rattle.script_calls.specs.declared.call.Reply.{Reply}
use Rattle.script_calls.specs.declared.call.Reply.TheVariants as replies
use Rattle.script_calls.specs.Runs.{passed_over, RunsAlong}
use Rattle.protocols.specs.Spelling.{CallAnswer}
use Rattle.sync_model.specs.declared.answer.Answer.TheVariants.{Done, Halted}
use Rattle.workload.specs.declared.object.ObjectKind.{ObjectKind}
use Rattle.workload.specs.declared.object.ObjectKind.TheVariants as kinds
use Rattle.workload.specs.declared.object.ObjectLine.{ObjectLine}
use Rattle.workload.specs.Dialect.{has_variables}
use Rattle.workload.specs.Keys.{keys_in}
use Rattle.workload.specs.Plan.{Plan, is_on, is_valid}
use Rattle.run_record.specs.declared.made.Made.{Made}
use Rattle.run_record.specs.Calls.{SpellsCall}
use Rattle.run_record.specs.Lines.{Line, SpeltCall, LineEnd, whole as at_end, misused, halted, unfinished, stayed, Stay, never, stopped, waits, calls_made, items_of, AreHalts, AreSpelt, EndsBy, OpensBy, StaysBy, IsLineOf}
use Rattle.run_record.specs.Objects.{map_number}
use Rattle.run_record.specs.Parts.{Part, read_as}
use Rattle.run_record.specs.Record.{shared_in}
use Rattle.run_record.specs.StartsKind.{opening, closing}
use Rattle.run_cuts.specs.CallCuts.{at_cut, call_cut, on_cut}
use Rattle.run_cuts.specs.CallsAlong.{calls_along, calls_from, next_call}
use Rattle.run_cuts.specs.Cuts.{Beginning, whole, within, wrong, Cutter, Cuts, never_cut, read_cut}
use Rattle.run_cuts.specs.LineCuts.{by_opening, by_part, cut_from, ends_in_call, if_none_is_left, line_cut, stays_before, with_first, with_spelt}
use Rattle.run_cuts.specs.OneLine.{CutsCalls, SettlesAnswer, settles_by}
use Rattle.run_cuts.specs.RangeCuts.{shows, shows_cut}
use Rattle.run_cuts.specs.StartsCuts.{closing_cut, opening_cut}
use Rattle.run_cuts.proofs.CallCut.{call_cuts, calls_cut}
use Rattle.run_cuts.proofs.CallsBegin.{Begins, call_begins, closing_begins, script_is_on}
use Rattle.run_cuts.proofs.CutLemmas.{never_cuts, read_cuts, same_whole, wrong_whole}
use Rattle.run_cuts.proofs.LineCut.{Came, Told, ended, flat, made_in, reply_told, shared_more, skipped}
use Rattle.run_cuts.proofs.RangeCut.{range_cut}
use Rattle.run_cuts.proofs.StartsCut.{closing_cuts, opening_cuts}

-- ---- what is found of a list is found of any that goes on from it

pub record IsSteady {O : Type 0} (cut : Cutter O) : Type 0 where
  pub is_part : (list items rest : List Made) (answer : CallAnswer O) → cut list ≡ whole items answer rest → list ≡ items ++ rest
  pub more : (list later items rest : List Made) (answer : CallAnswer O) → cut list ≡ whole items answer rest → cut (list ++ later) ≡ whole items answer (rest ++ later)
  pub stays : (list later : List Made) → cut list ≡ wrong → cut (list ++ later) ≡ wrong

steady : {O : Type 0} (part : Part O) (cut : Cutter O) → Cuts part cut → IsSteady cut
steady part cut cuts = record {
  is_part = λ list items rest answer is. (cuts.sound list items rest answer is).0;
  more = λ list later items rest answer is.
      let found = cuts.sound list items rest answer is in
      ap (λ (l : List Made). cut (l ++ later)) found.0 ∙ ap cut (append_assoc items rest later) ∙ cuts.complete items (rest ++ later) answer found.1;
  stays = cuts.stays;
}

on_steady : (plan : Plan) (worker before place : ℕ) (kind : ObjectKind) → IsSteady (on_cut plan worker before place kind operations.Range)
on_steady plan worker before place kinds.Map =
    steady (read_as replies.Pairs (shows (keys_in plan.scripts) (map_number plan.objects place) before)) (read_cut replies.Pairs (shows_cut (map_number plan.objects place) before))
    (read_cuts replies.Pairs (shows (keys_in plan.scripts) (map_number plan.objects place) before) (shows_cut (map_number plan.objects place) before) (range_cut (keys_in plan.scripts) (map_number plan.objects place) before).items)
on_steady plan worker before place kind = steady _ never_cut never_cuts

at_steady : (plan : Plan) (worker before place : ℕ) (object : Option ObjectLine) → IsSteady (at_cut plan worker before place object operations.Range)
at_steady plan worker before place None = steady _ never_cut never_cuts
at_steady plan worker before place (Some object) = on_steady plan worker before place object.kind

call_steady : (plan : Plan) (worker before : ℕ) (call : Call) → IsSteady (call_cut plan worker before call)
call_steady plan worker before call = by call.operation refl where
  by : (operation : Operation) → call.operation ≡ operation → IsSteady (call_cut plan worker before call)
  by operations.Range is = subst (λ (o : Operation). IsSteady (at_cut plan worker before call.object (slice_get plan.objects call.object) o)) (sym is) (at_steady plan worker before call.object (slice_get plan.objects call.object))
  by operation is = subst (λ (o : Operation). IsSteady (at_cut plan worker before call.object (slice_get plan.objects call.object) o)) (sym is)
      (let own : Call = record { object = call.object; operation = operation } in steady (SpellsCall plan worker before own) (call_cut plan worker before own) (call_cuts plan worker before own refl))

nil_append : {X : Type 0} (xs ys : List X) → xs ++ ys ≡ [] → (xs ≡ []) × (ys ≡ [])
nil_append [] ys e = (refl, e)
nil_append (x ∷ xs) ys e = absurd cc

-- the list is within the part, or it is all of the part
abbrev IsWithin : {O : Type 0} → Cutter O → (last later : List Made) → CallAnswer O → Type 0
IsWithin {O} cut last later answer = (cut last ≡ within) ⊎ ((later ≡ []) × (cut last ≡ whole last answer []))

within_or_all : {O : Type 0} (cut : Cutter O) (last later : List Made) (answer : CallAnswer O) → IsSteady cut → cut (last ++ later) ≡ whole (last ++ later) answer [] → IsWithin cut last later answer
within_or_all {O} cut last later answer is all = by (cut last) refl where
  by : (found : Beginning O) → cut last ≡ found → IsWithin cut last later answer
  by (whole items given rest) e =
      let same = same_whole items (last ++ later) given answer (rest ++ later) [] (sym (is.more last later items rest given e) ∙ all) in
      let none = nil_append rest later same.rests_are in
      let items_are : items ≡ last = same.items_are ∙ ap (λ (l : List Made). last ++ l) none.1 ∙ append-nil last in
      inr (none.1, e ∙ ap (λ (l : List Made). whole l given rest) items_are ∙ ap (λ (a : CallAnswer O). whole last a rest) same.answers_are ∙ ap (λ (l : List Made). whole last answer l) none.0)
  by within e = inl e
  by wrong e = absurd (wrong_whole (last ++ later) [] answer (sym (is.stays last later e) ∙ all))

module _ (plan : Plan) (worker : ℕ) (opens : Cutter Bool) (closes : Cutter (Unit {0})) (settles : Call → Reply ℕ → Reply ℕ → Type 0) (cut : ℕ → Call → Cutter (Reply ℕ))
    (opens_cut : Cuts (opening plan worker) opens) (closes_cut : Cuts (closing plan worker) closes)
    (cuts : CutsCalls plan worker settles cut) (steadies : (before : ℕ) (call : Call) → IsSteady (cut before call)) (can_close : Begins closes) where
  -- each call may begin a list that has nothing more
  abbrev pub AllBegin : List Call → Type 0
  AllBegin [] = Unit {0}
  AllBegin (call ∷ script) = ((before : ℕ) → Begins (cut before call)) × AllBegin script

  all_behind : (n : ℕ) (script : List Call) → AllBegin script → AllBegin (drop n script)
  all_behind zero script all = all
  all_behind (suc n) [] all = tt
  all_behind (suc n) (call ∷ script) all = all_behind n script all.1

  -- the items of a line that was found are of these calls, by the place of the script's first; one is found, if each call may begin
  abbrev IsAlong : List Call → (ℕ → List (Option ℕ)) → Option Line → Type 0
  IsAlong script calls None = AllBegin script → ⊥
  IsAlong script calls (Some told) = (place : ℕ) → calls_from place told.spelt told.rest told.last ≡ calls place

  along_as : (script : List Call) (calls others : ℕ → List (Option ℕ)) (found : Option Line) → ((place : ℕ) → calls place ≡ others place) → IsAlong script calls found → IsAlong script others found
  along_as script calls others None same is = is
  along_as script calls others (Some told) same is = λ place. is place ∙ same place

  -- one completed call more
  along_more : (call : Call) (items : List Made) (reply : Reply ℕ) (n : ℕ) (script : List Call) (calls : ℕ → List (Option ℕ)) (found : Option Line) → IsAlong (drop n script) calls found
      → IsAlong (call ∷ script) (λ place. replicate (length items) (Some place) ++ calls (place + 1 + passed_over call reply)) (with_spelt (record { call = call; items = items; reply = reply }) found)
  along_more call items reply n script calls None is = λ all. is (all_behind n script all.1)
  along_more call items reply n script calls (Some told) is = λ place. ap (λ l. replicate (length items) (Some place) ++ l) (is (place + 1 + passed_over call reply))

  abbrev nothing : ℕ → List (Option ℕ)
  nothing place = []

  -- a list that has nothing more
  none_part : {O : Type 0} (script : List Call) (found : Beginning O) (on : List Made → O → List Made → Option Line) → ((items rest : List Made) (answer : CallAnswer O) → found ≡ whole items answer rest → [] ≡ items ++ rest)
      → ((outcome : O) → IsAlong script nothing (on [] outcome [])) → (found ≡ wrong → AllBegin script → ⊥) → IsAlong script nothing (by_part script [] found on)
  none_part {O} script (whole items answer rest) on is_part goes begins = by items rest (nil_append items rest (sym (is_part items rest answer refl))) answer where
    by_answer : (answer : CallAnswer O) → IsAlong script nothing (by_part script [] (whole [] answer []) on)
    by_answer (Done (Ok outcome)) = goes outcome
    by_answer (Done (Err misuse)) = λ place. refl
    by_answer (Halted misuse) = λ place. refl

    by : (items rest : List Made) → (items ≡ []) × (rest ≡ []) → (answer : CallAnswer O) → IsAlong script nothing (by_part script [] (whole items answer rest) on)
    by items rest (no_items, no_rest) answer =
        subst (λ (l : List Made). IsAlong script nothing (by_part script [] (whole l answer rest) on)) (sym no_items)
        (subst (λ (l : List Made). IsAlong script nothing (by_part script [] (whole [] answer l) on)) (sym no_rest) (by_answer answer))
  none_part script within on is_part goes begins = λ place. refl
  none_part script wrong on is_part goes begins = begins refl

  none_closing : (before : ℕ) → IsAlong [] nothing (cut_from closes cut before 0 [] [])
  none_closing before = none_part [] (closes []) (λ items ended rest. if_none_is_left rest (ends_in_call [] items [] at_end)) (λ items rest answer is. (closes_cut.sound [] items rest answer is).0) (λ outcome place. refl) (λ is all. can_close is)

  none_left : (script : List Call) (before passes : ℕ) → IsAlong (drop passes script) nothing (cut_from closes cut before passes script [])
  none_left [] before zero = none_closing before
  none_left [] before (suc passes) = none_closing before
  none_left (call ∷ script) before (suc passes) = none_left script before passes
  none_left (call ∷ script) before zero =
      none_part (call ∷ script) (cut before call []) (λ items reply rest. let s : SpeltCall = record { call = call; items = items; reply = reply } in with_spelt s (cut_from closes cut (before + length (shared_in items)) (passed_over call reply) script rest))
      (λ items rest answer is. (steadies before call).is_part [] items rest answer is)
      (λ reply. along_more call [] reply (passed_over call reply) script nothing (cut_from closes cut (before + length (shared_in [])) (passed_over call reply) script []) (none_left script (before + length (shared_in [])) (passed_over call reply)))
      (λ is all. all.0 before is)

  -- how the line goes on behind a completed call
  abbrev on_from : ℕ → Call → List Call → List Made → Reply ℕ → List Made → Option Line
  on_from before call script items reply rest = with_spelt (record { call = call; items = items; reply = reply }) (cut_from closes cut (before + length (shared_in items)) (passed_over call reply) script rest)

  -- the items of the call in which a line ends, or of what closes the script
  abbrev of_next : List Call → List Made → ℕ → List (Option ℕ)
  of_next rest last place = replicate (length last) (next_call place rest)

  all_cut : {O : Type 0} (own : Cutter O) (items : List Made) (told : CallAnswer O) → own (items ++ []) ≡ whole items told [] → own items ≡ whole items told []
  all_cut own items told is = ap own (sym (append-nil items)) ∙ is

  unfinished_along : (before : ℕ) (rest : List Call) (last : List Made) → EndsBy plan worker before unfinished rest last → IsAlong rest (of_next rest last) (cut_from closes cut before 0 rest last)
  unfinished_along before [] last (later, answer, some, is) = by (within_or_all closes last later answer (steady (closing plan worker) closes closes_cut) (all_cut closes (last ++ later) answer (closes_cut.complete (last ++ later) [] answer is))) where
    by : IsWithin closes last later answer → IsAlong [] (of_next [] last) (cut_from closes cut before 0 [] last)
    by (inl e) = subst (λ (found : Beginning (Unit {0})). IsAlong [] (of_next [] last) (by_part [] last found (λ items ended rest. if_none_is_left rest (ends_in_call [] items [] at_end)))) (sym e) (λ place. refl)
    by (inr (none, e)) = absurd (some none)
  unfinished_along before (call ∷ rest) last (later, answer, is) = told_so ((cuts.calls before call).complete (last ++ later) [] answer is) where
    by_answer : (told : CallAnswer (Reply ℕ)) → IsAlong (call ∷ rest) (of_next (call ∷ rest) last) (by_part (call ∷ rest) last (whole last told []) (on_from before call rest))
    by_answer (Done (Ok reply)) =
        along_as (call ∷ rest) (λ place. replicate (length last) (Some place) ++ []) (of_next (call ∷ rest) last) ((on_from before call rest) last reply []) (λ place. append-nil (replicate (length last) (Some place)))
        (along_more call last reply (passed_over call reply) rest nothing (cut_from closes cut (before + length (shared_in last)) (passed_over call reply) rest []) (none_left rest (before + length (shared_in last)) (passed_over call reply)))
    by_answer (Done (Err misuse)) = λ place. refl
    by_answer (Halted misuse) = λ place. refl

    by : (told : CallAnswer (Reply ℕ)) → IsWithin (cut before call) last later told → IsAlong (call ∷ rest) (of_next (call ∷ rest) last) (cut_from closes cut before 0 (call ∷ rest) last)
    by told (inl e) = subst (λ (found : Beginning (Reply ℕ)). IsAlong (call ∷ rest) (of_next (call ∷ rest) last) (by_part (call ∷ rest) last found (on_from before call rest))) (sym e) (λ place. refl)
    by told (inr (none, e)) = subst (λ (found : Beginning (Reply ℕ)). IsAlong (call ∷ rest) (of_next (call ∷ rest) last) (by_part (call ∷ rest) last found (on_from before call rest))) (sym e) (by_answer told)

    told_so : (told : CallAnswer (Reply ℕ)) × SettlesAnswer (settles call) told answer × (cut before call ((last ++ later) ++ []) ≡ whole (last ++ later) told []) → IsAlong (call ∷ rest) (of_next (call ∷ rest) last) (cut_from closes cut before 0 (call ∷ rest) last)
    told_so (told, settled, e) = by told (within_or_all (cut before call) last later told (steadies before call) (all_cut (cut before call) (last ++ later) told e))

  found_end : (before : ℕ) (ending : LineEnd) (rest : List Call) (last halts : List Made) → cut_from closes cut before 0 rest (last ++ halts) ≡ Some (ends_in_call rest last halts ending) → IsAlong rest (of_next rest last) (cut_from closes cut before 0 rest (last ++ halts))
  found_end before ending rest last halts is = subst (λ (found : Option Line). IsAlong rest (of_next rest last) found) (sym is) (λ place. refl)

  end_along : (before : ℕ) (ending : LineEnd) (rest : List Call) (last halts : List Made) → Came ending → EndsBy plan worker before ending rest last → AreHalts ending halts → IsAlong rest (of_next rest last) (cut_from closes cut before 0 rest (last ++ halts))
  end_along before at_end rest last halts came ends are = found_end before at_end rest last halts (ended plan worker opens closes settles cut opens_cut closes_cut cuts before at_end rest last halts tt came ends are)
  end_along before (misused misuse) rest last halts came ends are = found_end before (misused misuse) rest last halts (ended plan worker opens closes settles cut opens_cut closes_cut cuts before (misused misuse) rest last halts tt came ends are)
  end_along before (halted misuse) rest last halts came ends are = found_end before (halted misuse) rest last halts (ended plan worker opens closes settles cut opens_cut closes_cut cuts before (halted misuse) rest last halts tt came ends are)
  end_along before unfinished rest last halts came ends none =
      subst (λ (l : List Made). IsAlong rest (of_next rest last) (cut_from closes cut before 0 rest l)) (sym (ap (λ (l : List Made). last ++ l) none ∙ append-nil last)) (unfinished_along before rest last ends)
  end_along before (stayed stay) rest last halts came ends are = absurd came

  -- one completed call before a line
  call_along : (before : ℕ) (s : SpeltCall) (behind : List Call) (left : List Made) (calls : ℕ → List (Option ℕ)) → SpellsCall plan worker before s.call s.items (Done (Ok s.reply))
      → IsAlong (drop (passed_over s.call s.reply) behind) calls (cut_from closes cut (before + length (shared_in s.items)) 0 (drop (passed_over s.call s.reply) behind) left)
      → IsAlong (s.call ∷ behind) (λ place. replicate (length s.items) (Some place) ++ calls (place + 1 + passed_over s.call s.reply)) (cut_from closes cut before 0 (s.call ∷ behind) (s.items ++ left))
  call_along before s behind left calls one later = by ((cuts.calls before s.call).complete s.items left (Done (Ok s.reply)) one) where
    with_reply : (answer : CallAnswer (Reply ℕ)) → cut before s.call (s.items ++ left) ≡ whole s.items answer left → Told (settles s.call) answer s.reply
        → IsAlong (s.call ∷ behind) (λ place. replicate (length s.items) (Some place) ++ calls (place + 1 + passed_over s.call s.reply)) (cut_from closes cut before 0 (s.call ∷ behind) (s.items ++ left))
    with_reply answer is (reply, says, settled) =
        let more = before + length (shared_in s.items) in
        let passes : passed_over s.call reply ≡ passed_over s.call s.reply = cuts.passes s.call reply s.reply settled in
        let rest_cut : cut_from closes cut more (passed_over s.call reply) behind left ≡ cut_from closes cut more 0 (drop (passed_over s.call s.reply) behind) left =
        skipped closes cut more (passed_over s.call reply) behind left ∙ ap (λ (n : ℕ). cut_from closes cut more 0 (drop n behind) left) passes in
        let same : cut_from closes cut before 0 (s.call ∷ behind) (s.items ++ left) ≡ on_from before s.call behind s.items reply left =
        ap (λ (f : Beginning (Reply ℕ)). by_part (s.call ∷ behind) (s.items ++ left) f (on_from before s.call behind)) (is ∙ ap (λ (a : CallAnswer (Reply ℕ)). whole s.items a left) says) in
        subst (λ (found : Option Line). IsAlong (s.call ∷ behind) (λ place. replicate (length s.items) (Some place) ++ calls (place + 1 + passed_over s.call s.reply)) found) (sym same)
        (along_as (s.call ∷ behind) (λ place. replicate (length s.items) (Some place) ++ calls (place + 1 + passed_over s.call reply)) (λ place. replicate (length s.items) (Some place) ++ calls (place + 1 + passed_over s.call s.reply))
        (on_from before s.call behind s.items reply left) (λ place. ap (λ (n : ℕ). replicate (length s.items) (Some place) ++ calls (place + 1 + n)) passes)
        (along_more s.call s.items reply (passed_over s.call s.reply) behind calls (cut_from closes cut more (passed_over s.call reply) behind left)
        (subst (λ (found : Option Line). IsAlong (drop (passed_over s.call s.reply) behind) calls found) (sym rest_cut) later)))

    by : (answer : CallAnswer (Reply ℕ)) × SettlesAnswer (settles s.call) answer (Done (Ok s.reply)) × (cut before s.call (s.items ++ left) ≡ whole s.items answer left)
        → IsAlong (s.call ∷ behind) (λ place. replicate (length s.items) (Some place) ++ calls (place + 1 + passed_over s.call s.reply)) (cut_from closes cut before 0 (s.call ∷ behind) (s.items ++ left))
    by (answer, settled, is) = with_reply answer is (reply_told (settles s.call) answer s.reply settled)

  all_along : (spelt : List SpeltCall) (before : ℕ) (ending : LineEnd) (script rest : List Call) (last halts : List Made) → RunsAlong script (made_in spelt) rest → Came ending → AreSpelt plan worker before spelt
      → EndsBy plan worker (before + length (shared_in (flat spelt))) ending rest last → AreHalts ending halts
      → IsAlong script (λ place. calls_from place spelt rest last) (cut_from closes cut before 0 script (flat spelt ++ (last ++ halts)))
  all_along [] before ending script rest last halts run came calls ends are =
      let n : before + 0 ≡ before = omega arith in
      subst (λ (l : List Call). IsAlong l (of_next rest last) (cut_from closes cut before 0 l (last ++ halts))) run
      (end_along before ending rest last halts came (subst (λ (k : ℕ). EndsBy plan worker k ending rest last) n ends) are)
  all_along (s ∷ spelt) before ending script rest last halts (behind, is, run) came (one, calls) ends are =
      let n : before + length (shared_in (s.items ++ flat spelt)) ≡ (before + length (shared_in s.items)) + length (shared_in (flat spelt)) = omega (arith, shared_more s.items (flat spelt)) in
      let later = all_along spelt (before + length (shared_in s.items)) ending (drop (passed_over s.call s.reply) behind) rest last halts run came calls (subst (λ (k : ℕ). EndsBy plan worker k ending rest last) n ends) are in
      subst (λ (l : List Call). IsAlong l (λ place. calls_from place (s ∷ spelt) rest last) (cut_from closes cut before 0 l ((s.items ++ flat spelt) ++ (last ++ halts)))) (sym is)
      (subst (λ (l : List Made). IsAlong (s.call ∷ behind) (λ place. calls_from place (s ∷ spelt) rest last) (cut_from closes cut before 0 (s.call ∷ behind) l)) (sym (append_assoc s.items (flat spelt) (last ++ halts)))
      (call_along before s behind (flat spelt ++ (last ++ halts)) (λ place. calls_from place spelt rest last) one later))

  -- ---- with what stands before the script

  -- the items of a line that was found are of the same calls as those of this one; one is found, if each call may begin
  abbrev pub IsLineAlong : List Call → Line → Option Line → Type 0
  IsLineAlong script line None = AllBegin script → ⊥
  IsLineAlong script line (Some told) = calls_along told ≡ calls_along line

  abbrev came_along : List Call → Line → Type 0
  came_along script line = IsLineAlong script line (line_cut opens closes cut 0 script (items_of line))

  first_along : (script : List Call) (line : Line) (found : Option Line) → IsAlong script (λ place. calls_from place line.spelt line.rest line.last) found → IsLineAlong script line (with_first line.first found)
  first_along script line None is = is
  first_along script line (Some told) is = ap (λ l. replicate (length line.first) None ++ l) (is 0)

  opened_along : (script : List Call) (line : Line) → RunsAlong script (calls_made line) line.rest → Came line.ending → opening plan worker line.first (Done (Ok true)) → IsLineOf plan worker line → came_along script line
  opened_along script line run came opened is =
      let left : List Made = flat line.spelt ++ (line.last ++ line.halts) in
      let n : length (shared_in (flat line.spelt)) ≡ 0 + length (shared_in (flat line.spelt)) = omega arith in
      let later = all_along line.spelt 0 line.ending script line.rest line.last line.halts run came is.calls (subst (λ (k : ℕ). EndsBy plan worker k line.ending line.rest line.last) n is.ends) is.halts in
      let same : line_cut opens closes cut 0 script (items_of line) ≡ with_first line.first (cut_from closes cut 0 0 script left) =
      ap (λ (f : Beginning Bool). by_opening script (items_of line) f (λ rest. cut_from closes cut 0 0 script rest)) (opens_cut.complete line.first left (Done (Ok true)) opened) in
      subst (IsLineAlong script line) (sym same) (first_along script line (cut_from closes cut 0 0 script left) later)

  -- a worker that stayed before its script: the list is what it made there
  stayed_along : (script : List Call) (line : Line) (stay : Stay) → line.spelt ≡ [] → line.last ≡ [] → line.halts ≡ []
      → by_opening script line.first (opens line.first) (λ rest. cut_from closes cut 0 0 script rest) ≡ Some (stays_before script line.first stay) → came_along script line
  stayed_along script line stay no_calls no_last no_halts is =
      let list : items_of line ≡ line.first = ap (λ (s : List SpeltCall). line.first ++ (flat s ++ (line.last ++ line.halts))) no_calls ∙ ap (λ (l : List Made). line.first ++ (l ++ line.halts)) no_last ∙ ap (λ (l : List Made). line.first ++ l) no_halts ∙ append-nil line.first in
      let calls : calls_from 0 [] script [] ≡ calls_from 0 line.spelt line.rest line.last = ap (λ (l : List Made). calls_from 0 [] line.rest l) (sym no_last) ∙ ap (λ (s : List SpeltCall). calls_from 0 s line.rest line.last) (sym no_calls) in
      subst (λ (l : List Made). IsLineAlong script line (line_cut opens closes cut 0 script l)) (sym list)
      (subst (IsLineAlong script line) (sym is) (ap (λ l. replicate (length line.first) None ++ l) calls))

  whole_opening : (first : List Made) (answer : CallAnswer Bool) → opening plan worker first answer → opens first ≡ whole first answer []
  whole_opening first answer opened = all_cut opens first answer (opens_cut.complete first [] answer opened)

  stay_along : (script : List Call) (line : Line) (stay : Stay) → line.spelt ≡ [] → line.last ≡ [] → line.halts ≡ [] → StaysBy plan worker stay line.first → came_along script line
  stay_along script line never no_calls no_last no_halts opened =
      stayed_along script line never no_calls no_last no_halts (ap (λ (f : Beginning Bool). by_opening script line.first f (λ rest. cut_from closes cut 0 0 script rest)) (whole_opening line.first (Done (Ok false)) opened))
  stay_along script line (stopped misuse) no_calls no_last no_halts opened =
      stayed_along script line (stopped misuse) no_calls no_last no_halts (ap (λ (f : Beginning Bool). by_opening script line.first f (λ rest. cut_from closes cut 0 0 script rest)) (whole_opening line.first (Halted misuse) opened))
  stay_along script line waits no_calls no_last no_halts (later, answer, some, opened) =
      by (within_or_all opens line.first later answer (steady (opening plan worker) opens opens_cut) (whole_opening (line.first ++ later) answer opened)) where
        by : IsWithin opens line.first later answer → came_along script line
        by (inl e) = stayed_along script line waits no_calls no_last no_halts (ap (λ (f : Beginning Bool). by_opening script line.first f (λ rest. cut_from closes cut 0 0 script rest)) e)
        by (inr (none, e)) = absurd (some none)

  -- each line
  pub line_along : (script : List Call) (line : Line) → RunsAlong script (calls_made line) line.rest → IsLineOf plan worker line → came_along script line
  line_along script line run is = by line.ending refl is.opens is.ends is.halts where
    came : (ending : LineEnd) → line.ending ≡ ending → Came ending → opening plan worker line.first (Done (Ok true)) → came_along script line
    came ending e comes opened = opened_along script line run (subst Came (sym e) comes) opened is

    by : (ending : LineEnd) → line.ending ≡ ending → OpensBy plan worker ending line.spelt line.first → EndsBy plan worker (length (shared_in (flat line.spelt))) ending line.rest line.last → AreHalts ending line.halts → came_along script line
    by at_end e opened ends are = came at_end e tt opened
    by (misused misuse) e opened ends are = came (misused misuse) e tt opened
    by (halted misuse) e opened ends are = came (halted misuse) e tt opened
    by unfinished e opened ends are = came unfinished e tt opened
    by (stayed stay) e opened ends are = stay_along script line stay opened.0 ends are opened.1

-- ---- a worker of a workload

module _ (plan : Plan) (worker : ℕ) where
  abbrev of_worker : List Call → Line → Option Line → Type 0
  of_worker script line found =
      IsLineAlong plan worker (opening_cut plan worker) (closing_cut plan worker) (settles_by plan) (call_cut plan worker) (opening_cuts plan worker) (closing_cuts plan worker) (calls_cut plan worker) (call_steady plan worker) (closing_begins plan worker) script line found

  found_along : (script : List Call) (line : Line) → RunsAlong script (calls_made line) line.rest → IsLineOf plan worker line
      → of_worker script line (line_cut (opening_cut plan worker) (closing_cut plan worker) (call_cut plan worker) 0 script (items_of line))
  found_along script line run is =
      line_along plan worker (opening_cut plan worker) (closing_cut plan worker) (settles_by plan) (call_cut plan worker) (opening_cuts plan worker) (closing_cuts plan worker) (calls_cut plan worker) (call_steady plan worker) (closing_begins plan worker) script line run is

  pub same_calls : (script : List Call) (line told : Line) → RunsAlong script (calls_made line) line.rest → IsLineOf plan worker line
      → line_cut (opening_cut plan worker) (closing_cut plan worker) (call_cut plan worker) 0 script (items_of line) ≡ Some told → calls_along told ≡ calls_along line
  same_calls script line told run is e = subst (of_worker script line) e (found_along script line run is)

  all_begin : has_variables plan ≡ false → (script : List Call) → list_all (λ (call : Call). is_on plan.objects (slice_get plan.objects call.object) call) script ≡ true
      → AllBegin plan worker (opening_cut plan worker) (closing_cut plan worker) (settles_by plan) (call_cut plan worker) (opening_cuts plan worker) (closing_cuts plan worker) (calls_cut plan worker) (call_steady plan worker) (closing_begins plan worker) script
  all_begin none [] on = tt
  all_begin none (call ∷ script) on = let parts = and_parts _ _ on in ((λ before. call_begins plan worker before call none parts.0), all_begin none script parts.1)

  pub some_line : (line : Line) → is_valid plan ≡ true → has_variables plan ≡ false → RunsAlong (get_or plan.scripts worker []) (calls_made line) line.rest → IsLineOf plan worker line
      → line_cut (opening_cut plan worker) (closing_cut plan worker) (call_cut plan worker) 0 (get_or plan.scripts worker []) (items_of line) ≡ None → ⊥
  some_line line valid none run is e =
      let script = get_or plan.scripts worker [] in
      subst (of_worker script line) e (found_along script line run is) (all_begin none script (script_is_on plan worker valid))
