-- That a list is cut into the line that it is.
use Rattle.std.proofs.Common.{◌≡◌, ◌∙◌, ℕ, zero, suc, ◌+◌, Bool, true, false, cond, List, [], ◌∷◌, ◌++◌, map, drop, length, Option, Some, None, refl, sym, ap, subst, append_assoc, arith}
use Rattle.std.specs.Prelude.{All, Ok, Err}
use Rattle.std.specs.List.{flat_map, list_all}
use Rattle.std.proofs.lemmas.Bool.{and_parts, and_from, cond-true}
use Rattle.std.proofs.lemmas.List.{append-nil, length-append}
use Rattle.std.proofs.lemmas.List.Elements.{All-nil, All-cons, All-head, All-tail}
use Rattle.sync_types.specs.declared.misuse.Misuse.{Misuse}
use Rattle.sync_types.specs.declared.misuse.Misuse.TheVariants.{UnlockOfUnlockedMutex, RUnlockOfUnlockedRwMutex, UnlockOfUnlockedRwMutex, NegativeWaitGroupCounter, WaitGroupReused, SemaphoreOverReleased}
use Rattle.script_calls.specs.declared.call.Call.{Call}
use Rattle.script_calls.specs.declared.call.Reply.{Reply}
use Rattle.script_calls.specs.Runs.{passed_over, RunsAlong}
use Rattle.protocols.specs.Spelling.{CallAnswer}
use Rattle.sync_model.specs.declared.answer.Answer.TheVariants.{Done, Halted}
use Rattle.sync_model.specs.declared.item.Item.{Item}
use Rattle.sync_model.specs.declared.journal.Deed.{Deed}
use Rattle.sync_model.specs.declared.journal.Deed.TheVariants.{Event, Refused, Halt}
use Rattle.run_record.specs.declared.entered.ObjectEvent.{ObjectEvent}
use Rattle.run_record.specs.declared.entered.ObjectReply.{ObjectReply}
use Rattle.run_record.specs.declared.made.Made.TheVariants.{Shared, Entered}
use Rattle.run_record.specs.declared.made.Made.{Made}
use Rattle.run_record.specs.Calls.{SpellsCall}
use Rattle.run_record.specs.Explains.{HasEnded}
use Rattle.run_record.specs.Lines.{Line, SpeltCall, LineEnd, whole as at_end, misused, halted, unfinished, stayed, Stay, never, stopped, waits, calls_made, items_of, IsHalt, AreHalts, AreSpelt, EndsBy, OpensBy, StaysBy, IsLineOf}
use Rattle.run_record.specs.Parts.{Part}
use Rattle.run_record.specs.Record.{shared_in}
use Rattle.run_record.specs.StartsKind.{opening, closing}
use Rattle.workload.specs.Plan.{Plan}
use Rattle.run_cuts.specs.Cuts.{Beginning, whole, within, wrong, Cutter, Cuts}
use Rattle.run_cuts.specs.OneLine.{CutsCalls, CutsLines, SettlesAnswer, SettlesEach, with_calls}
use Rattle.run_cuts.specs.LineCuts.{by_opening, by_part, cut_from, ends_in_call, halts_by, if_none_is_left, is_halt, line_cut, same_misuse, stays_before, with_first, with_spelt}
use Rattle.run_cuts.proofs.CutLemmas.{whole_within}

some_line : {a b : Line} → Some a ≡ Some b → a ≡ b
some_line e = cc

none_some : {a : Line} → None ≡ Some a → ⊥
none_some e = cc

shared_append : (a b : List Made) → shared_in (a ++ b) ≡ shared_in a ++ shared_in b
shared_append [] b = refl
shared_append (Shared x ∷ a) b = ap (λ (l : List Item). x ∷ l) (shared_append a b)
shared_append (Entered object entry ∷ a) b = shared_append a b

pub shared_more : (a b : List Made) → length (shared_in (a ++ b)) ≡ length (shared_in a) + length (shared_in b)
shared_more a b = ap (λ (l : List Item). length l) (shared_append a b) ∙ length-append (shared_in a) (shared_in b)

-- misuses and halts
misuse_is : (a b : Misuse) → same_misuse a b ≡ true → a ≡ b
misuse_is UnlockOfUnlockedMutex UnlockOfUnlockedMutex h = refl
misuse_is RUnlockOfUnlockedRwMutex RUnlockOfUnlockedRwMutex h = refl
misuse_is UnlockOfUnlockedRwMutex UnlockOfUnlockedRwMutex h = refl
misuse_is NegativeWaitGroupCounter NegativeWaitGroupCounter h = refl
misuse_is WaitGroupReused WaitGroupReused h = refl
misuse_is SemaphoreOverReleased SemaphoreOverReleased h = refl
misuse_is a b h = absurd cc

misuse_same : (a : Misuse) → same_misuse a a ≡ true
misuse_same UnlockOfUnlockedMutex = refl
misuse_same RUnlockOfUnlockedRwMutex = refl
misuse_same UnlockOfUnlockedRwMutex = refl
misuse_same NegativeWaitGroupCounter = refl
misuse_same WaitGroupReused = refl
misuse_same SemaphoreOverReleased = refl

halt_is : (misuse : Misuse) (d : Deed ObjectEvent ObjectReply) → halts_by misuse d ≡ true → d ≡ Halt misuse
halt_is misuse (Halt other) h = ap (λ (m : Misuse). let d : Deed ObjectEvent ObjectReply = Halt m in d) (misuse_is other misuse h)
halt_is misuse (Event e r) h = absurd cc
halt_is misuse (Refused e m) h = absurd cc

is_halt_told : (misuse : Misuse) (m : Made) → is_halt misuse m ≡ true → IsHalt misuse m
is_halt_told misuse (Shared x) h = absurd cc
is_halt_told misuse (Entered object entry) h = halt_is misuse entry.deed h

is_halt_tells : (misuse : Misuse) (m : Made) → IsHalt misuse m → is_halt misuse m ≡ true
is_halt_tells misuse (Shared x) h = absurd h
is_halt_tells misuse (Entered object entry) h = ap (halts_by misuse) h ∙ misuse_same misuse

all_told : (misuse : Misuse) (list : List Made) → list_all (is_halt misuse) list ≡ true → All (IsHalt misuse) list
all_told misuse [] h = All-nil (IsHalt misuse)
all_told misuse (m ∷ list) h =
    let parts = and_parts (is_halt misuse m) (list_all (is_halt misuse) list) h in
    All-cons (IsHalt misuse) m list (is_halt_told misuse m parts.0) (all_told misuse list parts.1)

all_tells : (misuse : Misuse) (list : List Made) → All (IsHalt misuse) list → list_all (is_halt misuse) list ≡ true
all_tells misuse [] h = refl
all_tells misuse (m ∷ list) h = and_from (is_halt misuse m) (list_all (is_halt misuse) list) (is_halt_tells misuse m (All-head (IsHalt misuse) m list h)) (all_tells misuse list (All-tail (IsHalt misuse) m list h))

nothing : (n : ℕ) → drop {A = Call} n [] ≡ []
nothing zero = refl
nothing (suc n) = refl

-- what is passed over isn't cut
pub skipped : (closes : Cutter (Unit {0})) (cut : ℕ → Call → Cutter (Reply ℕ)) (before passes : ℕ) (script : List Call) (list : List Made) → cut_from closes cut before passes script list ≡ cut_from closes cut before 0 (drop passes script) list
skipped closes cut before zero script list = refl
skipped closes cut before (suc passes) [] list = refl
skipped closes cut before (suc passes) (call ∷ script) list = skipped closes cut before passes script list

-- completed calls, each with its reply
abbrev pub made_in : List SpeltCall → List (Call × Reply ℕ)
made_in spelt = map (λ s. (s.call, s.reply)) spelt

-- the items of completed calls
abbrev pub flat : List SpeltCall → List Made
flat spelt = flat_map (λ s. s.items) spelt

-- a misuse is told as it is, and so is a halt
misuse_told : (settles : Reply ℕ → Reply ℕ → Type 0) (told : CallAnswer (Reply ℕ)) (misuse : Misuse) → SettlesAnswer settles told (Done (Err misuse)) → told ≡ Done (Err misuse)
misuse_told settles (Done (Ok reply)) misuse (other, settled, is) = absurd cc
misuse_told settles (Done (Err other)) misuse is = sym is
misuse_told settles (Halted other) misuse is = sym is

halt_told : (settles : Reply ℕ → Reply ℕ → Type 0) (told : CallAnswer (Reply ℕ)) (misuse : Misuse) → SettlesAnswer settles told (Halted misuse) → told ≡ Halted misuse
halt_told settles (Done (Ok reply)) misuse (other, settled, is) = absurd cc
halt_told settles (Done (Err other)) misuse is = sym is
halt_told settles (Halted other) misuse is = sym is

-- a reply is told as one that it settles
abbrev pub Told : (Reply ℕ → Reply ℕ → Type 0) → CallAnswer (Reply ℕ) → Reply ℕ → Type 0
Told settles answer reply = (told : Reply ℕ) × (answer ≡ Done (Ok told)) × settles told reply

pub reply_told : (settles : Reply ℕ → Reply ℕ → Type 0) (told : CallAnswer (Reply ℕ)) (reply : Reply ℕ) → SettlesAnswer settles told (Done (Ok reply)) → Told settles told reply
reply_told settles (Done (Ok told)) reply (other, settled, is) = let same : reply ≡ other = cc in (told, refl, subst (λ (r : Reply ℕ). settles told r) (sym same) settled)
reply_told settles (Done (Err other)) reply is = absurd cc
reply_told settles (Halted other) reply is = absurd cc

-- the worker came to its script
abbrev pub Came : LineEnd → Type 0
Came at_end = Unit {0}
Came (misused misuse) = Unit {0}
Came (halted misuse) = Unit {0}
Came unfinished = Unit {0}
Came (stayed stay) = ⊥

-- a list that ends within a part isn't the part's items
not_all : {O : Type 0} (part : Part O) (own : Cutter O) (list later : List Made) (answer : CallAnswer O) → Cuts part own → own list ≡ within → part (list ++ later) answer → later ≡ [] → ⊥
not_all part own list later answer cuts is spelt none =
    whole_within list [] answer (sym (cuts.complete list [] answer (subst (λ (l : List Made). part l answer) (ap (λ (l : List Made). list ++ l) none ∙ append-nil list) spelt)) ∙ ap own (append-nil list) ∙ is)

module _ (plan : Plan) (worker : ℕ) (opens : Cutter Bool) (closes : Cutter (Unit {0})) (settles : Call → Reply ℕ → Reply ℕ → Type 0) (cut : ℕ → Call → Cutter (Reply ℕ))
    (opens_cut : Cuts (opening plan worker) opens) (closes_cut : Cuts (closing plan worker) closes)
    (cuts : CutsCalls plan worker settles cut) where
  -- how many calls on maps and atomics a line's completed calls make, behind so many
  abbrev pub made_by : ℕ → List SpeltCall → ℕ
  made_by before spelt = before + length (shared_in (flat spelt))

  -- the line of this script and list behind what stands before the script, from a number of calls on
  pub record IsLineFrom (before : ℕ) (script : List Call) (list : List Made) (line : Line) : Type 0 where
    pub runs : RunsAlong script (calls_made line) line.rest
    pub list_is : flat line.spelt ++ (line.last ++ line.halts) ≡ list
    pub came : Came line.ending
    pub calls : AreSpelt plan worker before line.spelt
    pub ends : EndsBy plan worker (made_by before line.spelt) line.ending line.rest line.last
    pub halts : AreHalts line.ending line.halts

  -- it is, with its replies settled
  abbrev pub IsSettledFrom : ℕ → List Call → List Made → Line → Type 0
  IsSettledFrom before script list told = (spelt : List SpeltCall) → SettlesEach settles told.spelt spelt → IsLineFrom before script list (with_calls told spelt)

  -- a line that ends in its first part
  first_part : (before : ℕ) (script : List Call) (last halts : List Made) (ending : LineEnd) (told : Line) → Some (ends_in_call script last halts ending) ≡ Some told → Came ending → EndsBy plan worker before ending script last → AreHalts ending halts
      → IsSettledFrom before script (last ++ halts) told
  first_part before script last halts ending told e came ends are =
      let n : before ≡ before + 0 = omega arith in
      let own : IsLineFrom before script (last ++ halts) (ends_in_call script last halts ending) = record { runs = refl; list_is = refl; came = came; calls = tt; ends = subst (λ (k : ℕ). EndsBy plan worker k ending script last) n ends; halts = are } in
      subst (λ (l : Line). IsSettledFrom before script (last ++ halts) l) (some_line e)
      (λ spelt none. subst (λ (s : List SpeltCall). IsLineFrom before script (last ++ halts) (with_calls (ends_in_call script last halts ending) s)) (sym none) own)

  -- the same, where no halt is behind it
  last_part : (before : ℕ) (script : List Call) (last : List Made) (ending : LineEnd) (told : Line) → Some (ends_in_call script last [] ending) ≡ Some told → Came ending → EndsBy plan worker before ending script last → AreHalts ending [] → IsSettledFrom before script last told
  last_part before script last ending told e came ends none = subst (λ (l : List Made). IsSettledFrom before script l told) (append-nil last) (first_part before script last [] ending told e came ends none)

  -- one completed call more
  one_call : (before : ℕ) (script : List Call) (one : SpeltCall) (rest : List Made) (line : Line) → SpellsCall plan worker before one.call one.items (Done (Ok one.reply)) → IsLineFrom (before + length (shared_in one.items)) (drop (passed_over one.call one.reply) script) rest line
      → IsLineFrom before (one.call ∷ script) (one.items ++ rest) (with_calls line (one ∷ line.spelt))
  one_call before script one rest line spelt is =
      let n : made_by (before + length (shared_in one.items)) line.spelt ≡ before + length (shared_in (one.items ++ flat line.spelt)) = omega (arith, shared_more one.items (flat line.spelt)) in record {
        runs = (script, refl, is.runs);
        list_is = append_assoc one.items (flat line.spelt) (line.last ++ line.halts) ∙ ap (λ (l : List Made). one.items ++ l) is.list_is;
        came = is.came;
        calls = (spelt, is.calls);
        ends = subst (λ (k : ℕ). EndsBy plan worker k line.ending line.rest line.last) n is.ends;
        halts = is.halts;
      }

  -- a line whose script has this left ends in the part that is cut so, as a misuse, by a halt, or within it
  pub record EndsIn {O : Type 0} (before : ℕ) (script : List Call) (own : Cutter O) : Type 0 where
    pub is_part : (list items rest : List Made) (answer : CallAnswer O) → own list ≡ whole items answer rest → list ≡ items ++ rest
    pub misuses : (list items rest : List Made) (misuse : Misuse) → own list ≡ whole items (Done (Err misuse)) rest → EndsBy plan worker before (misused misuse) script items
    pub halts : (list items rest : List Made) (misuse : Misuse) → own list ≡ whole items (Halted misuse) rest → EndsBy plan worker before (halted misuse) script items
    pub goes_on : (list : List Made) → own list ≡ within → EndsBy plan worker before unfinished script list

  ends_in_closing : (before : ℕ) → EndsIn before [] closes
  ends_in_closing before = record {
    is_part = λ list items rest answer is. (closes_cut.sound list items rest answer is).0;
    misuses = λ list items rest misuse is. (closes_cut.sound list items rest (Done (Err misuse)) is).1;
    halts = λ list items rest misuse is. (closes_cut.sound list items rest (Halted misuse) is).1;
    goes_on = λ list is. on list is (closes_cut.goes_on list is);
  } where
    on : (list : List Made) → closes list ≡ within → (later : List Made) × (answer : CallAnswer (Unit {0})) × closing plan worker (list ++ later) answer → EndsBy plan worker before unfinished [] list
    on list is (later, answer, spelt) = (later, answer, λ none. not_all (closing plan worker) closes list later answer closes_cut is spelt none, spelt)

  ends_in_its_call : (before : ℕ) (call : Call) (script : List Call) → EndsIn before (call ∷ script) (cut before call)
  ends_in_its_call before call script = record {
    is_part = λ list items rest answer is. (cuts.calls before call).is_part list items rest answer is;
    misuses = λ list items rest misuse is. (cuts.calls before call).sound list items rest (Done (Err misuse)) (Done (Err misuse)) is refl;
    halts = λ list items rest misuse is. (cuts.calls before call).sound list items rest (Halted misuse) (Halted misuse) is refl;
    goes_on = λ list is. (cuts.calls before call).goes_on list is;
  }

  part_sound : {O : Type 0} (own : Cutter O) (before : ℕ) (script : List Call) → EndsIn before script own → (on : List Made → O → List Made → Option Line) (list : List Made) (told : Line)
      → by_part script list (own list) on ≡ Some told
      → ((items rest : List Made) (outcome : O) → own list ≡ whole items (Done (Ok outcome)) rest → on items outcome rest ≡ Some told → IsSettledFrom before script (items ++ rest) told) → IsSettledFrom before script list told
  part_sound {O = O} own before script ends on list told e goes = by (own list) refl e
    where
      misuse_ends : (items rest : List Made) (misuse : Misuse) → own list ≡ whole items (Done (Err misuse)) rest → (b : Bool) → list_all (is_halt misuse) rest ≡ b → cond b (Some (ends_in_call script items rest (misused misuse))) None ≡ Some told → IsSettledFrom before script list told
      misuse_ends items rest misuse is true halts e =
          subst (λ (x : List Made). IsSettledFrom before script x told) (sym (ends.is_part list items rest (Done (Err misuse)) is))
          (first_part before script items rest (misused misuse) told e tt (ends.misuses list items rest misuse is) (all_told misuse rest halts))
      misuse_ends items rest misuse is false halts e = absurd (none_some e)

      halt_ends : (items rest : List Made) (misuse : Misuse) → own list ≡ whole items (Halted misuse) rest → if_none_is_left rest (ends_in_call script items [] (halted misuse)) ≡ Some told → IsSettledFrom before script list told
      halt_ends items [] misuse is e =
          subst (λ (x : List Made). IsSettledFrom before script x told) (sym (ends.is_part list items [] (Halted misuse) is ∙ append-nil items)) (last_part before script items (halted misuse) told e tt (ends.halts list items [] misuse is) refl)
      halt_ends items (m ∷ rest) misuse is e = absurd (none_some e)

      by : (found : Beginning O) → own list ≡ found → by_part script list found on ≡ Some told → IsSettledFrom before script list told
      by (whole items (Done (Ok outcome)) rest) is e =
          subst (λ (x : List Made). IsSettledFrom before script x told) (sym (ends.is_part list items rest (Done (Ok outcome)) is)) (goes items rest outcome is e)
      by (whole items (Done (Err misuse)) rest) is e = misuse_ends items rest misuse is (list_all (is_halt misuse) rest) refl e
      by (whole items (Halted misuse) rest) is e = halt_ends items rest misuse is e
      by within is e = last_part before script list unfinished told e tt (ends.goes_on list is) refl
      by wrong is e = absurd (none_some e)

  closing_sound : (before : ℕ) (list : List Made) (told : Line) → cut_from closes cut before 0 [] list ≡ Some told → IsSettledFrom before [] list told
  closing_sound before list told e = part_sound closes before [] (ends_in_closing before) (λ items ended rest. if_none_is_left rest (ends_in_call [] items [] at_end)) list told e closed
    where
      closed : (items rest : List Made) (ended : Unit {0}) → closes list ≡ whole items (Done (Ok ended)) rest → if_none_is_left rest (ends_in_call [] items [] at_end) ≡ Some told → IsSettledFrom before [] (items ++ rest) told
      closed items [] ended is e = first_part before [] items [] at_end told e tt (refl, (closes_cut.sound list items [] (Done (Ok ended)) is).1) refl
      closed items (m ∷ rest) ended is e = absurd (none_some e)

  -- one completed call more, with its reply settled
  one_settled : (before : ℕ) (call : Call) (script : List Call) (list items rest : List Made) (reply : Reply ℕ) (told : Line) → cut before call list ≡ whole items (Done (Ok reply)) rest
      → IsSettledFrom (before + length (shared_in items)) (drop (passed_over call reply) script) rest told
      → (spelt : List SpeltCall) → (let s : SpeltCall = record { call = call; items = items; reply = reply } in SettlesEach settles (s ∷ told.spelt) spelt) → IsLineFrom before (call ∷ script) (items ++ rest) (with_calls told spelt)
  one_settled before call script list items rest reply told is later [] each = absurd each
  one_settled before call script list items rest reply told is later (one ∷ spelt) (same_call, same_items, settled, each) =
      let asked : settles call reply one.reply = settled in
      let calls : SpeltCall → Line = λ s. with_calls told (s ∷ spelt) in
      let exact : SpeltCall = record { call = call; items = items; reply = one.reply } in
      let same : one ≡ exact = ap (λ (c : Call). let s : SpeltCall = record { call = c; items = one.items; reply = one.reply } in s) same_call ∙ ap (λ (l : List Made). let s : SpeltCall = record { call = call; items = l; reply = one.reply } in s) same_items in
      let spells = (cuts.calls before call).sound list items rest (Done (Ok reply)) (Done (Ok one.reply)) is (one.reply, asked, refl) in
      let passes = cuts.passes call reply one.reply asked in
      let rest_is = subst (λ (n : ℕ). IsLineFrom (before + length (shared_in items)) (drop n script) rest (with_calls told spelt)) passes (later spelt each) in
      subst (λ (s : SpeltCall). IsLineFrom before (call ∷ script) (items ++ rest) (calls s)) (sym same) (one_call before script exact rest (with_calls told spelt) spells rest_is)

  pub line_sound : (script : List Call) (before passes : ℕ) (list : List Made) (told : Line) → cut_from closes cut before passes script list ≡ Some told → IsSettledFrom before (drop passes script) list told
  line_sound [] before passes list told e = subst (λ (l : List Call). IsSettledFrom before l list told) (sym (nothing passes)) (closing_sound before list told e)
  line_sound (call ∷ script) before (suc passes) list told e = line_sound script before passes list told e
  line_sound (call ∷ script) before zero list told e =
      part_sound (cut before call) before (call ∷ script) (ends_in_its_call before call script)
      (λ items reply rest. let s : SpeltCall = record { call = call; items = items; reply = reply } in with_spelt s (cut_from closes cut (before + length (shared_in items)) (passed_over call reply) script rest)) list told e
      (λ items rest reply is f. with_one items rest reply is (cut_from closes cut (before + length (shared_in items)) (passed_over call reply) script rest) f
      (λ l at. line_sound script (before + length (shared_in items)) (passed_over call reply) rest l at))
    where
      with_one : (items rest : List Made) (reply : Reply ℕ) → cut before call list ≡ whole items (Done (Ok reply)) rest → (found : Option Line) → (let s : SpeltCall = record { call = call; items = items; reply = reply } in with_spelt s found ≡ Some told)
          → ((l : Line) → found ≡ Some l → IsSettledFrom (before + length (shared_in items)) (drop (passed_over call reply) script) rest l) → IsSettledFrom before (call ∷ script) (items ++ rest) told
      with_one items rest reply is None e on = absurd (none_some e)
      with_one items rest reply is (Some l) e on = subst (λ (x : Line). IsSettledFrom before (call ∷ script) (items ++ rest) x) (some_line e) (one_settled before call script list items rest reply l is (on l refl))

  -- ---- what stands before the script

  -- the line is one of this script and list
  abbrev pub IsFound : List Call → List Made → Line → Type 0
  IsFound script list line = RunsAlong script (calls_made line) line.rest × (items_of line ≡ list) × IsLineOf plan worker line

  -- it is, with its replies settled
  abbrev pub IsSettled : List Call → List Made → Line → Type 0
  IsSettled script list told = (spelt : List SpeltCall) → SettlesEach settles told.spelt spelt → IsFound script list (with_calls told spelt)

  came_opens : (ending : LineEnd) (spelt : List SpeltCall) (first : List Made) → Came ending → opening plan worker first (Done (Ok true)) → OpensBy plan worker ending spelt first
  came_opens at_end spelt first came opened = opened
  came_opens (misused misuse) spelt first came opened = opened
  came_opens (halted misuse) spelt first came opened = opened
  came_opens unfinished spelt first came opened = opened
  came_opens (stayed stay) spelt first came opened = absurd came

  came_line : (script : List Call) (items rest : List Made) (line : Line) → opening plan worker items (Done (Ok true)) → IsLineFrom 0 script rest line
      → IsFound script (items ++ rest) (record { first = items; spelt = line.spelt; last = line.last; halts = line.halts; rest = line.rest; ending = line.ending })
  came_line script items rest line opened is =
      let n : made_by 0 line.spelt ≡ length (shared_in (flat line.spelt)) = omega arith in (
        is.runs,
        ap (λ (l : List Made). items ++ l) is.list_is,
        record {
          opens = came_opens line.ending line.spelt items is.came opened;
          calls = is.calls;
          ends = subst (λ (k : ℕ). EndsBy plan worker k line.ending line.rest line.last) n is.ends;
          halts = is.halts;
        },
      )

  stayed_line : (script : List Call) (first : List Made) (stay : Stay) (line : Line) → Some (stays_before script first stay) ≡ Some line → StaysBy plan worker stay first → IsSettled script first line
  stayed_line script first stay line e stays =
      subst (λ (l : Line). IsSettled script first l) (some_line e)
      (λ spelt none. subst (λ (s : List SpeltCall). IsFound script first (with_calls (stays_before script first stay) s)) (sym none) (refl, append-nil first, record { opens = (refl, stays); calls = tt; ends = refl; halts = refl }))

  opening_sound : (script : List Call) (list : List Made) (line : Line) → line_cut opens closes cut 0 script list ≡ Some line → IsSettled script list line
  opening_sound script list line e = by (opens list) refl e
    where
      came : (items rest : List Made) → opening plan worker items (Done (Ok true)) → (found : Option Line) → with_first items found ≡ Some line → ((l : Line) → found ≡ Some l → IsSettledFrom 0 script rest l) → IsSettled script (items ++ rest) line
      came items rest opened None e on = absurd (none_some e)
      came items rest opened (Some l) e on = subst (λ (x : Line). IsSettled script (items ++ rest) x) (some_line e) (λ spelt each. came_line script items rest (with_calls l spelt) opened (on l refl spelt each))

      stays : (items rest : List Made) (stay : Stay) → StaysBy plan worker stay items → if_none_is_left rest (stays_before script items stay) ≡ Some line → IsSettled script (items ++ rest) line
      stays items [] stay is e = subst (λ (l : List Made). IsSettled script l line) (sym (append-nil items)) (stayed_line script items stay line e is)
      stays items (m ∷ rest) stay is e = absurd (none_some e)

      waiting : opens list ≡ within → (later : List Made) × (answer : CallAnswer Bool) × opening plan worker (list ++ later) answer → StaysBy plan worker waits list
      waiting is (later, answer, spelt) = (later, answer, λ none. not_all (opening plan worker) opens list later answer opens_cut is spelt none, spelt)

      by : (found : Beginning Bool) → opens list ≡ found → by_opening script list found (λ rest. cut_from closes cut 0 0 script rest) ≡ Some line → IsSettled script list line
      by (whole items (Done (Ok true)) rest) is e =
          let one = opens_cut.sound list items rest (Done (Ok true)) is in
          subst (λ (x : List Made). IsSettled script x line) (sym one.0) (came items rest one.1 (cut_from closes cut 0 0 script rest) e (λ l f. line_sound script 0 0 rest l f))
      by (whole items (Done (Ok false)) rest) is e =
          let one = opens_cut.sound list items rest (Done (Ok false)) is in
          subst (λ (x : List Made). IsSettled script x line) (sym one.0) (stays items rest never one.1 e)
      by (whole items (Done (Err misuse)) rest) is e = absurd (none_some e)
      by (whole items (Halted misuse) rest) is e =
          let one = opens_cut.sound list items rest (Halted misuse) is in
          subst (λ (x : List Made). IsSettled script x line) (sym one.0) (stays items rest (stopped misuse) one.1 e)
      by within is e = stayed_line script list waits line e (waiting is (opens_cut.goes_on list is))
      by wrong is e = absurd (none_some e)

  -- ---- a line that has ended is found

  misuse_found : {O : Type 0} (own : Cutter O) (script : List Call) (on : List Made → O → List Made → Option Line) (misuse : Misuse) (last halts : List Made) → own (last ++ halts) ≡ whole last (Done (Err misuse)) halts → AreHalts (misused misuse) halts
      → by_part script (last ++ halts) (own (last ++ halts)) on ≡ Some (ends_in_call script last halts (misused misuse))
  misuse_found {O = O} own script on misuse last halts is are =
      ap (λ (f : Beginning O). by_part script (last ++ halts) f on) is
      ∙ cond-true (list_all (is_halt misuse) halts) (Some (ends_in_call script last halts (misused misuse))) None (all_tells misuse halts are)

  halt_found : {O : Type 0} (own : Cutter O) (script : List Call) (on : List Made → O → List Made → Option Line) (misuse : Misuse) (last halts : List Made) → own (last ++ halts) ≡ whole last (Halted misuse) halts → halts ≡ []
      → by_part script (last ++ halts) (own (last ++ halts)) on ≡ Some (ends_in_call script last halts (halted misuse))
  halt_found {O = O} own script on misuse last halts is are =
      ap (λ (f : Beginning O). by_part script (last ++ halts) f on) is
      ∙ ap (λ (l : List Made). if_none_is_left l (ends_in_call script last [] (halted misuse))) are ∙ ap (λ (l : List Made). Some (ends_in_call script last l (halted misuse))) (sym are)

  -- a call that is a misuse, or was halted, is cut as it is spelt
  misuse_cut : (before : ℕ) (call : Call) (items rest : List Made) (misuse : Misuse) → SpellsCall plan worker before call items (Done (Err misuse)) → cut before call (items ++ rest) ≡ whole items (Done (Err misuse)) rest
  misuse_cut before call items rest misuse spelt = by ((cuts.calls before call).complete items rest (Done (Err misuse)) spelt) where
    by : (told : CallAnswer (Reply ℕ)) × SettlesAnswer (settles call) told (Done (Err misuse)) × (cut before call (items ++ rest) ≡ whole items told rest) → cut before call (items ++ rest) ≡ whole items (Done (Err misuse)) rest
    by (told, settled, is) = is ∙ ap (λ (answer : CallAnswer (Reply ℕ)). whole items answer rest) (misuse_told (settles call) told misuse settled)

  halt_cut : (before : ℕ) (call : Call) (items rest : List Made) (misuse : Misuse) → SpellsCall plan worker before call items (Halted misuse) → cut before call (items ++ rest) ≡ whole items (Halted misuse) rest
  halt_cut before call items rest misuse spelt = by ((cuts.calls before call).complete items rest (Halted misuse) spelt) where
    by : (told : CallAnswer (Reply ℕ)) × SettlesAnswer (settles call) told (Halted misuse) × (cut before call (items ++ rest) ≡ whole items told rest) → cut before call (items ++ rest) ≡ whole items (Halted misuse) rest
    by (told, settled, is) = is ∙ ap (λ (answer : CallAnswer (Reply ℕ)). whole items answer rest) (halt_told (settles call) told misuse settled)

  -- what a line ends in is found as it ends, unless it is unfinished
  pub ended : (before : ℕ) (ending : LineEnd) (rest : List Call) (last halts : List Made) → HasEnded ending → Came ending → EndsBy plan worker before ending rest last → AreHalts ending halts
      → cut_from closes cut before 0 rest (last ++ halts) ≡ Some (ends_in_call rest last halts ending)
  ended before at_end rest last halts e came (none, spelt) are =
      ap (λ (c : List Call). cut_from closes cut before 0 c (last ++ halts)) none
      ∙ ap (λ (f : Beginning (Unit {0})). by_part [] (last ++ halts) f (λ items ended left. if_none_is_left left (ends_in_call [] items [] at_end))) (closes_cut.complete last halts (Done (Ok tt)) spelt)
      ∙ ap (λ (l : List Made). if_none_is_left l (ends_in_call [] last [] at_end)) are
      ∙ ap (λ (c : List Call). Some (ends_in_call c last [] at_end)) (sym none) ∙ ap (λ (l : List Made). Some (ends_in_call rest last l at_end)) (sym are)
  ended before (misused misuse) [] last halts e came spelt are =
      misuse_found closes [] (λ items ended left. if_none_is_left left (ends_in_call [] items [] at_end)) misuse last halts (closes_cut.complete last halts (Done (Err misuse)) spelt) are
  ended before (misused misuse) (call ∷ rest) last halts e came spelt are =
      misuse_found (cut before call) (call ∷ rest)
      (λ items reply left. let s : SpeltCall = record { call = call; items = items; reply = reply } in with_spelt s (cut_from closes cut (before + length (shared_in items)) (passed_over call reply) rest left)) misuse last halts (misuse_cut before call last halts misuse spelt) are
  ended before (halted misuse) [] last halts e came spelt are =
      halt_found closes [] (λ items ended left. if_none_is_left left (ends_in_call [] items [] at_end)) misuse last halts (closes_cut.complete last halts (Halted misuse) spelt) are
  ended before (halted misuse) (call ∷ rest) last halts e came spelt are =
      halt_found (cut before call) (call ∷ rest)
      (λ items reply left. let s : SpeltCall = record { call = call; items = items; reply = reply } in with_spelt s (cut_from closes cut (before + length (shared_in items)) (passed_over call reply) rest left)) misuse last halts (halt_cut before call last halts misuse spelt) are
  ended before unfinished rest last halts e came ends are = absurd e
  ended before (stayed stay) rest last halts e came ends are = absurd came

  -- the line is told so, but for the replies
  pub record IsTold (cut_line : Option Line) (line : Line) : Type 0 where
    pub told : Line
    pub is : cut_line ≡ Some told
    pub each : SettlesEach settles told.spelt line.spelt
    pub same : with_calls told line.spelt ≡ line

  -- one call more is told
  told_more : (before : ℕ) (s : SpeltCall) (spelt : List SpeltCall) (behind : List Call) (left : List Made) (line : Line) → SpellsCall plan worker before s.call s.items (Done (Ok s.reply))
      → IsTold (cut_from closes cut (before + length (shared_in s.items)) 0 (drop (passed_over s.call s.reply) behind) left) line
      → IsTold (cut_from closes cut before 0 (s.call ∷ behind) (s.items ++ left)) (with_calls line (s ∷ line.spelt))
  told_more before s spelt behind left line one later = by ((cuts.calls before s.call).complete s.items left (Done (Ok s.reply)) one) where
    with_reply : (answer : CallAnswer (Reply ℕ)) → cut before s.call (s.items ++ left) ≡ whole s.items answer left → Told (settles s.call) answer s.reply → IsTold (cut_from closes cut before 0 (s.call ∷ behind) (s.items ++ left)) (with_calls line (s ∷ line.spelt))
    with_reply answer is (reply, says, settled) =
        let first : SpeltCall = record { call = s.call; items = s.items; reply = reply } in
        let passes : passed_over s.call reply ≡ passed_over s.call s.reply = cuts.passes s.call reply s.reply settled in
        let more = before + length (shared_in s.items) in record {
          told = with_calls later.told (first ∷ later.told.spelt);
          is = ap (λ (f : Beginning (Reply ℕ)). by_part (s.call ∷ behind) (s.items ++ left) f (λ items reply more. let one : SpeltCall = record { call = s.call; items = items; reply = reply } in with_spelt one (cut_from closes cut (before + length (shared_in items)) (passed_over s.call reply) behind more))) (is ∙ ap (λ (a : CallAnswer (Reply ℕ)). whole s.items a left) says)
              ∙ ap (with_spelt first) (skipped closes cut more (passed_over s.call reply) behind left ∙ ap (λ (n : ℕ). cut_from closes cut more 0 (drop n behind) left) passes ∙ later.is);
          each = (refl, refl, settled, later.each);
          same = ap (λ (l : Line). with_calls l (s ∷ line.spelt)) later.same;
        }

    by : (answer : CallAnswer (Reply ℕ)) × SettlesAnswer (settles s.call) answer (Done (Ok s.reply)) × (cut before s.call (s.items ++ left) ≡ whole s.items answer left) → IsTold (cut_from closes cut before 0 (s.call ∷ behind) (s.items ++ left)) (with_calls line (s ∷ line.spelt))
    by (answer, settled, is) = with_reply answer is (reply_told (settles s.call) answer s.reply settled)

  all_found : (spelt : List SpeltCall) (before : ℕ) (ending : LineEnd) (script rest : List Call) (last halts : List Made) → RunsAlong script (made_in spelt) rest → HasEnded ending → Came ending → AreSpelt plan worker before spelt
      → EndsBy plan worker (made_by before spelt) ending rest last → AreHalts ending halts
      → (let line : Line = record { first = []; spelt = spelt; last = last; halts = halts; rest = rest; ending = ending } in IsTold (cut_from closes cut before 0 script (flat spelt ++ (last ++ halts))) line)
  all_found [] before ending script rest last halts run e came calls ends are =
      let n : before + 0 ≡ before = omega arith in
      record {
        told = ends_in_call rest last halts ending;
        is = subst (λ (l : List Call). cut_from closes cut before 0 l (last ++ halts) ≡ Some (ends_in_call rest last halts ending)) run
            (ended before ending rest last halts e came (subst (λ (k : ℕ). EndsBy plan worker k ending rest last) n ends) are);
        each = refl;
        same = refl;
      }
  all_found (s ∷ spelt) before ending script rest last halts (behind, is, run) e came (one, calls) ends are =
      let left : List Made = flat spelt ++ (last ++ halts) in
      let n : before + length (shared_in (s.items ++ flat spelt)) ≡ made_by (before + length (shared_in s.items)) spelt = omega (arith, shared_more s.items (flat spelt)) in
      let line : Line = record { first = []; spelt = spelt; last = last; halts = halts; rest = rest; ending = ending } in
      let later = all_found spelt (before + length (shared_in s.items)) ending (drop (passed_over s.call s.reply) behind) rest last halts run e came calls (subst (λ (k : ℕ). EndsBy plan worker k ending rest last) n ends) are in
      subst (λ (l : List Made). IsTold (cut_from closes cut before 0 script l) (with_calls line (s ∷ spelt))) (sym (append_assoc s.items (flat spelt) (last ++ halts)))
      (subst (λ (l : List Call). IsTold (cut_from closes cut before 0 l (s.items ++ left)) (with_calls line (s ∷ spelt))) (sym is) (told_more before s spelt behind left line one later))

  came_found : (ending : LineEnd) (spelt : List SpeltCall) (script rest : List Call) (first last halts : List Made) → RunsAlong script (made_in spelt) rest → HasEnded ending → Came ending → opening plan worker first (Done (Ok true))
      → AreSpelt plan worker 0 spelt → EndsBy plan worker (made_by 0 spelt) ending rest last → AreHalts ending halts
      → (let line : Line = record { first = first; spelt = spelt; last = last; halts = halts; rest = rest; ending = ending } in IsTold (line_cut opens closes cut 0 script (items_of line)) line)
  came_found ending spelt script rest first last halts run e came opened calls ends are =
      let left : List Made = flat spelt ++ (last ++ halts) in
      let later = all_found spelt 0 ending script rest last halts run e came calls ends are in
      let told : Line = later.told in
      record {
        told = record { first = first; spelt = told.spelt; last = told.last; halts = told.halts; rest = told.rest; ending = told.ending };
        is = ap (λ (f : Beginning Bool). by_opening script (first ++ left) f (λ more. cut_from closes cut 0 0 script more)) (opens_cut.complete first left (Done (Ok true)) opened)
            ∙ ap (with_first first) later.is;
        each = later.each;
        same = ap (λ (l : Line). let f : Line = record { first = first; spelt = l.spelt; last = l.last; halts = l.halts; rest = l.rest; ending = l.ending } in f) later.same;
      }

  stayed_cut : (stay : Stay) (answer : CallAnswer Bool) (spelt : List SpeltCall) (script rest : List Call) (first last halts : List Made) → RunsAlong script (made_in spelt) rest → opening plan worker first answer → spelt ≡ [] → last ≡ [] → halts ≡ []
      → by_opening script first (whole first answer []) (λ more. cut_from closes cut 0 0 script more) ≡ Some (stays_before script first stay)
      → (let line : Line = record { first = first; spelt = spelt; last = last; halts = halts; rest = rest; ending = stayed stay } in line_cut opens closes cut 0 script (items_of line) ≡ Some line)
  stayed_cut stay answer [] script rest first last halts run opened none nothing without stays =
      let all : first ++ (last ++ halts) ≡ first ++ [] = ap (λ (l : List Made). first ++ (l ++ halts)) nothing ∙ ap (λ (l : List Made). first ++ l) without in
      ap (λ (l : List Made). line_cut opens closes cut 0 script l) all
      ∙ ap (λ (f : Beginning Bool). by_opening script (first ++ []) f (λ more. cut_from closes cut 0 0 script more)) (opens_cut.complete first [] answer opened)
      ∙ ap (λ (l : List Made). by_opening script l (whole first answer []) (λ more. cut_from closes cut 0 0 script more)) (append-nil first)
      ∙ stays
      ∙ ap (λ (c : List Call). Some (stays_before c first stay)) (sym run)
      ∙ ap (λ (l : List Made). let line : Line = record { first = first; spelt = []; last = l; halts = []; rest = rest; ending = stayed stay } in Some line) (sym nothing)
      ∙ ap (λ (l : List Made). let line : Line = record { first = first; spelt = []; last = last; halts = l; rest = rest; ending = stayed stay } in Some line) (sym without)
  stayed_cut stay answer (s ∷ spelt) script rest first last halts run opened none nothing without stays = absurd cc

  stayed_found : (stay : Stay) (answer : CallAnswer Bool) (spelt : List SpeltCall) (script rest : List Call) (first last halts : List Made) → RunsAlong script (made_in spelt) rest → opening plan worker first answer → spelt ≡ [] → last ≡ [] → halts ≡ []
      → by_opening script first (whole first answer []) (λ more. cut_from closes cut 0 0 script more) ≡ Some (stays_before script first stay)
      → (let line : Line = record { first = first; spelt = spelt; last = last; halts = halts; rest = rest; ending = stayed stay } in IsTold (line_cut opens closes cut 0 script (items_of line)) line)
  stayed_found stay answer [] script rest first last halts run opened none nothing without stays = record {
    told = record { first = first; spelt = []; last = last; halts = halts; rest = rest; ending = stayed stay };
    is = stayed_cut stay answer [] script rest first last halts run opened none nothing without stays;
    each = refl;
    same = refl;
  }
  stayed_found stay answer (s ∷ spelt) script rest first last halts run opened none nothing without stays = absurd cc

  -- a line that has ended is the one that its list and script are cut into
  line_complete : (ending : LineEnd) (spelt : List SpeltCall) (script rest : List Call) (first last halts : List Made) → RunsAlong script (made_in spelt) rest → HasEnded ending → OpensBy plan worker ending spelt first
      → AreSpelt plan worker 0 spelt → EndsBy plan worker (made_by 0 spelt) ending rest last → AreHalts ending halts
      → (let line : Line = record { first = first; spelt = spelt; last = last; halts = halts; rest = rest; ending = ending } in IsTold (line_cut opens closes cut 0 script (items_of line)) line)
  line_complete at_end spelt script rest first last halts run e opened calls ends are = came_found at_end spelt script rest first last halts run e tt opened calls ends are
  line_complete (misused misuse) spelt script rest first last halts run e opened calls ends are = came_found (misused misuse) spelt script rest first last halts run e tt opened calls ends are
  line_complete (halted misuse) spelt script rest first last halts run e opened calls ends are = came_found (halted misuse) spelt script rest first last halts run e tt opened calls ends are
  line_complete unfinished spelt script rest first last halts run e opened calls ends are = absurd e
  line_complete (stayed never) spelt script rest first last halts run e (none, opened) calls ends are = stayed_found never (Done (Ok false)) spelt script rest first last halts run opened none ends are refl
  line_complete (stayed (stopped misuse)) spelt script rest first last halts run e (none, opened) calls ends are = stayed_found (stopped misuse) (Halted misuse) spelt script rest first last halts run opened none ends are refl
  line_complete (stayed waits) spelt script rest first last halts run e opened calls ends are = absurd e

  pub lines_cut : CutsLines plan worker opens closes settles cut
  lines_cut = record {
    is_line = λ script list told spelt e each. opening_sound script list told e spelt each;
    is_cut = λ script line run e is.
        let n : length (shared_in (flat line.spelt)) ≡ made_by 0 line.spelt = omega arith in
        let found = line_complete line.ending line.spelt script line.rest line.first line.last line.halts run e is.opens is.calls (subst (λ (k : ℕ). EndsBy plan worker k line.ending line.rest line.last) n is.ends) is.halts in
        (found.told, found.is, found.each, found.same);
  }
