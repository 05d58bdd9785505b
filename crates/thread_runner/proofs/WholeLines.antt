-- A worker's line, from what stands before its script, what it did of it, and what stands behind it.
use Rattle.std.proofs.Common.{◌≡◌, ◌≢◌, ◌⊎◌, ℕ, zero, suc, Bool, true, false, cond, List, [], ◌∷◌, ◌++◌, length, get_or, map, Option, Some, None, inl, inr, refl, sym, ap, ◌∙◌, subst, Ok, Err}
use Rattle.std.specs.Prelude.{IfSome, IfNone}
use Rattle.std.specs.List.{flat_map, list_any}
use Rattle.std.proofs.lemmas.Bool.{false≢true}
use Rattle.std.proofs.lemmas.List.{append-nil, append_assoc}
use Rattle.std.proofs.lemmas.Option.{same_Some}
use Rattle.script_calls.specs.declared.call.Call.{Call}
use Rattle.script_calls.specs.declared.call.Reply.{Reply}
use Rattle.script_calls.specs.declared.call.Reply.TheVariants as replies
use Rattle.script_calls.specs.Runs.{RunsAlong}
use Rattle.script_calls.specs.Starts.{group_of}
use Rattle.sync_model.specs.declared.answer.Answer.TheVariants.{Done, Halted}
use Rattle.sync_types.specs.declared.misuse.Misuse.{Misuse}
use Rattle.sync_types.specs.declared.wait_call.WaitGroupCall.TheVariants as group_calls
use Rattle.protocols.specs.declared.wait_group.GroupStage.TheVariants as stages
use Rattle.protocols.specs.Spelling.{CallAnswer}
use Rattle.workload.specs.Plan.{Plan, is_dormant, has_dormant}
use Rattle.run_record.specs.declared.made.Made.{Made}
use Rattle.run_record.specs.Lines.{Line, SpeltCall, whole, misused, halted, stayed, never, stopped, EndsBy}
use Rattle.run_record.specs.Objects.{starts_number}
use Rattle.run_record.specs.Parts.{Part, and_then, returns, with_outcome}
use Rattle.run_record.specs.Plain.{EndsPlainly}
use Rattle.run_record.specs.Record.{object_number}
use Rattle.run_record.specs.StartsKind.{opening, closing, done_part, done_under, wait_start_part, end_part}
use Rattle.run_record.specs.WaitGroupKind.{wait_group_call, wait_group_part}
use Rattle.thread_objects.specs.Laws.{Stays, Joins}
use Rattle.thread_objects.specs.Working.{Desk, Moves, Works}
use Rattle.thread_runner.specs.DidLines.{DidLine, MadeCalls, WentThrough, ending_by}
use Rattle.thread_runner.specs.Halting.{HaltsAll}
use Rattle.thread_runner.specs.Replies.{has_come, is_through, misuse_in}
use Rattle.thread_runner.proofs.Working.{reads, rests}

-- where one worker waits to be started, some do
pub some_dormant : (dormant : List Bool) (worker : ℕ) → get_or dormant worker false ≡ true → list_any (λ waits. waits) dormant ≡ true
some_dormant [] worker is = absurd (false≢true is)
some_dormant (true ∷ dormant) worker is = refl
some_dormant (false ∷ dormant) zero is = absurd (false≢true is)
some_dormant (false ∷ dormant) (suc worker) is = some_dormant dormant worker is

-- of a call that tells nothing, it is told that it was made, however that is read
told_twice : (answer : CallAnswer (Unit {0})) → answer ≡ with_outcome (λ (reply : Reply ℕ). tt) (with_outcome (λ (done : Unit {0}). replies.Returned) answer)
told_twice (Done (Ok tt)) = refl
told_twice (Done (Err misuse)) = refl
told_twice (Halted misuse) = refl

module _ (plan : Plan) (worker : ℕ) where
  -- what a worker makes before its script: where it waits to be started, it asks, and else it makes nothing
  pub asks_first : (old new : Desk) (answer : CallAnswer Bool) → is_dormant plan worker ≡ true → Works (wait_start_part (starts_number plan)) old answer new → Works (opening plan worker) old answer new
  asks_first old new answer is works = subst (λ (b : Bool). Works (cond b (wait_start_part (starts_number plan)) (returns true)) old answer new) (sym is) works

  pub comes_at_once : Stays → (desk : Desk) → is_dormant plan worker ≡ false → Works (opening plan worker) desk (Done (Ok true)) desk
  comes_at_once stays desk is = subst (λ (b : Bool). Works (cond b (wait_start_part (starts_number plan)) (returns true)) desk (Done (Ok true)) desk) (sym is) (rests stays (returns true) desk (Done (Ok true)) (refl, refl))

  -- a worker that comes to its script was told so
  pub told_to_come : (old new : Desk) (opened : CallAnswer Bool) → has_come opened ≡ true → Works (opening plan worker) old opened new → Works (opening plan worker) old (Done (Ok true)) new
  told_to_come old new (Done (Ok true)) come works = works
  told_to_come old new (Done (Ok false)) come works = absurd (false≢true come)
  told_to_come old new (Done (Err misuse)) come works = absurd (false≢true come)
  told_to_come old new (Halted misuse) come works = absurd (false≢true come)

  -- and behind it: where some workers wait, what it does with its group, and then that it has ended; else it makes nothing
  abbrev pub ends_behind : Part (Unit {0})
  ends_behind = and_then (done_part plan worker) (λ done. end_part (starts_number plan))

  pub closes_by : (old new : Desk) (answer : CallAnswer (Unit {0})) → has_dormant plan ≡ true → Works ends_behind old answer new → Works (closing plan worker) old answer new
  closes_by old new answer is works = subst (λ (b : Bool). Works (cond b ends_behind (returns tt)) old answer new) (sym is) works

  pub ends_at_once : Stays → (desk : Desk) → has_dormant plan ≡ false → Works (closing plan worker) desk (Done (Ok tt)) desk
  ends_at_once stays desk is = subst (λ (b : Bool). Works (cond b ends_behind (returns tt)) desk (Done (Ok tt)) desk) (sym is) (rests stays (returns tt) desk (Done (Ok tt)) (refl, refl))

  -- a worker that wasn't started by another does nothing with a group, and neither does one that no call starts
  pub without_group : Stays → (desk : Desk) → is_dormant plan worker ≡ false → Works (done_part plan worker) desk (Done (Ok tt)) desk
  without_group stays desk is = subst (λ (b : Bool). Works (cond b (done_under (group_of worker plan.scripts)) (returns tt)) desk (Done (Ok tt)) desk) (sym is) (rests stays (returns tt) desk (Done (Ok tt)) (refl, refl))

  under : (old new : Desk) (answer : CallAnswer (Unit {0})) (group : Option ℕ) → is_dormant plan worker ≡ true → group ≡ group_of worker plan.scripts → Works (done_under group) old answer new → Works (done_part plan worker) old answer new
  under old new answer group is same works =
      subst (λ (b : Bool). Works (cond b (done_under (group_of worker plan.scripts)) (returns tt)) old answer new) (sym is) (subst (λ (o : Option ℕ). Works (done_under o) old answer new) same works)

  pub under_none : Stays → (desk : Desk) (group : Option ℕ) → is_dormant plan worker ≡ true → group ≡ group_of worker plan.scripts → group ≡ None → Works (done_part plan worker) desk (Done (Ok tt)) desk
  under_none stays desk group is same none = under desk desk (Done (Ok tt)) None is (sym none ∙ same) (rests stays (returns tt) desk (Done (Ok tt)) (refl, refl))

  -- any other makes the `done`
  pub under_group : (old new : Desk) (answer : CallAnswer (Unit {0})) (group : Option ℕ) (place : ℕ) → is_dormant plan worker ≡ true → group ≡ group_of worker plan.scripts → group ≡ Some place
      → Works (wait_group_part (object_number place) stages.Done) old answer new → Works (done_part plan worker) old answer new
  under_group old new answer group place is same some works =
      under old new answer (Some place) is (sym some ∙ same)
      (reads (λ done. tt) (wait_group_call (object_number place) group_calls.Done) old new (with_outcome (λ done. replies.Returned) answer) answer (told_twice answer)
      (reads (λ done. replies.Returned) (wait_group_part (object_number place) stages.Done) old new answer (with_outcome (λ done. replies.Returned) answer) refl works))

  -- what closes a script stands at its end
  closed_by : (answer : CallAnswer (Unit {0})) (before : ℕ) (items : List Made) → closing plan worker items answer → EndsBy plan worker before (ending_by answer) [] items
  closed_by (Done (Ok tt)) before items closes = (refl, closes)
  closed_by (Done (Err misuse)) before items closes = closes
  closed_by (Halted misuse) before items closes = closes

  misused_by : (misuse : Misuse) (before : ℕ) (rest : List Call) (last : List Made) → EndsPlainly plan worker before (misused misuse) rest last → EndsBy plan worker before (misused misuse) rest last
  misused_by misuse before [] last ends = absurd ends
  misused_by misuse before (call ∷ rest) last ends = ends

  halted_by : (misuse : Misuse) (before : ℕ) (rest : List Call) (last : List Made) → EndsPlainly plan worker before (halted misuse) rest last → EndsBy plan worker before (halted misuse) rest last
  halted_by misuse before [] last ends = absurd ends
  halted_by misuse before (call ∷ rest) last ends = ends

  module _ (script : List Call) (replies : List (Reply ℕ)) where
    abbrev items_in : List SpeltCall → List Made
    items_in spelt = flat_map (λ s. s.items) spelt

    -- behind all calls the script is closed
    pub closes_behind : Joins → (old now new : Desk) (answer : CallAnswer (Unit {0})) → MadeCalls plan worker script replies old (Done (Ok tt)) now → Works (closing plan worker) now answer new → WentThrough plan worker script replies old answer new
    closes_behind joined old now new answer made works =
        let moves = subst (λ (l : List Made). Moves old l now) (ap (λ (l : List Made). items_in made.spelt ++ l) made.end.1 ∙ append-nil (items_in made.spelt)) made.moves in
        record {
          spelt = made.spelt;
          last = works.items;
          rest = [];
          are = made.are;
          calls = subst (RunsAlong script (map (λ s. (s.call, s.reply)) made.spelt)) made.end.0 made.calls;
          answers = made.answers;
          end = closed_by answer _ works.items works.spelt;
          moves = joined old now new (items_in made.spelt) works.items moves works.moves;
        }

    -- and it isn't behind a call that is the last one
    pub misused_before : (old now : Desk) (misuse : Misuse) → MadeCalls plan worker script replies old (Done (Err misuse)) now → WentThrough plan worker script replies old (Done (Err misuse)) now
    misused_before old now misuse made = record {
      spelt = made.spelt;
      last = made.last;
      rest = made.rest;
      are = made.are;
      calls = made.calls;
      answers = made.answers;
      end = misused_by misuse _ made.rest made.last made.end;
      moves = made.moves;
    }

    pub halted_before : (old now : Desk) (misuse : Misuse) → MadeCalls plan worker script replies old (Halted misuse) now → WentThrough plan worker script replies old (Halted misuse) now
    halted_before old now misuse made = record {
      spelt = made.spelt;
      last = made.last;
      rest = made.rest;
      are = made.are;
      calls = made.calls;
      answers = made.answers;
      end = halted_by misuse _ made.rest made.last made.end;
      moves = made.moves;
    }

    -- a worker that didn't make all its calls went no further
    pub not_through : (old now : Desk) (made : Option (CallAnswer (Unit {0}))) → is_through made ≡ false → IfSome made (λ answer. MadeCalls plan worker script replies old answer now)
        → IfSome made (λ answer. WentThrough plan worker script replies old answer now)
    not_through old now None is made = tt
    not_through old now (Some (Done (Ok tt))) is made = absurd (false≢true (sym is))
    not_through old now (Some (Done (Err misuse))) is made = misused_before old now misuse made
    not_through old now (Some (Halted misuse)) is made = halted_before old now misuse made

    -- and one that did has made them
    pub was_through : (old now : Desk) (made : Option (CallAnswer (Unit {0}))) → is_through made ≡ true → IfSome made (λ answer. MadeCalls plan worker script replies old answer now)
        → MadeCalls plan worker script replies old (Done (Ok tt)) now
    was_through old now None is made = absurd (false≢true is)
    was_through old now (Some (Done (Ok tt))) is made = made
    was_through old now (Some (Done (Err misuse))) is made = absurd (false≢true is)
    was_through old now (Some (Halted misuse)) is made = absurd (false≢true is)

    abbrev DidLineOf : Desk → Desk → Type 0
    DidLineOf old new = (line : Line) × DidLine plan worker script replies old new line

    -- a worker that was never started, and one that met a halt before it was told, make no call
    pub stays_never : replies ≡ [] → (old new : Desk) → Works (opening plan worker) old (Done (Ok false)) new → DidLineOf old new
    stays_never none old new works = (
      record { first = works.items; spelt = []; last = []; halts = []; rest = script; ending = stayed never },
      record {
        is = record { opens = (refl, works.spelt); calls = tt; ends = refl; halts = refl };
        calls = refl;
        answers = sym none;
        ended = tt;
        halts = refl;
        moves = subst (λ (l : List Made). Moves old l new) (sym (append-nil works.items)) works.moves;
      },
    )

    pub stays_stopped : replies ≡ [] → (old new : Desk) (misuse : Misuse) → Works (opening plan worker) old (Halted misuse) new → DidLineOf old new
    stays_stopped none old new misuse works = (
      record { first = works.items; spelt = []; last = []; halts = []; rest = script; ending = stayed (stopped misuse) },
      record {
        is = record { opens = (refl, works.spelt); calls = tt; ends = refl; halts = refl };
        calls = refl;
        answers = sym none;
        ended = tt;
        halts = refl;
        moves = subst (λ (l : List Made). Moves old l new) (sym (append-nil works.items)) works.moves;
      },
    )

    -- so does any that doesn't come to its script
    pub stays : replies ≡ [] → (old new : Desk) (opened : CallAnswer Bool) → has_come opened ≡ false → ((misuse : Misuse) → opened ≢ Done (Err misuse)) → Works (opening plan worker) old opened new → DidLineOf old new
    stays none old new (Done (Ok true)) come unmisused works = absurd (false≢true (sym come))
    stays none old new (Done (Ok false)) come unmisused works = stays_never none old new works
    stays none old new (Done (Err misuse)) come unmisused works = absurd (unmisused misuse refl)
    stays none old new (Halted misuse) come unmisused works = stays_stopped none old new misuse works

    module _ (joined : Joins) (start old now : Desk) (opens : Works (opening plan worker) start (Done (Ok true)) old) where
      -- what was made before the script, and of it
      both : (spelt : List SpeltCall) (last : List Made) → Moves old (items_in spelt ++ last) now → Moves start (opens.items ++ (items_in spelt ++ last)) now
      both spelt last moves = joined start old now opens.items (items_in spelt ++ last) opens.moves moves

      without_halts : (spelt : List SpeltCall) (last : List Made) → Moves old (items_in spelt ++ last) now → Moves start (opens.items ++ (items_in spelt ++ (last ++ []))) now
      without_halts spelt last moves = subst (λ (l : List Made). Moves start (opens.items ++ (items_in spelt ++ l)) now) (sym (append-nil last)) (both spelt last moves)

      -- the script was closed
      pub line_whole : WentThrough plan worker script replies old (Done (Ok tt)) now → DidLineOf start now
      line_whole went = (
        record { first = opens.items; spelt = went.spelt; last = went.last; halts = []; rest = went.rest; ending = whole },
        record {
          is = record { opens = opens.spelt; calls = went.are; ends = went.end; halts = refl };
          calls = went.calls;
          answers = went.answers;
          ended = tt;
          halts = refl;
          moves = without_halts went.spelt went.last went.moves;
        },
      )

      -- a call, or the closing, met a halt
      pub line_halted : (misuse : Misuse) → WentThrough plan worker script replies old (Halted misuse) now → DidLineOf start now
      line_halted misuse went = (
        record { first = opens.items; spelt = went.spelt; last = went.last; halts = []; rest = went.rest; ending = halted misuse },
        record {
          is = record { opens = opens.spelt; calls = went.are; ends = went.end; halts = refl };
          calls = went.calls;
          answers = went.answers;
          ended = tt;
          halts = refl;
          moves = without_halts went.spelt went.last went.moves;
        },
      )

      -- one is a misuse, and the halts by it stand behind
      pub line_misused : (misuse : Misuse) (last : Desk) → WentThrough plan worker script replies old (Done (Err misuse)) now → HaltsAll plan misuse now last → DidLineOf start last
      line_misused misuse last went halts =
          let made = items_in went.spelt in
          let all : (opens.items ++ (made ++ went.last)) ++ halts.items ≡ opens.items ++ (made ++ (went.last ++ halts.items)) =
          append_assoc opens.items (made ++ went.last) halts.items ∙ ap (λ (l : List Made). opens.items ++ l) (append_assoc made went.last halts.items) in (
            record { first = opens.items; spelt = went.spelt; last = went.last; halts = halts.items; rest = went.rest; ending = misused misuse },
            record {
              is = record { opens = opens.spelt; calls = went.are; ends = went.end; halts = halts.halts };
              calls = went.calls;
              answers = went.answers;
              ended = tt;
              halts = halts.order;
              moves = subst (λ (l : List Made). Moves start l last) all (joined start now last (opens.items ++ (made ++ went.last)) halts.items (both went.spelt went.last went.moves) halts.moves);
            },
          )

      -- by what was told of how it went: with a misuse, whose halts stand behind
      pub line_told : (misuse : Misuse) (last : Desk) (went : Option (CallAnswer (Unit {0}))) → misuse_in went ≡ Some misuse → IfSome went (λ answer. WentThrough plan worker script replies old answer now)
          → HaltsAll plan misuse now last → DidLineOf start last
      line_told misuse last None is went halts = absurd cc
      line_told misuse last (Some (Done (Ok tt))) is went halts = absurd cc
      line_told misuse last (Some (Done (Err other))) is went halts =
          let same : other ≡ misuse = same_Some other misuse is in
          line_misused misuse last (subst (λ (m : Misuse). WentThrough plan worker script replies old (Done (Err m)) now) same went) halts
      line_told misuse last (Some (Halted other)) is went halts = absurd cc

      -- or with none, where a call may have been given up
      pub line_untold : (gave : Type 0) (went : Option (CallAnswer (Unit {0}))) → misuse_in went ≡ None → IfNone went gave → IfSome went (λ answer. WentThrough plan worker script replies old answer now) → DidLineOf start now ⊎ gave
      line_untold gave None is given_up went = inr given_up
      line_untold gave (Some (Done (Ok tt))) is given_up went = inl (line_whole went)
      line_untold gave (Some (Done (Err misuse))) is given_up went = absurd cc
      line_untold gave (Some (Halted misuse)) is given_up went = inl (line_halted misuse went)
