-- A worker's line, call by call.
use Rattle.std.proofs.Common.{◌≡◌, ℕ, ◌+◌, List, [], ◌∷◌, ◌++◌, length, drop, map, refl, sym, ap, ◌∙◌, subst, arith, Ok, Err}
use Rattle.std.specs.List.{flat_map}
use Rattle.std.proofs.lemmas.List.{append-nil, append_assoc, map_push, length-append}
use Rattle.sync_model.specs.declared.answer.Answer.TheVariants.{Done, Halted}
use Rattle.script_calls.specs.declared.call.Call.{Call}
use Rattle.script_calls.specs.declared.call.Reply.{Reply}
use Rattle.script_calls.specs.Runs.{passed_over, RunsAlong}
use Rattle.sync_model.specs.declared.item.Item.{Item}
use Rattle.sync_types.specs.declared.misuse.Misuse.{Misuse}
use Rattle.workload.specs.Plan.{Plan}
use Rattle.run_record.specs.declared.made.Made.{Made}
use Rattle.run_record.specs.Calls.{SpellsCall}
use Rattle.run_record.specs.Lines.{SpeltCall, AreSpelt}
use Rattle.run_record.specs.Record.{shared_in}
use Rattle.thread_objects.specs.Working.{Desk, Moves, Works}
use Rattle.thread_runner.specs.DidLines.{MadeCalls, Went}

-- what two lists of items do, one after the other, both do
abbrev pub Joins : Type 0
Joins = (old between new : Desk) (xs ys : List Made) → Moves old xs between → Moves between ys new → Moves old (xs ++ ys) new

-- the calls on maps and atomics in two lists of items, one after the other
abbrev pub SharedJoins : Type 0
SharedJoins = (xs ys : List Made) → shared_in (xs ++ ys) ≡ shared_in xs ++ shared_in ys

abbrev items_in : List SpeltCall → List Made
items_in spelt = flat_map (λ s. s.items) spelt

items_push : (xs : List SpeltCall) (x : SpeltCall) → items_in (xs ++ x ∷ []) ≡ items_in xs ++ x.items
items_push [] x = append-nil x.items
items_push (y ∷ xs) x = ap (λ (l : List Made). y.items ++ l) (items_push xs x) ∙ sym (append_assoc y.items (items_in xs) x.items)

module _ (plan : Plan) (worker : ℕ) where
  spelt_push : SharedJoins → (before : ℕ) (xs : List SpeltCall) (x : SpeltCall) → AreSpelt plan worker before xs → SpellsCall plan worker (before + length (shared_in (items_in xs))) x.call x.items (Done (Ok x.reply)) → AreSpelt plan worker before (xs ++ x ∷ [])
  spelt_push shared before [] x are spelt = (subst (λ n. SpellsCall plan worker n x.call x.items (Done (Ok x.reply))) (omega arith) spelt, tt)
  spelt_push shared before (y ∷ xs) x are spelt =
      let count : length (shared_in (y.items ++ items_in xs)) ≡ length (shared_in y.items) + length (shared_in (items_in xs)) = ap (λ (l : List Item). length l) (shared y.items (items_in xs)) ∙ length-append (shared_in y.items) (shared_in (items_in xs)) in
      (are.0, spelt_push shared (before + length (shared_in y.items)) xs x are.1 (subst (λ n. SpellsCall plan worker n x.call x.items (Done (Ok x.reply))) (omega (arith, count)) spelt))

-- with one more reply a run goes on behind the next call and those that it passes over
abbrev pub RunsOn : Type 0
RunsOn = (script : List Call) (made : List (Call × Reply ℕ)) (call : Call) (rest : List Call) (reply : Reply ℕ) → RunsAlong script made (call ∷ rest) → RunsAlong script (made ++ (call, reply) ∷ []) (drop (passed_over call reply) rest)

abbrev pairs_in : List SpeltCall → List (Call × Reply ℕ)
pairs_in spelt = map (λ s. (s.call, s.reply)) spelt

module _ (plan : Plan) (worker : ℕ) (script : List Call) (old : Desk) (none : old.calls ≡ []) where
  -- nothing is done yet
  pub begun : Moves old [] old → Went plan worker script 0 [] old old
  begun rests = record { spelt = []; are = tt; calls = refl; answers = refl; moves = rests }

  module _ (place : ℕ) (call : Call) (at : drop place script ≡ call ∷ drop (place + 1) script) (replies : List (Reply ℕ)) (now new : Desk) (joins : Joins) (went : Went plan worker script place replies old now) where
    -- a worker's own calls are those of the items
    made_before : length now.calls ≡ length (shared_in (items_in went.spelt))
    made_before = ap (λ (l : List Item). length l) (went.moves.calls ∙ ap (λ (l : List Item). l ++ shared_in (items_in went.spelt)) none)

    spelt_here : (items : List Made) (answer : _) → SpellsCall plan worker (length now.calls) call items answer → SpellsCall plan worker (length (shared_in (items_in went.spelt))) call items answer
    spelt_here items answer spelt = subst (λ n. SpellsCall plan worker n call items answer) made_before spelt

    all_moves : (items : List Made) → Moves now items new → Moves old (items_in went.spelt ++ items) new
    all_moves items moves = joins old now new (items_in went.spelt) items went.moves moves

    -- the next call is this one
    next_is : RunsAlong script (pairs_in went.spelt) (call ∷ drop (place + 1) script)
    next_is = subst (RunsAlong script (pairs_in went.spelt)) at went.calls

    -- a call that was answered comes behind the others
    pub went_on : SharedJoins → RunsOn → (reply : Reply ℕ) (next : ℕ) → drop (passed_over call reply) (drop (place + 1) script) ≡ drop next script
        → Works (SpellsCall plan worker (length now.calls) call) now (Done (Ok reply)) new → Went plan worker script next (replies ++ reply ∷ []) old new
    went_on shared runs reply next over works =
        let one : SpeltCall = record { call = call; items = works.items; reply = reply } in
        record {
          spelt = went.spelt ++ one ∷ [];
          are = spelt_push plan worker shared 0 went.spelt one went.are (subst (λ n. SpellsCall plan worker n call works.items (Done (Ok reply))) (omega arith) (spelt_here works.items (Done (Ok reply)) works.spelt));
          calls = subst (λ (l : List (Call × Reply ℕ)). RunsAlong script l (drop next script)) (sym (map_push (λ s. (s.call, s.reply)) went.spelt one))
              (subst (RunsAlong script (pairs_in went.spelt ++ (call, reply) ∷ [])) over (runs script (pairs_in went.spelt) call (drop (place + 1) script) reply next_is));
          answers = map_push (λ s. s.reply) went.spelt one ∙ ap (λ (l : List (Reply ℕ)). l ++ reply ∷ []) went.answers;
          moves = subst (λ (l : List Made). Moves old l new) (sym (items_push went.spelt one)) (all_moves works.items works.moves);
        }

    -- a call that is a misuse is the last one
    pub ends_misused : (misuse : Misuse) → Works (SpellsCall plan worker (length now.calls) call) now (Done (Err misuse)) new → MadeCalls plan worker script replies old (Done (Err misuse)) new
    ends_misused misuse works = record {
      spelt = went.spelt;
      last = works.items;
      rest = call ∷ drop (place + 1) script;
      are = went.are;
      calls = next_is;
      answers = went.answers;
      end = spelt_here works.items (Done (Err misuse)) works.spelt;
      moves = all_moves works.items works.moves;
    }

    -- and so is one that met a halt
    pub ends_halted : (misuse : Misuse) → Works (SpellsCall plan worker (length now.calls) call) now (Halted misuse) new → MadeCalls plan worker script replies old (Halted misuse) new
    ends_halted misuse works = record {
      spelt = went.spelt;
      last = works.items;
      rest = call ∷ drop (place + 1) script;
      are = went.are;
      calls = next_is;
      answers = went.answers;
      end = spelt_here works.items (Halted misuse) works.spelt;
      moves = all_moves works.items works.moves;
    }

  -- the end of the script
  pub ends_whole : (replies : List (Reply ℕ)) (now : Desk) (place : ℕ) → drop place script ≡ [] → Went plan worker script place replies old now → MadeCalls plan worker script replies old (Done (Ok tt)) now
  ends_whole replies now place past went = record {
    spelt = went.spelt;
    last = [];
    rest = [];
    are = went.are;
    calls = subst (RunsAlong script (pairs_in went.spelt)) past went.calls;
    answers = went.answers;
    end = (refl, refl);
    moves = subst (λ (l : List Made). Moves old l now) (sym (append-nil (items_in went.spelt))) went.moves;
  }
