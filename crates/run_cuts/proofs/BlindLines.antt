-- That a list whose items are alike to those of a line is a line like it.
use Rattle.std.proofs.Common.{◌≡◌, ◌∙◌, ℕ, ◌+◌, List, [], ◌∷◌, ◌++◌, map, length, Option, Some, None, refl, sym, ap, subst}
use Rattle.std.specs.Prelude.{All, Ok, Err, replicate}
use Rattle.std.specs.List.{flat_map}
use Rattle.std.proofs.lemmas.List.Elements.{All-nil, All-cons, All-head, All-tail}
use Rattle.sync_types.specs.declared.misuse.Misuse.{Misuse}
use Rattle.sync_model.specs.declared.answer.Answer.TheVariants.{Done, Halted}
use Rattle.script_calls.specs.declared.call.Call.{Call}
use Rattle.script_calls.specs.declared.call.Reply.{Reply}
use Rattle.script_calls.specs.Runs.{passed_over}
use Rattle.workload.specs.Plan.{Plan}
use Rattle.run_record.specs.declared.made.Made.{Made}
use Rattle.run_record.specs.declared.made.Made.TheVariants.{Shared, Entered}
use Rattle.run_record.specs.Lines.{AreHalts, AreSpelt, EndsBy, IsHalt, IsLineOf, Line, LineEnd, OpensBy, SpeltCall, Stay, StaysBy, halted, items_of, misused, never, stayed, stopped, unfinished, waits, whole}
use Rattle.run_record.specs.Record.{shared_in}
use Rattle.run_cuts.specs.Blind.{AreAlike, HasLineLike}
use Rattle.run_cuts.specs.CallsAlong.{calls_from, next_call}
use Rattle.run_cuts.proofs.BlindCalls.{closing_blind, opening_blind, spells_blind}
use Rattle.run_cuts.proofs.BlindParts.{append_like, cons_like, entered_like, long_like, none_like, shared_like, split_like}

abbrev flat : List SpeltCall → List Made
flat spelt = flat_map (λ s. s.items) spelt

abbrev made_in : List SpeltCall → List (Call × Reply ℕ)
made_in spelt = map (λ s. (s.call, s.reply)) spelt

behind_first : (first others : List Made) (calls of_others : List (Option ℕ)) → length others ≡ length first → of_others ≡ calls → replicate (length others) None ++ of_others ≡ replicate (length first) None ++ calls
behind_first first others calls of_others long same = ap (λ (n : ℕ). replicate n None ++ of_others) long ∙ ap (λ (l : List (Option ℕ)). replicate (length first) None ++ l) same

module _ (plan : Plan) (worker : ℕ) where
  -- completed calls like others, of these items
  record AreCallsLike (before : ℕ) (spelt : List SpeltCall) (items : List Made) : Type 0 where
    like : List SpeltCall
    are : AreSpelt plan worker before like
    items_are : flat like ≡ items
    calls : made_in like ≡ made_in spelt
    along : (place : ℕ) (rest : List Call) (last others : List Made) → AreAlike last others → calls_from place like rest others ≡ calls_from place spelt rest last

  calls_like : (spelt : List SpeltCall) (before : ℕ) (items : List Made) → AreSpelt plan worker before spelt → AreAlike (flat spelt) items → AreCallsLike before spelt items
  calls_like [] before items spells alike = record {
    like = [];
    are = tt;
    items_are = sym (none_like [] items alike refl);
    calls = refl;
    along = λ place rest last others same. ap (λ (n : ℕ). replicate n (next_call place rest)) (long_like last others same);
  }
  calls_like (s ∷ spelt) before items (one, more) alike =
      let parts = split_like s.items (flat spelt) items alike in
      let first : SpeltCall = record { call = s.call; items = parts.first; reply = s.reply } in
      let later = calls_like spelt (before + length (shared_in s.items)) parts.rest more parts.behind in
      let count = shared_like s.items parts.first parts.here in
      record {
        like = first ∷ later.like;
        are = (spells_blind plan worker before s.call s.items parts.first (Done (Ok s.reply)) parts.here one, subst (λ (n : ℕ). AreSpelt plan worker (before + n) later.like) (sym count) later.are);
        items_are = ap (λ (l : List Made). parts.first ++ l) later.items_are ∙ sym parts.is;
        calls = ap (λ l. (s.call, s.reply) ∷ l) later.calls;
        along = λ place rest last others same.
            ap (λ (n : ℕ). replicate n (Some place) ++ calls_from (place + 1 + passed_over s.call s.reply) later.like rest others) (long_like s.items parts.first parts.here)
            ∙ ap (λ l. replicate (length s.items) (Some place) ++ l) (later.along (place + 1 + passed_over s.call s.reply) rest last others same);
      }

  ends_like : (before : ℕ) (ending : LineEnd) (rest : List Call) (last others : List Made) → AreAlike last others → EndsBy plan worker before ending rest last → EndsBy plan worker before ending rest others
  ends_like before whole rest last others alike (none, is) = (none, closing_blind plan worker last others (Done (Ok tt)) alike is)
  ends_like before (misused misuse) [] last others alike is = closing_blind plan worker last others (Done (Err misuse)) alike is
  ends_like before (misused misuse) (call ∷ rest) last others alike is = spells_blind plan worker before call last others (Done (Err misuse)) alike is
  ends_like before (halted misuse) [] last others alike is = closing_blind plan worker last others (Halted misuse) alike is
  ends_like before (halted misuse) (call ∷ rest) last others alike is = spells_blind plan worker before call last others (Halted misuse) alike is
  ends_like before unfinished [] last others alike (later, answer, some, is) = (later, answer, some, closing_blind plan worker (last ++ later) (others ++ later) answer (append_like last others later later alike refl) is)
  ends_like before unfinished (call ∷ rest) last others alike (later, answer, is) = (later, answer, spells_blind plan worker before call (last ++ later) (others ++ later) answer (append_like last others later later alike refl) is)
  ends_like before (stayed stay) rest last others alike none = none_like last others alike none

  stays_like : (stay : Stay) (first others : List Made) → AreAlike first others → StaysBy plan worker stay first → StaysBy plan worker stay others
  stays_like never first others alike is = opening_blind plan worker first others _ alike is
  stays_like (stopped misuse) first others alike is = opening_blind plan worker first others _ alike is
  stays_like waits first others alike (later, answer, some, is) = (later, answer, some, opening_blind plan worker (first ++ later) (others ++ later) answer (append_like first others later later alike refl) is)

  no_calls : (spelt like : List SpeltCall) → made_in like ≡ made_in spelt → spelt ≡ [] → like ≡ []
  no_calls spelt [] same none = refl
  no_calls spelt (s ∷ like) same none = absurd (some_none (same ∙ ap made_in none)) where
    some_none : {X : Type 0} {x : X} {xs : List X} → x ∷ xs ≡ [] → ⊥
    some_none e = cc

  opens_like : (ending : LineEnd) (spelt like : List SpeltCall) (first others : List Made) → made_in like ≡ made_in spelt → AreAlike first others → OpensBy plan worker ending spelt first → OpensBy plan worker ending like others
  opens_like whole spelt like first others same alike is = opening_blind plan worker first others _ alike is
  opens_like (misused misuse) spelt like first others same alike is = opening_blind plan worker first others _ alike is
  opens_like (halted misuse) spelt like first others same alike is = opening_blind plan worker first others _ alike is
  opens_like unfinished spelt like first others same alike is = opening_blind plan worker first others _ alike is
  opens_like (stayed stay) spelt like first others same alike (none, is) = (no_calls spelt like same none, stays_like stay first others alike is)

  all_halts : (misuse : Misuse) (halts others : List Made) → AreAlike halts others → All (IsHalt misuse) halts → All (IsHalt misuse) others
  all_halts misuse [] others alike all = subst (All (IsHalt misuse)) (sym (none_like [] others alike refl)) (All-nil (IsHalt misuse))
  all_halts misuse (Shared x ∷ halts) others alike all = absurd (All-head (IsHalt misuse) (Shared x) halts all)
  all_halts misuse (Entered object entry ∷ halts) others alike all =
      let one = cons_like (Entered object entry) halts others alike in
      let here = entered_like object entry one.first one.here in
      subst (All (IsHalt misuse)) (sym one.is)
      (All-cons (IsHalt misuse) one.first one.later (subst (IsHalt misuse) (sym here.is) (here.same ∙ All-head (IsHalt misuse) (Entered object entry) halts all))
      (all_halts misuse halts one.later one.behind (All-tail (IsHalt misuse) (Entered object entry) halts all)))

  halts_like : (ending : LineEnd) (halts others : List Made) → AreAlike halts others → AreHalts ending halts → AreHalts ending others
  halts_like whole halts others alike are = none_like halts others alike are
  halts_like (misused misuse) halts others alike are = all_halts misuse halts others alike are
  halts_like (halted misuse) halts others alike are = none_like halts others alike are
  halts_like unfinished halts others alike are = none_like halts others alike are
  halts_like (stayed stay) halts others alike are = none_like halts others alike are

  pub line_like : (line : Line) (others : List Made) → AreAlike (items_of line) others → IsLineOf plan worker line → HasLineLike plan worker line others
  line_like line others alike is =
      let opened = split_like line.first (flat line.spelt ++ (line.last ++ line.halts)) others alike in
      let spelt = split_like (flat line.spelt) (line.last ++ line.halts) opened.rest opened.behind in
      let ended = split_like line.last line.halts spelt.rest spelt.behind in
      let calls = calls_like line.spelt 0 spelt.first is.calls spelt.here in
      let count : length (shared_in (flat line.spelt)) ≡ length (shared_in (flat calls.like)) = sym (shared_like (flat line.spelt) spelt.first spelt.here) ∙ ap (λ (l : List Made). length (shared_in l)) (sym calls.items_are) in
      record {
        like = record { first = opened.first; spelt = calls.like; last = ended.first; halts = ended.rest; rest = line.rest; ending = line.ending };
        is = record {
          opens = opens_like line.ending line.spelt calls.like line.first opened.first calls.calls opened.here is.opens;
          calls = calls.are;
          ends = ends_like _ line.ending line.rest line.last ended.first ended.here (subst (λ (n : ℕ). EndsBy plan worker n line.ending line.rest line.last) count is.ends);
          halts = halts_like line.ending line.halts ended.rest ended.behind is.halts;
        };
        items_are = ap (λ (l : List Made). opened.first ++ (l ++ (ended.first ++ ended.rest))) calls.items_are ∙ ap (λ (l : List Made). opened.first ++ (spelt.first ++ l)) (sym ended.is)
            ∙ ap (λ (l : List Made). opened.first ++ l) (sym spelt.is) ∙ sym opened.is;
        ending = refl;
        rest = refl;
        calls = calls.calls;
        along = behind_first line.first opened.first (calls_from 0 line.spelt line.rest line.last) (calls_from 0 calls.like line.rest ended.first) (long_like line.first opened.first opened.here) (calls.along 0 line.rest line.last ended.first ended.here);
        halts = ended.behind;
      }
