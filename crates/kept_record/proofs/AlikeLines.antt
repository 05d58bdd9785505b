-- A list that is alike falls into the same calls.
use Rattle.std.proofs.Common.{◌≡◌, ℕ, suc, ◌+◌, List, [], ◌∷◌, ◌++◌, map, length, Ok, refl, sym, ap, ◌∙◌, subst}
use Rattle.std.specs.List.{flat_map, AllByRecursion}
use Rattle.std.proofs.lemmas.List.Elements.{recursion_from_All, All-from_recursion}
use Rattle.sync_model.specs.declared.answer.Answer.TheVariants.{Done}
use Rattle.script_calls.specs.declared.call.Call.{Call}
use Rattle.script_calls.specs.declared.call.Reply.{Reply}
use Rattle.sync_types.specs.declared.misuse.Misuse.{Misuse}
use Rattle.workload.specs.Plan.{Plan}
use Rattle.run_record.specs.declared.made.Made.{Made}
use Rattle.run_record.specs.declared.made.Made.TheVariants.{Shared, Entered}
use Rattle.run_record.specs.Lines.{SpeltCall, Stay, never, stopped, waits, LineEnd, whole, misused, halted, unfinished, stayed, Line, items_of, IsHalt, AreHalts, AreSpelt, EndsBy, StaysBy, OpensBy, IsLineOf}
use Rattle.run_record.specs.Record.{shared_in}
use Rattle.kept_record.specs.Alike.{AreAlike, IsLineLike}
use Rattle.kept_record.proofs.AlikeCalls.{call_blind, opening_blind, closing_blind}
use Rattle.kept_record.proofs.AlikeParts.{none_alike, split}

alike_itself : (items : List Made) → AreAlike items items
alike_itself [] = tt
alike_itself (Shared x ∷ items) = ((refl, refl), alike_itself items)
alike_itself (Entered object entry ∷ items) = ((refl, refl), alike_itself items)

alike_then : (items others later : List Made) → AreAlike items others → AreAlike (items ++ later) (others ++ later)
alike_then [] [] later alike = alike_itself later
alike_then [] (other ∷ others) later alike = absurd alike
alike_then (made ∷ items) [] later alike = absurd alike
alike_then (made ∷ items) (other ∷ others) later alike = (alike.0, alike_then items others later alike.1)

-- as many calls on maps and atomics
as_many : (items others : List Made) → AreAlike items others → length (shared_in items) ≡ length (shared_in others)
as_many [] [] alike = refl
as_many [] (other ∷ others) alike = absurd alike
as_many (made ∷ items) [] alike = absurd alike
as_many (Shared x ∷ items) (Shared y ∷ others) alike = ap suc (as_many items others alike.1)
as_many (Shared x ∷ items) (Entered object entry ∷ others) alike = absurd alike.0
as_many (Entered object entry ∷ items) (Shared x ∷ others) alike = absurd alike.0
as_many (Entered object entry ∷ items) (Entered other later ∷ others) alike = as_many items others alike.1

module _ (plan : Plan) (worker : ℕ) where
  spelt_like : (before : ℕ) (spelt : List SpeltCall) (others : List Made) → AreAlike (flat_map (λ one. one.items) spelt) others → AreSpelt plan worker before spelt
      → (told : List SpeltCall) × (flat_map (λ one. one.items) told ≡ others) × AreSpelt plan worker before told × (map {B = Call × Reply ℕ} (λ one. (one.call, one.reply)) told ≡ map {B = Call × Reply ℕ} (λ one. (one.call, one.reply)) spelt)
  spelt_like before [] others alike are = ([], sym (none_alike others alike), tt, refl)
  spelt_like before (one ∷ spelt) others alike are =
      let cut = split one.items (flat_map (λ one. one.items) spelt) others alike in
      let more : length (shared_in one.items) ≡ length (shared_in cut.0) = as_many one.items cut.0 cut.3 in
      let rest = spelt_like (before + length (shared_in cut.0)) spelt cut.1 cut.4 (subst (λ (n : ℕ). AreSpelt plan worker (before + n) spelt) more are.1) in
      let this : SpeltCall = record { call = one.call; items = cut.0; reply = one.reply } in (
        this ∷ rest.0,
        ap (λ (l : List Made). cut.0 ++ l) rest.1 ∙ sym cut.2,
        (call_blind plan worker before one.call one.items cut.0 (Done (Ok one.reply)) cut.3 are.0, rest.2),
        ap (λ (l : List (Call × Reply ℕ)). (one.call, one.reply) ∷ l) rest.3,
      )

  ends_like : (before : ℕ) (ending : LineEnd) (rest : List Call) (last others : List Made) → AreAlike last others → EndsBy plan worker before ending rest last → EndsBy plan worker before ending rest others
  ends_like before whole rest last others alike ends = (ends.0, closing_blind plan worker last others _ alike ends.1)
  ends_like before (misused misuse) [] last others alike ends = closing_blind plan worker last others _ alike ends
  ends_like before (misused misuse) (call ∷ rest) last others alike ends = call_blind plan worker before call last others _ alike ends
  ends_like before (halted misuse) [] last others alike ends = closing_blind plan worker last others _ alike ends
  ends_like before (halted misuse) (call ∷ rest) last others alike ends = call_blind plan worker before call last others _ alike ends
  ends_like before unfinished [] last others alike (later, answer, some, closes) = (later, answer, some, closing_blind plan worker (last ++ later) (others ++ later) answer (alike_then last others later alike) closes)
  ends_like before unfinished (call ∷ rest) last others alike (later, answer, spells) = (later, answer, call_blind plan worker before call (last ++ later) (others ++ later) answer (alike_then last others later alike) spells)
  ends_like before (stayed stay) rest last others alike ends = none_alike others (subst (λ (l : List Made). AreAlike l others) ends alike)

  stays_like : (stay : Stay) (first others : List Made) → AreAlike first others → StaysBy plan worker stay first → StaysBy plan worker stay others
  stays_like never first others alike stays = opening_blind plan worker first others _ alike stays
  stays_like (stopped misuse) first others alike stays = opening_blind plan worker first others _ alike stays
  stays_like waits first others alike (later, answer, some, opens) = (later, answer, some, opening_blind plan worker (first ++ later) (others ++ later) answer (alike_then first others later alike) opens)

  opens_like : (ending : LineEnd) (spelt told : List SpeltCall) (first others : List Made) → AreAlike first others → (spelt ≡ [] → told ≡ []) → OpensBy plan worker ending spelt first → OpensBy plan worker ending told others
  opens_like whole spelt told first others alike none opens = opening_blind plan worker first others _ alike opens
  opens_like (misused misuse) spelt told first others alike none opens = opening_blind plan worker first others _ alike opens
  opens_like (halted misuse) spelt told first others alike none opens = opening_blind plan worker first others _ alike opens
  opens_like unfinished spelt told first others alike none opens = opening_blind plan worker first others _ alike opens
  opens_like (stayed stay) spelt told first others alike none opens = (none opens.0, stays_like stay first others alike opens.1)

  each_halt : (misuse : Misuse) (halts others : List Made) → AreAlike halts others → AllByRecursion (IsHalt misuse) halts → AllByRecursion (IsHalt misuse) others
  each_halt misuse [] [] alike are = are
  each_halt misuse [] (other ∷ others) alike are = absurd alike
  each_halt misuse (made ∷ halts) [] alike are = absurd alike
  each_halt misuse (Shared x ∷ halts) (other ∷ others) alike are = absurd are.0
  each_halt misuse (Entered object entry ∷ halts) (Shared y ∷ others) alike are = absurd alike.0
  each_halt misuse (Entered object entry ∷ halts) (Entered other later ∷ others) alike are = (sym alike.0.1 ∙ are.0, each_halt misuse halts others alike.1 are.1)

  halts_like : (ending : LineEnd) (halts others : List Made) → AreAlike halts others → AreHalts ending halts → AreHalts ending others
  halts_like whole halts others alike are = none_alike others (subst (λ (l : List Made). AreAlike l others) are alike)
  halts_like (misused misuse) halts others alike are = All-from_recursion (IsHalt misuse) others (each_halt misuse halts others alike (recursion_from_All (IsHalt misuse) halts are))
  halts_like (halted misuse) halts others alike are = none_alike others (subst (λ (l : List Made). AreAlike l others) are alike)
  halts_like unfinished halts others alike are = none_alike others (subst (λ (l : List Made). AreAlike l others) are alike)
  halts_like (stayed stay) halts others alike are = none_alike others (subst (λ (l : List Made). AreAlike l others) are alike)

  no_calls : (spelt told : List SpeltCall) → map {B = Call × Reply ℕ} (λ one. (one.call, one.reply)) told ≡ map {B = Call × Reply ℕ} (λ one. (one.call, one.reply)) spelt → spelt ≡ [] → told ≡ []
  no_calls spelt [] same none = refl
  no_calls spelt (one ∷ told) same none =
      let some : map {B = Call × Reply ℕ} (λ one. (one.call, one.reply)) (one ∷ told) ≡ [] = same ∙ ap (map {B = Call × Reply ℕ} (λ one. (one.call, one.reply))) none in cc

  pub line_like : (line : Line) (list : List Made) → IsLineOf plan worker line → AreAlike (items_of line) list → (other : Line) × (items_of other ≡ list) × IsLineOf plan worker other × IsLineLike line other
  line_like line list is alike =
      let calls : List Made = flat_map (λ one. one.items) line.spelt in
      let opened = split line.first (calls ++ (line.last ++ line.halts)) list alike in
      let called = split calls (line.last ++ line.halts) opened.1 opened.4 in
      let closed = split line.last line.halts called.1 called.4 in
      let told = spelt_like 0 line.spelt called.0 called.3 is.calls in
      let other : Line = record { first = opened.0; spelt = told.0; last = closed.0; halts = closed.1; rest = line.rest; ending = line.ending } in
      let count : length (shared_in calls) ≡ length (shared_in (flat_map (λ one. one.items) told.0)) = as_many calls called.0 called.3 ∙ ap (λ (l : List Made). length (shared_in l)) (sym told.1) in (
        other,
        ap (λ (l : List Made). opened.0 ++ (l ++ (closed.0 ++ closed.1))) told.1 ∙ (ap (λ (l : List Made). opened.0 ++ (called.0 ++ l)) (sym closed.2) ∙ (ap (λ (l : List Made). opened.0 ++ l) (sym called.2) ∙ sym opened.2)),
        record {
          opens = opens_like line.ending line.spelt told.0 line.first opened.0 opened.3 (no_calls line.spelt told.0 told.3) is.opens;
          calls = told.2;
          ends = subst (λ (n : ℕ). EndsBy plan worker n line.ending line.rest closed.0) count (ends_like (length (shared_in calls)) line.ending line.rest line.last closed.0 closed.3 is.ends);
          halts = halts_like line.ending line.halts closed.1 closed.4 is.halts;
        },
        record { calls = told.3; rest = refl; ending = refl },
      )
