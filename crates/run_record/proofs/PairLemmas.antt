-- How many pairs the replies of a record's outcome show.
use Rattle.std.proofs.Common.{◌≡◌, ℕ, suc, ◌+◌, ◌<◌, ◌≤◌, Bool, true, ◌&&◌, ◌⊎◌, inl, inr, List, [], ◌∷◌, ◌++◌, length, map, get_or, Some, None, slice_get, refl, sym, ap, ◌∙◌, subst, arith, append_assoc}
use Rattle.std.specs.Prelude.{All, Ok}
use Rattle.std.specs.List.{AllByRecursion, flat_map, list_all}
use Rattle.std.proofs.lemmas.List.{length-append, get_or_past, length-map}
use Rattle.std.proofs.lemmas.List.Elements.{All-from_recursion}
use Rattle.std.proofs.lemmas.Option.{slice_get_cases}
use Rattle.sync_model.specs.declared.answer.Answer.TheVariants.{Done}
use Rattle.script_calls.specs.declared.call.Call.{Call}
use Rattle.script_calls.specs.declared.call.Operation.TheVariants as operations
use Rattle.script_calls.specs.declared.call.Reply.{Reply}
use Rattle.sync_model.specs.declared.item.Item.{Item}
use Rattle.sync_model.specs.declared.item.SharedCall.TheVariants as calls
use Rattle.sync_model.specs.declared.item.SharedReply.TheVariants as answers
use Rattle.sync_types.specs.declared.map_object.MapCall.{MapCall}
use Rattle.sync_types.specs.declared.misuse.Misuse.{Misuse}
use Rattle.script_calls.specs.declared.outcome.Outcome.{Outcome}
use Rattle.script_calls.specs.Outcome.{has_pairs_to, shows_to}
use Rattle.sync_types.specs.Renaming.{renamed_call}
use Rattle.workload.specs.Keys.{keys_in, key_number}
use Rattle.workload.specs.Plan.{Plan}
use Rattle.run_record.specs.declared.made.Made.{Made}
use Rattle.run_record.specs.declared.made.Made.TheVariants.{Shared, Entered}
use Rattle.run_record.specs.Calls.{SpellsCall}
use Rattle.run_record.specs.Explains.{AreLines}
use Rattle.run_record.specs.Limits.{HasShown}
use Rattle.run_record.specs.Lines.{SpeltCall, LineEnd, whole, misused, halted, unfinished, stayed, Line, items_of, replies_of, IsHalt, AreHalts, AreSpelt, IsLineOf}
use Rattle.run_record.specs.MapKind.{cursor_showing}
use Rattle.run_record.specs.Parts.{Places}
use Rattle.run_record.specs.Record.{Record, list_of, shared_in, calls_of}
use Rattle.run_record.proofs.AskLemmas.{Asks, by_opening, by_closing, by_call}
use Rattle.run_record.proofs.FewLemmas.{few_call}
use Rattle.run_record.proofs.Having.{Each, each_both, get_at}
use Rattle.run_record.proofs.LineParts.{each_first, each_last, none_shared_first}
use Rattle.run_record.proofs.Limits.{KnowsKey, item_of}
use Rattle.run_record.proofs.RunLines.{each_along}

module _ {A : Type 0} (P : A → Type 0) where
  pub each_from : (xs : List A) → ((i : ℕ) (x : A) → slice_get xs i ≡ Some x → P x) → Each P xs
  each_from [] at = tt
  each_from (x ∷ xs) at = (at 0 x refl, each_from xs (λ i y found. at (suc i) y found))

  by_recursion : (xs : List A) → Each P xs → AllByRecursion P xs
  by_recursion [] each = tt
  by_recursion (x ∷ xs) each = (each.0, by_recursion xs each.1)

pub shared_both : (xs ys : List Made) → shared_in (xs ++ ys) ≡ shared_in xs ++ shared_in ys
shared_both [] ys = refl
shared_both (Shared x ∷ xs) ys = ap (λ (l : List Item). x ∷ l) (shared_both xs ys)
shared_both (Entered object entry ∷ xs) ys = shared_both xs ys

pub shared_of : (xs : List Item) → shared_in (map Shared xs) ≡ xs
shared_of [] = refl
shared_of (x ∷ xs) = ap (λ (l : List Item). x ∷ l) (shared_of xs)

-- a call on a map is by a key that the workload has
abbrev pub IsNamed : Plan → Call → Type 0
IsNamed plan call = (m : ℕ) (op : MapCall (List ℕ)) → call.operation ≡ operations.Map op → KnowsKey plan (calls.Map m (renamed_call (key_number (keys_in plan.scripts)) op))

module _ (plan : Plan) (worker : ℕ) where
  abbrev Known : Made → Type 0
  Known = Asks (KnowsKey plan)

  known_call : (before : ℕ) (call : Call) (items : List Made) (answer : _) → IsNamed plan call → SpellsCall plan worker before call items answer → Each Known items
  known_call before call items answer named spelt = by_call (KnowsKey plan) (λ m. tt) (λ begin. tt) (λ a op. tt) plan worker before call named items answer spelt

  spelt_known : (before : ℕ) (spelt : List SpeltCall) → Each (IsNamed plan) (map (λ s. s.call) spelt) → AreSpelt plan worker before spelt → Each Known (flat_map (λ s. s.items) spelt)
  spelt_known before [] named are = tt
  spelt_known before (s ∷ spelt) named are = each_both Known s.items (flat_map (λ t. t.items) spelt) (known_call before s.call s.items (Done (Ok s.reply)) named.0 are.0) (spelt_known (before + length (shared_in s.items)) spelt named.1 are.1)

  halt_known : (misuse : Misuse) (x : Made) → IsHalt misuse x → Known x
  halt_known misuse (Shared x) is = absurd is
  halt_known misuse (Entered object entry) is = tt

  halts_known : (misuse : Misuse) (halts : List Made) → All (IsHalt misuse) halts → Each Known halts
  halts_known misuse halts all = each_from Known halts (λ i x at. halt_known misuse x (item_of (IsHalt misuse) halts i x all at))

  behind_known : (ending : LineEnd) (halts : List Made) → AreHalts ending halts → Each Known halts
  behind_known (misused misuse) halts all = halts_known misuse halts all
  behind_known whole halts none = subst (Each Known) (sym none) tt
  behind_known (halted misuse) halts none = subst (Each Known) (sym none) tt
  behind_known unfinished halts none = subst (Each Known) (sym none) tt
  behind_known (stayed stay) halts none = subst (Each Known) (sym none) tt

  line_known : (line : Line) → IsLineOf plan worker line → Each (IsNamed plan) (map (λ s. s.call) line.spelt) → Each (IsNamed plan) line.rest → Each Known (items_of line)
  line_known line is named left =
      let calls = flat_map (λ s. s.items) line.spelt in
      each_both Known line.first (calls ++ (line.last ++ line.halts)) (each_first Known plan worker (by_opening (KnowsKey plan) plan worker) line.ending line.spelt line.first is.opens)
      (each_both Known calls (line.last ++ line.halts)
      (spelt_known 0 line.spelt named is.calls)
      (each_both Known line.last line.halts
      (each_last Known plan worker (by_closing (KnowsKey plan) plan worker) (length (shared_in calls)) line.ending line.rest line.last
      (λ call behind is_next items answer spelt. known_call (length (shared_in calls)) call items answer (subst (Each (IsNamed plan)) is_next left).0 spelt) is.ends)
      (behind_known line.ending line.halts is.halts)))

  shared_known : (list : List Made) → Each Known list → Each (λ x. KnowsKey plan x.call) (shared_in list)
  shared_known [] each = tt
  shared_known (Shared x ∷ list) each = (each.0, shared_known list each.1)
  shared_known (Entered object entry ∷ list) each = shared_known list each.1

  -- the replies of completed calls
  module _ (most : ℕ) (own : List Item) (few : (shown : List (ℕ × ℕ)) → HasShown own shown → length shown ≤ most) where
    ranged : (earlier items later : List Made) → own ≡ shared_in (earlier ++ (items ++ later)) → (m : ℕ) (shown : List (ℕ × ℕ)) → Places (cursor_showing (keys_in plan.scripts) m (length (shared_in earlier)) shown) items → length shown ≤ most
    ranged earlier items later is m shown (made, are, told_is) = few shown (record {
      m = m;
      before = shared_in earlier;
      made = made;
      after = shared_in later;
      more = (calls.Next (length (shared_in earlier)), answers.Shown None) ∷ [];
      are = is
          ∙ shared_both earlier (items ++ later)
          ∙ ap (λ (l : List Item). shared_in earlier ++ l) (shared_both items later ∙ ap (λ (l : List Made). shared_in l ++ shared_in later) are ∙ ap (λ (l : List Item). l ++ shared_in later) (shared_of made));
      steps = told_is;
    })

    spelt_few : (earlier : List Made) (spelt : List SpeltCall) (later : List Made) → own ≡ shared_in (earlier ++ (flat_map (λ s. s.items) spelt ++ later)) → (before : ℕ) → before ≡ length (shared_in earlier) → AreSpelt plan worker before spelt
        → list_all (has_pairs_to most) (map (λ s. s.reply) spelt) ≡ true
    spelt_few earlier [] later is before same are = refl
    spelt_few earlier (s ∷ spelt) later is before same are =
        let rest = flat_map (λ (t : SpeltCall). t.items) spelt in
        let whole_is : own ≡ shared_in (earlier ++ (s.items ++ (rest ++ later))) = is ∙ ap (λ (l : List Made). shared_in (earlier ++ l)) (append_assoc s.items rest later) in
        let here : has_pairs_to most s.reply ≡ true = few_call most plan worker before s.items (Done (Ok s.reply)) (λ m shown places. ranged earlier s.items (rest ++ later) whole_is m shown (subst (λ n. Places (cursor_showing (keys_in plan.scripts) m n shown) s.items) same places)) s.call are.0 in
        let longer : before + length (shared_in s.items) ≡ length (shared_in (earlier ++ s.items)) = omega (arith, same, ap (λ (l : List Item). length l) (shared_both earlier s.items), length-append (shared_in earlier) (shared_in s.items)) in
        both_true here (spelt_few (earlier ++ s.items) spelt later (whole_is ∙ ap (λ (l : List Made). shared_in l) (sym (append_assoc earlier s.items (rest ++ later)))) (before + length (shared_in s.items)) longer are.1)
      where
        both_true : {a b : Bool} → a ≡ true → b ≡ true → (a && b) ≡ true
        both_true {a} {b} first second = subst (λ t. (t && b) ≡ true) (sym first) second

module _ (plan : Plan) (r : Record) (outcome : Outcome) (lines : List Line) (are : AreLines plan r outcome lines) (named : (worker i : ℕ) (call : Call) → slice_get (get_or plan.scripts worker []) i ≡ Some call → IsNamed plan call) where
  line_list : (worker : ℕ) (line : Line) → slice_get lines worker ≡ Some line → list_of r worker ≡ items_of line
  line_list worker line at = ap (λ (l : List (List Made)). get_or l worker []) (sym are.lists) ∙ get_at items_of [] lines worker line at

  -- all calls on maps are by keys of the workload
  pub all_known : (worker : ℕ) → All (λ x. KnowsKey plan x.call) (calls_of r worker)
  all_known worker = All-from_recursion (λ x. KnowsKey plan x.call) (calls_of r worker) (by_recursion (λ x. KnowsKey plan x.call) (calls_of r worker) (shared_known plan worker (list_of r worker) (of_line (slice_get_cases lines worker).1))) where
    of_line : ((line : Line) × (worker < length lines) × (slice_get lines worker ≡ Some line) × (get_or lines worker line ≡ line)) ⊎ ((length lines ≤ worker) × (slice_get lines worker ≡ None)) → Each (Asks (KnowsKey plan)) (list_of r worker)
    of_line (inl (line, low, at, read)) =
        let calls = each_along (IsNamed plan) line.spelt (get_or plan.scripts worker []) line.rest (each_from (IsNamed plan) (get_or plan.scripts worker []) (named worker)) (are.runs worker line at) in
        subst (Each (Asks (KnowsKey plan))) (sym (line_list worker line at)) (line_known plan worker line (are.each worker line at) calls.0 calls.1)
    of_line (inr (past, none)) =
        let long : length r.lists ≤ worker = subst (λ (l : List (List Made)). length l ≤ worker) are.lists (subst (λ n. n ≤ worker) (sym (length-map lines items_of)) past) in
        subst (Each (Asks (KnowsKey plan))) (sym (get_or_past r.lists worker [] long)) tt

  module _ (most : ℕ) (few : (worker : ℕ) (shown : List (ℕ × ℕ)) → HasShown (calls_of r worker) shown → length shown ≤ most) where
    line_few : (worker : ℕ) (line : Line) → slice_get lines worker ≡ Some line → list_all (has_pairs_to most) (replies_of line) ≡ true
    line_few worker line at =
        let none = none_shared_first plan worker line (are.each worker line at) in
        spelt_few plan worker most (calls_of r worker) (few worker) line.first line.spelt (line.last ++ line.halts) (ap (λ (l : List Made). shared_in l) (line_list worker line at)) 0 (sym (ap (λ (l : List Item). length l) none)) (are.each worker line at).calls

    lines_few : (all : List Line) → ((worker : ℕ) (line : Line) → slice_get all worker ≡ Some line → list_all (has_pairs_to most) (replies_of line) ≡ true) → list_all (list_all (has_pairs_to most)) (map replies_of all) ≡ true
    lines_few [] each = refl
    lines_few (line ∷ all) each = subst (λ t. (t && list_all (list_all (has_pairs_to most)) (map replies_of all)) ≡ true) (sym (each 0 line refl)) (lines_few all (λ worker other at. each (suc worker) other at))

    pub shows_few : shows_to most outcome ≡ true
    shows_few = ap (λ (l : List (List (Reply ℕ))). list_all (list_all (has_pairs_to most)) l) (sym are.replies) ∙ lines_few lines line_few
