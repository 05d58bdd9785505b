-- The halts in a worker's list.
use Rattle.std.proofs.Common.{◌≡◌, ℕ, suc, ◌==◌, Bool, true, false, cond, List, [], ◌∷◌, ◌++◌, map, get_or, Some, slice_get, refl, sym, ap, ◌∙◌, subst, arith, append_assoc}
use Rattle.std.specs.Prelude.{All, Contains, filter}
use Rattle.sync_model.specs.declared.journal.Deed.{Deed}
use Rattle.sync_model.specs.declared.journal.Deed.TheVariants.{Event, Refused, Halt}
use Rattle.sync_model.specs.Journal.{by}
use Rattle.sync_types.specs.declared.misuse.Misuse.{Misuse}
use Rattle.script_calls.specs.declared.outcome.Outcome.{Outcome}
use Rattle.workload.specs.Plan.{Plan}
use Rattle.run_record.specs.declared.entered.ObjectEvent.{ObjectEvent}
use Rattle.run_record.specs.declared.entered.ObjectReply.{ObjectReply}
use Rattle.run_record.specs.declared.made.Made.{Made}
use Rattle.run_record.specs.declared.made.Made.TheVariants.{Shared, Entered}
use Rattle.run_record.specs.Explains.{AreLines, IsRecordOf}
use Rattle.run_record.specs.Halts.{entered_on, halt_by, halted_numbers, halts_in, halts_made}
use Rattle.run_record.specs.Lines.{Line, LineEnd, misused, items_of, IsHalt, AreHalts, HaltsEach, halted_by, IsLineOf}
use Rattle.run_record.specs.Record.{Record, ObjectEntry, journal_of, list_of, entries_in}
use Rattle.run_record.proofs.CallLemmas.{AllEndAlike}
use Rattle.run_record.proofs.HaltedNumbers.{kept_once}
use Rattle.run_record.proofs.Having.{Each, get_at}
use Rattle.run_record.proofs.LineLemmas.{before_halts, items_cut, before_calm}
use Rattle.run_record.proofs.PartLemmas.{IsCalmDeed, IsCalm}

made_append : (xs ys : List Made) → halts_made (xs ++ ys) ≡ halts_made xs ++ halts_made ys
made_append [] ys = refl
made_append (Shared x ∷ xs) ys = made_append xs ys
made_append (Entered object entry ∷ xs) ys =
    let here = map (λ misuse. (object, misuse)) (halt_by entry.deed) in
    ap (λ (l : List (ℕ × Misuse)). here ++ l) (made_append xs ys) ∙ sym (append_assoc here (halts_made xs) (halts_made ys))

-- a call has none
calm_deed : (deed : Deed ObjectEvent ObjectReply) → IsCalmDeed deed → halt_by deed ≡ []
calm_deed (Event e r) calm = refl
calm_deed (Refused e misuse) calm = refl
calm_deed (Halt misuse) calm = absurd calm

calm_none : (items : List Made) → Each IsCalm items → halts_made items ≡ []
calm_none [] calm = refl
calm_none (Shared x ∷ items) calm = calm_none items calm.1
calm_none (Entered object entry ∷ items) calm =
    ap (λ (l : List Misuse). map (λ misuse. (object, misuse)) l ++ halts_made items) (calm_deed entry.deed calm.0) ∙ calm_none items calm.1

-- and so nothing has one that stands before the halts of a line
pub none_before : (alike : AllEndAlike) (plan : Plan) (worker : ℕ) (line : Line) → IsLineOf plan worker line → halts_made (before_halts line) ≡ []
none_before alike plan worker line is = calm_none (before_halts line) (before_calm alike plan worker line is)

-- and of halts each is one
all_made : (misuse : Misuse) (halts : List Made) → All (IsHalt misuse) halts → halts_made halts ≡ map (λ number. (number, misuse)) (entered_on halts)
all_made misuse [] all = refl
all_made misuse (Shared x ∷ halts) all = absurd (all 0 (Shared x) (omega arith))
all_made misuse (Entered object entry ∷ halts) all =
    ap (λ (d : Deed ObjectEvent ObjectReply). map (λ m. (object, m)) (halt_by d) ++ halts_made halts) (all 0 (Entered object entry) (omega arith))
    ∙ ap (λ (l : List (ℕ × Misuse)). (object, misuse) ∷ l) (all_made misuse halts later) where
      later : All (IsHalt misuse) halts
      later k d within = all (suc k) d (omega (arith, within))

-- those of one object
abbrev picked : ℕ → List (ℕ × Misuse) → List Misuse
picked number [] = []
picked number (halt ∷ halts) = cond (halt.0 == number) (halt.1 ∷ picked number halts) (picked number halts)

picked_here : (number object : ℕ) (misuses : List Misuse) (halts : List (ℕ × Misuse)) → picked number (map (λ misuse. (object, misuse)) misuses ++ halts) ≡ cond (object == number) misuses [] ++ picked number halts
picked_here number object misuses halts = by_case (object == number) refl misuses where
  by_case : (b : Bool) → (object == number) ≡ b → (misuses : List Misuse) → picked number (map (λ misuse. (object, misuse)) misuses ++ halts) ≡ cond b misuses [] ++ picked number halts
  by_case true is [] = refl
  by_case false is [] = refl
  by_case true is (m ∷ ms) =
      let rest = picked number (map (λ misuse. (object, misuse)) ms ++ halts) in
      ap (λ (b : Bool). cond b (m ∷ rest) rest) is ∙ ap (λ (l : List Misuse). m ∷ l) (by_case true is ms)
  by_case false is (m ∷ ms) =
      let rest = picked number (map (λ misuse. (object, misuse)) ms ++ halts) in
      ap (λ (b : Bool). cond b (m ∷ rest) rest) is ∙ by_case false is ms

in_entries : (number : ℕ) (items : List Made) → halts_in (entries_in number items) ≡ picked number (halts_made items)
in_entries number [] = refl
in_entries number (Shared x ∷ items) = in_entries number items
in_entries number (Entered object entry ∷ items) = chosen (object == number) (in_entries number items) ∙ sym (picked_here number object (halt_by entry.deed) (halts_made items)) where
  chosen : (b : Bool) → halts_in (entries_in number items) ≡ picked number (halts_made items)
      → halts_in (cond b (entry ∷ entries_in number items) (entries_in number items)) ≡ cond b (halt_by entry.deed) [] ++ picked number (halts_made items)
  chosen true rest = ap (λ (l : List Misuse). halt_by entry.deed ++ l) rest
  chosen false rest = rest

picked_kept : (number : ℕ) (misuse : Misuse) (numbers : List ℕ) → picked number (map (λ n. (n, misuse)) numbers) ≡ map (λ n. misuse) (filter (λ n. n == number) numbers)
picked_kept number misuse [] = refl
picked_kept number misuse (n ∷ numbers) = chosen (n == number) (picked_kept number misuse numbers) where
  chosen : (b : Bool) → picked number (map (λ n. (n, misuse)) numbers) ≡ map (λ n. misuse) (filter (λ n. n == number) numbers)
      → cond b (misuse ∷ picked number (map (λ n. (n, misuse)) numbers)) (picked number (map (λ n. (n, misuse)) numbers)) ≡ map (λ n. misuse) (cond b (n ∷ filter (λ k. k == number) numbers) (filter (λ k. k == number) numbers))
  chosen true rest = ap (λ (l : List Misuse). misuse ∷ l) rest
  chosen false rest = rest

module _ (alike : AllEndAlike) (plan : Plan) (r : Record) (outcome : Outcome) (lines : List Line) (are : AreLines plan r outcome lines) (lawful : IsRecordOf plan r)
    (worker : ℕ) (line : Line) (misuse : Misuse) (at : slice_get lines worker ≡ Some line) (each : HaltsEach plan line) (ending : line.ending ≡ misused misuse) where
  pub halts_are : halts_made (list_of r worker) ≡ map (λ number. (number, misuse)) (halted_numbers plan)
  halts_are =
      let before = before_halts line in
      let list : list_of r worker ≡ before ++ line.halts = ap (λ (lists : List (List Made)). get_or lists worker []) (sym are.lists) ∙ get_at items_of [] lines worker line at ∙ items_cut line in
      ap (λ (l : List Made). halts_made l) list ∙ made_append before line.halts
      ∙ ap (λ (l : List (ℕ × Misuse)). l ++ halts_made line.halts) (calm_none before (before_calm alike plan worker line (are.each worker line at)))
      ∙ all_made misuse line.halts (subst (λ (e : LineEnd). AreHalts e line.halts) ending (are.each worker line at).halts)
      ∙ ap (map (λ number. (number, misuse))) (each ∙ ap (halted_by plan) ending)

  pub halts_once : (number : ℕ) → Contains (halted_numbers plan) number → halts_in (by worker (journal_of r number)) ≡ misuse ∷ []
  halts_once number has =
      ap (λ (es : List ObjectEntry). halts_in es) (sym (lawful.once worker number)) ∙ in_entries number (list_of r worker) ∙ ap (λ (l : List (ℕ × Misuse)). picked number l) halts_are ∙ picked_kept number misuse (halted_numbers plan)
      ∙ ap (map (λ n. misuse)) (kept_once plan number has)
