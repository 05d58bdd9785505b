-- Lists and lines whose halts are set aside.
use Rattle.std.proofs.Common.{◌≡◌, ℕ, zero, suc, Bool, true, false, cond, List, [], ◌∷◌, ◌++◌, map, length, Some, slice_get, refl, sym, ap, ◌∙◌, arith, append_assoc}
use Rattle.std.specs.Prelude.{All}
use Rattle.std.specs.List.{flat_map}
use Rattle.std.proofs.lemmas.Option.{none-some, same_Some}
use Rattle.script_calls.specs.declared.call.Reply.{Reply}
use Rattle.sync_types.specs.declared.misuse.Misuse.{Misuse}
use Rattle.sync_model.specs.declared.journal.Deed.{Deed}
use Rattle.sync_model.specs.declared.journal.Deed.TheVariants.{Event, Refused, Halt}
use Rattle.workload.specs.Plan.{Plan}
use Rattle.run_record.specs.declared.entered.ObjectEvent.{ObjectEvent}
use Rattle.run_record.specs.declared.entered.ObjectReply.{ObjectReply}
use Rattle.run_record.specs.declared.made.Made.{Made}
use Rattle.run_record.specs.declared.made.Made.TheVariants.{Shared, Entered}
use Rattle.run_record.specs.Halts.{halt_by, halts_made}
use Rattle.run_record.specs.Lines.{Line, LineEnd, whole, misused, halted, unfinished, stayed, items_of, replies_of, IsHalt, AreHalts, IsLineOf}
use Rattle.record_clauses.specs.Lists.{halts, without_halts, before_halts}

-- the halts of a list that begins with an entry
abbrev with_deed : ℕ → List Made → Deed ObjectEvent ObjectReply → List (ℕ × Misuse)
with_deed object items deed = map (λ misuse. (object, misuse)) (halt_by deed) ++ halts_made items

-- and what is left of it
abbrev left_with : List Made → Made → Bool → List Made
left_with items item halt = cond halt (without_halts items) (item ∷ without_halts items)

-- where a list has no halt, none is set aside
pub none_aside : (items : List Made) → halts_made items ≡ [] → without_halts items ≡ items
none_aside [] none = refl
none_aside (Shared x ∷ items) none = ap (λ (l : List Made). Shared x ∷ l) (none_aside items none)
none_aside (Entered object entry ∷ items) none = by_deed (λ none. none_aside items none) entry.deed refl none where
  by_deed : (halts_made items ≡ [] → without_halts items ≡ items) → (d : Deed ObjectEvent ObjectReply) → entry.deed ≡ d → with_deed object items entry.deed ≡ []
      → without_halts (Entered object entry ∷ items) ≡ Entered object entry ∷ items
  by_deed rest (Event e r) is none = ap (λ (d : Deed ObjectEvent ObjectReply). left_with items (Entered object entry) (halts d)) is ∙ ap (λ (l : List Made). Entered object entry ∷ l) (rest (sym (ap (with_deed object items) is) ∙ none))
  by_deed rest (Refused e m) is none = ap (λ (d : Deed ObjectEvent ObjectReply). left_with items (Entered object entry) (halts d)) is ∙ ap (λ (l : List Made). Entered object entry ∷ l) (rest (sym (ap (with_deed object items) is) ∙ none))
  by_deed rest (Halt m) is none = let long = ap (λ (l : List (ℕ × Misuse)). length l) (sym (ap (with_deed object items) is) ∙ none) in absurd (omega (arith, long))

-- of halts nothing is left
all_aside : (misuse : Misuse) (items : List Made) → All (IsHalt misuse) items → without_halts items ≡ []
all_aside misuse [] all = refl
all_aside misuse (Shared x ∷ items) all = absurd (all 0 (Shared x) (omega arith))
all_aside misuse (Entered object entry ∷ items) all =
    ap (λ (d : Deed ObjectEvent ObjectReply). left_with items (Entered object entry) (halts d)) (all 0 (Entered object entry) (omega arith)) ∙ all_aside misuse items later where
      later : All (IsHalt misuse) items
      later k d within = all (suc k) d (omega (arith, within))

halts_aside : (ending : LineEnd) (items : List Made) → AreHalts ending items → without_halts items ≡ []
halts_aside whole items none = ap (λ (l : List Made). without_halts l) none
halts_aside (misused misuse) items all = all_aside misuse items all
halts_aside (halted misuse) items none = ap (λ (l : List Made). without_halts l) none
halts_aside unfinished items none = ap (λ (l : List Made). without_halts l) none
halts_aside (stayed stay) items none = ap (λ (l : List Made). without_halts l) none

no_halts : (ending : LineEnd) → AreHalts ending []
no_halts whole = refl
no_halts (misused misuse) = λ k d within. absurd (omega (arith, within))
no_halts (halted misuse) = refl
no_halts unfinished = refl
no_halts (stayed stay) = refl

aside_append : (xs ys : List Made) → without_halts (xs ++ ys) ≡ without_halts xs ++ without_halts ys
aside_append [] ys = refl
aside_append (Shared x ∷ xs) ys = ap (λ (l : List Made). Shared x ∷ l) (aside_append xs ys)
aside_append (Entered object entry ∷ xs) ys = by_halt (halts entry.deed) (aside_append xs ys) where
  by_halt : (b : Bool) → without_halts (xs ++ ys) ≡ without_halts xs ++ without_halts ys
      → cond b (without_halts (xs ++ ys)) (Entered object entry ∷ without_halts (xs ++ ys)) ≡ cond b (without_halts xs) (Entered object entry ∷ without_halts xs) ++ without_halts ys
  by_halt true rest = rest
  by_halt false rest = ap (λ (l : List Made). Entered object entry ∷ l) rest

-- what stands in a line before its halts
abbrev pub calm_part : Line → List Made
calm_part line = line.first ++ (flat_map (λ spelt. spelt.items) line.spelt ++ line.last)

pub cut_at : (line : Line) (behind : List Made) → line.first ++ (flat_map (λ spelt. spelt.items) line.spelt ++ (line.last ++ behind)) ≡ calm_part line ++ behind
cut_at line behind =
    let calls = flat_map (λ spelt. spelt.items) line.spelt in
    ap (λ (l : List Made). line.first ++ l) (sym (append_assoc calls line.last behind)) ∙ sym (append_assoc line.first (calls ++ line.last) behind)

-- The items of a line whose halts are set aside are those of the line, with its halts set aside
pub same_items : (line : Line) → halts_made (calm_part line) ≡ [] → AreHalts line.ending line.halts → items_of (before_halts line) ≡ without_halts (items_of line)
same_items line calm halts =
    let left : without_halts (items_of line) ≡ calm_part line ++ [] =
    ap (λ (l : List Made). without_halts l) (cut_at line line.halts) ∙ aside_append (calm_part line) line.halts
    ∙ ap (λ (l : List Made). l ++ without_halts line.halts) (none_aside (calm_part line) calm) ∙ ap (λ (l : List Made). calm_part line ++ l) (halts_aside line.ending line.halts halts) in
    cut_at line [] ∙ sym left

-- a line is one without its halts, and the other way round
pub line_aside : (plan : Plan) (worker : ℕ) (line : Line) → IsLineOf plan worker line → IsLineOf plan worker (before_halts line)
line_aside plan worker line is = record { opens = is.opens; calls = is.calls; ends = is.ends; halts = no_halts line.ending }

pub line_back : (plan : Plan) (worker : ℕ) (line : Line) → IsLineOf plan worker (before_halts line) → AreHalts line.ending line.halts → IsLineOf plan worker line
line_back plan worker line is halts = record { opens = is.opens; calls = is.calls; ends = is.ends; halts = halts }

-- lines whose halts are set aside, one by one
pub aside_at : (lines : List Line) (worker : ℕ) (line : Line) → slice_get lines worker ≡ Some line → slice_get (map before_halts lines) worker ≡ Some (before_halts line)
aside_at [] worker line at = absurd (none-some line at)
aside_at (x ∷ lines) zero line at = ap (λ (l : Line). Some (before_halts l)) (same_Some x line at)
aside_at (x ∷ lines) (suc worker) line at = aside_at lines worker line at

pub aside_from : (lines : List Line) (worker : ℕ) (line : Line) → slice_get (map before_halts lines) worker ≡ Some line → (whole_line : Line) × (slice_get lines worker ≡ Some whole_line) × (before_halts whole_line ≡ line)
aside_from [] worker line at = absurd (none-some line at)
aside_from (x ∷ lines) zero line at = (x, refl, same_Some (before_halts x) line at)
aside_from (x ∷ lines) (suc worker) line at = aside_from lines worker line at

pub replies_aside : (lines : List Line) → map replies_of (map before_halts lines) ≡ map replies_of lines
replies_aside [] = refl
replies_aside (line ∷ lines) = ap (λ (l : List (List (Reply ℕ))). replies_of line ∷ l) (replies_aside lines)

pub lists_aside : (lines : List Line) → ((worker : ℕ) (line : Line) → slice_get lines worker ≡ Some line → items_of (before_halts line) ≡ without_halts (items_of line))
    → map items_of (map before_halts lines) ≡ map without_halts (map items_of lines)
lists_aside [] each = refl
lists_aside (line ∷ lines) each =
    ap (λ (l : List Made). l ∷ map items_of (map before_halts lines)) (each 0 line refl)
    ∙ ap (λ (ls : List (List Made)). without_halts (items_of line) ∷ ls) (lists_aside lines (λ worker. each (suc worker)))
