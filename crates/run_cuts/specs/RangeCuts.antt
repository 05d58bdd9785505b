-- How the items of a range are cut from a list: those of one cursor, up to the step that shows nothing. It tells the pairs that were shown, in the order in which they were.
use Rattle.std.specs.Prelude.{◌≡◌, ◌↔◌, ℕ, Bool, false, ◌==◌, cond, List, [], ◌∷◌, Some, None, Ok}
use Rattle.sync_model.specs.declared.answer.Answer.TheVariants.{Done}
use Rattle.sync_model.specs.declared.item.SharedCall.{SharedCall}
use Rattle.sync_model.specs.declared.item.SharedCall.TheVariants as shared
use Rattle.sync_model.specs.declared.item.SharedReply.{SharedReply}
use Rattle.sync_model.specs.declared.item.SharedReply.TheVariants as answers
use Rattle.script_calls.specs.declared.call.Reply.TheVariants as replies
use Rattle.run_record.specs.declared.made.Made.{Made}
use Rattle.run_record.specs.declared.made.Made.TheVariants.{Shared, Entered}
use Rattle.run_record.specs.MapKind.{AreSorted, cursor_showing, range_call}
use Rattle.run_record.specs.Parts.{Part, Places}
use Rattle.run_cuts.specs.Cuts.{Beginning, whole, within, wrong, Cutter, Cuts, behind, read_beginning}

-- the pairs that a cursor shows
abbrev pub Pairs : Type 0
Pairs = List (ℕ × ℕ)

-- whether a call is the begin of a cursor over this map, or a step of the cursor that the worker's call of this number began
abbrev pub is_begin : ℕ → SharedCall → Bool
is_begin m (shared.Begin map) = map == m
is_begin m other = false

abbrev pub is_step : ℕ → SharedCall → Bool
is_step begin (shared.Next of) = of == begin
is_step begin other = false

-- by what a step shows: nothing, at the end; or one more pair
abbrev pub by_shown : Made → SharedReply → List Made → Beginning Pairs → Beginning Pairs
by_shown item (answers.Shown None) rest later = whole (item ∷ []) (Done (Ok [])) rest
by_shown item (answers.Shown (Some pair)) rest later = behind (item ∷ []) (read_beginning (λ pairs. pair ∷ pairs) later)
by_shown item other rest later = wrong

abbrev pub steps_cut : ℕ → Cutter Pairs
steps_cut begin [] = within
steps_cut begin (Shared x ∷ rest) = cond (is_step begin x.call) (by_shown (Shared x) x.reply rest (steps_cut begin rest)) wrong
steps_cut begin (Entered object entry ∷ rest) = wrong

abbrev pub by_begun : Made → SharedReply → Beginning Pairs → Beginning Pairs
by_begun item answers.Begun later = behind (item ∷ []) later
by_begun item other later = wrong

abbrev pub shows_cut : (m begin : ℕ) → Cutter Pairs
shows_cut m begin [] = within
shows_cut m begin (Shared x ∷ rest) = cond (is_begin m x.call) (by_begun (Shared x) x.reply (steps_cut begin rest)) wrong
shows_cut m begin (Entered object entry ∷ rest) = wrong

module _ (keys : List (List ℕ)) (m begin : ℕ) where
  -- the items of a range, and what it showed
  abbrev pub shows : Part Pairs
  shows items answer = (shown : Pairs) × Places (cursor_showing keys m begin shown) items × (answer ≡ Done (Ok shown))

  -- The items are cut just as they are spelt. A range replies the pairs that it showed, in any order that sorts them by the names of their keys.
  pub record CutsRange : Type 0 where
    pub items : Cuts shows (shows_cut m begin)
    pub replies : (items : List Made) (pairs : Pairs) → range_call keys m begin items (Done (Ok (replies.Pairs pairs))) ↔ ((shown : Pairs) × shows items (Done (Ok shown)) × AreSorted keys m shown pairs)
