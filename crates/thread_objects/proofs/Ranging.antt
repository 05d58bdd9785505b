-- A cursor's calls, one after the other.
use Rattle.std.proofs.Common.{ℕ, List, [], ◌∷◌, ◌++◌, map, Some, Ok, refl, sym, ap, ◌∙◌, subst}
use Rattle.std.proofs.lemmas.List.{map-append}
use Rattle.sync_model.specs.declared.answer.Answer.TheVariants.{Done}
use Rattle.script_calls.specs.declared.call.Reply.TheVariants as replies
use Rattle.sync_model.specs.declared.item.Item.{Item}
use Rattle.sync_model.specs.declared.item.SharedCall.{SharedCall}
use Rattle.sync_model.specs.declared.item.SharedCall.TheVariants as calls
use Rattle.sync_model.specs.declared.item.SharedReply.{SharedReply}
use Rattle.sync_model.specs.declared.item.SharedReply.TheVariants as answers
use Rattle.run_record.specs.declared.made.Made.{Made}
use Rattle.run_record.specs.declared.made.Made.TheVariants.{Shared}
use Rattle.run_record.specs.MapKind.{AreSorted, range_call}
use Rattle.run_record.specs.Parts.{Places}
use Rattle.thread_objects.specs.PlacedCalls.{placed, shows, shows_all}
use Rattle.thread_objects.specs.Working.{Desk, Works}
use Rattle.thread_objects.proofs.Moving.{joined, stays}

abbrev call_of : Item → SharedCall × SharedReply
call_of x = (x.call, x.reply)

places_append : (first later : List (SharedCall × SharedReply)) (xs ys : List Made) → Places first xs → Places later ys → Places (first ++ later) (xs ++ ys)
places_append first later xs ys a b = (
  a.0 ++ b.0,
  ap (λ (l : List Made). l ++ ys) a.1 ∙ ap (λ (l : List Made). map Shared a.0 ++ l) b.1 ∙ sym (map-append Shared a.0 b.0),
  map-append call_of a.0 b.0 ∙ ap (λ (l : List (SharedCall × SharedReply)). l ++ map call_of b.0) a.2 ∙ ap (λ (l : List (SharedCall × SharedReply)). first ++ l) b.2,
)

module _ (old between new : Desk) where
  -- calls, and then others
  pub placed_on : (first later : List (SharedCall × SharedReply)) → Works (placed first) old (Done (Ok tt)) between → Works (placed later) between (Done (Ok tt)) new → Works (placed (first ++ later)) old (Done (Ok tt)) new
  placed_on first later a b = record { items = a.items ++ b.items; moves = joined old between new a.items b.items a.moves b.moves; spelt = (places_append first later a.items b.items a.spelt.0 b.spelt.0, refl) }

  -- one step more
  pub shows_more : (begin : ℕ) (shown : List (ℕ × ℕ)) (pair : ℕ × ℕ) → Works (placed (shows begin shown)) old (Done (Ok tt)) between → Works (placed ((calls.Next begin, answers.Shown (Some pair)) ∷ [])) between (Done (Ok tt)) new
      → Works (placed (shows begin (shown ++ pair ∷ []))) old (Done (Ok tt)) new
  shows_more begin shown pair a b =
      subst (λ (l : List (SharedCall × SharedReply)). Works (placed l) old (Done (Ok tt)) new) (sym (map-append (λ (p : ℕ × ℕ). (calls.Next begin, answers.Shown (Some p))) shown (pair ∷ []))) (placed_on (shows begin shown) ((calls.Next begin, answers.Shown (Some pair)) ∷ []) a b)

  -- a cursor that was begun, and showed all that it shows
  pub ranged : (keys : List (List ℕ)) (m begin : ℕ) (shown pairs : List (ℕ × ℕ)) → Works (placed ((calls.Begin m, answers.Begun) ∷ [])) old (Done (Ok tt)) between → Works (placed (shows_all begin shown)) between (Done (Ok tt)) new
      → AreSorted keys m shown pairs → Works (range_call keys m begin) old (Done (Ok (replies.Pairs pairs))) new
  ranged keys m begin shown pairs a b sorted =
      let whole = placed_on ((calls.Begin m, answers.Begun) ∷ []) (shows_all begin shown) a b in
      record { items = whole.items; moves = whole.moves; spelt = (shown, pairs, whole.spelt.0, sorted, refl) }

-- a cursor that showed nothing yet
pub shows_none : (desk : Desk) (begin : ℕ) → Works (placed (shows begin [])) desk (Done (Ok tt)) desk
shows_none desk begin = record { items = []; moves = stays desk; spelt = (([], refl, refl), refl) }
