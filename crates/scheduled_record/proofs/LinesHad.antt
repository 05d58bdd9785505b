-- Where each item of a run has a line, the lines are those of all items.
use Rattle.std.proofs.Common.{◌≡◌, ℕ, suc, List, [], ◌∷◌, ◌++◌, map, flat_map, Option, Some, slice_get, refl, sym, ap, ◌∙◌}
use Rattle.std.specs.List.{AllByRecursion}
use Rattle.std.specs.Option.{option_to_list}
use Rattle.record_clauses.specs.Account.{ToldItem}
use Rattle.record_text.specs.declared.item_line.ItemLine.{ItemLine}
use Rattle.record_text.specs.Written.{item_line}
use Rattle.scheduled_record.specs.ToldItems.{ToldAct, line_in, number_of}
use Rattle.scheduled_record.specs.ToldLists.{told_item}

-- what is so of each of a list, place by place
pub each_place : {X : Type 0} (P : X → Type 0) (xs : List X) → ((i : ℕ) (x : X) → slice_get xs i ≡ Some x → P x) → AllByRecursion P xs
each_place P [] all = tt
each_place P (x ∷ xs) all = (all 0 x refl, each_place P xs (λ i y at. all (suc i) y at))

-- an act has a line of its worker
abbrev pub HasLine : ℕ → ToldAct → Type 0
HasLine worker t = (line : ItemLine) × (item_line worker t.index (number_of t.act.made) t.act.made ≡ Some line) × (line_in t ≡ option_to_list (item_line worker t.index (number_of t.act.made) t.act.made))

-- so the lines are those of all acts
pub lines_are : (worker : ℕ) (told : List ToldAct) → AllByRecursion (HasLine worker) told → map (λ (x : ToldItem). item_line worker x.call x.number x.made) (map told_item told) ≡ map Some (flat_map line_in told)
lines_are worker [] all = refl
lines_are worker (t ∷ told) all =
    let (line, has, is) = all.0 in
    let own : line_in t ≡ line ∷ [] = is ∙ ap option_to_list has in
    ap (λ (o : Option ItemLine). o ∷ map (λ (x : ToldItem). item_line worker x.call x.number x.made) (map told_item told)) has
    ∙ ap (λ (l : List (Option ItemLine)). Some line ∷ l) (lines_are worker told all.1)
    ∙ sym (ap (λ (l : List ItemLine). map Some (l ++ flat_map line_in told)) own)
