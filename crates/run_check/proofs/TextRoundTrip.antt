-- What a text tells is written as its lines.
use Rattle.std.proofs.Common.{◌≡◌, ℕ, List, [], ◌∷◌, map, Option, Some, slice_get, refl, sym, ap, ◌∙◌}
use Rattle.run_record.specs.declared.made.Made.{Made}
use Rattle.run_record.specs.declared.made.Made.TheVariants.{Shared, Entered}
use Rattle.record_text.specs.declared.item_line.ItemLine.{ItemLine}
use Rattle.record_text.specs.Told.{IsTold, Told, items_of}
use Rattle.record_text.specs.Written.{item_line}
use Rattle.run_check.specs.ToldItems.{Sketched, along_start, kept_by, worker_told}
use Rattle.record_clauses.specs.Account.{Claim, ToldItem}
use Rattle.run_check.specs.Items.{line_of, told_item, unmarked_item, unmarked_made}
use Rattle.run_check.specs.Tells.{Tells}
use Rattle.run_check.proofs.LineRoundTrip.{list_again, written}
use Rattle.run_check.proofs.ToldLists.{mapped}

-- a mark isn't written
one_unmarked : (worker : ℕ) (call : Option ℕ) (number : ℕ) (made : Made) → item_line worker call number (unmarked_made made) ≡ item_line worker call number made
one_unmarked worker call number (Shared x) = refl
one_unmarked worker call number (Entered object entry) = refl

all_unmarked : (worker : ℕ) (list : List ToldItem) → map (line_of worker) list ≡ map (line_of worker) (map unmarked_item list)
all_unmarked worker [] = refl
all_unmarked worker (x ∷ list) =
    ap (λ (l : Option ItemLine). l ∷ map (line_of worker) list) (sym (one_unmarked worker x.call x.number x.made))
    ∙ ap (λ (ls : List (Option ItemLine)). line_of worker (unmarked_item x) ∷ ls) (all_unmarked worker list)

all_told : (worker : ℕ) (items : List Sketched) → map (line_of worker) (map (told_item worker) items) ≡ map (written worker) items
all_told worker [] = refl
all_told worker (s ∷ items) = ap (λ (ls : List (Option ItemLine)). written worker s ∷ ls) (all_told worker items)

pub text_again : (bytes : List ℕ) (told : Told) (claim : Claim) (worker : ℕ) (list : List ToldItem) → IsTold bytes told → Tells told claim → slice_get claim.lists worker ≡ Some list
    → map (line_of worker) list ≡ map (λ item. Some item) (items_of told.items worker)
text_again bytes told claim worker list is tells at =
    let (items, found, same) = mapped (λ (ss : List Sketched). map (told_item worker) ss) (worker_told told.plan told.items worker) (map unmarked_item list) (tells.lists worker list at) in
    all_unmarked worker list ∙ ap (map (line_of worker)) (sym same) ∙ all_told worker items
    ∙ list_again told.plan is.says.items told.items is.says.each (kept_by told.items told.plan.workers) worker along_start items found
