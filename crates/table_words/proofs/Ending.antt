-- What a table's words contain at the end is what the whole history leaves.
use Rattle.std.proofs.Common.{◌≡◌, ℕ, ◌^◌, true, sym, ◌∙◌, ap, subst}
use mathlib.Core.Option.{some}
use lib.ListN.{get_elem?}
use Rattle.sync_model.specs.SharedHistory.{contents_after}
use Rattle.table_words.specs.EndWords.{contents_in}
use Rattle.table_rule.specs.declared.begin.Begin.{Begin}
use Rattle.table_rule.specs.declared.view.View.{View}
use Rattle.table_words.specs.EndLaws.{EndLaws}
use Rattle.sync_model.specs.EndsOfHistory.{HasKeysBelow}
use Rattle.table_words.specs.Laws.{HistoryLaws}
use Rattle.table_rule.specs.Rule.{TableState, Kept}
use Rattle.table_words.specs.Seats.{EndsAt}
use Rattle.table_rule.specs.Shape.{start_of}
use Rattle.table_words.proofs.EndRows.{contents_are}
use Rattle.table_words.proofs.Looking.{looked}

module _ (k : Begin) (laws : HistoryLaws) (ending : EndLaws) (s : TableState) (r : Kept k s) where
  pub keys_below : HasKeysBelow (2 ^ 32) (contents_in k.kinds s.words k.maps)
  keys_below = subst (HasKeysBelow (2 ^ 32)) (sym (contents_are k laws ending r.shape r.log s.words r.begin r.fine r.keys)) r.keys

  pub ends_at : (id : ℕ) (v : View) → get_elem? s.views id ≡ some v → v.live ≡ true → v.begin ≡ k → EndsAt v (contents_in k.kinds s.words k.maps)
  ends_at id v at_v live begin = (
    record v { seen = r.log },
    looked k s r id v at_v live begin,
    contents_are k laws ending r.shape r.log s.words r.begin r.fine r.keys ∙ ap (λ b. contents_after (start_of b) r.log) (sym begin),
  )
