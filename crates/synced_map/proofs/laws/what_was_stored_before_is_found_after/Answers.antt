use Rattle.std.proofs.Common.{◌≡◌, ◌<◌, [], ◌∷◌, ◌++◌, length, Some, slice_get, sym, ap, ◌∙◌, subst, arith}
use Rattle.std.specs.FinMap.{empty}
use Rattle.std.proofs.lemmas.List.{length-replicate}
use Rattle.sync_model.specs.declared.item.SharedReply.TheVariants.{Map}
use Rattle.sync_model.specs.Front.{AtLeast}
use Rattle.sync_model.specs.Shared.{items_of}
use Rattle.shared_table.specs.Notes.{counts_by, own_by}
use Rattle.shared_table.specs.Tables.{first_of, maps_of}
use Rattle.synced_map.specs.Telling.{state_by}
use Rattle.synced_map.proofs.Telling.{at_end}
use Rattle.synced_map.proofs.laws.what_was_stored_before_is_found_after.Goals as goal

pub returns : goal.returns
returns c table key value stores loads first stored knowing loaded told there is store tells knows load history calls lawful are_stored are_loaded =
    let some : 0 < length (first_of table).maps = subst (λ n. 0 < n) (sym (length-replicate (maps_of table) empty)) there in
    let was = store.1.was.items in
    let at : slice_get (items_of (own_by stored)) (length was) ≡ Some store.1.item =
    ap (λ o. slice_get (items_of o) (length was)) store.1.own_new ∙ ap (λ xs. slice_get xs (length was)) store.1.items ∙ at_end was store.1.item in
    let least : AtLeast (counts_by knowing) (counts_by stored) = λ caller. let first = tells caller in let second = knows caller in omega (arith, first, second) in
    c.what_was_told_lies_before.ensures.finds (first_of table) history calls (state_by stored) (state_by knowing) (state_by loaded) (length was) 0 0 key value store.1.item (Map loads) load.1
    lawful are_stored are_loaded is.counted least at store.1.is_call some
