use Rattle.std.proofs.Common.{◌<◌, [], ◌∷◌, ◌++◌, length, sym, ap, ◌∙◌, subst}
use Rattle.std.specs.FinMap.{empty}
use Rattle.std.proofs.lemmas.List.{length-replicate}
use Rattle.sync_types.specs.declared.map_object.MapReply.TheVariants.{Found}
use Rattle.sync_model.specs.declared.item.SharedReply.TheVariants.{Map}
use Rattle.sync_model.specs.Shared.{items_of}
use Rattle.shared_table.specs.Tables.{first_of, maps_of}
use Rattle.synced_map.specs.Telling.{state_by}
use Rattle.synced_map.proofs.laws.a_get_finds_what_was_told.Goals as goal

pub returns : goal.returns
returns c table key found old new there makes =
    let called = makes.1 in
    let some : 0 < length (first_of table).maps = subst (λ n. 0 < n) (sym (length-replicate (maps_of table) empty)) there in
    record {
      load = called.item;
      loaded = ap items_of called.own_new ∙ called.items ∙ ap (λ o. items_of o ++ called.item ∷ []) (sym called.own_old);
      answers = called.is_reply;
      finds = λ teller i value store is least at stores history calls lawful are_told are.
          c.what_was_told_lies_before.ensures.finds (first_of table) history calls (state_by teller) (state_by old) (state_by new) i 0 0 key value store (Map (Found found)) called
          lawful are_told are is.counted least at stores some;
    }
