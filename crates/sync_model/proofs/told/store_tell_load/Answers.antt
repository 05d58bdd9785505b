use Rattle.std.proofs.Common.{◌<◌, [], ◌∷◌, ◌++◌, length, refl, sym, ap, ◌∙◌, subst}
use Rattle.std.specs.FinMap.{empty}
use Rattle.std.proofs.lemmas.List.{length-replicate}
use Rattle.sync_model.specs.declared.item.SharedCall.TheVariants.{Map}
use Rattle.sync_model.specs.declared.item.SharedReply.TheVariants as replies
use Rattle.sync_types.specs.declared.map_object.MapCall.TheVariants.{Load}
use Rattle.sync_model.specs.Front.{AtLeast}
use Rattle.sync_model.specs.Shared.{state_of, items_of}
use Rattle.sync_model.specs.SharedHistory.{first_contents}
use Rattle.sync_model.proofs.Tellers.{made, made_at, still_counted}
use Rattle.sync_model.proofs.told.store_tell_load.Goals as goal

pub returns-clause-hears : goal.returns-clause-hears
returns-clause-hears g c =
    let start = first_contents (g.S.Shared.maps c.args.shared.now) (g.S.Shared.kinds c.args.shared.now) in
    let first = c.map_call.ensures.called in
    let second = c.map_call-2.ensures.called in
    let own = c.copy-told.ensures.own.0 in
    let front = ap (λ f. f.counts) c.copy-told.ensures.front.0 in
    let gave = state_of g.S.Mark.Note.own g.S.Mark.Note.front g.S.Shared.seen c.copy-told.new.self in
    let later = state_of g.S.Mark.Note.own g.S.Mark.Note.front g.S.Shared.seen c.merge.new.self in
    let took = state_of g.S.Mark.Note.own g.S.Mark.Note.front g.S.Shared.seen c.map_call-2.new.caller.note in
    let least : AtLeast later.front gave.front = subst (λ f. AtLeast later.front f) (ap (λ f. f.counts) c.copy-told.ensures.front.1 ∙ sym front) c.merge.ensures.front.1 in
    let there : c.args.map < length start.maps = subst (λ n. c.args.map < n) (sym (length-replicate (g.S.Shared.maps c.args.shared.now) empty)) c.requires.map in
    record {
      store = first.item;
      load = second.item;
      stored = made start first gave own front;
      loaded = made start second took refl refl ∙ ap (λ o. items_of o ++ second.item ∷ []) c.merge.ensures.own;
      stores = first.is_call;
      loads = second.is_call;
      replies = second.is_reply;
      behind = λ history calls lawful are_given are_taken.
          c.what_was_told_lies_before.ensures.below start history calls gave later took (length first.was.items) 0 first.item (Map c.args.map (Load c.args.key)) (replies.Map c.map_call-2.result) second
          lawful are_given are_taken (still_counted start first gave own front) least (made_at start first gave own front) first.entry;
      finds = λ history calls lawful are_given are_taken.
          c.what_was_told_lies_before.ensures.finds start history calls gave later took (length first.was.items) 0 c.args.map c.args.key c.args.value first.item (replies.Map c.map_call-2.result) second
          lawful are_given are_taken (still_counted start first gave own front) least (made_at start first gave own front) first.is_call there;
    }
