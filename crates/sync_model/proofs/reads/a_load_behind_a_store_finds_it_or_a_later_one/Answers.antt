use Rattle.std.proofs.Common.{◌∷◌, ◌++◌, ap, ◌∙◌, subst}
use Rattle.sync_model.specs.declared.item.SharedEntry.{SharedEntry}
use Rattle.sync_model.specs.SharedCalls.{Lawful}
use Rattle.sync_model.specs.SharedLaws.{is_on_key}
use Rattle.sync_model.proofs.LastEntry.{store_on_key, last_before}
use Rattle.sync_model.proofs.reads.a_load_behind_a_store_finds_it_or_a_later_one.Goals as goal

pub returns : goal.returns
returns c start history calls k d i j m key value store load lawful at_store at_load stores loads there below =
    let marked = c.each_entry_is_a_call.ensures.store start history calls d i m key value store lawful at_store stores in
    let entry = c.each_entry_is_a_call.ensures.entry start history calls d i store lawful at_store marked in
    let last = last_before m key history load.place store.place entry.0 (lawful.sound k j load at_load).place below entry.1 (ap (is_on_key m key) (entry.3 ∙ stores) ∙ store_on_key m key value) in
    record {
      earlier = last.earlier;
      last = last.last;
      between = last.between;
      later = last.later;
      parts = last.parts;
      before = last.before;
      on_key = last.on_key;
      leave = last.leave;
      not_older = last.not_older;
      same = λ equal. ap (λ (e : SharedEntry). e.call) (last.same equal) ∙ entry.3;
      finds = λ found is. c.a_load_finds_the_last_store.ensures.map start last.earlier last.between last.later last.last calls k j m key found load (subst (λ h. Lawful start h calls) {y = last.earlier ++ last.last ∷ (last.between ++ last.later)} last.parts lawful) at_load last.before loads is last.leave there;
    }
