use Rattle.std.proofs.Common.{◌^◌, ℕ, List, length, map, sym, ap, ◌∙◌, subst}
use Rattle.std.specs.Mem.Slots.{slots_items}
use Rattle.sync_types.specs.SequentialAtomic.{kind_of}
use Rattle.sync_model.specs.SharedHistory.{Contents}
use Rattle.table_words.specs.EndWords.{contents_in, IsTableRow}
use Rattle.table_rule.specs.declared.begin.Begin.{Begin}
use Rattle.sync_model.specs.EndsOfHistory.{HasKeysBelow}
use Rattle.table_words.specs.Seats.{EndsAt}
use Rattle.table_words.proofs.EndRows.{row_is, kinds_are, maps_many}
use Rattle.table_words.proofs.Ending.{ends_at, keys_below}
use Rattle.table_words.proofs.words.TableWords.ends.Goals as goal

pub new-requires-clause-row : goal.new-requires-clause-row
new-requires-clause-row c =
    let table = c.args.self in
    let last = c.close_with-closed.ensures.values.2 in
    let r = last.1.0 in
    subst (λ (x : Begin × List ℕ). IsTableRow x.0.kinds x.1 x.0.maps x.0.seed) (λ i. (table.same i, last.2 i))
    (row_is table.table.shared.key c.history_laws.ensures c.end_laws.ensures r.shape r.log last.0.words r.begin r.fine r.keys)

pub returns-clause-ends : goal.returns-clause-ends
returns-clause-ends c =
    let table = c.args.self in
    let last = c.close_with-closed.ensures.values.2 in
    subst (EndsAt c.args.seat.me.0) ((λ i. contents_in (table.same i).kinds (last.2 i) (table.same i).maps) ∙ sym c.new.ensures.contents)
    (ends_at table.table.shared.key c.history_laws.ensures c.end_laws.ensures last.0 last.1.0 c.args.seat.id c.args.seat.me.0 last.1.1 c.requires.live.0 c.requires.live.1)

pub returns-clause-maps : goal.returns-clause-maps
returns-clause-maps c = ap (λ (contents : Contents). length contents.maps) c.new.ensures.contents ∙ maps_many c.args.self.begin.kinds (slots_items c.close_with-closed.result.words) c.args.self.begin.maps ∙ sym (ap (λ (b : Begin). b.maps) c.args.self.same)

pub returns-clause-kinds : goal.returns-clause-kinds
returns-clause-kinds c = ap (λ (contents : Contents). map kind_of contents.numbers) c.new.ensures.contents ∙ kinds_are c.args.self.begin.kinds (slots_items c.close_with-closed.result.words) c.args.self.begin.maps ∙ sym (ap (λ (b : Begin). b.kinds) c.args.self.same)

pub returns-clause-keys : goal.returns-clause-keys
returns-clause-keys c =
    let table = c.args.self in
    let last = c.close_with-closed.ensures.values.2 in
    subst (HasKeysBelow (2 ^ 32)) ((λ i. contents_in (table.same i).kinds (last.2 i) (table.same i).maps) ∙ sym c.new.ensures.contents)
    (keys_below table.table.shared.key c.history_laws.ensures c.end_laws.ensures last.0 last.1.0)
