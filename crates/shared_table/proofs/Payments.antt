-- A note after a call that used up a unit of its caller's room.
use Rattle.std.proofs.Common.{◌≡◌, ℕ, zero, suc, ◌+◌, ◌-◌, ◌*◌, ◌^◌, ◌<◌, ◌≤◌, true, List, [], ◌∷◌, ◌++◌, length, Some, IsSome, slice_get, slice_index, refl, sym, ap, ◌∙◌, subst, arith}
use Rattle.std.proofs.lemmas.Option.{same_Some}
use Rattle.std.specs.Option.{ForSome}
use Rattle.sync_types.specs.declared.map_object.MapCall.{MapCall}
use Rattle.sync_types.specs.declared.map_object.MapReply.{MapReply}
use Rattle.sync_model.specs.Note.{IsCounted}
use Rattle.sync_model.specs.Shared.{cost_of}
use Rattle.table_rule.specs.declared.begin.Begin.{Begin}
use Rattle.table_words.specs.Seats.{begin_of}
use Rattle.shared_table.specs.declared.note.SharedNote.{SharedNote}
use Rattle.shared_table.specs.declared.table.SharedTable.{SharedTable}
use Rattle.table_rule.specs.declared.view.CutNode.{CutNode}
use Rattle.table_rule.specs.declared.view.Own.{Own}
use Rattle.table_rule.specs.declared.view.View.{View}
use Rattle.trie_nodes.specs.Layout.{unit_words}
use Rattle.table_rule.specs.Layout.{size_of}
use Rattle.table_rule.specs.Making.{HasUnit, MadeCall}
use Rattle.table_rule.specs.Pruning.{having_cut}
use Rattle.shared_table.specs.Notes.{own_by, IsNoteOf}
use Rattle.table_rule.specs.Views.{held_in, with_item, paid, spend, next_in, spare_in, IsIdle, at_time}
use Rattle.table_rule.specs.Writing.{HasRoomWithin}
use Rattle.shared_table.proofs.Calling.{some_own}

-- a caller that can pay has a unit of room
pub has_unit : (note : SharedNote) (cost : ℕ) → IsSome (own_by note) → ((i : ℕ) (own : Own) → slice_get note.seat.me.0.owns i ≡ Some own → own.draft ≡ []) → cost ≡ 1 → ForSome (own_by note) (λ holding. cost ≤ holding.spare) → HasUnit note.seat.me.0.owns note.next
has_unit note cost owned unwritten one spare = by_owns note.seat.me.0.owns refl
  where
    by_owns : (owns : List Own) → note.seat.me.0.owns ≡ owns → HasUnit note.seat.me.0.owns note.next
    by_owns [] e = absurd (let none_there = some_own note.seat.me.0.number note.seat.me.0.owns owned in let empty = ap length e in omega arith)
    by_owns (own ∷ owns) e =
        let enough : cost ≤ own.spare = spare (record { number = note.seat.me.0.number; items = own.items; times = own.times; spare = own.spare }) (ap (held_in note.seat.me.0.number) e) in
        (own, owns, e, unwritten 0 own (ap (λ o. slice_get o 0) e), ap (next_in note.next) (sym e) ∙ note.next_is, omega arith)

module _ (table : SharedTable) (old : SharedNote) (before m : ℕ) (call : MapCall ℕ) (reply : MapReply) (words : ℕ) (w : View) (is : IsNoteOf table old) (costs : cost_of call ≡ 1) (unit : HasUnit old.seat.me.0.owns old.next) (cut : List CutNode) (made : MadeCall m call reply words (having_cut (at_time old.seat.me.0 before) cut) w) where
  abbrev after : Own
  after = record unit.0 { items = unit.0.items ++ made.item ∷ []; times = unit.0.times ++ made.time ∷ []; next = unit.0.next + words; spare = unit.0.spare - 1; draft = [] }

  owns_after : w.owns ≡ after ∷ unit.1
  owns_after = ap (λ (z : View). z.owns) made.is ∙ ap (λ c. paid c words (with_item old.seat.me.0.owns made.item made.time)) costs ∙ ap (λ o. spend words (with_item o made.item made.time)) unit.2

  pub next_after : next_in (old.next + words) w.owns ≡ old.next + words
  next_after = ap (next_in (old.next + words)) owns_after ∙ ap (λ n. n + words) unit.4

  pub spare_after : spare_in (old.spare - 1) w.owns ≡ old.spare - 1
  spare_after = ap (spare_in (old.spare - 1)) owns_after ∙ ap (λ n. n - 1) (ap (spare_in old.spare) (sym unit.2) ∙ old.spare_is)

  pub some_spare : 0 < old.spare
  some_spare = let left = unit.5 in let e : unit.0.spare ≡ old.spare = ap (spare_in old.spare) (sym unit.2) ∙ old.spare_is in omega arith

  pub next_small : HasRoomWithin w → old.next + words < 2 ^ 32
  next_small room =
      let at = room after (ap (λ o. slice_get o 0) owns_after) in
      let begin : w.begin ≡ (begin_of table.words) = ap (λ (z : View). z.begin) made.is ∙ is.begin in
      let within : unit.0.next + words + unit_words * (unit.0.spare - 1) ≤ size_of (begin_of table.words) = subst (λ (b : Begin). unit.0.next + words + unit_words * (unit.0.spare - 1) ≤ size_of b) begin at in
      let next = unit.4 in
      let objects = table.made.objects in
      let units = table.made.units in
      omega arith

  pub note_after : (home : SharedTable) (new : SharedNote) → IsNoteOf home old → new.seat.table_id ≡ old.seat.table_id → new.seat.me.1 ≡ old.seat.me.1 → new.seat.me.0 ≡ w → IsNoteOf home new
  note_after home new at_home table_is empty view =
      let v = old.seat.me.0 in
      let same = sym (view ∙ made.is) in
      let few = at_home.few in
      let idle = at_home.idle in
      let owns_are : new.seat.me.0.owns ≡ after ∷ unit.1 = ap (λ (z : View). z.owns) view ∙ owns_after in
      let one_less : length v.owns ≡ suc (length unit.1) = ap length unit.2 in record {
        table_is = table_is ∙ at_home.table_is;
        empty = empty ∙ at_home.empty;
        live = subst (λ (u : View). u.live ≡ true) same at_home.live;
        begin = subst (λ (u : View). u.begin ≡ (begin_of home.words)) same at_home.begin;
        idle = subst IsIdle same record { walk = idle.walk; leaf = idle.leaf; lock = idle.lock; upper = idle.upper; gate = idle.gate; spot = idle.spot };
        few = subst (λ o. length o ≤ 1) (sym owns_are) (omega arith);
        unwritten = λ i own at. drafts i own (ap (λ o. slice_get o i) (sym owns_are) ∙ at);
        counted = subst (λ own. IsCounted own new.seat.me.0.front) (sym (ap (λ (z : View). held_in z.number z.owns) view ∙ made.called.own_new))
            (ap (slice_index new.seat.me.0.front) made.called.number ∙ ap (λ (z : View). slice_index z.front made.called.was.number) view ∙ made.called.counted);
      }
    where
      drafts : (i : ℕ) (own : Own) → slice_get (after ∷ unit.1) i ≡ Some own → own.draft ≡ []
      drafts zero own at = subst (λ (o : Own). o.draft ≡ []) (same_Some after own at) refl
      drafts (suc i) own at = is.unwritten (suc i) own (ap (λ o. slice_get o (suc i)) unit.2 ∙ at)
