-- Operations through a caller's note.
use Rattle.std.proofs.Common.{◌≡◌, ℕ, zero, suc, ◌<◌, ◌≤◌, true, false, List, [], ◌∷◌, ◌++◌, length, Some, IsSome, slice_get, slice_index, refl, sym, ap, ◌∙◌, subst, arith}
use Rattle.std.proofs.lemmas.Option.{none-some, same_Some}
use Rattle.atomic_table.specs.Table.{Me}
use Rattle.sync_types.specs.declared.atomic_object.AtomicCall.{AtomicCall}
use Rattle.sync_model.specs.declared.item.Item.{Item}
use Rattle.sync_model.specs.declared.item.SharedCall.{SharedCall}
use Rattle.sync_model.specs.declared.item.SharedReply.{SharedReply}
use Rattle.sync_model.specs.declared.item.SharedCall.TheVariants.{Atomic}
use Rattle.sync_model.specs.declared.item.SharedReply.TheVariants as replies
use Rattle.sync_model.specs.Note.{IsCounted, SameHome}
use Rattle.sync_types.specs.SequentialAtomic.{atomic_reply}
use Rattle.sync_types.specs.WordLayout.{is_word, number_in}
use Rattle.table_rule.specs.declared.begin.Begin.{Begin}
use Rattle.table_words.specs.Seats.{begin_of}
use Rattle.shared_table.specs.declared.note.SharedNote.{SharedNote}
use Rattle.shared_table.specs.declared.table.SharedTable.{SharedTable}
use Rattle.table_rule.specs.declared.view.Own.{Own}
use Rattle.table_rule.specs.declared.view.View.{View}
use Rattle.shared_table.specs.Notes.{IsNoteOf, IsOperationOn}
use Rattle.table_rule.specs.Operations.{IsAtEnd, PlacesCall, Operates}
use Rattle.table_rule.specs.Views.{held_in, with_item, called_view, view_state, IsIdle, at_time}

pub some_own : (n : ℕ) (owns : List Own) → IsSome (held_in n owns) → 0 < length owns
some_own n [] is = absurd (let e : false ≡ true = is in (cc))
some_own n (own ∷ owns) is = omega arith

as_many : (owns : List Own) (x : Item) (time : ℕ) → length (with_item owns x time) ≡ length owns
as_many [] x time = refl
as_many (own ∷ owns) x time = refl

drafts : (owns : List Own) (x : Item) (time : ℕ) → ((i : ℕ) (own : Own) → slice_get owns i ≡ Some own → own.draft ≡ []) → (i : ℕ) (own : Own) → slice_get (with_item owns x time) i ≡ Some own → own.draft ≡ []
drafts [] x time all i own at = absurd (none-some own at)
drafts (first ∷ owns) x time all zero own at = subst (λ (o : Own). o.draft ≡ []) (same_Some (record first { items = first.items ++ x ∷ []; times = first.times ++ time ∷ [] }) own at) (all zero first refl)
drafts (first ∷ owns) x time all (suc i) own at = all (suc i) own at

-- the note is still a note of its home
pub note_on : (home : SharedTable) (old new : SharedNote) (before : ℕ) (call : SharedCall) (reply : SharedReply) → IsNoteOf home old → new.seat.table_id ≡ old.seat.table_id → new.seat.me.1 ≡ old.seat.me.1 → PlacesCall call reply (at_time old.seat.me.0 before) new.seat.me.0 → IsNoteOf home new
note_on home old new before call reply is table_is empty places =
    let v = old.seat.me.0 in
    let w = called_view v (with_item v.owns places.item places.time) places.seen places.time in
    let same = sym places.is in
    let few = is.few in
    let many = as_many v.owns places.item places.time in
    let idle = is.idle in record {
      table_is = table_is ∙ is.table_is;
      empty = empty ∙ is.empty;
      live = subst (λ (u : View). u.live ≡ true) same is.live;
      begin = subst (λ (u : View). u.begin ≡ (begin_of home.words)) same is.begin;
      idle = subst IsIdle same record { walk = idle.walk; leaf = idle.leaf; lock = idle.lock; upper = idle.upper; gate = idle.gate; spot = idle.spot };
      few = subst (λ (u : View). length u.owns ≤ 1) same (omega arith);
      unwritten = subst (λ (u : View). (i : ℕ) (own : Own) → slice_get u.owns i ≡ Some own → own.draft ≡ []) same (drafts v.owns places.item places.time is.unwritten);
      counted = subst (λ own. IsCounted own new.seat.me.0.front) (sym places.called.own_new) (ap (slice_index new.seat.me.0.front) places.called.number ∙ places.called.counted);
    }

-- what an operation tells a note of its table
pub operated_on : (table : SharedTable) (old : SharedNote) (before a : ℕ) (call : AtomicCall) (f : ℕ → ℕ) (found : ℕ) (after : Me (Unit {0}) View) → IsNoteOf table old → (on : IsOperationOn table a call f) → Operates a call before old.seat.me found after
    → (is_word on.kind found ≡ true) × PlacesCall (Atomic a call) (replies.Atomic (atomic_reply call (number_in on.kind found))) (at_time old.seat.me.0 before) after.0 × IsAtEnd (view_state after.0)
operated_on table old before a call f found after is on told = told.1 on.kind (ap (λ (b : Begin). slice_get b.kinds a) is.begin ∙ on.at)

pub home_on : (table : SharedTable) (old new : SharedNote) (before a : ℕ) (call : AtomicCall) (f : ℕ → ℕ) (found : ℕ) → IsNoteOf table old → IsOperationOn table a call f
    → new.seat.table_id ≡ old.seat.table_id → Operates a call before old.seat.me found new.seat.me → SameHome IsNoteOf old new
home_on table old new before a call f found is on table_is told home at_home =
    note_on home old new before (Atomic a call) (replies.Atomic (atomic_reply call (number_in on.kind found))) at_home table_is told.0 (operated_on table old before a call f found new.seat.me is on told).1
