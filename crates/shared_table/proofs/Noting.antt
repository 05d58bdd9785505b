-- Notes are copied and merged.
use Rattle.std.proofs.Common.{◌≡◌, ℕ, ◌+◌, ◌≤◌, true, List, [], ◌∷◌, ◌++◌, length, Some, None, IsSome, All, slice_get, slice_index, refl, sym, ap, ◌∙◌, subst, arith}
use Rattle.std.proofs.lemmas.List.{append-nil}
use Rattle.std.proofs.lemmas.Option.{none-some, same_Some, slice_get-get_or}
use Rattle.atomic_table.specs.Table.{Me}
use Rattle.sync_model.specs.declared.caller.Caller.{Caller}
use Rattle.sync_model.specs.Front.{AtLeast}
use Rattle.sync_model.specs.Journal.{Begins}
use Rattle.sync_model.specs.Note.{Holding, IsCounted}
use Rattle.sync_model.specs.Shared.{IsCallerAt}
use Rattle.sync_model.specs.SharedCalls.{Lawful}
use Rattle.table_rule.specs.declared.begin.Begin.{Begin}
use Rattle.table_words.specs.Seats.{begin_of}
use Rattle.shared_table.specs.declared.note.SharedNote.{SharedNote}
use Rattle.shared_table.specs.declared.table.SharedTable.{SharedTable}
use Rattle.table_rule.specs.declared.view.Own.{Own}
use Rattle.table_rule.specs.declared.view.View.{View}
use Rattle.table_rule.specs.Layout.{callers_of}
use Rattle.shared_table.specs.NewCallers.{AreNewCallers}
use Rattle.shared_table.specs.Notes.{own_by, IsNoteOf, IsLawfulFor}
use Rattle.table_rule.specs.Shape.{start_of}
use Rattle.shared_table.specs.Tables.{first_of}
use Rattle.table_rule.specs.Values.{AreInRange}
use Rattle.table_rule.specs.Views.{held_in, most, joined, IsIdle, Looks}

pub nobody : (n : ℕ) (owns : List Own) → held_in n owns ≡ None → owns ≡ []
nobody n [] e = refl
nobody n (own ∷ owns) e = absurd (cc)

counted_on : (v w : View) (owns : List Own) → AtLeast (most v.front w.front) v.front → v.owns ≡ owns → w.owns ≡ [] → IsCounted (held_in v.number owns) v.front → (after : View) → Looks (joined v w) after → IsCounted (held_in v.number owns) (most v.front w.front)
counted_on v w [] knows e none_there counted after looks = tt
counted_on v w (own ∷ owns) knows e none_there counted after looks =
    let first = looks.owned 0 own (ap (λ l. slice_get l 0) (ap (λ l. l ++ w.owns) e)) in
    let number : v.number + 0 ≡ v.number = omega arith in
    let items = ap length (ap looks.calls (sym number) ∙ first.1) in
    let made = looks.made v.number in
    let up = knows v.number in
    omega arith

-- the note is still a note of its home, after it took in a copy and looked
pub merged : (home : SharedTable) (old other new : SharedNote) (mid : Me (Unit {0}) View) → IsNoteOf home old → own_by other ≡ None → new.seat.table_id ≡ old.seat.table_id → mid ≡ (joined old.seat.me.0 other.seat.me.0, old.seat.me.1)
    → AtLeast mid.0.front old.seat.me.0.front → (new.seat.me.1 ≡ mid.1) × Looks mid.0 new.seat.me.0 → IsNoteOf home new
merged home old other new mid is copy table_is joins_to knows looked =
    let v = old.seat.me.0 in
    let w = other.seat.me.0 in
    let none_there = nobody w.number w.owns copy in
    let looks : Looks (joined v w) new.seat.me.0 = subst (λ (m : Me (Unit {0}) View). Looks m.0 new.seat.me.0) joins_to looked.1 in
    let same = sym looks.is in
    let owns : v.owns ≡ v.owns ++ w.owns = sym (ap (λ l. v.owns ++ l) none_there ∙ append-nil v.owns) in
    let idle = is.idle in record {
      table_is = table_is ∙ is.table_is;
      empty = looked.0 ∙ ap (λ (m : Me (Unit {0}) View). m.1) joins_to ∙ is.empty;
      live = subst (λ (u : View). u.live ≡ true) same is.live;
      begin = subst (λ (u : View). u.begin ≡ (begin_of home.words)) same is.begin;
      idle = subst IsIdle same record { walk = idle.walk; leaf = idle.leaf; lock = idle.lock; upper = idle.upper; gate = idle.gate; spot = idle.spot };
      few = subst (λ (u : View). length u.owns ≤ 1) same (subst (λ (l : List Own). length l ≤ 1) owns is.few);
      unwritten = subst (λ (u : View). (i : ℕ) (own : Own) → slice_get u.owns i ≡ Some own → own.draft ≡ []) same
          (subst (λ (l : List Own). (i : ℕ) (own : Own) → slice_get l i ≡ Some own → own.draft ≡ []) owns is.unwritten);
      counted = subst (λ (u : View). IsCounted (held_in u.number u.owns) u.front) same
          (subst (λ (l : List Own). IsCounted (held_in v.number l) (most v.front w.front)) owns (counted_on v w v.owns (subst (λ f. AtLeast f v.front) (ap (λ (m : Me (Unit {0}) View). m.0.front) joins_to) knows) refl none_there is.counted new.seat.me.0 looks));
    }

-- what a note's seat told when it had taken in a copy and looked
module _ (v w after : View) (looks : Looks (joined v w) after) where
  pub merged_seen : Begins after.seen v.seen × Begins after.seen w.seen
  merged_seen = subst (λ (u : View). Begins u.seen v.seen × Begins u.seen w.seen) (sym looks.is) (looks.heard 0 v.seen refl, looks.heard 1 w.seen refl)

-- what it tells of the history
pub lawful_for : (table : SharedTable) (note : SharedNote) (before : View) → before.begin ≡ (begin_of table.words) → Looks before note.seat.me.0 → IsLawfulFor table note
lawful_for table note before begin looks =
    let same = sym looks.is in record {
      calls = looks.calls;
      lawful = subst (λ (u : View). Lawful (first_of table) u.seen looks.calls) same (subst (λ k. Lawful (start_of k) looks.log looks.calls) begin looks.lawful);
      none_else = subst (λ (k : Begin). (c : ℕ) → callers_of k ≤ c → looks.calls c ≡ []) begin looks.none_else;
      mine = subst (λ (u : View). (holding : Holding) → held_in u.number u.owns ≡ Some holding → looks.calls holding.number ≡ holding.items) same (mine before.owns refl);
      made = subst (λ (u : View). (c : ℕ) → slice_index u.front c ≤ length (looks.calls c)) same looks.made;
      values = subst (λ (u : View). AreInRange u.seen) same looks.values;
    }
  where
    mine : (owns : List Own) → before.owns ≡ owns → (holding : Holding) → held_in before.number owns ≡ Some holding → looks.calls holding.number ≡ holding.items
    mine [] is holding held = absurd (none-some holding held)
    mine (own ∷ owns) is holding held =
        let first = looks.owned 0 own (ap (λ l. slice_get l 0) is) in
        let number : before.number ≡ before.number + 0 = omega arith in
        subst (λ (h : Holding). looks.calls h.number ≡ h.items) (same_Some (record { number = before.number; items = own.items; times = own.times; spare = own.spare }) holding held) (ap looks.calls number ∙ first.1)

-- all callers of a new table
pub all_callers : (table : SharedTable) (spare : List ℕ) (callers : List (Caller SharedNote)) → AreNewCallers table spare callers → All (IsCallerAt IsNoteOf own_by table) callers
all_callers table spare callers new k d below = let each = new.all.each k _ (slice_get-get_or callers k d below) in (each.0, subst (λ o. IsSome o) (sym each.1.1) refl)
