-- What the numbers of two calls say of their places, where one of them is an entry.
use Rattle.std.proofs.Common.{◌≡◌, ℕ, ◌<◌, ◌≤◌, Bool, true, false, List, Some, slice_get, inl, inr, refl, sym, ap, ◌∙◌, subst, arith}
use Rattle.std.proofs.lemmas.Bool.{cases_eq, cases_lt}
use Rattle.std.proofs.lemmas.Option.{same_Some}
use Rattle.sync_model.specs.declared.item.SharedEntry.{SharedEntry}
use Rattle.sync_model.specs.declared.item.Item.{Item}
use Rattle.sync_model.specs.SharedOrder.{IsAmong, InOrder}

module _ (entry_times : List ℕ) (entry call : Item) (time other : ℕ) (first : IsAmong entry_times entry time) (second : IsAmong entry_times call other) (is : entry.entry ≡ true) where
  pub past_entry : entry.place < call.place → time < other
  past_entry behind = second.past entry.place time behind (first.is is)

  -- at the entry's place or before it stands a call that is no later
  pub up_to_entry : call.place ≤ entry.place → other ≤ time
  up_to_entry before = by_entry call.entry refl
    where
      by_entry : (b : Bool) → call.entry ≡ b → other ≤ time
      by_entry true e = elim (cases_lt call.place entry.place) [
        | inl lower ↦ let past = first.past call.place other lower (second.is e) in omega arith
        | inr from ↦
            let same : call.place ≡ entry.place = omega arith in
            let at : other ≡ time = same_Some other time (sym (second.is e) ∙ ap (slice_get entry_times) same ∙ first.is is) in omega arith
      ]
      by_entry false e = let past = second.before e entry.place time before (first.is is) in omega arith

  pub not_at : call.entry ≡ false → other ≡ time → ⊥
  not_at e same = elim (cases_lt entry.place call.place) [
    | inl behind ↦ let past = past_entry behind in omega arith
    | inr before ↦ let past = second.before e entry.place time before (first.is is) in omega arith
  ]

  pub sees_it : time < other → entry.place < call.place
  sees_it later = elim (cases_lt entry.place call.place) [
    | inl behind ↦ behind
    | inr before ↦ let up = up_to_entry before in omega arith
  ]

  pub sees_none : other < time → call.place ≤ entry.place
  sees_none earlier = elim (cases_lt entry.place call.place) [
    | inl behind ↦ let past = past_entry behind in omega arith
    | inr before ↦ before
  ]
