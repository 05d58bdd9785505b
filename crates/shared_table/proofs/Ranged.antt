-- A cursor's call is placed, and its caller's seat lets it go.
use Rattle.std.proofs.Common.{◌≡◌, ℕ, zero, suc, ◌+◌, ◌<◌, List, [], ◌∷◌, ◌++◌, length, get_or, Option, Some, None, slice_get, inl, inr, refl, sym, ap, ◌∙◌, arith}
use Rattle.std.proofs.lemmas.List.{length-append}
use Rattle.std.proofs.lemmas.List.Elements.{Contains-append_left, Contains-append_right, Contains-append_cases}
use Rattle.std.proofs.lemmas.Option.{same_Some, slice_get_within}
use Rattle.std.specs.Prelude.{Contains}
use Rattle.sync_model.specs.declared.item.Item.{Item}
use Rattle.sync_model.specs.declared.item.SharedCall.{SharedCall}
use Rattle.sync_model.specs.declared.item.SharedCall.TheVariants as calls
use Rattle.sync_model.specs.declared.item.SharedReply.{SharedReply}
use Rattle.sync_model.specs.declared.item.SharedReply.TheVariants as replies
use Rattle.sync_model.specs.Shared.{CallerState, Called, items_of}
use Rattle.sync_model.specs.SharedHistory.{Contents}
use Rattle.table_rule.specs.declared.view.Own.{Own}
use Rattle.table_rule.specs.declared.view.Spot.{Spot}
use Rattle.table_rule.specs.declared.view.View.{View}
use Rattle.table_rule.specs.Cursors.{Sweeps, IsCursorOf, unmounted}
use Rattle.shared_table.specs.CursorStays.{old_step, still_at, still_step}
use Rattle.table_rule.specs.Operations.{PlacesCall}
use Rattle.shared_table.specs.Ranging.{showing}
use Rattle.table_rule.specs.Views.{held_in, called_view, with_item, view_state, Looks}
use Rattle.shared_table.proofs.Seeing.{looks_still}

-- a caller's seat let its cursor go when its call was placed: it is as after any other call
pub let_go : (call : SharedCall) (reply : SharedReply) (v w : View) (before after : Option Spot) → v.spot ≡ None → v.leaf ≡ None → Sweeps call reply after None (record v { spot = before }) w → PlacesCall call reply v (unmounted w)
let_go call reply v w before after nowhere entry s = record {
  item = s.item;
  time = s.time;
  seen = s.seen;
  is = ap unmounted s.is ∙ (λ i. record (called_view v (with_item v.owns s.item s.time) s.seen s.time) { spot = sym nowhere i; leaf = sym entry i });
  called = s.called;
  looks = looks_still w (unmounted w) w.walk w.leaf w.lock w.upper w.gate None w.cut refl s.looks;
}

-- the caller's list after its call
pub one_more : (start : Contents) (call : SharedCall) (reply : SharedReply) (old new : CallerState) (called : Called start call reply 0 old new) → items_of new.own ≡ items_of old.own ++ called.item ∷ []
one_more start call reply old new called = ap items_of called.own_new ∙ called.items ∙ ap (λ l. l ++ called.item ∷ []) (sym (ap items_of called.own_old))

pub at_end : (xs : List Item) (y : Item) → slice_get (xs ++ y ∷ []) (length xs) ≡ Some y
at_end [] y = refl
at_end (x ∷ xs) y = at_end xs y

-- a step of a cursor is one call more of its caller
pub one_step : (items : List Item) (x : Item) (z : Spot) (shown : Option (ℕ × ℕ)) → x.call ≡ calls.Next z.begin → x.reply ≡ replies.Shown shown → IsCursorOf items z → IsCursorOf (items ++ x ∷ []) (showing z shown)
one_step items x z None call reply of = record {
  begin = of.begin;
  at = still_at items x of.begin z.begin of.at;
  call = of.call;
  front = of.front;
  steps = λ j y key value step. elim (old_step items x z.begin j y (Some (key, value)) step) [
    | inl before ↦ of.steps j y key value before
    | inr last ↦ let e : replies.Shown None ≡ replies.Shown (Some (key, value)) = sym reply ∙ ap (λ (i : Item). i.reply) last.1 ∙ step.reply in absurd (cc)
  ];
  shown = λ key there. let step = of.shown key there in (step.0, step.1, step.2, still_step items x z.begin step.0 step.1 (Some (key, step.2)) step.3);
}
one_step items x z (Some pair) call reply of = record {
  begin = of.begin;
  at = still_at items x of.begin z.begin of.at;
  call = of.call;
  front = of.front;
  steps = λ j y key value step. elim (old_step items x z.begin j y (Some (key, value)) step) [
    | inl before ↦ Contains-append_left z.shown (pair.0 ∷ []) key (of.steps j y key value before)
    | inr last ↦
        let e : replies.Shown (Some pair) ≡ replies.Shown (Some (key, value)) = sym reply ∙ ap (λ (i : Item). i.reply) last.1 ∙ step.reply in
        let pairs : Some pair ≡ Some (key, value) = cc in
        let keys : pair.0 ≡ key = ap (λ (p : ℕ × ℕ). p.0) (same_Some pair (key, value) pairs) in
        Contains-append_right z.shown (pair.0 ∷ []) key (0, omega arith, keys)
  ];
  shown = λ key there. elim (Contains-append_cases z.shown (pair.0 ∷ []) key there) [
    | inl before ↦ let step = of.shown key before in (step.0, step.1, step.2, still_step items x z.begin step.0 step.1 (Some (key, step.2)) step.3)
    | inr new ↦ (length items, x, pair.1, record { at = at_end items x; call = call; reply = reply ∙ ap (λ n. replies.Shown (Some (n, pair.1))) (only (pair.0) key new) })
  ];
}
  where
    only : (n key : ℕ) → Contains (n ∷ []) key → n ≡ key
    only n key (i, below, is) = by_place i below is
      where
        by_place : (i : ℕ) → i < 1 → get_or (n ∷ []) i key ≡ key → n ≡ key
        by_place zero below is = is
        by_place (suc i) below is = absurd (omega arith)

-- no call of a caller is a step of a cursor that its last call began
pub not_yet : (w : View) (items : List Item) (x : Item) → Looks w w → items_of (view_state w).own ≡ items ++ x ∷ [] → (j : ℕ) (y : Item) → slice_get (items ++ x ∷ []) j ≡ Some y → y.call ≡ calls.Next (length items) → ⊥
not_yet w items x looks are j y at call = by_owns w.owns refl
  where
    by_owns : (owns : List Own) → w.owns ≡ owns → ⊥
    by_owns [] is = let e : [] ≡ items ++ x ∷ [] = sym (ap (λ l. items_of (held_in w.number l)) is) ∙ are in let long = ap length e in let more = length-append items (x ∷ []) in omega arith
    by_owns (own ∷ owns) is =
        let mine : own.items ≡ items ++ x ∷ [] = sym (ap (λ l. items_of (held_in w.number l)) is) ∙ are in
        let first = looks.owned 0 own (ap (λ l. slice_get l 0) is) in
        let there : slice_get (looks.calls (w.number + 0)) j ≡ Some y = ap (λ l. slice_get l j) (first.1 ∙ mine) ∙ at in
        let begun = (looks.lawful.sound (w.number + 0) j y there).begun (length items) call in
        let behind = begun.2 in
        let within = slice_get_within (items ++ x ∷ []) j y at in
        let more = length-append items (x ∷ []) in
        omega arith
