use Rattle.std.proofs.Common.{◌≡◌, ℕ, ◌<◌, ◌≤◌, List, [], ◌∷◌, ◌++◌, length, Some, None, Ok, refl, sym, ap, ◌∙◌, subst, arith, rules}
use Rattle.std.specs.Prelude.{is_some}
use Rattle.std.proofs.lemmas.List.{length_push}
use Rattle.sync_types.specs.BoundedSeq.{Bounded}
use Rattle.sync_model.specs.declared.answer.Answer.TheVariants.{Done}
use Rattle.sync_model.specs.declared.item.SharedCall.TheVariants.{Next}
use Rattle.sync_model.specs.declared.item.SharedReply.TheVariants.{Shown}
use Rattle.run_record.specs.Limits.{IsCallOf}
use Rattle.thread_objects.specs.PlacedCalls.{placed, shows}
use Rattle.thread_objects.specs.Working.{Works, desk_with}
use Rattle.thread_objects.proofs.OnlyCalls.{none_made, made_on, called_only}
use Rattle.thread_objects.proofs.Ranging.{shows_none, shows_more, placed_on}
use Rattle.thread_objects.proofs.SharedParts.{called_works}
use Rattle.thread_objects.proofs.Spending.{kept_spends, called_spends, spends_on}
use Rattle.thread_objects.proofs.parts.range.take_all.Goals as goal

-- a list that has no room left, and one item more
beyond : (room was is : ℕ) (shown seen : List (ℕ × ℕ)) (pair : ℕ × ℕ) → room ≡ was → is ≡ was → seen ≡ shown → is ≤ length seen → room < length (shown ++ pair ∷ [])
beyond room was is shown seen pair first then same full = omega (arith, first, then, ap (λ (l : List (ℕ × ℕ)). length l) same, full, length_push shown pair)

pub loop-init : goal.loop-init
loop-init g c =
    let note = c.args.caller.now.note in (
      (tt, tt),
      c.requires.caller,
      (λ home at. at),
      (λ map begin stands. stands),
      kept_spends g.S.Mark.Note.own note note refl c.requires.caller.1,
      (λ map begin owns stands. subst (λ (shown : List (ℕ × ℕ)). Works (placed (shows begin shown)) (desk_with g.S.Mark.Note.own g.S.Mark.Note.front owns note) (Done (Ok tt)) (desk_with g.S.Mark.Note.own g.S.Mark.Note.front owns note)) (sym c.requires.empty) (shows_none (desk_with g.S.Mark.Note.own g.S.Mark.Note.front owns note) begin)),
      (λ plan. none_made (IsCallOf plan) (g.S.Mark.Note.own note) (g.S.Mark.Note.own note) refl),
      refl,
    )

pub next-requires-in-loop-clause-cursor : goal.next-requires-in-loop-clause-cursor
next-requires-in-loop-clause-cursor g c = (c.requires.cursor.0, c.requires.cursor.1, c.loop.invariant.3 c.requires.cursor.0 c.requires.cursor.1 c.requires.cursor.2)

pub returns-in-None-next-clause-works : goal.returns-in-None-next-clause-works
returns-in-None-next-clause-works g c = λ map begin owns stands.
    let own = g.S.Mark.Note.own in
    let front = g.S.Mark.Note.front in
    let called = c.in-None-next.ensures.called map begin (c.loop.invariant.3 map begin stands) in
    let last = called_works _ (Next begin) (Shown None) 0 own front g.S.Shared.seen c.loop.caller.note c.next-in-loop.new.caller.note owns (placed ((Next begin, Shown None) ∷ [])) (Done (Ok tt)) (λ items made. (made, refl)) (g.met.S.Mark.Note.counted _ _ c.loop.invariant.1.0) called in
    placed_on (desk_with own front owns c.args.caller.now.note) (desk_with own front owns c.loop.caller.note) (desk_with own front owns c.next-in-loop.new.caller.note) (shows begin c.loop.shown.items) ((Next begin, Shown None) ∷ []) (c.loop.invariant.5 map begin owns stands) last

pub returns-in-None-next-clause-calls : goal.returns-in-None-next-clause-calls
returns-in-None-next-clause-calls g c = λ plan.
    let called = c.next-in-loop.ensures.called c.requires.cursor.0 c.requires.cursor.1 (c.loop.invariant.3 c.requires.cursor.0 c.requires.cursor.1 c.requires.cursor.2) in
    made_on (IsCallOf plan) _ _ _ (c.loop.invariant.6 plan) (called_only (IsCallOf plan) _ _ _ _ _ _ tt called)

pub returns-in-None-next-clause-spends : goal.returns-in-None-next-clause-spends
returns-in-None-next-clause-spends g c =
    let last = c.next-in-loop.ensures.called c.requires.cursor.0 c.requires.cursor.1 (c.loop.invariant.3 c.requires.cursor.0 c.requires.cursor.1 c.requires.cursor.2) in
    spends_on g.S.Mark.Note.own 0 0 _ _ _ c.loop.invariant.4 (called_spends g.S.Mark.Note.own g.S.Mark.Note.front g.S.Shared.seen _ _ _ _ _ _ last)

pub returns-then-as_slice-room-clause-calls : goal.returns-then-as_slice-room-clause-calls
returns-then-as_slice-room-clause-calls g c = λ plan.
    let called = c.next-in-loop.ensures.called c.requires.cursor.0 c.requires.cursor.1 (c.loop.invariant.3 c.requires.cursor.0 c.requires.cursor.1 c.requires.cursor.2) in
    made_on (IsCallOf plan) _ _ _ (c.loop.invariant.6 plan) (called_only (IsCallOf plan) _ _ _ _ _ _ tt called)

pub returns-then-as_slice-room-clause-spends : goal.returns-then-as_slice-room-clause-spends
returns-then-as_slice-room-clause-spends g c =
    let last = c.next-in-loop.ensures.called c.requires.cursor.0 c.requires.cursor.1 (c.loop.invariant.3 c.requires.cursor.0 c.requires.cursor.1 c.requires.cursor.2) in
    spends_on g.S.Mark.Note.own 0 0 _ _ _ c.loop.invariant.4 (called_spends g.S.Mark.Note.own g.S.Mark.Note.front g.S.Shared.seen _ _ _ _ _ _ last)

pub returns-then-as_slice-room-clause-many : goal.returns-then-as_slice-room-clause-many
returns-then-as_slice-room-clause-many g c = λ map begin owns stands.
    let own = g.S.Mark.Note.own in
    let front = g.S.Mark.Note.front in
    let pair = c.in-Some-next.pair in
    let called = c.in-Some-next.ensures.called map begin (c.loop.invariant.3 map begin stands) in
    let step = called_works _ (Next begin) (Shown (Some pair)) 0 own front g.S.Shared.seen c.loop.caller.note c.next-in-loop.new.caller.note owns (placed ((Next begin, Shown (Some pair)) ∷ [])) (Done (Ok tt)) (λ items made. (made, refl)) (g.met.S.Mark.Note.counted _ _ c.loop.invariant.1.0) called in
    (c.loop.shown.items ++ pair ∷ [], beyond c.args.room.room c.loop.shown.room c.room.result c.loop.shown.items c.as_slice.result.now pair (sym c.loop.invariant.7) c.room.ensures.room c.as_slice.ensures.items c.if-as_slice-room.true, shows_more (desk_with own front owns c.args.caller.now.note) (desk_with own front owns c.loop.caller.note) (desk_with own front owns c.next-in-loop.new.caller.note) begin c.loop.shown.items pair (c.loop.invariant.5 map begin owns stands) step)

pub loop-preserved : goal.loop-preserved
loop-preserved g c =
    let own = g.S.Mark.Note.own in
    let front = g.S.Mark.Note.front in
    let pair = c.in-Some-next.pair in
    let first = c.next-in-loop.ensures.called c.requires.cursor.0 c.requires.cursor.1 (c.loop.invariant.3 c.requires.cursor.0 c.requires.cursor.1 c.requires.cursor.2) in (
      search rules,
      (c.next-in-loop.ensures.home _ c.loop.invariant.1.0, ap is_some first.own_new),
      (λ home at. c.next-in-loop.ensures.home home (c.loop.invariant.2 home at)),
      (λ map begin stands. c.next-in-loop.ensures.stands map begin (c.loop.invariant.3 map begin stands)),
      spends_on g.S.Mark.Note.own 0 0 _ _ _ c.loop.invariant.4 (called_spends g.S.Mark.Note.own g.S.Mark.Note.front g.S.Shared.seen _ _ _ _ _ _ first),
      (λ map begin owns stands.
          let called = c.in-Some-next.ensures.called map begin (c.loop.invariant.3 map begin stands) in
          let step = called_works _ (Next begin) (Shown (Some pair)) 0 own front g.S.Shared.seen c.loop.caller.note c.next-in-loop.new.caller.note owns (placed ((Next begin, Shown (Some pair)) ∷ [])) (Done (Ok tt)) (λ items made. (made, refl)) (g.met.S.Mark.Note.counted _ _ c.loop.invariant.1.0) called in
          let more = shows_more (desk_with own front owns c.args.caller.now.note) (desk_with own front owns c.loop.caller.note) (desk_with own front owns c.next-in-loop.new.caller.note) begin c.loop.shown.items pair (c.loop.invariant.5 map begin owns stands) step in
          subst (λ (shown : List (ℕ × ℕ)). Works (placed (shows begin shown)) (desk_with own front owns c.args.caller.now.note) (Done (Ok tt)) (desk_with own front owns c.next-in-loop.new.caller.note)) (search rules) more),
      (λ plan. made_on (IsCallOf plan) _ _ _ (c.loop.invariant.6 plan) (called_only (IsCallOf plan) _ _ _ _ _ _ tt first)),
      ap (λ (list : Bounded (ℕ × ℕ)). list.room) c.push.ensures ∙ c.loop.invariant.7,
    )
