use Rattle.std.proofs.Common.{◌≡◌, ℕ, List, [], ◌∷◌, Option, Some, Ok, length, refl, sym, ap, subst, arith}
use Rattle.std.specs.Option.{ForSome}
use Rattle.std.specs.Prelude.{IsPermutation}
use Rattle.sync_model.specs.declared.answer.Answer.TheVariants.{Done}
use Rattle.sync_model.specs.declared.item.Item.{Item}
use Rattle.sync_model.specs.declared.item.SharedCall.TheVariants.{Begin}
use Rattle.sync_model.specs.declared.item.SharedReply.TheVariants.{Begun}
use Rattle.sync_model.specs.Note.{Holding}
use Rattle.sync_model.specs.Shared.{items_of}
use Rattle.thread_objects.specs.PlacedCalls.{placed}
use Rattle.thread_objects.specs.Working.{desk_with}
use Rattle.run_record.specs.Limits.{IsCallOf}
use Rattle.run_record.specs.Record.{ObjectEntry}
use Rattle.thread_objects.proofs.OnlyCalls.{IfNone_always, called_only, has_shown, made_on}
use Rattle.thread_objects.proofs.Ranging.{ranged}
use Rattle.thread_objects.proofs.SharedParts.{called_works}
use Rattle.thread_objects.proofs.parts.range.call_range.Goals as goal

-- a cursor is begun by the call whose number is how many its caller had made
stands_from : (stands : ℕ → List Item → Type 0) (own : Option Holding) (new : Option Holding) (was : Holding) → own ≡ Some was → ForSome own (λ h. ForSome new (λ becomes. stands (length h.items) becomes.items)) → ForSome new (λ becomes. stands (length (items_of own)) becomes.items)
stands_from stands own new was is begun becomes now = subst (λ (n : ℕ). stands n becomes.items) (sym (ap (λ (o : Option Holding). length (items_of o)) is)) (begun was is becomes now)

pub take_all-requires-clause-cursor : goal.take_all-requires-clause-cursor
take_all-requires-clause-cursor g c =
    let called = c.begin-cursor.ensures.called in
    (c.args.map, length (items_of (g.S.Mark.Note.own c.args.caller.now.note)), stands_from (g.S.Shared.stands c.args.shared.now c.begin-cursor.result c.args.map) _ _ called.was called.own_old c.begin-cursor.ensures.stands)

pub returns-clause-works : goal.returns-clause-works
returns-clause-works g c = λ owns.
    let own = g.S.Mark.Note.own in
    let front = g.S.Mark.Note.front in
    let old = c.args.caller.now.note in
    let between = c.begin-cursor.new.caller.note in
    let new = c.take_all.new.caller.note in
    let begin = length (items_of (own old)) in
    let called = c.begin-cursor.ensures.called in
    let stands = stands_from (g.S.Shared.stands c.args.shared.now c.begin-cursor.result c.args.map) _ _ called.was called.own_old c.begin-cursor.ensures.stands in
    let begun = called_works _ (Begin c.args.map) Begun 0 own front g.S.Shared.seen old between owns (placed ((Begin c.args.map, Begun) ∷ [])) (Done (Ok tt)) (λ items made. (made, refl)) (g.met.S.Mark.Note.counted _ _ c.requires.caller.0) called in
    ranged (desk_with own front owns old) (desk_with own front owns between) (desk_with own front owns new) c.args.keys.now c.args.map begin c.in_ok-shown.shown.items c.sorted.result begun (c.in_ok-shown.ensures.works c.args.map begin owns stands)
    (subst (λ (shown : List (ℕ × ℕ)). IsPermutation shown c.sorted.result) c.into_seq.ensures c.sorted.ensures.permutation, c.sorted.ensures.sorted)

pub returns-clause-calls : goal.returns-clause-calls
returns-clause-calls g c = λ plan. made_on (IsCallOf plan) _ _ _ (called_only (IsCallOf plan) _ _ _ _ _ _ tt c.begin-cursor.ensures.called) (c.take_all.ensures.calls plan)

pub returns-in_err-shown-clause-calls : goal.returns-in_err-shown-clause-calls
returns-in_err-shown-clause-calls g c = λ plan. made_on (IsCallOf plan) _ _ _ (called_only (IsCallOf plan) _ _ _ _ _ _ tt c.begin-cursor.ensures.called) (c.take_all.ensures.calls plan)

pub returns-in_err-shown-clause-many : goal.returns-in_err-shown-clause-many
returns-in_err-shown-clause-many g c =
    let own = g.S.Mark.Note.own in
    let front = g.S.Mark.Note.front in
    let owns : ℕ → List ObjectEntry = λ object. [] in
    let old = c.args.caller.now.note in
    let between = c.begin-cursor.new.caller.note in
    let new = c.take_all.new.caller.note in
    let begin = length (items_of (own old)) in
    let called = c.begin-cursor.ensures.called in
    let stands = stands_from (g.S.Shared.stands c.args.shared.now c.begin-cursor.result c.args.map) _ _ called.was called.own_old c.begin-cursor.ensures.stands in
    let begun = called_works _ (Begin c.args.map) Begun 0 own front g.S.Shared.seen old between owns (placed ((Begin c.args.map, Begun) ∷ [])) (Done (Ok tt)) (λ items made. (made, refl)) (g.met.S.Mark.Note.counted _ _ c.requires.caller.0) called in
    let many = c.in_err-shown.ensures.many c.args.map begin owns stands in
    IfNone_always c.from_residual.result (record { shown = many.0; has = has_shown (desk_with own front owns old) (desk_with own front owns between) (desk_with own front owns new) c.args.map many.0 begun many.2; many = omega (arith, c.requires.room, many.1) })
