use Rattle.std.proofs.Common.{◌≡◌, ℕ, zero, suc, true, false, pos, List, [], ◌∷◌, length, Option, Some, slice_get, refl, sym, ap, ◌∙◌, subst, arith}
use Rattle.std.specs.Prelude.{unwrap_or}
use Rattle.std.proofs.lemmas.Bool.{false≢true}
use Rattle.std.proofs.lemmas.Option.{none-some}
use Rattle.sync_types.specs.declared.atomic_object.AtomicReply.{AtomicReply}
use Rattle.sync_types.specs.declared.atomic_object.AtomicReply.TheVariants as answers
use Rattle.sync_types.specs.declared.atomic_object.Number.TheVariants.{Int64}
use Rattle.script_calls.specs.declared.call.Reply.{Reply}
use Rattle.script_calls.specs.declared.call.Reply.TheVariants as replies
use Rattle.sync_model.specs.declared.item.Item.{Item}
use Rattle.sync_model.specs.declared.item.SharedCall.{SharedCall}
use Rattle.sync_model.specs.declared.item.SharedEntry.{SharedEntry}
use Rattle.sync_model.specs.declared.item.SharedReply.{SharedReply}
use Rattle.sync_model.specs.declared.item.SharedReply.TheVariants as shared_replies
use Rattle.sync_model.specs.SharedCalls.{Lawful}
use Rattle.sync_model.specs.SharedHistory.{IsReply, contents_at}
use Rattle.run_record.specs.Example.{plan, done, held}
use Rattle.run_record.specs.Objects.{contents_of}
use Rattle.run_record.specs.Record.{Record, calls_of}
use Rattle.run_record.proofs.TwoCalls.{TwoCalls, two}
use Rattle.run_record.proofs.laws.examples.nothing_explains_a_wrong_reply.Goals as goal

-- the number that a reply shows, or one that none shows
abbrev shown : AtomicReply → ℕ
shown (answers.Held (Int64 (pos n))) = n
shown reply = 7

abbrev shown_by : Reply ℕ → ℕ
shown_by (replies.Atomic reply) = shown reply
shown_by reply = 8

abbrev shown_in : SharedReply → ℕ
shown_in (shared_replies.Atomic reply) = shown reply
shown_in reply = 8

store_at : (r : Record) (first second : Reply ℕ) (t : TwoCalls r first second) → slice_get (calls_of r 0) 0 ≡ Some t.store
store_at r first second t = ap (λ (xs : List Item). slice_get xs 0) t.made

load_at : (r : Record) (first second : Reply ℕ) (t : TwoCalls r first second) → slice_get (calls_of r 0) 1 ≡ Some t.load
load_at r first second t = ap (λ (xs : List Item). slice_get xs 1) t.made

pub returns-clause-exchanged : goal.returns-clause-exchanged
returns-clause-exchanged c r explains =
    let t = two (λ outcome r lines are. ((c.scripts_without_tests_are_spelt_call_by_call.ensures plan r outcome lines refl).0 are).scripts) (held 5) done r explains in
    let sound = explains.lawful.shared.sound 0 0 t.store (store_at r (held 5) done t) in
    let right : t.store.reply ≡ shared_replies.Atomic answers.Done = subst (λ (call : SharedCall). IsReply call t.store.reply (contents_at (contents_of plan) r.history t.store.place)) t.stores sound.reply in
    let n : 5 ≡ 7 = ap shown_by t.first_is ∙ (ap shown_in (sym t.store_reply) ∙ ap shown_in right) in
    absurd (omega (arith, n))

-- the calls that are entries: the store alone
one_entry : (r : Record) (t : TwoCalls r done (held 0)) → (t.load.entry ≡ false) → (worker j : ℕ) (x : Item) → slice_get (calls_of r worker) j ≡ Some x → x.entry ≡ true → t.store ≡ x
one_entry r t none zero zero x at entry = ap (λ (o : Option Item). unwrap_or o x) (sym (store_at r done (held 0) t) ∙ at)
one_entry r t none zero (suc zero) x at entry = absurd (false≢true (sym none ∙ (ap (λ (o : Option Item). (unwrap_or o t.load).entry) (sym (load_at r done (held 0) t) ∙ at) ∙ entry)))
one_entry r t none zero (suc (suc j)) x at entry = absurd (none-some x (ap (λ (xs : List Item). slice_get xs (suc (suc j))) (sym t.made) ∙ at))
one_entry r t none (suc worker) j x at entry = absurd (none-some x (ap (λ (xs : List Item). slice_get xs j) (sym (t.others worker)) ∙ at))

-- a history whose every entry is the store at its place has it alone
abbrev IsOne : List SharedEntry → ℕ → Type 0
IsOne history place = (e : SharedEntry) × (history ≡ e ∷ []) × (place ≡ 0)

alone : (history : List SharedEntry) (place : ℕ) (e : SharedEntry) → slice_get history place ≡ Some e → ((n : ℕ) (x : SharedEntry) → slice_get history n ≡ Some x → place ≡ n) → IsOne history place
alone [] place e at all = absurd (none-some e at)
alone (x ∷ []) place e at all = (x, refl, all 0 x refl)
alone (x ∷ (y ∷ history)) place e at all = absurd (omega (arith, all 0 x refl, all 1 y refl))

pub returns-clause-opening_state : goal.returns-clause-opening_state
returns-clause-opening_state c r explains =
    let t = two (λ outcome r lines are. ((c.scripts_without_tests_are_spelt_call_by_call.ensures plan r outcome lines refl).0 are).scripts) done (held 0) r explains in
    let start = contents_of plan in
    let law = explains.lawful.shared in
    let at_store = store_at r done (held 0) t in
    let at_load = load_at r done (held 0) t in
    let entry = c.each_entry_is_a_call.ensures.store_of_atomic start r.history (calls_of r) 0 0 0 (Int64 (pos 5)) t.store law at_store t.stores in
    let none = c.each_entry_is_a_call.ensures.load_of_atomic start r.history (calls_of r) 0 1 0 t.load law at_load t.loads in
    let there = c.each_entry_is_a_call.ensures.entry start r.history (calls_of r) 0 0 t.store law at_store entry in
    let places : (n : ℕ) (x : SharedEntry) → slice_get r.history n ≡ Some x → t.store.place ≡ n = λ n x at.
    let call = c.each_entry_is_a_call.ensures.call start r.history (calls_of r) n x law at in
    ap (λ (i : Item). i.place) (one_entry r t none x.caller call.0 call.1 call.2 call.3) ∙ call.4 in
    let one = alone r.history t.store.place there.0 there.1 places in
    let before = c.a_callers_calls_are_in_order.ensures.below start r.history (calls_of r) 0 0 1 t.store t.load law (omega arith) at_store at_load entry in
    let within = (law.sound 0 1 t.load at_load).place in
    let long : length r.history ≡ 1 = ap (λ (h : List SharedEntry). length h) one.1 in
    let stored : one.0.call ≡ t.store.call = ap (λ (o : Option SharedEntry). (unwrap_or o there.0).call) (ap (λ (h : List SharedEntry). slice_get h 0) (sym one.1) ∙ (ap (slice_get r.history) (sym one.2) ∙ there.1)) ∙ there.3 in
    let right = c.a_load_finds_the_last_store.ensures.atomic start [] [] [] one.0 (calls_of r) 0 1 0 (Int64 (pos 5)) t.load
    (subst (λ (h : List SharedEntry). Lawful start h (calls_of r)) one.1 law) at_load (omega (arith, before, within, long, one.2)) t.loads (stored ∙ t.stores) (λ k d within. absurd (omega (arith, within))) (omega arith) in
    let n : 0 ≡ 5 = ap shown_by t.second_is ∙ (ap shown_in (sym t.load_reply) ∙ ap shown_in right) in
    absurd (omega (arith, n))
