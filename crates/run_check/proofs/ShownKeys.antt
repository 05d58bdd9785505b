-- A cursor that keeps the Range law shows no key but the workload's.
use Rattle.std.proofs.Common.{◌≡◌, ℕ, length, Some, slice_get, refl, sym, ap, ◌∙◌, subst}
use Rattle.std.proofs.lemmas.Option.{same_Some}
use Rattle.sync_model.specs.declared.item.Item.{Item}
use Rattle.sync_model.specs.declared.item.SharedCall.{SharedCall}
use Rattle.sync_model.specs.declared.item.SharedCall.TheVariants.{Map, Begin, Next, Atomic}
use Rattle.sync_model.specs.declared.item.SharedEntry.{SharedEntry}
use Rattle.sync_model.specs.declared.item.SharedReply.{SharedReply}
use Rattle.sync_model.specs.declared.item.SharedReply.TheVariants as replies
use Rattle.sync_model.specs.SharedHistory.{Contents, IsReply, contents_at, entry_of}
use Rattle.workload.specs.Keys.{keys_in}
use Rattle.workload.specs.Plan.{Plan}
use Rattle.run_record.specs.Objects.{contents_of}
use Rattle.run_record.specs.Record.{calls_of}
use Rattle.record_text.specs.Told.{Told}
use Rattle.record_clauses.specs.Account.{Account, Claim, record_of}
use Rattle.record_clauses.specs.Clauses.{HasRanges, IsLegallyPlaced}
use Rattle.record_clauses.specs.PairOrder.{ShowKeys}
use Rattle.run_check.specs.Tells.{Tells}
use Rattle.run_check.proofs.KeyedCalls.{AreNumbered, KnowsKey, LeaveOthers, OnlyClears, keys_at, told_known}

-- only a step of a cursor is answered by a pair
a_step_shows : (call : SharedCall) (reply : SharedReply) (contents : Contents) (pair : ℕ × ℕ) → IsReply call reply contents → reply ≡ replies.Shown (Some pair) → (begin : ℕ) × (call ≡ Next begin)
a_step_shows (Map m call) reply contents pair is shown = absurd (let clash = sym is ∙ shown in cc)
a_step_shows (Begin m) reply contents pair is shown = absurd (let clash = sym is ∙ shown in cc)
a_step_shows (Next begin) reply contents pair is shown = (begin, refl)
a_step_shows (Atomic a call) reply contents pair is shown = absurd (let clash = sym is ∙ shown in cc)

module _ (leaves : LeaveOthers) (clears : OnlyClears) (told : Told) (claim : Claim) (tells : Tells told claim) (are : AreNumbered claim.plan) (account : Account) (legal : IsLegallyPlaced claim account) where
  abbrev keys : ℕ
  keys = length (keys_in claim.plan.scripts)

  known : (worker i : ℕ) (x : Item) → slice_get (calls_of (record_of claim account) worker) i ≡ Some x → KnowsKey keys x.call
  known worker i x at =
      subst (λ (p : Plan). KnowsKey (length (keys_in p.scripts)) x.call) (sym tells.plan) (told_known told claim tells (subst (λ (p : Plan). AreNumbered p) tells.plan are) account worker i x at)

  entries_known : (n : ℕ) (entry : SharedEntry) → slice_get account.history n ≡ Some entry → KnowsKey keys entry.call
  entries_known n entry at =
      let (j, x, there, marked, place) = legal.entries.called n entry at in
      let mine : Some (entry_of entry.caller x) ≡ Some entry = sym (legal.entries.entered entry.caller j x there marked) ∙ ap (λ (k : ℕ). slice_get account.history k) place ∙ at in
      subst (λ (e : SharedEntry). KnowsKey keys e.call) (same_Some (entry_of entry.caller x) entry mine) (known entry.caller j x there)

  pub shows_keys : HasRanges claim account → (worker : ℕ) → ShowKeys (keys_in claim.plan.scripts) (calls_of (record_of claim account) worker)
  shows_keys ranges worker i x pair at shown =
      let (b, step) = a_step_shows x.call x.reply (contents_at (contents_of claim.plan) account.history x.place) pair (legal.placed worker i x at).reply shown in
      let (begin, m, before, there, begins) = (ranges.begun worker i x at).begun b step in
      let so = (ranges.shown worker b m begin there begins i x (Some pair) (record { at = at; call = step; reply = shown })).1 in
      keys_at keys leaves clears _ _ account.history entries_known so.moment m pair.0 pair.1 so.is
