-- Acts that are answered where they are made make a legal history.
use Rattle.std.proofs.Common.{◌≡◌, ℕ, ◌≤◌, Bool, true, false, cond, List, [], ◌∷◌, ◌++◌, length, fold, Some, slice_get, refl, sym, ap, ◌∙◌, subst, arith}
use Rattle.std.proofs.lemmas.Option.{none-some}
use Rattle.sync_model.specs.declared.item.Item.{Item}
use Rattle.sync_model.specs.declared.item.SharedEntry.{SharedEntry}
use Rattle.sync_model.specs.SharedHistory.{Contents, contents_after, contents_at, IsReply, is_entry, shared_after, IsLegal, entry_of}
use Rattle.workload.specs.Plan.{Plan}
use Rattle.run_record.specs.declared.made.Made.{Made}
use Rattle.run_record.specs.declared.made.Made.TheVariants.{Shared, Entered}
use Rattle.run_record.specs.Objects.{contents_of}
use Rattle.kept_record.specs.Acts.{IsAnswered, contents_behind, AreAnswered}
use Rattle.kept_record.specs.Keeping.{Act, Account, entered, placed, with_made, with_act, opened, account_of}
use Rattle.kept_record.proofs.History.{calls_by, IsHistory, contents_still, with_begins, at_place, step}
use Rattle.kept_record.proofs.Induction.{calls_cases, calls_behind}
use Rattle.kept_record.proofs.ListLemmas.{each_more}

pub record AreLegal (plan : Plan) (kept : Account) : Type 0 where
  pub legal : IsLegal (contents_of plan) kept.history
  pub replies : (c j : ℕ) (x : Item) → slice_get (calls_by c kept) j ≡ Some x → IsReply x.call x.reply (contents_at (contents_of plan) kept.history x.place)

legal_more : (start : Contents) (history : List SharedEntry) (entry : SharedEntry) → IsLegal start history → is_entry entry.call (contents_after start history) ≡ true → IsReply entry.call entry.reply (contents_after start history)
    → IsLegal start (history ++ entry ∷ [])
legal_more start [] entry legal enters replies = (enters, replies, tt)
legal_more start (first ∷ history) entry legal enters replies = (legal.0, legal.1, legal_more (shared_after first.call start) history entry legal.2 enters replies)

-- ---- a call more

module _ (plan : Plan) (kept : Account) (worker : ℕ) (asked : Item) (history : IsHistory plan kept) (answered : IsReply asked.call asked.reply kept.contents) (now : AreLegal plan kept) where
  abbrev x : Item
  x = placed worker asked kept

  abbrev next : Account
  next = with_made worker (Shared asked) kept

  abbrev start : Contents
  start = contents_of plan

  legal : IsLegal start next.history
  legal = chosen x.entry refl where
    chosen : (b : Bool) → x.entry ≡ b → IsLegal start (cond b (kept.history ++ entry_of worker x ∷ []) kept.history)
    chosen true is = legal_more start kept.history (entry_of worker x) now.legal (ap (is_entry asked.call) (sym history.contents) ∙ is) (subst (λ (contents : Contents). IsReply asked.call asked.reply contents) history.contents answered)
    chosen false is = now.legal

  still : (c j : ℕ) (y : Item) → slice_get (calls_by c kept) j ≡ Some y → IsReply y.call y.reply (contents_at start next.history y.place)
  still c j y at = let grown = with_begins kept.history worker x in
      subst (λ (h : List SharedEntry). IsReply y.call y.reply (contents_at start h y.place)) (sym grown.1)
      (subst (λ (contents : Contents). IsReply y.call y.reply contents) (sym (contents_still start kept.history grown.0 y.place (history.places c j y at).place)) (now.replies c j y at))

  here : IsReply asked.call asked.reply (contents_at start next.history x.place)
  here = let grown = with_begins kept.history worker x in
      subst (λ (h : List SharedEntry). IsReply asked.call asked.reply (contents_at start h x.place)) (sym grown.1)
      (subst (λ (contents : Contents). IsReply asked.call asked.reply contents) (sym (contents_still start kept.history grown.0 (length kept.history) (same (length kept.history)) ∙ at_place plan kept worker asked history)) answered) where
        same : (n : ℕ) → n ≤ n
        same n = omega arith

  pub call_legal : AreLegal plan (with_made worker (Shared asked) kept)
  call_legal = record {
    legal = legal;
    replies = λ c. calls_cases (λ (l : List Item). (j : ℕ) (y : Item) → slice_get l j ≡ Some y → IsReply y.call y.reply (contents_at start next.history y.place)) c worker x kept.acts
        (λ same. each_more (λ (j : ℕ) (y : Item). IsReply y.call y.reply (contents_at start next.history y.place)) (calls_by c kept) x (still c) here) (λ apart. still c);
  }

made_step : (plan : Plan) (kept : Account) (worker : ℕ) (made : Made) → IsHistory plan kept → IsAnswered made kept.contents → AreLegal plan kept → AreLegal plan (with_made worker made kept)
made_step plan kept worker (Shared x) history answered now = call_legal plan kept worker x history answered now
made_step plan kept worker (Entered object entry) history answered now = record {
  legal = now.legal;
  replies = λ c j x at. now.replies c j x (ap (λ (l : List Item). slice_get l j) (sym (calls_behind c worker object (entered worker object entry kept) kept.acts)) ∙ at);
}

behind : (kept : Account) (worker : ℕ) (made : Made) → contents_behind made kept.contents ≡ (with_made worker made kept).contents
behind kept worker (Shared x) = refl
behind kept worker (Entered object entry) = refl

each_legal : (plan : Plan) (kept : Account) (acts : List Act) → IsHistory plan kept → AreLegal plan kept → AreAnswered kept.contents acts → AreLegal plan (fold with_act kept acts)
each_legal plan kept [] history now answered = now
each_legal plan kept (act ∷ acts) history now answered = each_legal plan (with_act kept act) acts (step plan kept act history) (made_step plan kept act.worker act.made history answered.0 now)
    (subst (λ (contents : Contents). AreAnswered contents acts) (behind kept act.worker act.made) answered.1)

pub all_legal : (plan : Plan) (acts : List Act) → IsHistory plan (opened plan) → AreAnswered (contents_of plan) acts → AreLegal plan (account_of plan acts)
all_legal plan acts history answered = each_legal plan (opened plan) acts history (record { legal = tt; replies = λ c j x at. absurd (none-some x at) }) answered

-- what they contain after all that was made
pub ends_with : (kept : Account) (acts : List Act) (P : Contents → Type 0) → P (fold with_act kept acts).contents → P (fold (λ contents act. contents_behind act.made contents) kept.contents acts)
ends_with kept [] P is = is
ends_with kept (act ∷ acts) P is = subst (λ (contents : Contents). P (fold (λ contents act. contents_behind act.made contents) contents acts)) (sym (behind kept act.worker act.made)) (ends_with (with_act kept act) acts P is)
