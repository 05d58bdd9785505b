-- A journal of maps and atomics that follows the machine is a legal shared history.
use Rattle.std.proofs.Common.{◌≡◌, ℕ, Bool, true, false, cond, List, [], ◌∷◌, Option, Some, None, refl, sym, ap, ◌∙◌, subst}
use Rattle.sync_types.specs.declared.misuse.Misuse.{Misuse}
use Rattle.sync_model.specs.declared.journal.Deed.{Deed}
use Rattle.sync_model.specs.declared.journal.Deed.TheVariants.{Event as Did, Refused, Halt}
use Rattle.sync_model.specs.declared.item.SharedCall.{SharedCall}
use Rattle.sync_model.specs.declared.item.SharedEntry.{SharedEntry}
use Rattle.sync_model.specs.Journal.{halt_next, state_next, state_after, Right, Follows}
use Rattle.sync_model.specs.SharedHistory.{Contents, IsReply, is_entry, shared_after, contents_after, IsLegal}
use Rattle.shared_plain.specs.declared.event.Event.{Event}
use Rattle.shared_plain.specs.declared.event.Answered.{Answered}
use Rattle.shared_plain.specs.PlainMachine.{Holdings, contents_of, call_of, next}
use Rattle.shared_plain.specs.PlainHistory.{Step, call_in, entered, history_of}
use Rattle.shared_plain.proofs.Steps.{some_is, made, unmade}
use Rattle.shared_plain.proofs.Replies.{replied, entered_is}

-- of a call that is no entry nothing is left
abbrev pub Unseen : Type 0
Unseen = (call : SharedCall) (contents : Contents) → is_entry call contents ≡ false → shared_after call contents ≡ contents

-- what is true where a shared call was made
pub record Was (s : Holdings) (caller : ℕ) (deed : Deed Event (Option Answered)) (did : SharedCall × Answered) : Type 0 where
  pub reply : IsReply did.0 did.1.reply (contents_of s)
  pub entry : did.1.entry ≡ is_entry did.0 (contents_of s)
  pub after : contents_of (state_next next s caller deed) ≡ shared_after did.0 (contents_of s)

module _ (s : Holdings) (caller : ℕ) where
  -- a deed that is no shared call leaves the state
  no_call : (halts : Bool) (h : Option Misuse) (deed : Deed Event (Option Answered)) → call_in deed ≡ None → Right next halts s h caller deed → state_next next s caller deed ≡ s
  no_call halts h (Did event None) none right = unmade s caller event (sym right.1)
  no_call halts h (Did event (Some answered)) none right = (cc)
  no_call halts h (Refused event misuse) none right = refl
  no_call halts h (Halt misuse) none right = refl

  -- a shared call is answered as the one-thread objects answer it
  pub a_call : (halts : Bool) (h : Option Misuse) (deed : Deed Event (Option Answered)) (did : SharedCall × Answered) → call_in deed ≡ Some did → Right next halts s h caller deed → Was s caller deed did
  a_call halts h (Did event None) did is right = (cc)
  a_call halts h (Did event (Some answered)) did is right =
      subst (Was s caller (Did event (Some answered))) (some_is (call_of event, answered) did is) record { reply = replied s caller event answered (sym right.1); entry = entered_is s caller event answered (sym right.1); after = made s caller event answered (sym right.1) }
  a_call halts h (Refused event misuse) did is right = (cc)
  a_call halts h (Halt misuse) did is right = (cc)

-- what one entry of a journal adds to a legal history
record Goes (s after : Contents) (later whole : List SharedEntry) : Type 0 where
  legal : IsLegal s whole
  contents : contents_after s whole ≡ contents_after after later

goes_on : Unseen → (s : Holdings) (caller : ℕ) (halts : Bool) (h : Option Misuse) (deed : Deed Event (Option Answered)) (found : Option (SharedCall × Answered)) → call_in deed ≡ found → Right next halts s h caller deed
    → (later : List SharedEntry) → IsLegal (contents_of (state_next next s caller deed)) later → Goes (contents_of s) (contents_of (state_next next s caller deed)) later (entered caller found later)
goes_on unseen s caller halts h deed None is right later legal =
    let same = no_call s caller halts h deed is right in record {
      legal = subst (λ (t : Holdings). IsLegal (contents_of t) later) same legal;
      contents = ap (λ (t : Holdings). contents_after (contents_of t) later) (sym same);
    }
goes_on unseen s caller halts h deed (Some did) is right later legal = by_entry did.1.entry refl
  where
    was : Was s caller deed did
    was = a_call s caller halts h deed did is right

    by_entry : (b : Bool) → did.1.entry ≡ b
        → Goes (contents_of s) (contents_of (state_next next s caller deed)) later (cond b (record { caller = caller; call = did.0; reply = did.1.reply } ∷ later) later)
    by_entry true e = record { legal = (sym was.entry ∙ e, was.reply, subst (λ (t : Contents). IsLegal t later) was.after legal); contents = ap (λ (t : Contents). contents_after t later) (sym was.after) }
    by_entry false e =
        let same : contents_of (state_next next s caller deed) ≡ contents_of s = was.after ∙ unseen did.0 (contents_of s) (sym was.entry ∙ e) in
        record { legal = subst (λ (t : Contents). IsLegal t later) same legal; contents = ap (λ (t : Contents). contents_after t later) (sym same) }

-- a journal that follows the machine is a legal history, and leaves what the history does
pub record IsHistory (s : Holdings) (journal : List Step) : Type 0 where
  pub legal : IsLegal (contents_of s) (history_of journal)
  pub contents : contents_of (state_after next s journal) ≡ contents_after (contents_of s) (history_of journal)

pub is_history : Unseen → (halts : Bool) (s : Holdings) (h : Option Misuse) (journal : List Step) → Follows next halts s h journal → IsHistory s journal
is_history unseen halts s h [] follows = record { legal = tt; contents = refl }
is_history unseen halts s h (x ∷ xs) follows =
    let t : Holdings = state_next next s x.caller x.deed in
    let rest = is_history unseen halts t (halt_next h x.deed) xs follows.1 in
    let on = goes_on unseen s x.caller halts h x.deed (call_in x.deed) refl follows.0 (history_of xs) rest.legal in
    record { legal = on.legal; contents = rest.contents ∙ sym on.contents }
