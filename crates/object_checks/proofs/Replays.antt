-- A journal followed by its machine, entry by entry.
use Rattle.std.proofs.Common.{◌≡◌, ◌↔◌, ℕ, ◌+◌, true, List, [], ◌∷◌, map, drop, get_or, Option, Some, None, slice_get, refl, sym, ap, ◌∙◌, subst, arith, length, ◌≤◌}
use Rattle.std.proofs.lemmas.List.{drop_more, drop_all}
use Rattle.std.proofs.lemmas.Option.{slice_get_within, get_or_from_slice_get}
use Rattle.std.proofs.Math.Nat.{suc-ne-zero}
use Rattle.sync_types.specs.declared.misuse.Misuse.{Misuse}
use Rattle.sync_model.specs.declared.journal.Deed.{Deed}
use Rattle.sync_model.specs.declared.journal.Deed.TheVariants.{Event, Refused, Halt}
use Rattle.sync_model.specs.declared.journal.Entry.{Entry}
use Rattle.sync_model.specs.Journal.{Right, Follows, state_next, halt_next}
use Rattle.run_record.specs.declared.entered.ObjectEvent.{ObjectEvent}
use Rattle.run_record.specs.declared.entered.ObjectReply.{ObjectReply}
use Rattle.run_record.specs.Parts.{lifted, lifted_deed}
use Rattle.run_record.specs.Record.{ObjectEntry}
use Rattle.object_checks.specs.declared.journals.row.Row.{Row}
use Rattle.object_checks.specs.JournalItems.{entry_in}

-- a list from one of its places on
pub from_place : {A : Type 0} (xs : List A) (i : ℕ) (x : A) → slice_get xs i ≡ Some x → drop i xs ≡ x ∷ drop (i + 1) xs
from_place xs i x at = drop_more xs i x (slice_get_within xs i x at) ∙ ap (λ z. z ∷ drop (i + 1) xs) (get_or_from_slice_get xs i x x at)

module _ {S E R : Type 0} (event : E → ObjectEvent) (reply : R → ObjectReply) (next : S → ℕ → E → S × R) where
  -- entries follow the machine from a state, where a misuse may stand
  abbrev pub FollowsOn : S → Option Misuse → List ObjectEntry → Type 0
  FollowsOn state halted journal = (own : List (Entry E R)) × (journal ≡ map (lifted event reply) own) × Follows next true state halted own

  -- all rows follow exactly where those from a place on do, at what the others leave
  abbrev pub LeadsTo : S → List Row → ℕ → S → Option Misuse → Type 0
  LeadsTo start rows i state halted = FollowsOn start None (map entry_in rows) ↔ FollowsOn state halted (map entry_in (drop i rows))

module _ {E R : Type 0} (event : E → ObjectEvent) (reply : R → ObjectReply)
    (same_events : (a b : E) → event a ≡ event b → a ≡ b) (same_replies : (a b : R) → reply a ≡ reply b → a ≡ b) where
  abbrev event_or : ObjectEvent → Deed ObjectEvent ObjectReply → ObjectEvent
  event_or d (Event e r) = e
  event_or d (Refused e m) = e
  event_or d (Halt m) = d

  abbrev reply_or : ObjectReply → Deed ObjectEvent ObjectReply → ObjectReply
  reply_or d (Event e r) = r
  reply_or d (Refused e m) = d
  reply_or d (Halt m) = d

  abbrev misuse_or : Misuse → Deed ObjectEvent ObjectReply → Misuse
  misuse_or d (Event e r) = d
  misuse_or d (Refused e m) = m
  misuse_or d (Halt m) = m

  -- which of the three a deed is
  abbrev form : Deed ObjectEvent ObjectReply → ℕ
  form (Event e r) = 0
  form (Refused e m) = 1
  form (Halt m) = 2

  -- a kind's deed is one as a deed of whatever kind
  pub one_deed : (a b : Deed E R) → lifted_deed event reply a ≡ lifted_deed event reply b → a ≡ b
  one_deed (Event e r) (Event f s) same = ap (λ x. Event x r) (same_events e f (ap (event_or (event e)) same)) ∙ ap (λ x. Event f x) (same_replies r s (ap (reply_or (reply r)) same))
  one_deed (Event e r) (Refused f m) same = absurd (let e : 0 ≡ 1 = ap form same in omega (arith, e))
  one_deed (Event e r) (Halt m) same = absurd (let e : 0 ≡ 2 = ap form same in omega (arith, e))
  one_deed (Refused e m) (Event f s) same = absurd (let e : 1 ≡ 0 = ap form same in omega (arith, e))
  one_deed (Refused e m) (Refused f n) same = ap (λ x. Refused x m) (same_events e f (ap (event_or (event e)) same)) ∙ ap (λ x. Refused f x) (ap (misuse_or m) same)
  one_deed (Refused e m) (Halt n) same = absurd (let e : 1 ≡ 2 = ap form same in omega (arith, e))
  one_deed (Halt m) (Event f s) same = absurd (let e : 2 ≡ 0 = ap form same in omega (arith, e))
  one_deed (Halt m) (Refused f n) same = absurd (let e : 2 ≡ 1 = ap form same in omega (arith, e))
  one_deed (Halt m) (Halt n) same = ap (λ x. Halt x) (ap (misuse_or m) same)

  module _ {S : Type 0} (next : S → ℕ → E → S × R) where
    abbrev On : S → Option Misuse → List ObjectEntry → Type 0
    On = FollowsOn event reply next

    pub none_left : (state : S) (halted : Option Misuse) → On state halted []
    none_left state halted = ([], refl, tt)

    module _ (x : ObjectEntry) (rest : List ObjectEntry) (state : S) (halted : Option Misuse) where
      -- the first entry is right, and the others follow at what it leaves
      abbrev IsFirst : Deed E R → Type 0
      IsFirst deed = (x.deed ≡ lifted_deed event reply deed) × Right next true state halted x.caller deed × On (state_next next state x.caller deed) (halt_next halted deed) rest

      pub first_of : On state halted (x ∷ rest) → (deed : Deed E R) × IsFirst deed
      first_of ([], same, follows) = absurd (suc-ne-zero (length rest) (ap length same))
      first_of (y ∷ own, same, (right, follows)) =
          let callers : x.caller ≡ y.caller = ap (λ (l : List ObjectEntry). (get_or l 0 x).caller) same in
          let deeds : x.deed ≡ lifted_deed event reply y.deed = ap (λ (l : List ObjectEntry). (get_or l 0 x).deed) same in (
            y.deed,
            (
              deeds,
              subst (λ c. Right next true state halted c y.deed) (sym callers) right,
              (own, ap (drop 1) same, subst (λ c. Follows next true (state_next next state c y.deed) (halt_next halted y.deed) own) (sym callers) follows),
            ),
          )

      with_first : (deed : Deed E R) → IsFirst deed → On state halted (x ∷ rest)
      with_first deed (is, right, (own, same, follows)) = (
        record { caller = x.caller; deed = deed; front = x.front; knew = x.knew; time = x.time } ∷ own,
        ap (λ (d : Deed ObjectEvent ObjectReply). record x { deed = d } ∷ rest) is ∙ ap (λ (l : List ObjectEntry). record x { deed = lifted_deed event reply deed } ∷ l) same,
        (right, follows),
      )

      -- an entry that is right is passed over: all follow exactly where the others do
      pub passed : (deed : Deed E R) → x.deed ≡ lifted_deed event reply deed → Right next true state halted x.caller deed
          → (new : S) (then_ : Option Misuse) → new ≡ state_next next state x.caller deed → then_ ≡ halt_next halted deed
          → (On state halted (x ∷ rest) ↔ On new then_ rest)
      passed deed is right new then_ to_state to_halt = (on, back) where
        there : On (state_next next state x.caller deed) (halt_next halted deed) rest → On new then_ rest
        there follows = subst (λ (h : Option Misuse). On new h rest) (sym to_halt) (subst (λ (s : S). On s (halt_next halted deed) rest) (sym to_state) follows)

        on : On state halted (x ∷ rest) → On new then_ rest
        on follows =
            let f = first_of follows in
            let same : f.0 ≡ deed = one_deed f.0 deed (sym f.1.0 ∙ is) in
            there (subst (λ (d : Deed E R). On (state_next next state x.caller d) (halt_next halted d) rest) same f.1.2)

        back : On new then_ rest → On state halted (x ∷ rest)
        back follows = with_first deed (is, right, subst (λ (h : Option Misuse). On (state_next next state x.caller deed) h rest) to_halt (subst (λ (s : S). On s then_ rest) to_state follows))

    module _ (start : S) (rows : List Row) (i : ℕ) (row : Row) (at : slice_get rows i ≡ Some row) (state : S) (halted : Option Misuse) (leads : LeadsTo event reply next start rows i state halted) where
      opened : map entry_in (drop i rows) ≡ entry_in row ∷ map entry_in (drop (i + 1) rows)
      opened = ap (map entry_in) (from_place rows i row at)

      pub leads_on : (deed : Deed E R) → row.item.now.deed ≡ lifted_deed event reply deed → Right next true state halted row.caller deed
          → (new : S) (then_ : Option Misuse) → new ≡ state_next next state row.caller deed → then_ ≡ halt_next halted deed → LeadsTo event reply next start rows (i + 1) new then_
      leads_on deed is right new then_ to_state to_halt =
          let pass = passed (entry_in row) (map entry_in (drop (i + 1) rows)) state halted deed is right new then_ to_state to_halt in (
            λ follows. pass.0 (subst (On state halted) opened (leads.0 follows)),
            λ follows. leads.1 (subst (On state halted) (sym opened) (pass.1 follows)),
          )

      pub leads_nowhere : ((deed : Deed E R) → row.item.now.deed ≡ lifted_deed event reply deed → Right next true state halted row.caller deed → ⊥) → On start None (map entry_in rows) → ⊥
      leads_nowhere wrong follows =
          let f = first_of (entry_in row) (map entry_in (drop (i + 1) rows)) state halted (subst (On state halted) opened (leads.0 follows)) in
          wrong f.0 f.1.0 f.1.1

    pub leads_all : (start : S) (rows : List Row) (i : ℕ) (state : S) (halted : Option Misuse) → length rows ≤ i → LeadsTo event reply next start rows i state halted → On start None (map entry_in rows)
    leads_all start rows i state halted all leads = leads.1 (subst (λ (l : List Row). On state halted (map entry_in l)) (sym (drop_all i rows all)) (none_left state halted))
