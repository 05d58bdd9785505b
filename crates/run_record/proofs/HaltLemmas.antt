-- Halts and refusals in journals.
use Rattle.std.proofs.Common.{◌≡◌, ◌⊎◌, inl, inr, ℕ, Bool, true, false, List, [], ◌∷◌, Option, Some, None, refl, sym, ap, ◌∙◌, subst}
use Rattle.std.specs.Prelude.{unwrap_or}
use Rattle.std.proofs.lemmas.Bool.{false≢true}
use Rattle.std.proofs.lemmas.Option.{none-some, slice_get_within, get_or_from_slice_get}
use Rattle.sync_model.specs.declared.journal.Deed.{Deed}
use Rattle.sync_model.specs.declared.journal.Deed.TheVariants.{Event, Refused, Halt}
use Rattle.sync_model.specs.declared.journal.Entry.{Entry}
use Rattle.sync_types.specs.declared.misuse.Misuse.{Misuse}
use Rattle.sync_model.specs.Journal.{halt_next, halt_after, state_next, Right, Follows}
use Rattle.workload.specs.declared.object.ObjectKind.{ObjectKind}
use Rattle.workload.specs.declared.object.ObjectKind.TheVariants as kinds
use Rattle.workload.specs.Plan.{Plan}
use Rattle.run_record.specs.declared.entered.ObjectEvent.{ObjectEvent}
use Rattle.run_record.specs.declared.entered.ObjectEvent.TheVariants as event
use Rattle.run_record.specs.declared.entered.ObjectReply.{ObjectReply}
use Rattle.run_record.specs.declared.entered.ObjectReply.TheVariants as reply
use Rattle.run_record.specs.Calls.{IsJournalOf}
use Rattle.run_record.specs.Explains.{IsRecordOf}
use Rattle.run_record.specs.Journals.{IsStops, FollowsFrom}
use Rattle.run_record.specs.Parts.{lifted, lifted_deed}
use Rattle.run_record.specs.Record.{Record, ObjectEntry, stop, journal_of}
use Rattle.run_record.proofs.Having.{Has, has_mapped, has_map, place_of}
use Rattle.run_record.proofs.NumberLemmas.{each_journal}
use Rattle.run_record.proofs.PartLemmas.{IsRefusal}

-- the entry halts its object by this misuse
abbrev pub IsHaltBy : Misuse → ObjectEntry → Type 0
IsHaltBy misuse entry = entry.deed ≡ Halt misuse

abbrev is_refused : Deed ObjectEvent ObjectReply → Bool
is_refused (Event e r) = false
is_refused (Refused e m) = true
is_refused (Halt m) = false

-- the misuse of a refusal or of a halt
abbrev pub misuse_in : Misuse → Deed ObjectEvent ObjectReply → Misuse
misuse_in other (Event e r) = other
misuse_in other (Refused e m) = m
misuse_in other (Halt m) = m

-- there is a halt where the first one is this
pub halted_has : (m : Misuse) (h : Option Misuse) (xs : List ObjectEntry) → halt_after h xs ≡ Some m → (h ≡ Some m) ⊎ Has (IsHaltBy m) xs
halted_has m h [] is = inl is
halted_has m h (x ∷ xs) is = by_rest (halted_has m (halt_next h x.deed) xs is) where
  by_deed : (h : Option Misuse) (d : Deed ObjectEvent ObjectReply) → halt_next h d ≡ Some m → (h ≡ Some m) ⊎ (d ≡ Halt m)
  by_deed (Some k) d is = inl is
  by_deed None (Event e r) is = inl is
  by_deed None (Refused e k) is = inl is
  by_deed None (Halt k) is = inr (ap (λ (o : Option Misuse). let d : Deed ObjectEvent ObjectReply = Halt (unwrap_or o m) in d) is)

  either : (h ≡ Some m) ⊎ (x.deed ≡ Halt m) → (h ≡ Some m) ⊎ Has (IsHaltBy m) (x ∷ xs)
  either (inl before) = inl before
  either (inr here) = inr (inl here)

  by_rest : (halt_next h x.deed ≡ Some m) ⊎ Has (IsHaltBy m) xs → (h ≡ Some m) ⊎ Has (IsHaltBy m) (x ∷ xs)
  by_rest (inl next) = either (by_deed h x.deed next)
  by_rest (inr later) = inr (inr later)

-- and none where there is no first one
pub unhalted_has : (m : Misuse) (h : Option Misuse) (xs : List ObjectEntry) → halt_after h xs ≡ None → Has (IsHaltBy m) xs → ⊥
unhalted_has m h [] is has = has
unhalted_has m h (x ∷ xs) is (inl here) = absurd (stays xs (halts h) (subst (λ (d : Deed ObjectEvent ObjectReply). halt_after (halt_next h d) xs ≡ None) here is)) where
  stays : (xs : List ObjectEntry) {k : Option Misuse} → ((j : Misuse) × (k ≡ Some j)) → halt_after k xs ≡ None → ⊥
  stays [] {k} some none = none-some some.0 (sym none ∙ some.1)
  stays (y ∷ ys) {k} some none = stays ys (goes_on k y.deed some) none where
    goes_on : (k : Option Misuse) (d : Deed ObjectEvent ObjectReply) → ((j : Misuse) × (k ≡ Some j)) → (j : Misuse) × (halt_next k d ≡ Some j)
    goes_on (Some i) d some = (i, refl)
    goes_on None d some = absurd (none-some some.0 some.1)

  halts : (h : Option Misuse) → (j : Misuse) × (halt_next {E = ObjectEvent} {R = ObjectReply} h (Halt m) ≡ Some j)
  halts (Some k) = (k, refl)
  halts None = (m, refl)
unhalted_has m h (x ∷ xs) is (inr later) = unhalted_has m (halt_next h x.deed) xs is later

module _ {S E R : Type 0} (event : E → ObjectEvent) (reply : R → ObjectReply) (next : S → ℕ → E → S × R) where
  -- whoever is refused comes behind a halt
  refused_here : (m : Misuse) (s : S) (h : Option Misuse) (c : ℕ) (d : Deed E R) → Right next true s h c d → (e : ObjectEvent) × (lifted_deed event reply d ≡ Refused e m) → h ≡ Some m
  refused_here m s h c (Event e r) right is = absurd (false≢true (ap is_refused is.1))
  refused_here m s h c (Refused e k) right is = right ∙ ap (λ (d : Deed ObjectEvent ObjectReply). Some (misuse_in m d)) is.1
  refused_here m s h c (Halt k) right is = absurd (false≢true (ap is_refused is.1))

  halted_next : (m : Misuse) (h : Option Misuse) (d : Deed E R) → halt_next h d ≡ Some m → (h ≡ Some m) ⊎ (lifted_deed event reply d ≡ Halt m)
  halted_next m (Some k) d is = inl is
  halted_next m None (Event e r) is = inl is
  halted_next m None (Refused e k) is = inl is
  halted_next m None (Halt k) is = inr (ap (λ (o : Option Misuse). let d : Deed ObjectEvent ObjectReply = Halt (unwrap_or o m) in d) is)

  refused_has : (m : Misuse) (s : S) (h : Option Misuse) (own : List (Entry E R)) → Follows next true s h own → Has (λ x. IsRefusal m (lifted event reply x)) own → (h ≡ Some m) ⊎ Has (λ x. IsHaltBy m (lifted event reply x)) own
  refused_has m s h [] follows has = absurd has
  refused_has m s h (x ∷ own) follows (inl here) = inl (refused_here m s h x.caller x.deed follows.0 here)
  refused_has m s h (x ∷ own) follows (inr later) = by_rest (refused_has m (state_next next s x.caller x.deed) (halt_next h x.deed) own follows.1 later) where
    either : (h ≡ Some m) ⊎ (lifted_deed event reply x.deed ≡ Halt m) → (h ≡ Some m) ⊎ Has (λ x. IsHaltBy m (lifted event reply x)) (x ∷ own)
    either (inl before) = inl before
    either (inr here) = inr (inl here)

    by_rest : (halt_next h x.deed ≡ Some m) ⊎ Has (λ x. IsHaltBy m (lifted event reply x)) own → (h ≡ Some m) ⊎ Has (λ x. IsHaltBy m (lifted event reply x)) (x ∷ own)
    by_rest (inl then_halted) = either (halted_next m h x.deed then_halted)
    by_rest (inr rest) = inr (inr rest)

  of_follows : (m : Misuse) (frees takes : E → R → Bool) (s : S) (journal : List ObjectEntry) → FollowsFrom event reply next frees takes s journal → Has (IsRefusal m) journal → Has (IsHaltBy m) journal
  of_follows m frees takes s journal (own, is, follows, edges) has =
      subst (λ (xs : List ObjectEntry). Has (IsHaltBy m) xs) (sym is) (has_map (lifted event reply) (IsHaltBy m) own (by_halt (refused_has m s None own follows (has_mapped (lifted event reply) (IsRefusal m) own (subst (λ (xs : List ObjectEntry). Has (IsRefusal m) xs) is has))))) where
        by_halt : (None ≡ Some m) ⊎ Has (λ x. IsHaltBy m (lifted event reply x)) own → Has (λ x. IsHaltBy m (lifted event reply x)) own
        by_halt (inl none) = absurd (none-some m none)
        by_halt (inr halts) = halts

of_kind : (m : Misuse) (plan : Plan) (place : ℕ) (kind : ObjectKind) (journal : List ObjectEntry) → IsJournalOf plan place kind journal → Has (IsRefusal m) journal → Has (IsHaltBy m) journal
of_kind m plan place kinds.Map journal is has = absurd (subst (λ (xs : List ObjectEntry). Has (IsRefusal m) xs) is has)
of_kind m plan place (kinds.Atomic type) journal is has = absurd (subst (λ (xs : List ObjectEntry). Has (IsRefusal m) xs) is has)
of_kind m plan place kinds.Mutex journal is has = of_follows event.Mutex reply.Mutex _ m _ _ _ journal is has
of_kind m plan place kinds.RwMutex journal is has = of_follows event.RwMutex reply.RwMutex _ m _ _ _ journal is has
of_kind m plan place (kinds.Cond mutex) journal is has = of_follows event.Cond reply.Cond _ m _ _ _ journal is has
of_kind m plan place (kinds.WaitGroup start) journal is has = of_follows event.WaitGroup reply.WaitGroup _ m _ _ _ journal is has
of_kind m plan place (kinds.Once atomic delta) journal is has = of_follows event.Once reply.Once _ m _ _ _ journal is has
of_kind m plan place (kinds.OnceFunc code) journal is has = of_follows event.OnceFunc reply.OnceFunc _ m _ _ _ journal is has
of_kind m plan place (kinds.OnceValue value) journal is has = of_follows event.OnceValue reply.OnceValue _ m _ _ _ journal is has
of_kind m plan place kinds.Pool journal is has = absurd (subst (λ (xs : List ObjectEntry). Has (IsRefusal m) xs) is has)
of_kind m plan place (kinds.Sema size) journal is has = of_follows event.Sema reply.Sema _ m _ _ _ journal is has
of_kind m plan place (kinds.Flight atomic delta) journal is has = of_follows event.Flight reply.Flight _ m _ _ _ journal is has
of_kind m plan place kinds.Var journal is has = absurd (subst (λ (xs : List ObjectEntry). Has (IsRefusal m) xs) is has)

of_stop : (m : Misuse) (journal : List ObjectEntry) → IsStops journal → Has (IsRefusal m) journal → ⊥
of_stop m journal stops has = let at = place_of (IsRefusal m) journal has in
    let halt : (k : Misuse) × (at.1.deed ≡ Halt k) = subst (λ (e : ObjectEntry). (k : Misuse) × (e.deed ≡ Halt k)) (get_or_from_slice_get journal at.0 at.1 at.1 at.2) (stops at.0 at.1 (slice_get_within journal at.0 at.1 at.2)) in
    false≢true (ap is_refused (sym halt.1 ∙ at.3.1))

module _ (plan : Plan) (r : Record) (lawful : IsRecordOf plan r) where
  -- whatever the object, whoever is refused comes behind a halt by the same misuse
  pub refusal_has : (m : Misuse) (object : ℕ) → Has (IsRefusal m) (journal_of r object) → Has (IsHaltBy m) (journal_of r object)
  refusal_has m object = each_journal plan r lawful (λ journal. Has (IsRefusal m) journal → Has (IsHaltBy m) journal) (λ has. absurd has)
      (λ stops has. absurd (of_stop m (journal_of r stop) stops has))
      (λ place kind journal is. of_kind m plan place kind journal is)
      (λ room journal is. of_follows event.Pool reply.Pool _ m _ _ _ journal is)
      (λ dormant journal is. of_follows event.Starts reply.Starts _ m _ _ _ journal is) object
