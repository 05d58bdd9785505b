-- What a caller tells by an entry of its own, and what it knows by an entry that acquires.
use Rattle.std.proofs.Common.{◌≡◌, ◌⊎◌, inl, inr, ℕ, zero, suc, ◌<◌, ◌≤◌, Bool, true, false, List, [], ◌∷◌, ◌++◌, length, Some, slice_get, refl, sym, ap, ◌∙◌, subst, arith}
use Rattle.std.proofs.lemmas.Bool.{false≢true}
use Rattle.std.proofs.lemmas.Option.{slice_get_within, none-some, same_Some}
use Rattle.sync_model.specs.declared.journal.Deed.{Deed}
use Rattle.sync_model.specs.declared.journal.Entry.{Entry}
use Rattle.sync_model.specs.Front.{Front, AtLeast, NoLess}
use Rattle.sync_model.specs.Journal.{is_such, front_at, KeepsEdges, Rising}
use Rattle.ruled_object.specs.declared.pass.Pass.{Pass}
use Rattle.ruled_object.specs.Growth.{Placed, Grows, Leads, deeds_of, entries_of}
use Rattle.ruled_object.specs.Passes.{own_by, seen_by}
use Rattle.synced_map.specs.Telling.{KnowsBy, Tells}

module _ {A : Type 0} where
  pub at_end : (xs : List A) (z : A) → slice_get (xs ++ z ∷ []) (length xs) ≡ Some z
  at_end [] z = refl
  at_end (x ∷ xs) z = at_end xs z

  -- an item of a list with one more is one of the list, or the last
  old_or_last : (xs : List A) (z x : A) (i : ℕ) → slice_get (xs ++ z ∷ []) i ≡ Some x → (slice_get xs i ≡ Some x) ⊎ (z ≡ x)
  old_or_last [] z x zero at = inr (same_Some z x at)
  old_or_last [] z x (suc i) at = absurd (none-some x at)
  old_or_last (y ∷ xs) z x zero at = inl at
  old_or_last (y ∷ xs) z x (suc i) at = old_or_last xs z x i at

module _ {E R : Type 0} where
  -- the last of a caller's new entries is the last that it has seen
  ends_with : (seen now : List (Entry E R)) (es : List (Placed E R)) (p : Placed E R) → Leads seen (es ++ p ∷ []) now → now ≡ p.before ++ p.entry ∷ []
  ends_with seen now [] p leads = leads.2
  ends_with seen now (q ∷ es) p leads = ends_with (q.before ++ q.entry ∷ []) now es p leads.2

  -- what its last entry knew, the caller knows
  knows_last : (from to : Front) (es : List (Placed E R)) (p : Placed E R) → Rising from (entries_of (es ++ p ∷ [])) to → NoLess to (front_at p.entry)
  knows_last from to [] p rising = rising.1
  knows_last from to (q ∷ es) p rising = knows_last (front_at q.entry) to es p rising.1

  -- entries whose deeds end with this one end with an entry of it
  pub record EndsBy (es : List (Placed E R)) (d : Deed E R) : Type 0 where
    pub first : List (Placed E R)
    pub last : Placed E R
    pub parts : es ≡ first ++ last ∷ []
    pub deed : last.entry.deed ≡ d

  pub ends_by : (es : List (Placed E R)) (ds : List (Deed E R)) (d : Deed E R) → deeds_of es ≡ ds ++ d ∷ [] → EndsBy es d
  ends_by [] [] d is = cc
  ends_by [] (x ∷ ds) d is = cc
  ends_by (p ∷ []) [] d is = record { first = []; last = p; parts = refl; deed = cc }
  ends_by (p ∷ (q ∷ es)) [] d is = cc
  ends_by (p ∷ es) (x ∷ ds) d is =
      let rest : EndsBy es d = ends_by es ds d cc in
      record { first = p ∷ rest.first; last = rest.last; parts = ap (λ qs. p ∷ qs) rest.parts; deed = rest.deed }

module _ {S N E R : Type 0} (next : S → ℕ → E → S × R) (halts : Bool) (lets_go takes : E → R → Bool) (start : S) where
  -- who has just made an acquiring entry, and no other behind it, knows what each releasing one knew
  pub knows_by : (old new : Pass S N E R) (from to : Front) (es : List (Placed E R)) (ds : List (Deed E R)) (d : Deed E R)
      → Grows next halts start old from es new to → KeepsEdges lets_go takes (seen_by new) → deeds_of es ≡ ds ++ d ∷ [] → is_such takes d ≡ true → is_such lets_go d ≡ false
      → KnowsBy lets_go new to.counts
  knows_by old new from to es ds d grows edges is acquires no_release i x at releases = by_cases (old_or_last last.before last.entry x i (subst (λ xs. slice_get xs i ≡ Some x) now at)) where
    end : EndsBy es d
    end = ends_by es ds d is

    last : Placed E R
    last = end.last

    now : seen_by new ≡ last.before ++ last.entry ∷ []
    now = ends_with (seen_by old) (seen_by new) end.first last (subst (λ ps. Leads (seen_by old) ps (seen_by new)) end.parts grows.history)

    known : NoLess to (front_at last.entry)
    known = knows_last from to end.first last (subst (λ ps. Rising from (entries_of ps) to) end.parts grows.fronts)

    by_cases : (slice_get last.before i ≡ Some x) ⊎ (last.entry ≡ x) → AtLeast to.counts x.front
    by_cases (inl before) caller =
        let below = slice_get_within last.before i x before in
        let edge = edges i (length last.before) x last.entry (omega (arith, below)) at (subst (λ xs. slice_get xs (length last.before) ≡ Some last.entry) (sym now) (at_end last.before last.entry)) releases (ap (λ e. is_such takes e) end.deed ∙ acquires) caller in
        let more = known.0 caller in
        omega (arith, edge, more)
    by_cases (inr same) caller = absurd (false≢true (sym no_release ∙ sym (ap (λ e. is_such lets_go e) end.deed) ∙ ap (λ (e : Entry E R). is_such lets_go e.deed) same ∙ releases))

  -- who made one entry tells by it of all that it knew
  pub tells_by : (old new : Pass S N E R) (from to : Front) (es : List (Placed E R)) (d : Deed E R)
      → Grows next halts start old from es new to → deeds_of es ≡ d ∷ [] → is_such lets_go d ≡ true → Tells lets_go from.counts old new
  tells_by old new from to [] d grows is such = cc
  tells_by old new from to (p ∷ []) d grows is such = record { entry = p.entry; mine = grows.mine; is_such = subst (λ e. is_such lets_go e ≡ true) (cc) such; tells = grows.fronts.0.0 }
  tells_by old new from to (p ∷ (q ∷ es)) d grows is such = cc
