-- The passes of one object, and its journal in the words of the record.
use Rattle.std.proofs.Common.{◌≡◌, ◌⊎◌, inl, inr, ℕ, zero, suc, ◌+◌, ◌<◌, ◌≤◌, Bool, true, false, ◌==◌, cond, List, [], ◌∷◌, ◌++◌, map, length, get_or, Option, Some, None, slice_get, refl, sym, ap, subst, ◌∙◌, arith, length-append}
use Rattle.std.specs.Option.{option_map}
use Rattle.std.proofs.lemmas.Option.{none-some, same_Some, slice_get_within, slice_get_cases, slice_get-map}
use Rattle.sync_model.specs.declared.journal.Deed.{Deed}
use Rattle.sync_model.specs.declared.journal.Deed.TheVariants.{Event, Refused, Halt}
use Rattle.sync_model.specs.declared.journal.Entry.{Entry}
use Rattle.sync_types.specs.declared.misuse.Misuse.{Misuse}
use Rattle.sync_model.specs.Journal.{by, halt_next, halt_after, halt_of, TimesRise}
use Rattle.ruled_object.specs.declared.object.Object.{Object}
use Rattle.ruled_object.specs.declared.pass.Pass.{Pass}
use Rattle.ruled_object.specs.Gathered.{IsWhole, SameOwn}
use Rattle.ruled_object.specs.Passes.{number_of, own_by, start_of}
use Rattle.call_loop.specs.Between.{IsBetween, AreAllBetween}
use Rattle.run_record.specs.declared.entered.ObjectEvent.{ObjectEvent}
use Rattle.run_record.specs.declared.entered.ObjectReply.{ObjectReply}
use Rattle.run_record.specs.Parts.{lifted, lifted_deed}
use Rattle.run_record.specs.Record.{ObjectEntry}
use Rattle.thread_objects.specs.declared.pass.AnyPass.{AnyPass}
use Rattle.thread_objects.specs.declared.pass.AnyPass.TheVariants as passes
use Rattle.thread_objects.specs.Columns.{AreSeated, AreUntouched, AreParts, IsHistoryIn, JournalOf}
use Rattle.thread_objects.specs.Own.{own_as}
use Rattle.thread_objects.specs.EachKind.{Kind, own_in}
use Rattle.thread_objects.specs.ByKind.{own_of}
use Rattle.thread_objects.specs.Passes.{owns_of}
use Rattle.thread_objects.specs.Seats.{IsSeat}
use Rattle.thread_objects.proofs.ColumnLists.{in_front, added_at, fewer_by_one, got, got_none}

module _ {M N S E R H W : Type 0} (begins : ℕ → S → Type 0) (out : W) (move : W → E → R → W) (at : H → N → Type 0) (home : H) (workers : ℕ) (object : Object M N S E R H) where
  abbrev Seated : ℕ → List (Pass S N E R) → Type 0
  Seated count ps = AreSeated begins out move at home workers count object ps

  pub seat_at : (count worker : ℕ) (ps : List (Pass S N E R)) (pass : Pass S N E R) → Seated count ps → slice_get ps worker ≡ Some pass → IsSeat begins out move at home workers worker object pass
  seat_at count worker ps pass seated here = let each = seated.each worker pass here in record { begun = seated.begun; callers = seated.callers; homed = seated.homed; number = each.1; between = each.0 }

  pub without_last : (old new : List (Pass S N E R)) (last : Pass S N E R) (worker : ℕ) → old ≡ new ++ last ∷ [] → Seated (worker + 1) old → Seated worker new
  without_last old new last worker is seated = record {
    begun = seated.begun;
    callers = seated.callers;
    homed = seated.homed;
    sized = fewer_by_one old new last worker is seated.sized;
    each = λ i pass here. seated.each i pass (subst (λ (xs : List (Pass S N E R)). slice_get xs i ≡ Some pass) (sym is) (in_front new (last ∷ []) i pass here));
  }

  pub with_last : (old : List (Pass S N E R)) (last : Pass S N E R) (worker : ℕ) → Seated worker old → IsSeat begins out move at home workers worker object last → Seated (worker + 1) (old ++ last ∷ [])
  with_last old last worker seated seat = record {
    begun = seated.begun;
    callers = seated.callers;
    homed = seated.homed;
    sized = length-append old (last ∷ []) ∙ ap (λ n. n + 1) seated.sized;
    each = λ i pass here. either i pass (added_at old last pass i here);
  } where
    either : (i : ℕ) (pass : Pass S N E R) → (slice_get old i ≡ Some pass) ⊎ ((i ≡ length old) × (last ≡ pass)) → IsBetween out move object pass × (number_of pass ≡ i)
    either i pass (inl before) = seated.each i pass before
    either i pass (inr here) = subst (λ (p : Pass S N E R). IsBetween out move object p × (number_of p ≡ i)) here.1 (seat.between, seat.number ∙ sym seated.sized ∙ sym here.0)

  -- all of them
  pub all_of : (ps : List (Pass S N E R)) → Seated workers ps → AreAllBetween out move object ps
  all_of ps seated = record { count = seated.sized ∙ sym seated.callers; each = seated.each }

  pub seated_again : (old new : List (Pass S N E R)) → Seated workers old → AreAllBetween out move object new → Seated workers new
  seated_again old new seated all = record { begun = seated.begun; callers = seated.callers; homed = seated.homed; sized = all.count ∙ seated.callers; each = all.each }

module _ {S N E R : Type 0} (next : S → ℕ → E → S × R) (halts : Bool) (frees takes : E → R → Bool) (start : S) where
  -- all of the history was seen, and nothing was made
  pub same_own : (old new : List (Pass S N E R)) (journal : List (Entry E R)) → length new ≡ length old → IsWhole next halts frees takes start journal old → IsWhole next halts frees takes start journal new → SameOwn old new
  same_own old new journal sized before after i pass here = by_case (slice_get_cases old i).1 where
    by_case : ((x : Pass S N E R) × (i < length old) × (slice_get old i ≡ Some x) × (get_or old i x ≡ x)) ⊎ ((length old ≤ i) × (slice_get old i ≡ None)) → (x : Pass S N E R) × (slice_get old i ≡ Some x) × (own_by pass ≡ own_by x)
    by_case (inl (x, within, some, is)) = (x, some, after.owns i pass here ∙ sym (before.owns i x some))
    by_case (inr (past, none)) = absurd (omega (arith, past, sized, slice_get_within new i pass here))

-- a journal that is such a one, with this first halt, in which each worker's entries are those of its pass, and numbers rise
pub record IsTold {N : Type 0} (is : List ObjectEntry → Type 0) (first : Option Misuse) (all : List (AnyPass N)) : Type 0 where
  pub journal : List ObjectEntry
  pub of : is journal
  pub times : TimesRise journal
  pub halted : first ≡ halt_of journal
  pub parts : AreParts journal all

module _ {S N E R : Type 0} (pass_as : Pass S N E R → AnyPass N) (ps : List (Pass S N E R)) (worker : ℕ) where
  as_got : (pass : Pass S N E R) → slice_get ps worker ≡ Some pass → get_or (map pass_as ps) worker passes.None ≡ pass_as pass
  as_got pass here = got (map pass_as ps) worker (pass_as pass) passes.None (slice_get-map pass_as ps worker ∙ ap (λ (o : Option (Pass S N E R)). option_map pass_as o) here)

  as_none : slice_get ps worker ≡ None → get_or (map pass_as ps) worker passes.None ≡ passes.None
  as_none none = got_none (map pass_as ps) worker passes.None (slice_get-map pass_as ps worker ∙ ap (λ (o : Option (Pass S N E R)). option_map pass_as o) none)

module _ {E R : Type 0} (event : E → ObjectEvent) (reply : R → ObjectReply) where
  abbrev lift : List (Entry E R) → List ObjectEntry
  lift own = map (lifted event reply) own

  pub none_lifted : (own : List (Entry E R)) → own ≡ [] → lift own ≡ []
  none_lifted own none = ap (λ (xs : List (Entry E R)). lift xs) none

  halt_next_lifted : (h : Option Misuse) (d : Deed E R) → halt_next h (lifted_deed event reply d) ≡ halt_next h d
  halt_next_lifted (Some m) d = refl
  halt_next_lifted None (Event e r) = refl
  halt_next_lifted None (Refused e m) = refl
  halt_next_lifted None (Halt m) = refl

  halt_lifted : (h : Option Misuse) (own : List (Entry E R)) → halt_after h (lift own) ≡ halt_after h own
  halt_lifted h [] = refl
  halt_lifted h (x ∷ own) = ap (λ (k : Option Misuse). halt_after k (lift own)) (halt_next_lifted h x.deed) ∙ halt_lifted (halt_next h x.deed) own

  unlifted : (own : List (Entry E R)) (i : ℕ) (x : ObjectEntry) → slice_get (lift own) i ≡ Some x → (e : Entry E R) × (slice_get own i ≡ Some e) × (e.time ≡ x.time)
  unlifted [] i x at = absurd (none-some x at)
  unlifted (e ∷ own) zero x at = (e, refl, ap (λ (y : ObjectEntry). y.time) (same_Some (lifted event reply e) x at))
  unlifted (e ∷ own) (suc i) x at = unlifted own i x at

  pub times_lifted : (own : List (Entry E R)) → TimesRise own → TimesRise (lift own)
  times_lifted own times i j x y before first second =
      let earlier = unlifted own i x first in
      let later = unlifted own j y second in
      omega (arith, times i j earlier.0 later.0 before earlier.1 later.1, earlier.2, later.2)

  by_lifted : (c : ℕ) (own : List (Entry E R)) → by c (lift own) ≡ lift (by c own)
  by_lifted c [] = refl
  by_lifted c (x ∷ own) = here (x.caller == c) (by_lifted c own) where
    here : (b : Bool) → by c (lift own) ≡ lift (by c own) → cond b (lifted event reply x ∷ by c (lift own)) (by c (lift own)) ≡ lift (cond b (x ∷ by c own) (by c own))
    here true rest = ap (λ (xs : List ObjectEntry). lifted event reply x ∷ xs) rest
    here false rest = rest

  module _ {S N : Type 0} (pass_as : Pass S N E R → AnyPass N) (same : (pass : Pass S N E R) → own_of (pass_as pass) ≡ own_as event reply pass) (ps : List (Pass S N E R)) where
    -- what the worker of a pass made, and of nobody's
    pub owns_at : (worker : ℕ) (pass : Pass S N E R) → slice_get ps worker ≡ Some pass → owns_of (map pass_as ps) worker ≡ lift (own_by pass)
    owns_at worker pass here = ap (λ (p : AnyPass N). own_of p) (as_got pass_as ps worker pass here) ∙ same pass

    pub owns_past : (worker : ℕ) → slice_get ps worker ≡ None → owns_of (map pass_as ps) worker ≡ []
    owns_past worker none = ap (λ (p : AnyPass N). own_of p) (as_none pass_as ps worker none)

    parts_of : (next : S → ℕ → E → S × R) (halts : Bool) (frees takes : E → R → Bool) (start : S) (journal : List (Entry E R)) → IsWhole next halts frees takes start journal ps → AreParts (lift journal) (map pass_as ps)
    parts_of next halts frees takes start journal whole worker = by_case (slice_get_cases ps worker).1 where
      by_case : ((x : Pass S N E R) × (worker < length ps) × (slice_get ps worker ≡ Some x) × (get_or ps worker x ≡ x)) ⊎ ((length ps ≤ worker) × (slice_get ps worker ≡ None)) → owns_of (map pass_as ps) worker ≡ by worker (lift journal)
      by_case (inl (x, within, some, is)) = owns_at worker x some ∙ ap (λ (own : List (Entry E R)). lift own) (whole.owns worker x some) ∙ sym (by_lifted worker journal)
      by_case (inr (past, none)) = owns_past worker none ∙ sym (by_lifted worker journal ∙ ap (λ (own : List (Entry E R)). lift own) (whole.callers worker past))

-- the journal of all that the passes' workers did
pub told_of : {M S N E R H W : Type 0} (is : List ObjectEntry → Type 0) (first : Option Misuse) (pass_as : Pass S N E R → AnyPass N) (ps : List (Pass S N E R)) (kind : Kind S E R W) (object : Object M N S E R H)
    → IsHistoryIn kind object first ps
    → ((pass : Pass S N E R) → own_of (pass_as pass) ≡ own_in kind pass)
    → ((journal : List ObjectEntry) → JournalOf kind object journal → is journal)
    → IsTold is first (map pass_as ps)
told_of is first pass_as ps kind object history same such = let h = history.of in record {
  journal = lift kind.event kind.reply h.journal;
  of = such (lift kind.event kind.reply h.journal) (h.journal, refl, h.whole.follows, h.whole.edges);
  times = times_lifted kind.event kind.reply h.journal h.whole.times;
  halted = h.halted ∙ sym (halt_lifted kind.event kind.reply None h.journal);
  parts = parts_of kind.event kind.reply pass_as same ps kind.next true kind.frees kind.takes (start_of object) h.journal h.whole;
}

-- where nobody made an entry of this kind, nobody made one
pub none_made : {S N E R : Type 0} (pass_as : Pass S N E R → AnyPass N) (ps : List (Pass S N E R)) → AreUntouched ps → ((pass : Pass S N E R) → own_by pass ≡ [] → own_of (pass_as pass) ≡ []) → (worker : ℕ) → owns_of (map pass_as ps) worker ≡ []
none_made {S} {N} {E} {R} pass_as ps untouched none worker = by_case (slice_get_cases ps worker).1 where
  by_case : ((x : Pass S N E R) × (worker < length ps) × (slice_get ps worker ≡ Some x) × (get_or ps worker x ≡ x)) ⊎ ((length ps ≤ worker) × (slice_get ps worker ≡ None)) → owns_of (map pass_as ps) worker ≡ []
  by_case (inl (x, within, some, is)) = ap (λ (p : AnyPass N). own_of p) (as_got pass_as ps worker x some) ∙ none x (untouched worker x some)
  by_case (inr (past, none)) = ap (λ (p : AnyPass N). own_of p) (as_none pass_as ps worker none)
