-- What a put found in its caller's part, and where the items of a part come from.
use Rattle.std.proofs.Common.{◌≡◌, ℕ, Bool, true, false, List, [], ◌∷◌, ◌++◌, Option, Some, None, refl, sym, ap, ◌∙◌, subst}
use Rattle.std.specs.Prelude.{if◌then◌else◌, slice_get}
use Rattle.std.specs.Option.{option_map_or}
use Rattle.sync_types.specs.declared.misuse.Misuse.{Misuse}
use Rattle.sync_model.specs.declared.answer.Answer.{Answer}
use Rattle.sync_model.specs.declared.answer.Answer.TheVariants.{Done, Halted}
use Rattle.sync_model.specs.declared.journal.Deed.{Deed}
use Rattle.sync_model.specs.declared.journal.Deed.TheVariants.{Event, Refused, Halt}
use Rattle.sync_model.specs.declared.journal.Entry.{Entry}
use Rattle.sync_model.specs.Front.{Front}
use Rattle.sync_model.specs.Journal.{Follows, halt_next, log_of, logged, state_next, state_after}
use Rattle.sync_model.specs.Log as log
use Rattle.pool_core.specs.declared.pool_event.PoolEvent.TheVariants.{Put}
use Rattle.pool_core.specs.declared.pool_event.PoolPut.{PoolPut}
use Rattle.pool_core.specs.declared.pool_event.PoolPut.TheVariants as put
use Rattle.pool_core.specs.declared.pool_event.PoolReply.{PoolReply}
use Rattle.pool_core.specs.declared.pool_event.PoolReply.TheVariants.{Kept, Dropped}
use Rattle.pool_core.specs.Edges.{pool_releases, pool_acquires}
use Rattle.pool_core.specs.PartLaws.{IsPartLog, part_after}
use Rattle.pool_core.specs.PoolParts.{PoolPart, reply_of_put}
use Rattle.pool_core.specs.declared.pool_event.PoolEvent.{PoolEvent}
use Rattle.pool_core.specs.PartMachine.{PartState, part_start, part_next}
use Rattle.pool_core.specs.PoolLaws.{is_full, put_by, ComeFrom}
use Rattle.pool_core.specs.PoolLaws as laws
use Rattle.ruled_object.specs.Growth as growth
use Rattle.ruled_object.specs.Growth.{deeds_of}
use Rattle.ruled_object.specs.Passes as object
use Rattle.go_pool.specs.declared.pass.PoolPass.{PoolPass}
use Rattle.go_pool.specs.declared.pool.Pool.{Pool}
use Rattle.go_pool.specs.AtParts.{DidAt}
use Rattle.go_pool.specs.Calls.{Single}
use Rattle.go_pool.specs.Items.{DropsWhereFull, Found, ComesFromPuts}
use Rattle.go_pool.specs.Parts.{PartPass, PartJournal, pass_at}
use Rattle.go_pool.specs.Pools.{held_after, number_of, room_of, seen_of, IsLawful}
use Rattle.go_pool.proofs.TableSteps.{get_set}

logged-append : {E R : Type 0} (c : ℕ) (d : Deed E R) (xs ys : List (log.Entry E R)) → logged c d (xs ++ ys) ≡ logged c d xs ++ ys
logged-append c (Event e r) xs ys = refl
logged-append c (Refused e m) xs ys = refl
logged-append c (Halt m) xs ys = refl

log-snoc : {E R : Type 0} (xs : List (Entry E R)) (x : Entry E R) (e : E) (r : R) → x.deed ≡ Event e r → log_of (xs ++ x ∷ []) ≡ log_of xs ++ log.entry x.caller e r ∷ []
log-snoc [] x e r is = ap (λ d. logged x.caller d []) is
log-snoc (y ∷ ys) x e r is = ap (logged y.caller y.deed) (log-snoc ys x e r is) ∙ logged-append y.caller y.deed (log_of ys) (log.entry x.caller e r ∷ [])

kept_where : (full : Bool) (item : ℕ) → Kept ≡ (if full then Dropped item else Kept) → full ≡ false
kept_where true item is = cc
kept_where false item is = refl

dropped_where : (full : Bool) (item other : ℕ) → Dropped other ≡ (if full then Dropped item else Kept) → (full ≡ true) × (other ≡ item)
dropped_where true item other is = (refl, cc)
dropped_where false item other is = (cc, cc)

-- what holds of every journal
abbrev pub Logged : Type 0
Logged = (first : PartState ℕ) (journal : PartJournal) → Follows part_next true first None journal → log.Follows part_next first (log_of journal) × (log.after part_next first (log_of journal) ≡ state_after part_next first journal)

-- what follows the machine does so from its beginning on
follows_front : (s : PartState ℕ) (h : Option Misuse) (xs ys : PartJournal) → Follows part_next true s h (xs ++ ys) → Follows part_next true s h xs
follows_front s h [] ys follows = tt
follows_front s h (x ∷ xs) ys follows = (follows.0, follows_front (state_next part_next s x.caller x.deed) (halt_next h x.deed) xs ys follows.1)

-- which puts a part drops
abbrev pub Drops : Type 0
Drops = (room : ℕ) (before rest : laws.Log ℕ) (caller item : ℕ) (reply : PoolReply ℕ) → IsPartLog room (before ++ put_by caller item reply ∷ rest) → reply ≡ (if is_full room (part_after room before).primary then Dropped item else Kept)

-- that a part gives each item once
abbrev pub GivesOnce : Type 0
GivesOnce = (room : ℕ) (log : laws.Log ℕ) → IsPartLog room log → (origin : ℕ → ℕ) × ComeFrom log origin

module _ {N H : Type 0} (pool : Pool N H) (own : ℕ) (old new : PoolPass N) (from to : Front) (item : ℕ) where
  found : (spells : List (Deed (PoolEvent ℕ) (PoolReply ℕ)) → Answer PoolPut → Type 0) (reply : PoolReply ℕ) (result : Answer PoolPut) → own ≡ number_of new → (did : DidAt pool own spells (λ ds. Unit {0}) old from result new to) → deeds_of did.did.entries ≡ Event (Put item) reply ∷ [] → IsLawful pool new → Logged → Drops
      → (here : PoolPart ℕ) × Found pool new here × (reply ≡ (if is_full (room_of pool) here then Dropped item else Kept))
  found spells reply result is did only lawful logged_all drops = by_entries did.did.entries only did.did.grows.history where
    after_at : pass_at own new ≡ Some did.after
    after_at = ap (λ (l : List (PartPass N)). slice_get l own) did.set_is ∙ get_set old.parts.items own did.before did.after did.was

    seen_is : seen_of (number_of new) new ≡ object.seen_by did.after
    seen_is = ap (λ (k : ℕ). seen_of k new) (sym is) ∙ ap (λ (o : Option (PartPass N)). option_map_or object.seen_by o []) after_at

    by_entries : (es : List (growth.Placed (PoolEvent ℕ) (PoolReply ℕ))) → deeds_of es ≡ Event (Put item) reply ∷ [] → growth.Leads (object.seen_by did.before) es (object.seen_by did.after)
        → (here : PoolPart ℕ) × Found pool new here × (reply ≡ (if is_full (room_of pool) here then Dropped item else Kept))
    by_entries [] deeds leads = cc
    by_entries (p ∷ (q ∷ es)) deeds leads = cc
    by_entries (p ∷ []) deeds leads =
        let first : PartState ℕ = part_start (room_of pool) in
        let seen : object.seen_by did.after ≡ p.before ++ p.entry ∷ [] = leads.2 in
        let deed : p.entry.deed ≡ Event (Put item) reply = cc in
        let follows = subst (Follows part_next true first None) seen (lawful own did.after after_at).follows in
        let whole = logged_all first (p.before ++ p.entry ∷ []) follows in
        let front = logged_all first p.before (follows_front first None p.before (p.entry ∷ []) follows) in
        let parts = log-snoc p.before p.entry (Put item) reply deed in
        let dropped = drops (room_of pool) (log_of p.before) [] p.entry.caller item reply (subst (log.Follows part_next first) parts whole.0) in (
          (held_after pool p.before).primary,
          record { before = p.before; entry = p.entry; seen = seen_is ∙ seen; held = refl },
          dropped ∙ ap (λ (s : PartState ℕ). if is_full (room_of pool) s.primary then Dropped item else Kept) front.1,
        )

  -- a put is dropped exactly where its caller's part is full
  pub drops_where : (result : Answer PoolPut) → own ≡ number_of new → DidAt pool own (λ ds a. Single (Put item) reply_of_put ds a) (λ ds. Unit {0}) old from result new to → IsLawful pool new → Logged → Drops → DropsWhereFull pool new item result
  drops_where (Done put.Kept) is did lawful logged_all drops =
      let here = found (λ ds a. Single (Put item) reply_of_put ds a) Kept (Done put.Kept) is did did.did.spelt lawful logged_all drops in (here.0, here.1, kept_where (is_full (room_of pool) here.0) item here.2)
  drops_where (Done (put.Dropped other)) is did lawful logged_all drops =
      let here = found (λ ds a. Single (Put item) reply_of_put ds a) (Dropped other) (Done (put.Dropped other)) is did did.did.spelt lawful logged_all drops in
      let dropped = dropped_where (is_full (room_of pool) here.0) item other here.2 in
      (here.0, here.1, dropped.0, dropped.1)
  drops_where (Halted misuse) is did lawful logged_all drops = tt

-- each item that a look took comes from its put, in each part's journal
pub come_from : {N H : Type 0} (pool : Pool N H) (pass : PoolPass N) → IsLawful pool pass → Logged → GivesOnce → ComesFromPuts pass
come_from {N} pool pass lawful logged_all gives = λ part. by_pass (pass_at part pass) (λ p at. lawful part p at) where
  by_pass : (o : Option (PartPass N)) → ((p : PartPass N) → o ≡ Some p → growth.IsLawful part_next true pool_releases pool_acquires (part_start (room_of pool)) p) → (origin : ℕ → ℕ) × ComeFrom (log_of (option_map_or object.seen_by o [])) origin
  by_pass None at = gives (room_of pool) [] tt
  by_pass (Some p) at = gives (room_of pool) (log_of (object.seen_by p)) (logged_all (part_start (room_of pool)) (object.seen_by p) (at p refl).follows).0
