-- Who goes was started, and nobody goes once nobody is live.
use Rattle.std.proofs.Common.{◌≡◌, ◌≢◌, inl, inr, ℕ, zero, suc, ◌==◌, Bool, true, false, List, [], ◌∷◌, ◌++◌, set, Option, Some, None, refl, sym, ap, ◌∙◌, subst}
use Rattle.std.specs.Prelude.{nat_lt, unwrap_or, ◌&&◌, ◌||◌, if◌then◌else◌}
use Rattle.std.specs.List.{list_any, slice_get}
use Rattle.std.proofs.lemmas.Bool.{false≢true, eq-eqb}
use Rattle.std.proofs.lemmas.Bool.Decides.{eqb_tells}
use Rattle.starts_core.specs.declared.starts.StartEvent.{StartEvent}
use Rattle.starts_core.specs.declared.starts.StartEvent.TheVariants.{Start, End, Leave}
use Rattle.starts_core.specs.declared.starts.StartReply.{StartReply}
use Rattle.starts_core.specs.declared.starts.StartReply.TheVariants.{Go, Never, Still}
use Rattle.starts_core.specs.declared.starts.StartPlace.{StartPlace}
use Rattle.starts_core.specs.declared.starts.StartPlace.TheVariants.{Dormant, Live, Ended}
use Rattle.sync_model.specs.Log.{after, Follows}
use Rattle.starts_core.specs.StartsMachine.{StartsState, begun, first_place, next, made, callers_of, place_of, is_live, is_any_live, left_from, with_place, started, ended}
use Rattle.starts_core.specs.StartsEdges.{goes, is_made, starts_releases}
use Rattle.starts_core.specs.StartsLaws.{Log, leave_by, is_start_of, starts, is_going, IsByLive, StartsByLive}
use Rattle.starts_core.proofs.Standing.{other_write}

-- each part of a log follows the machine, the later one from the state that the earlier one leads to
abbrev pub ComesApart : Type 0
ComesApart = (s : StartsState) (earlier later : Log) → Follows next s (earlier ++ later) → Follows next s earlier × Follows next (after next s earlier) later

no : {A : Type 0} → false ≡ true → A
no e = absurd (false≢true e)

or_both : (a b : Bool) → (a || b) ≡ false → (a ≡ false) × (b ≡ false)
or_both true b h = cc
or_both false b h = (refl, h)

-- ---- who goes was started

-- a worker that isn't live stays so, unless it is started
not_live_write : (s : StartsState) (d w : ℕ) (f : StartPlace → StartPlace) → ((p : StartPlace) → is_live p ≡ false → is_live (f p) ≡ false) → is_live (place_of s w) ≡ false
    → is_live (place_of (with_place s d (f (place_of s d))) w) ≡ false
not_live_write s d w f keeps is = elim (eqb_tells d w) [
  | inl same ↦ (let e = same.1 in subst (λ v. is_live (place_of (with_place s v (f (place_of s v))) w) ≡ false) (sym e) (by_place (slice_get s.places w) refl))
  | inr apart ↦ (ap is_live (other_write s d w (f (place_of s d)) (λ e. apart.1 (sym e))) ∙ is)
]
  where
    set_past : (xs : List StartPlace) (i : ℕ) (p : StartPlace) → slice_get xs i ≡ None → slice_get (set xs i p) i ≡ None
    set_past [] i p none = refl
    set_past (x ∷ xs) zero p none = cc
    set_past (x ∷ xs) (suc i) p none = set_past xs i p none

    set_there : (xs : List StartPlace) (i : ℕ) (p q : StartPlace) → slice_get xs i ≡ Some q → slice_get (set xs i p) i ≡ Some p
    set_there [] i p q there = cc
    set_there (x ∷ xs) zero p q there = refl
    set_there (x ∷ xs) (suc i) p q there = set_there xs i p q there

    by_place : (o : Option StartPlace) → slice_get s.places w ≡ o → is_live (place_of (with_place s w (f (place_of s w))) w) ≡ false
    by_place None none = ap (λ (o : Option StartPlace). is_live (unwrap_or o Ended)) (set_past s.places w (f (place_of s w)) none)
    by_place (Some q) there = ap (λ (o : Option StartPlace). is_live (unwrap_or o Ended)) (set_there s.places w (f (place_of s w)) q there) ∙ keeps (place_of s w) is

ended_not_live : (p : StartPlace) → is_live p ≡ false → is_live (ended p) ≡ false
ended_not_live Dormant is = refl
ended_not_live Live is = refl
ended_not_live Ended is = refl

start_other : (s : StartsState) (d w : ℕ) → (d == w) ≡ false → is_live (place_of s w) ≡ false → is_live (place_of (with_place s d (started (place_of s d))) w) ≡ false
start_other s d w apart is = ap is_live (other_write s d w (started (place_of s d)) (λ e. no (sym apart ∙ eq-eqb d w (sym e)))) ∙ is

not_first : (a b : Bool) → (a && b) ≡ false → b ≡ true → a ≡ false
not_first true b none is = no (sym none ∙ is)
not_first false b none is = refl

stays_made : (s : StartsState) (c w : ℕ) (event : StartEvent) (reply : StartReply) → (made s c event).1 ≡ reply → (is_start_of w event && is_made reply) ≡ false → is_live (place_of s w) ≡ false
    → is_live (place_of (made s c event).0 w) ≡ false
stays_made s c w (Start d) reply answered other is = start_other s d w (not_first (d == w) (is_made reply) other (sym (ap is_made answered))) is
stays_made s c w End reply answered other is = not_live_write s c w ended ended_not_live is
stays_made s c w Leave reply answered other is = is

stays_if : (b : Bool) (s : StartsState) (c w : ℕ) (event : StartEvent) (reply : StartReply) → (if b then made s c event else (s, Still)).1 ≡ reply → (is_start_of w event && is_made reply) ≡ false
    → is_live (place_of s w) ≡ false → is_live (place_of (if b then made s c event else (s, Still)).0 w) ≡ false
stays_if true s c w event reply answered other is = stays_made s c w event reply answered other is
stays_if false s c w event reply answered other is = is

stays : (s : StartsState) (log : Log) (w : ℕ) → Follows next s log → is_live (place_of s w) ≡ false → list_any (starts w) log ≡ false → is_live (place_of (after next s log) w) ≡ false
stays s [] w follows is none = is
stays s (e ∷ log) w follows is none =
    let parts = or_both (starts w e) (list_any (starts w) log) none in
    stays (next s e.caller e.event).0 log w follows.1 (stays_if (nat_lt e.caller (callers_of s)) s e.caller w e.event e.reply follows.0 parts.0 is) parts.1

-- whoever goes is live
pub goes_live : (p : StartPlace) (s : StartsState) → left_from p s ≡ Go → is_live p ≡ true
goes_live Live s is = refl
goes_live Dormant s is = by_any (is_any_live s) is where
  by_any : (b : Bool) → ◌≡◌ {A = StartReply} (if b then Still else Never) Go → false ≡ true
  by_any true is = cc
  by_any false is = cc
goes_live Ended s is = cc

goes_if : (b : Bool) (s : StartsState) (w : ℕ) → (if b then made s w Leave else (s, Still)).1 ≡ Go → is_live (place_of s w) ≡ true
goes_if true s w is = goes_live (place_of s w) s is
goes_if false s w is = cc

first_dormant : (dormant : List Bool) (w : ℕ) → slice_get dormant w ≡ Some true → is_live (place_of (begun dormant) w) ≡ false
first_dormant [] w is = cc
first_dormant (b ∷ dormant) zero is = by_first b is where
  by_first : (b : Bool) → Some b ≡ Some true → is_live (first_place b) ≡ false
  by_first true is = refl
  by_first false is = cc
first_dormant (b ∷ dormant) (suc w) is = first_dormant dormant w is

pub goes-started : ComesApart → (dormant : List Bool) (before rest : Log) (w : ℕ) → slice_get dormant w ≡ Some true
    → Follows next (begun dormant) (before ++ leave_by w Go ∷ rest) → list_any (starts w) before ≡ true
goes-started apart dormant before rest w waits follows = by_any (list_any (starts w) before) refl where
  parts : Follows next (begun dormant) before × Follows next (after next (begun dormant) before) (leave_by w Go ∷ rest)
  parts = apart (begun dormant) before (leave_by w Go ∷ rest) follows

  by_any : (b : Bool) → list_any (starts w) before ≡ b → b ≡ true
  by_any true is = refl
  by_any false none =
      let s = after next (begun dormant) before in
      no (sym (stays (begun dormant) before w parts.0 (first_dormant dormant w waits) none) ∙ goes_if (nat_lt w (callers_of s)) s w parts.1.0)

-- ---- nobody goes once nobody is live

none_both : (a b : Bool) → a ≡ false → b ≡ false → (a || b) ≡ false
none_both true b here later = here
none_both false b here later = later

none_after_set : (places : List StartPlace) (i : ℕ) (p : StartPlace) → list_any is_live places ≡ false → is_live p ≡ false → list_any is_live (set places i p) ≡ false
none_after_set [] i p none is = none
none_after_set (q ∷ places) zero p none is = none_both (is_live p) (list_any is_live places) is (or_both (is_live q) (list_any is_live places) none).1
none_after_set (q ∷ places) (suc i) p none is =
    let parts = or_both (is_live q) (list_any is_live places) none in
    none_both (is_live q) (list_any is_live (set places i p)) parts.0 (none_after_set places i p parts.1 is)

none_at : (places : List StartPlace) (i : ℕ) → list_any is_live places ≡ false → is_live (unwrap_or (slice_get places i) Ended) ≡ false
none_at [] i none = refl
none_at (q ∷ places) zero none = (or_both (is_live q) (list_any is_live places) none).0
none_at (q ∷ places) (suc i) none = none_at places i (or_both (is_live q) (list_any is_live places) none).1

none_live : (s : StartsState) (w : ℕ) → is_any_live s ≡ false → place_of s w ≡ Live → ⊥
none_live s w none is = false≢true (sym (none_at s.places w none) ∙ ap is_live is)

none_made : (s : StartsState) (c : ℕ) (event : StartEvent) → is_any_live s ≡ false → IsByLive s c event → is_any_live (made s c event).0 ≡ false
none_made s c (Start d) none by = absurd (none_live s c none by)
none_made s c End none by = none_after_set s.places c (ended (place_of s c)) none (ended_not_live (place_of s c) (none_at s.places c none))
none_made s c Leave none by = none

none_if : (b : Bool) (s : StartsState) (c : ℕ) (event : StartEvent) → is_any_live s ≡ false → IsByLive s c event → is_any_live (if b then made s c event else (s, Still)).0 ≡ false
none_if true s c event none by = none_made s c event none by
none_if false s c event none by = none

stays_going : (p : StartPlace) (s : StartsState) → is_live p ≡ false → goes (left_from p s) ≡ false
stays_going Live s is = no (sym is)
stays_going Dormant s is = by_any (is_any_live s) where
  by_any : (b : Bool) → goes (if b then Still else Never) ≡ false
  by_any true = refl
  by_any false = refl
stays_going Ended s is = refl

not_going : (s : StartsState) (c : ℕ) (event : StartEvent) → is_any_live s ≡ false → goes (made s c event).1 ≡ false
not_going s c (Start d) none = refl
not_going s c End none = refl
not_going s c Leave none = stays_going (place_of s c) s (none_at s.places c none)

not_going_if : (b : Bool) (s : StartsState) (c : ℕ) (event : StartEvent) → is_any_live s ≡ false → goes (if b then made s c event else (s, Still)).1 ≡ false
not_going_if true s c event none = not_going s c event none
not_going_if false s c event none = refl

nobody_goes : (s : StartsState) (log : Log) → is_any_live s ≡ false → Follows next s log → StartsByLive s log → list_any is_going log ≡ false
nobody_goes s [] none follows by = refl
nobody_goes s (e ∷ log) none follows by =
    ap (λ (b : Bool). b || list_any is_going log) (ap goes (sym follows.0) ∙ not_going_if (nat_lt e.caller (callers_of s)) s e.caller e.event none)
    ∙ nobody_goes (next s e.caller e.event).0 log (none_if (nat_lt e.caller (callers_of s)) s e.caller e.event none by.0) follows.1 by.1

-- whoever is answered `Never` finds nobody live, and changes nothing
never_live : (p : StartPlace) (s : StartsState) → left_from p s ≡ Never → is_any_live s ≡ false
never_live Live s is = cc
never_live Dormant s is = by_any (is_any_live s) is where
  by_any : (b : Bool) → ◌≡◌ {A = StartReply} (if b then Still else Never) Never → b ≡ false
  by_any true is = cc
  by_any false is = refl
never_live Ended s is = cc

never_if : (b : Bool) (s : StartsState) (w : ℕ) → (if b then made s w Leave else (s, Still)).1 ≡ Never → is_any_live s ≡ false
never_if true s w is = never_live (place_of s w) s is
never_if false s w is = cc

pub same_if : (b : Bool) (s : StartsState) (w : ℕ) → (if b then made s w Leave else (s, Still)).0 ≡ s
same_if true s w = refl
same_if false s w = refl

pub never-for-good : ComesApart → (dormant : List Bool) (before rest : Log) (w : ℕ) → Follows next (begun dormant) (before ++ leave_by w Never ∷ rest)
    → StartsByLive (after next (begun dormant) before) rest → list_any is_going rest ≡ false
never-for-good apart dormant before rest w follows by =
    let s = after next (begun dormant) before in
    let parts = apart (begun dormant) before (leave_by w Never ∷ rest) follows in
    let same : (next s w Leave).0 ≡ s = same_if (nat_lt w (callers_of s)) s w in
    nobody_goes s rest (never_if (nat_lt w (callers_of s)) s w parts.1.0) (subst (λ (t : StartsState). Follows next t rest) same parts.1.1) by

-- a start that was made releases
second : (a b : Bool) → (a && b) ≡ true → b ≡ true
second true b is = is
second false b is = no is

pub start-releases : (w : ℕ) (event : StartEvent) (reply : StartReply) → (is_start_of w event && is_made reply) ≡ true → starts_releases event reply ≡ true
start-releases w (Start other) reply is = second (other == w) (is_made reply) is
start-releases w End reply is = no is
start-releases w Leave reply is = no is
