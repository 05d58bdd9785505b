-- What an event does to where each worker stands.
use Rattle.std.proofs.Common.{◌≡◌, ◌≢◌, inl, inr, ℕ, zero, suc, ◌<◌, ◌≤◌, ◌==◌, Bool, true, false, cond, List, [], ◌∷◌, length, set, Option, Some, None, refl, sym, ap, ◌∙◌, subst, arith}
use Rattle.std.specs.Prelude.{nat_lt, unwrap_or, if◌then◌else◌}
use Rattle.std.specs.List.{slice_get}
use Rattle.std.proofs.lemmas.Bool.{lt-ltb, eq-eqb}
use Rattle.std.proofs.lemmas.Bool.Decides.{eqb_tells}
use Rattle.starts_core.specs.declared.starts.StartEvent.{StartEvent}
use Rattle.starts_core.specs.declared.starts.StartEvent.TheVariants.{Start, End, Leave}
use Rattle.starts_core.specs.declared.starts.StartReply.{StartReply}
use Rattle.starts_core.specs.declared.starts.StartReply.TheVariants.{Go, Never, Still}
use Rattle.starts_core.specs.declared.starts.StartPlace.{StartPlace}
use Rattle.starts_core.specs.declared.starts.StartPlace.TheVariants.{Dormant, Live, Ended}
use Rattle.starts_core.specs.StartsMachine.{StartsState, next, made, callers_of, place_of, with_place, started, ended, is_any_live, left_from}
use Rattle.starts_core.specs.StartsStanding.{moved}
use Rattle.starts_core.proofs.Places.{get-set_other, get-set_within}

-- a write to one's own place, and to another's
pub own_write : (s : StartsState) (w : ℕ) (p : StartPlace) → w < callers_of s → place_of (with_place s w p) w ≡ p
own_write s w p within = ap (λ (o : Option StartPlace). unwrap_or o Ended) (get-set_within s.places w p within)

pub other_write : (s : StartsState) (d w : ℕ) (p : StartPlace) → w ≢ d → place_of (with_place s d p) w ≡ place_of s w
other_write s d w p ne = ap (λ (o : Option StartPlace). unwrap_or o Ended) (get-set_other s.places d w p ne)

-- where a worker stands after a write that depends on what stood there
write : (s : StartsState) (d w : ℕ) (f : StartPlace → StartPlace) → w < callers_of s → place_of (with_place s d (f (place_of s d))) w ≡ (if d == w then f (place_of s w) else place_of s w)
write s d w f within = elim (eqb_tells d w) [
  | inl same ↦ (let e = same.1 in subst (λ v. place_of (with_place s v (f (place_of s v))) w ≡ (if v == w then f (place_of s w) else place_of s w)) (sym e) (own_write s w (f (place_of s w)) within ∙ sym (ap (λ (b : Bool). if b then f (place_of s w) else place_of s w) (subst (λ v. (v == w) ≡ true) e same.0))))
  | inr apart ↦ (other_write s d w (f (place_of s d)) (λ e. apart.1 (sym e)) ∙ sym (ap (λ (b : Bool). if b then f (place_of s w) else place_of s w) apart.0))
]

made_moves : (s : StartsState) (c w : ℕ) (event : StartEvent) → w < callers_of s → place_of (made s c event).0 w ≡ moved c w event (place_of s w)
made_moves s c w (Start d) within = write s d w started within
made_moves s c w End within = write s c w ended within
made_moves s c w Leave within = refl

pub moves : (s : StartsState) (c w : ℕ) (event : StartEvent) → c < callers_of s → w < callers_of s → place_of (next s c event).0 w ≡ moved c w event (place_of s w)
moves s c w event caller within = ap (λ (b : Bool). place_of (if b then made s c event else (s, Still)).0 w) (lt-ltb c (callers_of s) caller) ∙ made_moves s c w event within

-- ---- a worker of whatever number stays where a write leaves it

pub kept_write : (s : StartsState) (d w : ℕ) (f : StartPlace → StartPlace) (p : StartPlace) → f p ≡ p → place_of s w ≡ p → place_of (with_place s d (f (place_of s d))) w ≡ p
kept_write s d w f p keeps is = elim (eqb_tells d w) [
  | inl same ↦ (let e = same.1 in subst (λ v. place_of (with_place s v (f (place_of s v))) w ≡ p) (sym e) (by_place (slice_get s.places w) refl))
  | inr apart ↦ (other_write s d w (f (place_of s d)) (λ e. apart.1 (sym e)) ∙ is)
]
  where
    set_past : (xs : List StartPlace) (i : ℕ) (p : StartPlace) → slice_get xs i ≡ None → slice_get (set xs i p) i ≡ None
    set_past [] i p none = refl
    set_past (x ∷ xs) zero p none = cc
    set_past (x ∷ xs) (suc i) p none = set_past xs i p none

    set_there : (xs : List StartPlace) (i : ℕ) (p q : StartPlace) → slice_get xs i ≡ Some q → slice_get (set xs i p) i ≡ Some p
    set_there [] i p q there = cc
    set_there (x ∷ xs) zero p q there = refl
    set_there (x ∷ xs) (suc i) p q there = set_there xs i p q there

    by_place : (o : Option StartPlace) → slice_get s.places w ≡ o → place_of (with_place s w (f (place_of s w))) w ≡ p
    by_place None none = ap (λ (o : Option StartPlace). unwrap_or o Ended) (set_past s.places w (f (place_of s w)) none) ∙ (sym (ap (λ (o : Option StartPlace). unwrap_or o Ended) none) ∙ is)
    by_place (Some q) there = ap (λ (o : Option StartPlace). unwrap_or o Ended) (set_there s.places w (f (place_of s w)) q there) ∙ (ap f is ∙ keeps)

made_keeps : (s : StartsState) (c w : ℕ) (event : StartEvent) → place_of s w ≡ Ended → place_of (made s c event).0 w ≡ Ended
made_keeps s c w (Start d) is = kept_write s d w started Ended refl is
made_keeps s c w End is = kept_write s c w ended Ended refl is
made_keeps s c w Leave is = is

keeps_if : (b : Bool) (s : StartsState) (c w : ℕ) (event : StartEvent) → place_of s w ≡ Ended → place_of (if b then made s c event else (s, Still)).0 w ≡ Ended
keeps_if true s c w event is = made_keeps s c w event is
keeps_if false s c w event is = is

pub keeps_ended : (s : StartsState) (c w : ℕ) (event : StartEvent) → place_of s w ≡ Ended → place_of (next s c event).0 w ≡ Ended
keeps_ended s c w event is = keeps_if (nat_lt c (callers_of s)) s c w event is

-- ---- what a start, an end and a leaving come to

pub made_live : (s : StartsState) (c w : ℕ) → c < callers_of s → w < callers_of s → place_of s w ≡ Dormant → place_of (next s c (Start w)).0 w ≡ Live
made_live s c w below within is = moves s c w (Start w) below within ∙ (ap (λ (b : Bool). if b then started (place_of s w) else place_of s w) (eq-eqb w w refl) ∙ ap started is)

pub made_ended : (s : StartsState) (c : ℕ) → c < callers_of s → place_of s c ≡ Live → place_of (next s c End).0 c ≡ Ended
made_ended s c below is = moves s c c End below below ∙ (ap (λ (b : Bool). if b then ended (place_of s c) else place_of s c) (eq-eqb c c refl) ∙ ap ended is)

leaves : (s : StartsState) (c : ℕ) → c < callers_of s → (next s c Leave).1 ≡ left_from (place_of s c) s
leaves s c below = ap (λ (b : Bool). (cond {A = StartsState × StartReply} b (made s c Leave) (s, Still)).1) (lt-ltb c (callers_of s) below)

pub told_live : (s : StartsState) (c : ℕ) → c < callers_of s → place_of s c ≡ Live → (next s c Leave).1 ≡ Go
told_live s c below is = leaves s c below ∙ ap (λ (p : StartPlace). left_from p s) is

pub told_never : (s : StartsState) (c : ℕ) → c < callers_of s → place_of s c ≡ Dormant → is_any_live s ≡ false → (next s c Leave).1 ≡ Never
told_never s c below is none = leaves s c below ∙ (ap (λ (p : StartPlace). left_from p s) is ∙ ap (λ (b : Bool). if b then Still else Never) none)

-- a start of nobody changes nothing
set_past_end : (xs : List StartPlace) (i : ℕ) (p : StartPlace) → length xs ≤ i → set xs i p ≡ xs
set_past_end [] i p past = refl
set_past_end (x ∷ xs) zero p past = absurd (omega (arith, past))
set_past_end (x ∷ xs) (suc i) p past = ap (λ (ys : List StartPlace). x ∷ ys) (set_past_end xs i p (omega (arith, past)))

pub past_end : (s : StartsState) (w : ℕ) (p : StartPlace) → callers_of s ≤ w → with_place s w p ≡ s
past_end s w p past = ap (λ (ps : List StartPlace). let t : StartsState = record { places = ps } in t) (set_past_end s.places w p past)

nobody_if : (b : Bool) (s : StartsState) (c w : ℕ) → callers_of s ≤ w → (if b then made s c (Start w) else (s, Still)).0 ≡ s
nobody_if true s c w past = past_end s w (started (place_of s w)) past
nobody_if false s c w past = refl

pub starts_nobody : (s : StartsState) (c w : ℕ) → callers_of s ≤ w → (next s c (Start w)).0 ≡ s
starts_nobody s c w past = nobody_if (nat_lt c (callers_of s)) s c w past
