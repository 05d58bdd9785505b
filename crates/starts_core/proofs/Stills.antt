-- Which events are answered `Still`.
use Rattle.std.proofs.Common.{◌≡◌, ℕ, Bool, true, false, ◌&&◌, refl, sym, ap}
use Rattle.std.specs.Prelude.{nat_lt, if◌then◌else◌}
use Rattle.std.proofs.lemmas.Bool.{false≢true}
use Rattle.starts_core.specs.declared.starts.StartEvent.{StartEvent}
use Rattle.starts_core.specs.declared.starts.StartEvent.TheVariants.{Start, End, Leave}
use Rattle.starts_core.specs.declared.starts.StartReply.{StartReply}
use Rattle.starts_core.specs.declared.starts.StartReply.TheVariants.{Never, Still}
use Rattle.starts_core.specs.declared.starts.StartPlace.{StartPlace}
use Rattle.starts_core.specs.declared.starts.StartPlace.TheVariants.{Dormant, Live, Ended}
use Rattle.starts_core.specs.StartsMachine.{StartsState, next, made, callers_of, place_of, is_any_live, left_from}
use Rattle.starts_core.specs.StartsStanding.{may_leave, is_needed, may_make}

no : {A : Type 0} → false ≡ true → A
no e = absurd (false≢true e)

leave-made : (p : StartPlace) (any : Bool) (s : StartsState) → is_any_live s ≡ any → may_leave p any ≡ true → left_from p s ≡ Still → ⊥
leave-made Live any s live may is = cc
leave-made Dormant true s live may is = no may
leave-made Dormant false s live may is = by_live (is_any_live s) live is where
  by_live : (b : Bool) → b ≡ false → ◌≡◌ {A = StartReply} (if b then Still else Never) Still → ⊥
  by_live true none is = no (sym none)
  by_live false none is = cc
leave-made Ended any s live may is = no may

pub starts-made : (s : StartsState) (c : ℕ) (e : StartEvent) → may_make s c e ≡ true → (next s c e).1 ≡ Still → ⊥
starts-made s c e may = by_test (nat_lt c (callers_of s)) e may
  where
    by_test : (b : Bool) (e : StartEvent) → (b && is_needed s c e) ≡ true → (if b then made s c e else (s, Still)).1 ≡ Still → ⊥
    by_test true (Start w) may is = cc
    by_test true End may is = cc
    by_test true Leave may is = leave-made (place_of s c) (is_any_live s) s refl may is
    by_test false e may is = no may

leave-unmade : (p : StartPlace) (any : Bool) (s : StartsState) → is_any_live s ≡ any → may_leave p any ≡ false → left_from p s ≡ Still
leave-unmade Live any s live may = no (sym may)
leave-unmade Dormant true s live may = by_live (is_any_live s) live where
  by_live : (b : Bool) → b ≡ true → ◌≡◌ {A = StartReply} (if b then Still else Never) Still
  by_live true any = refl
  by_live false any = no any
leave-unmade Dormant false s live may = no (sym may)
leave-unmade Ended any s live may = refl

pub starts-unmade : (s : StartsState) (c : ℕ) (e : StartEvent) → may_make s c e ≡ false → next s c e ≡ (s, Still)
starts-unmade s c e may = by_test (nat_lt c (callers_of s)) e may
  where
    by_test : (b : Bool) (e : StartEvent) → (b && is_needed s c e) ≡ false → (if b then made s c e else (s, Still)) ≡ (s, Still)
    by_test true (Start w) may = no (sym may)
    by_test true End may = no (sym may)
    by_test true Leave may = ap (λ (r : StartReply). (s, r)) (leave-unmade (place_of s c) (is_any_live s) s refl may)
    by_test false e may = refl
