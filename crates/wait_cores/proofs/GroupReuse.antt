-- A leaving is the misuse of a group in use again exactly where the counter isn't 0.
use Rattle.std.proofs.Common.{◌≡◌, ◌≢◌, ℕ, ◌<◌, Bool, true, false, ◌||◌, refl, ap, ◌∙◌, lt-ltb, arith}
use Rattle.std.specs.Prelude.{nat_lt, ◌==◌, not, if◌then◌else◌}
use Rattle.std.specs.List.{list_any}
use Rattle.std.proofs.lemmas.Bool.Decides.{nat_tests}
use Rattle.sync_types.specs.declared.misuse.Misuse.TheVariants.{WaitGroupReused}
use Rattle.wait_cores.specs.declared.group.GroupEvent.TheVariants.{Leave}
use Rattle.wait_cores.specs.declared.group.GroupPlace.{GroupPlace}
use Rattle.wait_cores.specs.declared.group.GroupPlace.TheVariants.{Released}
use Rattle.wait_cores.specs.declared.group.GroupReply.{GroupReply}
use Rattle.wait_cores.specs.declared.group.GroupReply.TheVariants.{Done, Misused, Still}
use Rattle.wait_cores.specs.GroupMachine.{GroupState, callers_of, place_of, is_waiting, is_reused, leave_from, made, next}
use Rattle.wait_cores.specs.GroupLaws.{Log, state_after}
use Rattle.wait_cores.proofs.GroupLemmas.{nobody_waits_at_zero}

zero_by : (n : ℕ) → (n == 0) ≡ true → n ≡ 0
zero_by n is = grind (arith, nat_tests)

by_zero : (n : ℕ) → n ≡ 0 → (n == 0) ≡ true
by_zero n is = grind (arith, nat_tests)

left_by : (s : GroupState) (c : ℕ) → c < callers_of s → place_of s c ≡ Released → (next s c Leave).1 ≡ (if is_reused s then Misused WaitGroupReused else Done)
left_by s c below released =
    let here : nat_lt c (callers_of s) ≡ true = lt-ltb c (callers_of s) below in
    ap (λ (b : Bool). (if b then made s c Leave else (s, Still)).1) here ∙ ap (λ (p : GroupPlace). (leave_from p s c).1) released

-- what the reply says of the counter
record Tells (zero : Bool) (reply : GroupReply) : Type 0 where
  reused : reply ≡ Misused WaitGroupReused → zero ≡ false
  reuses : zero ≡ false → reply ≡ Misused WaitGroupReused
  done : reply ≡ Done → zero ≡ true
  returns : zero ≡ true → reply ≡ Done

tells : (zero waits : Bool) (reply : GroupReply) → (zero ≡ true → waits ≡ false) → reply ≡ (if not zero || waits then Misused WaitGroupReused else Done) → Tells zero reply
tells true true reply none is = let h = none refl in (cc)
tells true false reply none is = record { reused = λ e. cc; reuses = λ e. cc; done = λ e. refl; returns = λ e. is }
tells false waits reply none is = record { reused = λ e. refl; reuses = λ e. is; done = λ e. cc; returns = λ e. cc }

told : (callers caller : ℕ) (log : Log) → caller < callers_of (state_after callers log) → place_of (state_after callers log) caller ≡ Released → Tells ((state_after callers log).counter == 0) (next (state_after callers log) caller Leave).1
told callers caller log below released =
    let s : GroupState = state_after callers log in
    tells (s.counter == 0) (list_any is_waiting s.places) (next s caller Leave).1 (λ zero. nobody_waits_at_zero callers log (zero_by s.counter zero)) (left_by s caller below released)

above_by : {A : Type 0} (n : ℕ) (zero : Bool) → (n == 0) ≡ zero → ((n == 0) ≡ false → A) → n ≢ 0 → A
above_by n true is then_so above = absurd (above (zero_by n is))
above_by n false is then_so above = then_so is

pub reused_above_zero : (callers caller : ℕ) (log : Log) → caller < callers_of (state_after callers log) → place_of (state_after callers log) caller ≡ Released
    → ((next (state_after callers log) caller Leave).1 ≡ Misused WaitGroupReused → (state_after callers log).counter ≢ 0) × ((state_after callers log).counter ≢ 0 → (next (state_after callers log) caller Leave).1 ≡ Misused WaitGroupReused)
reused_above_zero callers caller log below released =
    let told = told callers caller log below released in
    let n : ℕ = (state_after callers log).counter in (
      (λ is zero. let a = told.reused is in let b = by_zero n zero in (cc)),
      (λ above. above_by n (n == 0) refl told.reuses above),
    )

pub returns_at_zero : (callers caller : ℕ) (log : Log) → caller < callers_of (state_after callers log) → place_of (state_after callers log) caller ≡ Released
    → ((next (state_after callers log) caller Leave).1 ≡ Done → (state_after callers log).counter ≡ 0) × ((state_after callers log).counter ≡ 0 → (next (state_after callers log) caller Leave).1 ≡ Done)
returns_at_zero callers caller log below released =
    let told = told callers caller log below released in
    let n : ℕ = (state_after callers log).counter in ((λ is. zero_by n (told.done is)), (λ zero. told.returns (by_zero n zero)))
