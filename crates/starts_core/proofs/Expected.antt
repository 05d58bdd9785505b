-- The event of a stage that is allowed gets an answer by which a call goes on.
use Rattle.std.proofs.Common.{◌≡◌, ℕ, ◌<◌, Bool, true, false, List, [], ◌∷◌, refl, sym, ◌∙◌, subst, arith}
use Rattle.std.specs.Prelude.{nat_lt, if◌then◌else◌}
use Rattle.std.proofs.lemmas.Bool.{lt-ltb}
use Rattle.sync_model.specs.Log.{Entry, after}
use Rattle.protocols.specs.Steps.{IsExpected}
use Rattle.starts_core.specs.declared.protocol.StartsStage.{StartsStage}
use Rattle.starts_core.specs.declared.protocol.StartsStage.TheVariants as stage
use Rattle.starts_core.specs.declared.starts.StartEvent.{StartEvent}
use Rattle.starts_core.specs.declared.starts.StartReply.{StartReply}
use Rattle.starts_core.specs.declared.starts.StartReply.TheVariants.{Never, Still}
use Rattle.starts_core.specs.declared.starts.StartPlace.{StartPlace}
use Rattle.starts_core.specs.declared.starts.StartPlace.TheVariants.{Dormant, Live, Ended}
use Rattle.starts_core.specs.StartsMachine.{StartsState, next, made, callers_of, place_of, is_any_live, left_from}
use Rattle.starts_core.specs.StartsStages.{starts_event, starts_meaning, starts_allows, wait_meaning, StartsBegins}

size : ((s : StartsState) (c : ℕ) (e : StartEvent) → callers_of (next s c e).0 ≡ callers_of s) → (s : StartsState) (log : List (Entry StartEvent StartReply)) → callers_of (after next s log) ≡ callers_of s
size same s [] = refl
size same s (e ∷ log) = size same (next s e.caller e.event).0 log ∙ same s e.caller e.event

left_expected : (p : StartPlace) (s : StartsState) → IsExpected (wait_meaning (left_from p s))
left_expected Live s = tt
left_expected Dormant s = by_any (is_any_live s) where
  by_any : (b : Bool) → IsExpected (wait_meaning (if b then Still else Never))
  by_any true = tt
  by_any false = tt
left_expected Ended s = tt

made_expected : (s : StartsState) (c now : ℕ) (g : StartsStage) → IsExpected (starts_meaning g (made s c (starts_event g now)).1)
made_expected s c now (stage.Start w) = tt
made_expected s c now stage.End = tt
made_expected s c now stage.WaitStart = left_expected (place_of s c) s

pub starts_expected : ((s : StartsState) (c : ℕ) (e : StartEvent) → callers_of (next s c e).0 ≡ callers_of s)
    → (callers caller now : ℕ) (start : StartsState) (log : List (Entry StartEvent StartReply)) (g : StartsStage) → StartsBegins callers start → caller < callers → starts_allows start tt g ≡ true
    → IsExpected (starts_meaning g (next (after next start log) caller (starts_event g now)).1)
starts_expected same callers caller now start log g begins below may =
    let s : StartsState = after next start log in
    let count : callers_of s ≡ callers_of start = size same start log in
    let within : nat_lt caller (callers_of s) ≡ true = lt-ltb caller (callers_of s) (omega (arith, below, begins, count)) in
    subst (λ (b : Bool). IsExpected (starts_meaning g (if b then made s caller (starts_event g now) else (s, Still)).1)) (sym within) (made_expected s caller now g)
