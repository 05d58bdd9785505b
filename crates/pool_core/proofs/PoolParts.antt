-- A pool keeps its parts.
use Rattle.std.proofs.Common.{◌≡◌, ℕ, ◌==◌, Bool, true, false, cond, length, Option, Some, None, ◌∙◌, length-set}
use Rattle.std.specs.Prelude.{nat_lt}
use Rattle.std.specs.List.{slice_get}
use Rattle.std.specs.Option.{option_map}
use Rattle.std.proofs.lemmas.List.{length-map}
use Rattle.pool_core.specs.declared.pool_event.PoolEvent.{PoolEvent}
use Rattle.pool_core.specs.declared.pool_event.PoolEvent.TheVariants.{Put, LookOwn, LookOther, LookVictim, Sweep}
use Rattle.pool_core.specs.declared.pool_event.PoolReply.{PoolReply}
use Rattle.pool_core.specs.declared.pool_event.PoolReply.TheVariants.{Still}
use Rattle.pool_core.specs.PoolParts.{PoolPart, emptied, put_in, take_own, take_tail, take_victim}
use Rattle.pool_core.specs.PoolMachine.{PoolState, next, made, with_primary, with_victims, callers_of}

abbrev HasParts : ℕ → PoolState ℕ → Type 0
HasParts n s = (length s.primary ≡ n) × (length s.victims ≡ n)

with_primary_parts : (n : ℕ) (o : Option (PoolPart ℕ × PoolReply ℕ)) (s : PoolState ℕ) (part : ℕ) → HasParts n s → HasParts n (with_primary o s part).0
with_primary_parts n (Some changed) s part is = (length-set s.primary part changed.0 ∙ is.0, is.1)
with_primary_parts n None s part is = is

with_victims_parts : (n : ℕ) (o : Option (PoolPart ℕ × PoolReply ℕ)) (s : PoolState ℕ) (part : ℕ) → HasParts n s → HasParts n (with_victims o s part).0
with_victims_parts n (Some changed) s part is = (is.0, length-set s.victims part changed.0 ∙ is.1)
with_victims_parts n None s part is = is

made_parts : (n : ℕ) (s : PoolState ℕ) (c : ℕ) (event : PoolEvent ℕ) → HasParts n s → HasParts n (made s c event).0
made_parts n s c (Put item) is = with_primary_parts n (option_map (λ own. put_in own item) (slice_get s.primary c)) s c is
made_parts n s c LookOwn is = with_primary_parts n (option_map take_own (slice_get s.primary c)) s c is
made_parts n s c (LookOther part) is = with_primary_parts n (option_map take_tail (slice_get s.primary part)) s part is
made_parts n s c (LookVictim part) is = with_victims_parts n (option_map (cond (part == c) take_victim take_tail) (slice_get s.victims part)) s part is
made_parts n s c Sweep is = (length-map s.victims emptied ∙ is.1, is.0)

if_parts : (b : Bool) (n : ℕ) (s : PoolState ℕ) (c : ℕ) (event : PoolEvent ℕ) → HasParts n s → HasParts n (cond b (made s c event) (s, Still)).0
if_parts true n s c event is = made_parts n s c event is
if_parts false n s c event is = is

pub same-parts : (s : PoolState ℕ) (c n : ℕ) (event : PoolEvent ℕ) → length s.primary ≡ n → length s.victims ≡ n → HasParts n (next s c event).0
same-parts s c n event primary victims = if_parts (nat_lt c (callers_of s)) n s c event (primary, victims)
