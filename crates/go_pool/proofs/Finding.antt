-- The item that a look takes is one that the caller may take.
use Rattle.std.proofs.Common.{◌≡◌, ℕ, zero, suc, ◌==◌, ◌-◌, Bool, true, false, cond, List, [], ◌∷◌, length, Option, Some, None, refl, sym, ◌∙◌, subst, arith}
use Rattle.std.specs.Prelude.{nat_lt}
use Rattle.std.specs.List.{Contains, slice_get}
use Rattle.pool_core.specs.declared.pool_event.PoolEvent.{PoolEvent}
use Rattle.pool_core.specs.declared.pool_event.PoolEvent.TheVariants.{Put, LookOwn, LookOther, LookVictim, Sweep}
use Rattle.pool_core.specs.declared.pool_event.PoolReply.{PoolReply}
use Rattle.pool_core.specs.declared.pool_event.PoolReply.TheVariants.{Kept, Dropped, Item}
use Rattle.pool_core.specs.PoolParts.{PoolPart, put_in, put_beside, take_own, take_tail, take_victim, head_of, tail_of, private_or}
use Rattle.pool_core.specs.PartMachine.{PartState, part_next}
use Rattle.go_pool.specs.Items.{items_of, takeable}

at_head : (x item : ℕ) (xs : List ℕ) → Item x ≡ Item item → Contains (x ∷ xs) item
at_head x item xs is = (0, omega arith, (cc))

at_place : (xs : List ℕ) (k item : ℕ) → slice_get xs k ≡ Some item → Contains xs item
at_place [] k item is = cc
at_place (x ∷ xs) zero item is = (0, omega arith, (cc))
at_place (x ∷ xs) (suc k) item is = let rest = at_place xs k item is in (suc rest.0, (let b = rest.1 in omega arith), rest.2)

head_item : (part : PoolPart ℕ) (shared : List ℕ) (item : ℕ) → (head_of shared part).1 ≡ Item item → Contains shared item
head_item part (x ∷ rest) item is = at_head x item rest is
head_item part [] item is = cc

tail_item : (part : PoolPart ℕ) (item : ℕ) (o : Option ℕ) → slice_get part.shared (length part.shared - 1) ≡ o → (tail_of o part).1 ≡ Item item → Contains part.shared item
tail_item part item (Some x) here is = at_place part.shared (length part.shared - 1) item (here ∙ (cc))
tail_item part item None here is = cc

private_item : (part : PoolPart ℕ) (other : PoolPart ℕ → PoolPart ℕ × PoolReply ℕ) (item : ℕ) → ((other part).1 ≡ Item item → Contains part.shared item) → (private : Option ℕ) → part.private ≡ private → (private_or private other part).1 ≡ Item item
    → Contains (items_of true part) item
private_item part other item rest (Some x) here is = subst (λ (o : Option ℕ). Contains (items_of true (record part { private = o })) item) (sym here) (at_head x item part.shared is)
private_item part other item rest None here is = subst (λ (o : Option ℕ). Contains (items_of true (record part { private = o })) item) (sym here) (rest is)

own_item : (part : PoolPart ℕ) (item : ℕ) → (take_own part).1 ≡ Item item → Contains (items_of true part) item
own_item part item is = private_item part (λ p. head_of p.shared p) item (head_item part part.shared item) part.private refl is

other_item : (part : PoolPart ℕ) (item : ℕ) → (take_tail part).1 ≡ Item item → Contains (items_of false part) item
other_item part item is = tail_item part item (slice_get part.shared (length part.shared - 1)) refl is

victim_item : (part : PoolPart ℕ) (item : ℕ) (own : Bool) → ((cond {A = PoolPart ℕ → PoolPart ℕ × PoolReply ℕ} own take_victim take_tail) part).1 ≡ Item item → Contains (items_of own part) item
victim_item part item true is = private_item part take_tail item (other_item part item) part.private refl is
victim_item part item false is = other_item part item is

no_put : (part : PoolPart ℕ) (item x : ℕ) → (put_in part x).1 ≡ Item item → ⊥
no_put part item x is = by_private part.private is where
  by_room : (room : Bool) → (cond {A = PoolPart ℕ × PoolReply ℕ} room (record part { shared = x ∷ part.shared }, Kept) (part, Dropped x)).1 ≡ Item item → ⊥
  by_room true same = cc
  by_room false same = cc

  by_private : (private : Option ℕ) → (put_beside private part x).1 ≡ Item item → ⊥
  by_private None same = cc
  by_private (Some held) same = by_room (nat_lt (length part.shared) part.room) same

pub takes_item : (state : PartState ℕ) (caller : ℕ) (event : PoolEvent ℕ) (item : ℕ) → (part_next state caller event).1 ≡ Item item → Contains (takeable state caller event) item
takes_item state caller (Put x) item is = absurd (no_put state.primary item x is)
takes_item state caller LookOwn item is = own_item state.primary item is
takes_item state caller (LookOther part) item is = other_item state.primary item is
takes_item state caller (LookVictim part) item is = victim_item state.victims item (part == caller) is
takes_item state caller Sweep item is = cc
