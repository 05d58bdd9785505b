-- A caller's passes to the parts, of which one was used.
use Rattle.std.proofs.Common.{◌≡◌, inl, inr, ℕ, ◌<◌, true, List, length, set, Some, sym, ap, ◌∙◌, subst, arith, length-set}
use Rattle.std.specs.List.{slice_get, slice_index_or}
use Rattle.std.proofs.lemmas.Bool.{cases_eq}
use Rattle.std.proofs.lemmas.Option.{slice_get_read, slice_get_within}
use Rattle.pool_core.specs.declared.pool_event.PoolEvent.{PoolEvent}
use Rattle.pool_core.specs.declared.pool_event.PoolReply.{PoolReply}
use Rattle.pool_core.specs.declared.part_core.PartCore.{PartCore}
use Rattle.pool_core.specs.Edges.{pool_releases, pool_acquires}
use Rattle.pool_core.specs.PartMachine.{PartState, part_start, part_next}
use Rattle.ruled_object.specs.declared.object.Object.{Object}
use Rattle.ruled_object.specs.Growth as growth
use Rattle.ruled_object.specs.Passes as object
use Rattle.go_pool.specs.declared.pass.PoolPass.{PoolPass}
use Rattle.go_pool.specs.declared.pool.Pool.{Pool}
use Rattle.sync_model.specs.Journal.{by}
use Rattle.go_pool.specs.Parts.{PoolEntry, PartPass, AreSeatsOf}
use Rattle.go_pool.specs.Pools.{IsPassOf, room_of}
use Rattle.go_pool.proofs.TableSteps.{there, get_other, set_found}

module _ {A : Type 0} where
  pub same_found : (xs : List A) (i : ℕ) (x y : A) → slice_get xs i ≡ Some x → slice_get xs i ≡ Some y → x ≡ y
  same_found xs i x y at_x at_y = let same : Some x ≡ Some y = sym at_x ∙ at_y in cc

  -- what an index reads
  pub read_at : (xs : List A) (n i : ℕ) (x : A) → length xs ≡ n → i < n → x ≡ slice_index_or xs i x → slice_get xs i ≡ Some x
  read_at xs n i x count below is = slice_get_read xs n i x (sym count) below is

module _ {M N H : Type 0} where
  pub seats_set : (objects : List (Object M N (PartState ℕ) (PoolEvent ℕ) (PoolReply ℕ) H)) (caller part : ℕ) (passes : List (PartPass N)) (o : Object M N (PartState ℕ) (PoolEvent ℕ) (PoolReply ℕ) H) (p q : PartPass N)
      → AreSeatsOf objects caller passes → slice_get objects part ≡ Some o → slice_get passes part ≡ Some p → object.IsPassOf o q → object.number_of q ≡ object.number_of p → AreSeatsOf objects caller (set passes part q)
  seats_set objects caller part passes o p q seats at_o at_p is number = record {
    count = length-set passes part q ∙ seats.count;
    each = λ other one seat at_one at_seat. elim (cases_eq other part) [
      | inl same ↦ kept other one seat same (same_found objects part o one at_o (ap (slice_get objects) (sym same) ∙ at_one)) (set_found passes part q seat (ap (slice_get (set passes part q)) (sym same) ∙ at_seat))
      | inr apart ↦ seats.each other one seat at_one (sym (get_other passes part other q apart) ∙ at_seat)
    ];
  } where
    kept : (other : ℕ) (one : Object M N (PartState ℕ) (PoolEvent ℕ) (PoolReply ℕ) H) (seat : PartPass N) → other ≡ part → o ≡ one → seat ≡ q → object.IsPassOf one seat × (object.number_of seat ≡ caller)
    kept other one seat same same_o is_q = (
      subst (λ (z : Object M N (PartState ℕ) (PoolEvent ℕ) (PoolReply ℕ) H). object.IsPassOf z seat) same_o (subst (λ (z : PartPass N). object.IsPassOf o z) (sym is_q) is),
      ap (λ (z : PartPass N). object.number_of z) is_q ∙ (number ∙ (seats.each part o p at_o at_p).1),
    )

module _ {N H : Type 0} where
  -- the same caller's pass with the same passes to the parts
  pub pass_as : (pool : Pool N H) (old spent : PoolPass N) → IsPassOf pool old → spent.number ≡ old.number → spent.parts ≡ old.parts → IsPassOf pool spent
  pass_as pool old spent is number parts = record {
    caller = subst (λ (n : ℕ). n < pool.callers) (sym number) is.caller;
    seats = subst (λ (n : ℕ). AreSeatsOf pool.parts.items n spent.parts.items) (sym number) (subst (λ (l : List (PartPass N)). AreSeatsOf pool.parts.items old.number l) (sym (ap (λ v. v.items) parts)) is.seats);
    lawful = λ part p at_p. is.lawful part p (ap (λ v. slice_get v.items part) (sym parts) ∙ at_p);
  }

  -- the pass to one part was used, and shows what is lawful
  pub pass_set : (pool : Pool N H) (old new : PoolPass N) (part : ℕ) (q : PartPass N) → IsPassOf pool old → new.number ≡ old.number → new.parts.items ≡ set old.parts.items part q → AreSeatsOf pool.parts.items old.number (set old.parts.items part q)
      → growth.IsLawful part_next true pool_releases pool_acquires (part_start (room_of pool)) q → IsPassOf pool new
  pass_set pool old new part q is number items seats lawful = record {
    caller = subst (λ (n : ℕ). n < pool.callers) (sym number) is.caller;
    seats = subst (λ (l : List (PartPass N)). AreSeatsOf pool.parts.items new.number l) (sym items) (subst (λ (n : ℕ). AreSeatsOf pool.parts.items n (set old.parts.items part q)) (sym number) seats);
    lawful = λ other p at_p. elim (cases_eq other part) [
      | inl same ↦ subst (λ (z : PartPass N). growth.IsLawful part_next true pool_releases pool_acquires (part_start (room_of pool)) z)
          (sym (set_found old.parts.items part q p (ap (slice_get (set old.parts.items part q)) (sym same) ∙ (ap (λ (l : List (PartPass N)). slice_get l other) (sym items) ∙ at_p)))) lawful
      | inr apart ↦ is.lawful other p (sym (get_other old.parts.items part other q apart) ∙ (ap (λ (l : List (PartPass N)). slice_get l other) (sym items) ∙ at_p))
    ];
  }

-- the pass to one part was used, by its caller
pub pass_used : {N H : Type 0} (pool : Pool N H) (old new : PoolPass N) (part : ℕ) (o : Object PartCore N (PartState ℕ) (PoolEvent ℕ) (PoolReply ℕ) H) (p q : PartPass N) → IsPassOf pool old → slice_get pool.parts.items part ≡ Some o → slice_get old.parts.items part ≡ Some p → new.number ≡ old.number → new.parts.items ≡ set old.parts.items part q
    → object.IsPassOf o q → object.number_of q ≡ object.number_of p → growth.IsLawful part_next true pool_releases pool_acquires (part_start (room_of pool)) q → IsPassOf pool new
pass_used pool old new part o p q is at_o at_p number items of same lawful = pass_set pool old new part q is number items (seats_set pool.parts.items old.number part old.parts.items o p q is.seats at_o at_p of same) lawful

-- what one entry more shows is lawful
pub lawful_added : {N : Type 0} {start : PartState ℕ} (p q : PartPass N) (e : PoolEntry) → object.Adds part_next true pool_releases pool_acquires start p e q → object.number_of q ≡ object.number_of p → growth.IsLawful part_next true pool_releases pool_acquires start q
lawful_added p q e adds number = record { own = adds.all ∙ ap (λ (n : ℕ). by n (object.seen_by q)) (sym number); follows = adds.follows; edges = adds.edges; times = adds.times }

-- a caller's pass to a part has its number
pub seat_numbers : {N H : Type 0} (pool : Pool N H) (pass : PoolPass N) → IsPassOf pool pass → (part : ℕ) (p : PartPass N) → slice_get pass.parts.items part ≡ Some p → object.number_of p ≡ pass.number
seat_numbers pool pass is part p at_p =
    let o = there pool.parts.items part (let w = slice_get_within pass.parts.items part p at_p in let s = is.seats.count in omega arith) in
    (is.seats.each part o.0 p o.1 at_p).1
