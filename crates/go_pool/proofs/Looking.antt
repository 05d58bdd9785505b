-- How the looks of a get add up.
use Rattle.std.proofs.Common.{◌≡◌, ℕ, zero, suc, ◌+◌, ◌*◌, ◌<◌, ◌%◌, Bool, true, false, cond, [], ◌∷◌, ◌++◌, Some, None, refl, sym, ap, ◌∙◌, subst, add-one, arith}
use Rattle.std.specs.Prelude.{nat_lt}
use Rattle.std.proofs.Math.Nat.{mod-eq_of_lt}
use Rattle.sync_model.specs.declared.answer.Answer.TheVariants.{Done, Halted}
use Rattle.sync_model.specs.declared.journal.Deed.{Deed}
use Rattle.sync_model.specs.declared.journal.Deed.TheVariants.{Event, Refused}
use Rattle.sync_model.specs.Front.{Front}
use Rattle.sync_types.specs.declared.misuse.Misuse.{Misuse}
use Rattle.pool_core.specs.declared.pool_event.PoolEvent.{PoolEvent}
use Rattle.pool_core.specs.declared.pool_event.PoolEvent.TheVariants.{LookOther, LookVictim}
use Rattle.pool_core.specs.declared.pool_event.PoolReply.{PoolReply}
use Rattle.pool_core.specs.declared.pool_event.PoolReply.TheVariants as reply
use Rattle.pool_core.specs.Looks.{look}
use Rattle.pool_core.specs.PartLaws.{about}
use Rattle.go_pool.specs.declared.pass.PoolPass.{PoolPass}
use Rattle.go_pool.specs.declared.pool.Pool.{Pool}
use Rattle.go_pool.specs.declared.pool_get.PoolGet.TheVariants.{Item, New}
use Rattle.go_pool.specs.Calls.{Gets, Looks, nothing_in}
use Rattle.go_pool.specs.Pools.{Deeds, PartDeeds, deeds_at, AreDoneAt, parts_of, number_of, Did}
use Rattle.go_pool.proofs.PoolGrowth.{done-append}
use Rattle.go_pool.proofs.Rounds.{SoFar, ends}

-- at which part a look is
pub look_about : (callers caller number : ℕ) → caller < callers → about caller (look callers caller number) ≡ Some ((caller + number) % callers)
look_about callers caller zero below = ap Some (zero_more ∙ sym (mod-eq_of_lt {n = caller + 0} {m = callers} (omega (arith, below)))) where
  zero_more : caller ≡ caller + 0
  zero_more = omega arith
look_about callers caller (suc k) below = by_test (nat_lt (suc k) callers) where
  by_test : (b : Bool) → about {X = ℕ} caller (cond b (LookOther ((caller + suc k) % callers)) (LookVictim ((caller + suc k) % callers))) ≡ Some ((caller + suc k) % callers)
  by_test true = refl
  by_test false = refl

module _ {N H : Type 0} (pool : Pool N H) (old : PoolPass N) where
  -- so many looks of a get were made, and found nothing
  abbrev pub AreLooks : ℕ → PartDeeds → Type 0
  AreLooks number done = AreDoneAt (parts_of pool) (number_of old) (nothing_in (parts_of pool) (number_of old) number) done

  -- one look more
  more_looks : (mid : PoolPass N) (number : ℕ) (here later : PartDeeds) (deeds : Deeds) (deed : PoolEvent ℕ → Deed (PoolEvent ℕ) (PoolReply ℕ)) → number_of mid ≡ number_of old → AreLooks number here → deeds ≡ deed (look (parts_of pool) (number_of mid) number) ∷ []
      → AreDoneAt (parts_of pool) (number_of mid) deeds later → AreDoneAt (parts_of pool) (number_of old) (nothing_in (parts_of pool) (number_of old) number ++ deed (look (parts_of pool) (number_of old) number) ∷ []) (here ++ later)
  more_looks mid number here later deeds deed same are only done =
      done-append (parts_of pool) (number_of old) (nothing_in (parts_of pool) (number_of old) number) (deed (look (parts_of pool) (number_of old) number) ∷ []) here later are
      (subst (λ (n : ℕ). AreDoneAt (parts_of pool) n (deed (look (parts_of pool) n number) ∷ []) later) same (subst (λ (ds : Deeds). AreDoneAt (parts_of pool) (number_of mid) ds later) only done))

  module _ (mid new : PoolPass N) (between to : Front) (number : ℕ) (same : number_of mid ≡ number_of old) where
    -- a look that found nothing is one of those
    pub looked_more : (did : Did pool (Looks (look (parts_of pool) (number_of mid) number)) mid between (Done None) new to) (ds : PartDeeds) → AreLooks number ds → AreLooks (number + 1) (ds ++ deeds_at did.entries)
    looked_more did ds are =
        subst (λ (k : ℕ). AreLooks k (ds ++ deeds_at did.entries)) (sym (add-one number)) (more_looks mid number ds (deeds_at did.entries) did.deeds (λ e. Event e reply.Nothing) same are did.spelt did.done)

    module _ (from : Front) (before : SoFar pool (AreLooks number) old from mid between) (fresh : ℕ) (below : number < 2 * parts_of pool) where
      -- the look took an item, or was refused
      pub looks_up : (item : ℕ) → Did pool (Looks (look (parts_of pool) (number_of mid) number)) mid between (Done (Some item)) new to → Did pool (Gets (parts_of pool) (number_of old) fresh) old from (Done (Item item)) new to
      looks_up item did =
          ends pool old mid new from between to before did.entries did.grows (Gets (parts_of pool) (number_of old) fresh) (Done (Item item)) (nothing_in (parts_of pool) (number_of old) number ++ Event (look (parts_of pool) (number_of old) number) (reply.Item item) ∷ []) (number, below, refl)
          (more_looks mid number (deeds_at before.es) (deeds_at did.entries) did.deeds (λ e. Event e (reply.Item item)) same before.are did.spelt did.done) did.halted

      pub looks_refused : (misuse : Misuse) → Did pool (Looks (look (parts_of pool) (number_of mid) number)) mid between (Halted misuse) new to → Did pool (Gets (parts_of pool) (number_of old) fresh) old from (Halted misuse) new to
      looks_refused misuse did =
          ends pool old mid new from between to before did.entries did.grows (Gets (parts_of pool) (number_of old) fresh) (Halted misuse) (nothing_in (parts_of pool) (number_of old) number ++ Refused (look (parts_of pool) (number_of old) number) misuse ∷ []) (number, below, refl)
          (more_looks mid number (deeds_at before.es) (deeds_at did.entries) did.deeds (λ e. Refused e misuse) same before.are did.spelt did.done) did.halted

  -- all looks found nothing
  pub looks_end : (new : PoolPass N) (from to : Front) (number : ℕ) → number ≡ 2 * parts_of pool → SoFar pool (AreLooks number) old from new to → Did pool (Gets (parts_of pool) (number_of old) pool.fresh) old from (Done (New pool.fresh)) new to
  looks_end new from to number all looked = record {
    deeds = nothing_in (parts_of pool) (number_of old) (2 * parts_of pool);
    entries = looked.es;
    grows = looked.grows;
    done = subst (λ (k : ℕ). AreLooks k (deeds_at looked.es)) all looked.are;
    spelt = (refl, refl);
    halted = looked.free;
  }
