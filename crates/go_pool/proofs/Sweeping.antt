-- How the events of a sweep add up, part by part.
use Rattle.std.proofs.Common.{◌≡◌, ℕ, ◌+◌, ◌<◌, [], ◌∷◌, ◌++◌, map, take, Some, refl, sym, ap, ◌∙◌, append-nil, arith}
use Rattle.std.specs.List.{range_with_len, slice_get}
use Rattle.std.proofs.lemmas.List.{map_more, take-map}
use Rattle.std.proofs.lemmas.List.FromFn.{length-range_with_len, get_or-range_with_len, take-map-range_with_len}
use Rattle.std.proofs.lemmas.Option.{slice_get-get_or}
use Rattle.sync_types.specs.declared.misuse.Misuse.{Misuse}
use Rattle.sync_model.specs.declared.answer.Answer.TheVariants.{Done, Halted}
use Rattle.sync_model.specs.declared.journal.Deed.{Deed}
use Rattle.sync_model.specs.declared.journal.Deed.TheVariants.{Event, Refused}
use Rattle.sync_model.specs.Front.{Front}
use Rattle.pool_core.specs.declared.pool_event.PoolEvent.{PoolEvent}
use Rattle.pool_core.specs.declared.pool_event.PoolEvent.TheVariants.{Sweep}
use Rattle.pool_core.specs.declared.pool_event.PoolReply.{PoolReply}
use Rattle.pool_core.specs.declared.pool_event.PoolReply.TheVariants.{Swept}
use Rattle.ruled_object.specs.Passes as object
use Rattle.go_pool.specs.declared.pass.PoolPass.{PoolPass}
use Rattle.go_pool.specs.declared.pool.Pool.{Pool}
use Rattle.go_pool.specs.AtParts.{DidAt}
use Rattle.go_pool.specs.Calls.{Single, Sweeps}
use Rattle.go_pool.specs.Parts.{PartPass}
use Rattle.go_pool.specs.Pools.{PartDeeds, deeds_at, parts_of, number_of, Did}
use Rattle.go_pool.proofs.PoolGrowth.{at, deeds_here, entries_at, grows_at, halted_at}
use Rattle.go_pool.proofs.Rounds.{SoFar, ends}

-- a part that was swept
abbrev pub swept_at : ℕ → ℕ × Deed (PoolEvent ℕ) (PoolReply ℕ)
swept_at part = (part, Event Sweep Swept)

zero_more : (k : ℕ) → 0 + k ≡ k
zero_more k = omega arith

-- the first so many parts, and one more
one_more : (n k : ℕ) → k < n → map swept_at (take (k + 1) (range_with_len 0 n)) ≡ map swept_at (take k (range_with_len 0 n)) ++ swept_at k ∷ []
one_more n k below =
    map_more swept_at (range_with_len 0 n) k 0 (let l = length-range_with_len 0 n in omega arith)
    ∙ ap (λ (p : ℕ). map swept_at (take k (range_with_len 0 n)) ++ swept_at p ∷ []) (get_or-range_with_len 0 n k 0 below ∙ zero_more k)

all_parts : (n : ℕ) → map swept_at (take n (range_with_len 0 n)) ≡ map swept_at (range_with_len 0 n)
all_parts n = sym (take-map swept_at n (range_with_len 0 n)) ∙ take-map-range_with_len swept_at 0 n n (omega arith)

part_at : (n k : ℕ) → k < n → slice_get (range_with_len 0 n) k ≡ Some k
part_at n k below = slice_get-get_or (range_with_len 0 n) k 0 (let l = length-range_with_len 0 n in omega arith) ∙ ap Some (get_or-range_with_len 0 n k 0 below ∙ zero_more k)

module _ {N H : Type 0} (pool : Pool N H) where
  -- so many parts were swept
  abbrev pub AreSwept : ℕ → PartDeeds → Type 0
  AreSwept number done = done ≡ map swept_at (take number (range_with_len 0 (parts_of pool)))

  module _ (old mid new : PoolPass N) (between to : Front) (number : ℕ) (below : number < parts_of pool) (numbers : (p : PartPass N) → slice_get mid.parts.items number ≡ Some p → object.number_of p ≡ number_of mid) where
    -- one part more
    pub swept_more : (did : DidAt pool number (λ ds a. Single {A = Unit {0}} Sweep (λ done. Swept) ds a) (λ ds. Unit {0}) mid between (Done tt) new to) (ds : PartDeeds) → AreSwept number ds
        → AreSwept (number + 1) (ds ++ deeds_at (entries_at pool number mid new between to (Done tt) numbers did))
    swept_more did ds are =
        ap (λ (l : PartDeeds). l ++ deeds_at (map (at number) did.did.entries)) are
        ∙ (ap (λ (l : PartDeeds). map swept_at (take number (range_with_len 0 (parts_of pool))) ++ l) (deeds_here number did.did.entries ∙ ap (map (λ (d : Deed (PoolEvent ℕ) (PoolReply ℕ)). (number, d))) did.did.spelt)
        ∙ sym (one_more (parts_of pool) number below))

    -- a part refused it
    pub swept_refused : (from : Front) → SoFar pool (AreSwept number) old from mid between → (misuse : Misuse) → DidAt pool number (λ ds a. Single {A = Unit {0}} Sweep (λ done. Swept) ds a) (λ ds. Unit {0}) mid between (Halted misuse) new to → Did pool Sweeps old from (Halted misuse) new to
    swept_refused from before misuse did =
        let fs = entries_at pool number mid new between to (Halted misuse) numbers did in
        let done : deeds_at before.es ++ deeds_at fs ≡ map swept_at (take number (range_with_len 0 (parts_of pool))) ++ (number, Refused Sweep misuse) ∷ [] =
        ap (λ (l : PartDeeds). l ++ deeds_at fs) before.are
        ∙ ap (λ (l : PartDeeds). map swept_at (take number (range_with_len 0 (parts_of pool))) ++ l) (deeds_here number did.did.entries ∙ ap (map (λ (d : Deed (PoolEvent ℕ) (PoolReply ℕ)). (number, d))) did.did.spelt) in
        ends pool old mid new from between to before fs (grows_at pool number mid new between to (Halted misuse) numbers did) Sweeps (Halted misuse) (Refused Sweep misuse ∷ []) refl
        (deeds_at before.es ++ deeds_at fs, [], sym (append-nil (deeds_at before.es ++ deeds_at fs)), (number, number, part_at (parts_of pool) number below, done), refl) (halted_at pool number mid new between to (Halted misuse) numbers did)

  -- all parts were swept
  pub swept_all : (old new : PoolPass N) (from to : Front) (number : ℕ) → number ≡ parts_of pool → SoFar pool (AreSwept number) old from new to → Did pool Sweeps old from (Done tt) new to
  swept_all old new from to number all swept = record {
    deeds = Event Sweep Swept ∷ [];
    entries = swept.es;
    grows = swept.grows;
    done = (deeds_at swept.es, [], sym (append-nil (deeds_at swept.es)), swept.are ∙ (ap (λ (k : ℕ). map swept_at (take k (range_with_len 0 (parts_of pool)))) all ∙ all_parts (parts_of pool)), refl);
    spelt = refl;
    halted = swept.free;
  }
