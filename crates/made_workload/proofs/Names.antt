-- The keys of the workers are names, and tell whose they are.
use Rattle.std.proofs.Common.{◌≡◌, ℕ, ◌<◌, Bool, true, List, refl, arith}
use Rattle.std.specs.Fmt.{digits}
use Rattle.std.specs.List.{list_all, range_with_len}
use Rattle.sync_types.specs.Name.{is_name}
use Rattle.made_workload.specs.Generated.{key_of}
use Rattle.made_workload.proofs.Ranges.{passes_at}

abbrev all_names : ℕ → List ℕ → Bool
all_names worker numbers = list_all (λ number. is_name (key_of worker number)) numbers

all_are : list_all (λ worker. all_names worker (range_with_len 0 64)) (range_with_len 0 8) ≡ true
unfolding digits
all_are = refl

pub key_is_name : (worker number : ℕ) → worker < 8 → number < 64 → is_name (key_of worker number) ≡ true
key_is_name worker number there small =
    passes_at (λ n. is_name (key_of worker n)) 0 64 number (passes_at (λ w. all_names w (range_with_len 0 64)) 0 8 worker all_are (omega arith) (omega arith)) (omega arith) (omega arith)
