-- The text of a seed as it stands, line by line.
use Rattle.std.specs.Prelude.{ℕ, ◌/◌, ◌%◌, nat_lt, ◌==◌, cond, List, ◌++◌, codes}
use Rattle.std.specs.List.{flat_map, range_with_len}
use Rattle.std.specs.Fmt.{decimal}
use Rattle.made_workload.specs.Generated.{key_of, in_twos, drawn_for}

-- `store t kW_J V`, `load t kW_J` or `delete t kW_J`
abbrev pub call_text : ℕ → ℕ → List ℕ
call_text worker word =
    let key = key_of worker (word / 4 % 64) in
    cond (nat_lt (word % 4) 2) (codes "store t " ++ key ++ codes " " ++ decimal (word / 256)) (cond (word % 4 == 2) (codes "load t " ++ key) (codes "delete t " ++ key))

-- the four lines of a round
abbrev pub round_text : ℕ → ℕ × ℕ → List ℕ
round_text worker words =
    codes "lock m\nadd total " ++ decimal (words.0 % 1000) ++ codes "\nunlock m\n" ++ call_text worker words.1 ++ codes "\n"

-- the lines of the rounds of a worker that draws these words
abbrev pub rounds_text : ℕ → List ℕ → List ℕ
rounds_text worker words = flat_map (round_text worker) (in_twos words)

-- and a `worker` line before them
abbrev pub worker_text : ℕ → List ℕ → List ℕ
worker_text worker words = codes "worker " ++ decimal worker ++ codes "\n" ++ rounds_text worker words

-- the lines of so many workers, from one on
unfoldable pub workers_text : ℕ → ℕ → ℕ → List ℕ
workers_text seed worker count = flat_map (λ w. worker_text w (drawn_for seed w)) (range_with_len worker count)

abbrev pub written_text : ℕ → List ℕ
written_text seed = codes "workers 8\nmutex m\nint64 total\nmap t\n" ++ workers_text seed 0 8
