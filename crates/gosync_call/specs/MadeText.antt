-- The five lines of a made workload's run.
use Rattle.std.specs.Prelude.{ℕ, List, [], ◌∷◌, codes}
use Rattle.std.specs.List.{flat_map}
use Rattle.made_workload.specs.declared.totals.Totals.{Totals}
use Rattle.made_workload.specs.Summary.{numbered}

-- what a run came to, in five lines
abbrev pub totals_text : Totals → List ℕ
totals_text totals =
    flat_map (λ line. line) (numbered (codes "workers") totals.workers ∷ numbered (codes "calls") totals.calls ∷ numbered (codes "total") totals.total
    ∷ numbered (codes "keys") totals.keys ∷ numbered (codes "sum") totals.sum ∷ [])
