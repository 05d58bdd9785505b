-- Before is an order, and the least one that holds the edges.
use Rattle.std.proofs.Common.{◌⊎◌, inl, inr, ℕ, ◌<◌, Bool, List, [], ◌∷◌, IsTrue, arith}
use Rattle.workload.specs.Plan.{Plan}
use Rattle.step_runner.specs.declared.trace.TraceItem.{TraceItem}
use Rattle.race_clocks.specs.Channels.{Channel}
use Rattle.race_clocks.specs.HappensBefore.{Meets, Edge, Leads, Before}
use Rattle.race_clocks.specs.Rows.{IsHanded, IsOwn}

module _ (plan : Plan) (trace : List TraceItem) where
  leads_earlier : (i : ℕ) (path : List ℕ) (j : ℕ) → Leads plan trace i path j → i < j
  leads_earlier i [] j edge = edge.earlier
  leads_earlier i (k ∷ path) j (leads, edge) = let one = leads_earlier i path k leads in let two = edge.earlier in omega arith

  pub before_earlier : (i j : ℕ) → Before plan trace i j → i < j
  before_earlier i j (path, leads) = leads_earlier i path j leads

  goes_on : (i k j : ℕ) → Before plan trace i k → Edge plan trace k j → Before plan trace i j
  goes_on i k j (path, leads) edge = (k ∷ path, (leads, edge))

  chained : (i j : ℕ) (path : List ℕ) (k : ℕ) → Before plan trace i j → Leads plan trace j path k → Before plan trace i k
  chained i j [] k before edge = goes_on i j k before edge
  chained i j (m ∷ path) k before (leads, edge) = goes_on i m k (chained i j path m before leads) edge

  pub through : (i j k : ℕ) → Before plan trace i j → Before plan trace j k → Before plan trace i k
  through i j k before (path, leads) = chained i j path k before leads

  least : (R : ℕ → ℕ → Type 0) → ((i j : ℕ) → Edge plan trace i j → R i j) → ((i j k : ℕ) → R i j → R j k → R i k) → (i : ℕ) (path : List ℕ) (j : ℕ) → Leads plan trace i path j → R i j
  least R edges chain i [] j edge = edges i j edge
  least R edges chain i (k ∷ path) j (leads, edge) = chain i k j (least R edges chain i path k leads) (edges k j edge)

  pub own_before : (i j : ℕ) → IsOwn trace i j → Before plan trace i j
  own_before i j own = ([], record { first = own.first; second = own.second; at_first = own.at_first; at_second = own.at_second; earlier = own.earlier; meets = inl own.worker })

  pub handed_before : (channel : Channel) (i j : ℕ) → IsHanded plan trace channel i j → Before plan trace i j
  handed_before channel i j handed = ([], record { first = handed.stands.giver; second = handed.taker; at_first = handed.stands.at; at_second = handed.at; earlier = handed.stands.earlier; meets = inr (channel, handed.takes, handed.stands) })

  -- an edge is of one of the two kinds
  pub edge_cases : (i j : ℕ) → Edge plan trace i j → IsOwn trace i j ⊎ ((channel : Channel) × IsHanded plan trace channel i j)
  edge_cases i j edge = by edge.meets where
    by : Meets plan trace i j edge.first edge.second → IsOwn trace i j ⊎ ((channel : Channel) × IsHanded plan trace channel i j)
    by (inl same) = inl (record { first = edge.first; second = edge.second; at_first = edge.at_first; at_second = edge.at_second; earlier = edge.earlier; worker = same })
    by (inr (channel, takes, stands)) = inr (channel, record { taker = edge.second; at = edge.at_second; takes = takes; stands = stands })

  pub within_each : (related : ℕ → ℕ → Bool) → ((i j : ℕ) → IsOwn trace i j → IsTrue (related i j)) → ((channel : Channel) (i j : ℕ) → IsHanded plan trace channel i j → IsTrue (related i j))
      → ((i j k : ℕ) → IsTrue (related i j) → IsTrue (related j k) → IsTrue (related i k)) → (i j : ℕ) → Before plan trace i j → IsTrue (related i j)
  within_each related own handed chain i j (path, leads) = least (λ i j. IsTrue (related i j)) (λ i j edge. by i j (edge_cases i j edge)) chain i path j leads where
    by : (i j : ℕ) → IsOwn trace i j ⊎ ((channel : Channel) × IsHanded plan trace channel i j) → IsTrue (related i j)
    by i j (inl o) = own i j o
    by i j (inr (c, h)) = handed c i j h
