-- Writes that are made one after the other.
use Rattle.std.proofs.Common.{◌≡◌, ℕ, zero, suc, ◌+◌, ap, ◌∙◌, arith}
use Rattle.sync_outside.specs.Faults.{raised}
use Rattle.run_report.specs.Writes.{raised_times, Wrote, WroteUpTo}

-- a part of all writes was made, and so many are left
pub record Writing (before now all left : ℕ) : Type 0 where
  pub done : ℕ
  pub made : Wrote before now done
  pub rest : all ≡ done + left

times_add : (more done count : ℕ) → raised_times more (raised_times done count) ≡ raised_times (done + more) count
times_add zero done count =
    let e : done ≡ done + 0 = omega arith in
    ap (λ (n : ℕ). raised_times n count) e
times_add (suc more) done count =
    let e : suc (done + more) ≡ done + suc more = omega arith in
    ap raised (times_add more done count) ∙ ap (λ (n : ℕ). raised_times n count) e

-- so many more were made
pub writes_on : (before now new all here more left : ℕ) → here ≡ more + left → Writing before now all here → Wrote now new more → Writing before new all left
writes_on before now new all here more left e h wrote = record {
  done = h.done + more;
  made = wrote ∙ ap (raised_times more) h.made ∙ times_add more h.done before;
  rest = omega (arith, h.rest, e);
}

-- some of those that are next were made
pub writes_cut : (before now new all here more left : ℕ) → here ≡ more + left → Writing before now all here → WroteUpTo now new more → WroteUpTo before new all
writes_cut before now new all here more left e h cut = (
  h.done + cut.0,
  omega (arith, cut.1, h.rest, e),
  cut.2 ∙ ap (raised_times cut.0) h.made ∙ times_add cut.0 h.done before,
)

-- one more was made
pub write_on : (before now new all here left : ℕ) → here ≡ suc left → Writing before now all here → new ≡ raised now → Writing before new all left
write_on before now new all here left e h wrote =
    let one : here ≡ 1 + left = omega (arith, e) in
    writes_on before now new all here 1 left one h wrote

-- the next one was, and failed
pub write_cut : (before now new all here left : ℕ) → here ≡ suc left → Writing before now all here → new ≡ raised now → WroteUpTo before new all
write_cut before now new all here left e h wrote =
    let one : here ≡ 1 + left = omega (arith, e) in
    writes_cut before now new all here 1 left one h (1, omega arith, wrote)

-- none is left
pub writes_end : (before now all here : ℕ) → here ≡ 0 → Writing before now all here → Wrote before now all
writes_end before now all here e h =
    let done : h.done ≡ all = omega (arith, h.rest, e) in
    h.made ∙ ap (λ (n : ℕ). raised_times n before) done

-- those of one text, and then of another
pub writes_both : (before mid now one other : ℕ) → Wrote before mid one → Wrote mid now other → Wrote before now (one + other)
writes_both before mid now one other first second = second ∙ ap (raised_times other) first ∙ times_add other one before

pub writes_after : (before mid now one other : ℕ) → Wrote before mid one → WroteUpTo mid now other → WroteUpTo before now (one + other)
writes_after before mid now one other first cut = (one + cut.0, omega (arith, cut.1), cut.2 ∙ ap (raised_times cut.0) first ∙ times_add cut.0 one before)
