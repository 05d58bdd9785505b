use Rattle.std.proofs.Common.{◌≡◌, ℕ, ◌+◌, Bool, false, cond, refl, sym, ap, subst, arith}
use Rattle.workload.specs.Plan.{Plan, has_dormant}
use Rattle.run_record.specs.Explains.{IsAtEnd}
use Rattle.run_record.specs.Lines.{Stay, LineEnd, whole, misused, halted, unfinished, stayed, Line, OpensBy, IsLineOf}
use Rattle.run_record.specs.Objects.{starts_number}
use Rattle.run_record.proofs.PlainLemmas.{nobody, none_first, none_stayed, opens_so, ends_plainly, ends_so, plainly_came}
use Rattle.run_record.proofs.laws.starts.where_nobody_waits_to_be_started_lists_are_of_calls.Goals as goal

came : (plan : Plan) (worker : ℕ) (line : Line) → has_dormant plan ≡ false → IsLineOf plan worker line → (stay : Stay) → line.ending ≡ stayed stay → ⊥
came plan worker line none is stay ending = none_stayed plan worker (nobody plan.dormant worker none) stay line.spelt line.first (subst (λ (e : LineEnd). OpensBy plan worker e line.spelt line.first) ending is.opens)

pub returns-clause-lines : goal.returns-clause-lines
returns-clause-lines c plan worker line none = (
  λ is. record {
    none = none_first plan worker (nobody plan.dormant worker none) line.ending line.spelt line.first is.opens;
    calls = is.calls;
    ends = ends_plainly plan worker none _ line.ending line.rest line.last (came plan worker line none is) is.ends;
    halts = is.halts;
  },
  λ is. record {
    opens = opens_so plan worker (nobody plan.dormant worker none) line.ending line.spelt line.first is.none (λ stay. plainly_came plan worker none _ line.ending line.rest line.last stay is.ends);
    calls = is.calls;
    ends = ends_so plan worker none _ line.ending line.rest line.last is.ends;
    halts = is.halts;
  },
)

pub returns-clause-objects : goal.returns-clause-objects
returns-clause-objects c plan none = omega (arith, ap (λ (b : Bool). starts_number plan + cond b 1 0) none)

at_end : (ending : LineEnd) → ((stay : Stay) → ending ≡ stayed stay → ⊥) → IsAtEnd ending → ending ≡ whole
at_end whole none ended = refl
at_end (misused misuse) none ended = absurd ended
at_end (halted misuse) none ended = absurd ended
at_end unfinished none ended = absurd ended
at_end (stayed stay) none ended = absurd (none stay refl)

pub returns-clause-done : goal.returns-clause-done
returns-clause-done c plan worker line none is = (at_end line.ending (came plan worker line none is), λ ending. subst IsAtEnd (sym ending) tt)
