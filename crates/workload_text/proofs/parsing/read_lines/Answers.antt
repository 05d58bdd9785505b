use Rattle.std.proofs.Common.{List, ℕ, subst}
use Rattle.workload.specs.Lines.{lines_of}
use Rattle.workload_text.proofs.ReadLemmas.{Goes, goes_wrong}
use Rattle.workload_text.proofs.parsing.read_lines.Goals as goal

-- a line with a fault of its own is refused behind any draft
pub returns-in-Err : goal.returns-in-Err
returns-in-Err c =
    let all = lines_of c.args.bytes.now in
    let draft = c.loop-rest.draft in
    let next = c.loop-rest.next in
    let goes = subst (λ (ls : List (List ℕ)). Goes c.args.dialect all draft ls next) c.split_line.ensures.line c.loop-rest.invariant.0 in
    rw c.at_line.ensures (goes_wrong c.args.dialect all draft _ _ next c.in-Err.unsound goes (c.in-Err.ensures c.args.dialect draft))
