use Rattle.std.proofs.Common.{◌≡◌, ◌++◌, ap, sym, subst, ◌∙◌}
use Rattle.workload.specs.declared.keyword.Dialect.TheVariants.{Runs, Races}
use Rattle.workload.specs.Words.{first_spelled}
use Rattle.workload.specs.Reads.{Reads, ReadsIn}
use Rattle.workload.specs.Canonical.{canonical, text_line, lines_text, canonical_lines}
use Rattle.workload_text.proofs.printing.print.Goals as goal

pub returns-clause-text : goal.returns-clause-text
returns-clause-text c =
    let first = c.in_ok-put_numbered.ensures ∙ ap (λ t. t ++ text_line (first_spelled c.workers.result)) c.new-text.ensures.items ∙ ap (λ n. text_line (first_spelled n)) c.workers.ensures.workers in
    c.in_ok-put_lines.ensures ∙ ap (λ t. t ++ lines_text (canonical_lines c.args.workload.now)) first

pub returns-clause-read : goal.returns-clause-read
returns-clause-read c recorded = subst (λ t. Reads t c.args.workload.now) (sym (returns-clause-text c)) (c.canonical_reads.ensures c.args.workload.now c.workers.ensures.readable recorded)

pub returns-clause-runs : goal.returns-clause-runs
returns-clause-runs c plain = subst (λ t. ReadsIn Runs t c.args.workload.now) (sym (returns-clause-text c)) (c.run_texts_are_read_or_refused.ensures.canonical c.args.workload.now c.workers.ensures.readable plain)

pub returns-clause-races : goal.returns-clause-races
returns-clause-races c known = subst (λ t. ReadsIn Races t c.args.workload.now) (sym (returns-clause-text c)) (c.race_texts_are_read_or_refused.ensures.canonical c.args.workload.now c.workers.ensures.readable known)
