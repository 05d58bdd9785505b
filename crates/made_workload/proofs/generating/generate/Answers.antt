use Rattle.std.proofs.Common.{rules, ◌≡◌, ◌++◌, codes, sym, ap, subst, ◌∙◌}
use Rattle.workload.specs.Reads.{Reads}
use Rattle.made_workload.specs.Generated.{generated_plan}
use Rattle.made_workload.specs.Written.{workers_text}
use Rattle.made_workload.proofs.Readable.{no_unrecorded, readable, text_is_canonical}
use Rattle.made_workload.proofs.WrittenText.{text_as_written}
use Rattle.made_workload.proofs.generating.generate.Goals as goal

pub returns-clause-text : goal.returns-clause-text
returns-clause-text c =
    let head : c.extend_from_slice.new.self.items ≡ codes "workers 8\nmutex m\nint64 total\nmap t\n" = search rules in
    c.in_ok-put_workers.ensures ∙ ap (λ t. t ++ workers_text c.args.seed 0 8) head ∙ sym (text_as_written c.args.seed)

pub returns-clause-read : goal.returns-clause-read
returns-clause-read c = subst (λ t. Reads t (generated_plan c.args.seed)) (sym (returns-clause-text c ∙ text_is_canonical c.args.seed)) (c.canonical_reads.ensures (generated_plan c.args.seed) (readable c.args.seed) (no_unrecorded c.args.seed))
