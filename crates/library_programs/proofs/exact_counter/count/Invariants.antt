use Rattle.std.specs.Prelude.{◌*◌}
use Rattle.library_programs.proofs.exact_counter.count.Given as goal

abbrev pub ghosts-count_hits-J-Job : goal.ghosts-count_hits-J-Job
ghosts-count_hits-J-Job g a = record { hits = a.threads * a.each }

abbrev pub ghosts-count_hits-J-Ledger : goal.ghosts-count_hits-J-Ledger
ghosts-count_hits-J-Ledger g a = record { name = a.blank.name; parts = a.blank.parts }
