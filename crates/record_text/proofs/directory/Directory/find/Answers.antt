use Rattle.record_text.proofs.DirectoryLemmas.{found, not_found}
use Rattle.record_text.proofs.directory.Directory.find.Goals as goal

pub returns-in_err-kind : goal.returns-in_err-kind
returns-in_err-kind c = absurd (not_found c.args.self.now c.args.word.now c.in_ok-number.number c.in_ok-number.ensures c.in_err-kind.ensures)

pub returns : goal.returns
returns c = found c.args.self.now c.args.word.now c.in_ok-number.number c.in_ok-kind.kind c.in_ok-number.ensures c.in_ok-kind.ensures
