use Rattle.table_rule.proofs.laws.an_entry_stays_as_it_was_read.Goals as goal

pub returns : goal.returns
returns c k s r j v l is leaf = let t = (r.suits j v is.0 is.1).leaf l leaf in (t.key, t.value)
