use Rattle.go_sync.proofs.go_group.GoCaller.run.Goals as goal

pub returns-clause-ran : goal.returns-clause-ran
returns-clause-ran g c = record {
  live = c.wait_start.new.self;
  told = rw c.in-Done-true.field-0-test at c.in-Done-true.ensures;
  done = c.done.new.self;
  taken = c.done.result;
  takes = c.done.ensures;
  ended = c.end.result;
  ends = c.end.ensures;
}
