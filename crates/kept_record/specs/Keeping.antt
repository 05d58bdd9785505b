-- How a record is kept of what is made in one order: each call gets its place in the shared history, each entry stands behind those before it in
-- its object's journal, and a front grows by what an event takes in and by each call of its worker.
use Rattle.std.specs.Prelude.{ℕ, ◌+◌, ◌==◌, max, cond, List, [], ◌∷◌, ◌++◌, map, length, replicate, get_or, slice_set, slice_index, fold}
use Rattle.std.specs.List.{range_with_len}
use Rattle.sync_model.specs.declared.item.Item.{Item}
use Rattle.sync_model.specs.declared.item.SharedEntry.{SharedEntry}
use Rattle.sync_model.specs.declared.journal.Deed.{Deed}
use Rattle.sync_model.specs.Journal.{is_such}
use Rattle.sync_model.specs.SharedHistory.{Contents, is_entry, shared_after, history_with}
use Rattle.workload.specs.Plan.{Plan}
use Rattle.run_record.specs.declared.entered.ObjectEvent.{ObjectEvent}
use Rattle.run_record.specs.declared.entered.ObjectReply.{ObjectReply}
use Rattle.run_record.specs.declared.made.Made.{Made}
use Rattle.run_record.specs.declared.made.Made.TheVariants.{Shared, Entered}
use Rattle.run_record.specs.Edges.{frees, takes}
use Rattle.run_record.specs.Objects.{contents_of, object_count}
use Rattle.run_record.specs.Record.{Record, ObjectEntry, entries_in}

-- What a worker made: a call on a map or an atomic, or an entry of the journal of an object
pub record Act : Type 0 where
  pub worker : ℕ
  pub made : Made

-- what one worker made, in its order
abbrev pub made_by : ℕ → List Act → List Made
made_by worker [] = []
made_by worker (act ∷ acts) = cond (act.worker == worker) (act.made ∷ made_by worker acts) (made_by worker acts)

-- the entries of an object, in order
abbrev pub entries_on : ℕ → List Act → List ObjectEntry
entries_on object acts = entries_in object (map (λ act. act.made) acts)

-- what is kept of a run so far
pub record Account : Type 0 where
  pub acts : List Act  -- what was made, in order, each as the record has it
  pub history : List SharedEntry
  pub contents : Contents  -- what the maps and atomics contain after it
  pub fronts : List (List ℕ)  -- what each worker knows
  pub released : List (List ℕ)  -- for each object what was known at some event on it that released

abbrev pub known_by : ℕ → Account → List ℕ
known_by worker kept = get_or kept.fronts worker []

abbrev pub released_at : ℕ → Account → List ℕ
released_at object kept = get_or kept.released object []

-- ---- fronts

-- what is known by two fronts together: for each worker the greater number
abbrev pub joined : List ℕ → List ℕ → List ℕ
joined [] other = other
joined (n ∷ front) [] = n ∷ front
joined (n ∷ front) (m ∷ other) = max n m ∷ joined front other

-- one more call of its own
abbrev pub counted : ℕ → List ℕ → List ℕ
counted worker front = slice_set front worker (slice_index front worker + 1)

-- what a worker knows behind an entry, of what was released on the object and what it knew: an event that acquires takes in
abbrev pub learnt : Deed ObjectEvent ObjectReply → List ℕ → List ℕ → List ℕ
learnt deed released known = cond (is_such takes deed) (joined known released) known

-- what is released on the object behind an entry, at which its worker knows this: an event that releases adds to it
abbrev pub given : Deed ObjectEvent ObjectReply → List ℕ → List ℕ → List ℕ
given deed known released = cond (is_such frees deed) (joined released known) released

-- ---- one act more

-- A call's place is the number of entries so far, and a cursor's call has the same number as its reach. Its front counts what its worker knew before it
abbrev pub placed : ℕ → Item → Account → Item
placed worker x kept = record { call = x.call; reply = x.reply; place = length kept.history; entry = is_entry x.call kept.contents; front = known_by worker kept }

abbrev pub with_call : ℕ → Item → Account → Account
with_call worker x kept = record {
  acts = kept.acts ++ record { worker = worker; made = Shared x } ∷ [];
  history = history_with kept.history worker x;
  contents = cond x.entry (shared_after x.call kept.contents) kept.contents;
  fronts = slice_set kept.fronts worker (counted worker (known_by worker kept));
  released = kept.released;
}

-- an entry has the front that its worker has behind it, and its number among all that was made
abbrev pub entered : ℕ → ℕ → ObjectEntry → Account → ObjectEntry
entered worker object entry kept = record {
  caller = worker;
  deed = entry.deed;
  front = learnt entry.deed (released_at object kept) (known_by worker kept);
  knew = length (entries_on object kept.acts);
  time = length kept.acts;
}

abbrev pub with_entry : ℕ → ℕ → ObjectEntry → Account → Account
with_entry worker object entry kept = record {
  acts = kept.acts ++ record { worker = worker; made = Entered object entry } ∷ [];
  history = kept.history;
  contents = kept.contents;
  fronts = slice_set kept.fronts worker entry.front;
  released = slice_set kept.released object (given entry.deed entry.front (released_at object kept));
}

-- by what is made
abbrev pub with_made : ℕ → Made → Account → Account
with_made worker (Shared x) kept = with_call worker (placed worker x kept) kept
with_made worker (Entered object entry) kept = with_entry worker object (entered worker object entry kept) kept

abbrev pub with_act : Account → Act → Account
with_act kept act = with_made act.worker act.made kept

-- ---- a run

-- before anything is made nobody knows of a call, and nothing is released
abbrev pub none_known : Plan → List ℕ
none_known plan = replicate plan.workers 0

abbrev pub opened : Plan → Account
opened plan = record { acts = []; history = []; contents = contents_of plan; fronts = replicate plan.workers (none_known plan); released = replicate (object_count plan) (none_known plan) }

-- what is kept of these acts
abbrev pub account_of : Plan → List Act → Account
account_of plan acts = fold with_act (opened plan) acts

-- the record that it makes: each object's journal and each worker's list are parts of the one order
abbrev pub record_by : Plan → Account → Record
record_by plan kept = record {
  history = kept.history;
  journals = map (λ object. entries_on object kept.acts) (range_with_len 0 (object_count plan));
  lists = map (λ worker. made_by worker kept.acts) (range_with_len 0 plan.workers);
}

abbrev pub record_of : Plan → List Act → Record
record_of plan acts = record_by plan (account_of plan acts)
