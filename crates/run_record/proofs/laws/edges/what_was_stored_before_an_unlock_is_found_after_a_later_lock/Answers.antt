use Rattle.std.proofs.Common.{◌≡◌, true, length, take, ap, ◌∙◌}
use Rattle.sync_model.specs.Journal.{is_such}
use Rattle.run_record.specs.Edges.{frees, takes}
use Rattle.run_record.specs.Objects.{contents_of}
use Rattle.run_record.specs.Record.{list_of, calls_of, shared_in}
use Rattle.run_record.proofs.ListLemmas.{shared_at}
use Rattle.run_record.proofs.laws.edges.what_was_stored_before_an_unlock_is_found_after_a_later_lock.Goals as goal

pub returns-clause-edge : goal.returns-clause-edge
returns-clause-edge c plan r giver taker i j k l object m n a key value store load first second lawful at_store earlier at_first at_second later at_load before in_first in_second frees_first takes_second stores loads there =
    let start = contents_of plan in
    let x = length (shared_in (take i (list_of r giver))) in
    let y = length (shared_in (take l (list_of r taker))) in
    let at_x = shared_at (list_of r giver) i store at_store in
    let at_y = shared_at (list_of r taker) l load at_load in
    let entry = c.each_entry_is_a_call.ensures.store start r.history (calls_of r) giver x a key value store lawful.shared at_x stores in
    let below = c.an_edge_makes_known.ensures.below plan r giver taker i j k l object m n store load first second lawful at_store earlier at_first at_second later at_load before in_first in_second frees_first takes_second entry in
    c.a_load_behind_a_store_finds_it_or_a_later_one.ensures start r.history (calls_of r) taker giver x y a key value store load lawful.shared at_x at_y stores loads there below

pub returns-clause-mutex : goal.returns-clause-mutex
returns-clause-mutex c plan r giver taker i j k l object m n a key value store load unlock lock event freed had lawful at_store earlier at_unlock at_lock later at_load before in_unlock in_lock unlocks frees_it locks takes_it stores loads there =
    let frees_first : is_such frees unlock.deed ≡ true = ap (is_such frees) unlocks ∙ frees_it in
    let takes_second : is_such takes lock.deed ≡ true = ap (is_such takes) locks ∙ takes_it in
    returns-clause-edge c plan r giver taker i j k l object m n a key value store load unlock lock lawful at_store earlier at_unlock at_lock later at_load before in_unlock in_lock frees_first takes_second stores loads there
