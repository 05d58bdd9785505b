use Rattle.sync_model.specs.SharedHistory.{contents_after}
use Rattle.run_record.specs.Objects.{contents_of}
use Rattle.run_laws.proofs.AsMany.{as_many_after}
use Rattle.run_laws.proofs.EndsShown.{shown_in, shows_number, shows_pair, numbered_by, named_by, unnamed_by}
use Rattle.run_laws.proofs.ends.the_ends_show_what_is_there.Goals as goal

pub returns-clause-number : goal.returns-clause-number
returns-clause-number c plan place object type left r at kind explains =
    let long = as_many_after r.history (contents_of plan) in
    shown_in plan left r explains _ (shows_number plan (contents_after (contents_of plan) r.history) long.0 long.1 place object type at kind)

pub returns-clause-pair : goal.returns-clause-pair
returns-clause-pair c plan place key value object left r at kind explains has =
    let long = as_many_after r.history (contents_of plan) in
    let numbered = numbered_by plan r left explains c.maps_end_with_the_workloads_keys.ensures c.keys_are_numbered_by_first_appearance.ensures.number in
    shown_in plan left r explains _ (shows_pair plan (contents_after (contents_of plan) r.history) long.0 long.1 numbered
    (named_by plan r left explains numbered c.maps_by_name_have_the_same_values.ensures.value)
    (unnamed_by plan r left explains numbered c.maps_by_name_have_the_same_values.ensures.none)
    place key value object at kind has)
