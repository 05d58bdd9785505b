use Rattle.std.proofs.Common.{slice_get, refl}
use Rattle.shared_plain.proofs.Cursors.{shown_at, none_from}
use Rattle.shared_plain.proofs.laws.steps_show_the_least_key.Goals as goal

pub returns-clause-shown : goal.returns-clause-shown
returns-clause-shown c h caller m begin from key value answered is reply = shown_at h m from key value (slice_get h.maps m) answered refl is reply

pub returns-clause-none : goal.returns-clause-none
returns-clause-none c h caller m begin from answered is reply = none_from h m from (slice_get h.maps m) answered refl is reply
