use Rattle.std.proofs.Common.{ap, ◌∙◌, subst}
use Rattle.sync_model.specs.Shared.{Settled}
use Rattle.shared_plain.specs.Marks.{front_by, own_by, seen_of}
use Rattle.shared_plain.specs.PlainMachine.{contents_of}
use Rattle.shared_plain.specs.Plains.{kinds_of, maps_of}
use Rattle.shared_plain.specs.Settling.{passes_in}
use Rattle.shared_plain.proofs.AllSettled.{PassLaws, all_passes, still_numbered, still_all, still_same, settled}
use Rattle.shared_plain.proofs.Gathered.{marks_joined}
use Rattle.shared_plain.proofs.Walking.{Laws}
use Rattle.shared_plain.proofs.shared.PlainShared.settle.Goals as goal

pub look_at_all-requires : goal.look_at_all-requires
look_at_all-requires c =
    let plain = c.args.self.now in
    let laws : PassLaws plain = record { holds = c.passes_and_copies.ensures.holds plain.object; is_pass = c.passes_and_copies.ensures.is_pass plain.object } in
    (passes_in c.args.callers.now, c.bring_all-all.ensures.all, all_passes plain laws c.args.callers.now c.requires)

pub hand_all_back-requires-clause-all : goal.hand_all_back-requires-clause-all
hand_all_back-requires-clause-all c =
    let plain = c.args.self.now in
    let laws : PassLaws plain = record { holds = c.passes_and_copies.ensures.holds plain.object; is_pass = c.passes_and_copies.ensures.is_pass plain.object } in
    let passes = passes_in c.args.callers.now in
    let looked = c.look_at_all.ensures passes c.bring_all-all.ensures.all (all_passes plain laws c.args.callers.now c.requires) in
    (looked.0, passes, looked.3)

pub hand_all_back-requires-clause-order : goal.hand_all_back-requires-clause-order
hand_all_back-requires-clause-order c i caller at = still_numbered c.args.self.now c.args.callers.now _ c.requires c.bring_all-all.ensures.callers i caller at

pub returns-clause-callers : goal.returns-clause-callers
returns-clause-callers c =
    let plain = c.args.self.now in
    let laws : PassLaws plain = record { holds = c.passes_and_copies.ensures.holds plain.object; is_pass = c.passes_and_copies.ensures.is_pass plain.object } in
    let old = c.args.callers.now in
    let new = c.hand_all_back.new.callers in
    let looked = c.look_at_all.ensures (passes_in old) c.bring_all-all.ensures.all (all_passes plain laws old c.requires) in
    let same = marks_joined old _ new c.bring_all-all.ensures.callers c.hand_all_back.ensures.callers in
    let back = c.hand_all_back.ensures.back looked.0 (passes_in old) looked.3 in
    still_all plain laws _ _ old new looked.0 c.requires looked.2 same back

pub returns-clause-same : goal.returns-clause-same
returns-clause-same c =
    let plain = c.args.self.now in
    let laws : PassLaws plain = record { holds = c.passes_and_copies.ensures.holds plain.object; is_pass = c.passes_and_copies.ensures.is_pass plain.object } in
    let old = c.args.callers.now in
    let new = c.hand_all_back.new.callers in
    let looked = c.look_at_all.ensures (passes_in old) c.bring_all-all.ensures.all (all_passes plain laws old c.requires) in
    let same = marks_joined old _ new c.bring_all-all.ensures.callers c.hand_all_back.ensures.callers in
    let back = c.hand_all_back.ensures.back looked.0 (passes_in old) looked.3 in
    still_same plain laws _ _ old new looked.0 c.requires looked.2 same back

pub returns-clause-settled : goal.returns-clause-settled
returns-clause-settled c =
    let plain = c.args.self.now in
    let laws : PassLaws plain = record { holds = c.passes_and_copies.ensures.holds plain.object; is_pass = c.passes_and_copies.ensures.is_pass plain.object } in
    let old = c.args.callers.now in
    let new = c.hand_all_back.new.callers in
    let looked = c.look_at_all.ensures (passes_in old) c.bring_all-all.ensures.all (all_passes plain laws old c.requires) in
    let same = marks_joined old _ new c.bring_all-all.ensures.callers c.hand_all_back.ensures.callers in
    let back = c.hand_all_back.ensures.back looked.0 (passes_in old) looked.3 in
    let of : Laws = record {
      first = c.one_more_call_keeps_the_law.ensures.start;
      more = c.one_more_call_keeps_the_law.ensures.more;
      same = c.one_more_call_keeps_the_law.ensures.same;
      grows = c.fronts_stay_known.ensures.grows;
      known = c.fronts_stay_known.ensures.more;
      was_so = c.what_was_so_stays_so.ensures;
    } in
    subst (λ s. Settled own_by front_by seen_of s new) (ap contents_of plain.begun ∙ c.starts_empty.ensures (maps_of plain) plain.keys (kinds_of plain))
    (settled plain laws _ _ old new looked.0 c.requires looked.2 same back of c.maps_and_atomics_stay.ensures.no_entry c.histories_go_on.ensures.all)
