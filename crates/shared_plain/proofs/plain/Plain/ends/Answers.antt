use Rattle.std.proofs.Common.{map, length, sym, ap, ◌∙◌, subst}
use Rattle.sync_types.specs.SequentialAtomic.{kind_of}
use Rattle.ruled_object.specs.Gathered.{AreAllPasses, IsWhole}
use Rattle.ruled_object.specs.Passes.{start_of}
use Rattle.sync_model.specs.EndsOfHistory.{HasKeysBelow, AreEnds}
use Rattle.shared_plain.specs.Marks.{own_by, seen_of}
use Rattle.shared_plain.specs.PlainMachine.{Holdings, contents_of, next}
use Rattle.shared_plain.specs.Plains.{kinds_of, maps_of}
use Rattle.shared_plain.proofs.AllEnded.{ended}
use Rattle.shared_plain.proofs.AllSettled.{PassLaws, all_passes}
use Rattle.shared_plain.proofs.Fitting.{keys_stay_below, like_after, maps_stay}
use Rattle.shared_plain.proofs.Walking.{Laws}
use Rattle.shared_plain.proofs.plain.Plain.ends.Goals as goal

pub finish-requires : goal.finish-requires
finish-requires c =
    let plain = c.args.self in
    let laws : PassLaws plain = record { holds = c.passes_and_copies.ensures.holds plain.object; is_pass = c.passes_and_copies.ensures.is_pass plain.object } in
    subst (AreAllPasses plain.object) (sym c.passes_of-passes.ensures) (all_passes plain laws c.args.callers.items c.requires.callers)

pub returns-clause-ends : goal.returns-clause-ends
returns-clause-ends c =
    let plain = c.args.self in
    let laws : PassLaws plain = record { holds = c.passes_and_copies.ensures.holds plain.object; is_pass = c.passes_and_copies.ensures.is_pass plain.object } in
    let callers = c.args.callers.items in
    let start = start_of plain.object in
    let journal = c.finish.ensures.0 in
    let whole = subst (IsWhole next _ _ _ start journal) c.passes_of-passes.ensures c.finish.ensures.1 in
    let of : Laws = record {
      first = c.one_more_call_keeps_the_law.ensures.start;
      more = c.one_more_call_keeps_the_law.ensures.more;
      same = c.one_more_call_keeps_the_law.ensures.same;
      grows = c.fronts_stay_known.ensures.grows;
      known = c.fronts_stay_known.ensures.more;
      was_so = c.what_was_so_stays_so.ensures;
    } in
    subst (λ s. AreEnds own_by seen_of s callers (contents_of c.finish.result)) (ap contents_of plain.begun ∙ c.starts_empty.ensures (maps_of plain) plain.keys (kinds_of plain))
    (subst (λ s. AreEnds own_by seen_of (contents_of start) callers (contents_of s)) (sym c.finish.ensures.2)
    (ended plain laws _ _ callers journal c.requires.callers whole of c.maps_and_atomics_stay.ensures.no_entry c.histories_go_on.ensures.all))

pub returns-clause-maps : goal.returns-clause-maps
returns-clause-maps c = ap (λ (h : Holdings). length h.maps) c.finish.ensures.2 ∙ maps_stay (start_of c.args.self.object) c.finish.ensures.0

pub returns-clause-keys : goal.returns-clause-keys
returns-clause-keys c =
    let plain = c.args.self in
    let start = start_of plain.object in
    subst (λ s. HasKeysBelow plain.keys (contents_of s)) (sym c.finish.ensures.2) (keys_stay_below start c.finish.ensures.0 (maps_of plain) plain.keys (kinds_of plain) plain.begun)

pub returns-clause-kinds : goal.returns-clause-kinds
returns-clause-kinds c = ap (λ (h : Holdings). map kind_of h.numbers) c.finish.ensures.2 ∙ (like_after (start_of c.args.self.object) c.finish.ensures.0).kinds_are
