use Rattle.std.proofs.Common.{◌≡◌, ℕ, length, [], slice_get, Some, arith, refl, sym, ap, ◌∙◌, subst}
use Rattle.std.proofs.lemmas.Option.{get_or_from_slice_get}
use Rattle.sync_model.specs.declared.caller.Caller.{Caller}
use Rattle.shared_plain.specs.declared.mark.Mark.{Mark}
use Rattle.shared_plain.specs.declared.plain.Plain.{Plain}
use Rattle.std.specs.Prelude.{slice_index}
use Rattle.ruled_object.specs.Passes.{start_of}
use Rattle.shared_plain.specs.PlainMachine.{first_holdings}
use Rattle.shared_plain.proofs.Beginnings.{maps_asked, kinds_asked, is_first, beside, length-beside, IsNewMark, new_mark}
use Rattle.shared_plain.proofs.plain.Plain.new.Goals as goal

pub invariant_of-result : goal.invariant_of-result
invariant_of-result c = record { begun = is_first (start_of c.in_ok-object.object) c.args.maps c.args.keys c.args.kinds.now (c.in_ok-object.ensures.object.1 ∙ c.in_ok-start.ensures) }

pub returns-clause-plain : goal.returns-clause-plain
returns-clause-plain c =
    let start = start_of c.in_ok-object.object in
    let is : start ≡ first_holdings c.args.maps c.args.keys c.args.kinds.now = c.in_ok-object.ensures.object.1 ∙ c.in_ok-start.ensures in
    (kinds_asked start c.args.maps c.args.keys c.args.kinds.now is, maps_asked start c.args.maps c.args.keys c.args.kinds.now is, search, let n = c.in_ok-object.ensures.object.0 in omega arith)

pub returns-clause-callers : goal.returns-clause-callers
returns-clause-callers c =
    let plain : Plain = record { object = c.in_ok-object.object; keys = c.args.keys; begun = c.result-1.given.0 } in
    let passes = c.in_ok-object.passes.items in
    let spare = c.args.spare.now in
    let callers = c.in_ok-callers.callers.items in
    let new = c.in_ok-object.ensures.passes in
    let made = c.in_ok-callers.ensures in
    let count = c.in_ok-object.ensures.object.0 in
    let many : length passes ≡ length spare = let n = new.all.count in omega arith in
    let each : (i : ℕ) (caller : Caller Mark) → slice_get callers i ≡ Some caller → IsNewMark plain i (slice_index spare i) caller.note = λ i caller at.
    let both = beside _ passes spare i caller (ap (λ l. slice_get l i) (sym made) ∙ at) in
    let pass = new.all.each i both.first both.at_first in
    let note = c.passes_and_copies.ensures.holds _ both.first pass.0 in
    subst (λ (x : Caller Mark). IsNewMark plain i (slice_index spare i) x.note) both.is
    (new_mark plain _ i (slice_index spare i) note.0 note.1 pass.1 (new.seen i both.first both.at_first) (new.own i both.first both.at_first) (sym count) (sym (get_or_from_slice_get spare i both.second 0 both.at_second)) refl) in
    record {
      all = record {
        all = ap length made ∙ (length-beside _ passes spare many ∙ new.all.count);
        each = λ i caller at. let is = each i caller at in (is.is, (record { number = i; items = []; times = []; spare = slice_index spare i }, is.own, refl));
      };
      own = λ i caller at. (each i caller at).own;
      seen = λ i caller at. (each i caller at).seen;
      knows = λ i k caller at. (each i caller at).knows k;
    }
