-- The first callers have their passes again.
use Rattle.std.proofs.Common.{◌≡◌, ℕ, ◌<◌, ◌≤◌, List, Some, slice_get}
use Rattle.sync_model.specs.declared.caller.Caller.{Caller}
use Rattle.ruled_object.specs.Assembled.{HandsBack}
use Rattle.shared_plain.specs.declared.mark.Mark.{Mark}
use Rattle.shared_plain.specs.PlainHistory.{Step}
use Rattle.shared_plain.specs.Settling.{PlainPass, AreSameMarks, IsBack}
use Rattle.shared_plain.proofs.plain.Plain.hand_all_back.Given as goal

abbrev pub invariant-loop-caller : goal.invariant-loop-caller
invariant-loop-caller l = record {
  hands : (journal : List Step) (passes : List PlainPass) → HandsBack l.self.object 0 journal passes l.initial.all → HandsBack l.self.object l.caller-index journal passes l.all;
  same : AreSameMarks l.initial.callers l.callers;
  back : (journal : List Step) (passes : List PlainPass) → HandsBack l.self.object 0 journal passes l.initial.all → (i : ℕ) (caller : Caller Mark) → i < l.caller-index → slice_get l.callers i ≡ Some caller → IsBack l.self journal passes i caller.note;
  rest : (i : ℕ) → l.caller-index ≤ i → slice_get l.callers i ≡ slice_get l.initial.callers i;
}
