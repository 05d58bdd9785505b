use Rattle.std.specs.Ordering.{nat_cmp}
use Rattle.std.specs.FinMap.{nat_cmp-IsAntisymmetric}
use Rattle.std.proofs.lemmas.Cmp.{nat_cmp_total}
use Rattle.record_text.proofs.LawfulLines.{line_of}
use Rattle.record_text.proofs.laws.each_item_of_a_record_has_a_line.Goals as goal

pub returns : goal.returns
returns c plan outcome r worker place number index item readable explains =
    line_of plan outcome r readable explains c.validity.ensures.begins c.validity.ensures.goes_on c.validity.ensures.same_callers c.keys_are_numbered_by_first_appearance.ensures.keys (c.calls_leave_other_keys.ensures nat_cmp (nat_cmp_total, nat_cmp-IsAntisymmetric)) c.only_a_clear_has_no_key.ensures c.each_entry_is_a_call.ensures.call (c.parts_have_numbers_of_their_own.ensures.apart plan) worker place number index item
