use Rattle.object_checks.proofs.WholeLemmas.{parts_of, from_parts}
use Rattle.object_checks.proofs.journals.laws.a_record_is_its_parts.Goals as goal

pub returns : goal.returns
returns c = λ plan r. (
  parts_of plan (c.parts_have_numbers_of_their_own.ensures.follow plan) (c.parts_have_numbers_of_their_own.ensures.all plan) r,
  from_parts plan (c.parts_have_numbers_of_their_own.ensures.follow plan) (c.parts_have_numbers_of_their_own.ensures.all plan) r,
)
