use Rattle.record_text.proofs.OneText.{same_told}
use Rattle.record_text.proofs.ReadPlans.{reads_plain}
use Rattle.record_text.proofs.laws.a_text_tells_one_thing.Goals as goal

pub returns : goal.returns
returns c = same_told c.one_reading.ensures (λ bytes plan reads. reads_plain bytes plan reads (c.keys_are_numbered_by_first_appearance.ensures.number plan.scripts))
