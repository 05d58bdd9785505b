use Rattle.std.proofs.Common.{◌≡◌, ℕ, Option, refl}
use Rattle.std.specs.FinMap.{get, nat_cmp-IsAntisymmetric}
use Rattle.std.specs.Ordering.{nat_cmp}
use Rattle.std.proofs.lemmas.Cmp.{nat_cmp_total}
use Rattle.sync_types.specs.declared.map_object.MapReply.TheVariants.{Found}
use Rattle.table_words.proofs.laws.key_laws.Goals as goal

found_is : (a b : Option ℕ) → Found a ≡ Found b → a ≡ b
found_is a b e = cc

pub returns : goal.returns
returns c = record {
  replies = λ call key m on. c.its_key_decides_a_call.ensures.reply nat_cmp m call key (get m key) on refl;
  entries = λ call key m on. c.its_key_decides_a_call.ensures.entry nat_cmp m call key (get m key) on refl;
  left = λ call key m on. found_is _ _ (c.its_key_decides_a_call.ensures.after nat_cmp (nat_cmp_total, nat_cmp-IsAntisymmetric) m call key (get m key) on refl);
  others = λ call key other m on ne. found_is _ _ (c.calls_leave_other_keys.ensures nat_cmp (nat_cmp_total, nat_cmp-IsAntisymmetric) m call key other on ne);
}
