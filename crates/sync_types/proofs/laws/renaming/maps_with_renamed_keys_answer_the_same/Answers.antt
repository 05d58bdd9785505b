use Rattle.sync_types.proofs.RenamingLemmas.{none_renamed, same_reply, same_entry, renamed_after}
use Rattle.sync_types.proofs.laws.renaming.maps_with_renamed_keys_answer_the_same.Goals as goal

pub returns-clause-starts : goal.returns-clause-starts
returns-clause-starts g c = λ R S rename is_key. none_renamed rename is_key

pub returns-clause-reply : goal.returns-clause-reply
returns-clause-reply g c = λ R S rename is_key m n call renamed. same_reply rename is_key m n renamed call

pub returns-clause-entry : goal.returns-clause-entry
returns-clause-entry g c = λ R S rename is_key m n call renamed. same_entry rename is_key m n renamed call

pub returns-clause-after : goal.returns-clause-after
returns-clause-after g c = λ R S o p rename is_key one m n call renamed. renamed_after rename is_key m n renamed o p one call
