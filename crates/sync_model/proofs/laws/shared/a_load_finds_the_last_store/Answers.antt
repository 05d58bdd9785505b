use Rattle.std.proofs.Common.{refl, ◌∷◌, ◌++◌}
use Rattle.sync_model.proofs.SharedReads.{loads_value, loads_number, loads_none, loads_zero}
use Rattle.sync_model.proofs.laws.shared.a_load_finds_the_last_store.Goals as goal

pub returns-clause-map : goal.returns-clause-map
returns-clause-map c = λ start earlier between later store calls c j m key value load lawful at placed loads stores leave there.
    loads_value start earlier between later store (earlier ++ store ∷ (between ++ later)) calls lawful refl c j load at placed m key value there stores leave loads

pub returns-clause-atomic : goal.returns-clause-atomic
returns-clause-atomic c = λ start earlier between later store calls c j a value load lawful at placed loads stores leave there.
    loads_number start earlier between later store (earlier ++ store ∷ (between ++ later)) calls lawful refl c j load at placed a value there stores leave loads

pub returns-clause-no_value : goal.returns-clause-no_value
returns-clause-no_value c = λ maps kinds earlier later calls c j m key load lawful at placed loads leave. loads_none maps kinds earlier later calls lawful c j load at placed m key loads leave

pub returns-clause-zero : goal.returns-clause-zero
returns-clause-zero c = λ maps kinds earlier later calls c j a kind load lawful at placed loads there leave. loads_zero maps kinds earlier later calls lawful c j load at placed a kind loads there leave
