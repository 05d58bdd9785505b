-- That the beginning of a list which spells a call is found in one way.
use Rattle.std.specs.Prelude.{◌≡◌, List, ◌++◌}
use Rattle.protocols.specs.Spelling.{CallAnswer}
use Rattle.run_record.specs.declared.made.Made.{Made}
use Rattle.run_record.specs.Parts.{Part}

-- Of two beginnings of one list that are both such a part, both are the same, and so is what the part answers by them
abbrev pub IsCertain : {O : Type 0} → Part O → Type 0
IsCertain {O} part = (items other rest more : List Made) (answer given : CallAnswer O) → part items answer → part other given → items ++ rest ≡ other ++ more → (items ≡ other) × (rest ≡ more) × (answer ≡ given)
