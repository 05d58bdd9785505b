-- What holds where there is no value.
use Rattle.std.proofs.Common.{◌≡◌, Option, None, subst}
use Rattle.std.specs.Prelude.{IfNone}

pub none_of : {X : Type 0} (o : Option X) {P : Type 0} → o ≡ None → IfNone o P → P
none_of {X} o {P} is holds = subst (λ (r : Option X). IfNone r P) is holds
