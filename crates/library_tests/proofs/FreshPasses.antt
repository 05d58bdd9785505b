-- The passes of new objects, one by one.
use Rattle.std.proofs.Common.{List}
use Rattle.std.proofs.lemmas.Option.{slice_get-get_or}
use Rattle.go_waits.specs.declared.once.Once.{Once}
use Rattle.go_waits.specs.Onces.{OncePass, AreNew}
use Rattle.library_tests.specs.Fresh.{AreFresh}

pub fresh : {T N H : Type 0} (once : Once T N H) (passes : List (OncePass T N)) → AreNew once 1000000 passes → AreFresh once passes
fresh once passes new = λ k d below. let at = slice_get-get_or passes k d below in ((new.all.each k _ at).0, new.left k _ at)
