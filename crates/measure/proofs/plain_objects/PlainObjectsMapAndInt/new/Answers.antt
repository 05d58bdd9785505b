use Rattle.std.proofs.Common.{refl, subst, sym}
use Rattle.std.specs.Option.{IsSome}
use Rattle.std.proofs.lemmas.Option.{slice_get-get_or}
use Rattle.measure.proofs.plain_objects.PlainObjectsMapAndInt.new.Goals as goal

pub returns : goal.returns
returns c = λ k d below.
    let callers = c.in_ok-plain.ensures.callers in
    let at = slice_get-get_or c.in_ok-plain.callers.items k d below in
    ((callers.all.each k _ at).0, subst (λ o. IsSome o) (sym (callers.own k _ at)) refl)
