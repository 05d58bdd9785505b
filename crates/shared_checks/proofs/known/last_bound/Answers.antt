use Rattle.std.proofs.Common.{◌≡◌, suc, ◌-◌, length, take, refl, sym, ap, ◌∙◌, arith}
use Rattle.std.proofs.lemmas.Option.{slice_get_read}
use Rattle.shared_checks.specs.Fronts.{bound_of}
use Rattle.shared_checks.proofs.KnownLemmas.{last_is_greatest}
use Rattle.shared_checks.proofs.known.last_bound.Goals as goal

pub returns : goal.returns
returns c =
    let same : suc (c.args.count - 1) ≡ c.args.count = omega (arith, c.if-count-eq0.false) in
    let at = slice_get_read c.args.items.now (length c.args.items.now) (c.args.count - 1) c.index-items-count.result refl (omega (arith, c.requires.made, c.if-count-eq0.false)) c.index-items-count.is in
    c.bound_at.ensures ∙ sym (last_is_greatest c.args.items.now c.requires.order (c.args.count - 1) c.index-items-count.result at) ∙ ap (λ n. bound_of (take n c.args.items.now)) same
