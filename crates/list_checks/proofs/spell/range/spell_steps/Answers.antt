use Rattle.std.proofs.Common.{◌≡◌, ◌+◌, ◌<◌, [], ◌∷◌, ◌++◌, length, refl, sym, subst, arith}
use Rattle.std.proofs.lemmas.Option.{slice_get_read}
use Rattle.list_checks.specs.SpellFound.{shown_at}
use Rattle.list_checks.specs.declared.spell.range.Shown.TheVariants as shown
use Rattle.list_checks.proofs.SpellRanges.{HasShown, shows_end, shows_pair}
use Rattle.list_checks.proofs.spell.range.spell_steps.Goals as goal

pub returns-in-End : goal.returns-in-End
returns-in-End c =
    let inside : c.loop-next.next < length c.args.items.now = omega arith in
    let there = slice_get_read c.args.items.now (length c.args.items.now) c.loop-next.next c.index-items-next.result refl inside c.index-items-next.is in
    let ends : shown.End ≡ shown_at c.args.begin c.index-items-next.result = cc in
    shows_end c.args.begin c.args.items.now c.args.from c.loop-next.next c.loop-next.pairs c.index-items-next.result there c.loop-next.invariant.from c.loop-next.invariant.so ends

pub loop-next-preserved : goal.loop-next-preserved
loop-next-preserved c =
    let inside : c.loop-next.next < length c.args.items.now = omega arith in
    let there = slice_get_read c.args.items.now (length c.args.items.now) c.loop-next.next c.index-items-next.result refl inside c.index-items-next.is in
    let shows : shown.Pair c.in-Pair.pair ≡ shown_at c.args.begin c.index-items-next.result = cc in
    let pushed : c.push.new.self ≡ c.loop-next.pairs ++ c.in-Pair.pair ∷ [] = c.in_ok-push-in-Pair.ensures.ok in
    let along = c.loop-next.invariant.from in
    record {
      from = omega (arith, along);
      so = subst (λ pairs. HasShown c.args.begin c.args.items.now c.args.from (c.loop-next.next + 1) pairs) (sym pushed)
          (shows_pair c.args.begin c.args.items.now c.args.from c.loop-next.next c.loop-next.pairs c.index-items-next.result there along c.loop-next.invariant.so c.in-Pair.pair shows);
    }
