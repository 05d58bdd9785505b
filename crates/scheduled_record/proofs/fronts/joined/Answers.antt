use Rattle.std.proofs.Common.{ℕ, ◌+◌, List, [], ◌∷◌, ◌++◌, drop, sym, ap, ◌∙◌, append_assoc}
use Rattle.std.proofs.lemmas.Option.{slice_get-get_or}
use Rattle.kept_record.specs.Keeping.{joined}
use Rattle.scheduled_record.proofs.JoinedLemmas.{next_place}
use Rattle.scheduled_record.proofs.fronts.joined.Goals as goal

pub loop-place-preserved : goal.loop-place-preserved
loop-place-preserved c =
    let both = c.loop-place.both.items in
    let rest : List ℕ = joined (drop (c.loop-place.place + 1) c.args.front.now) (drop (c.loop-place.place + 1) c.args.other.now) in
    ap (λ (l : List ℕ). l ++ rest) c.in_ok-push.ensures.items
    ∙ (append_assoc both (c.at_least.result ∷ []) rest
    ∙ (ap (λ (l : List ℕ). both ++ l) (ap (λ (n : ℕ). n ∷ rest) c.at_least.ensures ∙ sym (next_place c.loop-place.place c.args.front.now c.args.other.now _ (slice_get-get_or c.args.front.now c.loop-place.place 0 c.loop-place-test.true)))
    ∙ c.loop-place.invariant))
