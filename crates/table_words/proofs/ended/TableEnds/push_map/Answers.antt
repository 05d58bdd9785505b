use Rattle.std.proofs.Common.{◌++◌, [], ◌∷◌, ℕ, get_or, take, Option, vec_len, vec_capacity, sym, ap, ◌∙◌, arith, append_assoc}
use Rattle.std.specs.Option.{option_map}
use Rattle.sync_types.specs.declared.end.End.{End}
use Rattle.sync_types.specs.declared.end.End.TheVariants as ends
use Rattle.sync_model.specs.SharedHistory.{map_at}
use Rattle.table_words.specs.EndContents.{contents_of}
use Rattle.sync_model.specs.EndsOfHistory.{pair_end, pair_ends_by}
use Rattle.table_words.proofs.Zips.{filter_some, filter_none, none_left}
use Rattle.table_words.proofs.ended.TableEnds.push_map.Goals as goal
use Rattle.table_words.proofs.ended.TableEnds.push_map.Goals.{in-Some, in_default}

pub loop-key-preserved : goal.loop-key-preserved
loop-key-preserved c =
    let held = map_at (contents_of c.args.self.now) c.args.map in
    let order = c.args.order.now in
    let i = c.loop-key.key-index in
    let old = c.args.ends.now.items in
    let show : Option ℕ → Option End = option_map (λ value. ends.Pair c.args.object (get_or order i 0) value) in
    elim c.match-value.branch [
      | in-Some w ↦
          let here : End = ends.Pair c.args.object (get_or order i 0) w.in-Some.value in
          let more = filter_some (pair_end c.args.object held) order i 0 here c.loop-key-test.true (ap show (sym c.value.ensures ∙ w.in-Some.is)) in record {
            are = ap (λ v. v.items) w.ends-is ∙ w.push_reserved.ensures.items ∙ ap (λ l. l ++ here ∷ []) c.loop-key.invariant.are ∙ append_assoc old (pair_ends_by (take i order) (c.args.object, held)) (here ∷ []) ∙ ap (λ l. old ++ l) (sym more);
            count = let one = ap (λ v. vec_len v) w.ends-is in let pushed = w.push_reserved.ensures.len in let so_far = c.loop-key.invariant.count in omega arith;
            room = ap (λ v. vec_capacity v) w.ends-is ∙ w.push_reserved.ensures.capacity ∙ c.loop-key.invariant.room;
          }
      | in_default w ↦
          let none = none_left c.value.result w.in_default.not-Some in
          let same = filter_none (pair_end c.args.object held) order i 0 c.loop-key-test.true (ap show (sym c.value.ensures ∙ none)) in record {
            are = ap (λ v. v.items) w.ends-is ∙ c.loop-key.invariant.are ∙ ap (λ l. old ++ l) (sym same);
            count = let one = ap (λ v. vec_len v) w.ends-is in let so_far = c.loop-key.invariant.count in omega arith;
            room = ap (λ v. vec_capacity v) w.ends-is ∙ c.loop-key.invariant.room;
          }
    ]
