use Rattle.std.proofs.Common.{◌<◌, ◌≤◌, ◌++◌, [], ◌∷◌, ℕ, map, length, get_or, take, sym, ap, ◌∙◌, arith, append_assoc, vec_len, vec_capacity}
use Rattle.std.specs.Prelude.{zip}
use Rattle.std.proofs.lemmas.List.{map-append}
use Rattle.sync_types.specs.declared.atomic_object.Number.{Number}
use Rattle.sync_types.specs.Ends.{number_end}
use Rattle.table_words.specs.EndContents.{contents_of, words_of}
use Rattle.table_words.specs.EndWords.{number_of}
use Rattle.table_words.proofs.Readings.{as_long, item_at, numbered}
use Rattle.table_words.proofs.Zips.{zip_more, zip_first, zip_second}
use Rattle.table_words.proofs.ended.TableEnds.push_numbers.Goals as goal
use Rattle.table_words.proofs.ended.TableEnds.push_numbers.Goals.{in-Some, in_default}

pub returns-then-atomic-len-clause-ends : goal.returns-then-atomic-len-clause-ends
returns-then-atomic-len-clause-ends c =
    let numbers = (contents_of c.args.self.now).numbers in
    let past : length numbers ≤ c.loop-atomic.atomic = let long = as_long (number_of c.args.self.now.kinds (words_of c.args.self.now)) 0 c.args.self.now.kinds in let count = c.len.ensures in let past = c.if-atomic-len.true in omega arith in
    c.loop-atomic.invariant.are ∙ ap (λ l. c.args.ends.now.items ++ map number_end l) (zip_second c.args.places.now numbers c.loop-atomic.atomic past)

pub loop-atomic-preserved : goal.loop-atomic-preserved
loop-atomic-preserved c =
    let numbers = (contents_of c.args.self.now).numbers in
    let places = c.args.places.now in
    let old = c.args.ends.now.items in
    let i = c.loop-atomic.atomic in
    elim c.match-number.branch [
      | in-Some w ↦
          let here : ℕ × Number = (get_or places i 0, w.in-Some.number) in
          let more = zip_more places numbers i 0 w.in-Some.number c.loop-atomic-test.true (sym c.number.ensures ∙ w.in-Some.is) in record {
            are = ap (λ v. v.items) w.ends-is ∙ w.push_reserved.ensures.items ∙ ap (λ l. l ++ number_end here ∷ []) c.loop-atomic.invariant.are ∙ append_assoc old (map number_end (take i (zip places numbers))) (number_end here ∷ [])
                ∙ ap (λ l. old ++ l) (sym (ap (map number_end) more ∙ map-append number_end (take i (zip places numbers)) (here ∷ [])));
            count = let one = ap (λ v. vec_len v) w.ends-is in let pushed = w.push_reserved.ensures.len in let so_far = c.loop-atomic.invariant.count in omega arith;
            room = ap (λ v. vec_capacity v) w.ends-is ∙ w.push_reserved.ensures.capacity ∙ c.loop-atomic.invariant.room;
          }
      | in_default w ↦
          let kinds = c.args.self.now.kinds in
          let below : i < length kinds = let count = c.len.ensures in let before = c.if-atomic-len.false in omega arith in
          let kind = item_at kinds i below in
          absurd (w.in_default.not-Some _ (c.number.ensures ∙ numbered (number_of kinds (words_of c.args.self.now)) kinds i kind.0 kind.1))
    ]

pub returns-clause-ends : goal.returns-clause-ends
returns-clause-ends c =
    let numbers = (contents_of c.args.self.now).numbers in
    c.loop-atomic.invariant.are ∙ ap (λ l. c.args.ends.now.items ++ map number_end l) (zip_first c.args.places.now numbers c.loop-atomic.atomic c.loop-atomic-test.false)
