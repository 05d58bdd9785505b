use Rattle.std.proofs.Common.{◌<◌, ◌≤◌, ◌++◌, [], ◌∷◌, ℕ, length, get_or, take, sym, ap, ◌∙◌, arith, append_assoc}
use Rattle.std.specs.Prelude.{zip}
use Rattle.std.specs.FinMap.{FinMap, empty}
use Rattle.std.specs.List.{flat_map}
use Rattle.std.specs.Ordering.{nat_cmp}
use Rattle.std.proofs.lemmas.Grind.{flat_map-append}
use Rattle.std.proofs.lemmas.List.{append-nil}
use Rattle.std.proofs.lemmas.Option.{slice_get-get_or}
use Rattle.sync_model.specs.SharedHistory.{map_at}
use Rattle.table_words.specs.EndContents.{contents_of, words_of}
use Rattle.sync_model.specs.EndsOfHistory.{pair_ends_by}
use Rattle.table_words.proofs.Contained.{maps_long}
use Rattle.table_words.proofs.Zips.{zip_more, zip_first, zip_second}
use Rattle.table_words.proofs.ended.TableEnds.push_maps.Goals as goal

pub returns-then-map-self-clause-ends : goal.returns-then-map-self-clause-ends
returns-then-map-self-clause-ends c =
    let ends = c.args.self.now in
    let maps = (contents_of ends).maps in
    let past : length maps ≤ c.loop-map.map = let long = maps_long ends.kinds (words_of ends) ends.maps in let past = c.if-map-self.true in omega arith in
    c.loop-map.invariant.are ∙ ap (λ l. c.args.ends.now.items ++ flat_map (pair_ends_by c.args.order.now) l) (zip_second c.args.places.now maps c.loop-map.map past)

pub push_map-requires-clause-map : goal.push_map-requires-clause-map
push_map-requires-clause-map c = let ends = c.args.self.now in let long = maps_long ends.kinds (words_of ends) ends.maps in let before = c.if-map-self.false in omega arith

pub loop-map-preserved : goal.loop-map-preserved
loop-map-preserved c =
    let ends = c.args.self.now in
    let maps = (contents_of ends).maps in
    let i = c.loop-map.map in
    let below : i < length maps = let long = maps_long ends.kinds (words_of ends) ends.maps in let before = c.if-map-self.false in omega arith in
    let held = map_at (contents_of ends) i in
    let show = pair_ends_by c.args.order.now in
    let old = c.args.ends.now.items in
    let front = take i (zip c.args.places.now maps) in
    let here : ℕ × FinMap nat_cmp ℕ = (get_or c.args.places.now i 0, held) in
    let more = zip_more c.args.places.now maps i 0 held c.loop-map-test.true (slice_get-get_or maps i empty below) in record {
      are = c.push_map.ensures.ends ∙ ap (λ l. l ++ show here) c.loop-map.invariant.are ∙ append_assoc old (flat_map show front) (show here)
          ∙ ap (λ l. old ++ l) (sym (ap (flat_map show) more ∙ flat_map-append show front (here ∷ []) ∙ ap (λ l. flat_map show front ++ l) (append-nil (show here))));
      count = let one = c.push_map.ensures.count in let so_far = c.loop-map.invariant.count in omega arith;
      room = c.push_map.ensures.room ∙ c.loop-map.invariant.room;
    }

pub returns-clause-ends : goal.returns-clause-ends
returns-clause-ends c =
    let maps = (contents_of c.args.self.now).maps in
    c.loop-map.invariant.are ∙ ap (λ l. c.args.ends.now.items ++ flat_map (pair_ends_by c.args.order.now) l) (zip_first c.args.places.now maps c.loop-map.map c.loop-map-test.false)
