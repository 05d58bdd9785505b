use Rattle.std.proofs.Common.{◌≡◌, ℕ, ◌<◌, ◌++◌, ◌∷◌, [], Bool, cond, List, length, Some, slice_get, refl, sym, ap, ◌∙◌, rules}
use Rattle.std.proofs.lemmas.Option.{slice_get_read}
use Rattle.run_record.specs.Objects.{is_map, is_atomic}
use Rattle.run_check.proofs.Places.{more_places}
use Rattle.run_check.proofs.contents.places_of.Goals as goal

pub loop-place-preserved : goal.loop-place-preserved
loop-place-preserved c =
    let objects = c.objects-objects.result.now in
    let here = c.index-objects-place.result in
    let i = c.loop-place.place in
    let within : i < length objects = search rules in
    let at : slice_get objects i ≡ Some here = slice_get_read objects (length objects) i here refl within c.index-objects-place.is in
    let atomic : c.is_atomic.result ≡ is_atomic here.kind = search rules in
    let map : c.is_map.result ≡ is_map here.kind = search rules in
    record {
      atomics = c.in_ok-push_place.ensures ∙ ap (λ (b : Bool). c.loop-place.atomics.items ++ cond b (i ∷ []) []) atomic
          ∙ ap (λ (l : List ℕ). l ++ cond (is_atomic here.kind) (i ∷ []) []) c.loop-place.invariant.atomics ∙ sym (more_places is_atomic objects i here at);
      maps = c.in_ok-push_place-2.ensures ∙ ap (λ (b : Bool). c.loop-place.maps.items ++ cond b (i ∷ []) []) map
          ∙ ap (λ (l : List ℕ). l ++ cond (is_map here.kind) (i ∷ []) []) c.loop-place.invariant.maps ∙ sym (more_places is_map objects i here at);
    }
