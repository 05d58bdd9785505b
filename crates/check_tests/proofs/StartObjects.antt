-- What the objects of the tests contain at the start.
use Rattle.std.proofs.Common.{◌≡◌, ℕ, zero, suc, [], ◌∷◌, None, ap, ◌∙◌}
use Rattle.std.specs.Ordering.{nat_cmp}
use Rattle.std.specs.FinMap.{get, empty, get-empty}
use Rattle.sync_model.specs.SharedHistory.{Contents, map_at, value_at}

one_map : (m : ℕ) (contents : Contents) → contents.maps ≡ empty ∷ [] → map_at contents m ≡ empty
one_map zero contents is = ap (λ maps. map_at (record contents { maps = maps }) 0) is
one_map (suc zero) contents is = ap (λ maps. map_at (record contents { maps = maps }) 1) is
one_map (suc (suc m)) contents is = ap (λ maps. map_at (record contents { maps = maps }) (suc (suc m))) is

pub no_key : (contents : Contents) → contents.maps ≡ empty ∷ [] → (m key : ℕ) → value_at contents m key ≡ None
no_key contents is m key = ap (λ held. get held key) (one_map m contents is) ∙ get-empty nat_cmp key
