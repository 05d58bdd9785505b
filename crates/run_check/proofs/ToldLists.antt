-- The items of a claim that a text tells, against what the text's lines say.
use Rattle.std.proofs.Common.{◌≡◌, ℕ, zero, suc, Bool, true, false, cond, List, [], ◌∷◌, ◌++◌, map, Option, Some, None, slice_get, refl, sym, ap, ◌∙◌}
use Rattle.std.specs.List.{flat_map}
use Rattle.std.specs.Option.{option_map}
use Rattle.std.proofs.lemmas.Option.{none-some, same_Some}
use Rattle.run_record.specs.declared.made.Made.{Made}
use Rattle.run_record.specs.declared.made.Made.TheVariants.{Shared, Entered}
use Rattle.sync_model.specs.declared.journal.Deed.TheVariants.{Event, Refused, Halt}
use Rattle.run_cuts.specs.Blind.{AreAlike, bare}
use Rattle.run_check.specs.declared.told.sketch.Sketch.{Sketch}
use Rattle.run_check.specs.declared.told.sketch.Sketch.TheVariants as sketches
use Rattle.run_check.specs.ToldItems.{Sketched, made_of}
use Rattle.run_check.specs.ToldLists as told
use Rattle.record_clauses.specs.Account.{ToldItem, made_in}
use Rattle.record_clauses.specs.Lists.{calls_told, is_halt, without_halts}
use Rattle.run_check.specs.Items.{told_item, unmarked_item, unmarked_made}

-- what a part of a chosen value is
pub mapped : {X Y : Type 0} (f : X → Y) (found : Option X) (y : Y) → option_map f found ≡ Some y → (x : X) × (found ≡ Some x) × (f x ≡ y)
mapped f None y is = absurd cc
mapped f (Some x) y is = (x, refl, same_Some (f x) y is)

-- two lists that are alike by what is read of them, place by place
pub paired : {X Y Z : Type 0} (f : X → Z) (g : Y → Z) (xs : List X) (ys : List Y) → map f xs ≡ map g ys → (k : ℕ) (y : Y) → slice_get ys k ≡ Some y → (x : X) × (slice_get xs k ≡ Some x) × (f x ≡ g y)
paired f g xs [] same k y at = absurd (none-some y at)
paired f g [] (z ∷ ys) same k y at = absurd cc
paired f g (x ∷ xs) (z ∷ ys) same zero y at = let first : f x ≡ g z = cc in (x, refl, first ∙ ap g (same_Some z y at))
paired f g (x ∷ xs) (z ∷ ys) same (suc k) y at = paired f g xs ys (let rest : map f xs ≡ map g ys = cc in rest) k y at

bare_unmarked : (made : Made) → bare (unmarked_made made) ≡ bare made
bare_unmarked (Shared x) = refl
bare_unmarked (Entered object entry) = refl

bare_again : (worker : ℕ) (front : List ℕ) (sketch : Sketch) → bare (made_of worker front sketch) ≡ bare (told.bare sketch)
bare_again worker front (sketches.Shared call reply place) = refl
bare_again worker front (sketches.Entered object number deed) = refl

halt_unmarked : (made : Made) → is_halt (unmarked_made made) ≡ is_halt made
halt_unmarked (Shared x) = refl
halt_unmarked (Entered object entry) = refl

halt_again : (worker : ℕ) (front : List ℕ) (sketch : Sketch) → is_halt (made_of worker front sketch) ≡ told.is_halt sketch
halt_again worker front (sketches.Shared call reply place) = refl
halt_again worker front (sketches.Entered object number (Event event reply)) = refl
halt_again worker front (sketches.Entered object number (Refused event misuse)) = refl
halt_again worker front (sketches.Entered object number (Halt misuse)) = refl

module _ (worker : ℕ) (x : ToldItem) (s : Sketched) (same : told_item worker s ≡ unmarked_item x) where
  pub bare_same : bare x.made ≡ bare (told.bare s.sketch)
  bare_same = sym (bare_unmarked x.made) ∙ sym (ap (λ (y : ToldItem). bare y.made) same) ∙ bare_again worker s.front s.sketch

  pub halt_same : is_halt x.made ≡ told.is_halt s.sketch
  halt_same = sym (halt_unmarked x.made) ∙ sym (ap (λ (y : ToldItem). is_halt y.made) same) ∙ halt_again worker s.front s.sketch

  pub call_same : x.call ≡ s.index
  call_same = sym (ap (λ (y : ToldItem). y.call) same)

-- the items of a claim are those that the lines say, but for what a spelling doesn't look at
pub alike : (worker : ℕ) (list : List ToldItem) (items : List Sketched) → map (told_item worker) items ≡ map unmarked_item list → AreAlike (without_halts (made_in list)) (flat_map told.spelt_in items)
alike worker [] [] same = refl
alike worker [] (s ∷ items) same = absurd cc
alike worker (x ∷ list) [] same = absurd cc
alike worker (x ∷ list) (s ∷ items) same =
    let first : told_item worker s ≡ unmarked_item x = cc in
    let rest : map (told_item worker) items ≡ map unmarked_item list = cc in
    let later = alike worker list items rest in
    ap (λ b. map bare (cond b (without_halts (made_in list)) (x.made ∷ without_halts (made_in list)))) (halt_same worker x s first) ∙ by first later (told.is_halt s.sketch)
  where
    by : told_item worker s ≡ unmarked_item x → map bare (without_halts (made_in list)) ≡ map bare (flat_map told.spelt_in items) → (b : Bool)
        → map bare (cond b (without_halts (made_in list)) (x.made ∷ without_halts (made_in list))) ≡ map bare (cond b [] (told.bare s.sketch ∷ []) ++ flat_map told.spelt_in items)
    by first later true = later
    by first later false = ap (λ m. m ∷ map bare (without_halts (made_in list))) (bare_same worker x s first) ∙ ap (λ ms. bare (told.bare s.sketch) ∷ ms) later

-- and they are told to be of the calls that the lines name
pub calls_same : (worker : ℕ) (list : List ToldItem) (items : List Sketched) → map (told_item worker) items ≡ map unmarked_item list → calls_told list ≡ flat_map told.call_in items
calls_same worker [] [] same = refl
calls_same worker [] (s ∷ items) same = absurd cc
calls_same worker (x ∷ list) [] same = absurd cc
calls_same worker (x ∷ list) (s ∷ items) same =
    let first : told_item worker s ≡ unmarked_item x = cc in
    let rest : map (told_item worker) items ≡ map unmarked_item list = cc in
    let later = calls_same worker list items rest in
    ap (λ b. cond b (calls_told list) (x.call ∷ calls_told list)) (halt_same worker x s first) ∙ by first later (told.is_halt s.sketch)
  where
    by : told_item worker s ≡ unmarked_item x → calls_told list ≡ flat_map told.call_in items → (b : Bool)
        → cond b (calls_told list) (x.call ∷ calls_told list) ≡ cond b [] (s.index ∷ []) ++ flat_map told.call_in items
    by first later true = later
    by first later false = ap (λ c. c ∷ calls_told list) (call_same worker x s first) ∙ ap (λ cs. s.index ∷ cs) later
