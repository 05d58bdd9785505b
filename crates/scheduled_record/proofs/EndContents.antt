-- What a report shows of a run's objects is what it shows of the contents that the history makes.
use Rattle.std.proofs.Common.{◌≡◌, ◌≢◌, ℕ, zero, suc, ◌+◌, ◌<◌, Bool, true, false, cond, List, [], ◌∷◌, ◌++◌, map, length, take, get_or, count_by, zip, Some, None, slice_get, inl, inr, refl, sym, ap, ◌∙◌, subst, arith}
use Rattle.std.specs.FinMap.{FinMap, empty, get, same_map, nat_cmp-IsAntisymmetric, slice_cmp-IsAntisymmetric}
use Rattle.std.specs.Ordering.{nat_cmp}
use Rattle.std.specs.Cmp.Lexicographic.{slice_cmp}
use Rattle.std.specs.Str.{bytes_eq}
use Rattle.std.proofs.lemmas.Bool.{cases_Bool}
use Rattle.std.proofs.lemmas.Bool.Decides.{eqb_tells}
use Rattle.std.proofs.lemmas.Cmp.{nat_list_cmp_total}
use Rattle.std.proofs.lemmas.List.{length-map}
use Rattle.std.proofs.lemmas.List.Sums.{sum_by-cons}
use Rattle.std.proofs.lemmas.Option.{none-some}
use Rattle.std.proofs.lemmas.Slice.Eq.{bytes_eq-Decides}
use Rattle.sync_types.specs.Renaming.{IsRenamed}
use Rattle.sync_types.specs.declared.atomic_object.Number.{Number}
use Rattle.sync_types.specs.declared.atomic_object.Number.TheVariants.{Bool as Truth}
use Rattle.sync_types.specs.declared.end.End.{End}
use Rattle.sync_types.specs.Ends.{FinalContents, ends_of}
use Rattle.sync_model.specs.EndsByName.{by_name}
use Rattle.sync_model.specs.SharedHistory.{Contents, map_at}
use Rattle.workload.specs.Keys.{keys_in, key_number, key_name}
use Rattle.workload.specs.Plan.{Plan}
use Rattle.workload.specs.declared.object.ObjectKind.{ObjectKind}
use Rattle.workload.specs.declared.object.ObjectLine.{ObjectLine}
use Rattle.run_record.specs.Objects.{is_map, is_atomic, map_number, atomic_number, places_from, named, ends_in}
use Rattle.step_runner.specs.declared.turns.object_state.ObjectState.{ObjectState}
use Rattle.step_runner.specs.declared.turns.object_state.ObjectState.TheVariants as states
use Rattle.step_runner.specs.Ends.{numbers_of, numbers_from, maps_of, maps_from, scheduled_ends}
use Rattle.step_runner.specs.Objects.{kind_of}
use Rattle.scheduled_record.proofs.Contents.{ByKey, HoldsAt, HasLine, Holds, number_within}
use Rattle.scheduled_record.specs.ItemsOf.{is_key}

-- ---- a map by the names of its keys

-- what is said of maps by name
pub record NameLaws (name : ℕ → List ℕ) (number : List ℕ → ℕ) (n : FinMap nat_cmp ℕ) : Type 0 where
  pub value : ((key value : ℕ) → get n key ≡ Some value → number (name key) ≡ key) → (key : ℕ) → number (name key) ≡ key → get (by_name name n) (name key) ≡ get n key
  pub none : ((key value : ℕ) → get n key ≡ Some value → number (name key) ≡ key) → (word : List ℕ) → name (number word) ≢ word → get (by_name name n) word ≡ None

module _ (name : ℕ → List ℕ) (number : List ℕ → ℕ) (is_key : List ℕ → Bool) (named : (word : List ℕ) → is_key word ≡ true → name (number word) ≡ word) (m : ByKey) (n : FinMap nat_cmp ℕ) (laws : NameLaws name number n) (renamed : IsRenamed number is_key m n) where
  known_apart : (a : Bool) → a ≡ false → a ≡ true → ⊥
  known_apart a unlike like = absurd (differ (sym unlike ∙ like)) where
    differ : false ≡ true → ⊥
    differ e = cc

  -- a key that is there is the number of its name
  has_name : (key value : ℕ) → get n key ≡ Some value → number (name key) ≡ key
  has_name key value has = elim (eqb_tells (number (name key)) key) [
    | inl same ↦ same.1
    | inr apart ↦ absurd (none-some value (sym (renamed.names key (λ word known same. apart.1 (ap (λ (k : ℕ). number (name k)) same ∙ (ap number (named word known) ∙ sym same)))) ∙ has))
  ]

  -- a word that is no key has no number of one
  unknown : (word : List ℕ) → is_key word ≡ false → name (number word) ≡ word → get n (number word) ≡ None
  unknown word unlike is = renamed.names (number word) (λ other known same. known_apart (is_key word) unlike (subst (λ (w : List ℕ). is_key w ≡ true) (sym (named other known) ∙ (ap name (sym same) ∙ is)) known))

  -- by its own name
  at_own : (word : List ℕ) → name (number word) ≡ word → get (by_name name n) word ≡ get n (number word)
  at_own word is = subst (λ (w : List ℕ). get (by_name name n) w ≡ get n (number word)) is (laws.value has_name (number word) (ap number is))

  same_at : (word : List ℕ) → get (by_name name n) word ≡ get m word
  same_at word = elim (cases_Bool (bytes_eq (name (number word)) word)) [
    | inl equal ↦ (let is : name (number word) ≡ word = (bytes_eq-Decides (name (number word)) word).0 equal in at_own word is ∙ by_key is (is_key word) refl)
    | inr differ ↦ (let apart : name (number word) ≢ word = λ same. known_apart (bytes_eq (name (number word)) word) differ ((bytes_eq-Decides (name (number word)) word).1 same) in
        laws.none has_name word apart ∙ sym (renamed.keys word (none_known apart (is_key word) refl)))
  ] where
    by_key : name (number word) ≡ word → (b : Bool) → is_key word ≡ b → get n (number word) ≡ get m word
    by_key is true known = renamed.same word known
    by_key is false unlike = unknown word unlike is ∙ sym (renamed.keys word unlike)

    none_known : name (number word) ≢ word → (b : Bool) → is_key word ≡ b → is_key word ≡ false
    none_known apart true known = absurd (apart (named word known))
    none_known apart false unlike = unlike

  pub named_is : by_name name n ≡ m
  named_is = same_map nat_list_cmp_total (slice_cmp-IsAntisymmetric nat_cmp-IsAntisymmetric) (by_name name n) m same_at

-- ---- in the order of declaration

-- each kind's objects stand in the order of their numbers
module _ {X : Type 0} (is : ObjectKind → Bool) (of : ℕ → ObjectState → List (ℕ × X)) (from : ℕ → List ObjectState → List (ℕ × X))
    (none : (place : ℕ) → from place [] ≡ []) (more : (place : ℕ) (o : ObjectState) (objects : List ObjectState) → from place (o ∷ objects) ≡ of place o ++ from (place + 1) objects)
    (holds : ObjectState → X → Type 0) (d : X)
    (one : (place : ℕ) (o : ObjectState) (x : X) → is (kind_of o) ≡ true → holds o x → of place o ≡ (place, x) ∷ [])
    (other : (place : ℕ) (o : ObjectState) → is (kind_of o) ≡ false → of place o ≡ []) where
  abbrev number_at : List ObjectLine → ℕ → ℕ
  number_at lines place = count_by (λ line. is line.kind) (take place lines)

  abbrev HoldsEach : List ObjectState → List ObjectLine → List X → Type 0
  HoldsEach objects lines xs = (place : ℕ) (o : ObjectState) → slice_get objects place ≡ Some o → is (kind_of o) ≡ true → holds o (get_or xs (number_at lines place) d)

  same_places : (place : ℕ) (objects : List ObjectState) (lines : List ObjectLine) (xs : List X) → map kind_of objects ≡ map (λ line. line.kind) lines → length xs ≡ count_by (λ line. is line.kind) lines → HoldsEach objects lines xs
      → from place objects ≡ zip (places_from place is lines) xs
  same_places place [] [] xs same long each = none place
  same_places place [] (line ∷ lines) xs same long each = absurd cc
  same_places place (o ∷ objects) [] xs same long each = absurd cc
  same_places place (o ∷ objects) (line ∷ lines) xs same long each = more place o objects ∙ by_kind (is line.kind) refl (λ ys many every. same_places (place + 1) objects lines ys tail many every) xs long each where
    head : kind_of o ≡ line.kind
    head = cc

    tail : map kind_of objects ≡ map (λ line. line.kind) lines
    tail = cc

    counts : (p : ℕ) → number_at (line ∷ lines) (suc p) ≡ cond (is line.kind) 1 0 + number_at lines p
    counts p = sum_by-cons (λ (line : ObjectLine). cond (is line.kind) 1 0) line (take p lines)

    counted : (b : Bool) → is line.kind ≡ b → (ys : List X) → length ys ≡ count_by (λ line. is line.kind) (line ∷ lines) → length ys ≡ cond b 1 0 + count_by (λ line. is line.kind) lines
    counted b kind ys long = long ∙ (sum_by-cons (λ (line : ObjectLine). cond (is line.kind) 1 0) line lines ∙ ap (λ (b : Bool). cond b 1 0 + count_by (λ line. is line.kind) lines) kind)

    by_kind : (b : Bool) → is line.kind ≡ b → ((ys : List X) → length ys ≡ count_by (λ line. is line.kind) lines → HoldsEach objects lines ys → from (place + 1) objects ≡ zip (places_from (place + 1) is lines) ys) → (ys : List X) → length ys ≡ count_by (λ line. is line.kind) (line ∷ lines) → HoldsEach (o ∷ objects) (line ∷ lines) ys
        → of place o ++ from (place + 1) objects ≡ zip (cond b (place ∷ places_from (place + 1) is lines) (places_from (place + 1) is lines)) ys
    by_kind true kind rest [] long each = absurd (unlike (count_by (λ line. is line.kind) lines) (counted true kind [] long)) where
      unlike : (n : ℕ) → 0 ≡ 1 + n → ⊥
      unlike n e = absurd (omega arith)
    by_kind true kind rest (y ∷ ys) long each =
        ap (λ (l : List (ℕ × X)). l ++ from (place + 1) objects) (one place o y (ap is head ∙ kind) (each zero o refl (ap is head ∙ kind)))
        ∙ ap (λ (l : List (ℕ × X)). (place, y) ∷ l) (rest ys (less (length ys) (count_by (λ line. is line.kind) lines) (counted true kind (y ∷ ys) long))
        (λ p object at such. subst (λ (k : ℕ). holds object (get_or (y ∷ ys) k d)) (counts p ∙ (ap (λ (b : Bool). cond b 1 0 + number_at lines p) kind ∙ next (number_at lines p))) (each (suc p) object at such)))
      where
        less : (a n : ℕ) → suc a ≡ 1 + n → a ≡ n
        less a n e = omega (arith, e)

        next : (k : ℕ) → 1 + k ≡ suc k
        next k = omega arith
    by_kind false kind rest ys long each =
        ap (λ (l : List (ℕ × X)). l ++ from (place + 1) objects) (other place o (ap is head ∙ kind))
        ∙ rest ys (counted false kind ys long ∙ none_more (count_by (λ line. is line.kind) lines))
        (λ p object at such. subst (λ (k : ℕ). holds object (get_or ys k d)) (counts p ∙ (ap (λ (b : Bool). cond b 1 0 + number_at lines p) kind ∙ none_more (number_at lines p))) (each (suc p) object at such))
      where
        none_more : (k : ℕ) → 0 + k ≡ k
        none_more k = omega arith

abbrev HasNumber : ObjectState → Number → Type 0
HasNumber o x = o ≡ states.Atomic x

abbrev HasMap : ObjectState → ByKey → Type 0
HasMap o x = o ≡ states.Map x

other_numbers : (place : ℕ) (o : ObjectState) → is_atomic (kind_of o) ≡ false → numbers_of place o ≡ []
other_numbers place (states.Atomic number) unlike = absurd cc
other_numbers place o unlike = refl

other_maps : (place : ℕ) (o : ObjectState) → is_map (kind_of o) ≡ false → maps_of place o ≡ []
other_maps place (states.Map m) unlike = absurd cc
other_maps place o unlike = refl

module _ (objects : List ObjectState) (lines : List ObjectLine) (same : map kind_of objects ≡ map (λ line. line.kind) lines) where
  pub same_numbers : (numbers : List Number) → length numbers ≡ count_by (λ line. is_atomic line.kind) lines
      → ((place : ℕ) (o : ObjectState) → slice_get objects place ≡ Some o → is_atomic (kind_of o) ≡ true → o ≡ states.Atomic (get_or numbers (atomic_number lines place) (Truth false)))
      → numbers_from 0 objects ≡ zip (places_from 0 is_atomic lines) numbers
  same_numbers numbers long each = same_places is_atomic numbers_of numbers_from (λ place. refl) (λ place o objects. refl) HasNumber (Truth false)
      (λ place o x such is. ap (numbers_of place) is) other_numbers 0 objects lines numbers same long each

  pub same_maps : (maps : List ByKey) → length maps ≡ count_by (λ line. is_map line.kind) lines
      → ((place : ℕ) (o : ObjectState) → slice_get objects place ≡ Some o → is_map (kind_of o) ≡ true → o ≡ states.Map (get_or maps (map_number lines place) empty))
      → maps_from 0 objects ≡ zip (places_from 0 is_map lines) maps
  same_maps maps long each = same_places is_map maps_of maps_from (λ place. refl) (λ place o objects. refl) HasMap empty
      (λ place o x such is. ap (maps_of place) is) other_maps 0 objects lines maps same long each

-- ---- what is shown

get_mapped : {X Y : Type 0} (f : X → Y) (xs : List X) (i : ℕ) (d : X) (e : Y) → i < length xs → get_or (map f xs) i e ≡ f (get_or xs i d)
get_mapped f [] i d e within = absurd (omega (arith, within))
get_mapped f (x ∷ xs) zero d e within = refl
get_mapped f (x ∷ xs) (suc i) d e within = get_mapped f xs i d e (omega (arith, within))

module _ (plan : Plan) (objects : List ObjectState) (same : map kind_of objects ≡ map (λ line. line.kind) plan.objects) (contents : Contents) (holds : Holds plan objects [] contents)
    (lined : (place : ℕ) (o : ObjectState) → slice_get objects place ≡ Some o → HasLine plan place o)
    (names : (word : List ℕ) → is_key plan word ≡ true → key_name (keys_in plan.scripts) (key_number (keys_in plan.scripts) word) ≡ word)
    (laws : (n : FinMap nat_cmp ℕ) → NameLaws (key_name (keys_in plan.scripts)) (key_number (keys_in plan.scripts)) n) where
  number_here : (place : ℕ) (o : ObjectState) → is_atomic (kind_of o) ≡ true → HoldsAt plan place o [] contents → o ≡ states.Atomic (get_or contents.numbers (atomic_number plan.objects place) (Truth false))
  number_here place (states.Atomic last) such here = ap states.Atomic here
  number_here place o such here = absurd cc

  map_here : (place : ℕ) (o : ObjectState) → is_map (kind_of o) ≡ true → HasLine plan place o → HoldsAt plan place o [] contents
      → o ≡ states.Map (get_or (map (named (keys_in plan.scripts)) contents.maps) (map_number plan.objects place) empty)
  map_here place (states.Map last) such line here = ap states.Map (here.2 ∙ (sym (named_is (key_name (keys_in plan.scripts)) (key_number (keys_in plan.scripts)) (is_key plan) names here.0 (map_at contents (map_number plan.objects place)) (laws (map_at contents (map_number plan.objects place))) here.1)
      ∙ sym (get_mapped (named (keys_in plan.scripts)) contents.maps (map_number plan.objects place) empty empty
      (subst (λ (n : ℕ). map_number plan.objects place < n) (sym holds.maps) (number_within (λ (object : ObjectLine). is_map object.kind) plan.objects place line.0 line.1 line.2)))))
  map_here place o such line here = absurd cc

  abbrev shown : List (ℕ × Number) → List (ℕ × ByKey) → List End
  shown numbers maps = let held : FinalContents (List ℕ) (slice_cmp nat_cmp) = record { numbers = numbers; maps = maps } in ends_of (key_number (keys_in plan.scripts)) held

  pub same_ends : scheduled_ends plan objects ≡ ends_in plan contents
  same_ends =
      ap (λ (l : List (ℕ × Number)). shown l (maps_from 0 objects)) (same_numbers objects plan.objects same contents.numbers holds.numbers (λ place o at such. number_here place o such (holds.at place o at)))
      ∙ ap (λ (l : List (ℕ × ByKey)). shown (zip (places_from 0 is_atomic plan.objects) contents.numbers) l)
      (same_maps objects plan.objects same (map (named (keys_in plan.scripts)) contents.maps) (length-map contents.maps (named (keys_in plan.scripts)) ∙ holds.maps)
      (λ place o at such. map_here place o such (lined place o at) (holds.at place o at)))
