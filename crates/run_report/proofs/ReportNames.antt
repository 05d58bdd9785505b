-- The names in a report: those of the objects and of the keys, each of one object or key.
use Rattle.std.proofs.Common.{◌≡◌, ◌∙◌, ℕ, zero, suc, ◌+◌, ◌<◌, Bool, true, false, ◌&&◌, not, cond, List, [], ◌∷◌, ◌++◌, length, get_or, Some, refl, sym, ap, subst, arith}
use Rattle.std.specs.Prelude.{◌↔◌, is_some, slice_get, nat_lt}
use Rattle.std.specs.List.{list_all, list_any, flat_map}
use Rattle.std.specs.Option.{option_to_list}
use Rattle.std.specs.Str.{bytes_eq}
use Rattle.std.proofs.lemmas.Bool.{and_parts, and_from}
use Rattle.std.proofs.lemmas.Option.{slice_get-get_or}
use Rattle.std.proofs.lemmas.Slice.Eq.{bytes_eq-Decides}
use Rattle.script_calls.specs.declared.call.Call.{Call}
use Rattle.script_calls.specs.declared.call.Operation.{Operation}
use Rattle.script_calls.specs.declared.call.Operation.TheVariants as operations
use Rattle.sync_types.specs.Name.{is_name}
use Rattle.sync_types.specs.SequentialMap.{map_key}
use Rattle.workload.specs.CallWords.{map_values}
use Rattle.workload.specs.Draft.{all_keys, declared_from, is_call, is_operation, is_value, keys_of, operation_keys, count_of, limit_of, is_kind}
use Rattle.workload.specs.Keys.{keys_in, key_name, number_in, with_name, with_names}
use Rattle.workload.specs.Plan.{refers, word_of}
use Rattle.workload.specs.Readable.{may_declare, may_join}
use Rattle.workload.specs.declared.object.ObjectLine.{ObjectLine}
use Rattle.run_report.proofs.ReplyTexts.{AreKeys}

module _ {X : Type 0} where
  all_more : (p : X → Bool) (xs ys : List X) → list_all p xs ≡ true → list_all p ys ≡ true → list_all p (xs ++ ys) ≡ true
  all_more p [] ys hx hy = hy
  all_more p (x ∷ xs) ys hx hy =
      let parts = and_parts (p x) (list_all p xs) hx in
      and_from (p x) (list_all p (xs ++ ys)) parts.0 (all_more p xs ys parts.1 hy)

  all_at : (p : X → Bool) (xs : List X) (k : ℕ) (d : X) → list_all p xs ≡ true → k < length xs → p (get_or xs k d) ≡ true
  all_at p [] k d h lt = absurd (omega arith)
  all_at p (x ∷ xs) zero d h lt = (and_parts (p x) (list_all p xs) h).0
  all_at p (x ∷ xs) (suc k) d h lt = all_at p xs k d (and_parts (p x) (list_all p xs) h).1 (omega arith)

  get_front : (xs ys : List X) (k : ℕ) (x : X) → slice_get xs k ≡ Some x → slice_get (xs ++ ys) k ≡ Some x
  get_front [] ys k x is = absurd cc
  get_front (y ∷ xs) ys zero x is = is
  get_front (y ∷ xs) ys (suc k) x is = get_front xs ys k x is

  get_last : (xs : List X) (x : X) → slice_get (xs ++ x ∷ []) (length xs) ≡ Some x
  get_last [] x = refl
  get_last (y ∷ xs) x = get_last xs x

all_flat : {X Y : Type 0} (p : Y → Bool) (q : X → Bool) (f : X → List Y) → ((x : X) → q x ≡ true → list_all p (f x) ≡ true) → (xs : List X) → list_all q xs ≡ true → list_all p (flat_map f xs) ≡ true
all_flat p q f each [] h = refl
all_flat p q f each (x ∷ xs) h =
    let parts = and_parts (q x) (list_all q xs) h in
    all_more p (f x) (flat_map f xs) (each x parts.0) (all_flat p q f each xs parts.1)

-- keys
operation_named : (o : Operation) → is_operation o ≡ true → list_all is_name (operation_keys o) ≡ true
operation_named (operations.Map call) h = (and_parts (list_all is_name (option_to_list (map_key call))) (list_all is_value (map_values call)) h).0
operation_named (operations.Fly key) h = and_from (is_name key) true h refl
operation_named o h = refl

all_keys_named : (scripts : List (List Call)) → list_all (list_all is_call) scripts ≡ true → list_all is_name (all_keys scripts) ≡ true
all_keys_named scripts h =
    all_flat is_name (list_all is_call) (flat_map keys_of)
    (λ script hs. all_flat is_name is_call keys_of (λ call hc. operation_named call.operation hc) script hs) scripts h

one_more : (names : List (List ℕ)) (name : List ℕ) (b : Bool) → list_all is_name names ≡ true → is_name name ≡ true → list_all is_name (cond b names (names ++ name ∷ [])) ≡ true
one_more names name true hs h = hs
one_more names name false hs h = all_more is_name names (name ∷ []) hs (and_from (is_name name) true h refl)

more_named : (names more : List (List ℕ)) → list_all is_name names ≡ true → list_all is_name more ≡ true → list_all is_name (with_names names more) ≡ true
more_named names [] hs hm = hs
more_named names (name ∷ more) hs hm =
    let parts = and_parts (is_name name) (list_all is_name more) hm in
    more_named (with_name names name) more (one_more names name (list_any (bytes_eq name) names) hs parts.0) parts.1

some_one : {m n : ℕ} → Some m ≡ Some n → m ≡ n
some_one e = cc

-- each key is numbered once

abbrev pub IsNumbered : List (List ℕ) → Type 0
IsNumbered keys = (name : List ℕ) (number : ℕ) → number_in keys name ≡ Some number ↔ slice_get keys number ≡ Some name

pub keys_are : (scripts : List (List Call)) → list_all (list_all is_call) scripts ≡ true → IsNumbered (keys_in scripts) → AreKeys (keys_in scripts)
keys_are scripts calls numbered =
    let keys = keys_in scripts in record {
      names = λ key lt. all_at is_name keys key [] (more_named [] (all_keys scripts) refl (all_keys_named scripts calls)) lt;
      apart = λ key other key_lt other_lt e.
          some_one (sym ((numbered (key_name keys key) key).1 (slice_get-get_or keys key [] key_lt))
          ∙ (numbered (key_name keys key) other).1 (slice_get-get_or keys other [] other_lt ∙ ap (λ (n : List ℕ). Some n) (sym e)));
    }

-- objects
pub record AreObjects (objects : List ObjectLine) : Type 0 where
  pub names : (place : ℕ) (x : ObjectLine) → slice_get objects place ≡ Some x → is_name x.name ≡ true
  pub apart : (place other : ℕ) (x y : ObjectLine) → slice_get objects place ≡ Some x → slice_get objects other ≡ Some y → x.name ≡ y.name → place ≡ other

abbrev is_new : ℕ → List ℕ → List ObjectLine → Bool
is_new place name others = not (is_some (declared_from place name others))

same_bytes : (a b : List ℕ) → a ≡ b → bytes_eq a b ≡ true
same_bytes a b e = (bytes_eq-Decides a b).1 e

one_object : {x y : ObjectLine} → Some x ≡ Some y → x ≡ y
one_object e = cc

fresh : (place : ℕ) (name : List ℕ) (others : List ObjectLine) → is_new place name others ≡ true → (k : ℕ) (x : ObjectLine) → slice_get others k ≡ Some x → name ≡ x.name → ⊥
fresh place name [] new k x is e = absurd cc
fresh place name (y ∷ others) new zero x is e =
    absurd (found (bytes_eq name y.name) (same_bytes name y.name (e ∙ ap (λ (o : ObjectLine). o.name) (sym (one_object is)))) new)
  where
    found : (b : Bool) → b ≡ true → not (is_some (cond b (Some (record { place = place; kind = y.kind })) (declared_from (place + 1) name others))) ≡ true → ⊥
    found true e new = absurd cc
    found false e new = absurd cc
fresh place name (y ∷ others) new (suc k) x is e = fresh (place + 1) name others (later (bytes_eq name y.name) new) k x is e
  where
    later : (b : Bool) → not (is_some (cond b (Some (record { place = place; kind = y.kind })) (declared_from (place + 1) name others))) ≡ true → is_new (place + 1) name others ≡ true
    later true new = absurd cc
    later false new = new

join_parts : (others : List ObjectLine) (x : ObjectLine) → may_join others x ≡ true → (is_name x.name ≡ true) × (is_new 0 x.name others ≡ true)
join_parts others x h =
    let parts = and_parts (is_name x.name) (is_new 0 x.name others && (refers others x.kind && (is_kind x.kind && nat_lt (count_of (word_of x.kind) others) (limit_of (word_of x.kind))))) h in
    (parts.0, (and_parts (is_new 0 x.name others) (refers others x.kind && (is_kind x.kind && nat_lt (count_of (word_of x.kind) others) (limit_of (word_of x.kind)))) parts.1).0)

declare_parts : (others : List ObjectLine) (x : ObjectLine) (objects : List ObjectLine) → may_declare others (x ∷ objects) ≡ true → (may_join others x ≡ true) × (may_declare (others ++ x ∷ []) objects ≡ true)
declare_parts others x objects h = and_parts (may_join others x) (may_declare (others ++ x ∷ []) objects) h

-- none behind has the name of one before
behind : (others objects : List ObjectLine) → may_declare others objects ≡ true → (k : ℕ) (x : ObjectLine) → slice_get others k ≡ Some x → (place : ℕ) (y : ObjectLine) → slice_get objects place ≡ Some y → y.name ≡ x.name → ⊥
behind others [] h k x is place y at e = absurd cc
behind others (z ∷ objects) h k x is zero y at e =
    fresh 0 z.name others (join_parts others z (declare_parts others z objects h).0).1 k x is (ap (λ (o : ObjectLine). o.name) (one_object at) ∙ e)
behind others (z ∷ objects) h k x is (suc place) y at e = behind (others ++ z ∷ []) objects (declare_parts others z objects h).1 k x (get_front others (z ∷ []) k x is) place y at e

names_are : (others objects : List ObjectLine) → may_declare others objects ≡ true → (place : ℕ) (x : ObjectLine) → slice_get objects place ≡ Some x → is_name x.name ≡ true
names_are others [] h place x is = absurd cc
names_are others (z ∷ objects) h zero x is = subst (λ (o : ObjectLine). is_name o.name ≡ true) (one_object is) (join_parts others z (declare_parts others z objects h).0).0
names_are others (z ∷ objects) h (suc place) x is = names_are (others ++ z ∷ []) objects (declare_parts others z objects h).1 place x is

apart_are : (others objects : List ObjectLine) → may_declare others objects ≡ true → (place other : ℕ) (x y : ObjectLine) → slice_get objects place ≡ Some x → slice_get objects other ≡ Some y → x.name ≡ y.name → place ≡ other
apart_are others [] h place other x y is at e = absurd cc
apart_are others (z ∷ objects) h zero zero x y is at e = refl
apart_are others (z ∷ objects) h zero (suc other) x y is at e =
    absurd (behind (others ++ z ∷ []) objects (declare_parts others z objects h).1 (length others) x (get_last others z ∙ is) other y at (sym e))
apart_are others (z ∷ objects) h (suc place) zero x y is at e =
    absurd (behind (others ++ z ∷ []) objects (declare_parts others z objects h).1 (length others) y (get_last others z ∙ at) place x is e)
apart_are others (z ∷ objects) h (suc place) (suc other) x y is at e = ap (λ (n : ℕ). suc n) (apart_are (others ++ z ∷ []) objects (declare_parts others z objects h).1 place other x y is at e)

pub objects_are : (objects : List ObjectLine) → may_declare [] objects ≡ true → AreObjects objects
objects_are objects h = record { names = names_are [] objects h; apart = apart_are [] objects h }
