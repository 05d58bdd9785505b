-- The numbers of calls' keys.
use Rattle.std.proofs.Common.{◌≡◌, ℕ, suc, ◌<◌, ◌≤◌, Bool, false, cond, List, [], ◌∷◌, ◌++◌, length, drop, get_or, map, Option, Some, refl, sym, ap, ◌∙◌}
use Rattle.std.specs.List.{list_any, flat_map}
use Rattle.std.specs.Option.{option_map_or}
use Rattle.std.specs.Str.{bytes_eq}
use Rattle.std.proofs.lemmas.List.{append_assoc, append-nil, drop_all}
use Rattle.std.proofs.Math.Seq.{drop-cons}
use Rattle.script_calls.specs.declared.call.Call.{Call}
use Rattle.workload.specs.Draft.{keys_of, all_keys}
use Rattle.workload.specs.Keys.{with_name, with_names, keys_in, number_in, key_number, call_number}
use Rattle.workload.proofs.KeyNumbers.{names_append, with_first, with_script}
use Rattle.workload.proofs.KeyLaws.{any_there, at_the_end, stays_names}

-- ---- a name's number stays when names are added

stays : (names later : List (List ℕ)) (name : List ℕ) (number : ℕ) → number_in names name ≡ Some number → number ≡ key_number (with_names names later) name
stays names later name number is =
    sym (ap (λ (o : Option ℕ). option_map_or (λ n. n) o 0) (stays_names names later name (any_there names name number is) ∙ is))

-- a name that is there is added no more
pub added_before : (names : List (List ℕ)) (name : List ℕ) (number : ℕ) → number_in names name ≡ Some number → names ≡ with_name names name
added_before names name number is = sym (ap (λ (b : Bool). cond b names (names ++ name ∷ [])) (any_there names name number is))

-- its number stays
pub old_number : (names later : List (List ℕ)) (name : List ℕ) (number : ℕ) → number_in names name ≡ Some number → number ≡ key_number (with_names (with_name names name) later) name
old_number names later name number is = stays names (name ∷ later) name number is

-- and so does that of a name that comes to the end
pub new_number : (names later : List (List ℕ)) (name : List ℕ) → list_any (bytes_eq name) names ≡ false → length names ≡ key_number (with_names (with_name names name) later) name
new_number names later name new =
    stays (with_name names name) later name (length names) (ap (λ (b : Bool). number_in (cond b names (names ++ name ∷ [])) name) new ∙ at_the_end names name new)

-- ---- one after the other

-- what is made of the items so far, and of those that are left
pub one_more : {X Y : Type 0} (f : X → Y) (all : List X) (i : ℕ) (item : X) (made : List Y) (one : Y) → drop i all ≡ item ∷ drop (suc i) all → one ≡ f item
    → made ++ map f (drop i all) ≡ map f all → (made ++ one ∷ []) ++ map f (drop (suc i) all) ≡ map f all
one_more f all i item made one at is so_far =
    append_assoc made (one ∷ []) (map f (drop (suc i) all))
    ∙ ap (λ y. made ++ y ∷ map f (drop (suc i) all)) is
    ∙ ap (λ left. made ++ map f left) (sym at) ∙ so_far

pub none_left : {X Y : Type 0} (f : X → Y) (all : List X) (i : ℕ) (made : List Y) → length all ≤ i → made ++ map f (drop i all) ≡ map f all → made ≡ map f all
none_left f all i made past so_far = sym (append-nil made) ∙ ap (λ left. made ++ map f left) (sym (drop_all i all past)) ∙ so_far

-- the keys and numbers of a script's calls so far, behind the keys that were there first
pub record SoFar (first : List (List ℕ)) (script : List Call) (keys : List (List ℕ)) (numbers : List ℕ) (i : ℕ) : Type 0 where
  pub keys_are : with_names keys (flat_map keys_of (drop i script)) ≡ with_names first (flat_map keys_of script)
  pub numbers_are : (later : List (List ℕ)) → numbers ++ map (call_number (with_names (with_names first (flat_map keys_of script)) later)) (drop i script) ≡ map (call_number (with_names (with_names first (flat_map keys_of script)) later)) script

pub begins : (first : List (List ℕ)) (script : List Call) → SoFar first script first [] 0
begins first script = record { keys_are = refl; numbers_are = λ later. refl }

pub goes_on : (first : List (List ℕ)) (script : List Call) (keys more : List (List ℕ)) (numbers : List ℕ) (i number : ℕ) (call : Call) → drop i script ≡ call ∷ drop (suc i) script
    → more ≡ with_names keys (keys_of call) → ((later : List (List ℕ)) → number ≡ call_number (with_names (with_names keys (keys_of call)) later) call) → SoFar first script keys numbers i → SoFar first script more (numbers ++ number ∷ []) (suc i)
goes_on first script keys more numbers i number call at is numbered so_far = record {
  keys_are = ap (λ (names : List (List ℕ)). with_names names rest) is ∙ all_names;
  numbers_are = λ later. one_more (call_number (with_names (with_names first (flat_map keys_of script)) later)) script i call numbers number at (numbered (rest ++ later) ∙ ap (λ (names : List (List ℕ)). call_number names call) (whole later)) (so_far.numbers_are later);
}
  where
    rest : List (List ℕ)
    rest = flat_map keys_of (drop (suc i) script)

    all_names : with_names (with_names keys (keys_of call)) rest ≡ with_names first (flat_map keys_of script)
    all_names = sym (with_first keys script i call at) ∙ so_far.keys_are

    whole : (later : List (List ℕ)) → with_names (with_names keys (keys_of call)) (rest ++ later) ≡ with_names (with_names first (flat_map keys_of script)) later
    whole later = names_append (with_names keys (keys_of call)) rest later ∙ ap (λ (names : List (List ℕ)). with_names names later) all_names

-- the next of the scripts
pub next_script : (keys : List (List ℕ)) (scripts : List (List Call)) (i : ℕ) (script : List Call) (row : List ℕ) → i < length scripts → script ≡ get_or scripts i script → with_names keys (all_keys (drop i scripts)) ≡ keys_in scripts
    → ((later : List (List ℕ)) → row ≡ map (call_number (with_names (with_names keys (flat_map keys_of script)) later)) script) → row ≡ map (call_number (keys_in scripts)) script
next_script keys scripts i script row below is so_far numbered =
    numbered (all_keys (drop (suc i) scripts)) ∙ ap (λ (names : List (List ℕ)). map (call_number names) script) (sym (with_script keys scripts i script below is) ∙ so_far)

pub first_left : {X : Type 0} (all : List X) (i : ℕ) (item : X) → i < length all → item ≡ get_or all i item → drop i all ≡ item ∷ drop (suc i) all
first_left all i item below is = drop-cons all i item below ∙ ap (λ x. x ∷ drop (suc i) all) (sym is)
