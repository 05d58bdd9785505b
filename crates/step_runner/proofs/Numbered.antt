-- Replies with the numbers of keys.
use Rattle.std.proofs.Common.{◌≡◌, ℕ, zero, suc, ◌&&◌, List, [], ◌∷◌, map, length, get_or, refl, sym, ap, ◌∙◌}
use Rattle.std.specs.Prelude.{nat_le}
use Rattle.std.specs.List.{list_all}
use Rattle.std.proofs.lemmas.List.{length-map}
use Rattle.script_calls.specs.Runs.{left_of, made_of}
use Rattle.script_calls.specs.declared.call.Call.{Call}
use Rattle.script_calls.specs.declared.call.Reply.{Reply}
use Rattle.script_calls.specs.declared.call.Reply.TheVariants as replies
use Rattle.script_calls.specs.Outcome.{with_keys_renamed, has_pairs_to}
use Rattle.workload.specs.Keys.{keys_in, key_number}
use Rattle.workload.specs.Plan.{Plan}
use Rattle.step_runner.specs.Ends.{numbered}

-- what the law says: names of keys change no run
pub record NamesAside : Type 0 where
  pub left : (rename : List ℕ → ℕ) (script : List Call) (given : List (Reply (List ℕ))) → left_of script (map (with_keys_renamed rename) given) ≡ left_of script given
  pub made : (rename : List ℕ → ℕ) (script : List Call) (given : List (Reply (List ℕ))) → made_of script (map (with_keys_renamed rename) given) ≡ made_of script given

pub get_mapped : {X Y : Type 0} (f : List X → List Y) (xs : List (List X)) (k : ℕ) → f [] ≡ [] → get_or (map f xs) k [] ≡ f (get_or xs k [])
get_mapped f [] k none = sym none
get_mapped f (x ∷ xs) zero none = refl
get_mapped f (x ∷ xs) (suc k) none = get_mapped f xs k none

pub left_numbered : NamesAside → (plan : Plan) (worker : ℕ) (lists : List (List (Reply (List ℕ)))) → left_of (get_or plan.scripts worker []) (get_or (numbered plan lists) worker []) ≡ left_of (get_or plan.scripts worker []) (get_or lists worker [])
left_numbered names plan worker lists =
    let rename = key_number (keys_in plan.scripts) in
    let script = get_or plan.scripts worker [] in
    ap (λ (given : List (Reply ℕ)). left_of script given) (get_mapped (map (with_keys_renamed rename)) lists worker refl) ∙ names.left rename script (get_or lists worker [])

-- there are as many replies
pub same_numbers : {A B : Type 0} (f : A → B) (lists : List (List A)) → map length (map (map f) lists) ≡ map length lists
same_numbers f [] = refl
same_numbers f (list ∷ lists) = λ i. length-map list f i ∷ same_numbers f lists i

module _ {K L : Type 0} (rename : K → L) (most : ℕ) where
  -- a reply shows as many pairs
  same_pairs : (reply : Reply K) → has_pairs_to most (with_keys_renamed rename reply) ≡ has_pairs_to most reply
  same_pairs (replies.Map reply) = refl
  same_pairs (replies.Pairs pairs) = ap (λ n. nat_le n most) (length-map pairs (λ (pair : K × ℕ). (rename pair.0, pair.1)))
  same_pairs (replies.Atomic reply) = refl
  same_pairs (replies.Lock reply) = refl
  same_pairs replies.Returned = refl
  same_pairs (replies.Once reply) = refl
  same_pairs (replies.OnceFunc code) = refl
  same_pairs (replies.OnceValue value) = refl
  same_pairs (replies.Flown value shared) = refl
  same_pairs (replies.Pool reply) = refl
  same_pairs (replies.Var reply) = refl

  of_list : (list : List (Reply K)) → list_all (has_pairs_to most) (map (with_keys_renamed rename) list) ≡ list_all (has_pairs_to most) list
  of_list [] = refl
  of_list (reply ∷ list) = λ i. same_pairs reply i && of_list list i

  pub same_few : (lists : List (List (Reply K))) → list_all (list_all (has_pairs_to most)) (map (map (with_keys_renamed rename)) lists) ≡ list_all (list_all (has_pairs_to most)) lists
  same_few [] = refl
  same_few (list ∷ lists) = λ i. of_list list i && same_few lists i
