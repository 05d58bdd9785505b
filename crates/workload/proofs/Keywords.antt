-- The words that lines begin with, and back.
use Rattle.std.proofs.Common.{◌≡◌, ℕ, true, false, cond, List, [], ◌∷◌, ◌++◌, map, Option, Some, None, refl, sym, ap, subst, ◌∙◌}
use Rattle.std.specs.Str.{bytes_eq}
use Rattle.std.proofs.lemmas.Slice.Eq.{bytes_eq-Decides}
use Rattle.sync_types.specs.declared.atomic_object.AtomicKind.TheVariants as types
use Rattle.workload.specs.declared.keyword.Dialect.{Dialect}
use Rattle.workload.specs.declared.keyword.Keyword.{Keyword}
use Rattle.workload.specs.declared.keyword.Keyword.TheVariants as keywords
use Rattle.workload.specs.declared.keyword.Verb.{Verb}
use Rattle.workload.specs.declared.keyword.Verb.TheVariants as verbs
use Rattle.workload.specs.declared.object.ObjectWord.TheVariants as words
use Rattle.workload.specs.Dialect.{knows, if_known, keyword_in}
use Rattle.workload.specs.KeywordWords.{verb_word, call_verbs, other_keywords, all_keywords, keyword_word, first_named, keyword_at}

-- each keyword is read back from its word
pub keyword_at-keyword_word : (k : Keyword) → keyword_at (keyword_word k) ≡ Some k
keyword_at-keyword_word keywords.Workers = refl
keyword_at-keyword_word (keywords.Object words.Map) = refl
keyword_at-keyword_word (keywords.Object (words.Atomic types.Int32)) = refl
keyword_at-keyword_word (keywords.Object (words.Atomic types.Int64)) = refl
keyword_at-keyword_word (keywords.Object (words.Atomic types.Uint32)) = refl
keyword_at-keyword_word (keywords.Object (words.Atomic types.Uint64)) = refl
keyword_at-keyword_word (keywords.Object (words.Atomic types.Bool)) = refl
keyword_at-keyword_word (keywords.Object words.Mutex) = refl
keyword_at-keyword_word (keywords.Object words.RwMutex) = refl
keyword_at-keyword_word (keywords.Object words.Cond) = refl
keyword_at-keyword_word (keywords.Object words.WaitGroup) = refl
keyword_at-keyword_word (keywords.Object words.Once) = refl
keyword_at-keyword_word (keywords.Object words.OnceFunc) = refl
keyword_at-keyword_word (keywords.Object words.OnceValue) = refl
keyword_at-keyword_word (keywords.Object words.Pool) = refl
keyword_at-keyword_word (keywords.Object words.Sema) = refl
keyword_at-keyword_word (keywords.Object words.Flight) = refl
keyword_at-keyword_word (keywords.Object words.Var) = refl
keyword_at-keyword_word keywords.Dormant = refl
keyword_at-keyword_word keywords.Worker = refl
keyword_at-keyword_word keywords.Schedule = refl
keyword_at-keyword_word (keywords.Call verbs.Load) = refl
keyword_at-keyword_word (keywords.Call verbs.Store) = refl
keyword_at-keyword_word (keywords.Call verbs.LoadOrStore) = refl
keyword_at-keyword_word (keywords.Call verbs.LoadAndDelete) = refl
keyword_at-keyword_word (keywords.Call verbs.Delete) = refl
keyword_at-keyword_word (keywords.Call verbs.Swap) = refl
keyword_at-keyword_word (keywords.Call verbs.CompareAndSwap) = refl
keyword_at-keyword_word (keywords.Call verbs.CompareAndDelete) = refl
keyword_at-keyword_word (keywords.Call verbs.Clear) = refl
keyword_at-keyword_word (keywords.Call verbs.Range) = refl
keyword_at-keyword_word (keywords.Call verbs.Add) = refl
keyword_at-keyword_word (keywords.Call verbs.And) = refl
keyword_at-keyword_word (keywords.Call verbs.Or) = refl
keyword_at-keyword_word (keywords.Call verbs.Lock) = refl
keyword_at-keyword_word (keywords.Call verbs.Unlock) = refl
keyword_at-keyword_word (keywords.Call verbs.TryLock) = refl
keyword_at-keyword_word (keywords.Call verbs.RLock) = refl
keyword_at-keyword_word (keywords.Call verbs.RUnlock) = refl
keyword_at-keyword_word (keywords.Call verbs.TryRLock) = refl
keyword_at-keyword_word (keywords.Call verbs.Wait) = refl
keyword_at-keyword_word (keywords.Call verbs.Signal) = refl
keyword_at-keyword_word (keywords.Call verbs.Broadcast) = refl
keyword_at-keyword_word (keywords.Call verbs.Done) = refl
keyword_at-keyword_word (keywords.Call verbs.Do) = refl
keyword_at-keyword_word (keywords.Call verbs.Call) = refl
keyword_at-keyword_word (keywords.Call verbs.Value) = refl
keyword_at-keyword_word (keywords.Call verbs.Put) = refl
keyword_at-keyword_word (keywords.Call verbs.Get) = refl
keyword_at-keyword_word (keywords.Call verbs.Sweep) = refl
keyword_at-keyword_word (keywords.Call verbs.IfEqual) = refl
keyword_at-keyword_word (keywords.Call verbs.WaitFor) = refl
keyword_at-keyword_word (keywords.Call verbs.Go) = refl
keyword_at-keyword_word (keywords.Call verbs.Acquire) = refl
keyword_at-keyword_word (keywords.Call verbs.TryAcquire) = refl
keyword_at-keyword_word (keywords.Call verbs.Release) = refl
keyword_at-keyword_word (keywords.Call verbs.Fly) = refl
keyword_at-keyword_word (keywords.Call verbs.Read) = refl
keyword_at-keyword_word (keywords.Call verbs.Write) = refl

same_some : {X : Type 0} (x y : X) → Some x ≡ Some y → x ≡ y
same_some x y e = cc

-- no two keywords have one word
pub same_keyword : (k l : Keyword) → keyword_word k ≡ keyword_word l → k ≡ l
same_keyword k l e = same_some k l (sym (keyword_at-keyword_word k) ∙ ap keyword_at e ∙ keyword_at-keyword_word l)

-- what is found by its name has it
named_first : {X : Type 0} (name : X → List ℕ) (xs : List X) (word : List ℕ) (x : X) → first_named name xs word ≡ Some x → word ≡ name x
named_first name [] word x h = absurd cc
named_first name (first ∷ xs) word x h =
    elim (bytes_eq word (name first)) as (λ b. bytes_eq word (name first) ≡ b → cond b (Some first) (first_named name xs word) ≡ Some x → word ≡ name x) [
      | true ↦ λ t s. (bytes_eq-Decides word (name first)).0 t ∙ ap name (same_some first x s)
      | false ↦ λ f s. named_first name xs word x s
    ] refl h

-- a word that is a keyword is that keyword's word
pub keyword_from : (word : List ℕ) (k : Keyword) → keyword_at word ≡ Some k → word ≡ keyword_word k
keyword_from word k h = named_first keyword_word all_keywords word k h

-- where none of some has the name, those before them are all that is looked in
before_others : {X : Type 0} (name : X → List ℕ) (xs ys : List X) (word : List ℕ) → first_named name ys word ≡ None → first_named name (xs ++ ys) word ≡ first_named name xs word
before_others name [] ys word none = none
before_others name (x ∷ xs) ys word none = ap (cond (bytes_eq word (name x)) (Some x)) (before_others name xs ys word none)

no_call : (vs : List Verb) (word : List ℕ) → first_named verb_word vs word ≡ None → first_named keyword_word (map (λ verb. keywords.Call verb) vs) word ≡ None
no_call [] word none = refl
no_call (v ∷ vs) word none =
    elim (bytes_eq word (verb_word v)) as (λ b. cond b (Some v) (first_named verb_word vs word) ≡ None → cond b (Some (keywords.Call v)) (first_named keyword_word (map (λ verb. keywords.Call verb) vs) word) ≡ None) [
      | true ↦ λ h. absurd cc
      | false ↦ λ h. no_call vs word h
    ] none

-- a word of a call is that keyword
pub call_at : (word : List ℕ) (v : Verb) → first_named verb_word call_verbs word ≡ Some v → keyword_at word ≡ Some (keywords.Call v)
call_at word v is = ap keyword_at (named_first verb_word call_verbs word v is) ∙ keyword_at-keyword_word (keywords.Call v)

-- a word that is none of a call is looked for among the others
pub other_at : (word : List ℕ) → first_named verb_word call_verbs word ≡ None → keyword_at word ≡ first_named keyword_word other_keywords word
other_at word none = before_others keyword_word other_keywords (map (λ verb. keywords.Call verb) call_verbs) word (no_call call_verbs word none)

-- a keyword of a dialect is found, and so read back from its word
pub in_dialect : (dialect : Dialect) (word : List ℕ) (k : Keyword) → (keyword_at word ≡ Some k) × (knows dialect k ≡ true) → keyword_in dialect word ≡ Some k
in_dialect dialect word k (is, known) = ap (if_known dialect) is ∙ ap (λ b. cond b (Some k) None) known

pub keyword_in-keyword_word : (dialect : Dialect) (k : Keyword) → knows dialect k ≡ true → keyword_in dialect (keyword_word k) ≡ Some k
keyword_in-keyword_word dialect k known = in_dialect dialect (keyword_word k) k (keyword_at-keyword_word k, known)

-- and no other is read
pub known_at : (dialect : Dialect) (word : List ℕ) (k : Keyword) → keyword_in dialect word ≡ Some k → (keyword_at word ≡ Some k) × (knows dialect k ≡ true)
known_at dialect word k h = at (keyword_at word) refl h
  where
    at : (o : Option Keyword) → keyword_at word ≡ o → if_known dialect o ≡ Some k → (keyword_at word ≡ Some k) × (knows dialect k ≡ true)
    at None is e = absurd cc
    at (Some other) is e =
        elim (knows dialect other) as (λ b. knows dialect other ≡ b → cond b (Some other) None ≡ Some k → (keyword_at word ≡ Some k) × (knows dialect k ≡ true)) [
          | true ↦ λ t s. (is ∙ s, subst (λ (x : Keyword). knows dialect x ≡ true) (same_some other k s) t)
          | false ↦ λ f s. absurd cc
        ] refl e
