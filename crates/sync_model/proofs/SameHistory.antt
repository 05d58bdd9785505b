-- The callers' own lists determine the history.
use Rattle.std.proofs.Common.{◌≡◌, ℕ, ◌+◌, ◌≤◌, Bool, true, false, ◌==◌, cond, List, [], ◌∷◌, refl, sym, ap, ◌∙◌, subst, arith}
use Rattle.std.proofs.lemmas.Bool.{eq-eqb}
use Rattle.sync_model.specs.declared.item.SharedEntry.{SharedEntry}
use Rattle.sync_model.specs.declared.item.Item.{Item}
use Rattle.sync_model.specs.SharedHistory.{Contents, entries_from}
use Rattle.sync_model.specs.SharedCalls.{Lawful}

module _ {A : Type 0} where
  pub heads : (x y : A) (xs ys : List A) → x ∷ xs ≡ y ∷ ys → x ≡ y
  heads x y xs ys e = cc

  pub tails : (x y : A) (xs ys : List A) → x ∷ xs ≡ y ∷ ys → xs ≡ ys
  tails x y xs ys e = cc

-- no entry from number n on has a lower number
pub late : (n c : ℕ) (history : List SharedEntry) (p : ℕ × SharedEntry) (rest : List (ℕ × SharedEntry)) → entries_from n c history ≡ p ∷ rest → n ≤ p.0
late n c [] p rest e = absurd cc
late n c (entry ∷ later) p rest e =
    let mine : ℕ × SharedEntry = (n, entry) in
    by_test (entry.caller == c) mine (entries_from (n + 1) c later) (late (n + 1) c later p rest) refl e
  where
    by_test : (b : Bool) (mine : ℕ × SharedEntry) (others : List (ℕ × SharedEntry)) → (others ≡ p ∷ rest → n + 1 ≤ p.0) → mine.0 ≡ n → cond b (mine ∷ others) others ≡ p ∷ rest → n ≤ p.0
    by_test true mine others later_on is e = let same : mine.0 ≡ p.0 = ap (λ (q : ℕ × SharedEntry). q.0) (heads mine p others rest e) in omega arith
    by_test false mine others later_on is e = let after = later_on e in omega arith

-- an entry's own caller's list begins with it
own_first : (n : ℕ) (entry : SharedEntry) (later : List SharedEntry) (mine : ℕ × SharedEntry) → mine ≡ (n, entry) → entries_from n entry.caller (entry ∷ later) ≡ mine ∷ entries_from (n + 1) entry.caller later
own_first n entry later mine is = ap (λ b. cond b ((n, entry) ∷ entries_from (n + 1) entry.caller later) (entries_from (n + 1) entry.caller later)) (eq-eqb entry.caller entry.caller refl) ∙ ap (λ p. p ∷ entries_from (n + 1) entry.caller later) (sym is)

-- histories with the same entries by each caller are equal
pub same_entries : (n : ℕ) (first second : List SharedEntry) → ((c : ℕ) → entries_from n c first ≡ entries_from n c second) → first ≡ second
same_entries n [] [] same = refl
same_entries n [] (y ∷ ys) same = let mine : ℕ × SharedEntry = (n, y) in let e : [] ≡ mine ∷ entries_from (n + 1) y.caller ys = same y.caller ∙ own_first n y ys mine refl in absurd cc
same_entries n (x ∷ xs) [] same = let mine : ℕ × SharedEntry = (n, x) in let e : mine ∷ entries_from (n + 1) x.caller xs ≡ [] = sym (own_first n x xs mine refl) ∙ same x.caller in absurd cc
same_entries n (x ∷ xs) (y ∷ ys) same =
    let mine : ℕ × SharedEntry = (n, x) in
    let theirs : ℕ × SharedEntry = (n, y) in
    let first : x ≡ y = by_test (y.caller == x.caller) mine theirs (entries_from (n + 1) x.caller xs) (entries_from (n + 1) x.caller ys) refl refl refl (late (n + 1) x.caller ys mine (entries_from (n + 1) x.caller xs)) (sym (own_first n x xs mine refl) ∙ same x.caller) in
    let later : (c : ℕ) → entries_from (n + 1) c xs ≡ entries_from (n + 1) c ys = λ c. rest_same c (y.caller == c) mine theirs (entries_from (n + 1) c xs) (entries_from (n + 1) c ys) (subst (λ (z : SharedEntry). cond (z.caller == c) ((n, x) ∷ entries_from (n + 1) c xs) (entries_from (n + 1) c xs) ≡ cond (y.caller == c) ((n, y) ∷ entries_from (n + 1) c ys) (entries_from (n + 1) c ys)) first (same c)) in
    ap (λ z. z ∷ xs) first ∙ ap (λ zs. y ∷ zs) (same_entries (n + 1) xs ys later)
  where
    by_test : (b : Bool) (mine theirs : ℕ × SharedEntry) (my_rest their_rest : List (ℕ × SharedEntry)) → mine.0 ≡ n → mine.1 ≡ x → theirs.1 ≡ y → (their_rest ≡ mine ∷ my_rest → n + 1 ≤ mine.0)
        → mine ∷ my_rest ≡ cond b (theirs ∷ their_rest) their_rest → x ≡ y
    by_test true mine theirs my_rest their_rest number is_x is_y after e = sym is_x ∙ ap (λ (q : ℕ × SharedEntry). q.1) (heads mine theirs my_rest their_rest e) ∙ is_y
    by_test false mine theirs my_rest their_rest number is_x is_y after e = let late = after (sym e) in absurd (omega arith)

    rest_same : (c : ℕ) (b : Bool) (mine theirs : ℕ × SharedEntry) (my_rest their_rest : List (ℕ × SharedEntry)) → cond b (mine ∷ my_rest) my_rest ≡ cond b (theirs ∷ their_rest) their_rest → my_rest ≡ their_rest
    rest_same c true mine theirs my_rest their_rest e = tails mine theirs my_rest their_rest e
    rest_same c false mine theirs my_rest their_rest e = e

pub same_history : (start other : Contents) (first second : List SharedEntry) (calls : ℕ → List Item) → Lawful start first calls → Lawful other second calls → first ≡ second
same_history start other first second calls one two = same_entries 0 first second (λ c. sym (one.marked c) ∙ two.marked c)
