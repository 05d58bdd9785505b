-- Lines that may follow one after the other, and their text.
use Rattle.std.proofs.Common.{◌≡◌, ℕ, ◌+◌, ◌*◌, ◌<◌, ◌≤◌, Bool, true, false, List, [], ◌∷◌, ◌++◌, length, Option, Some, None, refl, sym, ap, subst, ◌∙◌, append_assoc, arith}
use Rattle.std.specs.List.{join_with_byte}
use Rattle.std.specs.Fmt.{decimal}
use Rattle.std.proofs.lemmas.Bool.{le-leb}
use Rattle.std.proofs.lemmas.List.{length-append}
use Rattle.sync_types.specs.declared.atomic_object.AtomicKind.TheVariants as types
use Rattle.workload.specs.declared.keyword.Keyword.{Keyword}
use Rattle.workload.specs.declared.keyword.Keyword.TheVariants as keywords
use Rattle.workload.specs.declared.keyword.Verb.TheVariants as verbs
use Rattle.workload.specs.declared.limits.TheConstants.{MAX_LINE, MAX_WORKERS}
use Rattle.workload.specs.declared.object.ObjectWord.TheVariants as words
use Rattle.workload.specs.declared.line.Line.{Line}
use Rattle.workload.specs.Lines.{lines_of, words_of, is_clean, is_significant}
use Rattle.workload.specs.KeywordWords.{keyword_word}
use Rattle.workload.specs.Words.{spelled, first_spelled, keyword_of, arguments_of}
use Rattle.workload.specs.Draft.{Draft, started, with_line, may_follow}
use Rattle.workload.specs.Canonical.{text_line, lines_text}
use Rattle.workload.proofs.OneReading.{line_small}
use Rattle.workload.proofs.Says.{Says, IsSaid, SaysOn}
use Rattle.workload.proofs.LineTexts.{words_of-join, is_clean-join, lines_of-line, FitsLine, IsNarrow, line_fits, filled_pair}

-- the lines may follow one another, from one draft to another
abbrev pub FollowOn : Draft → List Line → Draft → Type 0
FollowOn d [] e = e ≡ d
FollowOn d (l ∷ ls) e = (may_follow d l ≡ true) × IsNarrow l × FollowOn (with_line d l) ls e

pub follow_append : (xs ys : List Line) (d m e : Draft) → FollowOn d xs m → FollowOn m ys e → FollowOn d (xs ++ ys) e
follow_append [] ys d m e f g = subst (λ (x : Draft). FollowOn x ys e) f g
follow_append (l ∷ xs) ys d m e f g = (f.0, f.1, follow_append xs ys (with_line d l) m e f.2 g)

pub follow_to : (xs : List Line) (d e f : Draft) → e ≡ f → FollowOn d xs e → FollowOn d xs f
follow_to xs d e f same h = subst (λ (x : Draft). FollowOn d xs x) same h

-- a keyword says something
significant : (k : Keyword) (rest : List (List ℕ)) → is_significant (keyword_word k ∷ rest) ≡ true
significant keywords.Workers rest = refl
significant (keywords.Object words.Map) rest = refl
significant (keywords.Object (words.Atomic types.Int32)) rest = refl
significant (keywords.Object (words.Atomic types.Int64)) rest = refl
significant (keywords.Object (words.Atomic types.Uint32)) rest = refl
significant (keywords.Object (words.Atomic types.Uint64)) rest = refl
significant (keywords.Object (words.Atomic types.Bool)) rest = refl
significant (keywords.Object words.Mutex) rest = refl
significant (keywords.Object words.RwMutex) rest = refl
significant (keywords.Object words.Cond) rest = refl
significant (keywords.Object words.WaitGroup) rest = refl
significant (keywords.Object words.Once) rest = refl
significant (keywords.Object words.OnceFunc) rest = refl
significant (keywords.Object words.OnceValue) rest = refl
significant (keywords.Object words.Pool) rest = refl
significant (keywords.Object words.Sema) rest = refl
significant (keywords.Object words.Flight) rest = refl
significant (keywords.Object words.Var) rest = refl
significant keywords.Dormant rest = refl
significant keywords.Worker rest = refl
significant keywords.Schedule rest = refl
significant (keywords.Call verbs.Load) rest = refl
significant (keywords.Call verbs.Store) rest = refl
significant (keywords.Call verbs.LoadOrStore) rest = refl
significant (keywords.Call verbs.LoadAndDelete) rest = refl
significant (keywords.Call verbs.Delete) rest = refl
significant (keywords.Call verbs.Swap) rest = refl
significant (keywords.Call verbs.CompareAndSwap) rest = refl
significant (keywords.Call verbs.CompareAndDelete) rest = refl
significant (keywords.Call verbs.Clear) rest = refl
significant (keywords.Call verbs.Range) rest = refl
significant (keywords.Call verbs.Add) rest = refl
significant (keywords.Call verbs.And) rest = refl
significant (keywords.Call verbs.Or) rest = refl
significant (keywords.Call verbs.Lock) rest = refl
significant (keywords.Call verbs.Unlock) rest = refl
significant (keywords.Call verbs.TryLock) rest = refl
significant (keywords.Call verbs.RLock) rest = refl
significant (keywords.Call verbs.RUnlock) rest = refl
significant (keywords.Call verbs.TryRLock) rest = refl
significant (keywords.Call verbs.Wait) rest = refl
significant (keywords.Call verbs.Signal) rest = refl
significant (keywords.Call verbs.Broadcast) rest = refl
significant (keywords.Call verbs.Done) rest = refl
significant (keywords.Call verbs.Do) rest = refl
significant (keywords.Call verbs.Call) rest = refl
significant (keywords.Call verbs.Value) rest = refl
significant (keywords.Call verbs.Put) rest = refl
significant (keywords.Call verbs.Get) rest = refl
significant (keywords.Call verbs.Sweep) rest = refl
significant (keywords.Call verbs.IfEqual) rest = refl
significant (keywords.Call verbs.WaitFor) rest = refl
significant (keywords.Call verbs.Go) rest = refl
significant (keywords.Call verbs.Acquire) rest = refl
significant (keywords.Call verbs.TryAcquire) rest = refl
significant (keywords.Call verbs.Release) rest = refl
significant (keywords.Call verbs.Fly) rest = refl
significant (keywords.Call verbs.Read) rest = refl
significant (keywords.Call verbs.Write) rest = refl

not_silent : {X : Type 0} (b : Bool) → b ≡ true → b ≡ false → X
not_silent b t f = absurd cc

-- a line of words that fit says what the words say
line_says : (before after : Option Draft) (word : List ℕ) (words : List (List ℕ)) → FitsLine (word ∷ words) → is_significant (word ∷ words) ≡ true → Says before (word ∷ words) after → IsSaid before (join_with_byte 32 (word ∷ words)) after
line_says before after word words fits says h =
    let cut = words_of-join word words fits.all in
    let speaks : is_significant (words_of (join_with_byte 32 (word ∷ words))) ≡ true = ap is_significant cut ∙ says in
    record {
      short = le-leb (length (join_with_byte 32 (word ∷ words))) MAX_LINE fits.short;
      clean = is_clean-join (word ∷ words) fits.all;
      silent = λ quiet. not_silent _ speaks quiet;
      says = λ t. subst (λ (ws : List (List ℕ)). Says before ws after) (sym cut) h;
    }

text_cut : (words : List (List ℕ)) (rest : List ℕ) → is_clean (join_with_byte 32 words) ≡ true → lines_of (text_line words ++ rest) ≡ join_with_byte 32 words ∷ lines_of rest
text_cut words rest clean = ap lines_of (append_assoc (join_with_byte 32 words) (10 ∷ []) rest) ∙ lines_of-line (join_with_byte 32 words) rest clean

-- the text of lines that follow one another says them
pub says_text : (ls : List Line) (d e : Draft) → d.plan.workers ≤ MAX_WORKERS → FollowOn d ls e → SaysOn (lines_of (lines_text ls)) (Some d) e.plan
says_text [] d e few f = ap (λ (x : Draft). x.plan) f
says_text (l ∷ ls) d e few f =
    let fits = line_fits d l few f.0 f.1 in
    let said = line_says (Some d) (Some (with_line d l)) (keyword_word (keyword_of l)) (arguments_of l) fits (significant (keyword_of l) (arguments_of l)) (l, f.0, refl, refl) in
    let rest = says_text ls (with_line d l) e (line_small d l few) f.2 in
    subst (λ (texts : List (List ℕ)). SaysOn texts (Some d) e.plan) (sym (text_cut (spelled l) (lines_text ls) (is_clean-join (spelled l) fits.all))) (Some (with_line d l), said, rest)

-- and isn't long
pub text_length : (ls : List Line) (d e : Draft) → d.plan.workers ≤ MAX_WORKERS → FollowOn d ls e → length (lines_text ls) ≤ 201 * length ls
text_length [] d e few f = omega arith
text_length (l ∷ ls) d e few f =
    let fits = line_fits d l few f.0 f.1 in
    let rest = text_length ls (with_line d l) e (line_small d l few) f.2 in
    omega (arith, fits.short, rest, length-append (text_line (spelled l)) (lines_text ls), length-append (join_with_byte 32 (spelled l)) (10 ∷ []))

first_fits : (workers : ℕ) → workers ≤ MAX_WORKERS → FitsLine (first_spelled workers)
first_fits workers few = filled_pair workers (omega arith)

-- behind the first line
pub says_all : (workers : ℕ) (ls : List Line) (e : Draft) → 0 < workers → workers ≤ MAX_WORKERS → FollowOn (started workers) ls e → SaysOn (lines_of (text_line (first_spelled workers) ++ lines_text ls)) None e.plan
says_all workers ls e some few f =
    let fits = first_fits workers few in
    let said = line_says None (Some (started workers)) _ (decimal workers ∷ []) fits refl (workers, some, few, refl, refl) in
    subst (λ (texts : List (List ℕ)). SaysOn texts None e.plan) (sym (text_cut (first_spelled workers) (lines_text ls) (is_clean-join (first_spelled workers) fits.all))) (Some (started workers), said, says_text ls (started workers) e few f)

pub all_length : (workers : ℕ) (ls : List Line) (e : Draft) → workers ≤ MAX_WORKERS → FollowOn (started workers) ls e → length (text_line (first_spelled workers) ++ lines_text ls) ≤ 201 * (length ls + 1)
all_length workers ls e few f =
    let fits = first_fits workers few in
    omega (arith, fits.short, text_length ls (started workers) e few f, length-append (text_line (first_spelled workers)) (lines_text ls), length-append (join_with_byte 32 (first_spelled workers)) (10 ∷ []))
