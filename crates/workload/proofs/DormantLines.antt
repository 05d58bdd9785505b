-- Which workers wait to be started, by the lines of a text.
use Rattle.std.proofs.Common.{◌≡◌, ℕ, zero, suc, ◌<◌, ◌≤◌, Bool, true, false, eqb, ◌&&◌, ◌||◌, List, [], ◌∷◌, length, get_or, set, replicate, Option, Some, None, refl, sym, ap, subst, ◌∙◌, arith, get_or-set_same, get_or-set_other}
use Rattle.std.specs.Prelude.{codes}
use Rattle.std.specs.List.{list_any}
use Rattle.std.specs.Fmt.{decimal}
use Rattle.std.specs.Str.{bytes_eq}
use Rattle.std.proofs.lemmas.Bool.{eqb-true, eqb-false, ltb-true}
use Rattle.std.proofs.lemmas.Fmt.{decimal_injective}
use Rattle.std.proofs.lemmas.List.{length-set, length-replicate}
use Rattle.std.proofs.lemmas.Slice.Eq.{bytes_eq-Decides}
use Rattle.workload.specs.declared.keyword.Dialect.{Dialect}
use Rattle.workload.specs.declared.keyword.Keyword.{Keyword}
use Rattle.workload.specs.declared.keyword.Keyword.TheVariants as keywords
use Rattle.workload.specs.declared.limits.TheConstants.{MAX_WORKERS}
use Rattle.workload.specs.declared.line.Line.{Line}
use Rattle.workload.specs.declared.line.Line.TheVariants as lines
use Rattle.workload.specs.Plan.{Plan, word_of, is_dormant, has_dormant}
use Rattle.workload.specs.Lines.{lines_of, words_of, is_significant}
use Rattle.workload.specs.KeywordWords.{keyword_word}
use Rattle.workload.specs.CallWords.{verb_of}
use Rattle.workload.specs.Words.{spelled, first_spelled, arguments_of}
use Rattle.workload.specs.Draft.{Draft, started, with_line, may_follow}
use Rattle.workload.specs.Dormant.{begins_dormant, names_dormant}
use Rattle.workload.specs.Reads.{ReadsIn}
use Rattle.workload.proofs.Follows.{dormant_follows}
use Rattle.workload.proofs.Keywords.{same_keyword}
use Rattle.workload.proofs.Says.{SaysOn, on_says}

-- ---- truth values

or_none : (b c : Bool) → c ≡ false → b ≡ (b || c)
or_none true c e = refl
or_none false c e = sym e

or_all : (b c : Bool) → c ≡ true → true ≡ (b || c)
or_all true c e = refl
or_all false c e = sym e

or_moved : (a b c : Bool) → ((a || b) || c) ≡ (a || (b || c))
or_moved true b c = refl
or_moved false b c = refl

-- what is false where it is true is false
never : (b : Bool) → (b ≡ true → ⊥) → b ≡ false
never true not_so = absurd (not_so refl)
never false not_so = refl

-- ---- the words of a line

-- words that begin with another word name no worker
none_named : (worker : ℕ) (word : List ℕ) (words : List (List ℕ)) → bytes_eq word (codes "dormant") ≡ false → names_dormant worker (word ∷ words) ≡ false
none_named worker word [] other = refl
none_named worker word (number ∷ []) other = ap (λ (b : Bool). b && bytes_eq number (decimal worker)) other
none_named worker word (number ∷ more ∷ words) other = refl

-- a keyword that isn't `dormant` has another word
other_word : (k : Keyword) → (k ≡ keywords.Dormant → ⊥) → bytes_eq (keyword_word k) (codes "dormant") ≡ false
other_word k other = never (bytes_eq (keyword_word k) (codes "dormant")) (λ same. other (same_keyword k keywords.Dormant ((bytes_eq-Decides (keyword_word k) (codes "dormant")).0 same)))

-- words that say nothing don't begin with `dormant`
silent_word : (word : List ℕ) (words : List (List ℕ)) → is_significant (word ∷ words) ≡ false → bytes_eq word (codes "dormant") ≡ false
silent_word word words silent = never (bytes_eq word (codes "dormant")) (λ same. speaks (ap (λ (w : List ℕ). is_significant (w ∷ words)) (sym ((bytes_eq-Decides word (codes "dormant")).0 same)) ∙ silent))
  where
    speaks : is_significant (codes "dormant" ∷ words) ≡ false → ⊥
    speaks e = cc

silent_begins : (words : List (List ℕ)) → is_significant words ≡ false → begins_dormant words ≡ false
silent_begins [] silent = refl
silent_begins (word ∷ words) silent = silent_word word words silent

silent_names : (worker : ℕ) (words : List (List ℕ)) → is_significant words ≡ false → names_dormant worker words ≡ false
silent_names worker [] silent = refl
silent_names worker (word ∷ words) silent = none_named worker word words (silent_word word words silent)

-- ---- any question of a plan that each line answers

-- what is true of a plan exactly where a line of its text is such a line
record Tells (workers : ℕ) (q : Plan → Bool) (p : List (List ℕ) → Bool) : Type 0 where
  silent : (words : List (List ℕ)) → is_significant words ≡ false → p words ≡ false
  first : p (first_spelled workers) ≡ false
  begins : q (started workers).plan ≡ false
  line : (d : Draft) (l : Line) → d.plan.workers ≡ workers → length d.plan.dormant ≡ workers → may_follow d l ≡ true → q (with_line d l).plan ≡ (q d.plan || p (spelled l))

workers_stay : (d : Draft) (l : Line) → (with_line d l).plan.workers ≡ d.plan.workers
workers_stay d (lines.Object o r) = refl
workers_stay d (lines.Dormant i) = refl
workers_stay d (lines.Worker i) = refl
workers_stay d (lines.Schedule ts) = refl
workers_stay d (lines.Call n r c) = refl

dormant_stay : (d : Draft) (l : Line) → length (with_line d l).plan.dormant ≡ length d.plan.dormant
dormant_stay d (lines.Object o r) = refl
dormant_stay d (lines.Dormant i) = length-set d.plan.dormant i true
dormant_stay d (lines.Worker i) = refl
dormant_stay d (lines.Schedule ts) = refl
dormant_stay d (lines.Call n r c) = refl

abbrev any_line : (List (List ℕ) → Bool) → List (List ℕ) → Bool
any_line p texts = list_any (λ text. p (words_of text)) texts

told : (workers : ℕ) (q : Plan → Bool) (p : List (List ℕ) → Bool) → Tells workers q p → (texts : List (List ℕ)) (d : Draft) (plan : Plan) → d.plan.workers ≡ workers → length d.plan.dormant ≡ workers → SaysOn texts (Some d) plan
    → q plan ≡ (q d.plan || any_line p texts)
told workers q p t [] d plan count long h = ap q h ∙ or_none (q d.plan) false refl
told workers q p t (text ∷ texts) d plan count long h =
    elim (is_significant (words_of text)) as (λ b. is_significant (words_of text) ≡ b → q plan ≡ (q d.plan || any_line p (text ∷ texts))) [
      | true ↦ λ says.
          let said = h.1.says says in
          let rest = told workers q p t texts (with_line d said.0) plan (workers_stay d said.0 ∙ count) (dormant_stay d said.0 ∙ long) (subst (λ (x : Option Draft). SaysOn texts x plan) said.3 h.2) in
          let here = t.line d said.0 count long said.1 ∙ ap (λ (ws : List (List ℕ)). q d.plan || p ws) (sym said.2) in
          rest ∙ ap (λ (b : Bool). b || any_line p texts) here ∙ or_moved (q d.plan) (p (words_of text)) (any_line p texts)
      | false ↦ λ silent.
          let rest = told workers q p t texts d plan count long (subst (λ (x : Option Draft). SaysOn texts x plan) (h.1.silent silent) h.2) in
          rest ∙ ap (λ (b : Bool). q d.plan || (b || any_line p texts)) (sym (t.silent (words_of text) silent))
    ] refl

-- a draft's workers are those of the workload
workers_kept : (texts : List (List ℕ)) (d : Draft) (plan : Plan) → SaysOn texts (Some d) plan → plan.workers ≡ d.plan.workers
workers_kept [] d plan h = ap (λ (x : Plan). x.workers) h
workers_kept (text ∷ texts) d plan h =
    elim (is_significant (words_of text)) as (λ b. is_significant (words_of text) ≡ b → plan.workers ≡ d.plan.workers) [
      | true ↦ λ says.
          let said = h.1.says says in
          workers_kept texts (with_line d said.0) plan (subst (λ (x : Option Draft). SaysOn texts x plan) said.3 h.2) ∙ workers_stay d said.0
      | false ↦ λ silent. workers_kept texts d plan (subst (λ (x : Option Draft). SaysOn texts x plan) (h.1.silent silent) h.2)
    ] refl

told_all : (q : Plan → Bool) (p : List (List ℕ) → Bool) (texts : List (List ℕ)) (plan : Plan) → ((words : List (List ℕ)) → is_significant words ≡ false → p words ≡ false) → (plan.workers ≤ MAX_WORKERS → Tells plan.workers q p) → SaysOn texts None plan
    → q plan ≡ any_line p texts
told_all q p [] plan quiet t h = absurd h
told_all q p (text ∷ texts) plan quiet t h =
    elim (is_significant (words_of text)) as (λ b. is_significant (words_of text) ≡ b → q plan ≡ any_line p (text ∷ texts)) [
      | true ↦ λ says.
          let said = h.1.says says in
          let behind = subst (λ (x : Option Draft). SaysOn texts x plan) said.4 h.2 in
          let workers = workers_kept texts (started said.0) plan behind in
          let tells = subst (λ (n : ℕ). Tells n q p) workers (t (omega (arith, said.2, workers))) in
          let rest = told said.0 q p tells texts (started said.0) plan refl (length-replicate said.0 false) behind in
          let here = ap p said.3 ∙ tells.first in
          rest ∙ ap (λ (b : Bool). b || any_line p texts) (tells.begins ∙ sym here)
      | false ↦ λ silent.
          told_all q p texts plan quiet t (subst (λ (x : Option Draft). SaysOn texts x plan) (h.1.silent silent) h.2)
          ∙ ap (λ (b : Bool). b || any_line p texts) (sym (quiet (words_of text) silent))
    ] refl

-- ---- each worker

no_worker : (n worker : ℕ) → get_or (replicate n false) worker false ≡ false
no_worker zero worker = refl
no_worker (suc n) zero = refl
no_worker (suc n) (suc worker) = no_worker n worker

-- what one line says of a worker
line_names : (d : Draft) (l : Line) (worker : ℕ) → d.plan.workers ≤ MAX_WORKERS → worker < d.plan.workers → length d.plan.dormant ≡ d.plan.workers → may_follow d l ≡ true
    → is_dormant (with_line d l).plan worker ≡ (is_dormant d.plan worker || names_dormant worker (spelled l))
line_names d (lines.Object o r) worker few inside long follows =
    let k = keywords.Object (word_of o.kind) in
    or_none (is_dormant d.plan worker) _ (none_named worker (keyword_word k) (arguments_of (lines.Object o r)) (other_word k (λ e. cc)))
line_names d (lines.Worker i) worker few inside long follows = or_none (is_dormant d.plan worker) _ refl
line_names d (lines.Schedule ts) worker few inside long follows = or_none (is_dormant d.plan worker) _ (none_named worker (keyword_word keywords.Schedule) (arguments_of (lines.Schedule ts)) refl)
line_names d (lines.Call n r c) worker few inside long follows =
    let k = keywords.Call (verb_of c.operation) in
    or_none (is_dormant d.plan worker) _ (none_named worker (keyword_word k) (arguments_of (lines.Call n r c)) (other_word k (λ e. cc)))
line_names d (lines.Dormant i) worker few inside long follows =
    let below = ltb-true i d.plan.workers (dormant_follows d i follows).worker_is in
    elim (eqb i worker) as (λ b. eqb i worker ≡ b → get_or (set d.plan.dormant i true) worker false ≡ (get_or d.plan.dormant worker false || bytes_eq (decimal i) (decimal worker))) [
      | true ↦ λ same.
          let is = eqb-true i worker same in
          let number : bytes_eq (decimal i) (decimal worker) ≡ true = (bytes_eq-Decides (decimal i) (decimal worker)).1 (ap decimal is) in
          ap (λ (n : ℕ). get_or (set d.plan.dormant i true) n false) (sym is)
          ∙ get_or-set_same d.plan.dormant i true false (omega (arith, below, long))
          ∙ or_all (get_or d.plan.dormant worker false) _ number
      | false ↦ λ other.
          let differ : i ≡ worker → ⊥ = λ e. eqb-false i worker other e in
          let number : bytes_eq (decimal i) (decimal worker) ≡ false =
          never (bytes_eq (decimal i) (decimal worker)) (λ same. differ (decimal_injective i worker (omega (arith, below, few)) (omega (arith, inside, few)) ((bytes_eq-Decides (decimal i) (decimal worker)).0 same))) in
          get_or-set_other d.plan.dormant i worker true false (λ e. differ (sym e)) ∙ or_none (get_or d.plan.dormant worker false) _ number
    ] refl

pub named_by_lines : (dialect : Dialect) (bytes : List ℕ) (plan : Plan) (worker : ℕ) → ReadsIn dialect bytes plan → worker < plan.workers → is_dormant plan worker ≡ list_any (λ line. names_dormant worker (words_of line)) (lines_of bytes)
named_by_lines dialect bytes plan worker h inside =
    told_all (λ p. is_dormant p worker) (names_dormant worker) (lines_of bytes) plan (silent_names worker)
    (λ few. record {
      silent = silent_names worker;
      first = refl;
      begins = no_worker plan.workers worker;
      line = λ d l count long follows. line_names d l worker (omega (arith, few, count)) (omega (arith, inside, count)) (omega (arith, long, count)) follows;
    })
    (on_says dialect (lines_of bytes) None plan h.lines)

-- ---- any worker

nobody : (n : ℕ) → list_any (λ waits. waits) (replicate n false) ≡ false
nobody zero = refl
nobody (suc n) = nobody n

one_waits : (waiting : List Bool) (i : ℕ) → i < length waiting → list_any (λ waits. waits) (set waiting i true) ≡ true
one_waits [] i inside = absurd (omega arith)
one_waits (b ∷ waiting) zero inside = refl
one_waits (b ∷ waiting) (suc i) inside = sym (or_all b _ (one_waits waiting i (omega arith)))

line_begins : (d : Draft) (l : Line) → length d.plan.dormant ≡ d.plan.workers → may_follow d l ≡ true → has_dormant (with_line d l).plan ≡ (has_dormant d.plan || begins_dormant (spelled l))
line_begins d (lines.Object o r) long follows = or_none (has_dormant d.plan) _ (other_word (keywords.Object (word_of o.kind)) (λ e. cc))
line_begins d (lines.Worker i) long follows = or_none (has_dormant d.plan) _ refl
line_begins d (lines.Schedule ts) long follows = or_none (has_dormant d.plan) _ refl
line_begins d (lines.Call n r c) long follows = or_none (has_dormant d.plan) _ (other_word (keywords.Call (verb_of c.operation)) (λ e. cc))
line_begins d (lines.Dormant i) long follows =
    let below = ltb-true i d.plan.workers (dormant_follows d i follows).worker_is in
    one_waits d.plan.dormant i (omega (arith, below, long)) ∙ or_all (has_dormant d.plan) _ refl

pub begun_by_lines : (dialect : Dialect) (bytes : List ℕ) (plan : Plan) → ReadsIn dialect bytes plan → has_dormant plan ≡ list_any (λ line. begins_dormant (words_of line)) (lines_of bytes)
begun_by_lines dialect bytes plan h =
    told_all has_dormant begins_dormant (lines_of bytes) plan silent_begins
    (λ few. record {
      silent = silent_begins;
      first = refl;
      begins = nobody plan.workers;
      line = λ d l count long follows. line_begins d l (omega (arith, long, count)) follows;
    })
    (on_says dialect (lines_of bytes) None plan h.lines)

-- nobody waits where each worker doesn't, and the other way round
pub nobody_waits : (waiting : List Bool) (worker : ℕ) → list_any (λ waits. waits) waiting ≡ false → get_or waiting worker false ≡ false
nobody_waits [] worker none = refl
nobody_waits (true ∷ waiting) worker none = absurd cc
nobody_waits (false ∷ waiting) zero none = refl
nobody_waits (false ∷ waiting) (suc worker) none = nobody_waits waiting worker none

pub each_goes : (waiting : List Bool) → ((worker : ℕ) → get_or waiting worker false ≡ false) → list_any (λ waits. waits) waiting ≡ false
each_goes [] each = refl
each_goes (b ∷ waiting) each = ap (λ (x : Bool). x || list_any (λ waits. waits) waiting) (each 0) ∙ each_goes waiting (λ worker. each (suc worker))
