-- Which texts each dialect reads: those of workloads without objects that it doesn't know.
use Rattle.std.proofs.Common.{◌≡◌, ℕ, zero, suc, ◌-◌, Bool, true, false, cond, eqb, not, ◌&&◌, ◌||◌, List, [], ◌∷◌, Option, Some, None, refl, sym, ap, subst, ◌∙◌, inl, inr, ◌⊎◌, ⊎_elim}
use Rattle.std.specs.Prelude.{codes, slice_get}
use Rattle.std.specs.List.{list_any}
use Rattle.std.proofs.lemmas.List.Folds.{list_any-append}
use Rattle.script_calls.specs.declared.call.Call.{Call}
use Rattle.script_calls.specs.declared.call.Operation.{Operation}
use Rattle.script_calls.specs.declared.call.Operation.TheVariants as operations
use Rattle.workload.specs.declared.keyword.Dialect.{Dialect}
use Rattle.workload.specs.declared.keyword.Dialect.TheVariants.{Plain, Runs, Races}
use Rattle.workload.specs.declared.keyword.Keyword.{Keyword}
use Rattle.workload.specs.declared.keyword.Keyword.TheVariants as keywords
use Rattle.workload.specs.declared.keyword.Verb.TheVariants as verbs
use Rattle.workload.specs.declared.object.Declared.{Declared}
use Rattle.workload.specs.declared.object.ObjectKind.{ObjectKind}
use Rattle.workload.specs.declared.object.ObjectKind.TheVariants as kinds
use Rattle.workload.specs.declared.object.ObjectLine.{ObjectLine}
use Rattle.workload.specs.declared.object.ObjectWord.TheVariants as words
use Rattle.workload.specs.declared.line.Line.{Line}
use Rattle.workload.specs.declared.line.Line.TheVariants as lines
use Rattle.workload.specs.CallWords.{verb_of}
use Rattle.workload.specs.Dialect.{knows, if_known, keyword_in, is_variable, is_variable_word, has_variables, is_x_sync, is_x_sync_word, has_x_sync, is_unrecorded, has_unrecorded}
use Rattle.workload.specs.KeywordWords.{keyword_word, keyword_at}
use Rattle.workload.specs.Draft.{Draft, started, with_line, declared, may_follow, names_object, is_access_operation}
use Rattle.workload.specs.Lines.{lines_of, words_of, is_significant}
use Rattle.workload.specs.Plan.{Plan, word_of, has_among}
use Rattle.workload.specs.Reads.{Continues, IsRead, ReadsOn, ReadsIn}
use Rattle.workload.specs.Words.{keyword_of}
use Rattle.workload.proofs.CallForms.{is_x_sync_operation, variables_of, x_syncs_of}
use Rattle.workload.proofs.DraftLemmas.{found_at}
use Rattle.workload.proofs.Follows.{call_follows}
use Rattle.workload.proofs.Keywords.{keyword_from}
use Rattle.workload.proofs.Passing.{both, not_true}
use Rattle.workload.proofs.Refuted.{no}
use Rattle.workload.proofs.Says.{Says, SaysOn, on_says}

-- ---- objects that a dialect doesn't know

-- whether a text of the dialect has no object of this kind
abbrev pub unknown : Dialect → ObjectKind → Bool
unknown Plain kind = is_unrecorded kind
unknown Runs kind = is_variable kind
unknown Races kind = is_x_sync kind

-- whether a workload has one that it doesn't know
abbrev pub has_unknown : Dialect → Plan → Bool
has_unknown dialect plan = list_any (λ object. unknown dialect object.kind) plan.objects

-- the word of an object says it
knows_kind : (dialect : Dialect) (kind : ObjectKind) → knows dialect (keywords.Object (word_of kind)) ≡ not (unknown dialect kind)
knows_kind Plain kinds.Var = refl
knows_kind Runs kinds.Var = refl
knows_kind Races kinds.Var = refl
knows_kind dialect kind = refl

unrecorded_is : (kind : ObjectKind) → not (is_unrecorded kind) ≡ (not (is_variable kind) && not (is_x_sync kind))
unrecorded_is kinds.Var = refl
unrecorded_is kind = refl

-- only a variable is read and written
pub only_variables : (objects : List ObjectLine) (kind : ObjectKind) (o : Operation) → has_among objects kind o ≡ true → is_access_operation o ≡ is_variable kind
only_variables objects kinds.Var (operations.Var c) has = refl
only_variables objects kinds.Var o has = no has
only_variables objects kind (operations.Var c) has = no has
only_variables objects kind o has = refl

-- and only semaphores and flights have their calls
only_x_syncs : (objects : List ObjectLine) (kind : ObjectKind) (o : Operation) → has_among objects kind o ≡ true → is_x_sync_operation o ≡ is_x_sync kind
only_x_syncs objects (kinds.Sema n) (operations.Sema c) has = refl
only_x_syncs objects (kinds.Sema n) o has = no has
only_x_syncs objects (kinds.Flight a z) (operations.Fly k) has = refl
only_x_syncs objects (kinds.Flight a z) o has = no has
only_x_syncs objects kind (operations.Sema c) has = no has
only_x_syncs objects kind (operations.Fly k) has = no has
only_x_syncs objects kind o has = refl

-- so the word of a call says it of the call's object
knows_call : (dialect : Dialect) (objects : List ObjectLine) (kind : ObjectKind) (o : Operation) → has_among objects kind o ≡ true → knows dialect (keywords.Call (verb_of o)) ≡ not (unknown dialect kind)
knows_call dialect objects kind o has = by dialect
  where
    variable : is_variable_word (keywords.Call (verb_of o)) ≡ is_variable kind
    variable = sym (variables_of o) ∙ only_variables objects kind o has

    x_sync : is_x_sync_word (keywords.Call (verb_of o)) ≡ is_x_sync kind
    x_sync = sym (x_syncs_of o) ∙ only_x_syncs objects kind o has

    by : (dialect : Dialect) → knows dialect (keywords.Call (verb_of o)) ≡ not (unknown dialect kind)
    by Plain = ap (λ (b : Bool). not b && not (is_x_sync_word (keywords.Call (verb_of o)))) variable ∙ ap (λ (b : Bool). not (is_variable kind) && not b) x_sync ∙ sym (unrecorded_is kind)
    by Runs = ap not variable
    by Races = ap not x_sync

-- a keyword that is of neither is known
knows_other : (dialect : Dialect) (k : Keyword) → is_variable_word k ≡ false → is_x_sync_word k ≡ false → knows dialect k ≡ true
knows_other Plain k h i = rw (h, i) refl
knows_other Runs k h i = rw h refl
knows_other Races k h i = rw i refl

or_false : (a b : Bool) → (a || b) ≡ false → a ≡ false
or_false true b h = h
or_false false b h = refl

or_last : (a b : Bool) → (a || b) ≡ false → b ≡ false
or_last true b h = absurd cc
or_last false b h = h

or_right : (a b : Bool) → b ≡ true → (a || b) ≡ true
or_right true b h = refl
or_right false b h = h

or_left : (a b : Bool) → a ≡ true → (a || b) ≡ true
or_left true b h = refl
or_left false b h = absurd cc

or_none : (a b : Bool) → a ≡ false → b ≡ false → (a || b) ≡ false
or_none true b h k = absurd cc
or_none false b h k = k

some_is : {X : Type 0} (x y : X) → Some x ≡ Some y → x ≡ y
some_is x y e = cc

not_so : {X : Type 0} {b : Bool} → b ≡ true → b ≡ false → X
not_so t f = absurd cc

-- an object at a place that passes a test
has_one : (test : ObjectKind → Bool) (objects : List ObjectLine) (place : ℕ) (o : ObjectLine) → slice_get objects place ≡ Some o → test o.kind ≡ true → list_any (λ object. test object.kind) objects ≡ true
has_one test [] place o at is = absurd cc
has_one test (p ∷ objects) zero o at is = or_left (test p.kind) _ (ap (λ (x : ObjectLine). test x.kind) (some_is p o at) ∙ is)
has_one test (p ∷ objects) (suc place) o at is = or_right (test p.kind) _ (has_one test objects place o at is)

-- ---- lines

module _ (dialect : Dialect) where
  abbrev is_unknown : ObjectLine → Bool
  is_unknown object = unknown dialect object.kind

  -- one more line leaves those that there are
  before_line : (d : Draft) (l : Line) → has_unknown dialect (with_line d l).plan ≡ false → has_unknown dialect d.plan ≡ false
  before_line d (lines.Object o r) h = or_false (list_any is_unknown d.plan.objects) _ (sym (list_any-append is_unknown d.plan.objects (o ∷ [])) ∙ h)
  before_line d (lines.Dormant w) h = h
  before_line d (lines.Worker w) h = h
  before_line d (lines.Schedule ts) h = h
  before_line d (lines.Call n r c) h = h

  -- so a draft has none where the workload has none
  before_lines : (texts : List (List ℕ)) (d : Draft) (plan : Plan) → SaysOn texts (Some d) plan → has_unknown dialect plan ≡ false → has_unknown dialect d.plan ≡ false
  before_lines [] d plan h none = ap (has_unknown dialect) (sym h) ∙ none
  before_lines (text ∷ texts) d plan h none =
      elim (is_significant (words_of text)) as (λ b. is_significant (words_of text) ≡ b → has_unknown dialect d.plan ≡ false) [
        | true ↦ λ speaks.
            let said = h.1.says speaks in
            before_line d said.0 (before_lines texts (with_line d said.0) plan (subst (λ (x : Option Draft). SaysOn texts x plan) said.3 h.2) none)
        | false ↦ λ silent. before_lines texts d plan (subst (λ (x : Option Draft). SaysOn texts x plan) (h.1.silent silent) h.2) none
      ] refl

  -- a call behind declarations that the dialect knows has a word that it knows
  call_known : (d : Draft) (n : List ℕ) (r : Option (List ℕ)) (c : Call) → may_follow d (lines.Call n r c) ≡ true → has_unknown dialect d.plan ≡ false → knows dialect (keywords.Call (verb_of c.operation)) ≡ true
  call_known d n r c f none = at (declared d n) refl (call_follows d n r c f).on
    where
      at : (o : Option Declared) → declared d n ≡ o → names_object d.plan.objects o c ≡ true → knows dialect (keywords.Call (verb_of c.operation)) ≡ true
      at None is on = absurd cc
      at (Some found) is on =
          let has = (both (eqb found.place c.object) (has_among d.plan.objects found.kind c.operation) on).1 in
          let there = found_at 0 n d.plan.objects found is in
          elim (unknown dialect found.kind) as (λ b. unknown dialect found.kind ≡ b → knows dialect (keywords.Call (verb_of c.operation)) ≡ true) [
            | true ↦ λ t. not_so (has_one (unknown dialect) d.plan.objects (found.place - 0) there.0 there.2 (ap (unknown dialect) there.3 ∙ t)) none
            | false ↦ λ other. knows_call dialect d.plan.objects found.kind c.operation has ∙ ap not other
          ] refl

  line_known : (d : Draft) (l : Line) → may_follow d l ≡ true → has_unknown dialect (with_line d l).plan ≡ false → knows dialect (keyword_of l) ≡ true
  line_known d (lines.Object o r) f none =
      knows_kind dialect o.kind ∙ ap not (or_false (is_unknown o) false (or_last (list_any is_unknown d.plan.objects) _ (sym (list_any-append is_unknown d.plan.objects (o ∷ [])) ∙ none)))
  line_known d (lines.Dormant w) f none = knows_other dialect keywords.Dormant refl refl
  line_known d (lines.Worker w) f none = knows_other dialect keywords.Worker refl refl
  line_known d (lines.Schedule ts) f none = knows_other dialect keywords.Schedule refl refl
  line_known d (lines.Call n r c) f none = call_known d n r c f none

  -- a draft, if there is one, has no unknown object
  abbrev HasNone : Option Draft → Type 0
  HasNone draft = (d : Draft) → draft ≡ Some d → has_unknown dialect d.plan ≡ false

  continues_known : (before : Option Draft) (words : List (List ℕ)) (after : Option Draft) → Says before words after → HasNone after → Continues dialect before words after
  continues_known None words after h none = h
  continues_known (Some d) words after h none = (h.0, h.1, h.2, h.3, line_known d h.0 h.1 (none (with_line d h.0) h.3))

  -- lines that say a workload whose objects the dialect knows are read as it
  pub on_reads : (texts : List (List ℕ)) (before : Option Draft) (plan : Plan) → SaysOn texts before plan → has_unknown dialect plan ≡ false → ReadsOn dialect texts before plan
  on_reads [] None plan h none = h
  on_reads [] (Some d) plan h none = h
  on_reads (text ∷ texts) before plan h none =
      let behind : HasNone h.0 = λ d is. before_lines texts d plan (subst (λ (x : Option Draft). SaysOn texts x plan) is h.2) none in
      let read : IsRead dialect before text h.0 = record { short = h.1.short; clean = h.1.clean; silent = h.1.silent; continues = λ speaks. continues_known before (words_of text) h.0 (h.1.says speaks) behind } in
      (h.0, read, on_reads texts h.0 plan h.2 none)

  -- what a text of another dialect is read as, it is read as in this one
  pub as_dialect : (other : Dialect) (bytes : List ℕ) (plan : Plan) → ReadsIn other bytes plan → has_unknown dialect plan ≡ false → ReadsIn dialect bytes plan
  as_dialect other bytes plan h none = record { fits = h.fits; lines = on_reads (lines_of bytes) None plan (on_says other (lines_of bytes) None plan h.lines) none }

  -- ---- a text declares no object that its dialect doesn't know

  line_none : (d : Draft) (l : Line) → knows dialect (keyword_of l) ≡ true → has_unknown dialect d.plan ≡ false → has_unknown dialect (with_line d l).plan ≡ false
  line_none d (lines.Object o r) known none =
      list_any-append is_unknown d.plan.objects (o ∷ []) ∙ or_none (list_any is_unknown d.plan.objects) _ none (or_none (is_unknown o) false (not_true (is_unknown o) (sym (knows_kind dialect o.kind) ∙ known)) refl)
  line_none d (lines.Dormant w) known none = none
  line_none d (lines.Worker w) known none = none
  line_none d (lines.Schedule ts) known none = none
  line_none d (lines.Call n r c) known none = none

  continues_none : (before : Option Draft) (words : List (List ℕ)) (after : Option Draft) → Continues dialect before words after → HasNone before → HasNone after
  continues_none None words after h none e is = subst (λ (x : Draft). has_unknown dialect x.plan ≡ false) (some_is (started h.0) e (sym h.4 ∙ is)) refl
  continues_none (Some d) words after h none e is = subst (λ (x : Draft). has_unknown dialect x.plan ≡ false) (some_is (with_line d h.0) e (sym h.3 ∙ is)) (line_none d h.0 h.4 (none d refl))

  on_none : (texts : List (List ℕ)) (before : Option Draft) (plan : Plan) → ReadsOn dialect texts before plan → HasNone before → has_unknown dialect plan ≡ false
  on_none [] None plan h none = absurd h
  on_none [] (Some d) plan h none = ap (has_unknown dialect) h ∙ none d refl
  on_none (text ∷ texts) before plan h none =
      on_none texts h.0 plan h.2
      (λ e is. elim (is_significant (words_of text)) as (λ b. is_significant (words_of text) ≡ b → has_unknown dialect e.plan ≡ false) [
        | true ↦ λ speaks. continues_none before (words_of text) h.0 (h.1.continues speaks) none e is
        | false ↦ λ silent. none e (sym (h.1.silent silent) ∙ is)
      ] refl)

  pub has_none : (bytes : List ℕ) (plan : Plan) → ReadsIn dialect bytes plan → has_unknown dialect plan ≡ false
  has_none bytes plan h = on_none (lines_of bytes) None plan h.lines (λ d is. absurd (no_draft d is))
    where
      no_draft : (d : Draft) → None ≡ Some d → ⊥
      no_draft d e = cc

-- ---- what a record doesn't tell of

or4 : (a b c d : Bool) → ((a || b) || (c || d)) ≡ ((a || c) || (b || d))
or4 true b c d = refl
or4 false true true d = refl
or4 false true false d = refl
or4 false false c d = refl

unrecorded_or : (kind : ObjectKind) → is_unrecorded kind ≡ (is_variable kind || is_x_sync kind)
unrecorded_or kinds.Var = refl
unrecorded_or kind = refl

any_unrecorded : (objects : List ObjectLine) → list_any (λ object. is_unrecorded object.kind) objects ≡ (list_any (λ object. is_variable object.kind) objects || list_any (λ object. is_x_sync object.kind) objects)
any_unrecorded [] = refl
any_unrecorded (o ∷ objects) =
    ap (λ (b : Bool). b || list_any (λ object. is_unrecorded object.kind) objects) (unrecorded_or o.kind)
    ∙ ap (λ (b : Bool). (is_variable o.kind || is_x_sync o.kind) || b) (any_unrecorded objects)
    ∙ or4 (is_variable o.kind) (is_x_sync o.kind) (list_any (λ object. is_variable object.kind) objects) (list_any (λ object. is_x_sync object.kind) objects)

pub neither : (plan : Plan) → has_unrecorded plan ≡ false → (has_variables plan ≡ false) × (has_x_sync plan ≡ false)
neither plan h =
    let parts = sym (any_unrecorded plan.objects) ∙ h in
    (or_false (has_variables plan) (has_x_sync plan) parts, or_last (has_variables plan) (has_x_sync plan) parts)

pub recorded : (plan : Plan) → has_variables plan ≡ false → has_x_sync plan ≡ false → has_unrecorded plan ≡ false
recorded plan h k = any_unrecorded plan.objects ∙ or_none (has_variables plan) (has_x_sync plan) h k

-- ---- calls of a workload without variables

pub no_access : (plan : Plan) (place : ℕ) (object : ObjectLine) (operation : Operation) → has_variables plan ≡ false → slice_get plan.objects place ≡ Some object → has_among plan.objects object.kind operation ≡ true → is_access_operation operation ≡ false
no_access plan place object operation none is on =
    elim (is_variable object.kind) as (λ b. is_variable object.kind ≡ b → is_access_operation operation ≡ false) [
      | true ↦ λ t. not_so (has_one is_variable plan.objects place object is t) none
      | false ↦ λ f. only_variables plan.objects object.kind operation on ∙ f
    ] refl

-- ---- words

-- a plain text knows what both others know
pub plain_knows : (word : List ℕ) → (keyword_in Plain word ≡ None → (keyword_in Runs word ≡ None) ⊎ (keyword_in Races word ≡ None)) × ((keyword_in Runs word ≡ None) ⊎ (keyword_in Races word ≡ None) → keyword_in Plain word ≡ None)
plain_knows word = by (keyword_at word)
  where
    at : (a b : Bool) (k : Keyword) → (cond (not a && not b) (Some k) None ≡ None → (cond (not a) (Some k) None ≡ None) ⊎ (cond (not b) (Some k) None ≡ None))
        × ((cond (not a) (Some k) None ≡ None) ⊎ (cond (not b) (Some k) None ≡ None) → cond (not a && not b) (Some k) None ≡ None)
    at true b k = (λ h. inl refl, λ h. refl)
    at false true k = (λ h. inr refl, λ h. refl)
    at false false k = (λ h. inl h, λ h. ⊎_elim (λ e. e) (λ e. e) h)

    by : (o : Option Keyword) → (if_known Plain o ≡ None → (if_known Runs o ≡ None) ⊎ (if_known Races o ≡ None)) × ((if_known Runs o ≡ None) ⊎ (if_known Races o ≡ None) → if_known Plain o ≡ None)
    by None = (λ h. inl refl, λ h. refl)
    by (Some k) = at (is_variable_word k) (is_x_sync_word k) k

-- the words of plain variables, and those of semaphores and flights
abbrev OfVariables : List ℕ → Type 0
OfVariables word = (word ≡ codes "var") ⊎ (word ≡ codes "read") ⊎ (word ≡ codes "write")

abbrev OfXSync : List ℕ → Type 0
OfXSync word = (word ≡ codes "sema") ⊎ (word ≡ codes "acquire") ⊎ (word ≡ codes "tryacquire") ⊎ (word ≡ codes "release") ⊎ (word ≡ codes "flight") ⊎ (word ≡ codes "fly")

variable_words : (word : List ℕ) (k : Keyword) → word ≡ keyword_word k → is_variable_word k ≡ true → OfVariables word
variable_words word (keywords.Object words.Var) is h = inl is
variable_words word (keywords.Call verbs.Read) is h = inr (inl is)
variable_words word (keywords.Call verbs.Write) is h = inr (inr is)
variable_words word k is h = no h

x_sync_words : (word : List ℕ) (k : Keyword) → word ≡ keyword_word k → is_x_sync_word k ≡ true → OfXSync word
x_sync_words word (keywords.Object words.Sema) is h = inl is
x_sync_words word (keywords.Call verbs.Acquire) is h = inr (inl is)
x_sync_words word (keywords.Call verbs.TryAcquire) is h = inr (inr (inl is))
x_sync_words word (keywords.Call verbs.Release) is h = inr (inr (inr (inl is)))
x_sync_words word (keywords.Object words.Flight) is h = inr (inr (inr (inr (inl is))))
x_sync_words word (keywords.Call verbs.Fly) is h = inr (inr (inr (inr (inr is))))
x_sync_words word k is h = no h

pub others_of_runs : (word : List ℕ) → (keyword_in Runs word ≡ keyword_at word) ⊎ OfVariables word
others_of_runs word = by (keyword_at word) refl
  where
    by : (o : Option Keyword) → keyword_at word ≡ o → (if_known Runs o ≡ o) ⊎ OfVariables word
    by None is = inl refl
    by (Some k) is =
        elim (is_variable_word k) as (λ b. is_variable_word k ≡ b → (cond (not b) (Some k) None ≡ Some k) ⊎ OfVariables word) [
          | true ↦ λ t. inr (variable_words word k (keyword_from word k is) t)
          | false ↦ λ f. inl refl
        ] refl

pub others_of_races : (word : List ℕ) → (keyword_in Races word ≡ keyword_at word) ⊎ OfXSync word
others_of_races word = by (keyword_at word) refl
  where
    by : (o : Option Keyword) → keyword_at word ≡ o → (if_known Races o ≡ o) ⊎ OfXSync word
    by None is = inl refl
    by (Some k) is =
        elim (is_x_sync_word k) as (λ b. is_x_sync_word k ≡ b → (cond (not b) (Some k) None ≡ Some k) ⊎ OfXSync word) [
          | true ↦ λ t. inr (x_sync_words word k (keyword_from word k is) t)
          | false ↦ λ f. inl refl
        ] refl

-- the words that a plain text doesn't know
abbrev OfEither : List ℕ → Type 0
OfEither word =
    (word ≡ codes "var") ⊎ (word ≡ codes "read") ⊎ (word ≡ codes "write") ⊎ (word ≡ codes "sema") ⊎ (word ≡ codes "acquire") ⊎ (word ≡ codes "tryacquire") ⊎ (word ≡ codes "release") ⊎ (word ≡ codes "flight") ⊎ (word ≡ codes "fly")

either_word : (word : List ℕ) → OfVariables word → OfEither word
either_word word h = ⊎_elim (λ e. inl e) (λ rest. ⊎_elim (λ e. inr (inl e)) (λ e. inr (inr (inl e))) rest) h

pub others_of_plain : (word : List ℕ) → (keyword_in Plain word ≡ keyword_at word) ⊎ OfEither word
others_of_plain word = by (keyword_at word) refl
  where
    by : (o : Option Keyword) → keyword_at word ≡ o → (if_known Plain o ≡ o) ⊎ OfEither word
    by None is = inl refl
    by (Some k) is =
        elim (is_variable_word k) as (λ b. is_variable_word k ≡ b → (cond (not b && not (is_x_sync_word k)) (Some k) None ≡ Some k) ⊎ OfEither word) [
          | true ↦ λ t. inr (either_word word (variable_words word k (keyword_from word k is) t))
          | false ↦ λ f.
              elim (is_x_sync_word k) as (λ b. is_x_sync_word k ≡ b → (cond (not b) (Some k) None ≡ Some k) ⊎ OfEither word) [
                | true ↦ λ t. inr (inr (inr (inr (x_sync_words word k (keyword_from word k is) t))))
                | false ↦ λ f. inl refl
              ] refl
        ] refl
