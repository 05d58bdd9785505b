-- A text tells one thing only, and none is both told and refused.
use Rattle.std.proofs.Common.{◌≡◌, ℕ, ◌+◌, ◌≤◌, true, false, ◌&&◌, List, [], ◌∷◌, ◌++◌, length, get_or, Option, Some, None, refl, sym, ap, ◌∙◌, subst, arith, inl, inr}
use Rattle.std.specs.Prelude.{not}
use Rattle.std.specs.List.{list_all}
use Rattle.std.proofs.lemmas.Bool.{false≢true}
use Rattle.std.proofs.lemmas.List.Folds.{list_all-append}
use Rattle.sync_types.specs.declared.misuse.Misuse.{Misuse}
use Rattle.sync_types.specs.declared.misuse.Misuse.TheVariants.{UnlockOfUnlockedMutex, RUnlockOfUnlockedRwMutex, UnlockOfUnlockedRwMutex, NegativeWaitGroupCounter, WaitGroupReused, SemaphoreOverReleased}
use Rattle.workload.specs.declared.reason.Reason.{Reason}
use Rattle.workload.specs.KeywordWords.{first_named}
use Rattle.workload.specs.Plan.{Plan}
use Rattle.workload.specs.Reads.{Reads, IsRefused}
use Rattle.record_text.specs.declared.fault.CheckReason.{CheckReason}
use Rattle.record_text.specs.declared.fault.CheckReason.TheVariants.{Workload}
use Rattle.record_text.specs.declared.item_line.ItemLine.{ItemLine}
use Rattle.record_text.specs.declared.item_line.Said.{Said}
use Rattle.record_text.specs.declared.item_line.Said.TheVariants.{Call, Begin, Next, Entered}
use Rattle.record_text.specs.declared.limits.TheConstants.{MAX_ITEMS}
use Rattle.record_text.specs.ItemLines.{IsItemLine, said_word, spaced}
use Rattle.record_text.specs.Refused.{FirstBad, FirstLong, IsBadBehind, IsRecordRefused, IsUnended, IsWorkloadFault}
use Rattle.record_text.specs.Told.{AreItemLines, IsBehind, IsTold, Told, are_before, is_record_line, is_short_line, joined, outcome_line, record_line}
use Rattle.record_text.proofs.Decimals.{both}
use Rattle.record_text.proofs.OneItem.{IsPlain, same_item}

head : (x y : List ℕ) (xs ys : List (List ℕ)) → x ∷ xs ≡ y ∷ ys → x ≡ y
head x y xs ys e = cc

tail : (x y : List ℕ) (xs ys : List (List ℕ)) → x ∷ xs ≡ y ∷ ys → xs ≡ ys
tail x y xs ys e = cc

-- ---- the outcome's line

outcome_from : List ℕ → Option (Option Misuse)
outcome_from line =
    first_named outcome_line (None ∷ Some UnlockOfUnlockedMutex ∷ Some RUnlockOfUnlockedRwMutex ∷ Some UnlockOfUnlockedRwMutex ∷ Some NegativeWaitGroupCounter ∷ Some WaitGroupReused ∷ Some SemaphoreOverReleased ∷ []) line

outcome_back : (m : Option Misuse) → outcome_from (outcome_line m) ≡ Some m
unfolding outcome_from
outcome_back None = refl
outcome_back (Some UnlockOfUnlockedMutex) = refl
outcome_back (Some RUnlockOfUnlockedRwMutex) = refl
outcome_back (Some UnlockOfUnlockedRwMutex) = refl
outcome_back (Some NegativeWaitGroupCounter) = refl
outcome_back (Some WaitGroupReused) = refl
outcome_back (Some SemaphoreOverReleased) = refl

same_outcome : (m n : Option Misuse) → outcome_line m ≡ outcome_line n → m ≡ n
same_outcome m n e = same_some m n (sym (outcome_back m) ∙ ap outcome_from e ∙ outcome_back n) where
  same_some : (m n : Option Misuse) → Some m ≡ Some n → m ≡ n
  same_some m n e = cc

-- the first letter of a list's first word
letter : List (List ℕ) → ℕ
letter words = get_or (get_or words 0 []) 0 0

outcome_letter : (m : Option Misuse) → letter (spaced (outcome_line m)) ≡ 111
unfolding letter
outcome_letter None = refl
outcome_letter (Some UnlockOfUnlockedMutex) = refl
outcome_letter (Some RUnlockOfUnlockedRwMutex) = refl
outcome_letter (Some UnlockOfUnlockedRwMutex) = refl
outcome_letter (Some NegativeWaitGroupCounter) = refl
outcome_letter (Some WaitGroupReused) = refl
outcome_letter (Some SemaphoreOverReleased) = refl

said_letter : (said : Said) → get_or (said_word said) 0 0 ≡ 111 → ⊥
said_letter (Call place reply) e = absurd (let other : 99 ≡ 111 = e in omega (arith, other))
said_letter (Begin reach) e = absurd (let other : 98 ≡ 111 = e in omega (arith, other))
said_letter (Next reach shown) e = absurd (let other : 110 ≡ 111 = e in omega (arith, other))
said_letter (Entered object number event answer) e = absurd (let other : 101 ≡ 111 = e in omega (arith, other))

-- an item's line is none of the outcome
pub no_outcome : (plan : Plan) (line : List ℕ) (item : ItemLine) (m : Option Misuse) → IsItemLine plan line item → outcome_line m ≡ line → ⊥
unfolding letter
no_outcome plan line item m is e = said_letter item.said (ap letter (is.words ∙ ap spaced (sym e)) ∙ outcome_letter m)

-- ---- the lines behind the line `record`

same_behind : (plan : Plan) (xs ys : List (List ℕ)) (items others : List ItemLine) (m n : Option Misuse) (us vs : List (List ℕ)) → IsPlain plan → AreItemLines plan xs items → AreItemLines plan ys others
    → xs ++ outcome_line m ∷ us ≡ ys ++ outcome_line n ∷ vs → (items ≡ others) × (m ≡ n) × (us ≡ vs)
same_behind plan [] [] [] [] m n us vs plain are also e = (refl, same_outcome m n (head (outcome_line m) (outcome_line n) us vs e), tail (outcome_line m) (outcome_line n) us vs e)
same_behind plan [] (y ∷ ys) [] (o ∷ os) m n us vs plain are also e = absurd (no_outcome plan y o m also.0 (head (outcome_line m) y _ _ e))
same_behind plan (x ∷ xs) [] (i ∷ is) [] m n us vs plain are also e = absurd (no_outcome plan x i n are.0 (sym (head x (outcome_line n) _ _ e)))
same_behind plan (x ∷ xs) (y ∷ ys) (i ∷ is) (o ∷ os) m n us vs plain are also e =
    let first = same_item plan y i o plain (subst (λ (line : List ℕ). IsItemLine plan line i) (head x y _ _ e) are.0) also.0 in
    let rest = same_behind plan xs ys is os m n us vs plain are.1 also.1 (tail x y _ _ e) in
    (ap (λ j. j ∷ is) first ∙ ap (λ js. o ∷ js) rest.0, rest.1, rest.2)
same_behind plan [] [] [] (o ∷ os) m n us vs plain are also e = absurd also
same_behind plan [] [] (i ∷ is) others m n us vs plain are also e = absurd are
same_behind plan [] (y ∷ ys) [] [] m n us vs plain are also e = absurd also
same_behind plan [] (y ∷ ys) (i ∷ is) others m n us vs plain are also e = absurd are
same_behind plan (x ∷ xs) [] [] others m n us vs plain are also e = absurd are
same_behind plan (x ∷ xs) [] (i ∷ is) (o ∷ os) m n us vs plain are also e = absurd also
same_behind plan (x ∷ xs) (y ∷ ys) [] others m n us vs plain are also e = absurd are
same_behind plan (x ∷ xs) (y ∷ ys) (i ∷ is) [] m n us vs plain are also e = absurd also

-- ---- the line `record`

no_record : (lines : List (List ℕ)) → not (is_record_line record_line) && are_before lines ≡ true → ⊥
no_record lines h = false≢true (both false (are_before lines) h).0

-- a text is split at its first line `record`
same_split : (xs ys us vs : List (List ℕ)) → are_before xs ≡ true → are_before ys ≡ true → xs ++ record_line ∷ us ≡ ys ++ record_line ∷ vs → (xs ≡ ys) × (us ≡ vs)
same_split [] [] us vs none also e = (refl, tail record_line record_line us vs e)
same_split [] (y ∷ ys) us vs none also e = absurd (no_record ys (ap (λ (line : List ℕ). not (is_record_line line) && are_before ys) (head record_line y _ _ e) ∙ also))
same_split (x ∷ xs) [] us vs none also e = absurd (no_record xs (ap (λ (line : List ℕ). not (is_record_line line) && are_before xs) (sym (head x record_line _ _ e)) ∙ none))
same_split (x ∷ xs) (y ∷ ys) us vs none also e =
    let rest = same_split xs ys us vs (both (not (is_record_line x)) (are_before xs) none).1 (both (not (is_record_line y)) (are_before ys) also).1 (tail x y _ _ e) in
    (ap (λ (line : List ℕ). line ∷ xs) (head x y _ _ e) ∙ ap (λ lines. y ∷ lines) rest.0, rest.1)

-- ---- what is told

same_fields : (told other : Told) → told.plan ≡ other.plan → told.items ≡ other.items → told.misused ≡ other.misused → told.report ≡ other.report → told ≡ other
same_fields told other plan items misused report =
    ap (λ (p : Plan). record { plan = p; items = told.items; misused = told.misused; report = told.report }) plan
    ∙ ap (λ (is : List ItemLine). record { plan = other.plan; items = is; misused = told.misused; report = told.report }) items
    ∙ ap (λ (m : Option Misuse). record { plan = other.plan; items = other.items; misused = m; report = told.report }) misused
    ∙ ap (λ (ls : List (List ℕ)). record { plan = other.plan; items = other.items; misused = other.misused; report = ls }) report

-- two workloads aren't read from the same bytes
abbrev pub OneReading : Type 0
OneReading = (bytes : List ℕ) (p q : Plan) → Reads bytes p → Reads bytes q → p ≡ q

-- and what one of them is has plain words
abbrev pub ArePlain : Type 0
ArePlain = (bytes : List ℕ) (plan : Plan) → Reads bytes plan → IsPlain plan

pub same_told : OneReading → ArePlain → (bytes : List ℕ) (told other : Told) → IsTold bytes told → IsTold bytes other → told ≡ other
same_told one plain bytes told other is also =
    let split = same_split is.before also.before is.behind also.behind is.first also.first (sym is.lines ∙ also.lines) in
    let plan : told.plan ≡ other.plan = one (joined also.before) told.plan other.plan (subst (λ (lines : List (List ℕ)). Reads (joined lines) told.plan) split.0 is.workload) also.workload in
    let says = is.says in
    let says_also = also.says in
    let behind = same_behind other.plan says.items says_also.items told.items other.items told.misused other.misused told.report other.report (plain (joined also.before) other.plan also.workload)
    (subst (λ (p : Plan). AreItemLines p says.items told.items) plan says.each) says_also.each (sym says.are ∙ split.1 ∙ says_also.are) in
    same_fields told other plan behind.0 behind.1 behind.2

-- ---- refusals

no_long : (lines : List (List ℕ)) (next line : ℕ) → list_all is_short_line lines ≡ true → FirstLong lines next line → ⊥
no_long [] next line short long = long
no_long (text ∷ texts) next line short (inl (here, at)) = false≢true (sym here ∙ (both (is_short_line text) (list_all is_short_line texts) short).0)
no_long (text ∷ texts) next line short (inr (here, later)) = no_long texts (next + 1) line (both (is_short_line text) (list_all is_short_line texts) short).1 later

-- lines that say something aren't refused
no_bad : (plan : Plan) (xs : List (List ℕ)) (items : List ItemLine) (m : Option Misuse) (us : List (List ℕ)) (taken next line : ℕ) → AreItemLines plan xs items → taken + length xs ≤ MAX_ITEMS → list_all is_short_line us ≡ true
    → FirstBad plan (xs ++ outcome_line m ∷ us) taken next line → ⊥
no_bad plan [] items m us taken next line are few short (inl (none, many, at)) = none m refl
no_bad plan [] items m us taken next line are few short (inr (inl (item, is, room, later))) = no_outcome plan (outcome_line m) item m is refl
no_bad plan [] items m us taken next line are few short (inr (inr (n, is, long))) = no_long us (next + 1) line short long
no_bad plan (x ∷ xs) [] m us taken next line are few short bad = absurd are
no_bad plan (x ∷ xs) (i ∷ is) m us taken next line are few short (inl (none, many, at)) = absurd (let most = many i are.0 in omega (arith, most, few))
no_bad plan (x ∷ xs) (i ∷ is) m us taken next line are few short (inr (inl (item, said, room, later))) = no_bad plan xs is m us (taken + 1) (next + 1) line are.1 (omega (arith, few)) short later
no_bad plan (x ∷ xs) (i ∷ is) m us taken next line are few short (inr (inr (n, said, long))) = no_outcome plan x i n are.0 said

-- no workload's text is both read and refused
abbrev pub ReadOrRefused : Type 0
ReadOrRefused = (bytes : List ℕ) (plan : Plan) (line : ℕ) (reason : Reason) → Reads bytes plan → IsRefused bytes line reason → ⊥

not_before : (xs us : List (List ℕ)) → are_before (xs ++ record_line ∷ us) ≡ true → ⊥
not_before xs us h = no_record us (both (are_before xs) (are_before (record_line ∷ us)) (sym (list_all-append (λ line. not (is_record_line line)) xs (record_line ∷ us)) ∙ h)).1

bad_behind : OneReading → ReadOrRefused → (before behind : List (List ℕ)) (told : Told) (line : ℕ) (reason : CheckReason) → Reads (joined before) told.plan → IsBehind told behind → IsBadBehind before behind line reason → ⊥
bad_behind one apart before behind told line reason reads says (inl (why, refused, is)) = apart (joined before) told.plan line why reads refused
bad_behind one apart before behind told line reason reads says (inr (plan, read, bad, is)) =
    let plan_is : plan ≡ told.plan = one (joined before) plan told.plan read reads in
    no_bad told.plan says.items told.items told.misused told.report 0 (length before + 2) line says.each (let few = says.few in omega (arith, few)) says.short
    (subst (λ (lines : List (List ℕ)). FirstBad told.plan lines 0 (length before + 2) line) says.are (subst (λ (p : Plan). FirstBad p behind 0 (length before + 2) line) plan_is bad))

pub told_or_refused : OneReading → ReadOrRefused → (bytes : List ℕ) (told : Told) (line : ℕ) (reason : CheckReason) → IsTold bytes told → IsRecordRefused bytes line reason → ⊥
told_or_refused one apart bytes told line reason is (inl (past, at, why)) = absurd (let fits = is.fits in omega (arith, past, fits))
told_or_refused one apart bytes told line reason is (inr (inl (fits, none, bad))) = not_before is.before is.behind (ap are_before (sym is.lines) ∙ none)
told_or_refused one apart bytes told line reason is (inr (inr (fits, before, behind, are, first, bad))) =
    let split = same_split is.before before is.behind behind is.first first (sym is.lines ∙ are) in
    bad_behind one apart before behind told line reason (subst (λ (lines : List (List ℕ)). Reads (joined lines) told.plan) split.0 is.workload) (subst (λ (lines : List (List ℕ)). IsBehind told lines) split.1 is.says) bad

-- ---- one refusal

same_long : (lines : List (List ℕ)) (next line other : ℕ) → FirstLong lines next line → FirstLong lines next other → line ≡ other
same_long [] next line other long also = absurd long
same_long (text ∷ texts) next line other (inl (here, at)) (inl (there, at_also)) = at ∙ sym at_also
same_long (text ∷ texts) next line other (inl (here, at)) (inr (there, later)) = absurd (false≢true (sym here ∙ there))
same_long (text ∷ texts) next line other (inr (here, later)) (inl (there, at)) = absurd (false≢true (sym there ∙ here))
same_long (text ∷ texts) next line other (inr (here, later)) (inr (there, later_also)) = same_long texts (next + 1) line other later later_also

same_bad : (plan : Plan) (lines : List (List ℕ)) (taken next line other : ℕ) → FirstBad plan lines taken next line → FirstBad plan lines taken next other → line ≡ other
same_bad plan [] taken next line other bad also = bad ∙ sym also
same_bad plan (text ∷ texts) taken next line other (inl (none, many, at)) (inl (none_also, many_also, at_also)) = at ∙ sym at_also
same_bad plan (text ∷ texts) taken next line other (inl (none, many, at)) (inr (inl (item, is, room, later))) = absurd (let most = many item is in omega (arith, most, room))
same_bad plan (text ∷ texts) taken next line other (inl (none, many, at)) (inr (inr (m, is, long))) = absurd (none m is)
same_bad plan (text ∷ texts) taken next line other (inr (inl (item, is, room, later))) (inl (none, many, at)) = absurd (let most = many item is in omega (arith, most, room))
same_bad plan (text ∷ texts) taken next line other (inr (inl (item, is, room, later))) (inr (inl (also, is_also, room_also, later_also))) = same_bad plan texts (taken + 1) (next + 1) line other later later_also
same_bad plan (text ∷ texts) taken next line other (inr (inl (item, is, room, later))) (inr (inr (m, said, long))) = absurd (no_outcome plan text item m is said)
same_bad plan (text ∷ texts) taken next line other (inr (inr (m, is, long))) (inl (none, many, at)) = absurd (none m is)
same_bad plan (text ∷ texts) taken next line other (inr (inr (m, is, long))) (inr (inl (item, said, room, later))) = absurd (no_outcome plan text item m said is)
same_bad plan (text ∷ texts) taken next line other (inr (inr (m, is, long))) (inr (inr (n, is_also, long_also))) = same_long texts (next + 1) line other long long_also

-- a workload's text is refused at one line, and for one reason
abbrev pub OneRefusal : Type 0
OneRefusal = (bytes : List ℕ) (line other : ℕ) (reason why : Reason) → IsRefused bytes line reason → IsRefused bytes other why → (line ≡ other) × (reason ≡ why)

same_fault : OneRefusal → (bytes : List ℕ) (line other : ℕ) (reason why : CheckReason) → IsWorkloadFault bytes line reason → IsWorkloadFault bytes other why → (line ≡ other) × (reason ≡ why)
same_fault refusal bytes line other reason why (first, is, e) (second, also, f) = let same = refusal bytes line other first second is also in (same.0, e ∙ ap (λ (r : Reason). Workload r) same.1 ∙ sym f)

same_unended : OneRefusal → ReadOrRefused → (bytes : List ℕ) (line other : ℕ) (reason why : CheckReason) → IsUnended bytes line reason → IsUnended bytes other why → (line ≡ other) × (reason ≡ why)
same_unended refusal apart bytes line other reason why (inl fault) (inl also) = same_fault refusal bytes line other reason why fault also
same_unended refusal apart bytes line other reason why (inl (first, is, e)) (inr (plan, reads, at, f)) = absurd (apart bytes plan line first reads is)
same_unended refusal apart bytes line other reason why (inr (plan, reads, at, f)) (inl (second, is, e)) = absurd (apart bytes plan other second reads is)
same_unended refusal apart bytes line other reason why (inr (plan, reads, at, e)) (inr (p, reads_also, at_also, f)) = (at ∙ sym at_also, e ∙ sym f)

same_behind_bad : OneReading → OneRefusal → ReadOrRefused → (before behind : List (List ℕ)) (line other : ℕ) (reason why : CheckReason) → IsBadBehind before behind line reason → IsBadBehind before behind other why → (line ≡ other) × (reason ≡ why)
same_behind_bad one refusal apart before behind line other reason why (inl fault) (inl also) = same_fault refusal (joined before) line other reason why fault also
same_behind_bad one refusal apart before behind line other reason why (inl (first, is, e)) (inr (plan, reads, bad, f)) = absurd (apart (joined before) plan line first reads is)
same_behind_bad one refusal apart before behind line other reason why (inr (plan, reads, bad, f)) (inl (second, is, e)) = absurd (apart (joined before) plan other second reads is)
same_behind_bad one refusal apart before behind line other reason why (inr (plan, reads, bad, e)) (inr (p, reads_also, bad_also, f)) =
    let plan_is : p ≡ plan = one (joined before) p plan reads_also reads in
    (same_bad plan behind 0 (length before + 2) line other bad (subst (λ (q : Plan). FirstBad q behind 0 (length before + 2) other) plan_is bad_also), e ∙ sym f)

pub one_refusal : OneReading → OneRefusal → ReadOrRefused → (bytes : List ℕ) (line other : ℕ) (reason why : CheckReason) → IsRecordRefused bytes line reason → IsRecordRefused bytes other why → (line ≡ other) × (reason ≡ why)
one_refusal one refusal apart bytes line other reason why (inl (past, at, e)) (inl (past_also, at_also, f)) = (at ∙ sym at_also, e ∙ sym f)
one_refusal one refusal apart bytes line other reason why (inl (past, at, e)) (inr (inl (fits, none, bad))) = absurd (omega (arith, past, fits))
one_refusal one refusal apart bytes line other reason why (inl (past, at, e)) (inr (inr (fits, before, behind, are, first, bad))) = absurd (omega (arith, past, fits))
one_refusal one refusal apart bytes line other reason why (inr (inl (fits, none, bad))) (inl (past, at, e)) = absurd (omega (arith, past, fits))
one_refusal one refusal apart bytes line other reason why (inr (inl (fits, none, bad))) (inr (inl (fits_also, none_also, bad_also))) = same_unended refusal apart bytes line other reason why bad bad_also
one_refusal one refusal apart bytes line other reason why (inr (inl (fits, none, bad))) (inr (inr (fits_also, before, behind, are, first, bad_also))) = absurd (not_before before behind (ap are_before (sym are) ∙ none))
one_refusal one refusal apart bytes line other reason why (inr (inr (fits, before, behind, are, first, bad))) (inl (past, at, e)) = absurd (omega (arith, past, fits))
one_refusal one refusal apart bytes line other reason why (inr (inr (fits, before, behind, are, first, bad))) (inr (inl (fits_also, none, bad_also))) = absurd (not_before before behind (ap are_before (sym are) ∙ none))
one_refusal one refusal apart bytes line other reason why (inr (inr (fits, before, behind, are, first, bad))) (inr (inr (fits_also, b, h, are_also, first_also, bad_also))) =
    let split = same_split before b behind h first first_also (sym are ∙ are_also) in
    same_behind_bad one refusal apart b h line other reason why
    (subst (λ (lines : List (List ℕ)). IsBadBehind b lines line reason) split.1 (subst (λ (lines : List (List ℕ)). IsBadBehind lines behind line reason) split.0 bad)) bad_also
