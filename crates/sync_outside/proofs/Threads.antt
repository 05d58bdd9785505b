-- The jobs of threads that are started, and joined, one by one.
use Rattle.std.proofs.Common.{◌≡◌, List, [], ◌∷◌, ◌++◌, ap, sym, ◌∙◌, refl, subst, append_assoc}
use Rattle.std.specs.List.{AllZip}
use Rattle.sync_outside.specs.Told.{owed}

-- the thread that was started last has the first of these jobs
pub owed_push : {H W : Type 0} (job_of : H → W) (handles : List H) (handle : H) → owed job_of (handles ++ handle ∷ []) ≡ job_of handle ∷ owed job_of handles
owed_push job_of [] handle = refl
owed_push job_of (first ∷ handles) handle = ap (λ l. l ++ job_of first ∷ []) (owed_push job_of handles handle)

-- a job goes from those that are left to a thread
pub start_one : {H W : Type 0} (job_of : H → W) (all left was : List W) (job : W) (handles now : List H) (handle : H)
    → was ++ owed job_of handles ≡ all → was ≡ left ++ job ∷ [] → now ≡ handles ++ handle ∷ [] → job_of handle ≡ job → left ++ owed job_of now ≡ all
start_one job_of all left was job handles now handle whole popped pushed has =
    ap (λ hs. left ++ owed job_of hs) pushed
    ∙ ap (λ l. left ++ l) (owed_push job_of handles handle)
    ∙ ap (λ j. left ++ j ∷ owed job_of handles) has
    ∙ sym (append_assoc left (job ∷ []) (owed job_of handles))
    ∙ ap (λ l. l ++ owed job_of handles) (sym popped)
    ∙ whole

-- a job goes back from the thread that was started last
pub take_one : {H W : Type 0} (job_of : H → W) (all back now : List W) (job : W) (was handles : List H) (handle : H)
    → back ++ owed job_of was ≡ all → was ≡ handles ++ handle ∷ [] → now ≡ back ++ job ∷ [] → job ≡ job_of handle → now ++ owed job_of handles ≡ all
take_one job_of all back now job was handles handle whole popped pushed has =
    ap (λ l. l ++ owed job_of handles) pushed
    ∙ append_assoc back (job ∷ []) (owed job_of handles)
    ∙ ap (λ j. back ++ j ∷ owed job_of handles) has
    ∙ ap (λ l. back ++ l) (sym (owed_push job_of handles handle))
    ∙ ap (λ hs. back ++ owed job_of hs) (sym popped)
    ∙ whole

-- what the jobs that are still owed come to stands behind the results
abbrev pub Completes : {H W O : Type 0} → (W → O → Type 0) → (H → W) → List W → List H → List O → Type 0
Completes {O} gives job_of all handles results = (rest : List O) → AllZip gives (owed job_of handles) rest → AllZip gives all (results ++ rest)

-- a result comes from the thread that was started last
pub join_one : {H W O : Type 0} (gives : W → O → Type 0) (job_of : H → W) (all : List W) (results now : List O) (result : O) (was handles : List H) (handle : H)
    → Completes gives job_of all was results → was ≡ handles ++ handle ∷ [] → now ≡ results ++ result ∷ [] → gives (job_of handle) result → Completes gives job_of all handles now
join_one {H} {W} {O} gives job_of all results now result was handles handle completes popped pushed given rest others =
    let P : List W → Type 0 = λ l. AllZip gives l (result ∷ rest) in
    let Q : List O → Type 0 = λ l. AllZip gives all l in
    let first : AllZip gives (owed job_of was) (result ∷ rest) = subst P (sym (ap (owed job_of) popped ∙ owed_push job_of handles handle)) (given, others) in
    subst Q (sym (ap (λ l. l ++ rest) pushed ∙ append_assoc results (result ∷ []) rest)) (completes (result ∷ rest) first)
