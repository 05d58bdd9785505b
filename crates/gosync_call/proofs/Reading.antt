-- From the bytes that were taken to all bytes of a file.
use Rattle.std.proofs.Common.{◌≡◌, ℕ, true, zero, suc, ◌+◌, ◌≤◌, List, [], ◌∷◌, ◌++◌, length, take, Option, Some, None, refl, sym, ap, subst, ◌∙◌, arith, inl, inr, append-nil, append_assoc}
use Rattle.std.proofs.lemmas.List.{length-take}
use Rattle.std.proofs.Math.Seq.{take-append_seam}
use Rattle.std.specs.Prelude.{Result, Ok, Err, OnErr}
use Rattle.std.specs.Io.KnownBytes.{prepend_known, IsAtEnd}
use Rattle.workload.specs.declared.limits.TheConstants.{MAX_INPUT}
use Rattle.workload.specs.declared.reason.Reason.{Reason}
use Rattle.workload.specs.Plan.{Plan, is_valid}
use Rattle.workload.specs.Reads.{ReadsIn, IsRefusedIn}
use Rattle.workload.specs.declared.keyword.Dialect.{Dialect}
use Rattle.workload.specs.declared.keyword.Dialect.TheVariants.{Plain, Runs, Races}
use Rattle.gosync_call.specs.declared.status.Unread.TheVariants.{NotAccepted}
use Rattle.gosync_call.specs.Input.{IsInput, IsInputTo}
use Rattle.gosync_call.specs.ComesTo.{IsReadIn, IsUnreadIn}

some_is : {X : Type 0} (x y : X) → Some x ≡ Some y → x ≡ y
some_is x y e = cc

-- a fact, where a result is an `Err`
pub on_err : {T E P : Type 0} (r : Result T E) → P → OnErr r P
on_err (Ok x) p = tt
on_err (Err e) p = p

take_whole : (n : ℕ) (xs : List ℕ) → length xs ≤ n → take n xs ≡ xs
take_whole zero [] le = refl
take_whole zero (x ∷ xs) le = absurd (omega arith)
take_whole (suc n) [] le = refl
take_whole (suc n) (x ∷ xs) le = ap (λ (l : List ℕ). x ∷ l) (take_whole n xs (omega arith))

-- what one read gives stands behind what was taken before
pub taken_more : (before now after : Option (List ℕ)) (bytes given : List ℕ) → before ≡ prepend_known bytes now → now ≡ prepend_known given after → before ≡ prepend_known (bytes ++ given) after
taken_more before now None bytes given e f = e ∙ ap (prepend_known bytes) f
taken_more before now (Some rest) bytes given e f = e ∙ ap (prepend_known bytes) f ∙ ap (λ (l : List ℕ). Some l) (sym (append_assoc bytes given rest))

-- before the last read nothing was left
pub ended_before : (before after : Option (List ℕ)) (given : List ℕ) → before ≡ prepend_known given after → given ≡ [] → IsAtEnd after → IsAtEnd before
ended_before None after given e none h = tt
ended_before (Some left) None given e none h = absurd cc
ended_before (Some left) (Some rest) given e none h = some_is left (given ++ rest) e ∙ ap (λ (l : List ℕ). l ++ rest) none ∙ h

module _ (limit : ℕ) where
  -- the file has ended
  pub input_ended : (before after : Option (List ℕ)) (bytes : List ℕ) → before ≡ prepend_known bytes after → IsAtEnd after → length bytes ≤ limit + 1 → IsInputTo limit before bytes
  input_ended None after bytes e ended short = tt
  input_ended (Some held) None bytes e ended short = absurd cc
  input_ended (Some held) (Some rest) bytes e ended short =
      let whole : held ≡ bytes = some_is held (bytes ++ rest) e ∙ ap (λ r. bytes ++ r) ended ∙ append-nil bytes in
      sym (take_whole (limit + 1) bytes short) ∙ ap (take (limit + 1)) (sym whole)

  -- as many bytes were taken as are taken at most
  pub input_full : (before after : Option (List ℕ)) (bytes : List ℕ) → before ≡ prepend_known bytes after → length bytes ≡ limit + 1 → IsInputTo limit before bytes
  input_full None after bytes e full = tt
  input_full (Some held) None bytes e full = absurd cc
  input_full (Some held) (Some rest) bytes e full =
      sym (take-append_seam bytes rest) ∙ ap (λ n. take n (bytes ++ rest)) full ∙ ap (take (limit + 1)) (sym (some_is held (bytes ++ rest) e))

  -- a text that isn't too long was taken whole
  pub fits_whole : (held bytes : List ℕ) → bytes ≡ take (limit + 1) held → length bytes ≤ limit → bytes ≡ held
  fits_whole held bytes e fits =
      let short : length held ≤ limit + 1 = omega (arith, fits, ap length e, length-take (limit + 1) held) in
      e ∙ take_whole (limit + 1) held short

-- no text of a dialect is both read and refused
abbrev pub ReadOrRefused : Dialect → Type 0
ReadOrRefused dialect = (bytes : List ℕ) (plan : Plan) (line : ℕ) (reason : Reason) → ReadsIn dialect bytes plan → IsRefusedIn dialect bytes line reason → ⊥

pub read_or_refused : (dialect : Dialect) → ReadOrRefused Plain → ReadOrRefused Runs → ReadOrRefused Races → ReadOrRefused dialect
read_or_refused Plain plain runs races = plain
read_or_refused Runs plain runs races = runs
read_or_refused Races plain runs races = races

module _ (dialect : Dialect) where
  pub whole_read : (told : Option (List ℕ)) (bytes : List ℕ) (plan : Plan) → IsInput told bytes → ReadsIn dialect bytes plan → is_valid plan ≡ true → IsReadIn dialect told plan
  whole_read None bytes plan h read valid = (bytes, tt, read, valid)
  whole_read (Some held) bytes plan h read valid = (held, refl, subst (λ (b : List ℕ). ReadsIn dialect b plan) (fits_whole MAX_INPUT held bytes h read.fits) read, valid)

  refused_whole : (held bytes : List ℕ) (line : ℕ) (reason : Reason) → bytes ≡ take (MAX_INPUT + 1) held → IsRefusedIn dialect bytes line reason → IsRefusedIn dialect held line reason
  refused_whole held bytes line reason e (inl long) =
      inl (omega (arith, long.0, ap length e, length-take (MAX_INPUT + 1) held), long.1, long.2)
  refused_whole held bytes line reason e (inr fault) =
      subst (λ (b : List ℕ). IsRefusedIn dialect b line reason) (fits_whole MAX_INPUT held bytes e fault.0) (inr fault)

  pub whole_refused : (told : Option (List ℕ)) (bytes : List ℕ) (line : ℕ) (reason : Reason) → ReadOrRefused dialect → IsInput told bytes → IsRefusedIn dialect bytes line reason → IsUnreadIn dialect told (NotAccepted line reason)
  whole_refused None bytes line reason never h refused = (bytes, tt, refused, λ plan read. never bytes plan line reason read refused)
  whole_refused (Some held) bytes line reason never h refused =
      let all = refused_whole held bytes line reason h refused in
      (held, refl, all, λ plan read. never held plan line reason read all)
