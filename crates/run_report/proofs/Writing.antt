-- Writing a text piece by piece.
use Rattle.std.proofs.Common.{◌≡◌, ℕ, ◌+◌, List, [], ◌++◌, length, take, Option, Some, None, refl, sym, ap, subst, ◌∙◌, arith, append_assoc, append-nil}
use Rattle.std.proofs.lemmas.List.{take-append-le, length-append}
use Rattle.std.proofs.Math.Seq.{take-append-add}
use Rattle.std.specs.Prelude.{Result, Ok, Err, OnErr}
use Rattle.std.specs.Io.KnownBytes.{append_known}
use Rattle.sync_outside.specs.Bytes.{Appends, AppendsFront}

-- a part of the whole text was written, and this is left
pub record Goes (old now : Option (List ℕ)) (all left : List ℕ) : Type 0 where
  pub done : List ℕ
  pub wrote : Appends old now done
  pub rest : all ≡ done ++ left

pub append_known-nil : (a : Option (List ℕ)) → a ≡ append_known a []
append_known-nil None = refl
append_known-nil (Some xs) = ap (λ (l : List ℕ). Some l) (sym (append-nil xs))

append_known-append : (a : Option (List ℕ)) (b c : List ℕ) → append_known (append_known a b) c ≡ append_known a (b ++ c)
append_known-append None b c = refl
append_known-append (Some xs) b c = ap (λ (l : List ℕ). Some l) (append_assoc xs b c)

-- one text is written behind the other
pub appends_more : (old now new : Option (List ℕ)) (a b : List ℕ) → Appends old now a → Appends now new b → Appends old new (a ++ b)
appends_more old now new a b h k = k ∙ ap (λ (o : Option (List ℕ)). append_known o b) h ∙ append_known-append old a b

-- one piece is written
pub goes_on : (old now new : Option (List ℕ)) (all here piece left : List ℕ) → here ≡ piece ++ left → Goes old now all here → Appends now new piece → Goes old new all left
goes_on old now new all here piece left e h wrote = record {
  done = h.done ++ piece;
  wrote = appends_more old now new h.done piece h.wrote wrote;
  rest = h.rest ∙ ap (λ (l : List ℕ). h.done ++ l) e ∙ sym (append_assoc h.done piece left);
}

-- a text and a first part of what is behind it are a first part
pub front_behind : (old now new : Option (List ℕ)) (done piece left : List ℕ) → Appends old now done → AppendsFront now new piece → AppendsFront old new (done ++ (piece ++ left))
front_behind old now new done piece left wrote h = (
  length done + h.0,
  omega (arith, h.1, length-append done (piece ++ left), length-append piece left),
  appends_more old now new done (take h.0 piece) wrote h.2
      ∙ ap (append_known old) (ap (λ (l : List ℕ). done ++ l) (sym (take-append-le h.0 piece left h.1)) ∙ sym (take-append-add done (piece ++ left) h.0)),
)

-- a write of a piece failed
pub goes_cut : (old now new : Option (List ℕ)) (all here piece left : List ℕ) → here ≡ piece ++ left → Goes old now all here → AppendsFront now new piece → AppendsFront old new all
goes_cut old now new all here piece left e h cut =
    subst (AppendsFront old new) (sym (h.rest ∙ ap (λ (l : List ℕ). h.done ++ l) e)) (front_behind old now new h.done piece left h.wrote cut)

-- nothing is left
pub goes_end : (old now : Option (List ℕ)) (all here : List ℕ) → here ≡ [] → Goes old now all here → Appends old now all
goes_end old now all here e h = h.wrote ∙ ap (append_known old) (sym (h.rest ∙ ap (λ (l : List ℕ). h.done ++ l) e ∙ append-nil h.done))

-- a fact, where a result is an `Err`
pub on_err : {T E P : Type 0} (r : Result T E) → P → OnErr r P
on_err (Ok x) p = tt
on_err (Err e) p = p

-- a text and a first part of the next are a first part of both
pub front_after : (old mid new : Option (List ℕ)) (a b : List ℕ) → Appends old mid a → AppendsFront mid new b → AppendsFront old new (a ++ b)
front_after old mid new a b h cut = subst (λ (l : List ℕ). AppendsFront old new (a ++ l)) (append-nil b) (front_behind old mid new a b [] h cut)
