-- The lines on the error output, as their pieces.
use Rattle.std.proofs.Common.{◌≡◌, ℕ, List, Option, [], ◌++◌, sym, ap, subst, ◌∙◌, append-nil, append_assoc}
use Rattle.std.specs.Prelude.{codes}
use Rattle.gosync_call.specs.Messages.{WritesOut}

pub says_same : (old new : Option (List ℕ)) (before after : ℕ) (text other : List ℕ) → text ≡ other → WritesOut old new before after text → WritesOut old new before after other
says_same old new before after text other e h = subst (WritesOut old new before after) e h

nested : (a b c d : List ℕ) → (a ++ (b ++ (c ++ d))) ≡ (((a ++ b) ++ c) ++ d)
nested a b c d = sym (append_assoc (a ++ b) c d ∙ append_assoc a b (c ++ d))

pub refusal_text : (line number text reason : List ℕ) → line ≡ number → text ≡ reason
    → (codes "gosync: line " ++ (line ++ (codes ": " ++ (text ++ (codes "\n" ++ []))))) ≡ (codes "gosync: line " ++ number ++ codes ": " ++ reason ++ codes "\n")
refusal_text line number text reason e f =
    ap (λ (n : List ℕ). codes "gosync: line " ++ (line ++ (codes ": " ++ (text ++ n)))) (append-nil (codes "\n"))
    ∙ ap (λ (l : List ℕ). codes "gosync: line " ++ (l ++ (codes ": " ++ (text ++ codes "\n")))) e
    ∙ ap (λ (t : List ℕ). codes "gosync: line " ++ (number ++ (codes ": " ++ (t ++ codes "\n")))) f
    ∙ ap (λ (l : List ℕ). codes "gosync: line " ++ l) (nested number (codes ": ") reason (codes "\n"))

pub cannot_read_text : (name file : List ℕ) → name ≡ file → (codes "gosync: cannot read " ++ (name ++ (codes "\n" ++ []))) ≡ (codes "gosync: cannot read " ++ (file ++ codes "\n"))
cannot_read_text name file e =
    ap (λ (n : List ℕ). codes "gosync: cannot read " ++ (name ++ n)) (append-nil (codes "\n"))
    ∙ ap (λ (n : List ℕ). codes "gosync: cannot read " ++ (n ++ codes "\n")) e
