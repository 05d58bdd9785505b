-- The five lines.
use Rattle.std.proofs.Common.{◌≡◌, ℕ, List, ◌++◌, codes, refl, ap, ◌∙◌, append_assoc}
use Rattle.std.specs.Fmt.{decimal, digits}
use Rattle.made_workload.specs.Summary.{Summary, numbered, summary_text}

head_is : numbered (codes "workers") 8 ++ numbered (codes "calls") 16000 ≡ codes "workers 8\ncalls 16000\n"
unfolding digits
head_is = refl

regrouped : (head total keys sum : List ℕ)
    → ((head ++ (codes "total " ++ (total ++ codes "\n"))) ++ (codes "keys " ++ (keys ++ codes "\n"))) ++ (codes "sum " ++ (sum ++ codes "\n"))
    ≡ (((((head ++ codes "total ") ++ total) ++ codes "\nkeys ") ++ keys) ++ (codes "\nsum ")) ++ sum ++ codes "\n"
regrouped head total keys sum = simp append_assoc

pub five_lines : (s : Summary) → summary_text s ≡ codes "workers 8\ncalls 16000\ntotal " ++ decimal s.total ++ codes "\nkeys " ++ decimal s.keys ++ codes "\nsum " ++ decimal s.sum ++ codes "\n"
five_lines s =
    ap (λ (head : List ℕ). ((head ++ (codes "total " ++ (decimal s.total ++ codes "\n"))) ++ (codes "keys " ++ (decimal s.keys ++ codes "\n"))) ++ (codes "sum " ++ (decimal s.sum ++ codes "\n"))) head_is
    ∙ regrouped (codes "workers 8\ncalls 16000\n") (decimal s.total) (decimal s.keys) (decimal s.sum)
