-- The text of a seed, line by line, is the canonical text of its workload.
use Rattle.std.proofs.Common.{◌≡◌, ℕ, zero, suc, ◌+◌, ◌/◌, ◌%◌, nat_lt, ◌==◌, Bool, true, false, cond, List, [], ◌∷◌, ◌++◌, map, replicate, codes, refl, ap, ◌∙◌, append_assoc, lit<}
use Rattle.std.specs.List.{flat_map, range_with_len}
use Rattle.std.specs.Fmt.{decimal}
use Rattle.std.proofs.lemmas.List.{append-nil}
use Rattle.std.proofs.lemmas.Grind.{flat_map-append}
use Rattle.std.proofs.lemmas.Fmt.{decimal_digit}
use Rattle.script_calls.specs.declared.call.Call.{Call}
use Rattle.script_calls.specs.declared.call.Operation.TheVariants as operations
use Rattle.sync_types.specs.declared.map_object.MapCall.TheVariants.{Load, Store, Delete}
use Rattle.workload.specs.declared.line.Line.{Line}
use Rattle.workload.specs.declared.line.Line.TheVariants as lines
use Rattle.workload.specs.Canonical.{text_line, call_line, script_lines, lines_text, canonical}
use Rattle.workload.specs.Words.{spelled}
use Rattle.made_workload.specs.Generated.{key_of, call_by, in_twos, round, script_by, drawn_for, generated_objects, generated_scripts, generated_plan, generated_text}
use Rattle.made_workload.specs.Written.{call_text, round_text, worker_text, workers_text, written_text}

-- the line of a call
abbrev line_of : Call → List ℕ
line_of call = text_line (spelled (call_line generated_objects call))

map_line : (is_store is_load : Bool) (key : List ℕ) (value : ℕ)
    → line_of (record { object = 2; operation = operations.Map (cond is_store (Store key value) (cond is_load (Load key) (Delete key))) })
    ≡ cond is_store (codes "store t " ++ key ++ codes " " ++ decimal value) (cond is_load (codes "load t " ++ key) (codes "delete t " ++ key)) ++ codes "\n"
map_line true is_load key value = simp append_assoc
map_line false true key value = refl
map_line false false key value = refl

regrouped : (a b c d e f rest : List ℕ) → a ++ ((b ++ c) ++ (d ++ ((e ++ f) ++ rest))) ≡ ((((a ++ b) ++ (c ++ d)) ++ e) ++ f) ++ rest
regrouped a b c d e f rest = simp append_assoc

-- the lines of a round, before those of other calls
round_lines : (worker : ℕ) (words : ℕ × ℕ) (calls : List Call)
    → lines_text (map (call_line generated_objects) (round worker words ++ calls)) ≡ round_text worker words ++ lines_text (map (call_line generated_objects) calls)
round_lines worker words calls =
    let rest : List ℕ = lines_text (map (call_line generated_objects) calls) in
    let on_map : line_of (record { object = 2; operation = operations.Map (call_by worker words.1) }) ≡ call_text worker words.1 ++ codes "\n" =
    map_line (nat_lt (words.1 % 4) 2) (words.1 % 4 == 2) (key_of worker (words.1 / 4 % 64)) (words.1 / 256) in
    ap (λ (line : List ℕ). codes "lock m\nadd total " ++ ((decimal (words.0 % 1000) ++ codes "\n") ++ (codes "unlock m\n" ++ (line ++ rest)))) on_map
    ∙ regrouped (codes "lock m\nadd total ") (decimal (words.0 % 1000)) (codes "\n") (codes "unlock m\n") (call_text worker words.1) (codes "\n") rest

calls_lines : (worker : ℕ) (rounds : List (ℕ × ℕ)) → lines_text (map (call_line generated_objects) (flat_map (round worker) rounds)) ≡ flat_map (round_text worker) rounds
calls_lines worker [] = refl
calls_lines worker (words ∷ rounds) = round_lines worker words (flat_map (round worker) rounds) ∙ ap (λ (t : List ℕ). round_text worker words ++ t) (calls_lines worker rounds)

-- the lines of a worker
worker_lines : (worker : ℕ) (words : List ℕ) → lines_text (lines.Worker worker ∷ map (call_line generated_objects) (script_by worker words)) ≡ worker_text worker words
worker_lines worker words =
    ap (λ (t : List ℕ). (codes "worker " ++ (decimal worker ++ codes "\n")) ++ t) (calls_lines worker (in_twos words)) ∙ simp append_assoc

-- the lines of so many workers
scripts_lines : (seed worker count : ℕ)
    → lines_text (script_lines generated_objects worker (map (λ w. script_by w (drawn_for seed w)) (range_with_len worker count))) ≡ workers_text seed worker count
unfolding workers_text
scripts_lines seed worker zero = refl
scripts_lines seed worker (suc count) =
    let own : List Line = lines.Worker worker ∷ map (call_line generated_objects) (script_by worker (drawn_for seed worker)) in
    flat_map-append (λ (line : Line). text_line (spelled line)) own (script_lines generated_objects (worker + 1) (map (λ w. script_by w (drawn_for seed w)) (range_with_len (worker + 1) count)))
    ∙ ap (λ (t : List ℕ). t ++ lines_text (script_lines generated_objects (worker + 1) (map (λ w. script_by w (drawn_for seed w)) (range_with_len (worker + 1) count)))) (worker_lines worker (drawn_for seed worker))
    ∙ ap (λ (t : List ℕ). worker_text worker (drawn_for seed worker) ++ t) (scripts_lines seed (worker + 1) count)

-- the lines before the workers' are the same for each seed
canonical_of : (scripts : List (List Call))
    → canonical (record { workers = 8; objects = generated_objects; dormant = replicate 8 false; scripts = scripts; schedule = [] }) ≡ codes "workers 8\nmutex m\nint64 total\nmap t\n" ++ lines_text (script_lines generated_objects 0 scripts)
canonical_of scripts =
    let all : List Line = script_lines generated_objects 0 scripts in
    ap (λ (digits : List ℕ). (codes "workers " ++ (digits ++ codes "\n")) ++ (codes "mutex m\nint64 total\nmap t\n" ++ lines_text (all ++ []))) (decimal_digit 8 (lit< tt))
    ∙ ap (λ (ls : List Line). codes "workers 8\nmutex m\nint64 total\nmap t\n" ++ lines_text ls) (append-nil all)

pub text_as_written : (seed : ℕ) → generated_text seed ≡ written_text seed
unfolding generated_text generated_plan
text_as_written seed =
    canonical_of (generated_scripts seed) ∙ ap (λ (t : List ℕ). codes "workers 8\nmutex m\nint64 total\nmap t\n" ++ t) (scripts_lines seed 0 8)
