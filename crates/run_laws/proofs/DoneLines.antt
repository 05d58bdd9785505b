-- What the lists of a run that is done are, where no worker waits to be started: the items of each script's calls.
use Rattle.std.proofs.Common.{◌≡◌, ℕ, List, [], ◌∷◌, ◌++◌, map, length, Option, Some, None, slice_get, refl, sym, ap, ◌∙◌, subst, arith, append-nil}
use Rattle.std.specs.Prelude.{sum_by}
use Rattle.std.specs.List.{flat_map}
use Rattle.std.specs.Option.{option_map}
use Rattle.std.proofs.lemmas.List.Sums.{sum_by-cons}
use Rattle.std.proofs.lemmas.Option.{none-some, slice_get_within, get_or_from_slice_get, slice_get-map}
use Rattle.script_calls.specs.declared.call.Call.{Call}
use Rattle.sync_model.specs.declared.item.Item.{Item}
use Rattle.script_calls.specs.declared.outcome.Outcome.TheVariants.{Done}
use Rattle.script_calls.specs.declared.outcome.Report.{Report}
use Rattle.workload.specs.Plan.{Plan}
use Rattle.run_record.specs.declared.made.Made.{Made}
use Rattle.run_record.specs.declared.made.Made.TheVariants.{Shared, Entered}
use Rattle.run_record.specs.Explains.{IsAtEnd, Explains}
use Rattle.run_record.specs.Lines.{SpeltCall, Line, LineEnd, whole, script_of, items_of, AreHalts, IsLineOf}
use Rattle.run_record.specs.Plain.{EndsPlainly, IsPlainLine}
use Rattle.run_record.specs.Record.{Record, list_of, shared_in, calls_of}
use Rattle.run_laws.proofs.Orderly.{get_past, get_at}

pub shared_append : (xs ys : List Made) → shared_in (xs ++ ys) ≡ shared_in xs ++ shared_in ys
shared_append [] ys = refl
shared_append (Shared x ∷ xs) ys = ap (λ (l : List Item). x ∷ l) (shared_append xs ys)
shared_append (Entered object entry ∷ xs) ys = shared_append xs ys

pub shared_map : (made : List Item) → shared_in (map Shared made) ≡ made
shared_map [] = refl
shared_map (x ∷ made) = ap (λ (l : List Item). x ∷ l) (shared_map made)

pub sum_by_mapped : {A B : Type 0} (f : B → ℕ) (g : A → B) (xs : List A) → sum_by f (map g xs) ≡ sum_by (λ x. f (g x)) xs
sum_by_mapped f g [] = refl
sum_by_mapped f g (x ∷ xs) = let rest = sum_by_mapped f g xs in omega (arith, rest, sum_by-cons f (g x) (map g xs), sum_by-cons (λ y. f (g y)) x xs)

-- the calls of a script, and the items that spell them
abbrev pub calls_in : List SpeltCall → List Call
calls_in spelt = map (λ call. call.call) spelt

abbrev pub items_in : List SpeltCall → List Made
items_in spelt = flat_map (λ call. call.items) spelt

-- nothing stands before a script or behind it, and each is at its end, where nobody waits to be started
abbrev pub Plainly : Plan → Type 0
Plainly plan = (worker : ℕ) (line : Line) → IsLineOf plan worker line → IsPlainLine plan worker line × (IsAtEnd line.ending → line.ending ≡ whole)

module _ (plan : Plan) (r : Record) (left : Report) (explains : Explains plan (Done left) r) (plainly : Plainly plan) where
  ended : (worker : ℕ) (line : Line) → slice_get explains.lines worker ≡ Some line → (line.rest ≡ []) × (line.last ++ line.halts ≡ [])
  ended worker line at =
      let of = plainly worker line (explains.are.each worker line at) in
      let is : line.ending ≡ whole = of.1 (subst (λ (l : Line). IsAtEnd l.ending) (get_or_from_slice_get explains.lines worker line line at) (explains.agrees.0 worker line (slice_get_within explains.lines worker line at))) in
      let ends = subst (λ (e : LineEnd). EndsPlainly plan worker (length (shared_in (items_in line.spelt))) e line.rest line.last) is of.0.ends in
      (ends.0, ap (λ (l : List Made). l ++ line.halts) ends.1 ∙ subst (λ (e : LineEnd). AreHalts e line.halts) is of.0.halts)

  pub script_at : (worker : ℕ) (line : Line) → slice_get explains.lines worker ≡ Some line → script_of line ≡ calls_in line.spelt
  script_at worker line at = ap (λ (l : List Call). calls_in line.spelt ++ l) (ended worker line at).0 ∙ append-nil (calls_in line.spelt)

  pub list_at : (worker : ℕ) (line : Line) → slice_get explains.lines worker ≡ Some line → list_of r worker ≡ items_in line.spelt
  list_at worker line at =
      let list : list_of r worker ≡ items_of line = get_at r.lists worker (items_of line) (ap (λ (l : List (List Made)). slice_get l worker) (sym explains.are.lists) ∙ (slice_get-map items_of explains.lines worker ∙ ap (option_map items_of) at)) in
      list ∙ (ap (λ (l : List Made). l ++ (items_in line.spelt ++ (line.last ++ line.halts))) (plainly worker line (explains.are.each worker line at)).0.none
      ∙ (ap (λ (l : List Made). items_in line.spelt ++ l) (ended worker line at).1 ∙ append-nil (items_in line.spelt)))

  pub list_past : (worker : ℕ) → slice_get explains.lines worker ≡ None → list_of r worker ≡ []
  list_past worker none = get_past r.lists worker (ap (λ (l : List (List Made)). slice_get l worker) (sym explains.are.lists) ∙ (slice_get-map items_of explains.lines worker ∙ ap (option_map items_of) none))

  pub calls_at : (worker : ℕ) (line : Line) → slice_get explains.lines worker ≡ Some line → calls_of r worker ≡ shared_in (items_in line.spelt)
  calls_at worker line at = ap shared_in (list_at worker line at)

  pub calls_past : (worker : ℕ) → slice_get explains.lines worker ≡ None → calls_of r worker ≡ []
  calls_past worker none = ap shared_in (list_past worker none)

  -- who made a call has a line
  pub line_at : (worker i : ℕ) (x : Item) → slice_get (calls_of r worker) i ≡ Some x → (line : Line) × (slice_get explains.lines worker ≡ Some line)
  line_at worker i x at = by_line (slice_get explains.lines worker) refl where
    by_line : (o : Option Line) → slice_get explains.lines worker ≡ o → (line : Line) × (slice_get explains.lines worker ≡ Some line)
    by_line (Some line) is = (line, is)
    by_line None is = absurd (none-some x (ap (λ (l : List Item). slice_get l i) (sym (calls_past worker is)) ∙ at))
