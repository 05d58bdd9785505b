-- A worker without replies has no line.
use Rattle.std.proofs.Common.{◌≡◌, ◌∙◌, ℕ, zero, suc, ◌+◌, ◌^◌, ◌<◌, ◌≤◌, List, [], ◌∷◌, ◌++◌, length, take, sum_by, Some, inl, inr, refl, sym, ap, arith}
use Rattle.std.specs.Prelude.{◌⊎◌, codes, slice_get}
use Rattle.std.specs.Fmt.{decimal}
use Rattle.std.proofs.lemmas.Bool.{cases_lt}
use Rattle.std.proofs.lemmas.Fmt.{decimal_injective}
use Rattle.std.proofs.lemmas.List.{append_assoc, append-nil}
use Rattle.std.proofs.lemmas.List.Sums.{sum_by-cons}
use Rattle.script_calls.specs.declared.call.Call.{Call}
use Rattle.script_calls.specs.declared.call.Reply.{Reply}
use Rattle.sync_types.specs.declared.end.End.{End}
use Rattle.sync_types.specs.declared.end.End.TheVariants as ends
use Rattle.workload.specs.Canonical.{behind_spaces}
use Rattle.workload.specs.Keys.{keys_in}
use Rattle.workload.specs.Plan.{Plan}
use Rattle.workload.specs.Readable.{IsReadable}
use Rattle.workload_text.specs.ReportLines.{call_words, completed_line, end_line, reply_text}
use Rattle.run_report.specs.Shown.{completed_before, Shows}
use Rattle.run_report.proofs.TextCuts.{cut, decimal_lacks}
use Rattle.run_report.proofs.Told.{dot_e, first_differs, line_front, no_dot, no_e, scripts_few}

some_same : {X : Type 0} {a b : X} → Some a ≡ Some b → a ≡ b
some_same e = cc

nothing : {X : Type 0} (k : ℕ) (x : X) → slice_get {X = X} [] k ≡ Some x → ⊥
nothing k x e = cc

-- an item that is there is below the length
there : {X : Type 0} (xs : List X) (k : ℕ) (x : X) → slice_get xs k ≡ Some x → k < length xs
there [] k x is = absurd (nothing k x is)
there (y ∷ xs) zero x is = omega arith
there (y ∷ xs) (suc k) x is = omega (arith, there xs k x is)

is_there : {X : Type 0} (xs : List X) (k : ℕ) → k < length xs → (x : X) × (slice_get xs k ≡ Some x)
is_there [] k lt = absurd (omega (arith, lt))
is_there (y ∷ xs) zero lt = (y, refl)
is_there (y ∷ xs) (suc k) lt = is_there xs k (omega (arith, lt))

-- how far a number is behind another
behind_by : (a b : ℕ) → a ≤ b → (k : ℕ) × (a + k ≡ b)
behind_by zero b le = (b, omega arith)
behind_by (suc a) zero le = absurd (omega (arith, le))
behind_by (suc a) (suc b) le =
    let rest = behind_by a b (omega (arith, le)) in
    (rest.0, omega (arith, rest.1))

-- whose line of a call it is, and of which of its replies
record LineOf (replies : List (List (Reply ℕ))) (position : ℕ) : Type 0 where
  worker : ℕ
  number : ℕ
  completed : List (Reply ℕ)
  reply : Reply ℕ
  has : slice_get replies worker ≡ Some completed
  answered : slice_get completed number ≡ Some reply
  placed : completed_before worker replies + number ≡ position

line_of : (replies : List (List (Reply ℕ))) (position : ℕ) → position < sum_by length replies → LineOf replies position
line_of [] position lt = absurd (omega (arith, lt))
line_of (first ∷ replies) position lt = by (cases_lt position (length first)) (λ k short. line_of replies k short)
  where
    later : (k : ℕ) → length first + k ≡ position → LineOf replies k → LineOf (first ∷ replies) position
    later k is line = record {
      worker = suc line.worker;
      number = line.number;
      completed = line.completed;
      reply = line.reply;
      has = line.has;
      answered = line.answered;
      placed = omega (arith, is, line.placed, sum_by-cons (λ (r : List (Reply ℕ)). length r) first (take line.worker replies));
    }

    by : (position < length first) ⊎ (length first ≤ position) → ((k : ℕ) → k < sum_by length replies → LineOf replies k) → LineOf (first ∷ replies) position
    by (inl here) on = let found = is_there first position here in record { worker = 0; number = position; completed = first; reply = found.0; has = refl; answered = found.1; placed = omega arith }
    by (inr le) on =
        let over = behind_by (length first) position le in
        later over.0 over.1 (on over.0 (omega (arith, over.1, lt, sum_by-cons (λ (r : List (Reply ℕ)). length r) first replies)))

module _ (plan : Plan) where
  -- a line of a call begins with its worker's number and a dot, and one of an end doesn't
  call_front : (worker place : ℕ) (call : Call) (reply : Reply ℕ) → (tail : List ℕ) × (completed_line plan worker place call reply ≡ decimal worker ++ 46 ∷ tail)
  call_front worker place call reply =
      let words : List ℕ = behind_spaces (call_words plan.objects call) in
      let said : List ℕ = reply_text (keys_in plan.scripts) reply in (
        decimal place ++ (words ++ (codes " -> " ++ (said ++ (codes "\n" ++ [])))),
        sym (append-nil (completed_line plan worker place call reply)) ∙ line_front (decimal worker) (decimal place) words (codes " -> ") said (codes "\n") [],
      )

  end_front : (end : End) → (tail : List ℕ) × (end_line plan end ≡ 101 ∷ tail)
  end_front (ends.Number object number) = (_, refl)
  end_front (ends.Pair object key value) = (_, refl)

  pub has_no_line : IsReadable plan → (replies : List (List (Reply ℕ))) (es : List End) (text : List ℕ) (shown : Shows plan replies es text) (worker position : ℕ) (tail : List ℕ) → length replies ≡ length plan.scripts
      → slice_get replies worker ≡ Some [] → slice_get shown.lines position ≡ Some (decimal worker ++ codes "." ++ tail) → ⊥
  has_no_line readable replies es text shown worker position tail count none is = by (cases_lt position (sum_by length replies))
    where
      few : length replies < 2 ^ 64
      few = omega (arith, count, scripts_few plan readable)

      small : worker < 2 ^ 64
      small = omega (arith, few, there replies worker [] none)

      front : decimal worker ++ codes "." ++ tail ≡ decimal worker ++ 46 ∷ tail
      front = append_assoc (decimal worker) (codes ".") tail

      of_call : LineOf replies position → ⊥
      of_call line =
          let shows = shown.call_lines line.worker line.number line.completed line.reply line.has line.answered in
          let begins = call_front line.worker shows.0 shows.1 line.reply in
          let same : decimal worker ++ 46 ∷ tail ≡ decimal line.worker ++ 46 ∷ begins.0 =
          sym front ∙ some_same (sym is ∙ ap (slice_get shown.lines) (sym line.placed) ∙ shows.3) ∙ begins.1 in
          let other_small : line.worker < 2 ^ 64 = omega (arith, few, there replies line.worker line.completed line.has) in
          let words = cut 46 (decimal worker) (decimal line.worker) tail begins.0 (decimal_lacks 46 no_dot worker small) (decimal_lacks 46 no_dot line.worker other_small) same in
          let number : worker ≡ line.worker = decimal_injective worker line.worker small other_small words.0 in
          let empty : [] ≡ line.completed = some_same (sym none ∙ ap (slice_get replies) number ∙ line.has) in
          nothing line.number line.reply (ap (λ (r : List (Reply ℕ)). slice_get r line.number) empty ∙ line.answered)

      of_end : (place : ℕ) → sum_by length replies + place ≡ position → (end : End) × (slice_get es place ≡ Some end) → ⊥
      of_end place placed (end, has) =
          let begins = end_front end in
          let same : decimal worker ++ 46 ∷ tail ≡ 101 ∷ begins.0 = sym front ∙ some_same (sym is ∙ ap (slice_get shown.lines) (sym placed) ∙ shown.end_lines place end has) ∙ begins.1 in
          first_differs (decimal worker) 46 101 tail begins.0 (decimal_lacks 101 no_e worker small) dot_e same

      by : (position < sum_by length replies) ⊎ (sum_by length replies ≤ position) → ⊥
      by (inl lt) = of_call (line_of replies position lt)
      by (inr le) =
          let over = behind_by (sum_by length replies) position le in
          of_end over.0 over.1 (is_there es over.0 (omega (arith, over.1, shown.count, there shown.lines position (decimal worker ++ codes "." ++ tail) is)))
