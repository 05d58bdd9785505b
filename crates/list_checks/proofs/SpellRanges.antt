-- A cursor, item by item.
use Rattle.std.proofs.Common.{◌≡◌, ℕ, ◌+◌, ◌≤◌, Bool, true, false, cond, List, [], ◌∷◌, ◌++◌, length, drop, Some, None, Ok, Err, Result, slice_get, refl, sym, ap, ◌∙◌, append_assoc, arith}
use Rattle.std.specs.List.{slice_range}
use Rattle.std.proofs.lemmas.List.{append-nil, drop_all}
use Rattle.std.proofs.lemmas.Option.{slice_get_within}
use Rattle.sync_model.specs.declared.answer.Answer.TheVariants.{Done, Halted}
use Rattle.sync_model.specs.declared.item.SharedCall.{SharedCall}
use Rattle.sync_model.specs.declared.item.SharedReply.{SharedReply}
use Rattle.sync_model.specs.declared.item.SharedReply.TheVariants as answers
use Rattle.run_record.specs.declared.made.Made.{Made}
use Rattle.run_record.specs.declared.made.Made.TheVariants.{Shared, Entered}
use Rattle.run_cuts.specs.Cuts.{Beginning, whole, within, wrong, behind, read_beginning}
use Rattle.run_cuts.specs.RangeCuts.{Pairs, by_begun, by_shown, is_begin, is_step, shows_cut, steps_cut}
use Rattle.list_checks.specs.SpellFound.{IsFound, begun_by, is_begun, shown_at, shown_by}
use Rattle.list_checks.specs.declared.spell.range.Shown.{Shown}
use Rattle.list_checks.specs.declared.spell.range.Shown.TheVariants as shown
use Rattle.list_checks.specs.declared.spell.spelt.Spelt.{Spelt}
use Rattle.list_checks.specs.declared.spell.spelt.Stop.{Stop}
use Rattle.list_checks.specs.declared.spell.spelt.Stop.TheVariants as stop
use Rattle.list_checks.proofs.SpellLists.{at_place, nothing, one, one_more}
use Rattle.list_checks.proofs.SpellParts.{later, spelt_at}
use Rattle.list_checks.proofs.SpellStages.{behind_both, behind_nothing}

-- pairs before those of a beginning
abbrev pub with_pairs : Pairs → Beginning Pairs → Beginning Pairs
with_pairs pairs beginning = read_beginning (λ more. pairs ++ more) beginning

with_no_pairs : (beginning : Beginning Pairs) → with_pairs [] beginning ≡ beginning
with_no_pairs (whole items (Done (Ok pairs)) rest) = refl
with_no_pairs (whole items (Done (Err misuse)) rest) = refl
with_no_pairs (whole items (Halted misuse) rest) = refl
with_no_pairs within = refl
with_no_pairs wrong = refl

one_pair_more : (pairs : Pairs) (pair : ℕ × ℕ) (item : Made) (b : Beginning Pairs)
    → with_pairs pairs (behind (item ∷ []) (read_beginning (λ more. pair ∷ more) b)) ≡ behind (item ∷ []) (with_pairs (pairs ++ pair ∷ []) b)
one_pair_more pairs pair item (whole items (Done (Ok more)) rest) = ap (λ (all : Pairs). whole (item ∷ items) (Done (Ok all)) rest) (sym (append_assoc pairs (pair ∷ []) more))
one_pair_more pairs pair item (whole items (Done (Err misuse)) rest) = refl
one_pair_more pairs pair item (whole items (Halted misuse) rest) = refl
one_pair_more pairs pair item within = refl
one_pair_more pairs pair item wrong = refl

-- how a cursor goes on by what an item shows
abbrev by_step : Made → Shown → List Made → Beginning Pairs → Beginning Pairs
by_step item (shown.Pair pair) rest after = behind (item ∷ []) (read_beginning (λ more. pair ∷ more) after)
by_step item shown.End rest after = whole (item ∷ []) (Done (Ok [])) rest
by_step item shown.Wrong rest after = wrong

steps_by : (begin : ℕ) (item : Made) (rest : List Made) → steps_cut begin (item ∷ rest) ≡ by_step item (shown_at begin item) rest (steps_cut begin rest)
steps_by begin (Entered object entry) rest = refl
steps_by begin (Shared x) rest = by x.call x.reply where
  by_reply : (yes : Bool) (r : SharedReply) → cond yes (by_shown (Shared x) r rest (steps_cut begin rest)) wrong ≡ by_step (Shared x) (cond yes (shown_by r) shown.Wrong) rest (steps_cut begin rest)
  by_reply false r = refl
  by_reply true (answers.Shown None) = refl
  by_reply true (answers.Shown (Some pair)) = refl
  by_reply true (answers.Map reply) = refl
  by_reply true answers.Begun = refl
  by_reply true (answers.Atomic reply) = refl

  by : (c : SharedCall) (r : SharedReply) → cond (is_step begin c) (by_shown (Shared x) r rest (steps_cut begin rest)) wrong ≡ by_step (Shared x) (cond (is_step begin c) (shown_by r) shown.Wrong) rest (steps_cut begin rest)
  by c r = by_reply (is_step begin c) r

module _ (begin : ℕ) (list : List Made) (from : ℕ) where
  -- what was read up to a place has shown these pairs
  abbrev pub HasShown : ℕ → Pairs → Type 0
  HasShown next pairs = steps_cut begin (drop from list) ≡ behind (slice_range list from next) (with_pairs pairs (steps_cut begin (drop next list)))

  pub begins : HasShown from []
  begins = sym (ap (λ items. behind items (with_pairs [] (steps_cut begin (drop from list)))) (nothing list from) ∙ behind_nothing (with_pairs [] (steps_cut begin (drop from list))) ∙ with_no_pairs (steps_cut begin (drop from list)))

  module _ (next : ℕ) (pairs : Pairs) (item : Made) (there : slice_get list next ≡ Some item) (along : from ≤ next) (so : HasShown next pairs) where
    read : (s : Shown) → s ≡ shown_at begin item → steps_cut begin (drop from list) ≡ behind (slice_range list from next) (with_pairs pairs (by_step item s (drop (next + 1) list) (steps_cut begin (drop (next + 1) list))))
    read s is =
        so ∙ ap (λ b. behind (slice_range list from next) (with_pairs pairs b))
        (ap (steps_cut begin) (at_place list next item there) ∙ steps_by begin item (drop (next + 1) list) ∙ ap (λ s. by_step item s (drop (next + 1) list) (steps_cut begin (drop (next + 1) list))) (sym is))

    pub shows_pair : (pair : ℕ × ℕ) → shown.Pair pair ≡ shown_at begin item → HasShown (next + 1) (pairs ++ pair ∷ [])
    shows_pair pair is =
        read (shown.Pair pair) is ∙ ap (behind (slice_range list from next)) (one_pair_more pairs pair item (steps_cut begin (drop (next + 1) list)))
        ∙ behind_both (slice_range list from next) (item ∷ []) (with_pairs (pairs ++ pair ∷ []) (steps_cut begin (drop (next + 1) list)))
        ∙ ap (λ items. behind items (with_pairs (pairs ++ pair ∷ []) (steps_cut begin (drop (next + 1) list)))) (one_more list from next item there along)

    pub shows_end : shown.End ≡ shown_at begin item → IsFound list from (steps_cut begin (drop from list)) (Ok (spelt_at (next + 1) pairs))
    shows_end is = record {
      is = read shown.End is ∙ ap (λ (all : Pairs). whole (slice_range list from next ++ item ∷ []) (Done (Ok all)) (drop (next + 1) list)) (append-nil pairs)
          ∙ ap (λ (items : List Made). whole items (Done (Ok pairs)) (drop (next + 1) list)) (one_more list from next item there along);
      ends = let inside = slice_get_within list next item there in (omega (arith, along), omega (arith, inside));
    }

    pub shows_wrong : shown.Wrong ≡ shown_at begin item → IsFound list from (steps_cut begin (drop from list)) (Err stop.Wrong)
    shows_wrong is = record { is = read shown.Wrong is; ends = tt }

  pub runs_out : (next : ℕ) (pairs : Pairs) → HasShown next pairs → length list ≤ next → IsFound list from (steps_cut begin (drop from list)) (Err stop.Within)
  runs_out next pairs so past = record { is = so ∙ ap (λ rest. behind (slice_range list from next) (with_pairs pairs (steps_cut begin rest))) (drop_all next list past); ends = tt }

module _ (m begin : ℕ) (list : List Made) (from : ℕ) (item : Made) (there : slice_get list from ≡ Some item) where
  by_first : (rest : List Made) (x : Made) → shows_cut m begin (x ∷ rest) ≡ cond (is_begun m x) (behind (x ∷ []) (steps_cut begin rest)) wrong
  by_first rest (Entered object entry) = refl
  by_first rest (Shared x) = by (is_begin m x.call) x.reply where
    by : (yes : Bool) (r : SharedReply) → cond yes (by_begun (Shared x) r (steps_cut begin rest)) wrong ≡ cond (begun_by yes r) (behind (Shared x ∷ []) (steps_cut begin rest)) wrong
    by false (answers.Shown pair) = refl
    by false (answers.Map reply) = refl
    by false answers.Begun = refl
    by false (answers.Atomic reply) = refl
    by true (answers.Shown pair) = refl
    by true (answers.Map reply) = refl
    by true answers.Begun = refl
    by true (answers.Atomic reply) = refl

  pub cursor_found : (found : Result (Spelt Pairs) Stop) → is_begun m item ≡ true → IsFound list (from + 1) (steps_cut begin (drop (from + 1) list)) found → IsFound list from (shows_cut m begin (drop from list)) found
  cursor_found found begun steps =
      later list from (from + 1) (shows_cut m begin (drop from list)) (steps_cut begin (drop (from + 1) list)) found (omega arith)
      (ap (shows_cut m begin) (at_place list from item there) ∙ by_first (drop (from + 1) list) item
      ∙ ap (λ (b : Bool). cond b (behind (item ∷ []) (steps_cut begin (drop (from + 1) list))) wrong) begun
      ∙ ap (λ (items : List Made). behind items (steps_cut begin (drop (from + 1) list))) (sym (one list from item there))) steps

  pub no_cursor : is_begun m item ≡ false → IsFound list from (shows_cut m begin (drop from list)) (Err stop.Wrong)
  no_cursor other = record {
    is = ap (shows_cut m begin) (at_place list from item there) ∙ by_first (drop (from + 1) list) item ∙ ap (λ (b : Bool). cond b (behind (item ∷ []) (steps_cut begin (drop (from + 1) list))) wrong) other;
    ends = tt;
  }
