-- What is done time and again: looks and sweeps of a pool, and the tests of a `waitfor`.
use Rattle.std.proofs.Common.{◌≡◌, ℕ, suc, ◌+◌, ◌*◌, ◌-◌, ◌<◌, ◌≤◌, Bool, true, false, List, [], ◌∷◌, ◌++◌, map, drop, Option, Some, None, Ok, Err, Result, refl, sym, ap, ◌∙◌, arith}
use Rattle.std.specs.List.{range_with_len, slice_range}
use Rattle.std.proofs.lemmas.List.{append-nil}
use Rattle.sync_types.specs.declared.atomic_object.Number.{Number}
use Rattle.sync_types.specs.declared.pool_call.PoolCallReply.TheVariants as pool_replies
use Rattle.sync_types.specs.declared.wait_call.CondCall.TheVariants.{Wait}
use Rattle.script_calls.specs.declared.call.Reply.{Reply}
use Rattle.script_calls.specs.declared.call.Reply.TheVariants as replies
use Rattle.sync_model.specs.declared.answer.Answer.TheVariants.{Done, Halted}
use Rattle.pool_core.specs.Looks.{look}
use Rattle.pool_core.specs.declared.pool_event.PoolEvent.{PoolEvent}
use Rattle.protocols.specs.declared.pool.PoolOutcome.{PoolOutcome}
use Rattle.protocols.specs.declared.pool.PoolOutcome.TheVariants.{Kept, Dropped, Item, Nothing, Swept}
use Rattle.protocols.specs.declared.pool.PoolStage.TheVariants as stage
use Rattle.run_record.specs.PoolKind.{part_of, stage_of}
use Rattle.run_record.specs.declared.made.Made.{Made}
use Rattle.run_cuts.specs.CondCuts.{cond_cut}
use Rattle.run_cuts.specs.Cuts.{Beginning, whole, within, wrong, Cutter, behind, by_beginning, read_beginning, returns_cut, then_cut}
use Rattle.run_cuts.specs.PoolCuts.{found_by_cut, found_or_cut, pool_part_cut, swept_by_cut}
use Rattle.run_cuts.specs.SharedCuts.{tests_cut}
use Rattle.run_cuts.specs.WaitForCuts.{unless_met_cut, waits_for_cut}
use Rattle.list_checks.specs.SpellFound.{IsFound, look_cut, taken_cut, try_cut, waited_cut}
use Rattle.list_checks.specs.declared.spell.spelt.Spelt.{Spelt}
use Rattle.list_checks.specs.declared.spell.spelt.Stop.{Stop}
use Rattle.list_checks.proofs.SpellParts.{later, returned, spelt_at, then_stopped}
use Rattle.list_checks.proofs.SpellStages.{behind_both}
use Rattle.list_checks.proofs.SpellLists.{joined}

-- numbers from a place up to an end: the first, and the rest
first_number : (n end : ℕ) → n < end → range_with_len n (end - n) ≡ n ∷ range_with_len (n + 1) (end - (n + 1))
first_number n end less = let e : end - n ≡ suc (end - (n + 1)) = omega (arith, less) in ap (range_with_len n) e

no_number : (n end : ℕ) → end ≤ n → range_with_len n (end - n) ≡ []
no_number n end past = let e : end - n ≡ 0 = omega (arith, past) in ap (range_with_len n) e

-- a list that was read up to a place, of which this is left
module _ {O : Type 0} (list : List Made) (from at : ℕ) (all : Beginning O) (along : from ≤ at) where
  -- one part more
  pub one_more : {P : Type 0} (first : Beginning P) (next : P → Cutter O) (spelt : Spelt P) → all ≡ behind (slice_range list from at) (by_beginning next first) → IsFound list at first (Ok spelt)
      → all ≡ behind (slice_range list from spelt.end) (next spelt.outcome (drop spelt.end list))
  one_more first next spelt is found =
      is ∙ ap (λ (b : Beginning _). behind (slice_range list from at) (by_beginning next b)) found.is
      ∙ behind_both (slice_range list from at) (slice_range list at spelt.end) (next spelt.outcome (drop spelt.end list))
      ∙ ap (λ (items : List Made). behind items (next spelt.outcome (drop spelt.end list))) (joined list from at spelt.end along found.ends.0)

  -- a part that isn't done
  pub ends_there : {P : Type 0} (first : Beginning P) (next : P → Cutter O) (stopped : Stop) → all ≡ behind (slice_range list from at) (by_beginning next first) → IsFound list at first (Err stopped) → IsFound list from all (Err stopped)
  ends_there first next stopped is found = later list from at all (by_beginning next first) (Err stopped) along is (then_stopped list at first next stopped found)

-- ---- looks

module _ (workers worker first : ℕ) where
  -- a worker's looks from a number on
  abbrev pub looks_from : ℕ → List (PoolEvent ℕ)
  looks_from n = map (look workers worker) (range_with_len n (2 * workers - n))

  -- what comes behind a look
  abbrev pub behind_look : ℕ → Option ℕ → Cutter (Reply ℕ)
  behind_look n (Some item) = returns_cut (replies.Pool (pool_replies.Put item))
  behind_look n None = found_by_cut worker first (looks_from (n + 1))

  by_outcome : (rest : Cutter (Reply ℕ)) (n : ℕ) → rest ≡ found_by_cut worker first (looks_from (n + 1)) → (b : Beginning PoolOutcome) → by_beginning (found_or_cut rest) b ≡ by_beginning (behind_look n) (by_beginning taken_cut b)
  by_outcome rest n is (whole items (Done (Ok (Item item))) left) =
      let none = append-nil items in
      ap (λ (all : List Made). whole (all ++ []) (Done (Ok (replies.Pool (pool_replies.Put item)))) left) (sym none)
  by_outcome rest n is (whole items (Done (Ok Nothing)) left) =
      ap (λ (c : Cutter (Reply ℕ)). behind items (c left)) is ∙ ap (λ (all : List Made). behind all (found_by_cut worker first (looks_from (n + 1)) left)) (sym (append-nil items))
  by_outcome rest n is (whole items (Done (Ok Kept)) left) = refl
  by_outcome rest n is (whole items (Done (Ok (Dropped item))) left) = refl
  by_outcome rest n is (whole items (Done (Ok Swept)) left) = refl
  by_outcome rest n is (whole items (Done (Err misuse)) left) = refl
  by_outcome rest n is (whole items (Halted misuse) left) = refl
  by_outcome rest n is within = refl
  by_outcome rest n is wrong = refl

  pub next_look : (n : ℕ) → n < 2 * workers → (list : List Made) → found_by_cut worker first (looks_from n) list ≡ by_beginning (behind_look n) (look_cut worker first (look workers worker n) list)
  next_look n less list =
      ap (λ (numbers : List ℕ). found_by_cut worker first (map (look workers worker) numbers) list) (first_number n (2 * workers) less)
      ∙ by_outcome (found_by_cut worker first (looks_from (n + 1))) n refl (pool_part_cut (first + part_of worker (look workers worker n)) (stage_of (look workers worker n)) list)

  pub no_look : (n : ℕ) → 2 * workers ≤ n → (list : List Made) → found_by_cut worker first (looks_from n) list ≡ returns_cut (replies.Pool pool_replies.New) list
  no_look n past list = ap (λ (numbers : List ℕ). found_by_cut worker first (map (look workers worker) numbers) list) (no_number n (2 * workers) past)

-- ---- sweeps

module _ (workers first : ℕ) where
  pub next_sweep : (n : ℕ) → n < workers → (list : List Made)
      → swept_by_cut first (range_with_len n (workers - n)) list ≡ by_beginning (λ swept. swept_by_cut first (range_with_len (n + 1) (workers - (n + 1)))) (pool_part_cut (first + n) stage.Sweep list)
  next_sweep n less list = ap (λ (parts : List ℕ). swept_by_cut first parts list) (first_number n workers less)

  pub no_sweep : (n : ℕ) → workers ≤ n → (list : List Made) → swept_by_cut first (range_with_len n (workers - n)) list ≡ returns_cut (replies.Pool pool_replies.Done) list
  no_sweep n past list = ap (λ (parts : List ℕ). swept_by_cut first parts list) (no_number n workers past)

-- ---- tests

module _ (cond mutex a : ℕ) (value : Number) where
  -- what comes behind a test, with so many waits left
  abbrev pub behind_try : ℕ → Bool → Cutter Bool
  behind_try tries true = returns_cut true
  behind_try tries false = waits_for_cut cond mutex a value tries

  by_wait : (tries : ℕ) (items : List Made) (b : Beginning (Reply ℕ))
      → behind items (by_beginning (λ waited. waits_for_cut cond mutex a value tries) b) ≡ by_beginning (behind_try tries) (behind items (read_beginning (λ waited. false) b))
  by_wait tries items (whole more (Done (Ok reply)) left) = behind_both items more (waits_for_cut cond mutex a value tries left)
  by_wait tries items (whole more (Done (Err misuse)) left) = refl
  by_wait tries items (whole more (Halted misuse) left) = refl
  by_wait tries items within = refl
  by_wait tries items wrong = refl

  by_test : (tries : ℕ) (b : Beginning Bool)
      → by_beginning (unless_met_cut (then_cut (cond_cut cond mutex Wait) (λ waited. waits_for_cut cond mutex a value tries))) b ≡ by_beginning (behind_try tries) (by_beginning (unless_met_cut (waited_cut cond mutex)) b)
  by_test tries (whole items (Done (Ok true)) left) = ap (λ (all : List Made). whole (all ++ []) (Done (Ok true)) left) (sym (append-nil items))
  by_test tries (whole items (Done (Ok false)) left) = by_wait tries items (cond_cut cond mutex Wait left)
  by_test tries (whole items (Done (Err misuse)) left) = refl
  by_test tries (whole items (Halted misuse) left) = refl
  by_test tries within = refl
  by_test tries wrong = refl

  pub next_try : (left tries : ℕ) → left ≡ suc tries → (list : List Made) → waits_for_cut cond mutex a value left list ≡ by_beginning (behind_try tries) (try_cut cond mutex a value list)
  next_try left tries is list = ap (λ (n : ℕ). waits_for_cut cond mutex a value n list) is ∙ by_test tries (tests_cut a value list)

  pub last_try : (left : ℕ) → left ≡ 0 → (list : List Made) → waits_for_cut cond mutex a value left list ≡ tests_cut a value list
  last_try left is list = ap (λ (n : ℕ). waits_for_cut cond mutex a value n list) is

  module _ (list : List Made) (from at left tries : ℕ) (is_more : left ≡ suc tries) (all : Beginning Bool) (along : from ≤ at) (so : all ≡ behind (slice_range list from at) (waits_for_cut cond mutex a value left (drop at list))) where
    by_try : all ≡ behind (slice_range list from at) (by_beginning (behind_try tries) (try_cut cond mutex a value (drop at list)))
    by_try = so ∙ ap (behind (slice_range list from at)) (next_try left tries is_more (drop at list))

    pub try_stops : (stopped : Stop) → IsFound list at (try_cut cond mutex a value (drop at list)) (Err stopped) → IsFound list from all (Err stopped)
    try_stops stopped found = ends_there list from at all along (try_cut cond mutex a value (drop at list)) (behind_try tries) stopped by_try found

    by_tried : (spelt : Spelt Bool) (met : Bool) → spelt.outcome ≡ met → IsFound list at (try_cut cond mutex a value (drop at list)) (Ok spelt) → all ≡ behind (slice_range list from spelt.end) (behind_try tries met (drop spelt.end list))
    by_tried spelt met same found =
        one_more list from at all along (try_cut cond mutex a value (drop at list)) (behind_try tries) spelt by_try found
        ∙ ap (λ (b : Bool). behind (slice_range list from spelt.end) (behind_try tries b (drop spelt.end list))) same

    pub try_fails : (spelt : Spelt Bool) → spelt.outcome ≡ false → IsFound list at (try_cut cond mutex a value (drop at list)) (Ok spelt) → all ≡ behind (slice_range list from spelt.end) (waits_for_cut cond mutex a value tries (drop spelt.end list))
    try_fails spelt same found = by_tried spelt false same found

    pub try_meets : (spelt : Spelt Bool) → spelt.outcome ≡ true → IsFound list at (try_cut cond mutex a value (drop at list)) (Ok spelt) → IsFound list from all (Ok spelt)
    try_meets spelt same found =
        let ends = found.ends in
        later list from spelt.end all (returns_cut spelt.outcome (drop spelt.end list)) (Ok spelt) (omega (arith, along, ends.0))
        (by_tried spelt true same found ∙ ap (λ (b : Bool). behind (slice_range list from spelt.end) (returns_cut b (drop spelt.end list))) (sym same))
        (returned list spelt.end spelt.outcome ends.1)

  pub last_found : (list : List Made) (from at left : ℕ) (all : Beginning Bool) (found : Result (Spelt Bool) Stop) → left ≡ 0 → from ≤ at → all ≡ behind (slice_range list from at) (waits_for_cut cond mutex a value left (drop at list))
      → IsFound list at (tests_cut a value (drop at list)) found → IsFound list from all found
  last_found list from at left all found none along so is =
      later list from at all (tests_cut a value (drop at list)) found along (so ∙ ap (behind (slice_range list from at)) (last_try left none (drop at list))) is

module _ (workers worker first : ℕ) (list : List Made) (from at n : ℕ) (less : n < 2 * workers) (all : Beginning (Reply ℕ)) (along : from ≤ at)
    (so : all ≡ behind (slice_range list from at) (found_by_cut worker first (looks_from workers worker first n) (drop at list))) where
  by_look : all ≡ behind (slice_range list from at) (by_beginning (behind_look workers worker first n) (look_cut worker first (look workers worker n) (drop at list)))
  by_look = so ∙ ap (behind (slice_range list from at)) (next_look workers worker first n less (drop at list))

  pub look_stops : (stopped : Stop) → IsFound list at (look_cut worker first (look workers worker n) (drop at list)) (Err stopped) → IsFound list from all (Err stopped)
  look_stops stopped found = ends_there list from at all along (look_cut worker first (look workers worker n) (drop at list)) (behind_look workers worker first n) stopped by_look found

  by_looked : (spelt : Spelt (Option ℕ)) (taken : Option ℕ) → spelt.outcome ≡ taken → IsFound list at (look_cut worker first (look workers worker n) (drop at list)) (Ok spelt)
      → all ≡ behind (slice_range list from spelt.end) (behind_look workers worker first n taken (drop spelt.end list))
  by_looked spelt taken same found =
      one_more list from at all along (look_cut worker first (look workers worker n) (drop at list)) (behind_look workers worker first n) spelt by_look found
      ∙ ap (λ (t : Option ℕ). behind (slice_range list from spelt.end) (behind_look workers worker first n t (drop spelt.end list))) same

  pub look_finds_none : (spelt : Spelt (Option ℕ)) → spelt.outcome ≡ None → IsFound list at (look_cut worker first (look workers worker n) (drop at list)) (Ok spelt)
      → all ≡ behind (slice_range list from spelt.end) (found_by_cut worker first (looks_from workers worker first (n + 1)) (drop spelt.end list))
  look_finds_none spelt same found = by_looked spelt None same found

  pub look_takes : (spelt : Spelt (Option ℕ)) (item : ℕ) → spelt.outcome ≡ Some item → IsFound list at (look_cut worker first (look workers worker n) (drop at list)) (Ok spelt)
      → IsFound list from all (Ok (spelt_at spelt.end (replies.Pool (pool_replies.Put item))))
  look_takes spelt item same found =
      let ends = found.ends in
      later list from spelt.end all (returns_cut (replies.Pool (pool_replies.Put item)) (drop spelt.end list)) (Ok (spelt_at spelt.end (replies.Pool (pool_replies.Put item)))) (omega (arith, along, ends.0))
      (by_looked spelt (Some item) same found) (returned list spelt.end (replies.Pool (pool_replies.Put item)) ends.1)

module _ (workers first : ℕ) (list : List Made) (from at n : ℕ) (less : n < workers) (all : Beginning (Reply ℕ)) (along : from ≤ at)
    (so : all ≡ behind (slice_range list from at) (swept_by_cut first (range_with_len n (workers - n)) (drop at list))) where
  by_sweep : all ≡ behind (slice_range list from at) (by_beginning (λ swept. swept_by_cut first (range_with_len (n + 1) (workers - (n + 1)))) (pool_part_cut (first + n) stage.Sweep (drop at list)))
  by_sweep = so ∙ ap (behind (slice_range list from at)) (next_sweep workers first n less (drop at list))

  pub sweep_stops : (stopped : Stop) → IsFound list at (pool_part_cut (first + n) stage.Sweep (drop at list)) (Err stopped) → IsFound list from all (Err stopped)
  sweep_stops stopped found = ends_there list from at all along (pool_part_cut (first + n) stage.Sweep (drop at list)) (λ swept. swept_by_cut first (range_with_len (n + 1) (workers - (n + 1)))) stopped by_sweep found

  pub sweep_goes_on : (spelt : Spelt PoolOutcome) → IsFound list at (pool_part_cut (first + n) stage.Sweep (drop at list)) (Ok spelt)
      → all ≡ behind (slice_range list from spelt.end) (swept_by_cut first (range_with_len (n + 1) (workers - (n + 1))) (drop spelt.end list))
  sweep_goes_on spelt found = one_more list from at all along (pool_part_cut (first + n) stage.Sweep (drop at list)) (λ swept. swept_by_cut first (range_with_len (n + 1) (workers - (n + 1)))) spelt by_sweep found
