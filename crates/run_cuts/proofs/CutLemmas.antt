-- That each way to put parts together is cut as it is spelt.
use Rattle.std.proofs.Common.{◌≡◌, ◌∙◌, ℕ, Bool, true, false, eqb, cond, List, [], ◌∷◌, ◌++◌, map, length, Option, Some, None, refl, sym, ap, subst, append_assoc, arith}
use Rattle.std.proofs.lemmas.List.{append-nil}
use Rattle.std.specs.Prelude.{Ok, Err}
use Rattle.std.proofs.lemmas.Bool.{eqb-true, eq-eqb, cond-true}
use Rattle.sync_types.specs.declared.misuse.Misuse.{Misuse}
use Rattle.sync_types.specs.declared.misuse.Misuse.TheVariants.{UnlockOfUnlockedMutex}
use Rattle.sync_model.specs.declared.answer.Answer.TheVariants.{Done, Halted}
use Rattle.sync_model.specs.declared.journal.Deed.{Deed}
use Rattle.sync_model.specs.declared.journal.Deed.TheVariants.{Event, Refused, Halt}
use Rattle.sync_model.specs.declared.journal.Entry.{Entry}
use Rattle.protocols.specs.declared.step.Step.{Step}
use Rattle.protocols.specs.declared.step.Step.TheVariants.{Finished, Misused, Waits, Next, Never}
use Rattle.protocols.specs.Spelling.{CallAnswer, Spells, IsEventOf, Rest}
use Rattle.run_record.specs.declared.entered.ObjectEvent.{ObjectEvent}
use Rattle.run_record.specs.declared.entered.ObjectReply.{ObjectReply}
use Rattle.run_record.specs.declared.made.Made.{Made}
use Rattle.run_record.specs.declared.made.Made.TheVariants.{Shared, Entered}
use Rattle.run_record.specs.Parts.{Part, returns, never, GoesOn, and_then, with_outcome, read_as, lifted, lifted_deed, stages}
use Rattle.run_record.specs.Record.{ObjectEntry}
use Rattle.run_cuts.specs.Cuts.{Beginning, whole, within, wrong, Cutter, behind, returns_cut, never_cut, by_answer, by_beginning, then_cut, read_beginning, read_cut, Move, answers_by, goes_to, no_call, move_by, event_move, refusal_move, move, by_move, stages_cut, Cuts}

-- ---- what is found, by parts

one_zero : ◌≡◌ {A = ℕ} 1 0 → ⊥
one_zero e = omega arith

two_zero : ◌≡◌ {A = ℕ} 2 0 → ⊥
two_zero e = omega arith

one_two : ◌≡◌ {A = ℕ} 1 2 → ⊥
one_two e = omega arith

module _ {O : Type 0} where
  abbrev items_in : Beginning O → List Made
  items_in (whole items answer rest) = items
  items_in within = []
  items_in wrong = []

  abbrev rest_in : Beginning O → List Made
  rest_in (whole items answer rest) = rest
  rest_in within = []
  rest_in wrong = []

  abbrev answer_in : CallAnswer O → Beginning O → CallAnswer O
  answer_in other (whole items answer rest) = answer
  answer_in other within = other
  answer_in other wrong = other

  -- two that are found in one way are one
  pub record AreSame (items others : List Made) (answer given : CallAnswer O) (rest more : List Made) : Type 0 where
    pub items_are : items ≡ others
    pub answers_are : answer ≡ given
    pub rests_are : rest ≡ more

  pub same_whole : (items others : List Made) (answer given : CallAnswer O) (rest more : List Made) → whole items answer rest ≡ whole others given more → AreSame items others answer given rest more
  same_whole items others answer given rest more e = record { items_are = ap items_in e; answers_are = ap (answer_in answer) e; rests_are = ap rest_in e }

  abbrev tag : Beginning O → ℕ
  tag (whole items answer rest) = 0
  tag within = 1
  tag wrong = 2

  pub within_whole : (items rest : List Made) (answer : CallAnswer O) → within ≡ whole items answer rest → ⊥
  within_whole items rest answer e = one_zero (ap tag e)

  pub wrong_whole : (items rest : List Made) (answer : CallAnswer O) → wrong ≡ whole items answer rest → ⊥
  wrong_whole items rest answer e = two_zero (ap tag e)

  pub whole_within : (items rest : List Made) (answer : CallAnswer O) → whole items answer rest ≡ within → ⊥
  whole_within items rest answer e = one_zero (sym (ap tag e))

  pub whole_wrong : (items rest : List Made) (answer : CallAnswer O) → whole items answer rest ≡ wrong → ⊥
  whole_wrong items rest answer e = two_zero (sym (ap tag e))

  pub within_wrong : ◌≡◌ {A = Beginning O} within wrong → ⊥
  within_wrong e = one_two (ap tag e)

  pub wrong_within : ◌≡◌ {A = Beginning O} wrong within → ⊥
  wrong_within e = one_two (sym (ap tag e))

  -- what is found behind items
  pub record Behind (before items rest : List Made) (answer : CallAnswer O) (later : Beginning O) : Type 0 where
    pub others : List Made
    pub is : later ≡ whole others answer rest
    pub are : items ≡ before ++ others

  pub behind_whole : (before : List Made) (later : Beginning O) (items rest : List Made) (answer : CallAnswer O) → behind before later ≡ whole items answer rest → Behind before items rest answer later
  behind_whole before (whole others given more) items rest answer e =
      let same = same_whole (before ++ others) items given answer more rest e in
      record { others = others; is = ap (λ (a : CallAnswer O). whole others a more) same.answers_are ∙ ap (λ (r : List Made). whole others answer r) same.rests_are; are = sym same.items_are }
  behind_whole before within items rest answer e = absurd (within_whole items rest answer e)
  behind_whole before wrong items rest answer e = absurd (wrong_whole items rest answer e)

  pub behind_within : (before : List Made) (later : Beginning O) → behind before later ≡ within → later ≡ within
  behind_within before (whole others given more) e = absurd (whole_within (before ++ others) more given e)
  behind_within before within e = refl
  behind_within before wrong e = absurd (wrong_within e)

  pub behind_wrong : (before : List Made) (later : Beginning O) → behind before later ≡ wrong → later ≡ wrong
  behind_wrong before (whole others given more) e = absurd (whole_wrong (before ++ others) more given e)
  behind_wrong before within e = absurd (within_wrong e)
  behind_wrong before wrong e = refl

  -- ---- nothing, and no call

  pub returns_cuts : (outcome : O) → Cuts (returns outcome) (returns_cut outcome)
  returns_cuts outcome = record {
    sound = λ list items rest answer e.
        let same = same_whole [] items (Done (Ok outcome)) answer list rest e in
        (same.rests_are ∙ ap (λ (l : List Made). l ++ rest) same.items_are, (sym same.items_are, sym same.answers_are));
    complete = λ items rest answer (none, is). ap (λ (l : List Made). whole [] (Done (Ok outcome)) (l ++ rest)) none ∙ ap (λ (l : List Made). whole l (Done (Ok outcome)) rest) (sym none) ∙ ap (λ (a : CallAnswer O). whole items a rest) (sym is);
    goes_on = λ list e. absurd (whole_within [] list (Done (Ok outcome)) e);
    stays = λ list later e. absurd (whole_wrong [] list (Done (Ok outcome)) e);
  }

  pub never_cuts : Cuts (never {O = O}) never_cut
  never_cuts = record {
    sound = λ list items rest answer e. absurd (wrong_whole items rest answer e);
    complete = λ items rest answer nothing. absurd nothing;
    goes_on = λ list e. absurd (wrong_within e);
    stays = λ list later e. refl;
  }

  -- ---- a part that is spelt by the same items

  pub alike_cuts : (part other : Part O) (cut : Cutter O) → ((items : List Made) (answer : CallAnswer O) → part items answer → other items answer) → ((items : List Made) (answer : CallAnswer O) → other items answer → part items answer)
      → Cuts part cut → Cuts other cut
  alike_cuts part other cut to from cuts = record {
    sound = λ list items rest answer e. let one = cuts.sound list items rest answer e in (one.0, to items answer one.1);
    complete = λ items rest answer spelt. cuts.complete items rest answer (from items answer spelt);
    goes_on = λ list e. further list (cuts.goes_on list e);
    stays = cuts.stays;
  }
    where
      further : (list : List Made) → (later : List Made) × (answer : CallAnswer O) × part (list ++ later) answer → (later : List Made) × (answer : CallAnswer O) × other (list ++ later) answer
      further list (later, answer, spelt) = (later, answer, to (list ++ later) answer spelt)

-- ---- another outcome

module _ {O P : Type 0} (f : O → P) where
  pub record Read (items rest : List Made) (answer : CallAnswer P) (found : Beginning O) : Type 0 where
    pub given : CallAnswer O
    pub is : found ≡ whole items given rest
    pub read : answer ≡ with_outcome f given

  pub read_whole : (found : Beginning O) (items rest : List Made) (answer : CallAnswer P) → read_beginning f found ≡ whole items answer rest → Read items rest answer found
  read_whole (whole others given more) items rest answer e =
      let same = same_whole others items (with_outcome f given) answer more rest e in
      record { given = given; is = ap (λ (l : List Made). whole l given more) same.items_are ∙ ap (λ (r : List Made). whole items given r) same.rests_are; read = sym same.answers_are }
  read_whole within items rest answer e = absurd (within_whole items rest answer e)
  read_whole wrong items rest answer e = absurd (wrong_whole items rest answer e)

  pub read_within : (found : Beginning O) → read_beginning f found ≡ within → found ≡ within
  read_within (whole others given more) e = absurd (whole_within others more (with_outcome f given) e)
  read_within within e = refl
  read_within wrong e = absurd (wrong_within e)

  pub read_wrong : (found : Beginning O) → read_beginning f found ≡ wrong → found ≡ wrong
  read_wrong (whole others given more) e = absurd (whole_wrong others more (with_outcome f given) e)
  read_wrong within e = absurd (within_wrong e)
  read_wrong wrong e = refl

module _ {O P : Type 0} (f : O → P) (part : Part O) (cut : Cutter O) (cuts : Cuts part cut) where
  pub read_cuts : Cuts (read_as f part) (read_cut f cut)
  read_cuts = record {
    sound = λ list items rest answer e.
        let found = read_whole f (cut list) items rest answer e in
        let spelt = cuts.sound list items rest found.given found.is in
        (spelt.0, (found.given, spelt.1, found.read));
    complete = λ items rest answer (given, spelt, is).
        ap (read_beginning f) (cuts.complete items rest given spelt) ∙ ap (λ (a : CallAnswer P). whole items a rest) (sym is);
    goes_on = λ list e. further list (cuts.goes_on list (read_within f (cut list) e));
    stays = λ list later e. ap (read_beginning f) (cuts.stays list later (read_wrong f (cut list) e));
  }
    where
      further : (list : List Made) → (later : List Made) × (answer : CallAnswer O) × part (list ++ later) answer → (later : List Made) × (answer : CallAnswer P) × read_as f part (list ++ later) answer
      further list (later, answer, spelt) = (later, with_outcome f answer, (answer, spelt, refl))

-- ---- one part and then the next

module _ {O P : Type 0} (first : Part O) (next : O → Part P) (cut : Cutter O) (cut_next : O → Cutter P) (cuts : Cuts first cut) (cuts_next : (outcome : O) → Cuts (next outcome) (cut_next outcome)) where
  -- a first part that is begun ends in a misuse or a halt, or whatever it comes to, the next can be ended
  abbrev pub CanEnd : Part P → Type 0
  CanEnd part = (later : List Made) × (answer : CallAnswer P) × part later answer

  ended : (list later : List Made) (given : CallAnswer O) → ((outcome : O) → CanEnd (next outcome)) → first (list ++ later) given → (more : List Made) × (answer : CallAnswer P) × and_then first next (list ++ more) answer
  ended list later (Done (Ok outcome)) can spelt = by (can outcome)
    where
      by : CanEnd (next outcome) → (more : List Made) × (answer : CallAnswer P) × and_then first next (list ++ more) answer
      by (last, answer, ends) = (later ++ last, answer, (list ++ later, last, Done (Ok outcome), sym (append_assoc list later last), spelt, ends))
  ended list later (Done (Err misuse)) can spelt = (later, Done (Err misuse), (list ++ later, [], Done (Err misuse), sym (append-nil (list ++ later)), spelt, (refl, refl)))
  ended list later (Halted misuse) can spelt = (later, Halted misuse, (list ++ later, [], Halted misuse, sym (append-nil (list ++ later)), spelt, (refl, refl)))

  begin_sound : (list : List Made) (found : Beginning O) → cut list ≡ found → (items rest : List Made) (answer : CallAnswer P) → by_beginning cut_next found ≡ whole items answer rest → (list ≡ items ++ rest) × and_then first next items answer
  begin_sound list (whole before (Done (Ok outcome)) more) is items rest answer e =
      let one = cuts.sound list before more (Done (Ok outcome)) is in
      let two = behind_whole before (cut_next outcome more) items rest answer e in
      let then = (cuts_next outcome).sound more two.others rest answer two.is in (
        one.0 ∙ ap (λ (l : List Made). before ++ l) then.0 ∙ sym (append_assoc before two.others rest) ∙ ap (λ (l : List Made). l ++ rest) (sym two.are),
        (before, two.others, Done (Ok outcome), two.are, one.1, then.1),
      )
  begin_sound list (whole before (Done (Err misuse)) more) is items rest answer e =
      let one = cuts.sound list before more (Done (Err misuse)) is in
      let same = same_whole before items (Done (Err misuse)) answer more rest e in (
        one.0 ∙ ap (λ (l : List Made). l ++ more) same.items_are ∙ ap (λ (l : List Made). items ++ l) same.rests_are,
        (before, [], Done (Err misuse), sym same.items_are ∙ sym (append-nil before), one.1, (refl, sym same.answers_are)),
      )
  begin_sound list (whole before (Halted misuse) more) is items rest answer e =
      let one = cuts.sound list before more (Halted misuse) is in
      let same = same_whole before items (Halted misuse) answer more rest e in (
        one.0 ∙ ap (λ (l : List Made). l ++ more) same.items_are ∙ ap (λ (l : List Made). items ++ l) same.rests_are,
        (before, [], Halted misuse, sym same.items_are ∙ sym (append-nil before), one.1, (refl, sym same.answers_are)),
      )
  begin_sound list within is items rest answer e = absurd (within_whole items rest answer e)
  begin_sound list wrong is items rest answer e = absurd (wrong_whole items rest answer e)

  went_on : (given : CallAnswer O) (earlier later rest : List Made) (answer : CallAnswer P) → GoesOn next given later answer → by_answer cut_next earlier given (later ++ rest) ≡ whole (earlier ++ later) answer rest
  went_on (Done (Ok outcome)) earlier later rest answer on = ap (behind earlier) ((cuts_next outcome).complete later rest answer on)
  went_on (Done (Err misuse)) earlier later rest answer (none, is) =
      ap (λ (l : List Made). whole earlier (Done (Err misuse)) (l ++ rest)) none ∙ ap (λ (l : List Made). whole l (Done (Err misuse)) rest) (sym (append-nil earlier) ∙ ap (λ (l : List Made). earlier ++ l) (sym none))
      ∙ ap (λ (a : CallAnswer P). whole (earlier ++ later) a rest) (sym is)
  went_on (Halted misuse) earlier later rest answer (none, is) =
      ap (λ (l : List Made). whole earlier (Halted misuse) (l ++ rest)) none ∙ ap (λ (l : List Made). whole l (Halted misuse) rest) (sym (append-nil earlier) ∙ ap (λ (l : List Made). earlier ++ l) (sym none))
      ∙ ap (λ (a : CallAnswer P). whole (earlier ++ later) a rest) (sym is)

  -- a list that ends within the first part goes on to one that spells both
  abbrev pub Continues : Type 0
  Continues = (list : List Made) → cut list ≡ within → (later : List Made) × (answer : CallAnswer P) × and_then first next (list ++ later) answer

  can_continue : ((outcome : O) → CanEnd (next outcome)) → Continues
  can_continue can list is = by (cuts.goes_on list is)
    where
      by : (later : List Made) × (answer : CallAnswer O) × first (list ++ later) answer → (later : List Made) × (answer : CallAnswer P) × and_then first next (list ++ later) answer
      by (later, given, spelt) = ended list later given can spelt

  pub halt_continues : ((list : List Made) → cut list ≡ within → (later : List Made) × (misuse : Misuse) × first (list ++ later) (Halted misuse)) → Continues
  halt_continues halts list is = by (halts list is)
    where
      by : (later : List Made) × (misuse : Misuse) × first (list ++ later) (Halted misuse) → (later : List Made) × (answer : CallAnswer P) × and_then first next (list ++ later) answer
      by (later, misuse, spelt) = (later, Halted misuse, (list ++ later, [], Halted misuse, sym (append-nil (list ++ later)), spelt, (refl, refl)))

  begin_on : Continues → (list : List Made) (found : Beginning O) → cut list ≡ found → by_beginning cut_next found ≡ within → (later : List Made) × (answer : CallAnswer P) × and_then first next (list ++ later) answer
  begin_on can list (whole before (Done (Ok outcome)) more) is e = by ((cuts_next outcome).goes_on more (behind_within before (cut_next outcome more) e))
    where
      one : (list ≡ before ++ more) × first before (Done (Ok outcome))
      one = cuts.sound list before more (Done (Ok outcome)) is

      by : (later : List Made) × (answer : CallAnswer P) × next outcome (more ++ later) answer → (later : List Made) × (answer : CallAnswer P) × and_then first next (list ++ later) answer
      by (later, answer, spelt) = (later, answer, (before, more ++ later, Done (Ok outcome), ap (λ (l : List Made). l ++ later) one.0 ∙ append_assoc before more later, one.1, spelt))
  begin_on can list (whole before (Done (Err misuse)) more) is e = absurd (whole_within before more (Done (Err misuse)) e)
  begin_on can list (whole before (Halted misuse) more) is e = absurd (whole_within before more (Halted misuse) e)
  begin_on can list within is e = can list is
  begin_on can list wrong is e = absurd (wrong_within e)

  begin_stays : (list later : List Made) (found : Beginning O) → cut list ≡ found → by_beginning cut_next found ≡ wrong → by_beginning cut_next (cut (list ++ later)) ≡ wrong
  begin_stays list later (whole before (Done (Ok outcome)) more) is e =
      let one = cuts.sound list before more (Done (Ok outcome)) is in
      let again : cut (list ++ later) ≡ whole before (Done (Ok outcome)) (more ++ later) =
      ap cut (ap (λ (l : List Made). l ++ later) one.0 ∙ append_assoc before more later) ∙ cuts.complete before (more ++ later) (Done (Ok outcome)) one.1 in
      ap (by_beginning cut_next) again ∙ ap (behind before) ((cuts_next outcome).stays more later (behind_wrong before (cut_next outcome more) e))
  begin_stays list later (whole before (Done (Err misuse)) more) is e = absurd (whole_wrong before more (Done (Err misuse)) e)
  begin_stays list later (whole before (Halted misuse) more) is e = absurd (whole_wrong before more (Halted misuse) e)
  begin_stays list later within is e = absurd (within_wrong e)
  begin_stays list later wrong is e = ap (by_beginning cut_next) (cuts.stays list later is)

  pub then_cuts_by : Continues → Cuts (and_then first next) (then_cut cut cut_next)
  then_cuts_by can = record {
    sound = λ list items rest answer e. begin_sound list (cut list) refl items rest answer e;
    complete = λ items rest answer (earlier, later, given, are, spelt, on).
        ap (λ (l : List Made). by_beginning cut_next (cut l)) (ap (λ (l : List Made). l ++ rest) are ∙ append_assoc earlier later rest)
        ∙ ap (by_beginning cut_next) (cuts.complete earlier (later ++ rest) given spelt) ∙ went_on given earlier later rest answer on ∙ ap (λ (l : List Made). whole l answer rest) (sym are);
    goes_on = λ list e. begin_on can list (cut list) refl e;
    stays = λ list later e. begin_stays list later (cut list) refl e;
  }

  pub then_cuts : ((outcome : O) → CanEnd (next outcome)) → Cuts (and_then first next) (then_cut cut cut_next)
  then_cuts can = then_cuts_by (can_continue can)

-- ---- calls whose deeds are spelt, stage by stage

module _ {G O E R : Type 0} (event : E → ObjectEvent) (reply : R → ObjectReply) (Spelt : G → List (Deed E R) → CallAnswer O → Type 0) where
  -- what a move says of the deed
  abbrev pub IsMoveOf : G → Deed ObjectEvent ObjectReply → Move G O → Type 0
  IsMoveOf stage deed (answers_by answer) = (own : Deed E R) × (deed ≡ lifted_deed event reply own) × Spelt stage (own ∷ []) answer
  IsMoveOf stage deed (goes_to later) = (own : Deed E R) × (deed ≡ lifted_deed event reply own) × ((rest : List (Deed E R)) (answer : CallAnswer O) → Spelt later rest answer → Spelt stage (own ∷ rest) answer)
  IsMoveOf stage deed no_call = Unit {0}

  -- what a deed that begins a call says of the move
  abbrev pub Goes : List (Deed E R) → CallAnswer O → Move G O → Type 0
  Goes rest answer (answers_by given) = (rest ≡ []) × (answer ≡ given)
  Goes rest answer (goes_to later) = Spelt later rest answer
  Goes rest answer no_call = ⊥

  -- the moves tell how calls go on. A call makes a deed, and whatever its stage, a halt may end it
  pub record IsMoves (moves : G → Deed ObjectEvent ObjectReply → Move G O) : Type 0 where
    pub told : (stage : G) (deed : Deed ObjectEvent ObjectReply) → IsMoveOf stage deed (moves stage deed)
    pub tells : (stage : G) (own : Deed E R) (rest : List (Deed E R)) (answer : CallAnswer O) → Spelt stage (own ∷ rest) answer → Goes rest answer (moves stage (lifted_deed event reply own))
    pub some : (stage : G) (answer : CallAnswer O) → Spelt stage [] answer → ⊥
    pub halts : (stage : G) → (own : Deed E R) × Spelt stage (own ∷ []) (Halted UnlockOfUnlockedMutex)

  -- the items are entries of the object's journal, whose deeds are spelt from this stage on
  abbrev pub entries_part : ℕ → G → Part O
  entries_part object stage items answer = (entries : List (Entry E R)) × (items ≡ map (λ entry. Entered object (lifted event reply entry)) entries) × Spelt stage (map (λ entry. entry.deed) entries) answer

  module _ (moves : G → Deed ObjectEvent ObjectReply → Move G O) (are : IsMoves moves) (object : ℕ) where
    abbrev item : Entry E R → Made
    item x = Entered object (lifted event reply x)

    abbrev cut : G → Cutter O
    cut stage = stages_cut moves object stage

    abbrev part : G → Part O
    part stage = entries_part object stage

    abbrev as_own : ObjectEntry → Deed E R → Entry E R
    as_own entry own = record { caller = entry.caller; deed = own; front = entry.front; knew = entry.knew; time = entry.time }

    own_item : (other : ℕ) (entry : ObjectEntry) (own : Deed E R) → other ≡ object → entry.deed ≡ lifted_deed event reply own → Entered other entry ≡ item (as_own entry own)
    own_item other entry own same e =
        ap (λ (n : ℕ). Entered n entry) same ∙ ap (λ (d : Deed ObjectEvent ObjectReply). let x : ObjectEntry = record { caller = entry.caller; deed = d; front = entry.front; knew = entry.knew; time = entry.time } in Entered object x) e

    -- the item is the first of a call
    one_more : (stage later : G) (m : Made) (x : Entry E R) → m ≡ item x → ((rest : List (Deed E R)) (answer : CallAnswer O) → Spelt later rest answer → Spelt stage (x.deed ∷ rest) answer)
        → (items : List Made) (answer : CallAnswer O) → part later items answer → part stage (m ∷ items) answer
    one_more stage later m x is spells items answer (entries, are, spelt) =
        (x ∷ entries, ap (λ (y : Made). y ∷ items) is ∙ ap (λ (l : List Made). item x ∷ l) are, spells (map (λ entry. entry.deed) entries) answer spelt)

    sound_move : (stage : G) (other : ℕ) (entry : ObjectEntry) (list : List Made) → other ≡ object → (moved : Move G O) → IsMoveOf stage entry.deed moved
        → ((later : G) (items rest : List Made) (answer : CallAnswer O) → cut later list ≡ whole items answer rest → (list ≡ items ++ rest) × part later items answer)
        → (items rest : List Made) (answer : CallAnswer O) → by_move moves object (Entered other entry) moved list (λ later. cut later list) ≡ whole items answer rest → (Entered other entry ∷ list ≡ items ++ rest) × part stage items answer
    sound_move stage other entry list same (answers_by given) (own, is, spelt) from items rest answer e =
        let m : Made = Entered other entry in
        let found = same_whole (m ∷ []) items given answer list rest e in (
          ap (λ (l : List Made). m ∷ l) found.rests_are ∙ ap (λ (l : List Made). l ++ rest) found.items_are,
          (as_own entry own ∷ [], sym found.items_are ∙ ap (λ (y : Made). y ∷ []) (own_item other entry own same is), subst (λ (a : CallAnswer O). Spelt stage (own ∷ []) a) found.answers_are spelt),
        )
    sound_move stage other entry list same (goes_to later) (own, is, spells) from items rest answer e =
        let m : Made = Entered other entry in
        let found = behind_whole (m ∷ []) (cut later list) items rest answer e in
        let before = from later found.others rest answer found.is in (
          ap (λ (l : List Made). m ∷ l) before.0 ∙ ap (λ (l : List Made). l ++ rest) (sym found.are),
          subst (λ (l : List Made). part stage l answer) (sym found.are) (one_more stage later m (as_own entry own) (own_item other entry own same is) spells found.others answer before.1),
        )
    sound_move stage other entry list same no_call is from items rest answer e = absurd (wrong_whole items rest answer e)

    sound_of : (list : List Made) (stage : G) (items rest : List Made) (answer : CallAnswer O) → cut stage list ≡ whole items answer rest → (list ≡ items ++ rest) × part stage items answer
    sound_of [] stage items rest answer e = absurd (within_whole items rest answer e)
    sound_of (Shared x ∷ list) stage items rest answer e = absurd (wrong_whole items rest answer e)
    sound_of (Entered other entry ∷ list) stage items rest answer e =
        by (eqb other object) refl e (λ later is rs a. sound_of list later is rs a)
      where
        by : (b : Bool) → eqb other object ≡ b → cond b (by_move moves object (Entered other entry) (moves stage entry.deed) list (λ later. cut later list)) wrong ≡ whole items answer rest
            → ((later : G) (items rest : List Made) (answer : CallAnswer O) → cut later list ≡ whole items answer rest → (list ≡ items ++ rest) × part later items answer)
            → (Entered other entry ∷ list ≡ items ++ rest) × part stage items answer
        by true same e from = sound_move stage other entry list (eqb-true other object same) (moves stage entry.deed) (are.told stage entry.deed) from items rest answer e
        by false same e from = absurd (wrong_whole items rest answer e)

    there : (stage : G) (entry : ObjectEntry) (list : List Made) → cut stage (Entered object entry ∷ list) ≡ by_move moves object (Entered object entry) (moves stage entry.deed) list (λ later. cut later list)
    there stage entry list = by (eqb object object) (eq-eqb object object refl)
      where
        found : Beginning O
        found = by_move moves object (Entered object entry) (moves stage entry.deed) list (λ later. cut later list)

        by : (b : Bool) → b ≡ true → cond b found wrong ≡ found
        by true same = refl
        by false same = absurd cc

    no_deeds : (es : List (Entry E R)) → map (λ (x : Entry E R). x.deed) es ≡ [] → es ≡ []
    no_deeds [] e = refl
    no_deeds (x ∷ es) e = absurd (omega (arith, ap (λ (l : List (Deed E R)). length l) e))

    complete_of : (es : List (Entry E R)) (stage : G) (rest : List Made) (answer : CallAnswer O) → Spelt stage (map (λ x. x.deed) es) answer → cut stage (map item es ++ rest) ≡ whole (map item es) answer rest
    complete_of [] stage rest answer spelt = absurd (are.some stage answer spelt)
    complete_of (x ∷ es) stage rest answer spelt =
        there stage (lifted event reply x) (map item es ++ rest) ∙ by (moves stage (lifted_deed event reply x.deed)) (are.tells stage x.deed (map (λ y. y.deed) es) answer spelt) (λ later s. complete_of es later rest answer s)
      where
        by : (moved : Move G O) → Goes (map (λ y. y.deed) es) answer moved
            → ((later : G) → Spelt later (map (λ y. y.deed) es) answer → cut later (map item es ++ rest) ≡ whole (map item es) answer rest)
            → by_move moves object (item x) moved (map item es ++ rest) (λ later. cut later (map item es ++ rest)) ≡ whole (item x ∷ map item es) answer rest
        by (answers_by given) (left, is) from =
            let gone : es ≡ [] = no_deeds es left in
            ap (λ (l : List (Entry E R)). whole (item x ∷ []) given (map item l ++ rest)) gone ∙ ap (λ (a : CallAnswer O). whole (item x ∷ []) a rest) (sym is)
            ∙ ap (λ (l : List (Entry E R)). whole (item x ∷ map item l) answer rest) (sym gone)
        by (goes_to later) spelt from = ap (behind (item x ∷ [])) (from later spelt)
        by no_call nothing from = absurd nothing

    abbrev refused : G → Entry E R
    refused stage = record { caller = 0; deed = (are.halts stage).0; front = []; knew = 0; time = 0 }

    halts_of : (list : List Made) (stage : G) → cut stage list ≡ within → (later : List Made) × part stage (list ++ later) (Halted UnlockOfUnlockedMutex)
    halts_of [] stage e = (item (refused stage) ∷ [], (refused stage ∷ [], refl, (are.halts stage).1))
    halts_of (Shared x ∷ list) stage e = absurd (wrong_within e)
    halts_of (Entered other entry ∷ list) stage e = by (eqb other object) refl e (λ later f. halts_of list later f)
      where
        goes : (moved : Move G O) → other ≡ object → IsMoveOf stage entry.deed moved → by_move moves object (Entered other entry) moved list (λ later. cut later list) ≡ within
            → ((later : G) → cut later list ≡ within → (more : List Made) × part later (list ++ more) (Halted UnlockOfUnlockedMutex))
            → (more : List Made) × part stage (Entered other entry ∷ (list ++ more)) (Halted UnlockOfUnlockedMutex)
        goes (answers_by given) same is e from = absurd (whole_within (Entered other entry ∷ []) list given e)
        goes (goes_to later) same (own, is, spells) e from = more (from later (behind_within (Entered other entry ∷ []) (cut later list) e))
          where
            more : (more : List Made) × part later (list ++ more) (Halted UnlockOfUnlockedMutex) → (more : List Made) × part stage (Entered other entry ∷ (list ++ more)) (Halted UnlockOfUnlockedMutex)
            more (last, spelt) = (last, one_more stage later (Entered other entry) (as_own entry own) (own_item other entry own same is) spells (list ++ last) (Halted UnlockOfUnlockedMutex) spelt)
        goes no_call same is e from = absurd (wrong_within e)

        by : (b : Bool) → eqb other object ≡ b → cond b (by_move moves object (Entered other entry) (moves stage entry.deed) list (λ later. cut later list)) wrong ≡ within
            → ((later : G) → cut later list ≡ within → (more : List Made) × part later (list ++ more) (Halted UnlockOfUnlockedMutex))
            → (more : List Made) × part stage (Entered other entry ∷ (list ++ more)) (Halted UnlockOfUnlockedMutex)
        by true same e from = goes (moves stage entry.deed) (eqb-true other object same) (are.told stage entry.deed) e from
        by false same e from = absurd (wrong_within e)

    -- a halt may end a call that is begun
    pub deeds_halt : (stage : G) (list : List Made) → cut stage list ≡ within → (later : List Made) × (misuse : Misuse) × part stage (list ++ later) (Halted misuse)
    deeds_halt stage list e = by (halts_of list stage e)
      where
        by : (later : List Made) × part stage (list ++ later) (Halted UnlockOfUnlockedMutex) → (later : List Made) × (misuse : Misuse) × part stage (list ++ later) (Halted misuse)
        by (later, spelt) = (later, UnlockOfUnlockedMutex, spelt)

    on_of : (list : List Made) (stage : G) → cut stage list ≡ within → (later : List Made) × (answer : CallAnswer O) × part stage (list ++ later) answer
    on_of list stage e = by (halts_of list stage e)
      where
        by : (later : List Made) × part stage (list ++ later) (Halted UnlockOfUnlockedMutex) → (later : List Made) × (answer : CallAnswer O) × part stage (list ++ later) answer
        by (later, spelt) = (later, Halted UnlockOfUnlockedMutex, spelt)

    stays_of : (list later : List Made) (stage : G) → cut stage list ≡ wrong → cut stage (list ++ later) ≡ wrong
    stays_of [] later stage e = absurd (within_wrong e)
    stays_of (Shared x ∷ list) later stage e = refl
    stays_of (Entered other entry ∷ list) later stage e = by (eqb other object) e (λ next f. stays_of list later next f)
      where
        goes : (moved : Move G O) → by_move moves object (Entered other entry) moved list (λ next. cut next list) ≡ wrong
            → ((next : G) → cut next list ≡ wrong → cut next (list ++ later) ≡ wrong)
            → by_move moves object (Entered other entry) moved (list ++ later) (λ next. cut next (list ++ later)) ≡ wrong
        goes (answers_by given) e from = absurd (whole_wrong (Entered other entry ∷ []) list given e)
        goes (goes_to next) e from = ap (behind (Entered other entry ∷ [])) (from next (behind_wrong (Entered other entry ∷ []) (cut next list) e))
        goes no_call e from = refl

        by : (b : Bool) → cond b (by_move moves object (Entered other entry) (moves stage entry.deed) list (λ next. cut next list)) wrong ≡ wrong
            → ((next : G) → cut next list ≡ wrong → cut next (list ++ later) ≡ wrong)
            → cond b (by_move moves object (Entered other entry) (moves stage entry.deed) (list ++ later) (λ next. cut next (list ++ later))) wrong ≡ wrong
        by true e from = goes (moves stage entry.deed) e from
        by false e from = refl

    pub deeds_cuts : (stage : G) → Cuts (part stage) (cut stage)
    deeds_cuts stage = record {
      sound = λ list items rest answer e. sound_of list stage items rest answer e;
      complete = λ items rest answer (entries, are, spelt).
          ap (λ (l : List Made). cut stage (l ++ rest)) are ∙ complete_of entries stage rest answer spelt ∙ ap (λ (l : List Made). whole l answer rest) (sym are);
      goes_on = λ list e. on_of list stage e;
      stays = λ list later e. stays_of list later stage e;
    }

-- ---- the calls of a protocol

module _ {G O E R : Type 0} (event : E → ObjectEvent) (reply : R → ObjectReply) (event_of : G → ℕ → E) (meaning : G → R → Step G O) (moves : G → Deed ObjectEvent ObjectReply → Move G O) (are : IsMoves event reply (Spells event_of meaning) moves) (object : ℕ) where
  pub stages_cuts : (stage : G) → Cuts (stages event reply event_of meaning object stage) (stages_cut moves object stage)
  stages_cuts stage = deeds_cuts event reply (Spells event_of meaning) moves are object stage

  pub halts_on : (stage : G) (list : List Made) → stages_cut moves object stage list ≡ within → (later : List Made) × (misuse : Misuse) × stages event reply event_of meaning object stage (list ++ later) (Halted misuse)
  halts_on stage list e = deeds_halt event reply (Spells event_of meaning) moves are object stage list e

-- the moves of a kind whose events and replies are found again

module _ {G O E R : Type 0} (event : E → ObjectEvent) (reply : R → ObjectReply) (event_of : G → ℕ → E) (meaning : G → R → Step G O)
    (event_in : ObjectEvent → Option E) (reply_in : ObjectReply → Option R) (is_event : G → E → Bool)
    (event_back : (e : E) → event_in (event e) ≡ Some e) (reply_back : (r : R) → reply_in (reply r) ≡ Some r)
    (event_only : (o : ObjectEvent) (e : E) → event_in o ≡ Some e → o ≡ event e) (reply_only : (o : ObjectReply) (r : R) → reply_in o ≡ Some r → o ≡ reply r)
    (event_told : (stage : G) (e : E) → is_event stage e ≡ true → IsEventOf event_of stage e) (event_tells : (stage : G) (now : ℕ) → is_event stage (event_of stage now) ≡ true) where
  abbrev moves : G → Deed ObjectEvent ObjectReply → Move G O
  moves = move event_in reply_in is_event meaning

  step_told : (stage : G) (deed : Deed ObjectEvent ObjectReply) (e : E) (r : R) (step : Step G O) → deed ≡ lifted_deed event reply (Event e r) → IsEventOf event_of stage e → meaning stage r ≡ step → IsMoveOf event reply (Spells event_of meaning) stage deed (move_by event_in reply_in is_event meaning step)
  step_told stage deed e r (Finished outcome) is its means = (Event e r, is, (its, subst (λ (s : Step G O). Rest {E = E} {R = R} s [] (λ later. Spells event_of meaning later [] (Done (Ok outcome))) (Done (Ok outcome))) (sym means) (refl, refl)))
  step_told stage deed e r (Misused misuse) is its means = (Event e r, is, (its, subst (λ (s : Step G O). Rest {E = E} {R = R} s [] (λ later. Spells event_of meaning later [] (Done (Err misuse))) (Done (Err misuse))) (sym means) (refl, refl)))
  step_told stage deed e r (Waits later) is its means = (Event e r, is, λ rest answer spelt. (its, subst (λ (s : Step G O). Rest {E = E} {R = R} s rest (λ next. Spells event_of meaning next rest answer) answer) (sym means) spelt))
  step_told stage deed e r (Next later) is its means = (Event e r, is, λ rest answer spelt. (its, subst (λ (s : Step G O). Rest {E = E} {R = R} s rest (λ next. Spells event_of meaning next rest answer) answer) (sym means) spelt))
  step_told stage deed e r Never is its means = tt

  event_move_told : (stage : G) (o : ObjectEvent) (p : ObjectReply) (e : Option E) (r : Option R) → event_in o ≡ e → reply_in p ≡ r → IsMoveOf event reply (Spells event_of meaning) stage (Event o p) (event_move event_in reply_in is_event meaning stage e r)
  event_move_told stage o p (Some e) (Some r) has answers = by (is_event stage e) refl
    where
      same : Event o p ≡ lifted_deed event reply (Event e r)
      same = ap (λ (x : ObjectEvent). Event x p) (event_only o e has) ∙ ap (λ (y : ObjectReply). Event (event e) y) (reply_only p r answers)

      by : (b : Bool) → is_event stage e ≡ b → IsMoveOf event reply (Spells event_of meaning) stage (Event o p) (cond b (move_by event_in reply_in is_event meaning (meaning stage r)) no_call)
      by true its = step_told stage (Event o p) e r (meaning stage r) same (event_told stage e its) refl
      by false its = tt
  event_move_told stage o p (Some e) None has answers = tt
  event_move_told stage o p None r has answers = tt

  refusal_told : (stage : G) (o : ObjectEvent) (misuse : Misuse) (e : Option E) → event_in o ≡ e → IsMoveOf event reply (Spells event_of meaning) stage (Refused o misuse) (refusal_move event_in reply_in is_event meaning stage e misuse)
  refusal_told stage o misuse (Some e) has = by (is_event stage e) refl
    where
      by : (b : Bool) → is_event stage e ≡ b → IsMoveOf event reply (Spells event_of meaning) stage (Refused o misuse) (cond b (answers_by (Halted misuse)) no_call)
      by true its = (Refused e misuse, ap (λ (x : ObjectEvent). Refused x misuse) (event_only o e has), (event_told stage e its, refl, refl))
      by false its = tt
  refusal_told stage o misuse None has = tt

  moves_told : (stage : G) (deed : Deed ObjectEvent ObjectReply) → IsMoveOf event reply (Spells event_of meaning) stage deed (moves stage deed)
  moves_told stage (Event o p) = event_move_told stage o p (event_in o) (reply_in p) refl refl
  moves_told stage (Refused o misuse) = refusal_told stage o misuse (event_in o) refl
  moves_told stage (Halt misuse) = tt

  its_event : (stage : G) (e : E) → IsEventOf event_of stage e → is_event stage e ≡ true
  its_event stage e (now, is) = ap (is_event stage) is ∙ event_tells stage now

  step_goes : (stage : G) (own : Deed E R) (step : Step G O) (rest : List (Deed E R)) (answer : CallAnswer O) → Rest step rest (λ later. Spells event_of meaning later rest answer) answer → Goes event reply (Spells event_of meaning) rest answer (move_by event_in reply_in is_event meaning step)
  step_goes stage own (Finished outcome) rest answer r = r
  step_goes stage own (Misused misuse) rest answer r = r
  step_goes stage own (Waits later) rest answer r = r
  step_goes stage own (Next later) rest answer r = r
  step_goes stage own Never rest answer r = r

  moves_tell : (stage : G) (own : Deed E R) (rest : List (Deed E R)) (answer : CallAnswer O) → Spells event_of meaning stage (own ∷ rest) answer → Goes event reply (Spells event_of meaning) rest answer (moves stage (lifted_deed event reply own))
  moves_tell stage (Event e r) rest answer (its, goes) =
      let moved : event_move event_in reply_in is_event meaning stage (Some e) (Some r) ≡ move_by event_in reply_in is_event meaning (meaning stage r) = cond-true (is_event stage e) (move_by event_in reply_in is_event meaning (meaning stage r)) no_call (its_event stage e its) in
      let found : moves stage (Event (event e) (reply r)) ≡ move_by event_in reply_in is_event meaning (meaning stage r) =
      ap (λ (o : Option E). event_move event_in reply_in is_event meaning stage o (reply_in (reply r))) (event_back e) ∙ ap (λ (o : Option R). event_move event_in reply_in is_event meaning stage (Some e) o) (reply_back r) ∙ moved in
      subst (λ (m : Move G O). Goes event reply (Spells event_of meaning) rest answer m) (sym found) (step_goes stage (Event e r) (meaning stage r) rest answer goes)
  moves_tell stage (Refused e misuse) rest answer (its, left, is) =
      let found : moves stage (Refused (event e) misuse) ≡ answers_by (Halted misuse) =
      ap (λ (o : Option E). refusal_move event_in reply_in is_event meaning stage o misuse) (event_back e) ∙ cond-true (is_event stage e) (answers_by (Halted misuse)) no_call (its_event stage e its) in
      subst (λ (m : Move G O). Goes event reply (Spells event_of meaning) rest answer m) (sym found) (left, is)
  moves_tell stage (Halt misuse) rest answer nothing = absurd nothing

  pub moves_are : IsMoves event reply (Spells event_of meaning) moves
  moves_are = record {
    told = moves_told;
    tells = moves_tell;
    some = λ stage answer spelt. spelt;
    halts = λ stage. (Refused (event_of stage 0) UnlockOfUnlockedMutex, ((0, refl), refl, refl));
  }
