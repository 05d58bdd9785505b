-- That the beginning of a list which spells a part of a call is found in one way.
use Rattle.std.proofs.Common.{◌≡◌, ℕ, suc, List, [], ◌∷◌, ◌++◌, map, length, get_or, refl, sym, ap, ◌∙◌, subst, append_assoc, arith}
use Rattle.std.specs.Prelude.{Ok, Err}
use Rattle.sync_model.specs.declared.answer.Answer.TheVariants.{Done, Halted}
use Rattle.sync_model.specs.declared.item.Item.{Item}
use Rattle.sync_model.specs.declared.item.SharedCall.{SharedCall}
use Rattle.sync_model.specs.declared.item.SharedReply.{SharedReply}
use Rattle.sync_model.specs.declared.journal.Deed.{Deed}
use Rattle.sync_model.specs.declared.journal.Deed.TheVariants.{Event, Refused, Halt}
use Rattle.sync_model.specs.declared.journal.Entry.{Entry}
use Rattle.sync_types.specs.declared.misuse.Misuse.TheVariants.{UnlockOfUnlockedMutex}
use Rattle.protocols.specs.declared.step.Step.{Step}
use Rattle.protocols.specs.declared.step.Step.TheVariants.{Finished, Misused, Waits, Next, Never}
use Rattle.protocols.specs.Spelling.{CallAnswer, Spells, IsFirstDeed, Rest}
use Rattle.run_record.specs.declared.entered.ObjectEvent.{ObjectEvent}
use Rattle.run_record.specs.declared.entered.ObjectReply.{ObjectReply}
use Rattle.run_record.specs.declared.made.Made.{Made}
use Rattle.run_record.specs.declared.made.Made.TheVariants.{Shared, Entered}
use Rattle.run_record.specs.Parts.{Part, returns, never, GoesOn, and_then, with_outcome, read_as, Places, lifted, lifted_deed, stages}
use Rattle.run_laws.specs.OneSpelling.{IsCertain}

-- the last of three lists, by the first two
after_none : {A : Type 0} (items other rest more : List A) → items ≡ [] → other ≡ [] → items ++ rest ≡ other ++ more → rest ≡ more
after_none {A} items other rest more none also same = sym (ap (λ (l : List A). l ++ rest) none) ∙ (same ∙ ap (λ (l : List A). l ++ more) also)

abbrev pub tail_of : {A : Type 0} → List A → List A
tail_of [] = []
tail_of (x ∷ xs) = xs

module _ {O : Type 0} where
  pub returns_certain : (outcome : O) → IsCertain (returns outcome)
  returns_certain outcome items other rest more answer given (none, is) (also, are) same = (none ∙ sym also, after_none items other rest more none also same, is ∙ sym are)

  pub never_certain : IsCertain (never {O = O})
  never_certain items other rest more answer given nothing also same = absurd nothing

module _ {O P : Type 0} where
  pub read_as_certain : (f : O → P) (part : Part O) → IsCertain part → IsCertain (read_as f part)
  read_as_certain f part certain items other rest more answer given (a, spelt, is) (b, also, are) same =
      let one = certain items other rest more a b spelt also same in
      (one.0, one.1, is ∙ (ap (with_outcome f) one.2 ∙ sym are))

  goes_on_certain : (next : O → Part P) → ((outcome : O) → IsCertain (next outcome)) → (came : CallAnswer O) (items other rest more : List Made) (answer given : CallAnswer P)
      → GoesOn next came items answer → GoesOn next came other given → items ++ rest ≡ other ++ more → (items ≡ other) × (rest ≡ more) × (answer ≡ given)
  goes_on_certain next certain (Done (Ok outcome)) items other rest more answer given on also same = certain outcome items other rest more answer given on also same
  goes_on_certain next certain (Done (Err misuse)) items other rest more answer given on also same = (on.0 ∙ sym also.0, after_none items other rest more on.0 also.0 same, on.1 ∙ sym also.1)
  goes_on_certain next certain (Halted misuse) items other rest more answer given on also same = (on.0 ∙ sym also.0, after_none items other rest more on.0 also.0 same, on.1 ∙ sym also.1)

  pub and_then_certain : (first : Part O) (next : O → Part P) → IsCertain first → ((outcome : O) → IsCertain (next outcome)) → IsCertain (and_then first next)
  and_then_certain first next certain nexts items other rest more answer given (earlier, later, came, are, spelt, on) (before, behind, went, also, read, off) same =
      let start : earlier ++ (later ++ rest) ≡ before ++ (behind ++ more) =
      sym (append_assoc earlier later rest) ∙ (ap (λ (l : List Made). l ++ rest) (sym are) ∙ (same ∙ (ap (λ (l : List Made). l ++ more) also ∙ append_assoc before behind more))) in
      let one = certain earlier before (later ++ rest) (behind ++ more) came went spelt read start in
      let two = goes_on_certain next nexts came later behind rest more answer given on (subst (λ (a : CallAnswer O). GoesOn next a behind given) (sym one.2) off) one.1 in
      (are ∙ (ap (λ (l : List Made). l ++ later) one.0 ∙ (ap (λ (l : List Made). before ++ l) two.0 ∙ sym also)), two.1, two.2)

-- one placed call
both_of : Item → SharedCall × SharedReply
both_of x = (x.call, x.reply)

module _ {A B : Type 0} (f : A → B) where
  length_of : (xs : List A) → length (map f xs) ≡ length xs
  length_of [] = refl
  length_of (x ∷ xs) = ap suc (length_of xs)

one_of : {A : Type 0} (xs : List A) → length xs ≡ 1 → (y : A) × (xs ≡ y ∷ [])
one_of [] is = absurd (omega (arith, is))
one_of (y ∷ []) is = (y, refl)
one_of (y ∷ (z ∷ xs)) is = absurd (omega (arith, is))

one_place : (call : SharedCall) (reply : SharedReply) (items : List Made) → (let asked : SharedCall × SharedReply = (call, reply) in Places (asked ∷ []) items) → (x : Item) × (items ≡ Shared x ∷ []) × (x.reply ≡ reply)
one_place call reply items (made, is, are) =
    let both = λ (x : Item). let asked : SharedCall × SharedReply = (x.call, x.reply) in asked in
    let one = one_of made (sym (length_of both made) ∙ ap (λ (l : List (SharedCall × SharedReply)). length l) are) in
    let pair : SharedCall × SharedReply = (call, reply) in
    let same : both one.0 ≡ pair = ap (λ (l : List (SharedCall × SharedReply)). get_or l 0 pair) (ap (λ (l : List Item). map both l) (sym one.1) ∙ are) in
    (one.0, is ∙ ap (λ (l : List Item). map Shared l) one.1, ap (λ (p : SharedCall × SharedReply). p.1) same)

abbrev reply_at : SharedReply → List Made → SharedReply
reply_at none [] = none
reply_at none (Shared x ∷ list) = x.reply
reply_at none (Entered object entry ∷ list) = none

-- two such calls at the head of one list are one, with one reply
pub place_certain : (call : SharedCall) (reply told : SharedReply) (items other rest more : List Made)
    → (let asked : SharedCall × SharedReply = (call, reply) in Places (asked ∷ []) items) → (let asked : SharedCall × SharedReply = (call, told) in Places (asked ∷ []) other)
    → items ++ rest ≡ other ++ more → (items ≡ other) × (rest ≡ more) × (reply ≡ told)
place_certain call reply told items other rest more placed also same =
    let a = one_place call reply items placed in
    let b = one_place call told other also in
    let lists : Shared a.0 ∷ rest ≡ Shared b.0 ∷ more = sym (ap (λ (l : List Made). l ++ rest) a.1) ∙ (same ∙ ap (λ (l : List Made). l ++ more) b.1) in
    let heads : Shared a.0 ≡ Shared b.0 = ap (λ (l : List Made). get_or l 0 (Shared a.0)) lists in
    (a.1 ∙ (ap (λ (m : Made). m ∷ []) heads ∙ sym b.1), ap (λ (l : List Made). tail_of l) lists, sym a.2 ∙ (ap (λ (l : List Made). reply_at reply l) lists ∙ b.2))

abbrev pub deed_in : Made → Deed ObjectEvent ObjectReply
deed_in (Shared x) = Halt UnlockOfUnlockedMutex
deed_in (Entered object entry) = entry.deed

module _ {E R : Type 0} (event : E → ObjectEvent) (reply : R → ObjectReply) (back : Deed ObjectEvent ObjectReply → Deed E R) (is_back : (d : Deed E R) → back (lifted_deed event reply d) ≡ d) (object : ℕ) where
  abbrev pub item : Entry E R → Made
  item x = Entered object (lifted event reply x)

  none_made : (es : List (Entry E R)) → map (λ (e : Entry E R). e.deed) es ≡ [] → map item es ≡ []
  none_made [] none = refl
  none_made (e ∷ es) none = absurd (omega (arith, ap (λ (l : List (Deed E R)). length l) none))

  module _ {G O : Type 0} (event_of : G → ℕ → E) (meaning : G → R → Step G O) where
    -- what is to be shown of two such beginnings
    abbrev pub Same : (es fs : List (Entry E R)) (rest more : List Made) → CallAnswer O → CallAnswer O → Type 0
    Same es fs rest more answer given = (map item es ≡ map item fs) × (rest ≡ more) × (answer ≡ given)

    pub ended : (es fs : List (Entry E R)) (rest more : List Made) (answer given came : CallAnswer O)
        → map (λ (e : Entry E R). e.deed) es ≡ [] → map (λ (e : Entry E R). e.deed) fs ≡ [] → answer ≡ came → given ≡ came → map item es ++ rest ≡ map item fs ++ more → Same es fs rest more answer given
    ended es fs rest more answer given came none also is are same =
        (none_made es none ∙ sym (none_made fs also), after_none (map item es) (map item fs) rest more (none_made es none) (none_made fs also) same, is ∙ sym are)

    rest_certain : (step : Step G O) (es fs : List (Entry E R)) (rest more : List Made) (answer given : CallAnswer O)
        → ((later : G) → Spells event_of meaning later (map (λ e. e.deed) es) answer → Spells event_of meaning later (map (λ e. e.deed) fs) given → Same es fs rest more answer given)
        → Rest step (map (λ e. e.deed) es) (λ later. Spells event_of meaning later (map (λ e. e.deed) es) answer) answer
        → Rest step (map (λ e. e.deed) fs) (λ later. Spells event_of meaning later (map (λ e. e.deed) fs) given) given
        → map item es ++ rest ≡ map item fs ++ more → Same es fs rest more answer given
    rest_certain (Finished outcome) es fs rest more answer given on a b same = ended es fs rest more answer given (Done (Ok outcome)) a.0 b.0 a.1 b.1 same
    rest_certain (Misused misuse) es fs rest more answer given on a b same = ended es fs rest more answer given (Done (Err misuse)) a.0 b.0 a.1 b.1 same
    rest_certain (Waits later) es fs rest more answer given on a b same = on later a b
    rest_certain (Next later) es fs rest more answer given on a b same = on later a b
    rest_certain Never es fs rest more answer given on a b same = absurd a

    first_certain : (stage : G) (deed : Deed E R) (es fs : List (Entry E R)) (rest more : List Made) (answer given : CallAnswer O)
        → ((later : G) → Spells event_of meaning later (map (λ e. e.deed) es) answer → Spells event_of meaning later (map (λ e. e.deed) fs) given → Same es fs rest more answer given)
        → IsFirstDeed event_of meaning stage deed (map (λ e. e.deed) es) (λ later. Spells event_of meaning later (map (λ e. e.deed) es) answer) answer
        → IsFirstDeed event_of meaning stage deed (map (λ e. e.deed) fs) (λ later. Spells event_of meaning later (map (λ e. e.deed) fs) given) given
        → map item es ++ rest ≡ map item fs ++ more → Same es fs rest more answer given
    first_certain stage (Event e r) es fs rest more answer given on a b same = rest_certain (meaning stage r) es fs rest more answer given on a.1 b.1 same
    first_certain stage (Refused e misuse) es fs rest more answer given on a b same = ended es fs rest more answer given (Halted misuse) a.1 b.1 a.2 b.2 same
    first_certain stage (Halt misuse) es fs rest more answer given on a b same = absurd a

    spells_certain : (stage : G) (es fs : List (Entry E R)) (rest more : List Made) (answer given : CallAnswer O)
        → Spells event_of meaning stage (map (λ e. e.deed) es) answer → Spells event_of meaning stage (map (λ e. e.deed) fs) given → map item es ++ rest ≡ map item fs ++ more → Same es fs rest more answer given
    spells_certain stage [] fs rest more answer given a b same = absurd a
    spells_certain stage (e ∷ es) [] rest more answer given a b same = absurd b
    spells_certain stage (e ∷ es) (f ∷ fs) rest more answer given a b same =
        let heads : item e ≡ item f = ap (λ (l : List Made). get_or l 0 (item e)) same in
        let tails : map item es ++ rest ≡ map item fs ++ more = ap (λ (l : List Made). tail_of l) same in
        let deeds : f.deed ≡ e.deed = sym (is_back f.deed) ∙ (ap (λ (m : Made). back (deed_in m)) (sym heads) ∙ is_back e.deed) in
        let later = first_certain stage e.deed es fs rest more answer given (λ next x y. spells_certain next es fs rest more answer given x y tails) a
        (subst (λ (d : Deed E R). IsFirstDeed event_of meaning stage d (map (λ (e : Entry E R). e.deed) fs) (λ next. Spells event_of meaning next (map (λ (e : Entry E R). e.deed) fs) given) given) deeds b) tails in
        (ap (λ (m : Made). m ∷ map item es) heads ∙ ap (λ (l : List Made). item f ∷ l) later.0, later.1, later.2)

    pub stages_certain : (stage : G) → IsCertain (stages event reply event_of meaning object stage)
    stages_certain stage items other rest more answer given (es, are, spelt) (fs, also, read) same =
        let lists : map item es ++ rest ≡ map item fs ++ more = sym (ap (λ (l : List Made). l ++ rest) are) ∙ (same ∙ ap (λ (l : List Made). l ++ more) also) in
        let one = spells_certain stage es fs rest more answer given spelt read lists in
        (are ∙ (one.0 ∙ sym also), one.1, one.2)
