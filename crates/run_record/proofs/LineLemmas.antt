-- The lines of a record: where halts and refusals stand in them.
use Rattle.std.proofs.Common.{◌≡◌, ◌⊎◌, inl, inr, ℕ, zero, suc, ◌+◌, ◌==◌, Bool, true, false, cond, List, [], ◌∷◌, ◌++◌, length, get_or, Some, None, slice_get, refl, sym, ap, ◌∙◌, subst, arith, append_assoc}
use Rattle.std.specs.Prelude.{All, Contains, Ok}
use Rattle.std.specs.List.{flat_map}
use Rattle.std.proofs.lemmas.Bool.{eq-eqb}
use Rattle.std.proofs.lemmas.Option.{none-some, slice_get_within, get_or_from_slice_get, slice_get-get_or}
use Rattle.sync_model.specs.declared.answer.Answer.TheVariants.{Done, Halted}
use Rattle.script_calls.specs.declared.call.Call.{Call}
use Rattle.sync_model.specs.declared.journal.Deed.{Deed}
use Rattle.sync_types.specs.declared.misuse.Misuse.{Misuse}
use Rattle.script_calls.specs.declared.outcome.Outcome.{Outcome}
use Rattle.sync_model.specs.Journal.{halt_of}
use Rattle.workload.specs.Plan.{Plan}
use Rattle.run_record.specs.declared.entered.ObjectEvent.{ObjectEvent}
use Rattle.run_record.specs.declared.entered.ObjectReply.{ObjectReply}
use Rattle.run_record.specs.declared.made.Made.{Made}
use Rattle.run_record.specs.declared.made.Made.TheVariants.{Shared, Entered}
use Rattle.run_record.specs.Explains.{IsRecordOf, AreLines, HasEnded, IsAtEnd}
use Rattle.run_record.specs.Lines.{SpeltCall, never, stopped, waits, LineEnd, whole, misused, halted, unfinished, stayed, Line, items_of, IsHalt, AreHalts, HaltsStop, AreSpelt, EndsBy, OpensBy, IsLineOf}
use Rattle.run_record.specs.Halts.{entered_on}
use Rattle.run_record.specs.Record.{Record, ObjectEntry, stop, journal_of, list_of, shared_in, entries_in}
use Rattle.run_record.proofs.CallLemmas.{AllEndAlike, of_call, of_opening, of_closing}
use Rattle.run_record.proofs.HaltLemmas.{IsHaltBy, misuse_in, halted_has, unhalted_has, refusal_has}
use Rattle.run_record.proofs.Having.{Has, Each, OfEntry, has_either, has_left, has_right, each_both, place_of, has_by, by_has, has_entered, some_object, has_in, get_at}
use Rattle.run_record.proofs.LineParts.{each_first, each_last}
use Rattle.run_record.proofs.ListOrder.{entries_both}
use Rattle.run_record.proofs.PartLemmas.{IsCalmDeed, IsCalm, IsRefusal}

-- the list has a halt by this misuse
abbrev pub HasHalt : Misuse → List Made → Type 0
HasHalt misuse items = Has (OfEntry (IsHaltBy misuse)) items

calm_item : (m : Misuse) (x : Made) → IsCalm x → OfEntry (IsHaltBy m) x → ⊥
calm_item m (Shared x) calm is = is
calm_item m (Entered object entry) calm is = subst (λ (d : Deed ObjectEvent ObjectReply). IsCalmDeed d) is calm

calm_not : (m : Misuse) (items : List Made) → Each IsCalm items → HasHalt m items → ⊥
calm_not m [] calm has = has
calm_not m (x ∷ items) calm (inl is) = calm_item m x calm.0 is
calm_not m (x ∷ items) calm (inr has) = calm_not m items calm.1 has

halts_by : (m k : Misuse) (halts : List Made) → All (IsHalt m) halts → HasHalt k halts → m ≡ k
halts_by m k halts all has = at_item at.1 (subst (IsHalt m) (get_or_from_slice_get halts at.0 at.1 at.1 at.2) (all at.0 at.1 (slice_get_within halts at.0 at.1 at.2))) at.3 where
  at : (i : ℕ) × (x : Made) × (slice_get halts i ≡ Some x) × OfEntry (IsHaltBy k) x
  at = place_of (OfEntry (IsHaltBy k)) halts has

  at_item : (x : Made) → IsHalt m x → OfEntry (IsHaltBy k) x → m ≡ k
  at_item (Shared x) first second = absurd first
  at_item (Entered object entry) first second = ap (misuse_in m) (sym first ∙ second)

-- what stands in a list before its halts
abbrev pub before_halts : Line → List Made
before_halts line = line.first ++ (flat_map (λ spelt. spelt.items) line.spelt ++ line.last)

pub items_cut : (line : Line) → items_of line ≡ before_halts line ++ line.halts
items_cut line =
    let calls = flat_map (λ spelt. spelt.items) line.spelt in
    ap (λ (l : List Made). line.first ++ l) (sym (append_assoc calls line.last line.halts)) ∙ sym (append_assoc line.first (calls ++ line.last) line.halts)

module _ (alike : AllEndAlike) (plan : Plan) (worker : ℕ) where
  spelt_calm : (before : ℕ) (spelt : List SpeltCall) → AreSpelt plan worker before spelt → Each IsCalm (flat_map (λ call. call.items) spelt)
  spelt_calm before [] are = tt
  spelt_calm before (call ∷ spelt) are = each_both IsCalm call.items (flat_map (λ call. call.items) spelt) (of_call alike plan worker before call.call call.items (Done (Ok call.reply)) are.0).0 (spelt_calm (before + length (shared_in call.items)) spelt are.1)

  -- nothing up to the call that wasn't completed is a halt
  pub before_calm : (line : Line) → IsLineOf plan worker line → Each IsCalm (before_halts line)
  before_calm line is =
      let calls = flat_map (λ spelt. spelt.items) line.spelt in
      each_both IsCalm line.first (calls ++ line.last) (each_first IsCalm plan worker (λ items answer opens. (of_opening alike plan worker items answer opens).0) line.ending line.spelt line.first is.opens)
      (each_both IsCalm calls line.last (spelt_calm 0 line.spelt is.calls)
      (each_last IsCalm plan worker (λ items answer closes. (of_closing alike plan worker items answer closes).0) (length (shared_in calls)) line.ending line.rest line.last
      (λ call behind is_next items answer spelt. (of_call alike plan worker (length (shared_in calls)) call items answer spelt).0) is.ends))

  -- a halt behind it is by the misuse in which the list ends
  behind_halt : (m : Misuse) (ending : LineEnd) (halts : List Made) → AreHalts ending halts → HasHalt m halts → ending ≡ misused m
  behind_halt m (misused k) halts all has = ap misused (halts_by k m halts all has)
  behind_halt m whole halts none has = absurd (subst (HasHalt m) none has)
  behind_halt m (halted k) halts none has = absurd (subst (HasHalt m) none has)
  behind_halt m unfinished halts none has = absurd (subst (HasHalt m) none has)
  behind_halt m (stayed stay) halts none has = absurd (subst (HasHalt m) none has)

  -- so is every halt of the list
  line_halt : (m : Misuse) (line : Line) → IsLineOf plan worker line → HasHalt m (items_of line) → line.ending ≡ misused m
  line_halt m line is has = either (has_either (OfEntry (IsHaltBy m)) (before_halts line) line.halts (subst (HasHalt m) (items_cut line) has)) where
    either : HasHalt m (before_halts line) ⊎ HasHalt m line.halts → line.ending ≡ misused m
    either (inl early) = absurd (calm_not m _ (before_calm line is) early)
    either (inr late) = behind_halt m line.ending line.halts is.halts late

  -- an object that is halted behind a misuse has the halt
  halt_on : (m : Misuse) (object : ℕ) (halts : List Made) → All (IsHalt m) halts → Contains (entered_on halts) object → Has (IsHaltBy m) (entries_in object halts)
  halt_on m object [] all on = absurd (omega (arith, on.1))
  halt_on m object (Shared x ∷ halts) all on = absurd (all 0 (Shared x) (omega arith))
  halt_on m object (Entered other entry ∷ halts) all on = by_place (halt_on m object halts later) on where
    later : All (IsHalt m) halts
    later k d within = all (suc k) d (omega (arith, within))

    either : (b : Bool) → Has (IsHaltBy m) (entries_in object halts) → Has (IsHaltBy m) (cond b (entry ∷ entries_in object halts) (entries_in object halts))
    either true has = inr has
    either false has = has

    by_place : (Contains (entered_on halts) object → Has (IsHaltBy m) (entries_in object halts)) → Contains (other ∷ entered_on halts) object → Has (IsHaltBy m) (entries_in object (Entered other entry ∷ halts))
    by_place rest (zero, within, is) = subst (λ (b : Bool). Has (IsHaltBy m) (cond b (entry ∷ entries_in object halts) (entries_in object halts))) (sym (eq-eqb other object is)) (inl (all 0 (Entered other entry) (omega arith)))
    by_place rest (suc k, within, is) = either (other == object) (rest (k, omega (arith, within), is))

  line_halts : (m : Misuse) (object : ℕ) (line : Line) → IsLineOf plan worker line → line.ending ≡ misused m → Contains (entered_on line.halts) object → Has (IsHaltBy m) (entries_in object (items_of line))
  line_halts m object line is ending on =
      subst (λ (es : List ObjectEntry). Has (IsHaltBy m) es) (sym (ap (λ (xs : List Made). entries_in object xs) (items_cut line) ∙ entries_both object (before_halts line) line.halts))
      (has_right (IsHaltBy m) (entries_in object (before_halts line)) (entries_in object line.halts)
      (halt_on m object line.halts (subst (λ (e : LineEnd). AreHalts e line.halts) ending is.halts) on))

  -- a list that ends in a call that was halted has a refusal, and so has that of a worker that met a halt before its script
  last_refusal : (m : Misuse) (before : ℕ) (rest : List Call) (last : List Made) → EndsBy plan worker before (halted m) rest last → Has (OfEntry (IsRefusal m)) last
  last_refusal m before [] last closes = (of_closing alike plan worker last (Halted m) closes).1
  last_refusal m before (call ∷ rest) last spelt = (of_call alike plan worker before call last (Halted m) spelt).1

  line_refusal : (m : Misuse) (line : Line) → IsLineOf plan worker line → line.ending ≡ halted m → Has (OfEntry (IsRefusal m)) (items_of line)
  line_refusal m line is ending =
      let calls = flat_map (λ spelt. spelt.items) line.spelt in
      has_right (OfEntry (IsRefusal m)) line.first (calls ++ (line.last ++ line.halts))
      (has_right (OfEntry (IsRefusal m)) calls (line.last ++ line.halts)
      (has_left (OfEntry (IsRefusal m)) line.last line.halts (last_refusal m (length (shared_in calls)) line.rest line.last (subst (λ (e : LineEnd). EndsBy plan worker (length (shared_in calls)) e line.rest line.last) ending is.ends))))

  first_refusal : (m : Misuse) (line : Line) → IsLineOf plan worker line → line.ending ≡ stayed (stopped m) → Has (OfEntry (IsRefusal m)) (items_of line)
  first_refusal m line is ending =
      let opens = subst (λ (e : LineEnd). OpensBy plan worker e line.spelt line.first) ending is.opens in
      has_left (OfEntry (IsRefusal m)) line.first (flat_map (λ spelt. spelt.items) line.spelt ++ (line.last ++ line.halts)) (of_opening alike plan worker line.first (Halted m) opens.1).1

-- the line of a worker, which ended in this misuse
abbrev pub MetMisuse : List Line → ℕ → Misuse → Type 0
MetMisuse lines worker misuse = (line : Line) × (slice_get lines worker ≡ Some line) × (line.ending ≡ misused misuse)

module _ (alike : AllEndAlike) (plan : Plan) (r : Record) (outcome : Outcome) (lines : List Line) (are : AreLines plan r outcome lines) (lawful : IsRecordOf plan r) where
  -- each worker's list is its line's
  list_at : (worker : ℕ) (line : Line) → slice_get lines worker ≡ Some line → list_of r worker ≡ items_of line
  list_at worker line at = ap (λ (lists : List (List Made)). get_or lists worker []) (sym are.lists) ∙ get_at items_of [] lines worker line at

  -- each halt is by a worker that met this misuse
  pub halt_met : (object n : ℕ) (entry : ObjectEntry) (m : Misuse) → slice_get (journal_of r object) n ≡ Some entry → IsHaltBy m entry → MetMisuse lines entry.caller m
  halt_met object n entry m at is = met (has_in items_of (HasHalt m) [] lines entry.caller (λ none. none) (subst (λ (lists : List (List Made)). HasHalt m (get_or lists entry.caller [])) (sym are.lists) has)) where
    has : HasHalt m (list_of r entry.caller)
    has = has_entered (IsHaltBy m) object (list_of r entry.caller) (subst (λ (es : List ObjectEntry). Has (IsHaltBy m) es) (sym (lawful.once entry.caller object)) (by_has (IsHaltBy m) (journal_of r object) n entry at is))

    met : (line : Line) × (slice_get lines entry.caller ≡ Some line) × HasHalt m (items_of line) → MetMisuse lines entry.caller m
    met (line, at_line, has_it) = (line, at_line, line_halt alike plan entry.caller m line (are.each entry.caller line at_line) has_it)

  -- some worker met it, where an object was halted by it
  met_by : (object : ℕ) (m : Misuse) → Has (IsHaltBy m) (journal_of r object) → (worker : ℕ) × MetMisuse lines worker m
  met_by object m has = let at = place_of (IsHaltBy m) (journal_of r object) has in (at.1.caller, halt_met object at.0 at.1 m at.2 at.3)

  -- the first halt of Stop is by a misuse that a worker met
  pub stop_met : (m : Misuse) → halt_of (journal_of r stop) ≡ Some m → (worker : ℕ) × MetMisuse lines worker m
  stop_met m is = met_by stop m (no_start (halted_has m None (journal_of r stop) is)) where
    no_start : (None ≡ Some m) ⊎ Has (IsHaltBy m) (journal_of r stop) → Has (IsHaltBy m) (journal_of r stop)
    no_start (inl none) = absurd (none-some m none)
    no_start (inr has) = has

  -- a worker that met a halt came behind one that met a misuse
  refused_met : (worker : ℕ) (line : Line) (m : Misuse) → slice_get lines worker ≡ Some line → Has (OfEntry (IsRefusal m)) (items_of line) → (other : ℕ) × MetMisuse lines other m
  refused_met worker line m at in_line =
      let has = subst (λ (xs : List Made). Has (OfEntry (IsRefusal m)) xs) (sym (list_at worker line at)) in_line in
      let some = some_object (IsRefusal m) (list_of r worker) has in
      let refused = has_by (IsRefusal m) worker (journal_of r some.0) (subst (λ (es : List ObjectEntry). Has (IsRefusal m) es) (lawful.once worker some.0) some.1) in
      met_by some.0 m (refusal_has plan r lawful m some.0 refused)

  module _ (halts_stop : (worker : ℕ) (line : Line) → slice_get lines worker ≡ Some line → HaltsStop line) (none : halt_of (journal_of r stop) ≡ None) where
    -- nobody met a misuse, where Stop isn't halted
    unmet : (worker : ℕ) (m : Misuse) → MetMisuse lines worker m → ⊥
    unmet worker m (line, at, ending) =
        let listed = line_halts alike plan worker m stop line (are.each worker line at) ending (halts_stop worker line at m ending) in
        unhalted_has m None (journal_of r stop) none (has_by (IsHaltBy m) worker (journal_of r stop)
        (subst (λ (es : List ObjectEntry). Has (IsHaltBy m) es) (ap (λ (xs : List Made). entries_in stop xs) (sym (list_at worker line at)) ∙ lawful.once worker stop) listed))

    at_end : (worker : ℕ) (line : Line) (ending : LineEnd) → slice_get lines worker ≡ Some line → line.ending ≡ ending → HasEnded ending → IsAtEnd ending
    at_end worker line whole at is ended = tt
    at_end worker line (misused m) at is ended = absurd (unmet worker m (line, at, is))
    at_end worker line (halted m) at is ended = let met = refused_met worker line m at (line_refusal alike plan worker m line (are.each worker line at) is) in absurd (unmet met.0 m met.1)
    at_end worker line unfinished at is ended = absurd ended
    at_end worker line (stayed never) at is ended = tt
    at_end worker line (stayed (stopped m)) at is ended = let met = refused_met worker line m at (first_refusal alike plan worker m line (are.each worker line at) is) in absurd (unmet met.0 m met.1)
    at_end worker line (stayed waits) at is ended = absurd ended

    pub all_at_end : All (λ line. HasEnded line.ending) lines → All (λ line. IsAtEnd line.ending) lines
    all_at_end ended k d within = let at = slice_get-get_or lines k d within in at_end k (get_or lines k d) (get_or lines k d).ending at refl (ended k d within)
