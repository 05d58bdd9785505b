-- What is kept of some acts has their cursors.
use Rattle.std.proofs.Common.{◌≡◌, ℕ, zero, suc, ◌==◌, Bool, true, false, cond, List, [], ◌∷◌, ◌++◌, map, length, fold, Some, slice_get, inl, inr, refl, sym, ap, ◌∙◌, subst, append-nil, append_assoc}
use Rattle.std.specs.List.{AllByRecursion}
use Rattle.std.proofs.lemmas.Bool.{eq-eqb}
use Rattle.std.proofs.lemmas.Bool.Decides.{eqb_tells}
use Rattle.std.proofs.lemmas.Option.{none-some, same_Some}
use Rattle.sync_model.specs.declared.item.Item.{Item as Call}
use Rattle.sync_model.specs.declared.item.SharedCall.{SharedCall}
use Rattle.sync_model.specs.declared.item.SharedCall.TheVariants as calls
use Rattle.sync_model.specs.declared.item.SharedEntry.{SharedEntry}
use Rattle.sync_model.specs.declared.item.SharedReply.{SharedReply}
use Rattle.sync_model.specs.SharedHistory.{Contents, entry_of}
use Rattle.workload.specs.Plan.{Plan}
use Rattle.run_record.specs.declared.made.Made.{Made}
use Rattle.run_record.specs.declared.made.Made.TheVariants.{Shared, Entered}
use Rattle.run_record.specs.Record.{shared_in, ObjectEntry}
use Rattle.kept_record.specs.Acts.{bare_made, bare}
use Rattle.kept_record.specs.Keeping.{Act, Account, made_by, placed, entered, with_made, with_act}
use Rattle.step_runner.specs.Recorded.{made_shared}
use Rattle.scheduled_record.specs.RunActs.{acts_by}
use Rattle.scheduled_record.proofs.Cursors.{Cursors, AreNew, grown, ArePlaced}
use Rattle.scheduled_record.proofs.Lists.{made-append, shared-append}

-- a worker's calls so far
abbrev pub calls_kept : Account → ℕ → List Call
calls_kept kept c = shared_in (made_by c kept.acts)

abbrev pub HasCursors : Contents → Account → Type 0
HasCursors start kept = Cursors start kept.history (calls_kept kept)

-- ---- a call more

abbrev PlainCall : SharedCall → Type 0
PlainCall (calls.Map m call) = Unit {0}
PlainCall (calls.Begin m) = ⊥
PlainCall (calls.Next b) = ⊥
PlainCall (calls.Atomic a call) = Unit {0}

-- no call of a cursor
abbrev pub Plain : Made → Type 0
Plain (Shared x) = PlainCall x.call
Plain (Entered object entry) = Unit {0}

abbrev pub ArePlain : List Act → Type 0
ArePlain acts = AllByRecursion (λ act. Plain act.made) acts

abbrev of_worker : (w c : ℕ) → Call → List Call
of_worker w c x = cond (w == c) (x ∷ []) []

called : (acts : List Act) (w c : ℕ) (x : Call) → shared_in (made_by c (acts ++ record { worker = w; made = Shared x } ∷ [])) ≡ shared_in (made_by c acts) ++ of_worker w c x
called acts w c x = ap shared_in (made-append c acts (record { worker = w; made = Shared x } ∷ [])) ∙ (shared-append (made_by c acts) (made_by c (record { worker = w; made = Shared x } ∷ []))
    ∙ ap (λ (l : List Call). shared_in (made_by c acts) ++ l) (one (w == c)))
  where
    one : (b : Bool) → shared_in (cond b (Shared x ∷ []) []) ≡ cond b (x ∷ []) []
    one true = refl
    one false = refl

noted : (acts : List Act) (w c object : ℕ) (entry : ObjectEntry) → shared_in (made_by c (acts ++ record { worker = w; made = Entered object entry } ∷ [])) ≡ shared_in (made_by c acts) ++ []
noted acts w c object entry = ap shared_in (made-append c acts (record { worker = w; made = Entered object entry } ∷ [])) ∙ (shared-append (made_by c acts) (made_by c (record { worker = w; made = Entered object entry } ∷ []))
    ∙ ap (λ (l : List Call). shared_in (made_by c acts) ++ l) (one (w == c)))
  where
    one : (b : Bool) → shared_in (cond b (Entered object entry ∷ []) []) ≡ []
    one true = refl
    one false = refl

no_next : (call : SharedCall) (b : ℕ) → PlainCall call → call ≡ calls.Next b → ⊥
no_next call b plain is = subst PlainCall is plain

no_begin : (call : SharedCall) (m : ℕ) → PlainCall call → call ≡ calls.Begin m → ⊥
no_begin call m plain is = subst PlainCall is plain

module _ (start : Contents) where
  nothing_new : (history : List SharedEntry) (list : List Call) → AreNew start history list []
  nothing_new history list = record { steps = λ k b y at is. absurd (none-some y at); begins = λ k m y at is. absurd (none-some y at) }

  one_new : (history : List SharedEntry) (list : List Call) (x : Call) → PlainCall x.call → AreNew start history list (x ∷ [])
  one_new history list x plain = record { steps = λ k b y at is. absurd (not_step k b y at is); begins = λ k m y at is. absurd (not_begun k m y at is) } where
    not_step : (k b : ℕ) (y : Call) → slice_get (x ∷ []) k ≡ Some y → y.call ≡ calls.Next b → ⊥
    not_step zero b y at is = no_next x.call b plain (ap (λ (z : Call). z.call) (same_Some x y at) ∙ is)
    not_step (suc k) b y at is = absurd (none-some y at)

    not_begun : (k m : ℕ) (y : Call) → slice_get (x ∷ []) k ≡ Some y → y.call ≡ calls.Begin m → ⊥
    not_begun zero m y at is = no_begin x.call m plain (ap (λ (z : Call). z.call) (same_Some x y at) ∙ is)
    not_begun (suc k) m y at is = absurd (none-some y at)

  maybe_new : (history : List SharedEntry) (list : List Call) (x : Call) (b : Bool) → PlainCall x.call → AreNew start history list (cond b (x ∷ []) [])
  maybe_new history list x true plain = one_new history list x plain
  maybe_new history list x false plain = nothing_new history list

  act_keeps : (kept : Account) (w : ℕ) (made : Made) → Plain made → HasCursors start kept → HasCursors start (with_made w made kept)
  act_keeps kept w (Entered object entry) plain has = subst (λ (h : List SharedEntry). Cursors start h new) (append-nil kept.history)
      (grown start kept.history [] (calls_kept kept) new has (λ c. ([], noted kept.acts w c object (entered w object entry kept), nothing_new (kept.history ++ []) (calls_kept kept c))))
    where
      new : ℕ → List Call
      new = calls_kept (with_made w (Entered object entry) kept)
  act_keeps kept w (Shared x) plain has = chosen (placed w x kept).entry where
    new : ℕ → List Call
    new = calls_kept (with_made w (Shared x) kept)

    by : (more : List SharedEntry) → Cursors start (kept.history ++ more) new
    by more = grown start kept.history more (calls_kept kept) new has (λ c. (of_worker w c (placed w x kept), called kept.acts w c (placed w x kept), maybe_new (kept.history ++ more) (calls_kept kept c) (placed w x kept) (w == c) plain))

    chosen : (b : Bool) → Cursors start (cond b (kept.history ++ entry_of w (placed w x kept) ∷ []) kept.history) new
    chosen true = by (entry_of w (placed w x kept) ∷ [])
    chosen false = subst (λ (h : List SharedEntry). Cursors start h new) (append-nil kept.history) (by [])

  pub plain_keep : (kept : Account) (acts : List Act) → ArePlain acts → HasCursors start kept → HasCursors start (fold with_act kept acts)
  plain_keep kept [] plain has = has
  plain_keep kept (act ∷ acts) plain has = plain_keep (with_act kept act) acts plain.1 (act_keeps kept act.worker act.made plain.0 has)

-- ---- a cursor more

abbrev StepCall : SharedCall → Type 0
StepCall (calls.Map m call) = ⊥
StepCall (calls.Begin m) = Unit {0}
StepCall (calls.Next b) = Unit {0}
StepCall (calls.Atomic a call) = ⊥

abbrev pub AreSteps : List (SharedCall × SharedReply) → Type 0
AreSteps pairs = AllByRecursion (λ (pair : SharedCall × SharedReply). StepCall pair.0) pairs

module _ (plan : Plan) (w : ℕ) where
  -- the steps stand at one place, since none of them is an entry
  pub record Adds (kept next : Account) (pairs : List (SharedCall × SharedReply)) : Type 0 where
    pub history : next.history ≡ kept.history
    pub added : List Call
    pub are : ArePlaced (length kept.history) pairs added
    pub lists : (c : ℕ) → calls_kept next c ≡ calls_kept kept c ++ cond (w == c) added []

  abbrev step_act : SharedCall × SharedReply → Act
  step_act pair = record { worker = w; made = made_shared plan pair }

  step_still : (kept : Account) (call : SharedCall) (reply : SharedReply) → StepCall call → (with_act kept (step_act (call, reply))).history ≡ kept.history
  step_still kept (calls.Begin m) reply step = refl
  step_still kept (calls.Next b) reply step = refl
  step_still kept (calls.Map m call) reply step = absurd step
  step_still kept (calls.Atomic a call) reply step = absurd step

  step_more : (kept : Account) (pair : SharedCall × SharedReply) (pairs : List (SharedCall × SharedReply)) (next : Account) → StepCall pair.0 → Adds (with_act kept (step_act pair)) next pairs → Adds kept next (pair ∷ pairs)
  step_more kept pair pairs next step rest = record {
    history = rest.history ∙ still;
    added = x ∷ rest.added;
    are = ((refl, refl, refl), subst (λ (h : List SharedEntry). ArePlaced (length h) pairs rest.added) still rest.are);
    lists = λ c. rest.lists c ∙ (ap (λ (l : List Call). l ++ cond (w == c) rest.added []) (called kept.acts w c x)
        ∙ (append_assoc (calls_kept kept c) (of_worker w c x) (cond (w == c) rest.added []) ∙ ap (λ (l : List Call). calls_kept kept c ++ l) (joins (w == c))));
  } where
    x : Call
    x = placed w (record { call = pair.0; reply = pair.1; place = 0; entry = false; front = [] }) kept

    still : (with_act kept (step_act pair)).history ≡ kept.history
    still = step_still kept pair.0 pair.1 step

    joins : (b : Bool) → cond b (x ∷ []) [] ++ cond b rest.added [] ≡ cond b (x ∷ rest.added) []
    joins true = refl
    joins false = refl

  pub steps_add : (kept : Account) (pairs : List (SharedCall × SharedReply)) → AreSteps pairs → Adds kept (fold with_act kept (acts_by w (map (made_shared plan) pairs))) pairs
  steps_add kept [] steps = record { history = refl; added = []; are = tt; lists = λ c. sym (append-nil (calls_kept kept c)) ∙ ap (λ (l : List Call). calls_kept kept c ++ l) (none (w == c)) } where
    none : (b : Bool) → ◌≡◌ {A = List Call} [] (cond b [] [])
    none true = refl
    none false = refl
  steps_add kept (pair ∷ pairs) steps = step_more kept pair pairs (fold with_act (with_act kept (step_act pair)) (acts_by w (map (made_shared plan) pairs))) steps.0 (steps_add (with_act kept (step_act pair)) pairs steps.1)

  module _ (start : Contents) (kept : Account) (pairs : List (SharedCall × SharedReply)) (next : Account) (adds : Adds kept next pairs) where
    pub cursor_keeps : AreNew start kept.history (calls_kept kept w) adds.added → HasCursors start kept → HasCursors start next
    cursor_keeps new has = subst (λ (h : List SharedEntry). Cursors start h (calls_kept next)) (append-nil kept.history ∙ sym adds.history)
        (grown start kept.history [] (calls_kept kept) (calls_kept next) has (λ c. (cond (w == c) adds.added [], adds.lists c, subst (λ (h : List SharedEntry). AreNew start h (calls_kept kept c) (cond (w == c) adds.added [])) (sym (append-nil kept.history)) (by_worker c))))
      where
        by_worker : (c : ℕ) → AreNew start kept.history (calls_kept kept c) (cond (w == c) adds.added [])
        by_worker c = elim (eqb_tells w c) [
          | inl same ↦ subst (λ (v : ℕ). AreNew start kept.history (calls_kept kept v) (cond (w == v) adds.added [])) same.1 (subst (λ (b : Bool). AreNew start kept.history (calls_kept kept w) (cond b adds.added [])) (sym (eq-eqb w w refl)) new)
          | inr apart ↦ subst (λ (b : Bool). AreNew start kept.history (calls_kept kept c) (cond b adds.added [])) (sym apart.0) (nothing_new start kept.history (calls_kept kept c))
        ]

-- ---- as many calls as were made

count_one : (v w : ℕ) (m n : Made) → bare_made v m ≡ bare_made w n → (xs ys : List Made) → length (shared_in xs) ≡ length (shared_in ys) → length (shared_in (m ∷ xs)) ≡ length (shared_in (n ∷ ys))
count_one v w (Shared x) (Shared y) same xs ys rest = ap suc rest
count_one v w (Entered object entry) (Entered other later) same xs ys rest = rest
count_one v w (Shared x) (Entered other later) same xs ys rest = absurd cc
count_one v w (Entered object entry) (Shared y) same xs ys rest = absurd cc

pub same_count : (c : ℕ) (acts kept : List Act) → map bare acts ≡ map bare kept → length (shared_in (made_by c acts)) ≡ length (shared_in (made_by c kept))
same_count c [] [] same = refl
same_count c [] (act ∷ kept) same = absurd cc
same_count c (act ∷ acts) [] same = absurd cc
same_count c (act ∷ acts) (other ∷ kept) same = let tail : map bare acts ≡ map bare kept = cc in one_more (same_count c acts kept tail) where
  head : bare act ≡ bare other
  head = cc

  worker : act.worker ≡ other.worker
  worker = ap (λ (a : Act). a.worker) head

  made : bare_made act.worker act.made ≡ bare_made other.worker other.made
  made = ap (λ (a : Act). a.made) head

  by : length (shared_in (made_by c acts)) ≡ length (shared_in (made_by c kept)) → (b : Bool) → length (shared_in (cond b (act.made ∷ made_by c acts) (made_by c acts))) ≡ length (shared_in (cond b (other.made ∷ made_by c kept) (made_by c kept)))
  by rest true = count_one act.worker other.worker act.made other.made made (made_by c acts) (made_by c kept) rest
  by rest false = rest

  one_more : length (shared_in (made_by c acts)) ≡ length (shared_in (made_by c kept)) → length (shared_in (made_by c (act ∷ acts))) ≡ length (shared_in (made_by c (other ∷ kept)))
  one_more rest = by rest (act.worker == c) ∙ ap (λ (v : ℕ). length (shared_in (cond (v == c) (other.made ∷ made_by c kept) (made_by c kept)))) worker
