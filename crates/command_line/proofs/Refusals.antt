-- Where the command finds no fault with words, they have a subcommand and its argument.
use Rattle.std.proofs.Common.{◌≡◌, ◌⊎◌, inl, inr, ◌∙◌, ap, refl, sym, subst, true, false, ◌||◌, ℕ, Bool, List, [], ◌∷◌, codes, Option, Some, None, cond}
use Rattle.std.specs.Prelude.{fold, ◌==◌, slice_get, length, drop, encode_utf8}
use Rattle.std.specs.Option.{option_map_or}
use Rattle.std.specs.Str.{bytes_eq, chars}
use Rattle.clap.specs.Lexer.{long_of, short_of}
use Rattle.clap.specs.Kinds.{or_else}
use Rattle.clap.specs.Words.{Kinds, Row, Rule, Text, first_of}
use Rattle.clap.specs.Walk.{Held, Step, Walk, after_flag, after_step, bundle_met, bundle_step, finished, idle, long_or_other, nothing_held, plain, reacted, rows_after, short_or_plain, trailing, value, walk, walk_from, walked, arg_by_long, arg_by_short}
use Rattle.clap.specs.Simple.{filled, help_rule}
use Rattle.clap.specs.Faults.{bundle_fault, bundle_step_fault, flag_word_fault, flags_fault, level_fault, long_fault, react_fault, settle_fault, short_fault, step_fault, turn_fault, walk_fault}
use Rattle.clap.specs.declared.error.kind.ErrorKind.{ErrorKind}
use Rattle.clap.specs.declared.error.kind.ErrorKind.TheVariants as kinds
use Rattle.clap.specs.declared.error.kind.ErrorKind.TheVariants.{MissingRequiredArgument as missing}
use Rattle.clap.proofs.OnLiterals.{clap_on_literals}
use Rattle.command_line.specs.Command.{argument}
use Rattle.command_line.proofs.Taken.{leaf, level_end}

-- ---- kinds of faults

pub first_none : (a b : Kinds) → or_else a b ≡ [] → a ≡ []
first_none [] b e = refl
first_none (k ∷ ks) b e = absurd cc

pub second_none : (a b : Kinds) → or_else a b ≡ [] → b ≡ []
second_none [] b e = e
second_none (k ∷ ks) b e = absurd cc

pub some_kind : (k : ErrorKind) (ks : Kinds) → k ∷ ks ≡ [] → ⊥
some_kind k ks e = cc

-- ---- flags of a subcommand: there is `help` alone, and it is a fault

abbrev pub rules : Text → List Rule
rules name = (leaf name).rules

no_react : (c : List Rule) (h : Held) → react_fault c false (filled help_rule) [] h ≡ [] → ⊥
no_react c h e = some_kind kinds.DisplayHelp [] (second_none (settle_fault c false h) (kinds.DisplayHelp ∷ []) e)

-- the flags of these arguments are those of `help`
pub record HasHelp (c : List Rule) : Type 0 where
  pub long : (word : Text) → arg_by_long c word ≡ cond (bytes_eq (codes "help") word || false) (Some (filled help_rule)) None
  pub short : (x : ℕ) → arg_by_short c x ≡ cond ((104 == x) || false) (Some (filled help_rule)) None

pub leaf_help : (name : Text) → HasHelp (rules name)
leaf_help name = record { long = λ word. refl; short = λ x. refl }

no_long : (c : List Rule) (help : HasHelp c) (word : Text) (v : Option Text) (h : Held) → long_fault c false (arg_by_long c word) v h ≡ [] → ⊥
no_long c help word v h e = by (bytes_eq (codes "help") word) v (subst (λ (found : Option Rule). long_fault c false found v h ≡ []) (help.long word) e)
  where
    by : (b : Bool) (v : Option Text) → long_fault c false (cond (b || false) (Some (filled help_rule)) None) v h ≡ [] → ⊥
    by true None e = no_react c h e
    by true (Some text) e = some_kind kinds.TooManyValues [] e
    by false v e = some_kind kinds.UnknownArgument [] e

no_short : (c : List Rule) (help : HasHelp c) (x : ℕ) (rest : Text) (h : Held) (next : Held → Kinds) → short_fault c false (arg_by_short c x) rest h next ≡ [] → ⊥
no_short c help x rest h next e = by (104 == x) (subst (λ (found : Option Rule). short_fault c false found rest h next ≡ []) (help.short x) e)
  where
    by : (b : Bool) → short_fault c false (cond (b || false) (Some (filled help_rule)) None) rest h next ≡ [] → ⊥
    by true e = no_react c h (first_none (react_fault c false (filled help_rule) [] h) (next (reacted c (filled help_rule) [] h)) e)
    by false e = some_kind kinds.UnknownArgument [] e

-- ---- the words of a subcommand

abbrev pub holding : Option (Text × List Text) → Held
holding pending = record { rows = []; pending = pending; skip = 0 }

-- a bundle without a fault has no first character, and comes to nothing
bundle_plain : (c : List Rule) (help : HasHelp c) (k : ℕ) (flags : Text) (h : Held) (first : Option ℕ) → bundle_step_fault c false first flags 0 h (flags_fault c false k) ≡ []
    → first ≡ None
bundle_plain c help k flags h None e = refl
bundle_plain c help k flags h (Some x) e = absurd (no_short c help x (drop (length (encode_utf8 x)) flags) h (flags_fault c false k (drop (length (encode_utf8 x)) flags) 0) e)

-- without a fault a word that is no `--` is a value
plain_short : (c : List Rule) (help : HasHelp c) (x : Text) (pending : Option (Text × List Text)) (short : Option Text) → option_map_or (λ flags. bundle_fault c false flags (holding pending)) short [] ≡ []
    → short_or_plain c idle x short (holding pending) ≡ (holding pending, value)
unfolding bundle_met flags_fault
plain_short c help x pending None e = refl
plain_short c help x pending (Some []) e = refl
plain_short c help x pending (Some (y ∷ ys)) e =
    let step = λ (first : Option ℕ). bundle_step c first (y ∷ ys) 0 plain (holding pending) (bundle_met c (length ys)) in
    ap (λ (first : Option ℕ). after_flag c idle x (step first).0 (step first).1) (bundle_plain c help (length ys) (y ∷ ys) (holding pending) (slice_get (chars (y ∷ ys)) 0) e)

pub plain_long : (c : List Rule) (help : HasHelp c) (x : Text) (pending : Option (Text × List Text)) (long : Option (Text × Option Text)) → flag_word_fault c false long x (holding pending) ≡ []
    → long_or_other c idle x long (holding pending) ≡ (holding pending, value)
plain_long c help x pending (Some p) e = absurd (no_long c help p.0 p.1 (holding pending) e)
plain_long c help x pending None e = plain_short c help x pending (short_of x) e

abbrev standing : Option (Text × List Text) → ℕ → Bool → Walk
standing pending position is_behind = record { held = holding pending; waiting = idle; position = position; is_trailing = is_behind; stopped = None }

abbrev pub dashes : Text
dashes = 45 ∷ 45 ∷ []

-- what a word is met as, by whether it is `--`
abbrev met : Text → Text → Option (Text × List Text) → ℕ → Bool → Held × Step
met name x pending position d = cond d (holding pending, trailing position) (long_or_other (rules name) idle x (long_of x) (holding pending))

abbrev fault : Text → Text → Option (Text × List Text) → ℕ → Bool → Kinds
fault name x pending position d = or_else (cond d [] (flag_word_fault (rules name) false (long_of x) x (holding pending))) (step_fault (leaf name) position (met name x pending position d).0 (met name x pending position d).1)

value_met : (name x : Text) (pending : Option (Text × List Text)) (position : ℕ) → fault name x pending position false ≡ []
    → (met name x pending position false ≡ (holding pending, value)) × (step_fault (leaf name) position (holding pending) value ≡ [])
value_met name x pending position e =
    let is = plain_long (rules name) (leaf_help name) x pending (long_of x) (first_none (flag_word_fault (rules name) false (long_of x) x (holding pending)) (step_fault (leaf name) position (met name x pending position false).0 (met name x pending position false).1) e) in
    (is, subst (λ (m : Held × Step). step_fault (leaf name) position m.0 m.1 ≡ []) is (second_none (flag_word_fault (rules name) false (long_of x) x (holding pending)) (step_fault (leaf name) position (met name x pending position false).0 (met name x pending position false).1) e))

abbrev nothing : Option (Text × List Text)
nothing = None

abbrev one : Text → Option (Text × List Text)
one v = Some (argument, v ∷ [])

-- the walk over a subcommand's words has the argument, or not yet
abbrev Reaches : Walk → Type 0
Reaches w = ((t : Bool) × (w ≡ standing nothing 1 t)) ⊎ ((t : Bool) × (v : Text) × (w ≡ standing (one v) 2 t))

-- a word behind the argument
more_given : (name v x : Text) (d : Bool) → fault name x (one v) 2 d ≡ [] → (t : Bool) × (after_step (rules name) x (standing (one v) 2 false) (met name x (one v) 2 d).0 (met name x (one v) 2 d).1 ≡ standing (one v) 2 t)
more_given name v x true e = (true, refl)
more_given name v x false e = absurd (some_kind kinds.UnknownArgument [] (value_met name x (one v) 2 e).1)

more_start : (name x : Text) (d : Bool) → fault name x nothing 1 d ≡ [] → Reaches (after_step (rules name) x (standing nothing 1 false) (met name x nothing 1 d).0 (met name x nothing 1 d).1)
more_start name x true e = inl (true, refl)
more_start name x false e = inr (false, x, ap (λ (m : Held × Step). after_step (rules name) x (standing nothing 1 false) m.0 m.1) (value_met name x nothing 1 e).0)

step_given : (name v x : Text) (t : Bool) → turn_fault (leaf name) [] (standing (one v) 2 t) x ≡ [] → (u : Bool) × (walked (rules name) [] (standing (one v) 2 t) x ≡ standing (one v) 2 u)
unfolding walked
step_given name v x true e = absurd (some_kind kinds.UnknownArgument [] e)
step_given name v x false e = more_given name v x (bytes_eq x dashes) e

step_start : (name x : Text) (t : Bool) → turn_fault (leaf name) [] (standing nothing 1 t) x ≡ [] → Reaches (walked (rules name) [] (standing nothing 1 t) x)
unfolding walked
step_start name x true e = inr (true, x, refl)
step_start name x false e = more_start name x (bytes_eq x dashes) e

module _ (name : Text) where
  walk_given : (v : Text) (rest : List Text) (t : Bool) → walk_fault (leaf name) [] (standing (one v) 2 t) rest ≡ [] → (u : Bool) × (fold (walked (rules name) []) (standing (one v) 2 t) rest ≡ standing (one v) 2 u)
  unfolding walk_fault
  walk_given v [] t e = (t, refl)
  walk_given v (x ∷ rest) t e =
      let turn = turn_fault (leaf name) [] (standing (one v) 2 t) x in
      let after = walked (rules name) [] (standing (one v) 2 t) x in
      let left = walk_fault (leaf name) [] after rest in
      let step = step_given name v x t (first_none turn left e) in
      let more = walk_given v rest step.0 (subst (λ (w : Walk). walk_fault (leaf name) [] w rest ≡ []) step.1 (second_none turn left e)) in
      (more.0, ap (λ (w : Walk). fold (walked (rules name) []) w rest) step.1 ∙ more.1)

  walk_on : (rest : List Text) (w : Walk) → Reaches w → walk_fault (leaf name) [] w rest ≡ [] → Reaches (fold (walked (rules name) []) w rest)
  unfolding walk_fault
  walk_on [] w here e = here
  walk_on (x ∷ rest) w (inl here) e =
      let turn = turn_fault (leaf name) [] w x in
      let left = walk_fault (leaf name) [] (walked (rules name) [] w x) rest in
      let step = step_start name x here.0 (subst (λ (y : Walk). turn_fault (leaf name) [] y x ≡ []) here.1 (first_none turn left e)) in
      walk_on rest (walked (rules name) [] w x) (subst (λ (y : Walk). Reaches (walked (rules name) [] y x)) (sym here.1) step) (second_none turn left e)
  walk_on (x ∷ rest) w (inr here) e =
      let more = walk_given here.1 (x ∷ rest) here.0 (subst (λ (y : Walk). walk_fault (leaf name) [] y (x ∷ rest) ≡ []) here.2 e) in
      inr (more.0, here.1, ap (λ (y : Walk). fold (walked (rules name) []) y (x ∷ rest)) here.2 ∙ more.1)

  -- the argument that a subcommand has
  abbrev Has : List Row → Type 0
  Has rows = (text : Text) × (first_of argument rows ≡ Some text)

  end_given : (t : Bool) (v : Text) → Has (finished (rules name) (standing (one v) 2 t).held)
  unfolding clap_on_literals
  end_given t v = (v, refl)

  end_start : (kinds : Kinds) (t : Bool) → level_end (leaf name) kinds (standing nothing 1 t) ≡ [] → ⊥
  unfolding clap_on_literals
  end_start kinds t e = some_kind missing [] (second_none kinds (missing ∷ []) e)

  ended : (rest : List Text) (kinds : Kinds) → Reaches (walk (rules name) [] nothing_held rest) → level_end (leaf name) kinds (walk (rules name) [] nothing_held rest) ≡ [] → Has (rows_after (rules name) [] rest)
  ended rest kinds (inl here) e = absurd (end_start kinds here.0 (subst (λ (w : Walk). level_end (leaf name) kinds w ≡ []) here.1 e))
  ended rest kinds (inr here) e = subst (λ (w : Walk). Has (finished (rules name) w.held)) (sym here.2) (end_given here.0 here.1)

  -- a subcommand that finds no fault with its words has its argument
  pub has_argument : (rest : List Text) → level_fault (leaf name) [] nothing_held rest false [] ≡ [] → Has (rows_after (rules name) [] rest)
  has_argument rest e =
      let words = walk_fault (leaf name) [] (walk_from nothing_held) rest in
      ended rest words (walk_on rest (walk_from nothing_held) (inl (false, refl)) (level_first words (walk (rules name) [] nothing_held rest) e)) e
    where
      level_first : (kinds : Kinds) (w : Walk) → level_end (leaf name) kinds w ≡ [] → kinds ≡ []
      level_first kinds w e = first_none kinds _ e
