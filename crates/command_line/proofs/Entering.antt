-- Where the command finds no fault with words, they name a subcommand, and it has its argument.
use Rattle.std.proofs.Common.{◌≡◌, ◌∙◌, ap, refl, sym, subst, true, false, Bool, List, [], ◌∷◌, ◌++◌, codes, Option, Some, None, cond, is_some, option_map, append_assoc, append-nil}
use Rattle.std.specs.Prelude.{fold}
use Rattle.std.specs.Str.{bytes_eq}
use Rattle.std.proofs.lemmas.Slice.Eq.{bytes_eq-Decides}
use Rattle.clap.specs.Lexer.{long_of}
use Rattle.clap.specs.Kinds.{or_else}
use Rattle.clap.specs.Words.{Kinds, Row, Shape, Text, built, fault_of, first_of}
use Rattle.clap.specs.Simple.{entered, names_of}
use Rattle.clap.specs.Walk.{Held, Names, Step, Walk, after_step, finished, idle, long_or_other, nothing_held, rows_after, subcommand_met, subcommand_or_other, trailing, walk, walk_from, walked}
use Rattle.clap.specs.Faults.{check_fault, entered_fault, flag_word_fault, level_fault, other_fault, step_fault, turn_fault, walk_fault}
use Rattle.clap.specs.declared.error.kind.ErrorKind.TheVariants as kinds
use Rattle.clap.proofs.OnLiterals.{clap_on_literals}
use Rattle.command_line.specs.declared.definition.Subcommand.{Subcommand}
use Rattle.command_line.specs.declared.definition.Subcommand.TheVariants.{Step as ByStep, Run, Make, Race, Check, Trace}
use Rattle.command_line.specs.Command.{argument, argument_in, gosync_command, matched}
use Rattle.command_line.proofs.ParseAnswers.{matched_by}
use Rattle.command_line.proofs.Refusals.{HasHelp, dashes, first_none, has_argument, plain_long, rules, second_none, some_kind}
use Rattle.command_line.proofs.Taken.{leaf}

abbrev top : Shape
top = (built gosync_command).top

abbrev names : Names
names = names_of (built gosync_command)

abbrev stopped : Text → List Text → Walk
stopped name words = record { held = nothing_held; waiting = idle; position = 1; is_trailing = false; stopped = Some (name, words) }

-- behind a subcommand's name the words are its own
stays : (name : Text) (done rest : List Text) → fold (walked top.rules names) (stopped name done) rest ≡ stopped name (done ++ rest)
unfolding walked
stays name done [] = ap (stopped name) (sym (append-nil done))
stays name done (x ∷ rest) = stays name (done ++ x ∷ []) rest ∙ ap (stopped name) (append_assoc done (x ∷ []) rest)

below_none : (s : Shape) (ns : Names) (h : Held) (words : List Text) (has : Bool) (below : Kinds) → level_fault s ns h words has below ≡ [] → below ≡ []
below_none s ns h words has below e = first_none below _ (second_none (walk_fault s ns (walk_from h) words) _ e)

walk_none : (s : Shape) (ns : Names) (h : Held) (words : List Text) (has : Bool) (below : Kinds) → level_fault s ns h words has below ≡ [] → walk_fault s ns (walk_from h) words ≡ []
walk_none s ns h words has below e = first_none (walk_fault s ns (walk_from h) words) _ e

abbrev stop : List Text → Option (Text × List Text)
stop words = (walk top.rules names nothing_held words).stopped

module _ (name : Text) (by : Subcommand) (enters : (more : List Text) → walk top.rules names nothing_held (name ∷ more) ≡ stopped name more)
    (faults : (more : List Text) → entered_fault (built gosync_command) (Some (name, more)) ≡ level_fault (leaf name) [] nothing_held more false [])
    (rows : (more : List Text) → entered (built gosync_command) (Some (name, more)) ≡ Some (name, rows_after (rules name) [] more))
    (named : (found : List Row) → argument_in (Some (name, found)) ≡ option_map (λ (text : Text). (by, text)) (first_of argument found)) where
  found : (program : Text) (more : List Text) → fault_of gosync_command (program ∷ name ∷ more) ≡ [] → (text : Text) × (matched (program ∷ name ∷ more) ≡ Some (by, text))
  found program more e =
      let below = below_none top names nothing_held (name ∷ more) (is_some (entered (built gosync_command) (stop (name ∷ more)))) (entered_fault (built gosync_command) (stop (name ∷ more))) e in
      let inside = sym (faults more) ∙ subst (λ (w : Walk). entered_fault (built gosync_command) w.stopped ≡ []) (enters more) below in
      let has = has_argument name more inside in (
        has.0,
        matched_by (program ∷ name ∷ more) [] e
            ∙ ap (λ (w : Walk). argument_in (entered (built gosync_command) w.stopped)) (enters more)
            ∙ ap argument_in (rows more) ∙ named (rows_after (rules name) [] more) ∙ ap (option_map (λ (text : Text). (by, text))) has.1,
      )

enters_step : (more : List Text) → walk top.rules names nothing_held (codes "step" ∷ more) ≡ stopped (codes "step") more
unfolding walked
enters_step more = stays (codes "step") [] more

pub found_step : (program : Text) (more : List Text) → fault_of gosync_command (program ∷ codes "step" ∷ more) ≡ [] → (text : Text) × (matched (program ∷ codes "step" ∷ more) ≡ Some (ByStep, text))
found_step = found (codes "step") ByStep enters_step (λ more. refl) (λ more. refl) (λ rows. refl)

enters_run : (more : List Text) → walk top.rules names nothing_held (codes "run" ∷ more) ≡ stopped (codes "run") more
unfolding walked
enters_run more = stays (codes "run") [] more

pub found_run : (program : Text) (more : List Text) → fault_of gosync_command (program ∷ codes "run" ∷ more) ≡ [] → (text : Text) × (matched (program ∷ codes "run" ∷ more) ≡ Some (Run, text))
found_run = found (codes "run") Run enters_run (λ more. refl) (λ more. refl) (λ rows. refl)

enters_make : (more : List Text) → walk top.rules names nothing_held (codes "make" ∷ more) ≡ stopped (codes "make") more
unfolding walked
enters_make more = stays (codes "make") [] more

pub found_make : (program : Text) (more : List Text) → fault_of gosync_command (program ∷ codes "make" ∷ more) ≡ [] → (text : Text) × (matched (program ∷ codes "make" ∷ more) ≡ Some (Make, text))
found_make = found (codes "make") Make enters_make (λ more. refl) (λ more. refl) (λ rows. refl)

enters_race : (more : List Text) → walk top.rules names nothing_held (codes "race" ∷ more) ≡ stopped (codes "race") more
unfolding walked
enters_race more = stays (codes "race") [] more

pub found_race : (program : Text) (more : List Text) → fault_of gosync_command (program ∷ codes "race" ∷ more) ≡ [] → (text : Text) × (matched (program ∷ codes "race" ∷ more) ≡ Some (Race, text))
found_race = found (codes "race") Race enters_race (λ more. refl) (λ more. refl) (λ rows. refl)

enters_check : (more : List Text) → walk top.rules names nothing_held (codes "check" ∷ more) ≡ stopped (codes "check") more
unfolding walked
enters_check more = stays (codes "check") [] more

pub found_check : (program : Text) (more : List Text) → fault_of gosync_command (program ∷ codes "check" ∷ more) ≡ [] → (text : Text) × (matched (program ∷ codes "check" ∷ more) ≡ Some (Check, text))
found_check = found (codes "check") Check enters_check (λ more. refl) (λ more. refl) (λ rows. refl)

enters_trace : (more : List Text) → walk top.rules names nothing_held (codes "trace" ∷ more) ≡ stopped (codes "trace") more
unfolding walked
enters_trace more = stays (codes "trace") [] more

pub found_trace : (program : Text) (more : List Text) → fault_of gosync_command (program ∷ codes "trace" ∷ more) ≡ [] → (text : Text) × (matched (program ∷ codes "trace" ∷ more) ≡ Some (Trace, text))
found_trace = found (codes "trace") Trace enters_trace (λ more. refl) (λ more. refl) (λ rows. refl)

-- ---- words that name no subcommand

helped : (program : Text) (more : List Text) → fault_of gosync_command (program ∷ codes "help" ∷ more) ≡ [] → ⊥
unfolding walk_fault
helped program more e =
    let words = codes "help" ∷ more in
    some_kind kinds.DisplayHelp (kinds.InvalidSubcommand ∷ []) (first_none (turn_fault top names (walk_from nothing_held) (codes "help")) (walk_fault top names (walked top.rules names (walk_from nothing_held) (codes "help")) more)
    (walk_none top names nothing_held words (is_some (entered (built gosync_command) (stop words))) (entered_fault (built gosync_command) (stop words)) e))

top_help : HasHelp top.rules
top_help = record { long = λ word. refl; short = λ x. refl }

abbrev met_named : Text → Option Text → Held × Step
met_named x named = subcommand_or_other top.rules named idle 1 x nothing_held

abbrev fault_named : Text → Option Text → Kinds
fault_named x named = or_else (other_fault top named x nothing_held) (step_fault top 1 (met_named x named).0 (met_named x named).1)

abbrev met_plain : Text → Bool → Held × Step
met_plain x d = cond d (nothing_held, trailing 1) (long_or_other top.rules idle x (long_of x) nothing_held)

abbrev fault_plain : Text → Bool → Kinds
fault_plain x d = or_else (cond d [] (flag_word_fault top.rules false (long_of x) x nothing_held)) (step_fault top 1 (met_plain x d).0 (met_plain x d).1)

-- a word that looks like no flag is no argument of the command itself
stray : (x : Text) → fault_plain x false ≡ [] → ⊥
stray x e =
    let words = flag_word_fault top.rules false (long_of x) x nothing_held in
    let steps = step_fault top 1 (met_plain x false).0 (met_plain x false).1 in
    let is = plain_long top.rules top_help x None (long_of x) (first_none words steps e) in
    some_kind kinds.UnknownArgument (kinds.InvalidSubcommand ∷ []) (subst (λ (m : Held × Step). step_fault top 1 m.0 m.1 ≡ []) is (second_none words steps e))

-- behind a first `--`
abbrev behind : Walk
behind = record { held = nothing_held; waiting = idle; position = 1; is_trailing = true; stopped = None }

last_none : (s : Shape) (ns : Names) (h : Held) (words : List Text) (has : Bool) (below : Kinds) → level_fault s ns h words has below ≡ [] → check_fault s (finished s.rules (walk s.rules ns h words).held) has ≡ []
last_none s ns h words has below e =
    second_none _ (check_fault s (finished s.rules (walk s.rules ns h words).held) has) (second_none _ _ (second_none below _ (second_none (walk_fault s ns (walk_from h) words) _ e)))

alone_behind : check_fault top (finished top.rules behind.held) (is_some (entered (built gosync_command) behind.stopped)) ≡ [] → ⊥
unfolding clap_on_literals
alone_behind e = some_kind kinds.MissingSubcommand [] e

module _ (program x : Text) (unnamed : subcommand_met names idle x ≡ None) where
  abbrev first_walk : Walk
  first_walk = walked top.rules names (walk_from nothing_held) x

  first_turn : (more : List Text) → fault_of gosync_command (program ∷ x ∷ more) ≡ [] → walk_fault top names (walk_from nothing_held) (x ∷ more) ≡ []
  first_turn more e = walk_none top names nothing_held (x ∷ more) (is_some (entered (built gosync_command) (stop (x ∷ more)))) (entered_fault (built gosync_command) (stop (x ∷ more))) e

  is_behind : bytes_eq x dashes ≡ true → first_walk ≡ behind
  unfolding walked
  is_behind is =
      ap (λ (named : Option Text). after_step top.rules x (walk_from nothing_held) (met_named x named).0 (met_named x named).1) unnamed
      ∙ ap (λ (d : Bool). after_step top.rules x (walk_from nothing_held) (met_plain x d).0 (met_plain x d).1) is

  more_behind : bytes_eq x dashes ≡ true → (more : List Text) → fault_of gosync_command (program ∷ x ∷ more) ≡ [] → ⊥
  unfolding walk_fault
  more_behind is [] e =
      let last = last_none top names nothing_held (x ∷ []) (is_some (entered (built gosync_command) (stop (x ∷ [])))) (entered_fault (built gosync_command) (stop (x ∷ []))) e in
      alone_behind (subst (λ (w : Walk). check_fault top (finished top.rules w.held) (is_some (entered (built gosync_command) w.stopped)) ≡ []) (is_behind is) last)
  more_behind is (y ∷ more) e =
      let next = second_none (turn_fault top names (walk_from nothing_held) x) (walk_fault top names first_walk (y ∷ more)) (first_turn (y ∷ more) e) in
      let turn = first_none (turn_fault top names first_walk y) (walk_fault top names (walked top.rules names first_walk y) more) next in
      some_kind kinds.UnknownArgument (kinds.InvalidSubcommand ∷ []) (subst (λ (w : Walk). turn_fault top names w y ≡ []) (is_behind is) turn)

  by_dashes : (more : List Text) (d : Bool) → bytes_eq x dashes ≡ d → fault_of gosync_command (program ∷ x ∷ more) ≡ [] → ⊥
  unfolding walk_fault
  by_dashes more true is e = more_behind is more e
  by_dashes more false is e =
      let turn = first_none (turn_fault top names (walk_from nothing_held) x) (walk_fault top names first_walk more) (first_turn more e) in
      let named = subst (λ (n : Option Text). fault_named x n ≡ []) unnamed turn in
      stray x (subst (λ (d : Bool). fault_plain x d ≡ []) is named)

  nameless : (more : List Text) → fault_of gosync_command (program ∷ x ∷ more) ≡ [] → ⊥
  nameless more e = by_dashes more (bytes_eq x dashes) refl e

-- ---- all words

too_few : (words : List Text) → fault_of gosync_command (words) ≡ [] → (kinds.MissingSubcommand ∷ [] ≡ fault_of gosync_command words) → ⊥
too_few words e is = some_kind kinds.MissingSubcommand [] (is ∙ e)

empty_fault : kinds.MissingSubcommand ∷ [] ≡ fault_of gosync_command []
unfolding clap_on_literals
empty_fault = refl

alone_fault : (program : Text) → kinds.MissingSubcommand ∷ [] ≡ fault_of gosync_command (program ∷ [])
unfolding clap_on_literals
alone_fault program = refl

none_some : (o : Option (Subcommand × Text)) (p : Subcommand × Text) → o ≡ None → o ≡ Some p → ⊥
none_some o p none some = cc

module _ (program x : Text) (more : List Text) (none : matched (program ∷ x ∷ more) ≡ None) (faultless : fault_of gosync_command (program ∷ x ∷ more) ≡ []) where
  at_name : (name : Text) (by : Subcommand) → name ≡ x → (fault_of gosync_command (program ∷ name ∷ more) ≡ [] → (text : Text) × (matched (program ∷ name ∷ more) ≡ Some (by, text))) → ⊥
  at_name name by is finds =
      let has = finds (subst (λ (w : Text). fault_of gosync_command (program ∷ w ∷ more) ≡ []) (sym is) faultless) in
      none_some (matched (program ∷ name ∷ more)) (by, has.0) (subst (λ (w : Text). matched (program ∷ w ∷ more) ≡ None) (sym is) none) has.1

  by_names : (s r m a k t h : Bool) → bytes_eq (codes "step") x ≡ s → bytes_eq (codes "run") x ≡ r → bytes_eq (codes "make") x ≡ m → bytes_eq (codes "race") x ≡ a → bytes_eq (codes "check") x ≡ k → bytes_eq (codes "trace") x ≡ t → bytes_eq (codes "help") x ≡ h → ⊥
  by_names true r m a k t h is ir im ia ik it ih = at_name (codes "step") ByStep ((bytes_eq-Decides (codes "step") x).0 is) (found_step program more)
  by_names false true m a k t h is ir im ia ik it ih = at_name (codes "run") Run ((bytes_eq-Decides (codes "run") x).0 ir) (found_run program more)
  by_names false false true a k t h is ir im ia ik it ih = at_name (codes "make") Make ((bytes_eq-Decides (codes "make") x).0 im) (found_make program more)
  by_names false false false true k t h is ir im ia ik it ih = at_name (codes "race") Race ((bytes_eq-Decides (codes "race") x).0 ia) (found_race program more)
  by_names false false false false true t h is ir im ia ik it ih = at_name (codes "check") Check ((bytes_eq-Decides (codes "check") x).0 ik) (found_check program more)
  by_names false false false false false true h is ir im ia ik it ih = at_name (codes "trace") Trace ((bytes_eq-Decides (codes "trace") x).0 it) (found_trace program more)
  by_names false false false false false false true is ir im ia ik it ih =
      helped program more (subst (λ (w : Text). fault_of gosync_command (program ∷ w ∷ more) ≡ []) (sym ((bytes_eq-Decides (codes "help") x).0 ih)) faultless)
  by_names false false false false false false false is ir im ia ik it ih = nameless program x (rw (is, ir, im, ia, ik, it, ih) refl) more faultless

-- where nothing is matched, the command finds a fault
pub refused_alone : (words : List Text) → matched words ≡ None → fault_of gosync_command words ≡ [] → ⊥
refused_alone [] none e = too_few [] e empty_fault
refused_alone (program ∷ []) none e = too_few (program ∷ []) e (alone_fault program)
refused_alone (program ∷ x ∷ more) none e =
    by_names program x more none e (bytes_eq (codes "step") x) (bytes_eq (codes "run") x) (bytes_eq (codes "make") x) (bytes_eq (codes "race") x) (bytes_eq (codes "check") x) (bytes_eq (codes "trace") x) (bytes_eq (codes "help") x) refl refl refl refl refl refl refl
