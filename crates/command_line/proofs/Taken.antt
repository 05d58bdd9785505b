-- Lists of words that are taken.
use Rattle.std.proofs.Common.{◌≡◌, ◌∙◌, ap, ap₂, refl, sym, subst, option_map, arith, true, false, ℕ, suc, Bool, List, [], ◌∷◌, codes, Option, Some, None, cond}
use Rattle.std.specs.Prelude.{◌==◌, ◌||◌, not, length}
use Rattle.std.specs.Str.{bytes_eq}
use Rattle.std.proofs.lemmas.Slice.Eq.{bytes_eq-Decides}
use Rattle.std.proofs.lemmas.Bool.{eqb-true}
use Rattle.clap.specs.Lexer.{long_of, short_of}
use Rattle.clap.specs.Kinds.{or_else}
use Rattle.clap.specs.Words.{Kinds, Row, Rule, Shape, Text, fault_of, subcommand_of}
use Rattle.clap.specs.Simple.{built_leaf, inherited, marked_built, with_leaf_noted}
use Rattle.clap.specs.Walk.{Held, Step, Walk, after_step, finished, idle, nothing_held, rows_after, settled, value, walk, walk_from, walked, word_met}
use Rattle.clap.specs.Faults.{check_fault, defaults_fault, level_fault, settle_fault, step_fault, walk_fault, word_fault}
use Rattle.clap.proofs.OnLiterals.{clap_on_literals}
use Rattle.command_line.specs.declared.definition.Subcommand.{Subcommand}
use Rattle.command_line.specs.declared.definition.Subcommand.TheVariants.{Step as ByStep, Run, Make, Race, Check, Trace}
use Rattle.command_line.specs.Command.{argument_in, gosync_command, is_argument, matched, subcommand_named, unless_faulty, with_argument}

-- a subcommand as it is built
abbrev pub leaf : Text → Shape
leaf name = built_leaf (inherited (with_leaf_noted (marked_built gosync_command.top)) (with_argument name))

-- the word looks like no flag
pub record IsPlain (word : Text) : Type 0 where
  pub dashes : bytes_eq word (45 ∷ 45 ∷ []) ≡ false
  pub long : long_of word ≡ None
  pub short : short_of word ≡ None

met_plain : (rules : List Rule) (word : Text) (h : Held) → IsPlain word → word_met rules [] false idle 1 word h ≡ (h, value)
met_plain rules word h p = rw (p.dashes, p.long, p.short) refl

plain_fault : (s : Shape) (word : Text) (h : Held) → IsPlain word → word_fault s [] false idle word h ≡ []
plain_fault s word h p = rw (p.dashes, p.long, p.short) refl

-- where the walk stands after the argument
abbrev after : Text → Walk
after word = record {
  held = record { rows = []; pending = Some (codes "argument", word ∷ []); skip = 0 };
  waiting = idle;
  position = 2;
  is_trailing = false;
  stopped = None;
}

walked_plain : (name word : Text) → IsPlain word → walk (leaf name).rules [] nothing_held (word ∷ []) ≡ after word
unfolding walked
walked_plain name word p = ap (λ (m : Held × Step). after_step (leaf name).rules word (walk_from nothing_held) m.0 m.1) (met_plain (leaf name).rules word nothing_held p)

walked_faultless : (name word : Text) → IsPlain word → walk_fault (leaf name) [] (walk_from nothing_held) (word ∷ []) ≡ []
unfolding walked walk_fault
walked_faultless name word p =
    let rules = (leaf name).rules in
    ap₂ (λ (k : Kinds) (m : Held × Step). or_else (or_else k (step_fault (leaf name) 1 m.0 m.1)) []) (plain_fault (leaf name) word nothing_held p) (met_plain rules word nothing_held p)

-- the last checks of a level
abbrev pub level_end : Shape → Kinds → Walk → Kinds
level_end s kinds end = or_else kinds (or_else [] (or_else (settle_fault s.rules s.args_override_self end.held)
    (or_else (defaults_fault (settled s.rules end.held).rows s.rules) (check_fault s (finished s.rules end.held) false))))

end_faultless : (name word : Text) → level_end (leaf name) [] (after word) ≡ []
unfolding clap_on_literals
end_faultless name word = refl

level_faultless : (name word : Text) → IsPlain word → level_fault (leaf name) [] nothing_held (word ∷ []) false [] ≡ []
level_faultless name word p = ap₂ (level_end (leaf name)) (walked_faultless name word p) (walked_plain name word p) ∙ end_faultless name word

-- what is found at such a word
rows_plain : (name word : Text) → IsPlain word → rows_after (leaf name).rules [] (word ∷ []) ≡ finished (leaf name).rules (after word).held
rows_plain name word p = ap (λ (w : Walk). finished (leaf name).rules w.held) (walked_plain name word p)

abbrev found_at : Text → List Row → Option (Subcommand × Text)
found_at name rows = argument_in (Some (name, rows))

taken_by : (name program word : Text) (kinds : Kinds) (rows : List Row) → fault_of gosync_command (program ∷ name ∷ word ∷ []) ≡ kinds → kinds ≡ []
    → subcommand_of gosync_command (program ∷ name ∷ word ∷ []) ≡ Some (name, rows) → matched (program ∷ name ∷ word ∷ []) ≡ found_at name rows
unfolding matched
taken_by name program word kinds rows faults none found = ap₂ (λ (k : Kinds) (f : Option (Text × List Row)). unless_faulty k (argument_in f)) (faults ∙ none) found

fault_step : (program word : Text) → fault_of gosync_command (program ∷ codes "step" ∷ word ∷ []) ≡ or_else (level_fault (leaf (codes "step")) [] nothing_held (word ∷ []) false []) []
unfolding clap_on_literals
fault_step program word = refl

found_step : (program word : Text) → subcommand_of gosync_command (program ∷ codes "step" ∷ word ∷ []) ≡ Some (codes "step", rows_after (leaf (codes "step")).rules [] (word ∷ []))
unfolding clap_on_literals
found_step program word = refl

fault_run : (program word : Text) → fault_of gosync_command (program ∷ codes "run" ∷ word ∷ []) ≡ or_else (level_fault (leaf (codes "run")) [] nothing_held (word ∷ []) false []) []
unfolding clap_on_literals
fault_run program word = refl

found_run : (program word : Text) → subcommand_of gosync_command (program ∷ codes "run" ∷ word ∷ []) ≡ Some (codes "run", rows_after (leaf (codes "run")).rules [] (word ∷ []))
unfolding clap_on_literals
found_run program word = refl

fault_make : (program word : Text) → fault_of gosync_command (program ∷ codes "make" ∷ word ∷ []) ≡ or_else (level_fault (leaf (codes "make")) [] nothing_held (word ∷ []) false []) []
unfolding clap_on_literals
fault_make program word = refl

found_make : (program word : Text) → subcommand_of gosync_command (program ∷ codes "make" ∷ word ∷ []) ≡ Some (codes "make", rows_after (leaf (codes "make")).rules [] (word ∷ []))
unfolding clap_on_literals
found_make program word = refl

fault_race : (program word : Text) → fault_of gosync_command (program ∷ codes "race" ∷ word ∷ []) ≡ or_else (level_fault (leaf (codes "race")) [] nothing_held (word ∷ []) false []) []
unfolding clap_on_literals
fault_race program word = refl

found_race : (program word : Text) → subcommand_of gosync_command (program ∷ codes "race" ∷ word ∷ []) ≡ Some (codes "race", rows_after (leaf (codes "race")).rules [] (word ∷ []))
unfolding clap_on_literals
found_race program word = refl

fault_check : (program word : Text) → fault_of gosync_command (program ∷ codes "check" ∷ word ∷ []) ≡ or_else (level_fault (leaf (codes "check")) [] nothing_held (word ∷ []) false []) []
unfolding clap_on_literals
fault_check program word = refl

found_check : (program word : Text) → subcommand_of gosync_command (program ∷ codes "check" ∷ word ∷ []) ≡ Some (codes "check", rows_after (leaf (codes "check")).rules [] (word ∷ []))
unfolding clap_on_literals
found_check program word = refl

fault_trace : (program word : Text) → fault_of gosync_command (program ∷ codes "trace" ∷ word ∷ []) ≡ or_else (level_fault (leaf (codes "trace")) [] nothing_held (word ∷ []) false []) []
unfolding clap_on_literals
fault_trace program word = refl

found_trace : (program word : Text) → subcommand_of gosync_command (program ∷ codes "trace" ∷ word ∷ []) ≡ Some (codes "trace", rows_after (leaf (codes "trace")).rules [] (word ∷ []))
unfolding clap_on_literals
found_trace program word = refl

taken_at : (name program word : Text) → IsPlain word → fault_of gosync_command (program ∷ name ∷ word ∷ []) ≡ or_else (level_fault (leaf name) [] nothing_held (word ∷ []) false []) []
    → subcommand_of gosync_command (program ∷ name ∷ word ∷ []) ≡ Some (name, rows_after (leaf name).rules [] (word ∷ [])) → matched (program ∷ name ∷ word ∷ []) ≡ found_at name (finished (leaf name).rules (after word).held)
taken_at name program word p faults found =
    taken_by name program word _ _ faults (ap (λ (k : Kinds). or_else k []) (level_faultless name word p)) found ∙ ap (found_at name) (rows_plain name word p)

module _ (program name text : Text) (subcommand : Subcommand) (p : IsPlain text) where
  abbrev IsTaken : Type 0
  IsTaken = matched (program ∷ name ∷ text ∷ []) ≡ Some (subcommand, text)

  abbrev taken_as : Text → Subcommand → Type 0
  taken_as word by = matched (program ∷ word ∷ text ∷ []) ≡ Some (by, text)

  at_name : (word : Text) (by : Subcommand) → name ≡ word → Some by ≡ Some subcommand → taken_as word by → IsTaken
  at_name word by is same taken = subst (λ (n : Text). matched (program ∷ n ∷ text ∷ []) ≡ Some (subcommand, text)) (sym is) (taken ∙ ap (option_map (λ (s : Subcommand). (s, text))) same)

  by_trace : (b : Bool) → bytes_eq name (codes "trace") ≡ b → cond b (Some Trace) None ≡ Some subcommand → IsTaken
  by_trace true is named = at_name (codes "trace") Trace ((bytes_eq-Decides name (codes "trace")).0 is) named (taken_at (codes "trace") program text p (fault_trace program text) (found_trace program text))
  by_trace false is named = cc

  by_check : (b : Bool) → bytes_eq name (codes "check") ≡ b → cond b (Some Check) (cond (bytes_eq name (codes "trace")) (Some Trace) None) ≡ Some subcommand → IsTaken
  by_check true is named = at_name (codes "check") Check ((bytes_eq-Decides name (codes "check")).0 is) named (taken_at (codes "check") program text p (fault_check program text) (found_check program text))
  by_check false is named = by_trace (bytes_eq name (codes "trace")) refl named

  by_race : (b : Bool) → bytes_eq name (codes "race") ≡ b → cond b (Some Race) (cond (bytes_eq name (codes "check")) (Some Check) (cond (bytes_eq name (codes "trace")) (Some Trace) None)) ≡ Some subcommand → IsTaken
  by_race true is named = at_name (codes "race") Race ((bytes_eq-Decides name (codes "race")).0 is) named (taken_at (codes "race") program text p (fault_race program text) (found_race program text))
  by_race false is named = by_check (bytes_eq name (codes "check")) refl named

  by_make : (b : Bool) → bytes_eq name (codes "make") ≡ b → cond b (Some Make) (cond (bytes_eq name (codes "race")) (Some Race) (cond (bytes_eq name (codes "check")) (Some Check) (cond (bytes_eq name (codes "trace")) (Some Trace) None))) ≡ Some subcommand → IsTaken
  by_make true is named = at_name (codes "make") Make ((bytes_eq-Decides name (codes "make")).0 is) named (taken_at (codes "make") program text p (fault_make program text) (found_make program text))
  by_make false is named = by_race (bytes_eq name (codes "race")) refl named

  by_run : (b : Bool) → bytes_eq name (codes "run") ≡ b → cond b (Some Run) (cond (bytes_eq name (codes "make")) (Some Make) (cond (bytes_eq name (codes "race")) (Some Race) (cond (bytes_eq name (codes "check")) (Some Check) (cond (bytes_eq name (codes "trace")) (Some Trace) None)))) ≡ Some subcommand → IsTaken
  by_run true is named = at_name (codes "run") Run ((bytes_eq-Decides name (codes "run")).0 is) named (taken_at (codes "run") program text p (fault_run program text) (found_run program text))
  by_run false is named = by_make (bytes_eq name (codes "make")) refl named

  by_step : (b : Bool) → bytes_eq name (codes "step") ≡ b → cond b (Some ByStep) (cond (bytes_eq name (codes "run")) (Some Run) (cond (bytes_eq name (codes "make")) (Some Make) (cond (bytes_eq name (codes "race")) (Some Race) (cond (bytes_eq name (codes "check")) (Some Check) (cond (bytes_eq name (codes "trace")) (Some Trace) None))))) ≡ Some subcommand → IsTaken
  by_step true is named = at_name (codes "step") ByStep ((bytes_eq-Decides name (codes "step")).0 is) named (taken_at (codes "step") program text p (fault_step program text) (found_step program text))
  by_step false is named = by_run (bytes_eq name (codes "run")) refl named

  -- a subcommand with a word that looks like no flag is taken
  pub taken : subcommand_named name ≡ Some subcommand → IsTaken
  taken named = by_step (bytes_eq name (codes "step")) refl named

plain_byte : (byte : ℕ) (bytes : Text) → (byte == 45) ≡ false → IsPlain (byte ∷ bytes)
plain_byte byte bytes other = record {
  dashes = rw other refl;
  long = rw other refl;
  short = rw other refl;
}

plain_dash : (byte : ℕ) (bytes : Text) (b : Bool) → (byte == 45) ≡ b → (not b || length bytes == 0) ≡ true → IsPlain (byte ∷ bytes)
plain_dash byte bytes false is alone = plain_byte byte bytes is
plain_dash byte [] true is alone = record {
  dashes = rw is refl;
  long = rw is refl;
  short = rw is refl;
}
plain_dash byte (next ∷ bytes) true is alone = absurd (not_zero (length bytes) (eqb-true _ _ alone))
  where
    not_zero : (n : ℕ) → suc n ≡ 0 → ⊥
    not_zero n e = omega (arith, e)

-- an argument looks like no flag
pub is_plain : (word : Text) → is_argument word ≡ true → IsPlain word
is_plain [] is = absurd cc
is_plain (byte ∷ bytes) is = plain_dash byte bytes (byte == 45) refl is
