-- From what a parse found to the subcommand and its argument.
use Rattle.std.proofs.Common.{◌≡◌, sym, refl, Option, Some, None, option_map}
use Rattle.std.specs.Prelude.{option_and_then}
use Rattle.clap.specs.Words.{Text}
use Rattle.command_line.specs.declared.definition.Subcommand.{Subcommand}

abbrev pair : Subcommand → Text → Subcommand × Text
pair subcommand text = (subcommand, text)

-- a subcommand that is named, with a text that was found
pub both : (subcommand : Subcommand) (named : Option Subcommand) (text : Text) (found : Option Text) → Some subcommand ≡ named → Some text ≡ found
    → Some (pair subcommand text) ≡ option_and_then (λ s. option_map (pair s) found) named
both subcommand named text found name is = rw (sym name, sym is) refl

-- without a text there is none
pub neither : (subcommand : Subcommand) (named : Option Subcommand) (found : Option Text) → Some subcommand ≡ named → None ≡ found
    → None ≡ option_and_then (λ s. option_map (pair s) found) named
neither subcommand named found name is = rw (sym name, sym is) refl
