use Rattle.std.proofs.Common.{◌≡◌, ℕ, ◌<◌, List, Some, slice_get, sym, ap, ◌∙◌, subst}
use Rattle.std.specs.Option.{option_map}
use Rattle.std.proofs.lemmas.Option.{slice_get-map}
use Rattle.run_record.specs.declared.made.Made.{Made}
use Rattle.run_record.specs.declared.made.Made.TheVariants.{Entered}
use Rattle.run_record.specs.Record.{ObjectEntry, journal_of, list_of}
use Rattle.record_text.specs.LawfulItems.{IsNumbered}
use Rattle.scheduled_record.specs.RunActs.{scheduled_record}
use Rattle.scheduled_record.specs.ToldItems.{ToldAct, number_of}
use Rattle.scheduled_record.specs.ToldItems.{told_of}
use Rattle.scheduled_record.proofs.EntryNumbers.{later_number}
use Rattle.scheduled_record.proofs.told_laws.numbers_of_entries_rise.Goals as goal

pub returns : goal.returns
returns c plan worker place other object t u x y valid before at_t at_u is_t is_u =
    let r = scheduled_record plan in
    let order = c.each_entry_of_a_scheduled_run_stands_in_one_list.ensures.ordered plan valid in
    let lines = c.the_items_of_a_run_are_lines_of_its_record.ensures in
    let item : (k : ℕ) (v : ToldAct) (e : ObjectEntry) → slice_get (told_of plan worker) k ≡ Some v → v.act.made ≡ Entered object e → slice_get (list_of r worker) k ≡ Some (Entered object e) = λ k v e at is.
    ap (λ (l : List Made). slice_get l k) (sym (lines.lists plan worker valid)) ∙ (slice_get-map (λ (v : ToldAct). v.act.made) (told_of plan worker) k ∙ (ap (option_map (λ (v : ToldAct). v.act.made)) at ∙ ap Some is)) in
    let number : (k : ℕ) (v : ToldAct) (e : ObjectEntry) → slice_get (told_of plan worker) k ≡ Some v → v.act.made ≡ Entered object e → slice_get (journal_of r object) e.knew ≡ Some e = λ k v e at is.
    subst (λ (made : Made). IsNumbered r (number_of made) made) is (lines.numbers plan worker k v valid at) in
    let rises : x.knew < y.knew = later_number (journal_of r object) (order.journals object) x y (number place t x at_t is_t) (number other u y at_u is_u) (order.lists worker place other (Entered object x) (Entered object y) before (item place t x at_t is_t) (item other u y at_u is_u)) in
    subst (λ (made : Made). number_of made < number_of u.act.made) (sym is_t) (subst (λ (made : Made). x.knew < number_of made) (sym is_u) rises)
