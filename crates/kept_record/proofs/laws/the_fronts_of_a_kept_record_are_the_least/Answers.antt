use Rattle.std.proofs.Common.{List, map, slice_get, refl, sym, ap, ◌∙◌}
use Rattle.run_record.specs.declared.made.Made.{Made}
use Rattle.kept_record.specs.Acts.{bare_made}
use Rattle.kept_record.specs.Keeping.{Act, made_by, opened, account_of}
use Rattle.kept_record.proofs.LeastCounts.{bare_lists}
use Rattle.kept_record.proofs.LeastSteps.{HasItemsOf}
use Rattle.kept_record.proofs.LeastFronts.{begins, all_least}
use Rattle.kept_record.proofs.laws.the_fronts_of_a_kept_record_are_the_least.Goals as goal

pub returns-clause-least : goal.returns-clause-least
returns-clause-least c plan acts other worker i x y all same fronts edges at_x at_y =
    let kept = c.a_record_has_what_was_made.ensures in
    let has : HasItemsOf acts other = record {
      lists = λ w. same.lists w ∙ (ap (map (bare_made w)) (kept.lists plan acts w all)
          ∙ (sym (bare_lists w (account_of plan acts).acts) ∙ (ap (λ (l : List Act). map (bare_made w) (made_by w l)) (kept.acts plan acts) ∙ bare_lists w acts)));
      journals = λ o. same.journals o ∙ kept.deeds plan acts o all;
      once = same.once;
    } in
    (all_least acts other has fronts edges (opened plan) acts refl (begins acts other has fronts edges plan)).written worker i x y
    (ap (λ (l : List Made). slice_get l i) (sym (kept.lists plan acts worker all)) ∙ at_x) at_y

pub returns-clause-itself : goal.returns-clause-itself
returns-clause-itself c plan acts all = record { lists = λ w. refl; journals = λ o. refl; once = λ w o. c.each_entry_stands_in_one_list.ensures plan acts w o all }
