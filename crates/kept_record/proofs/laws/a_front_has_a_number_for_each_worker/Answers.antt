use Rattle.std.proofs.Common.{◌≡◌, List, Some, slice_get, subst}
use Rattle.run_record.specs.declared.made.Made.{Made}
use Rattle.kept_record.specs.Keeping.{account_of}
use Rattle.kept_record.proofs.Keeps.{keeps}
use Rattle.kept_record.proofs.Within.{list_is}
use Rattle.kept_record.proofs.laws.a_front_has_a_number_for_each_worker.Goals as goal

pub returns : goal.returns
returns c plan acts worker i x all at =
    let kept = keeps plan acts all in
    kept.numbered.each worker i x (subst (λ (l : List Made). slice_get l i ≡ Some x) (list_is plan (account_of plan acts) kept.within worker) at)
