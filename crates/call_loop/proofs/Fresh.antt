-- The passes of a new object are between two calls.
use Rattle.std.proofs.Common.{ℕ, List, ap, Result, Ok, Err, IfOk}
use Rattle.sync_model.specs.declared.journal.Entry.{Entry}
use Rattle.ruled_object.specs.declared.object.Object.{Object}
use Rattle.ruled_object.specs.declared.pass.Pass.{Pass}
use Rattle.ruled_object.specs.Gathered.{AreNew}
use Rattle.ruled_object.specs.Standing.{stand_by}
use Rattle.call_loop.specs.Between.{AreNewBetween}

pub if_ok : {A F : Type 0} (P Q : A → Type 0) (r : Result A F) → ((a : A) → P a → Q a) → IfOk r P → IfOk r Q
if_ok P Q (Ok a) then_so is = then_so a is
if_ok P Q (Err e) then_so is = is

module _ {M N S E R H W : Type 0} (out : W) (move : W → E → R → W) where
  pub new_between : (object : Object M N S E R H) (calls : ℕ) (passes : List (Pass S N E R)) → AreNew object calls passes → AreNewBetween out move object calls passes
  new_between object calls passes new = record {
    all = record {
      count = new.all.count;
      each = λ i pass at. (record { of = (new.all.each i pass at).0; stands = ap (λ (own : List (Entry E R)). stand_by out move own) (new.own i pass at) }, (new.all.each i pass at).1);
    };
    left = new.left;
    seen = new.seen;
    own = new.own;
  }
