use Rattle.std.proofs.Common.{◌≡◌, true, sym, subst}
use Rattle.sync_types.specs.declared.atomic_object.AtomicCall.{AtomicCall}
use Rattle.sync_types.specs.declared.atomic_object.AtomicReply.TheVariants.{Done}
use Rattle.sync_model.specs.declared.item.SharedCall.TheVariants as calls
use Rattle.sync_model.specs.declared.item.SharedReply.TheVariants as replies
use Rattle.sync_model.specs.Shared.{Called, state_of}
use Rattle.sync_types.specs.SequentialAtomic.{is_atomic_call}
use Rattle.shared_table.specs.Notes.{front_by, own_by, seen_by}
use Rattle.shared_table.specs.Tables.{first_of}
use Rattle.go_atomic.proofs.Callers.{stays}
use Rattle.go_atomic.proofs.Steps.{both, exchanges, swapped}
use Rattle.go_atomic.proofs.call.atomic_call.Goals as goal

pub operate-found-requires-in-CompareAndSwap-clause-operation : goal.operate-found-requires-in-CompareAndSwap-clause-operation
operate-found-requires-in-CompareAndSwap-clause-operation c =
    let arm = c.in-CompareAndSwap in
    let fits = both _ _ (subst (λ call. is_atomic_call c.args.kind call ≡ true) arm.is c.requires.call) in
    let laws = c.steps_on_words.ensures in
    record {
      kind = c.args.kind;
      at = c.requires.kind;
      is = exchanges c.args.kind arm.old arm.new c.to_word-old.result c.to_word-new-in-CompareAndSwap.result c.to_word-old.ensures.word c.to_word-new-in-CompareAndSwap.ensures.word fits.1 laws.read (λ word e. laws.compared c.args.kind word arm.old e fits.0);
    }

pub returns-in-CompareAndSwap-clause-called : goal.returns-in-CompareAndSwap-clause-called
returns-in-CompareAndSwap-clause-called c =
    let arm = c.in-CompareAndSwap in
    let fits = both _ _ (subst (λ call. is_atomic_call c.args.kind call ≡ true) arm.is c.requires.call) in
    let found = c.operate-found-in-CompareAndSwap.result in
    let told = c.operate-found-in-CompareAndSwap.ensures.called c.args.kind c.requires.kind in
    swapped _ c.args.atomic c.args.call c.args.kind arm.old arm.new c.to_word-old.result found _ _ arm.is c.to_word-old.ensures.word (c.steps_on_words.ensures.compared c.args.kind found arm.old told.0 fits.0) told.1

pub returns-in-Store-clause-called : goal.returns-in-Store-clause-called
returns-in-Store-clause-called c =
    let told = c.operate.ensures.called c.args.kind c.requires.kind in
    subst (λ (call : AtomicCall). Called (first_of c.args.table.now) (calls.Atomic c.args.atomic call) (replies.Atomic Done) 0 (state_of own_by front_by seen_by c.args.caller.now.note) (state_of own_by front_by seen_by c.operate.new.note)) (sym c.in-Store.is) told.1

pub returns-in-Load-clause-caller : goal.returns-in-Load-clause-caller
returns-in-Load-clause-caller c = stays c.args.table.now _ _ _ c.args.caller.now.note c.operate-found.new.note c.requires.caller.0 c.operate-found.ensures.home (c.operate-found.ensures.called c.args.kind c.requires.kind).1

pub returns-in-Store-clause-caller : goal.returns-in-Store-clause-caller
returns-in-Store-clause-caller c = stays c.args.table.now _ _ _ c.args.caller.now.note c.operate.new.note c.requires.caller.0 c.operate.ensures.home (c.operate.ensures.called c.args.kind c.requires.kind).1

pub returns-in-Swap-clause-caller : goal.returns-in-Swap-clause-caller
returns-in-Swap-clause-caller c = stays c.args.table.now _ _ _ c.args.caller.now.note c.operate-found-in-Swap.new.note c.requires.caller.0 c.operate-found-in-Swap.ensures.home (c.operate-found-in-Swap.ensures.called c.args.kind c.requires.kind).1

pub returns-in-Add-clause-caller : goal.returns-in-Add-clause-caller
returns-in-Add-clause-caller c = stays c.args.table.now _ _ _ c.args.caller.now.note c.operate-found-in-Add.new.note c.requires.caller.0 c.operate-found-in-Add.ensures.home (c.operate-found-in-Add.ensures.called c.args.kind c.requires.kind).1

pub returns-in-And-clause-caller : goal.returns-in-And-clause-caller
returns-in-And-clause-caller c = stays c.args.table.now _ _ _ c.args.caller.now.note c.operate-found-in-And.new.note c.requires.caller.0 c.operate-found-in-And.ensures.home (c.operate-found-in-And.ensures.called c.args.kind c.requires.kind).1

pub returns-in-Or-clause-caller : goal.returns-in-Or-clause-caller
returns-in-Or-clause-caller c = stays c.args.table.now _ _ _ c.args.caller.now.note c.operate-found-in-Or.new.note c.requires.caller.0 c.operate-found-in-Or.ensures.home (c.operate-found-in-Or.ensures.called c.args.kind c.requires.kind).1

pub returns-in-CompareAndSwap-clause-caller : goal.returns-in-CompareAndSwap-clause-caller
returns-in-CompareAndSwap-clause-caller c = stays c.args.table.now _ _ _ c.args.caller.now.note c.operate-found-in-CompareAndSwap.new.note c.requires.caller.0 c.operate-found-in-CompareAndSwap.ensures.home (c.operate-found-in-CompareAndSwap.ensures.called c.args.kind c.requires.kind).1
