-- Which replies each call may have, by the tables of `sync`, `sync/atomic` and `golang.org/x/sync`.
use Rattle.std.specs.Prelude.{Bool, true, false}
use Rattle.sync_types.specs.Replies.{map_form, atomic_form, mutex_form, rw_mutex_form, pool_form, sema_form}
use Rattle.sync_types.specs.declared.atomic_object.AtomicReply.TheVariants.{Compared}
use Rattle.script_calls.specs.declared.call.ComposedCall.TheVariants.{IfEqual, WaitFor, Go}
use Rattle.script_calls.specs.declared.call.Operation.{Operation}
use Rattle.script_calls.specs.declared.call.Operation.TheVariants as operations
use Rattle.script_calls.specs.declared.call.Reply.{Reply}
use Rattle.script_calls.specs.declared.call.Reply.TheVariants as replies
use Rattle.script_calls.specs.declared.call.VarCall.{VarCall}
use Rattle.script_calls.specs.declared.call.VarCall.TheVariants.{Read, Write}
use Rattle.script_calls.specs.declared.call.VarReply.{VarReply}
use Rattle.script_calls.specs.declared.call.VarReply.TheVariants.{Held, Done}

-- a read of a variable answers a value, a write that it was made
abbrev pub var_form : VarCall → VarReply → Bool
var_form Read (Held value) = true
var_form Read Done = false
var_form (Write value) (Held held) = false
var_form (Write value) Done = true

-- whether a reply has the form of its call's replies
abbrev pub is_reply_to : {K : Type 0} → Operation → Reply K → Bool
is_reply_to (operations.Map call) (replies.Map reply) = map_form call reply
is_reply_to operations.Range (replies.Pairs pairs) = true
is_reply_to (operations.Atomic call) (replies.Atomic reply) = atomic_form call reply
is_reply_to (operations.Mutex call) (replies.Lock reply) = mutex_form call reply
is_reply_to (operations.RwMutex call) (replies.Lock reply) = rw_mutex_form call reply
is_reply_to (operations.Cond call) replies.Returned = true
is_reply_to (operations.WaitGroup call) replies.Returned = true
is_reply_to operations.Once (replies.Once reply) = true
is_reply_to operations.OnceFunc (replies.OnceFunc code) = true
is_reply_to operations.OnceValue (replies.OnceValue value) = true
is_reply_to (operations.Pool call) (replies.Pool reply) = pool_form call reply
is_reply_to (operations.Sema call) (replies.Lock reply) = sema_form call reply
is_reply_to (operations.Fly key) (replies.Flown value shared) = true
is_reply_to (operations.Var call) (replies.Var reply) = var_form call reply
is_reply_to (operations.Composed (IfEqual value passes)) (replies.Atomic (Compared equal)) = true
is_reply_to (operations.Composed (WaitFor atomic value tries)) (replies.Atomic (Compared equal)) = true
is_reply_to (operations.Composed (Go worker)) replies.Returned = true
is_reply_to operation reply = false
