-- A plain variable by schedule, where each call is one turn: a read answers what it holds, and a write stores its value.
use Rattle.std.specs.Prelude.{ℕ}
use Rattle.script_calls.specs.declared.call.VarCall.{VarCall}
use Rattle.script_calls.specs.declared.call.VarCall.TheVariants.{Read, Write}
use Rattle.script_calls.specs.declared.call.VarReply.{VarReply}
use Rattle.script_calls.specs.declared.call.VarReply.TheVariants.{Held, Done}

abbrev pub var_reply : VarCall → ℕ → VarReply
var_reply Read held = Held held
var_reply (Write value) held = Done

abbrev pub var_after : VarCall → ℕ → ℕ
var_after Read held = held
var_after (Write value) held = value
