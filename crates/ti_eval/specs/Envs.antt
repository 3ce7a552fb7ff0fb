-- The environment in which the code evaluates an expression.
use Rattle.std.specs.Prelude.{List, reverse}
use Rattle.ti_lang.specs.Program.Statements.{numbered_stms}
use Rattle.ti_lang.specs.Program.Scope.{this_of}
use Rattle.ti_lang.specs.Program.Views.{program_of}
use Rattle.ti_lang.specs.Meaning.Processes.{ContItem}
use Rattle.ti_lang.specs.Meaning.Scoping as scoping
use Rattle.ti_lang.specs.Meaning.Turns.{turns_at, dims_at}
use Rattle.ti_eval.specs.declared.env.Env.{Env}
use Rattle.ti_eval.specs.Frames.{MethodContext, method_seen, slots_of, rest_of}

abbrev pub context_of : Env → MethodContext
context_of e = record { program = program_of e.program.now; this = this_of (method_seen e.method); procs = e.rank.procs }

-- The pending work after the innermost statement.
abbrev pub pending_after : Env → List ContItem
pending_after e = rest_of (context_of e) (numbered_stms (method_seen e.method).body) (reverse e.levels.now)

abbrev pub env_of : Env → scoping.Env
env_of e = record {
  number = e.rank.number;
  procs = e.rank.procs;
  program = program_of e.program.now;
  method = method_seen e.method;
  this = e.this;
  variables = slots_of e.variables.now;
  turns = turns_at (pending_after e);
  dims = dims_at (program_of e.program.now) (this_of (method_seen e.method)) (pending_after e);
}
