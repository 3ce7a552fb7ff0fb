use Rattle.std.proofs.Common.{◌≡◌, reverse, take}
use Rattle.ti_lang.specs.Program.Scope.{this_of}
use Rattle.ti_lang.specs.Program.Statements.{numbered_stms}
use Rattle.ti_lang.specs.Program.Views.{program_of}
use Rattle.ti_lang.specs.Mirrors.ListedDims.{dims_in}
use Rattle.ti_eval.specs.Envs.{context_of}
use Rattle.ti_eval.specs.Frames.{method_seen}
use Rattle.ti_slice.proofs.Dimming.{dims_rest}
use Rattle.ti_slice.proofs.typed.dims_around.Given as goal

abbrev pub invariant-loop-n : goal.invariant-loop-n
invariant-loop-n l =
    let e = l.env in
    dims_in (reverse l.dims.items) ≡ dims_rest (program_of e.program.now) (this_of (method_seen e.method)) (context_of e) (numbered_stms (method_seen e.method).body) (take l.n e.levels.now)
