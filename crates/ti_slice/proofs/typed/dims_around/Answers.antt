use Rattle.std.proofs.Common.{take, reverse, ap, ◌∙◌, arith}
use Rattle.std.proofs.lemmas.List.{take_all}
use Rattle.ti_lang.specs.Program.Scope.{this_of}
use Rattle.ti_lang.specs.Program.Statements.{numbered_stms}
use Rattle.ti_lang.specs.Program.Views.{program_of}
use Rattle.ti_lang.specs.Typing.Kinds.{dim_of_type}
use Rattle.ti_lang.specs.Mirrors.ListedDims.{dims_in}
use Rattle.ti_lang.specs.Typing.TextTypes.{type_at}
use Rattle.ti_eval.specs.Envs.{context_of}
use Rattle.ti_eval.specs.Frames.{method_seen, domain_in}
use Rattle.ti_eval.specs.Places.{inside}
use Rattle.ti_moves.specs.Receiving.{stm_seen}
use Rattle.ti_slice.proofs.Dimming.{dims_rest, none_first, one_turn, no_turn}
use Rattle.ti_slice.proofs.typed.dims_around.Goals as goal
use Rattle.ti_slice.proofs.typed.dims_around.Goals.{in-Turn+in_ok-push, in_default}

pub loop-n-init : goal.loop-n-init
loop-n-init c =
    let e = c.args.env.now in
    ap (λ ds. dims_in (reverse ds)) c.new-dims.ensures.items
    ∙ none_first (program_of e.program.now) (this_of (method_seen e.method)) (context_of e) (numbered_stms (method_seen e.method).body) e.levels.now 1 (omega arith)

pub loop-n-preserved : goal.loop-n-preserved
loop-n-preserved c =
    let e = c.args.env.now in
    let level = c.index-env-n.result in
    elim c.match-env-n.branch [
      | in-Turn+in_ok-push w ↦
          ap (λ ds. dims_in (reverse ds)) (ap (λ v. v.items) w.dims-is ∙ w.in_ok-push.ensures.items)
          ∙ one_turn (program_of e.program.now) (this_of (method_seen e.method)) (context_of e) (numbered_stms (method_seen e.method).body) e.levels.now c.loop-n.n level c.loop-n.dims.items _
          (stm_seen w.statement_at-x.result) w.in-Turn.domain w.in-Turn.at (omega arith) (omega arith) w.in-Turn.is
          (w.statement_at-x.ensures ∙ ap (λ xs. inside (numbered_stms xs) (reverse (take c.loop-n.n e.levels.now))) c.body_of-body.ensures)
          (w.dims_of_domain-dim.ensures
          ∙ ap (λ ds. dim_of_type (type_at (program_of e.program.now) (this_of (method_seen e.method)) (dims_in (reverse ds)) (domain_in (stm_seen w.statement_at-x.result)))) w.deref.ensures.value)
          c.loop-n.invariant
      | in_default w ↦
          ap (λ v. dims_in (reverse v.items)) w.dims-is
          ∙ no_turn (program_of e.program.now) (this_of (method_seen e.method)) (context_of e) (numbered_stms (method_seen e.method).body) e.levels.now c.loop-n.n level c.loop-n.dims.items
          (omega arith) (omega arith) w.in_default.not-Turn c.loop-n.invariant
    ]

pub returns : goal.returns
returns c =
    let e = c.args.env.now in
    c.loop-n.invariant
    ∙ ap (dims_rest (program_of e.program.now) (this_of (method_seen e.method)) (context_of e) (numbered_stms (method_seen e.method).body)) (take_all c.loop-n.n e.levels.now c.loop-n-test.false)
