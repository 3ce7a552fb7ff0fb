use Rattle.std.proofs.Common.{◌≡◌, ◌∙◌, ap, sym, subst, map, List, ℕ}
use Rattle.std.specs.Bool.{IsTrue}
use Rattle.ti_lang.specs.declared.program.classes.Method.{Method}
use Rattle.ti_lang.specs.Program.Views.{program_of, numbered_method_of}
use Rattle.ti_code.specs.declared.code.MethodCode.{MethodCode}
use Rattle.ti_code.specs.JumpRule.{keep_jump_rule}
use Rattle.ti_code.specs.Forms.{AreFormedMethods}
use Rattle.ti_code.specs.Programs.{Code}
use Rattle.ti_code.specs.Follows.{Follows}
use Rattle.ti_lower.specs.Programs.{methods_code, program_code}
use Rattle.ti_lower.proofs.Jumping.{program_keeps_rule}
use Rattle.ti_lower.proofs.Constants.{program_formed}
use Rattle.ti_lower.proofs.Programs.{checked_follows}
use Rattle.ti_lower.proofs.methods.lower.Goals as goal

pub new-requires-clause-rule : goal.new-requires-clause-rule
new-requires-clause-rule c =
    let program = program_of c.program.result.now.parts in
    subst (λ (z : List MethodCode). IsTrue (keep_jump_rule z))
    (sym (c.in_ok-methods.ensures ∙ ap (λ (xs : List Method). methods_code program 0 (map numbered_method_of xs)) c.deref.ensures.value))
    (program_keeps_rule program)

pub new-requires-clause-formed : goal.new-requires-clause-formed
new-requires-clause-formed c =
    let program = program_of c.program.result.now.parts in
    subst AreFormedMethods
    (sym (c.in_ok-methods.ensures ∙ ap (λ (xs : List Method). methods_code program 0 (map numbered_method_of xs)) c.deref.ensures.value))
    (program_formed program)

abbrev code_with : List MethodCode → ℕ → Code
code_with methods main = record { methods = methods; main = main }

pub returns-clause-follows : goal.returns-clause-follows
returns-clause-follows c =
    let program = program_of c.program.result.now.parts in
    let checked = program_of c.args.checked.now.program.parts in
    let same : c.in_ok-methods.methods.items ≡ methods_code program 0 program.methods =
    c.in_ok-methods.ensures ∙ ap (λ (xs : List Method). methods_code program 0 (map numbered_method_of xs)) c.deref.ensures.value in
    subst (λ (z : Code). Follows z checked)
    (sym (c.new.ensures ∙ ap (λ z. code_with z program.main) same ∙ ap (λ p. program_code (program_of p.parts)) c.program.ensures.program))
    (checked_follows checked (record { numbered = c.args.checked.now.program.numbered; unbroken = c.args.checked.now.unbroken }))
