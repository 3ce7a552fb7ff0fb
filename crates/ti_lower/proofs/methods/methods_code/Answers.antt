use Rattle.std.proofs.Common.{◌≡◌, ◌∙◌, ◌++◌, ◌∷◌, [], ◌+◌, ◌==◌, ◌<◌, ℕ, List, ap, sym, refl, map, drop, drop-cons, add-one, append_assoc, get_or, length}
use Rattle.ti_lang.specs.declared.program.classes.Method.{Method}
use Rattle.ti_lang.specs.Program.Classes.{ProgramView}
use Rattle.ti_lang.specs.Program.Views.{program_of, numbered_method_of}
use Rattle.ti_code.specs.declared.code.MethodCode.{MethodCode}
use Rattle.ti_lower.specs.Programs.{end_in, method_code, methods_code}
use Rattle.ti_lower.proofs.methods.methods_code.Goals as goal

-- the code of the method of a number
abbrev one_code : ProgramView → ℕ → Method → MethodCode
one_code program n m = method_code program (end_in (n == program.main) (numbered_method_of m)) (numbered_method_of m)

methods_at : (program : ProgramView) (ms : List Method) (n : ℕ) (d : Method) → n < length ms
    → methods_code program n (map numbered_method_of (drop n ms)) ≡ one_code program n (get_or ms n d) ∷ methods_code program (n + 1) (map numbered_method_of (drop (n + 1) ms))
methods_at program ms n d h = ap (λ ys. methods_code program n (map numbered_method_of ys)) (drop-cons ms n d h) ∙ rw add-one refl

pub loop-n-preserved : goal.loop-n-preserved
loop-n-preserved c =
    let program = program_of c.args.program.now in
    let ms = c.args.methods.now in
    let n = c.loop-n.n in
    let m = c.index-methods-n.result in
    let found = c.loop-n.found.items in
    let rest = methods_code program (n + 1) (map numbered_method_of (drop (n + 1) ms)) in
    ap (λ z. z ++ rest) c.in_ok-push.ensures.items ∙ append_assoc found (c.in_ok-method_code.field-0 ∷ []) rest
    ∙ ap (λ z. found ++ z ∷ rest)
    (c.in_ok-method_code.ensures ∙ ap (λ e. method_code program e (numbered_method_of m)) c.end_in-end.ensures ∙ ap (one_code program n) c.index-methods-n.is)
    ∙ ap (λ z. found ++ z) (sym (methods_at program ms n m c.loop-n-test.true)) ∙ c.loop-n.invariant
