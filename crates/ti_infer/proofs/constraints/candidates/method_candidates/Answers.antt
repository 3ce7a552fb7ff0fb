use Rattle.std.proofs.Common.{◌≡◌, ◌++◌, ◌∷◌, [], List, OnOk, ap, ◌∙◌, subst}
use Rattle.std.proofs.lemmas.Result.{on_ok_weaker}
use Rattle.ti_lang.specs.Program.Classes.{NumberedParam}
use Rattle.ti_lang.specs.Program.Statements.{numbered_stms}
use Rattle.ti_lang.specs.Program.Views.{numbered_method_of}
use Rattle.ti_blame.specs.declared.mark.Mark.{Mark}
use Rattle.ti_infer.specs.declared.local.Local.{Local}
use Rattle.std.specs.Prelude.{map}
use Rattle.ti_infer.specs.Candidates.{param_candidate, param_candidates, result_candidates, declared_candidates_all}
use Rattle.ti_infer.specs.Mirrors.Dependencies.{method_mark}
use Rattle.ti_infer.specs.Mirrors.Locals.{local_candidates}
use Rattle.ti_infer.proofs.LocalsTold.{names_told_all}
use Rattle.ti_infer.proofs.Telling.{params_names_told}
use Rattle.ti_infer.proofs.Walking.{pushed_four}
use Rattle.ti_infer.proofs.constraints.candidates.method_candidates.Goals as goal

pub returns : goal.returns
returns c =
    let m = numbered_method_of c.args.method.now in
    on_ok_weaker c.of_locals.result
    (λ k. pushed_four c.args.out.now.items c.push.new.self.items c.of_result.new.out.items c.of_params.new.out.items
    c.of_locals.new.out.items (method_mark m.place ∷ []) (result_candidates m.place m.result) (param_candidates m.params)
    (declared_candidates_all (numbered_stms m.body)) c.in_ok-push.ensures.items c.in_ok-of_result.ensures
    (c.in_ok-of_params.ensures ∙ ap (λ l. c.of_result.new.out.items ++ l) (ap (λ (ws : List NumberedParam). map param_candidate ws) c.listed_params.ensures ∙ params_names_told m.params)) k)
    (subst (λ (l : List Mark). OnOk c.of_locals.result (c.of_locals.new.out.items ≡ c.of_params.new.out.items ++ l))
    (ap (λ (ls : List Local). local_candidates ls) (c.deref.ensures.value ∙ c.in_ok-declared.ensures) ∙ names_told_all (numbered_stms m.body)) c.of_locals.ensures)
