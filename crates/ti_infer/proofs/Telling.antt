-- Facts about lists of parameters and of variables, stated of whole methods.
use Rattle.std.proofs.Common.{◌≡◌, List, ◌++◌, map, refl, ap, ◌∙◌, append_assoc, Result, OnOk}
use Rattle.std.proofs.lemmas.Result.{on_ok_weaker}
use Rattle.ti_lang.specs.Program.Classes.{NumberedParams, MainArgs, Params, NumberedMethod}
use Rattle.ti_infer.specs.Candidates.{param_candidate, param_candidates}
use Rattle.ti_infer.specs.Mirrors.Implications.{params_inside, first_inside}
use Rattle.ti_infer.specs.Mirrors.Fits.{param_edges, all_param_edges}
use Rattle.ti_infer.specs.Mirrors.Locals.{declared_params}

pub params_edges_told : (m : NumberedMethod) (ps : NumberedParams) → param_edges m (declared_params ps) ≡ all_param_edges m ps
params_edges_told m MainArgs = refl
params_edges_told m (Params ws) = refl

pub params_names_told : (ps : NumberedParams) → map param_candidate (declared_params ps) ≡ param_candidates ps
params_names_told MainArgs = refl
params_names_told (Params ws) = refl

pub params_inside_told : (ps : NumberedParams) → params_inside 0 (declared_params ps) ≡ first_inside ps
params_inside_told MainArgs = refl
params_inside_told (Params ws) = refl

-- four parts of a list that are pushed one after the other
pub pushed_left : {A R E : Type 0} (r : Result R E) (out one two three new a b d e : List A) → one ≡ out ++ a → two ≡ one ++ b → three ≡ two
    ++ d → OnOk r (new ≡ three ++ e) → OnOk r (new ≡ out ++ (((a ++ b) ++ d) ++ e))
pushed_left r out one two three new a b d e f g h k =
    on_ok_weaker r (λ z. z ∙ ap (λ l. l ++ e) (h ∙ ap (λ l. l ++ d) (g ∙ ap (λ l. l ++ b) f ∙ append_assoc out a b) ∙ append_assoc out (a ++ b) d) ∙ append_assoc out ((a ++ b) ++ d) e) k
