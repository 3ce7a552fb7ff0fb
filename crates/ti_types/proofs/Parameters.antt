-- Lemmas on parameters and their types, by index.
use Rattle.std.proofs.Common.{◌≡◌, ℕ, suc, ◌<◌, ◌≤◌, List, [], ◌∷◌, map, length, get_or, slice_get, Some, None, option_map, refl, ap, ◌∙◌}
use Rattle.std.proofs.lemmas.Option.{slice_get-map, slice_get-get_or, slice_get_past}
use Rattle.ti_lang.specs.declared.program.classes.Param.{Param}
use Rattle.ti_lang.specs.Program.Classes.{NumberedParam}
use Rattle.ti_lang.specs.Program.Views.{numbered_param_of, value_type_of}
use Rattle.ti_lang.specs.Typing.Declared.{types_of}

pub type_here : (params : List Param) (i : ℕ) (d : Param) → i < length params → slice_get (types_of (map numbered_param_of params)) i ≡ Some (value_type_of (get_or params i d).ty.ty)
type_here params i d lt =
    slice_get-map (λ (p : NumberedParam). p.ty.type) (map numbered_param_of params) i
    ∙ ap (option_map (λ (p : NumberedParam). p.ty.type)) (slice_get-map numbered_param_of params i
    ∙ ap (option_map numbered_param_of) (slice_get-get_or params i d lt))

pub no_type_here : (params : List Param) (i : ℕ) → length params ≤ i → slice_get (types_of (map numbered_param_of params)) i ≡ None
no_type_here params i le =
    slice_get-map (λ (p : NumberedParam). p.ty.type) (map numbered_param_of params) i
    ∙ ap (option_map (λ (p : NumberedParam). p.ty.type)) (slice_get-map numbered_param_of params i
    ∙ ap (option_map numbered_param_of) (slice_get_past params i le))

pub ruleset lookups = (type_here, no_type_here)

pub count_params : (params : List Param) → length (map numbered_param_of params) ≡ length params
count_params [] = refl
count_params (p ∷ rest) = ap suc (count_params rest)

pub ruleset counts = (count_params)
