-- Proves that parameters are bound to their arguments one by one, as in the semantics.
use Rattle.std.proofs.Common.{◌≡◌, ◌∙◌, refl, sym, ap, subst, ℕ, ◌+◌, ◌<◌, ◌≤◌, List, [], ◌∷◌, map, drop, drop-cons, drop_of_length-le, add-one, length, get_or}
use Rattle.ti_base.specs.declared.entry.Answer.{Answer}
use Rattle.ti_lang.specs.declared.program.exprs.Expr.{Expr}
use Rattle.ti_lang.specs.declared.program.classes.Param.{Param}
use Rattle.ti_lang.specs.Program.Types.{Typed, VariableUse}
use Rattle.ti_lang.specs.Program.Expressions.{NumberedExp, NumberedExps, NoExp, MoreExp, numbered_exps, place_of_numbered}
use Rattle.ti_lang.specs.Program.Views.{expression_of, value_type_of, numbered_param_of}
use Rattle.ti_lang.specs.Meaning.Held.{Held}
use Rattle.ti_lang.specs.Meaning.Comp.{Comp, CompResult, Gives, Asks, Fails, bind_result, gives}
use Rattle.ti_lang.specs.Meaning.Conversions.{converted}
use Rattle.ti_lang.specs.Meaning.Processes.{Variable}
use Rattle.ti_lang.specs.Meaning.Scoping.{Env, declared_type}
use Rattle.ti_lang.specs.Meaning.Evaluation.{eval}
use Rattle.ti_lang.specs.Meaning.Calls.{bind_params, parameters_from}
use Rattle.ti_eval.specs.declared.interrupt.Interrupt.{Interrupt}
use Rattle.ti_eval.specs.Comes.{Stops}
use Rattle.ti_eval.proofs.Lemmas.{then_stops, exps_at, no_exps}
use Rattle.ti_moves.specs.Arguments.{bound_argument}

-- ---- one parameter and its argument

behind_value : {W B : Type 0} (m : CompResult Held) (w : Held → W) (go : W → Comp B) → bind_result m (λ h. go (w h)) ≡ bind_result (bind_result m (λ h. gives (w h))) go
behind_value (Gives h rest) w go = refl
behind_value (Asks q) w go = refl
behind_value (Fails kind at) w go = refl

behind_values : {W B : Type 0} (m : CompResult Held) (as_typed : Held → Comp Held) (w : Held → W) (go : W → Comp B)
    → bind_result m (λ h rest. bind_result (as_typed h rest) (λ k. go (w k))) ≡ bind_result (bind_result (bind_result m as_typed) (λ k. gives (w k))) go
behind_values (Gives h rest) as_typed w go = behind_value (as_typed h rest) w go
behind_values (Asks q) as_typed w go = refl
behind_values (Fails kind at) as_typed w go = refl

one_bound : (E : Env) (p : VariableUse) (ps : List VariableUse) (x : NumberedExp) (xs : NumberedExps) (found : List Variable) (answers : List Answer)
    → bind_params E (p ∷ ps) (MoreExp x xs) found answers ≡ bind_result (bound_argument E p x answers) (λ w. bind_params E ps xs (w ∷ found))
one_bound E p ps x xs found answers =
    behind_values (eval E x answers) (converted (place_of_numbered x) (declared_type p.declared)) (λ h. record { named = p; held = h }) (λ w. bind_params E ps xs (w ∷ found))

-- ---- turns of the loop over them

-- the parameters from a number on
abbrev pub from_params : ℕ → List Param → List VariableUse
from_params n params = parameters_from n (map numbered_param_of params)

-- a parameter as a variable
abbrev pub variable_at : ℕ → Param → VariableUse
variable_at n p = record { number = n; declared = Typed p.ty.single (value_type_of p.ty.ty) }

abbrev exps : List Expr → NumberedExps
exps xs = numbered_exps (map expression_of xs)

params_at : (params : List Param) (n i : ℕ) (d : Param) → i < length params
    → from_params n (drop i params) ≡ variable_at n (get_or params i d) ∷ from_params (n + 1) (drop (i + 1) params)
params_at params n i d h =
    ap (from_params n) (drop-cons params i d h) ∙ ap (λ j. variable_at n (get_or params i d) ∷ from_params (n + 1) (drop j params)) (sym (add-one i))

both_at : (E : Env) (params : List Param) (args : List Expr) (i : ℕ) (d : Param) (e : Expr) (found : List Variable) (left : List Answer) → i < length params → i < length args
    → bind_params E (from_params i (drop i params)) (exps (drop i args)) found left
    ≡ bind_result (bound_argument E (variable_at i (get_or params i d)) (expression_of (get_or args i e)) left) (λ w. bind_params E (from_params (i + 1) (drop (i + 1) params)) (exps (drop (i + 1) args)) (w ∷ found))
both_at E params args i d e found left h k =
    ap (λ ps. bind_params E ps (exps (drop i args)) found left) (params_at params i i d h)
    ∙ ap (λ xs. bind_params E (variable_at i (get_or params i d) ∷ from_params (i + 1) (drop (i + 1) params)) xs found left) (exps_at args i e k)
    ∙ one_bound E (variable_at i (get_or params i d)) (from_params (i + 1) (drop (i + 1) params)) (expression_of (get_or args i e)) (exps (drop (i + 1) args)) found left

pub bound_stops : (s : Interrupt) (E : Env) (params : List Param) (args : List Expr) (i : ℕ) (d : Param) (e : Expr) (found : List Variable) (left : List Answer) (whole : CompResult (List Variable))
    → i < length params → i < length args → bind_params E (from_params i (drop i params)) (exps (drop i args)) found left ≡ whole
    → Stops s (bound_argument E (variable_at i (get_or params i d)) (expression_of (get_or args i e)) left) → Stops s whole
bound_stops s E params args i d e found left whole h k inv st =
    subst (λ (g : CompResult (List Variable)). Stops s g) (sym (both_at E params args i d e found left h k) ∙ inv)
    (then_stops s (bound_argument E (variable_at i (get_or params i d)) (expression_of (get_or args i e)) left) _ st)

pub bound_next : (E : Env) (params : List Param) (args : List Expr) (i : ℕ) (d : Param) (e : Expr) (found : List Variable) (w : Variable) (left rest : List Answer) (whole : CompResult (List Variable))
    → i < length params → i < length args → bind_params E (from_params i (drop i params)) (exps (drop i args)) found left ≡ whole
    → bound_argument E (variable_at i (get_or params i d)) (expression_of (get_or args i e)) left ≡ Gives w rest
    → bind_params E (from_params (i + 1) (drop (i + 1) params)) (exps (drop (i + 1) args)) (w ∷ found) rest ≡ whole
bound_next E params args i d e found w left rest whole h k inv is =
    sym (both_at E params args i d e found left h k ∙ ap (λ (g : CompResult Variable). bind_result g (λ v. bind_params E (from_params (i + 1) (drop (i + 1) params)) (exps (drop (i + 1) args)) (v ∷ found))) is) ∙ inv

no_more : (E : Env) (ps : List VariableUse) (found : List Variable) (left : List Answer) → bind_params E ps NoExp found left ≡ Gives found left
no_more E [] found left = refl
no_more E (p ∷ ps) found left = refl

pub no_params : (E : Env) (params : List Param) (xs : NumberedExps) (n i : ℕ) (found : List Variable) (left : List Answer) → length params ≤ i
    → bind_params E (from_params n (drop i params)) xs found left ≡ Gives found left
no_params E params xs n i found left h = ap (λ ps. bind_params E (from_params n ps) xs found left) (drop_of_length-le params h)

pub no_args : (E : Env) (ps : List VariableUse) (args : List Expr) (i : ℕ) (found : List Variable) (left : List Answer) → length args ≤ i
    → bind_params E ps (exps (drop i args)) found left ≡ Gives found left
no_args E ps args i found left h = ap (λ xs. bind_params E ps xs found left) (no_exps args i h) ∙ no_more E ps found left
