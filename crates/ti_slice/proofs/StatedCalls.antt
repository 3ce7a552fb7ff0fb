-- Proves that single parameters are bound to their arguments one by one, as in the specification of the slice.
use Rattle.std.proofs.Common.{◌≡◌, ◌∙◌, refl, sym, ap, subst, ℕ, ◌+◌, ◌<◌, ◌≤◌, Bool, true, false, List, [], ◌∷◌, map, drop, drop-cons, drop_of_length-le, add-one, length, get_or}
use Rattle.std.specs.Prelude.{if◌then◌else◌}
use Rattle.ti_base.specs.declared.entry.Answer.{Answer}
use Rattle.ti_lang.specs.declared.program.exprs.Expr.{Expr}
use Rattle.ti_lang.specs.declared.program.classes.Param.{Param}
use Rattle.ti_lang.specs.Program.Types.{VariableUse}
use Rattle.ti_lang.specs.Program.Expressions.{NumberedExp, NumberedExps, NoExp, MoreExp, numbered_exps, place_of_numbered}
use Rattle.ti_lang.specs.Program.Views.{expression_of}
use Rattle.ti_lang.specs.Meaning.Held.{Held}
use Rattle.ti_lang.specs.Meaning.Comp.{Comp, ◌>>=◌, CompResult, Gives, Asks, Fails, bind_result, gives}
use Rattle.ti_lang.specs.Meaning.Conversions.{converted}
use Rattle.ti_lang.specs.Meaning.Processes.{Variable}
use Rattle.ti_lang.specs.Meaning.Scoping.{Env, declared_type, with_new}
use Rattle.ti_lang.specs.Meaning.Evaluation.{eval}
use Rattle.ti_align.specs.SinglePart.{is_single_declared}
use Rattle.ti_align.specs.Slice.{single_bound}
use Rattle.ti_eval.specs.declared.interrupt.Interrupt.{Interrupt}
use Rattle.ti_eval.specs.Comes.{Stops}
use Rattle.ti_eval.proofs.Lemmas.{then_stops, exps_at, no_exps}
use Rattle.ti_moves.specs.Arguments.{bound_argument}
use Rattle.ti_moves.proofs.Lemmas.{from_params, variable_at}
use Rattle.ti_slice.specs.Mirrors.SingleCalls.{single_found}

-- ---- one parameter and its argument

behind_value : {B : Type 0} (m : CompResult Held) (w : Held → Variable) (found : List Variable) (go : List Variable → Comp B)
    → bind_result m (λ h. go (w h ∷ found)) ≡ bind_result (bind_result (bind_result m (λ h. gives (w h))) (λ v. gives (v ∷ found))) go
behind_value (Gives h rest) w found go = refl
behind_value (Asks q) w found go = refl
behind_value (Fails kind at) w found go = refl

behind_values : {B : Type 0} (m : CompResult Held) (as_typed : Held → Comp Held) (w : Held → Variable) (found : List Variable) (go : List Variable → Comp B)
    → bind_result m (λ h rest. bind_result (as_typed h rest) (λ k. go (w k ∷ found))) ≡ bind_result (bind_result (bind_result (bind_result m as_typed) (λ k. gives (w k))) (λ v. gives (v ∷ found))) go
behind_values (Gives h rest) as_typed w found go = behind_value (as_typed h rest) w found go
behind_values (Asks q) as_typed w found go = refl
behind_values (Fails kind at) as_typed w found go = refl

found_if : (b : Bool) (E : Env) (p : VariableUse) (ps : List VariableUse) (x : NumberedExp) (xs : NumberedExps) (found : List Variable) (answers : List Answer)
    → (if b then (eval E x >>= λ h. converted (place_of_numbered x) (declared_type p.declared) h >>= λ k. single_bound E ps xs (with_new p k found)) else single_bound E ps xs found) answers
    ≡ bind_result ((if b then (bound_argument E p x >>= λ w. gives (w ∷ found)) else gives found) answers) (λ ws. single_bound E ps xs ws)
found_if true E p ps x xs found answers =
    behind_values (eval E x answers) (converted (place_of_numbered x) (declared_type p.declared)) (λ h. record { named = p; held = h }) found (λ ws. single_bound E ps xs ws)
found_if false E p ps x xs found answers = refl

one_found : (E : Env) (p : VariableUse) (ps : List VariableUse) (x : NumberedExp) (xs : NumberedExps) (found : List Variable) (answers : List Answer)
    → single_bound E (p ∷ ps) (MoreExp x xs) found answers ≡ bind_result (single_found E p x found answers) (λ ws. single_bound E ps xs ws)
one_found E p ps x xs found answers = found_if (is_single_declared p.declared) E p ps x xs found answers

-- ---- turns of the loop over them

abbrev exps : List Expr → NumberedExps
exps xs = numbered_exps (map expression_of xs)

params_at : (params : List Param) (i : ℕ) (d : Param) → i < length params
    → from_params i (drop i params) ≡ variable_at i (get_or params i d) ∷ from_params (i + 1) (drop (i + 1) params)
params_at params i d h =
    ap (from_params i) (drop-cons params i d h) ∙ ap (λ j. variable_at i (get_or params i d) ∷ from_params (i + 1) (drop j params)) (sym (add-one i))

both_at : (E : Env) (params : List Param) (args : List Expr) (i : ℕ) (d : Param) (e : Expr) (found : List Variable) (left : List Answer) → i < length params → i < length args
    → single_bound E (from_params i (drop i params)) (exps (drop i args)) found left
    ≡ bind_result (single_found E (variable_at i (get_or params i d)) (expression_of (get_or args i e)) found left)
    (λ ws. single_bound E (from_params (i + 1) (drop (i + 1) params)) (exps (drop (i + 1) args)) ws)
both_at E params args i d e found left h k =
    ap (λ ps. single_bound E ps (exps (drop i args)) found left) (params_at params i d h)
    ∙ ap (λ xs. single_bound E (variable_at i (get_or params i d) ∷ from_params (i + 1) (drop (i + 1) params)) xs found left) (exps_at args i e k)
    ∙ one_found E (variable_at i (get_or params i d)) (from_params (i + 1) (drop (i + 1) params)) (expression_of (get_or args i e)) (exps (drop (i + 1) args)) found left

pub found_stops : (s : Interrupt) (E : Env) (params : List Param) (args : List Expr) (i : ℕ) (d : Param) (e : Expr) (found : List Variable) (left : List Answer) (whole : CompResult (List Variable))
    → i < length params → i < length args → single_bound E (from_params i (drop i params)) (exps (drop i args)) found left ≡ whole
    → Stops s (single_found E (variable_at i (get_or params i d)) (expression_of (get_or args i e)) found left) → Stops s whole
found_stops s E params args i d e found left whole h k inv st =
    subst (λ (g : CompResult (List Variable)). Stops s g) (sym (both_at E params args i d e found left h k) ∙ inv)
    (then_stops s (single_found E (variable_at i (get_or params i d)) (expression_of (get_or args i e)) found left) _ st)

pub found_next : (E : Env) (params : List Param) (args : List Expr) (i : ℕ) (d : Param) (e : Expr) (found more : List Variable) (left rest : List Answer) (whole : CompResult (List Variable))
    → i < length params → i < length args → single_bound E (from_params i (drop i params)) (exps (drop i args)) found left ≡ whole
    → single_found E (variable_at i (get_or params i d)) (expression_of (get_or args i e)) found left ≡ Gives more rest
    → single_bound E (from_params (i + 1) (drop (i + 1) params)) (exps (drop (i + 1) args)) more rest ≡ whole
found_next E params args i d e found more left rest whole h k inv is =
    sym
    (both_at E params args i d e found left h k
    ∙ ap (λ (g : CompResult (List Variable)). bind_result g (λ ws. single_bound E (from_params (i + 1) (drop (i + 1) params)) (exps (drop (i + 1) args)) ws)) is)
    ∙ inv

no_more : (E : Env) (ps : List VariableUse) (found : List Variable) (left : List Answer) → single_bound E ps NoExp found left ≡ Gives found left
no_more E [] found left = refl
no_more E (p ∷ ps) found left = refl

pub no_params : (E : Env) (params : List Param) (xs : NumberedExps) (i : ℕ) (found : List Variable) (left : List Answer) → length params ≤ i
    → single_bound E (from_params i (drop i params)) xs found left ≡ Gives found left
no_params E params xs i found left h = ap (λ ps. single_bound E (from_params i ps) xs found left) (drop_of_length-le params h)

pub no_args : (E : Env) (ps : List VariableUse) (args : List Expr) (i : ℕ) (found : List Variable) (left : List Answer) → length args ≤ i
    → single_bound E ps (exps (drop i args)) found left ≡ Gives found left
no_args E ps args i found left h = ap (λ xs. single_bound E ps xs found left) (no_exps args i h) ∙ no_more E ps found left
