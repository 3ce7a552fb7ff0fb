-- The errors of a call whose receiver and arguments have types.
use Rattle.std.specs.Prelude.{ℕ, Bool, true, false, not, ◌&&◌, ◌||◌, ◌==◌, nat_lt, if◌then◌else◌, List, [], ◌∷◌, ◌++◌, map, length, Option, Some, None, is_some}
use Rattle.ti_base.specs.declared.place.Place.{Place}
use Rattle.ti_lang.specs.Program.Types.{ValueType, Rc, Region, Class, Grid}
use Rattle.ti_lang.specs.Program.Classes.{NumberedParams, MainArgs, Params, NumberedMethod, ProgramView}
use Rattle.ti_lang.specs.Typing.Kinds.{domain_dim}
use Rattle.ti_lang.specs.Typing.Fits.{fits}
use Rattle.ti_lang.specs.Typing.BuiltIn.{BuiltIn, Size, Min, Max, Contains, Domain, Restrict, Translate, Slice, Copy, Exchange, Delete, built_in, same_grids, has_local_elements, can_copy, can_exchange, member_type}
use Rattle.ti_lang.specs.Typing.Declared.{instance_method, types_of}
use Rattle.ti_lang.specs.Typing.Expressions.{all_ints}
use Rattle.ti_rules.specs.declared.rule.Rule.TheVariants.{Y1, Y2, Y4, Y5, Q2, Q3}
use Rattle.ti_rules.specs.declared.refusal.Refusal.{Refusal}
use Rattle.ti_rules.specs.Refusals.{refused_if}
use Rattle.ti_lang.specs.Typing.Alike.{erase_dims, as_local}
use Rattle.ti_rules.specs.Broken.Refused.{refusal_at, operand_refusal, misfit}

-- ---- declared methods

-- the errors of arguments that don't fit their parameters, at the positions of the arguments
abbrev pub misfits : List Place → List ValueType → List ValueType → List Refusal
misfits (at ∷ places) (t ∷ ts) (u ∷ us) = misfit at t u ++ misfits places ts us
misfits _ _ _ = []

-- the error of the first argument, whatever its type
abbrev pub first_misfit : List Place → List Refusal
first_misfit [] = []
first_misfit (at ∷ places) = refusal_at Y2 at

-- a wrong number of arguments breaks Y4; the `String[] x` of `main` counts as one parameter, which no value fits
abbrev pub params_refusals : Place → List Place → NumberedParams → List ValueType → List Refusal
params_refusals at places MainArgs ts = if length ts == 1 then first_misfit places else refusal_at Y4 at
params_refusals at places (Params params) ts = if length ts == length params then misfits places ts (types_of params) else refusal_at Y4 at

-- the errors of a call of the method, at its name, with arguments of these types at these positions
abbrev pub call_refusals : Place → List Place → Option NumberedMethod → List ValueType → List Refusal
call_refusals at places None ts = []
call_refusals at places (Some m) ts = params_refusals at places m.params ts

-- the errors of a call of an instance method on an object; the name must be that of one of its class
abbrev pub instance_refusals : Place → List Place → Option NumberedMethod → List ValueType → List Refusal
instance_refusals at places None ts = refusal_at Y1 at
instance_refusals at places (Some m) ts = params_refusals at places m.params ts

-- ---- built-in members

-- values of this type have the member
abbrev pub has_member : BuiltIn → ValueType → Bool
has_member Size t = is_some (domain_dim t)
has_member Contains t = is_some (domain_dim t)
has_member Min (Rc n) = true
has_member Max (Rc n) = true
has_member Domain (Grid t n local) = true
has_member Restrict (Grid t n local) = true
has_member Translate (Grid t n local) = true
has_member Slice (Grid t n local) = true
has_member Copy (Grid t n local) = true
has_member Exchange (Grid t n local) = true
has_member Delete Region = true
has_member _ _ = false

-- the number of arguments of the member
abbrev pub argument_count : BuiltIn → ℕ
argument_count Contains = 1
argument_count Restrict = 1
argument_count Translate = 1
argument_count Slice = 2
argument_count Copy = 1
argument_count Exchange = 1
argument_count _ = 0

-- a grid is copied from one with the same element type and dimension; if the elements are local references, both grids must be local
abbrev pub copy_refusals : Place → ValueType → List ValueType → List Refusal
copy_refusals at t (u ∷ []) =
    if same_grids t u then refused_if (not (can_copy t u)) Q2 at else operand_refusal at false (same_grids (erase_dims t) (erase_dims u))
copy_refusals at t _ = []

-- the elements of the one-dimensional grid would accept the value if it were a local reference
abbrev pub takes_local : ValueType → ValueType → Bool
takes_local (Grid t n local) u = (n == 1) && fits (as_local u) t
takes_local _ _ = false

-- a value is exchanged through a one-dimensional grid whose elements accept it, and never into elements of local type; for a value that
-- these would accept but for its `local`, only the latter is reported
abbrev pub exchange_refusals : Place → ValueType → List ValueType → List Refusal
exchange_refusals at t (u ∷ []) =
    operand_refusal at (can_exchange t u || takes_local t u) (can_exchange (erase_dims t) (erase_dims u)) ++ refused_if (has_local_elements t) Q3 at
exchange_refusals at t _ = []

-- a one-dimensional grid has no slices; for others, both arguments, the coordinate and its value, are ints
abbrev pub slice_refusals : Place → ValueType → List ValueType → List Refusal
slice_refusals at (Grid t n local) ts = if nat_lt 1 n then operand_refusal at (all_ints ts) false else refusal_at Y5 at
slice_refusals at _ ts = []

-- the errors of the arguments of a member, if their number is right
abbrev pub argument_refusals : Place → BuiltIn → ValueType → List ValueType → List Refusal
argument_refusals at Slice t ts = slice_refusals at t ts
argument_refusals at Copy t ts = copy_refusals at t ts
argument_refusals at Exchange t ts = exchange_refusals at t ts
argument_refusals at b t ts = operand_refusal at (is_some (member_type b t ts)) (is_some (member_type b (erase_dims t) (map erase_dims ts)))

-- a name that is no member of the receiver breaks Y1, a wrong number of arguments Y4
abbrev pub built_in_refusals : Place → Option BuiltIn → ValueType → List ValueType → List Refusal
built_in_refusals at None t ts = refusal_at Y1 at
built_in_refusals at (Some b) t ts =
    if not (has_member b t) then refusal_at Y1 at else
    if not (length ts == argument_count b) then refusal_at Y4 at else
    argument_refusals at b t ts

-- ---- both kinds of calls

-- the errors of `x.f(..)`: on an object a call of an instance method, on any other value a built-in member
abbrev pub member_refusals : ProgramView → Place → List Place → ℕ → ValueType → List ValueType → List Refusal
member_refusals p at places name (Class c local) ts = instance_refusals at places (instance_method p c name) ts
member_refusals p at places name t ts = built_in_refusals at (built_in p name) t ts
