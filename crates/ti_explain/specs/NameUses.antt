-- The use of a name at a position of a method: what it has to be the name of.
use Rattle.std.specs.Prelude.{ℕ, if◌then◌else◌, List, [], ◌∷◌, Option, Some, None}
use Rattle.std.specs.Option.{option_map, option_or}
use Rattle.ti_base.specs.declared.place.Place.{Place}
use Rattle.ti_base.specs.Places.{same_place}
use Rattle.ti_syntax.specs.declared.tree.types.Base.{Base}
use Rattle.ti_syntax.specs.declared.tree.types.Base.TheVariants as b
use Rattle.ti_syntax.specs.Trees.Types.{TypeTree}
use Rattle.ti_syntax.specs.Trees.Expressions.{Exp, Exps, RangeTree, RangeTrees, ranges_tree}
use Rattle.ti_syntax.specs.Trees.Expressions as t
use Rattle.ti_syntax.specs.Trees.Statements.{DimsTree, InitTree, PrintTree, Stm, MaybeStm, Stms, stms}
use Rattle.ti_syntax.specs.Trees.Statements as s
use Rattle.ti_syntax.specs.Trees.Classes.{ParamTree, ParamsTree, MainArgs, Params, ResultTree, Void, Typed, MethodTree}
use Rattle.ti_explain.specs.declared.name_reason.SoughtName.{SoughtName}
use Rattle.ti_explain.specs.declared.name_reason.SoughtName.TheVariants.{Variable, BeforeDot, Method, StaticMethod, StaticField, Class, This}

-- a use of a name: what it has to be the name of, and the class before the dot, where there is one
pub record UsedName : Type 0 where
  pub sought : SoughtName
  pub class : List ℕ
  pub name : List ℕ

-- the use of a name that is at this position, if that is the one that is looked for
abbrev pub used_at : Place → Place → SoughtName → List ℕ → List ℕ → Option UsedName
used_at p at sought class name = if same_place p at then Some (record { sought = sought; class = class; name = name }) else None

-- ---- types

abbrev pub use_in_base : Place → Base → Option UsedName
use_in_base p (b.Named at name) = used_at p at Class [] name
use_in_base p _ = None

abbrev pub use_in_type : Place → TypeTree → Option UsedName
use_in_type p t = use_in_base p t.base

-- ---- expressions

-- an unqualified name before a dot may also be that of a class
abbrev pub before_dot : Exp → Option UsedName → Option UsedName
before_dot (t.Name at name) found = option_map (λ (u : UsedName). record u { sought = BeforeDot }) found
before_dot _ found = found

-- the name of a member after that of a class
abbrev pub used_member : Place → Place → SoughtName → Exp → List ℕ → Option UsedName
used_member p at sought (t.Name class_at class) name = used_at p at sought class name
used_member p at sought _ name = None

abbrev mutual
  -- the use at this position in an expression
  pub use_in_exp : Place → Exp → Option UsedName
  use_in_exp p (t.This at) = used_at p at This [] []
  use_in_exp p (t.Name at name) = used_at p at Variable [] name
  use_in_exp p (t.Call at name args) = option_or (used_at p at Method [] name) (use_among p args)
  use_in_exp p (t.Point at parts) = use_among p parts
  use_in_exp p (t.Rect at ranges) = use_among_ranges p ranges
  use_in_exp p (t.Unary at op x) = use_in_exp p x
  use_in_exp p (t.Binary at op x y) = option_or (use_in_exp p x) (use_in_exp p y)
  use_in_exp p (t.Cast at to x) = option_or (use_in_type p to) (use_in_exp p x)
  use_in_exp p (t.Select at x name) = option_or (used_member p at StaticField x name) (before_dot x (use_in_exp p x))
  use_in_exp p (t.Member at x name args) =
      option_or (option_or (used_member p at StaticMethod x name) (before_dot x (use_in_exp p x))) (use_among p args)
  use_in_exp p (t.Index at x parts) = option_or (use_in_exp p x) (use_among p parts)
  use_in_exp p _ = None

  pub use_among : Place → Exps → Option UsedName
  use_among p t.NoExp = None
  use_among p (t.MoreExp x rest) = option_or (use_in_exp p x) (use_among p rest)

  pub use_in_range : Place → RangeTree → Option UsedName
  use_in_range p (t.Plain low high) = option_or (use_in_exp p low) (use_in_exp p high)
  use_in_range p (t.Stepped low high step) = option_or (use_in_exp p low) (option_or (use_in_exp p high) (use_in_exp p step))

  pub use_among_ranges : Place → RangeTrees → Option UsedName
  use_among_ranges p t.NoRange = None
  use_among_ranges p (t.MoreRange r rest) = option_or (use_in_range p r) (use_among_ranges p rest)

abbrev pub use_in_maybe : Place → Option Exp → Option UsedName
use_in_maybe p None = None
use_in_maybe p (Some x) = use_in_exp p x

-- ---- statements

abbrev pub use_in_dims : Place → DimsTree → Option UsedName
use_in_dims p (s.Domain x) = use_in_exp p x
use_in_dims p (s.Ranges ranges) = use_among_ranges p (ranges_tree ranges)

-- in the right side of a declaration or an assignment
abbrev pub use_in_init : Place → InitTree → Option UsedName
use_in_init p (s.Value x) = use_in_exp p x
use_in_init p (s.NewRegion at) = None
use_in_init p (s.NewObject at region name_at name) = option_or (use_in_maybe p region) (used_at p name_at Class [] name)
use_in_init p (s.NewGrid at region element dims_at dims) =
    option_or (use_in_maybe p region) (option_or (use_in_type p element) (use_in_dims p dims))
use_in_init p (s.Broadcast at x root) = option_or (use_in_exp p x) (use_in_exp p root)

abbrev pub use_in_print : Place → PrintTree → Option UsedName
use_in_print p s.Nothing = None
use_in_print p (s.Text text) = None
use_in_print p (s.Expression x) = use_in_exp p x
use_in_print p (s.TextAndExpression text x) = use_in_exp p x

abbrev mutual
  pub use_in_stm : Place → Stm → Option UsedName
  use_in_stm p (s.Declare at type name value) = option_or (use_in_type p type) (use_in_init p value)
  use_in_stm p (s.Assign at target value) = option_or (use_in_exp p target) (use_in_init p value)
  use_in_stm p (s.Update at op target x) = option_or (use_in_exp p target) (use_in_exp p x)
  use_in_stm p (s.Step at op target) = use_in_exp p target
  use_in_stm p (s.Call x) = use_in_exp p x
  use_in_stm p (s.Print at what) = use_in_print p what
  use_in_stm p (s.Return at value) = use_in_maybe p value
  use_in_stm p (s.Block body) = use_in_all p body
  use_in_stm p (s.If at c x) = option_or (use_in_exp p c) (use_in_stm p x)
  use_in_stm p (s.IfElse at c x y) = option_or (use_in_exp p c) (option_or (use_in_stm p x) (use_in_stm p y))
  use_in_stm p (s.While at c body) = option_or (use_in_exp p c) (use_in_stm p body)
  use_in_stm p (s.For at first c update body) =
      option_or (use_in_maybe_stm p first) (option_or (use_in_maybe p c) (option_or (use_in_maybe_stm p update) (use_in_stm p body)))
  use_in_stm p (s.Foreach at name_at name domain body) = option_or (use_in_exp p domain) (use_in_stm p body)
  use_in_stm p _ = None

  pub use_in_maybe_stm : Place → MaybeStm → Option UsedName
  use_in_maybe_stm p s.NoStm = None
  use_in_maybe_stm p (s.SomeStm x) = use_in_stm p x

  pub use_in_all : Place → Stms → Option UsedName
  use_in_all p s.Nil = None
  use_in_all p (s.Cons x rest) = option_or (use_in_stm p x) (use_in_all p rest)

-- ---- methods

abbrev pub use_in_result : Place → ResultTree → Option UsedName
use_in_result p (Void at) = None
use_in_result p (Typed type) = use_in_type p type

abbrev pub use_among_params : Place → List ParamTree → Option UsedName
use_among_params p [] = None
use_among_params p (x ∷ rest) = option_or (use_in_type p x.ty) (use_among_params p rest)

abbrev pub use_in_params : Place → ParamsTree → Option UsedName
use_in_params p (MainArgs at name) = None
use_in_params p (Params params) = use_among_params p params

-- the use at this position in a method
abbrev pub use_in_method : Place → MethodTree → Option UsedName
use_in_method p m = option_or (use_in_result p m.result) (option_or (use_in_params p m.params) (use_in_all p (stms m.body)))
