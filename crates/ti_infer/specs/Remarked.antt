-- A syntax tree with other modifiers and qualifiers at its types, fields and methods. Casts keep their qualifiers, since a cast to a
-- class without any would parse differently.
use Rattle.std.specs.Prelude.{List, map}
use Rattle.ti_base.specs.declared.place.Place.{Place}
use Rattle.ti_syntax.specs.declared.tree.types.Qualifier.{Qualifier}
use Rattle.ti_syntax.specs.declared.tree.classes.Modifier.{Modifier}
use Rattle.ti_syntax.specs.Trees.Types.{GridTree, TypeTree}
use Rattle.ti_syntax.specs.Trees.Statements.{InitTree, Stm, MaybeStm, Stms}
use Rattle.ti_syntax.specs.Trees.Statements as s
use Rattle.ti_syntax.specs.Trees.Classes.{FieldTree, ParamTree, ParamsTree, MainArgs, Params, ResultTree, MethodTree, MemberTree, FieldMember, MethodMember, ClassTree, TextTree}
use Rattle.ti_syntax.specs.Trees.Classes as c

-- functions from old to new qualifiers and modifiers: at every type, at the type of a declared name, at a result, at a field, and
-- at a method with these parameters
pub record Remarking : Type 0 where
  pub words : List Qualifier → List Qualifier
  pub declared : Place → List Qualifier → List Qualifier
  pub results : Place → List Qualifier → List Qualifier
  pub fields : List Modifier → List Modifier
  pub methods : ParamsTree → Place → List Modifier → List Modifier

module _ (r : Remarking) where
  abbrev pub remarked_grid : GridTree → GridTree
  remarked_grid g = record g { qualifiers = r.words g.qualifiers }

  abbrev pub remarked_type : (List Qualifier → List Qualifier) → TypeTree → TypeTree
  remarked_type words t = record { base = t.base; qualifiers = words t.qualifiers; grids = map remarked_grid t.grids }

  abbrev pub remarked_init : InitTree → InitTree
  remarked_init (s.NewGrid at region element dims_at dims) = s.NewGrid at region (remarked_type r.words element) dims_at dims
  remarked_init (s.Value x) = s.Value x
  remarked_init (s.NewRegion at) = s.NewRegion at
  remarked_init (s.NewObject at region name_at name) = s.NewObject at region name_at name
  remarked_init (s.Broadcast at x root) = s.Broadcast at x root

  abbrev mutual
    pub remarked_stm : Stm → Stm
    remarked_stm (s.Declare at type name value) = s.Declare at (remarked_type (r.declared at) type) name (remarked_init value)
    remarked_stm (s.Assign at target value) = s.Assign at target (remarked_init value)
    remarked_stm (s.Block body) = s.Block (remarked_all body)
    remarked_stm (s.If at c x) = s.If at c (remarked_stm x)
    remarked_stm (s.IfElse at c x y) = s.IfElse at c (remarked_stm x) (remarked_stm y)
    remarked_stm (s.While at c body) = s.While at c (remarked_stm body)
    remarked_stm (s.For at first c update body) = s.For at (remarked_maybe first) c (remarked_maybe update) (remarked_stm body)
    remarked_stm (s.Foreach at name_at name domain body) = s.Foreach at name_at name domain (remarked_stm body)
    remarked_stm s.Empty = s.Empty
    remarked_stm (s.Update at op target x) = s.Update at op target x
    remarked_stm (s.Step at op target) = s.Step at op target
    remarked_stm (s.Call x) = s.Call x
    remarked_stm (s.Print at what) = s.Print at what
    remarked_stm (s.Barrier at) = s.Barrier at
    remarked_stm (s.Break at) = s.Break at
    remarked_stm (s.Continue at) = s.Continue at
    remarked_stm (s.Return at value) = s.Return at value

    pub remarked_maybe : MaybeStm → MaybeStm
    remarked_maybe s.NoStm = s.NoStm
    remarked_maybe (s.SomeStm x) = s.SomeStm (remarked_stm x)

    pub remarked_all : Stms → Stms
    remarked_all s.Nil = s.Nil
    remarked_all (s.Cons x rest) = s.Cons (remarked_stm x) (remarked_all rest)

  abbrev pub remarked_param : ParamTree → ParamTree
  remarked_param w = record w { ty = remarked_type (r.declared w.place) w.ty }

  abbrev pub remarked_params : ParamsTree → ParamsTree
  remarked_params (MainArgs at name) = MainArgs at name
  remarked_params (Params params) = Params (map remarked_param params)

  abbrev pub remarked_result : Place → ResultTree → ResultTree
  remarked_result place (c.Void at) = c.Void at
  remarked_result place (c.Typed type) = c.Typed (remarked_type (r.results place) type)

  abbrev pub remarked_field : FieldTree → FieldTree
  remarked_field f = record f { modifiers = r.fields f.modifiers; ty = remarked_type r.words f.ty }

  abbrev pub remarked_method : MethodTree → MethodTree
  remarked_method m = record m {
    modifiers = r.methods m.params m.place m.modifiers;
    result = remarked_result m.place m.result;
    params = remarked_params m.params;
    body = map remarked_stm m.body;
  }

  abbrev pub remarked_member : MemberTree → MemberTree
  remarked_member (FieldMember f) = FieldMember (remarked_field f)
  remarked_member (MethodMember m) = MethodMember (remarked_method m)

  abbrev pub remarked_class : ClassTree → ClassTree
  remarked_class c = record c { members = map remarked_member c.members }

  abbrev pub remarked_text : TextTree → TextTree
  remarked_text text = map remarked_class text
