-- The program with `single` exactly where a marking has an annotation, and at `main`.
use Rattle.std.specs.Prelude.{ℕ, Bool, false, ◌||◌, if◌then◌else◌, [], ◌∷◌, ◌++◌, map, option_map, slice_get}
use Rattle.std.specs.Option.{option_map_or}
use Rattle.ti_base.specs.declared.place.Place.{Place}
use Rattle.ti_syntax.specs.declared.tree.types.QualifierWord.TheVariants.{Single}
use Rattle.ti_syntax.specs.declared.tree.classes.ModifierWord.TheVariants as word
use Rattle.ti_lang.specs.Program.Types.{NumberedType, Declaration, Typed, Foreach}
use Rattle.ti_lang.specs.Program.Expressions.{NumberedExp, NumberedExps, NumberedRange, NumberedRanges}
use Rattle.ti_lang.specs.Program.Expressions as x
use Rattle.ti_lang.specs.Program.Statements.{NumberedDims, NumberedInit, NumberedPrint, NumberedStm, MaybeNumbered, NumberedStms}
use Rattle.ti_lang.specs.Program.Statements as st
use Rattle.ti_lang.specs.Program.Classes.{NumberedParam, NumberedParams, MainArgs, Params, NumberedResult, NumberedMethod, ProgramView}
use Rattle.ti_lang.specs.Program.Classes as c
use Rattle.ti_blame.specs.Marks.{Marks}
use Rattle.ti_infer.specs.Marks.{marks_variable}

-- ---- types

-- the type with the qualifier `single` appended, with this place, if it is annotated; otherwise it isn't single
abbrev pub marked_type : Bool → Place → NumberedType → NumberedType
marked_type b at t = record t { is_single = b; qualifiers = t.qualifiers ++ (if b then record { word = Single; place = at } ∷ [] else []) }

-- ---- uses of variables

abbrev pub marked_declaration : Bool → Declaration → Declaration
marked_declaration b (Typed is_single type) = Typed b type
marked_declaration b Foreach = Foreach

-- each use of a variable states whether it is single, given as a test of its number
module _ (singles : ℕ → Bool) where
  abbrev mutual
    pub marked_exp : NumberedExp → NumberedExp
    marked_exp (x.Variable at v) = x.Variable at (record v { declared = marked_declaration (singles v.number) v.declared })
    marked_exp (x.Call at method args) = x.Call at method (marked_exps args)
    marked_exp (x.OwnCall at method args) = x.OwnCall at method (marked_exps args)
    marked_exp (x.Point at parts) = x.Point at (marked_exps parts)
    marked_exp (x.Rect at ranges) = x.Rect at (marked_ranges ranges)
    marked_exp (x.Unary at op a) = x.Unary at op (marked_exp a)
    marked_exp (x.Binary at op a b) = x.Binary at op (marked_exp a) (marked_exp b)
    marked_exp (x.Cast at to a) = x.Cast at to (marked_exp a)
    marked_exp (x.Select at a name) = x.Select at (marked_exp a) name
    marked_exp (x.Member at a name args) = x.Member at (marked_exp a) name (marked_exps args)
    marked_exp (x.Index at a parts) = x.Index at (marked_exp a) (marked_exps parts)
    marked_exp (x.Int at n) = x.Int at n
    marked_exp (x.Long at n) = x.Long at n
    marked_exp (x.Truth at b) = x.Truth at b
    marked_exp (x.Null at) = x.Null at
    marked_exp (x.This at) = x.This at
    marked_exp (x.OwnField at field) = x.OwnField at field
    marked_exp (x.ThisProc at) = x.ThisProc at
    marked_exp (x.NumProcs at) = x.NumProcs at

    pub marked_exps : NumberedExps → NumberedExps
    marked_exps x.NoExp = x.NoExp
    marked_exps (x.MoreExp a rest) = x.MoreExp (marked_exp a) (marked_exps rest)

    pub marked_range : NumberedRange → NumberedRange
    marked_range (x.Plain low high) = x.Plain (marked_exp low) (marked_exp high)
    marked_range (x.Stepped low high step) = x.Stepped (marked_exp low) (marked_exp high) (marked_exp step)

    pub marked_ranges : NumberedRanges → NumberedRanges
    marked_ranges x.NoRange = x.NoRange
    marked_ranges (x.MoreRange r rest) = x.MoreRange (marked_range r) (marked_ranges rest)

  abbrev pub marked_dims : NumberedDims → NumberedDims
  marked_dims (st.Domain a) = st.Domain (marked_exp a)
  marked_dims (st.Ranges ranges) = st.Ranges (map marked_range ranges)

  abbrev pub marked_init : NumberedInit → NumberedInit
  marked_init (st.Value a) = st.Value (marked_exp a)
  marked_init (st.NewRegion at) = st.NewRegion at
  marked_init (st.NewObject at region class) = st.NewObject at (option_map marked_exp region) class
  marked_init (st.NewGrid at region element dims_at dims) = st.NewGrid at (option_map marked_exp region) element dims_at (marked_dims dims)
  marked_init (st.Broadcast at a root) = st.Broadcast at (marked_exp a) (marked_exp root)

  abbrev pub marked_print : NumberedPrint → NumberedPrint
  marked_print st.Nothing = st.Nothing
  marked_print (st.Text literal) = st.Text literal
  marked_print (st.Expression a) = st.Expression (marked_exp a)
  marked_print (st.TextAndExpression literal a) = st.TextAndExpression literal (marked_exp a)

  -- ---- statements

  -- each declaration states whether it is single, given as a test of its place
  module _ (declared : Place → Bool) where
    abbrev mutual
      pub marked_stm : NumberedStm → NumberedStm
      marked_stm (st.Declare at type variable value) = st.Declare at (marked_type (declared at) at type) variable (marked_init value)
      marked_stm (st.Assign at target value) = st.Assign at (marked_exp target) (marked_init value)
      marked_stm (st.Update at op target a) = st.Update at op (marked_exp target) (marked_exp a)
      marked_stm (st.Step at op target) = st.Step at op (marked_exp target)
      marked_stm (st.Call a) = st.Call (marked_exp a)
      marked_stm (st.Print at what) = st.Print at (marked_print what)
      marked_stm (st.Return at value) = st.Return at (option_map marked_exp value)
      marked_stm (st.Block body) = st.Block (marked_stms body)
      marked_stm (st.If at c a) = st.If at (marked_exp c) (marked_stm a)
      marked_stm (st.IfElse at c a b) = st.IfElse at (marked_exp c) (marked_stm a) (marked_stm b)
      marked_stm (st.While at c body) = st.While at (marked_exp c) (marked_stm body)
      marked_stm (st.For at first c update body) =
          st.For at (marked_maybe first) (option_map marked_exp c) (marked_maybe update) (marked_stm body)
      marked_stm (st.Foreach at variable domain body) = st.Foreach at variable (marked_exp domain) (marked_stm body)
      marked_stm st.Empty = st.Empty
      marked_stm (st.Barrier at) = st.Barrier at
      marked_stm (st.Break at) = st.Break at
      marked_stm (st.Continue at) = st.Continue at

      pub marked_maybe : MaybeNumbered → MaybeNumbered
      marked_maybe st.NoStm = st.NoStm
      marked_maybe (st.SomeStm a) = st.SomeStm (marked_stm a)

      pub marked_stms : NumberedStms → NumberedStms
      marked_stms st.Nil = st.Nil
      marked_stms (st.Cons a rest) = st.Cons (marked_stm a) (marked_stms rest)

-- ---- methods

abbrev pub marked_param : Marks → NumberedParam → NumberedParam
marked_param marks w = record w { ty = marked_type (marks.variables w.place) w.place w.ty }

abbrev pub marked_params : Marks → NumberedParams → NumberedParams
marked_params marks MainArgs = MainArgs
marked_params marks (Params params) = Params (map (marked_param marks) params)

-- the annotation of a result has the place of the method's name
abbrev pub marked_result : Bool → Place → NumberedResult → NumberedResult
marked_result b at c.Void = c.Void
marked_result b at (c.Typed t) = c.Typed (marked_type b at t)

abbrev pub marked_method : Marks → NumberedMethod → NumberedMethod
marked_method marks m = record m {
  modifiers = m.modifiers ++ (if marks.methods m.place then record { word = word.Single; place = m.place } ∷ [] else []);
  is_single = m.is_single || marks.methods m.place;
  result = marked_result (marks.results m.place) m.place m.result;
  params = marked_params marks m.params;
  body = map (marked_stm (marks_variable marks m) marks.variables) m.body;
}

-- ---- programs

-- the program in which exactly what the marking annotates is single, except for methods that are single already
abbrev pub marked : Marks → ProgramView → ProgramView
marked marks p = record p { methods = map (marked_method marks) p.methods }

-- the marking annotates `main`, which is the only method that is single without an annotation
abbrev pub marks_main : Marks → ProgramView → Bool
marks_main marks p = option_map_or (λ (m : NumberedMethod). marks.methods m.place) (slice_get p.methods p.main) false
