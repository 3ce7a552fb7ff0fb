-- If no naming rule is broken in an expression, the model is proved to resolve it as specified.
use Rattle.std.proofs.Common.{◌≡◌, ℕ, Bool, true, false, ◌&&◌, if◌then◌else◌, List, [], ◌++◌, Option, Some, None, is_some, is_none, refl}
use Rattle.ti_base.specs.declared.place.Place.{Place}
use Rattle.ti_syntax.specs.declared.tree.types.Base.{Base}
use Rattle.ti_syntax.specs.declared.tree.types.Base.TheVariants as b
use Rattle.ti_syntax.specs.Trees.Types.{TypeTree}
use Rattle.ti_syntax.specs.Trees.Expressions.{Exp, Exps, RangeTree, RangeTrees, ranges_tree}
use Rattle.ti_syntax.specs.Trees.Expressions as t
use Rattle.ti_lang.specs.Program.Types.{VariableUse}
use Rattle.ti_lang.specs.Program.Expressions.{NumberedExp, NumberedExps}
use Rattle.ti_lang.specs.Program.Expressions as n
use Rattle.ti_lang.specs.Members.{class_named, is_static_method}
use Rattle.ti_lang.specs.Scopes.{numbered_type, Site, variable_named, own_field_named, own_method_named, static_method_named, class_before_dot}
use Rattle.ti_lang.specs.Nodes.{base_nodes, type_nodes, exp_nodes, exps_nodes, range_nodes, ranges_nodes, maybe_nodes}
use Rattle.ti_lang.specs.Numbering.{IsKnownBase, NumbersType, known, NumbersExp, int, long, truth, null, this, variable, own_field, call}
use Rattle.ti_lang.specs.Numbering.{own_call, this_proc, num_procs, point, rect, unary, binary, cast, select, member, class_call, index}
use Rattle.ti_lang.specs.Numbering.{NumbersExps, no_exps, more_exps, NumbersRange, plain, stepped, NumbersRanges, no_ranges, more_ranges}
use Rattle.ti_lang.specs.Numbering.{NumbersMaybe}
use Rattle.ti_rules.specs.declared.rule.Rule.TheVariants.{N1}
use Rattle.ti_rules.specs.Refusals.{refused_if}
use Rattle.ti_rules.specs.BrokenNames.{lacks_method}
use Rattle.ti_names.specs.Mirrors.Numbered.{name_expr, method_call, static_call, select_expr, member_call, number_exp, number_exps, number_range, number_ranges, number_maybe}
use Rattle.ti_names.proofs.CleanNodes.{Clean, first_clean, rest_clean, clean_left, clean_right}

-- ---- types

pub known_class : (text : _) (at : Place) (name : List ℕ) (found : Option ℕ) → class_named text name ≡ found
    → refused_if (is_none found) N1 at ≡ [] → (class : ℕ) × (class_named text name ≡ Some class)
known_class text at name (Some class) is none = (class, is)
known_class text at name None is none = cc

known_base : (site : Site) (base : Base) → Clean (base_nodes site base) → IsKnownBase site.text base
known_base site (b.Int at) c = tt
known_base site (b.Long at) c = tt
known_base site (b.Boolean at) c = tt
known_base site (b.Point at n) c = tt
known_base site (b.RectDomain at n) c = tt
known_base site (b.Domain at n) c = tt
known_base site (b.SharedRegion at) c = tt
known_base site (b.Named at name) c = known_class site.text at name (class_named site.text name) refl (first_clean c)

pub total_type : (site : Site) (type : TypeTree) → Clean (type_nodes site type) → NumbersType site.text type (numbered_type site.text type)
total_type site type c = known (known_base site type.base c)

-- ---- expressions

total_this : (site : Site) (at : Place) (static : Bool) → site.static ≡ static → refused_if static N1 at ≡ [] → NumbersExp site (t.This at) (n.This at)
total_this site at true is none = cc
total_this site at false is none = this is

total_name : (site : Site) (at : Place) (name : List ℕ) (v : Option VariableUse) (f : Option ℕ) → variable_named site name ≡ v → own_field_named site name ≡ f
    → refused_if (is_none v && is_none f) N1 at ≡ [] → NumbersExp site (t.Name at name) (name_expr at v f)
total_name site at name (Some v) f is field none = variable is
total_name site at name None (Some f) is field none = own_field is field
total_name site at name None None is field none = cc

total_call : (site : Site) (at : Place) (name : List ℕ) (xs : Exps) (m : Option ℕ) → own_method_named site name ≡ m → refused_if (is_none m) N1 at ≡ [] → NumbersExps site xs (number_exps site xs)
    → NumbersExp site (t.Call at name xs) (method_call site.text at m (number_exps site xs))
total_call site at name xs None is none args = cc
total_call site at name xs (Some m) is none args = by (is_static_method site.text m) refl
  where
    by : (b : Bool) → is_static_method site.text m ≡ b → NumbersExp site (t.Call at name xs) (if b then n.Call at m (number_exps site xs) else n.OwnCall at m (number_exps site xs))
    by true static = call is static args
    by false static = own_call is static args

total_select : (site : Site) (at : Place) (x : Exp) (name : List ℕ) (class : Option ℕ) → class_before_dot site x ≡ class → refused_if (is_some class) N1 at ≡ []
    → Clean (if is_some class then [] else exp_nodes site x) → (Clean (exp_nodes site x) → NumbersExp site x (number_exp site x))
    → NumbersExp site (t.Select at x name) (select_expr site at class (number_exp site x) name)
total_select site at x name None is none c inner = select is (inner c)
total_select site at x name (Some class) is none c inner = cc

total_member : (site : Site) (at : Place) (x : Exp) (name : List ℕ) (xs : Exps) (class : Option ℕ) → class_before_dot site x ≡ class → refused_if (lacks_method site class name) N1 at ≡ []
    → Clean (if is_some class then [] else exp_nodes site x) → (Clean (exp_nodes site x) → NumbersExp site x (number_exp site x)) → NumbersExps site xs (number_exps site xs)
    → NumbersExp site (t.Member at x name xs) (member_call site at class (number_exp site x) name (number_exps site xs))
total_member site at x name xs None is none c inner args = member is (inner c) args
total_member site at x name xs (Some class) is none c inner args = by (static_method_named site class name) refl none
  where
    by : (m : Option ℕ) → static_method_named site class name ≡ m → refused_if (is_none m) N1 at ≡ [] → NumbersExp site (t.Member at x name xs) (static_call at m (number_exps site xs))
    by None method none = cc
    by (Some m) method none = class_call is method args

mutual
  pub total_exp : (site : Site) (x : Exp) → Clean (exp_nodes site x) → NumbersExp site x (number_exp site x)
  total_exp site (t.Int at i) c = int
  total_exp site (t.Long at i) c = long
  total_exp site (t.Truth at b) c = truth
  total_exp site (t.Null at) c = null
  total_exp site (t.This at) c = total_this site at site.static refl (first_clean c)
  total_exp site (t.Name at name) c = total_name site at name (variable_named site name) (own_field_named site name) refl refl (first_clean c)
  total_exp site (t.Call at name args) c = total_call site at name args (own_method_named site name) refl (first_clean c) (total_exps site args (rest_clean c))
  total_exp site (t.ThisProc at) c = this_proc
  total_exp site (t.NumProcs at) c = num_procs
  total_exp site (t.Point at parts) c = point (total_exps site parts c)
  total_exp site (t.Rect at ranges) c = rect (total_ranges site ranges c)
  total_exp site (t.Unary at op x) c = unary (total_exp site x c)
  total_exp site (t.Binary at op x y) c = binary (total_exp site x (clean_left (exp_nodes site x) _ c)) (total_exp site y (clean_right (exp_nodes site x) _ c))
  total_exp site (t.Cast at to x) c = cast (total_type site to (clean_left (type_nodes site to) _ c)) (total_exp site x (clean_right (type_nodes site to) _ c))
  total_exp site (t.Select at x name) c = total_select site at x name (class_before_dot site x) refl (first_clean c) (rest_clean c) (total_exp site x)
  total_exp site (t.Member at x name args) c =
      let receiver = if is_some (class_before_dot site x) then [] else exp_nodes site x in
      total_member site at x name args (class_before_dot site x) refl (first_clean c) (clean_left receiver _ (rest_clean c))
      (total_exp site x) (total_exps site args (clean_right receiver _ (rest_clean c)))
  total_exp site (t.Index at x parts) c = index (total_exp site x (clean_left (exp_nodes site x) _ c)) (total_exps site parts (clean_right (exp_nodes site x) _ c))

  pub total_exps : (site : Site) (xs : Exps) → Clean (exps_nodes site xs) → NumbersExps site xs (number_exps site xs)
  total_exps site t.NoExp c = no_exps
  total_exps site (t.MoreExp x rest) c = more_exps (total_exp site x (clean_left (exp_nodes site x) _ c)) (total_exps site rest (clean_right (exp_nodes site x) _ c))

  pub total_range : (site : Site) (r : RangeTree) → Clean (range_nodes site r) → NumbersRange site r (number_range site r)
  total_range site (t.Plain low high) c = plain (total_exp site low (clean_left (exp_nodes site low) _ c)) (total_exp site high (clean_right (exp_nodes site low) _ c))
  total_range site (t.Stepped low high step) c =
      let both = clean_left (exp_nodes site low ++ exp_nodes site high) _ c in
      stepped (total_exp site low (clean_left (exp_nodes site low) _ both)) (total_exp site high (clean_right (exp_nodes site low) _ both))
      (total_exp site step (clean_right (exp_nodes site low ++ exp_nodes site high) _ c))

  pub total_ranges : (site : Site) (rs : RangeTrees) → Clean (ranges_nodes site rs) → NumbersRanges site rs (number_ranges site rs)
  total_ranges site t.NoRange c = no_ranges
  total_ranges site (t.MoreRange r rest) c = more_ranges (total_range site r (clean_left (range_nodes site r) _ c)) (total_ranges site rest (clean_right (range_nodes site r) _ c))

pub total_maybe : (site : Site) (x : Option Exp) → Clean (maybe_nodes site x) → NumbersMaybe site x (number_maybe site x)
total_maybe site None c = NumbersMaybe.none
total_maybe site (Some x) c = NumbersMaybe.some (total_exp site x c)
