-- The resolution of expressions that contain lists is proved correct.
use Rattle.std.proofs.Common.{◌≡◌, map, refl, ap, sym, ◌∙◌}
use Rattle.std.specs.declared.vec.Vec.{Vec}
use Rattle.std.specs.declared.alloc.Global.{Global}
use Rattle.std.specs.declared.boxed.Box.{Box}
use Rattle.ti_base.specs.declared.place.Place.{Place}
use Rattle.ti_syntax.specs.declared.tree.exprs.Expr.{Expr, Point, Rect, Index}
use Rattle.ti_syntax.specs.declared.tree.exprs.Range.{Range}
use Rattle.ti_syntax.specs.Trees.Views.{exp_of, exps_of, ranges_of}
use Rattle.ti_syntax.proofs.Lemmas.{seen_point, seen_rect, seen_index}
use Rattle.ti_lang.specs.declared.program.exprs.Expr as p
use Rattle.ti_lang.specs.declared.program.exprs.Range as q
use Rattle.ti_lang.specs.Program.Expressions.{numbered_exps, numbered_ranges}
use Rattle.ti_lang.specs.Program.Expressions as n
use Rattle.ti_lang.specs.Program.Views.{expression_of, expressions_of, bound_list_of}
use Rattle.ti_lang.proofs.Lemmas.{seen_numbered_point, seen_numbered_rect, seen_numbered_index}
use Rattle.ti_lang.specs.Scopes.{Site}
use Rattle.ti_names.specs.Mirrors.Numbered.{number_exp, number_range}
use Rattle.ti_names.proofs.Lists.{number_exps_list, number_ranges_list}

pub number_point : (site : Site) (a : Expr) (at : Place) (v : Vec Expr Global) (w : Vec p.Expr Global) → a ≡ Point at v → expressions_of w ≡ map (number_exp site) (exps_of v)
    → expression_of (p.Point at w) ≡ number_exp site (exp_of a)
number_point site a at v w is are =
    seen_numbered_point (p.Point at w) at w refl ∙ ap (λ z. n.Point at (numbered_exps z)) are
    ∙ sym (ap (n.Point at) (number_exps_list site (exps_of v))) ∙ ap (number_exp site) (sym (seen_point a at v is))

pub number_rect : (site : Site) (a : Expr) (at : Place) (v : Vec Range Global) (w : Vec q.Range Global) → a ≡ Rect at v → bound_list_of w ≡ map (number_range site) (ranges_of v)
    → expression_of (p.Rect at w) ≡ number_exp site (exp_of a)
number_rect site a at v w is are =
    seen_numbered_rect (p.Rect at w) at w refl ∙ ap (λ z. n.Rect at (numbered_ranges z)) are
    ∙ sym (ap (n.Rect at) (number_ranges_list site (ranges_of v))) ∙ ap (number_exp site) (sym (seen_rect a at v is))

pub number_index : (site : Site) (a : Expr) (at : Place) (x : Box Expr Global) (v : Vec Expr Global) (y : Box p.Expr Global) (w : Vec p.Expr Global) → a ≡ Index at x v
    → expression_of y.value ≡ number_exp site (exp_of x.value) → expressions_of w ≡ map (number_exp site) (exps_of v) → expression_of (p.Index at y w) ≡ number_exp site (exp_of a)
number_index site a at x v y w is is_x are =
    seen_numbered_index (p.Index at y w) at y w refl ∙ (λ j. n.Index at (is_x j) (numbered_exps (are j))) ∙ sym (ap (n.Index at (number_exp site (exp_of x.value))) (number_exps_list site (exps_of v)))
    ∙ ap (number_exp site) (sym (seen_index a at x v is))
