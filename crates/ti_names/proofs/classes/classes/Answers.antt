use Rattle.std.proofs.Common.{◌≡◌, map, ap, subst, IfOk}
use Rattle.ti_syntax.specs.Trees.Views.{class_of}
use Rattle.ti_lang.specs.Program.Views.{numbered_class_of}
use Rattle.ti_lang.specs.Scopes as scopes
use Rattle.ti_names.specs.Mirrors.Numbered.{number_classes}
use Rattle.ti_names.proofs.classes.classes.Goals as goal

pub returns : goal.returns
returns c =
    let e = ap (λ (z : scopes.Site). z.text) c.class_site.ensures in
    subst (λ text. IfOk c.classes.result (λ v. map numbered_class_of v.items ≡ number_classes text (map class_of c.args.classes.now))) e c.classes.ensures
