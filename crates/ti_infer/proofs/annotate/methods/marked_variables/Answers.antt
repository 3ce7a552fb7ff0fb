use Rattle.std.proofs.Common.{ap, ◌∙◌}
use Rattle.ti_lang.specs.Program.Views.{numbered_method_of}
use Rattle.ti_blame.specs.Marks.{marks_of}
use Rattle.ti_infer.specs.Marks.{variable_place}
use Rattle.ti_infer.specs.Mirrors.Places.{listed_place}
use Rattle.ti_infer.proofs.MarkedVariables.{marks_told}
use Rattle.ti_infer.proofs.annotate.methods.marked_variables.Goals as goal

pub returns : goal.returns
returns c = marks_told (marks_of c.args.marks.now).variables _ c.in_ok-singles.singles.items c.in_ok-singles.ensures (variable_place (numbered_method_of c.args.method.now))
    (λ n. ap (λ ps. listed_place ps n) c.deref.ensures.value ∙ c.in_ok-places.ensures n)
