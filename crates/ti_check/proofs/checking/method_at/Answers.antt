use Rattle.std.proofs.Common.{map, slice_get, ap, sym, ◌∙◌}
use Rattle.ti_lang.specs.Program.Views.{numbered_method_of}
use Rattle.ti_check.proofs.checking.method_at.Goals as goal

pub returns : goal.returns
returns c = sym (ap (λ l. slice_get (map numbered_method_of l) c.args.index) c.deref.ensures.value) ∙ c.method_of.ensures
