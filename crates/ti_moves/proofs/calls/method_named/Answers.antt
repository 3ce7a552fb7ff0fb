use Rattle.std.proofs.Common.{◌∙◌, sym, ap, option_map}
use Rattle.ti_lang.specs.Program.Views.{program_of}
use Rattle.ti_moves.specs.Outcomes.{method_at}
use Rattle.ti_moves.proofs.MethodLaws.{named_at}
use Rattle.ti_moves.proofs.calls.method_named.Goals as goal

pub returns : goal.returns
returns c = named_at (program_of c.args.program.now).methods c.args.class c.args.name ∙ ap (option_map (method_at (program_of c.args.program.now))) (sym c.first_method.ensures)
