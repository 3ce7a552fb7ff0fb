use Rattle.std.proofs.Common.{◌≡◌, take, reverse}
use Rattle.ti_lang.specs.Mirrors.ListedDims.{dims_in}
use Rattle.ti_lang.proofs.typing.text.dims_among.Given as goal

abbrev pub invariant-loop-d : goal.invariant-loop-d
invariant-loop-d l = l.found ≡ dims_in (reverse (take l.d-index l.dims)) l.variable
