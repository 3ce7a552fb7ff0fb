use Rattle.std.proofs.Common.{◌≡◌, drop}
use Rattle.ti_io.specs.InMemory.{plain_files}
use Rattle.ti_io.specs.Source.{content_of}
use Rattle.ti_io.proofs.memory.source.index_of.Given as goal

abbrev pub invariant-loop-index : goal.invariant-loop-index
invariant-loop-index l = content_of (plain_files l.files) l.name ≡ content_of (plain_files (drop l.index l.files)) l.name
