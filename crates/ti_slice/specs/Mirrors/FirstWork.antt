-- The first piece of pending work.
use Rattle.std.specs.Prelude.{Bool, false, List, [], ◌∷◌}
use Rattle.ti_lang.specs.Program.Classes.{NumberedMethod, ProgramView}
use Rattle.ti_lang.specs.Meaning.Processes.{ContItem}
use Rattle.ti_align.specs.Slice.{work_acts}

-- Whether the first piece of pending work in a method has global effects.
abbrev pub first_acts : ProgramView → NumberedMethod → List ContItem → Bool
first_acts p m [] = false
first_acts p m (w ∷ left) = work_acts p m left w
