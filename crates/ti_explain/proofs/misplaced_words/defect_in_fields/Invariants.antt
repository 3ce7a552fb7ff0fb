use Rattle.std.proofs.Common.{◌≡◌, map, drop}
use Rattle.ti_lang.specs.Program.Views.{numbered_field_of}
use Rattle.ti_explain.specs.MisplacedWords.{defect_in_fields}
use Rattle.ti_explain.proofs.misplaced_words.defect_in_fields.Given as goal

abbrev pub invariant-loop-field : goal.invariant-loop-field
invariant-loop-field l = defect_in_fields l.place (map numbered_field_of l.fields) ≡ defect_in_fields l.place (map numbered_field_of (drop l.field-index l.fields))
