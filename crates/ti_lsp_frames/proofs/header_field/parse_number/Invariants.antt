use Rattle.std.proofs.Common.{◌≡◌, ◌≤◌, drop}
use Rattle.std.specs.List.{list_all}
use Rattle.std.specs.Char.{is_ascii_digit}
use Rattle.ti_lsp_frames.specs.HeaderFields.{number_after}
use Rattle.ti_lsp_frames.proofs.header_field.parse_number.Given as goal

abbrev pub invariant-loop-digit : goal.invariant-loop-digit
invariant-loop-digit l = record {
  fits : l.number ≤ 16777217;
  value : number_after l.number (drop l.digit-index l.digits) ≡ number_after 0 l.digits;
  digits : list_all is_ascii_digit (drop l.digit-index l.digits) ≡ list_all is_ascii_digit l.digits;
}
