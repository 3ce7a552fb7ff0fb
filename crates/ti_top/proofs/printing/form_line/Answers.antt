use Rattle.std.proofs.Common.{◌≡◌, ◌+◌, ◌++◌, length, arith, ap, ◌∙◌, length-append}
use Rattle.ti_lang.specs.Meaning.Lines.{literal_text}
use Rattle.ti_top.proofs.LineRooms.{room_behind}
use Rattle.ti_top.proofs.printing.form_line.Goals as goal

pub text-requires-in-Print : goal.text-requires-in-Print
text-requires-in-Print c =
    let room = room_behind c.args.literals.now c.in-Print.literal c.args.line.now c.requires in
    let literal : length c.text.new.self.taken ≡ length (literal_text c.args.literals.now c.in-Print.literal) =
    ap length (c.text.ensures.taken ∙ ap (λ xs. xs ++ c.literal_bytes.result.now) c.clear.ensures.taken ∙ c.literal_bytes.ensures) in
    omega (arith, room, literal, ap length c.as_slice.ensures, c.value_line.ensures.short, c.clear.ensures.room, c.text.ensures.room)

pub text-requires-in-Print-2 : goal.text-requires-in-Print-2
text-requires-in-Print-2 c =
    let room = room_behind c.args.literals.now c.in-Print.literal c.args.line.now c.requires in
    let literal : length c.text.new.self.taken ≡ length (literal_text c.args.literals.now c.in-Print.literal) =
    ap length (c.text.ensures.taken ∙ ap (λ xs. xs ++ c.literal_bytes.result.now) c.clear.ensures.taken ∙ c.literal_bytes.ensures) in
    let both : length c.text-in-Print.new.self.taken ≡ length c.text.new.self.taken + length c.as_slice.result.now =
    ap length c.text-in-Print.ensures.taken ∙ length-append c.text.new.self.taken c.as_slice.result.now in
    omega (arith, room, literal, both, ap length c.as_slice.ensures, c.value_line.ensures.short, c.clear.ensures.room, c.text.ensures.room, c.text-in-Print.ensures.room)
