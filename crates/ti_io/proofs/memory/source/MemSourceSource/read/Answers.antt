use Rattle.std.proofs.Common.{◌≡◌, ◌+◌, drop, arith, sym, ◌∙◌, ap}
use Rattle.ti_io.specs.InMemory.{plain_files, left_of_file}
use Rattle.ti_io.proofs.ReadFront.{left_of_file-add, read_answers}
use Rattle.ti_io.proofs.memory.source.MemSourceSource.read.Goals as goal

pub returns-clause-answer : goal.returns-clause-answer
returns-clause-answer c =
    let s = c.self.inside in
    let files = plain_files s.files.items in
    let left = c.left_of-left.result.now in
    let count = c.copy_front-count.result in
    let is : left ≡ left_of_file files s.found s.offset = c.left_of-left.ensures.value ∙ ap (λ fs. left_of_file (plain_files fs) s.found s.offset) c.deref.ensures.value in
    let sum : c.saturating_add-self-inside.result ≡ s.offset + count = omega arith in
    read_answers _ left _ _ s.piece count c.self.invariant (omega arith) c.copy_front-count.ensures.bytes
    (ap (λ v. v.left) (sym c.self.view_is) ∙ sym is)
    (ap (left_of_file files s.found) sum ∙ left_of_file-add files s.found s.offset count ∙ ap (λ l. drop count l) (sym is))
