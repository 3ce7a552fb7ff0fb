use Rattle.std.proofs.Common.{append_assoc}
use Rattle.ti_watch.proofs.line.Line.operands.Goals as goal

pub returns-in-PutField-clause-text : goal.returns-in-PutField-clause-text
returns-in-PutField-clause-text c = rw (c.in-PutField.is, c.operand.ensures.text, c.field-in-PutField.ensures.text) (simp append_assoc)

pub returns-in-NewObj-clause-text : goal.returns-in-NewObj-clause-text
returns-in-NewObj-clause-text c = rw (c.in-NewObj.is, c.labelled_number-in-NewObj.ensures.text, c.labelled_number.ensures.text) (simp append_assoc)

pub returns-in-PutElem-clause-text : goal.returns-in-PutElem-clause-text
returns-in-PutElem-clause-text c = rw (c.in-PutElem.is, c.operand-in-PutElem.ensures.text, c.element-in-PutElem.ensures.text) (simp append_assoc)

pub returns-in-MakeView-clause-text : goal.returns-in-MakeView-clause-text
returns-in-MakeView-clause-text c = rw (c.in-MakeView.is, c.view.ensures.text, c.id.ensures.text) (simp append_assoc)

pub returns-in-Print-clause-text : goal.returns-in-Print-clause-text
returns-in-Print-clause-text c = rw (c.in-Print.is, c.printed_value.ensures.text, c.optional.ensures.text) (simp append_assoc)

pub returns-in-Fault-clause-text : goal.returns-in-Fault-clause-text
returns-in-Fault-clause-text c = rw (c.in-Fault.is, c.text-in-Fault.ensures.text, c.text.ensures.text, c.name_bytes.ensures.value) (simp append_assoc)
