use Rattle.ti_lang.proofs.MeaningLaws.Forms.{point_told, class_told, element_told}
use Rattle.ti_lang.proofs.meaning.text_laws.forms_have_no_dimensions.Goals as goal

pub returns-clause-points : goal.returns-clause-points
returns-clause-points c = point_told

pub returns-clause-classes : goal.returns-clause-classes
returns-clause-classes c = class_told

pub returns-clause-elements : goal.returns-clause-elements
returns-clause-elements c = element_told
