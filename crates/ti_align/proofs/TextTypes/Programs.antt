-- A checked program fits its types.
use Rattle.std.proofs.Common.{◌≡◌, List, [], ◌∷◌, ◌++◌, flat_map}
use Rattle.std.proofs.Math.Logic.{∥∥₁_elim}
use Rattle.ti_lang.specs.Program.Statements.{numbered_stms}
use Rattle.ti_lang.specs.Program.Classes.{NumberedMethod, ProgramView}
use Rattle.ti_rules.specs.StmtInContext.{around_method, standing_in_method}
use Rattle.ti_rules.specs.Broken.Statements.{standing_refusals}
use Rattle.ti_rules.specs.TypeRules.{class_refusals, head_refusals, end_refusals, method_refusals}
use Rattle.ti_rules.specs.ProgramRefusals.{IsChecked}
use Rattle.ti_rules.proofs.Lemmas.{nil_left, nil_right}
use Rattle.ti_align.specs.Heap.{FieldsFit, FieldsStorable}
use Rattle.ti_rules.specs.Mirrors.Literals.{LiteralsFit}
use Rattle.ti_align.specs.Mirrors.ContItem.{MethodFits, MethodsFit}
use Rattle.ti_align.specs.Mirrors.Processes.{ProgramFits}
use Rattle.ti_align.proofs.Runs.Vars.{and_right}
use Rattle.ti_align.proofs.TextTypes.Meant.{storable, formed, StmsMeant, MethodsMeant, FieldsMeant, methods_prop, fields_prop}
use Rattle.ti_align.proofs.TextTypes.Forming.{formed_fine, storable_is}
use Rattle.ti_align.proofs.TextTypes.Written.{surrounds_method}
use Rattle.ti_align.proofs.TextTypes.Stating.{stms_fit}
use Rattle.ti_align.proofs.TextTypes.Numbered.{numbered_methods, numbered_fields}

-- the fields of a checked program have one to three dimensions, and such types as fields may have
pub fields_mean : (p : ProgramView) → IsChecked p → FieldsMeant p
fields_mean p c = ∥∥₁_elim c.numbered (fields_prop p) (numbered_fields p)

pub fields_fit : (p : ProgramView) → IsChecked p → FieldsFit p
fields_fit p c class field type z = formed_fine type (and_right (storable type) (formed type) (fields_mean p c class field type z))

pub fields_storable : (p : ProgramView) → IsChecked p → FieldsStorable p
fields_storable p c class field type z = storable_is type (fields_mean p c class field type z)

-- methods in which no rule is broken fit the types
method_fits : (p : ProgramView) → FieldsMeant p → (m : NumberedMethod) → StmsMeant p m [] (numbered_stms m.body) → method_refusals p m ≡ [] → MethodFits p m
method_fits p f m k h =
    stms_fit p f (around_method m) [] (surrounds_method m) (numbered_stms m.body) k
    (nil_right (head_refusals m ++ end_refusals m) (flat_map (standing_refusals p) (standing_in_method p m)) h)

methods_fit : (p : ProgramView) → FieldsMeant p → (ms : List NumberedMethod) → MethodsMeant p ms → flat_map (method_refusals p) ms ≡ [] → MethodsFit p ms
methods_fit p f [] k h = tt
methods_fit p f (m ∷ ms) k h = (
  method_fits p f m k.0 (nil_left (method_refusals p m) (flat_map (method_refusals p) ms) h),
  methods_fit p f ms k.1 (nil_right (method_refusals p m) (flat_map (method_refusals p) ms) h),
)

-- a checked program fits its types
pub checked_fits : (p : ProgramView) → IsChecked p → LiteralsFit p → ProgramFits p
checked_fits p c l = record {
  fields = fields_fit p c;
  storable = fields_storable p c;
  methods =
      methods_fit p (fields_mean p c) p.methods (∥∥₁_elim c.numbered (methods_prop p p.methods) (numbered_methods p l))
      (nil_right (flat_map class_refusals p.classes) (flat_map (method_refusals p) p.methods) c.unbroken.types);
}
