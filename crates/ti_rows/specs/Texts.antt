-- Short notation for the programs of worked examples. The qualifiers of types and the modifiers of methods are left out if they don't
-- matter.
use Rattle.std.specs.Prelude.{ℕ, Bool, true, false, List, [], ◌∷◌, codes}
use Rattle.ti_base.specs.declared.place.Place.{Place}
use Rattle.ti_syntax.specs.declared.tree.classes.Modifier.{Modifier}
use Rattle.ti_syntax.specs.declared.tree.classes.ModifierWord.TheVariants as word
use Rattle.ti_lang.specs.Program.Types.{ValueType, NumberedType, VariableUse}
use Rattle.ti_lang.specs.Program.Types as t
use Rattle.ti_lang.specs.Program.Expressions.{NumberedExp, NumberedExps, numbered_exps, Variable}
use Rattle.ti_lang.specs.Program.Statements.{NumberedStm, NumberedStms, numbered_stms}
use Rattle.ti_lang.specs.Program.Classes.{NumberedField, NumberedClass, NumberedParam, NumberedParams, NumberedResult, NumberedMethod, ProgramView}
use Rattle.ti_lang.specs.Program.Classes as c
use Rattle.ti_lang.specs.Meaning.Processes.{RunConfig}

-- a place, by its line and its column
abbrev pub pl : ℕ → ℕ → Place
pl line col = record { line = line; col = col }

-- a non-single type
abbrev pub nonsingle_type : ValueType → NumberedType
nonsingle_type type = record { type = type; is_single = false; qualifiers = []; grids = [] }

-- a single type
abbrev pub single : ValueType → NumberedType
single type = record { type = type; is_single = true; qualifiers = []; grids = [] }

-- a non-single variable with this number and type, where it is used
abbrev pub var : Place → ℕ → ValueType → NumberedExp
var at number type = Variable at (record { number = number; declared = t.Typed false type })

-- a single variable
abbrev pub single_var : Place → ℕ → ValueType → NumberedExp
single_var at number type = Variable at (record { number = number; declared = t.Typed true type })

-- a foreach variable
abbrev pub each_var : Place → ℕ → NumberedExp
each_var at number = Variable at (record { number = number; declared = t.Foreach })

-- a list of expressions
abbrev pub xs : List NumberedExp → NumberedExps
xs l = numbered_exps l

-- a list of statements
abbrev pub stms : List NumberedStm → NumberedStms
stms l = numbered_stms l

-- ---- classes

-- a class with fields
abbrev pub class_with_fields : List NumberedField → NumberedClass
class_with_fields fields = record { modifiers = []; fields = fields }

-- a field of this type and name
abbrev pub field : ValueType → ℕ → NumberedField
field type name = record { modifiers = []; ty = nonsingle_type type; name = name }

-- a parameter of this type
abbrev pub param : Place → NumberedType → NumberedParam
param at type = record { place = at; ty = type }

-- the modifier `static`
abbrev pub static_word : List Modifier
static_word = record { word = word.Static; place = pl 1 1 } ∷ []

-- a method of a class with these modifiers, single or not
abbrev pub method_with : List Modifier → Bool → ℕ → NumberedResult → ℕ → NumberedParams → List NumberedStm → Place → NumberedMethod
method_with words is_single class result name params body end =
    record {
      class = class;
      modifiers = words;
      is_single = is_single;
      result = result;
      place = pl 1 1;
      name = name;
      params = params;
      body = body;
      end = end;
    }

-- an instance method
abbrev pub instance_method : ℕ → NumberedResult → ℕ → NumberedParams → List NumberedStm → Place → NumberedMethod
instance_method class result name params body end = method_with [] false class result name params body end

-- a static method
abbrev pub static_method : ℕ → NumberedResult → ℕ → NumberedParams → List NumberedStm → Place → NumberedMethod
static_method class result name params body end = method_with static_word false class result name params body end

-- a single method
abbrev pub single_method : ℕ → NumberedResult → ℕ → NumberedParams → List NumberedStm → Place → NumberedMethod
single_method class result name params body end = method_with static_word true class result name params body end

-- ---- programs

-- the names of the language's members, followed by these names
abbrev pub names_with : List (List ℕ) → List (List ℕ)
names_with names =
    codes "size" ∷ codes "min" ∷ codes "max" ∷ codes "contains" ∷ codes "domain" ∷ codes "restrict" ∷ codes "translate" ∷ codes "slice"
    ∷ codes "copy" ∷ codes "exchange" ∷ codes "delete" ∷ names

-- a run with the given number of processes and ticks of fuel, of a program with these classes, methods (of which one is `main`), names
-- and literals
abbrev pub text : ℕ → ℕ → List NumberedClass → List NumberedMethod → ℕ → List (List ℕ) → List (List ℕ) → RunConfig
text procs fuel classes methods main names literals =
    record {
      procs = procs;
      fuel = fuel;
      program = record {
        classes = classes;
        methods = methods;
        main = main;
        names = names_with names;
        literals = literals;
      };
    }

-- a run of a program that has only `main`, which ends at a place
abbrev pub main_only_run : ℕ → ℕ → List (List ℕ) → List NumberedStm → Place → RunConfig
main_only_run procs fuel literals body end =
    text procs fuel (class_with_fields [] ∷ []) (single_method 0 c.Void 11 c.MainArgs body end ∷ []) 0 (codes "main" ∷ []) literals
