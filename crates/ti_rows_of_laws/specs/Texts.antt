-- Constructors for resolved programs that consist of one method, `main`.
use Rattle.std.specs.Prelude.{ℕ, false, true, List, [], ◌∷◌, codes}
use Rattle.ti_base.specs.declared.place.Place.{Place}
use Rattle.ti_syntax.specs.declared.tree.classes.ModifierWord.{ModifierWord}
use Rattle.ti_syntax.specs.declared.tree.classes.ModifierWord.TheVariants as word
use Rattle.ti_syntax.specs.declared.tree.classes.Modifier.{Modifier}
use Rattle.ti_lang.specs.Program.Types.{ValueType, NumberedType, Typed}
use Rattle.ti_lang.specs.Program.Expressions.{NumberedExp, Variable}
use Rattle.ti_lang.specs.Program.Statements.{NumberedStm}
use Rattle.ti_lang.specs.Program.Classes.{NumberedMethod, ProgramView}
use Rattle.ti_lang.specs.Program.Classes as c

-- a source location, by its line and its column
abbrev pub pl : ℕ → ℕ → Place
pl line col = record { line = line; col = col }

-- a type without `single`, qualifiers and grid dimensions
abbrev pub nonsingle_type : ValueType → NumberedType
nonsingle_type type = record { type = type; is_single = false; qualifiers = []; grids = [] }

-- a use of a non-single variable, by its location, number and type
abbrev pub var : Place → ℕ → ValueType → NumberedExp
var at number type = Variable at (record { number = number; declared = Typed false type })

-- a modifier in line 1, by its keyword and column
abbrev word_at : ModifierWord → ℕ → Modifier
word_at word column = record { word = word; place = pl 1 column }

-- `public static single void main(String[] args)` with this body, whose closing brace is at a column of line 1
abbrev main_with : List NumberedStm → ℕ → NumberedMethod
main_with body end =
    record {
      class = 0;
      modifiers = word_at word.Public 14 ∷ word_at word.Static 21 ∷ word_at word.Single 28 ∷ [];
      is_single = true;
      result = c.Void;
      place = pl 1 40;
      name = 0;
      params = c.MainArgs;
      body = body;
      end = pl 1 end;
    }

-- a program of one class, `Main`, with the method `main` only
abbrev pub main_alone : List NumberedStm → ℕ → ProgramView
main_alone body end =
    record { classes = record { modifiers = []; fields = [] } ∷ []; methods = main_with body end ∷ []; main = 0; names = codes "main" ∷ []; literals = [] }
