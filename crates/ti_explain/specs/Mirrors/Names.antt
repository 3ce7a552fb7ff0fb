-- For proofs only: the models of the code's uses and declarations of names.
use Rattle.ti_syntax.specs.Trees.Classes.{MethodTree, ClassTree, TextTree}
use Rattle.ti_syntax.specs.Trees.Text.{tree_of}
use Rattle.ti_syntax.specs.Trees.Views.{class_of, method_of}
use Rattle.ti_explain.specs.declared.name_uses.NameUse.{NameUse}
use Rattle.ti_explain.specs.declared.declared_names.DeclaredName.{DeclaredName}
use Rattle.ti_explain.specs.declared.near_spelling.LettersPair.{LettersPair}
use Rattle.ti_explain.specs.declared.name_reasons.UsePlace.{UsePlace}
use Rattle.ti_explain.specs.NameUses.{UsedName}
use Rattle.ti_explain.specs.DeclaredNames.{NameAt}
use Rattle.ti_explain.specs.NearSpelling.{Letters}

abbrev pub used_name_of : NameUse → UsedName
used_name_of u = record { sought = u.sought; class = u.class.now; name = u.name.now }

abbrev pub name_at_of : DeclaredName → NameAt
name_at_of d = record { name = d.name.now; place = d.place }

abbrev pub letters_of : LettersPair → Letters
letters_of r = record { left = r.left.now; right = r.right.now }

-- the source program, the class and the method of a use
abbrev pub text_around : UsePlace → TextTree
text_around u = tree_of u.tree.now

abbrev pub class_around : UsePlace → ClassTree
class_around u = class_of u.class.now

abbrev pub method_around : UsePlace → MethodTree
method_around u = method_of u.method.now
