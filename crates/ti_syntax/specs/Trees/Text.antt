-- The model of a program's tree.
use Rattle.ti_syntax.specs.declared.tree.text.Tree.{Tree}
use Rattle.ti_syntax.specs.Trees.Classes.{TextTree}
use Rattle.ti_syntax.specs.Trees.Views.{text_tree_of}

abbrev pub tree_of : Tree → TextTree
tree_of t = text_tree_of t.classes
