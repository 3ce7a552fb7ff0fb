use Rattle.std.proofs.Common.{◌≡◌, ◌++◌, map, flat_map, length, drop}
use Rattle.ti_syntax.specs.Trees.Statements.{stms}
use Rattle.ti_lang.specs.Program.Views.{numbered_method_of}
use Rattle.ti_lang.specs.Members.{OwnMethod}
use Rattle.ti_lang.specs.Scopes.{literals_in}
use Rattle.ti_lang.specs.Nodes.{methods_nodes}
use Rattle.ti_rules.specs.Mirrors.First.{earlier_of}
use Rattle.ti_names.specs.Found.{first_in}
use Rattle.ti_names.specs.Mirrors.Numbered.{number_methods}
use Rattle.ti_names.specs.MethodDecl.{method_decl_of}
use Rattle.ti_names.specs.Seen.{text_of_tables}
use Rattle.ti_names.proofs.methods.methods.Given as goal

abbrev pub invariant-loop-own : goal.invariant-loop-own
invariant-loop-own l = record {
  part : map numbered_method_of l.done.items ++ number_methods (text_of_tables l.tables) (length l.literals.texts.items)
      (map method_decl_of (drop l.own-index l.methods)) ≡ number_methods (text_of_tables l.tables) 0 (map method_decl_of l.methods);
  literals : l.literals.texts.items ++ flat_map (λ (own : OwnMethod). literals_in (stms own.method.body))
      (map method_decl_of (drop l.own-index l.methods)) ≡ flat_map (λ (own : OwnMethod). literals_in (stms own.method.body)) (map method_decl_of l.methods);
  refusal : earlier_of l.refusal (first_in (methods_nodes (text_of_tables l.tables) l.number (length l.literals.texts.items)
      (map method_decl_of (drop l.own-index l.methods)))) ≡ first_in (methods_nodes (text_of_tables l.tables) 0 0 (map method_decl_of l.methods));
}
