use Rattle.std.proofs.Common.{◌≡◌, ◌++◌, map, drop}
use Rattle.ti_syntax.specs.Trees.Views.{param_of}
use Rattle.ti_lang.specs.Program.Views.{numbered_param_of}
use Rattle.ti_lang.specs.Scopes.{behind_params}
use Rattle.ti_lang.specs.Nodes.{param_list_nodes}
use Rattle.ti_rules.specs.Mirrors.First.{earlier_of}
use Rattle.ti_names.specs.Found.{first_in}
use Rattle.ti_names.specs.Mirrors.Numbered.{number_param_list}
use Rattle.ti_names.specs.Seen.{site_of, text_of_tables}
use Rattle.ti_names.proofs.context.NameContext.param_list.Given as goal

abbrev pub invariant-loop-param : goal.invariant-loop-param
invariant-loop-param l = record {
  text : text_of_tables l.self.tables.now ≡ text_of_tables l.initial.self.tables.now;
  part : map numbered_param_of l.done.items ++ number_param_list (text_of_tables l.self.tables.now) (map param_of (drop l.param-index l.params))
      ≡ number_param_list (text_of_tables l.initial.self.tables.now) (map param_of l.params);
  refusal : earlier_of l.refusal (first_in (param_list_nodes (site_of l.self) (map param_of (drop l.param-index l.params)))) ≡ first_in (param_list_nodes (site_of l.initial.self) (map param_of l.params));
  site : behind_params (site_of l.self) (map param_of (drop l.param-index l.params)) ≡ behind_params (site_of l.initial.self) (map param_of l.params);
}
