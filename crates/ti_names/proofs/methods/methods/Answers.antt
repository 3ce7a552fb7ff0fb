use Rattle.std.proofs.Common.{◌≡◌, ◌+◌, ◌++◌, ◌∷◌, map, flat_map, length, drop, arith, ap, sym, ◌∙◌, append_assoc}
use Rattle.std.proofs.lemmas.List.{drop_all, length-append}
use Rattle.ti_syntax.specs.Trees.Statements.{stms}
use Rattle.ti_syntax.specs.Trees.Views.{stm_of}
use Rattle.ti_lang.specs.Program.Views.{numbered_method_of}
use Rattle.ti_lang.specs.Members.{OwnMethod}
use Rattle.ti_lang.specs.Scopes.{literals_in, method_site}
use Rattle.ti_lang.specs.Nodes.{method_nodes, methods_nodes}
use Rattle.ti_rules.specs.Mirrors.First.{earlier_of}
use Rattle.ti_names.specs.Found.{first_in}
use Rattle.ti_names.specs.Mirrors.Numbered.{number_method, number_methods}
use Rattle.ti_names.specs.MethodDecl.{method_decl_of}
use Rattle.ti_names.specs.Seen.{text_of_tables}
use Rattle.ti_names.proofs.Firsts.{in_step, in_end}
use Rattle.ti_names.proofs.Walks.{map_push, drop_next}
use Rattle.ti_names.proofs.methods.methods.Goals as goal

pub loop-own-preserved : goal.loop-own-preserved
loop-own-preserved c =
    let text = text_of_tables c.args.tables.now in
    let x = method_decl_of c.own-item.result in
    let done = map numbered_method_of c.loop-own.done.items in
    let before = c.loop-own.literals.texts.items in
    let site = method_site text x (length before) in
    let number = c.loop-own.number in
    let texts = literals_in (stms x.method.body) in
    let behind = length before + length texts in
    let rest = map method_decl_of (drop (c.loop-own.own-index + 1) c.args.methods.now) in
    let literals = flat_map (λ (own : OwnMethod). literals_in (stms own.method.body)) rest in
    let step = drop_next c.args.methods.now c.loop-own.own-index c.own-item.result (omega arith) c.own-item.is in
    let counted : c.in_ok-before.before ≡ length before = omega (arith, c.in_ok-before.ensures, c.len.ensures, c.loop-own.literals.texts.ok.0) in
    let more : c.body.new.self.texts.items ≡ before ++ texts = c.in_ok-body.ensures ∙ ap (λ l. before ++ literals_in (stms (map stm_of l))) c.deref.ensures.value in
    let longer : length c.body.new.self.texts.items ≡ behind = ap length more ∙ length-append before texts in
    let is_method = c.in_ok-found.ensures.part ∙ ap (λ n. number_method (method_site text x n) x) counted in
    let is_refusal = c.in_ok-found.ensures.refusal ∙ ap (λ n. first_in (method_nodes (method_site text x n) number x)) counted in
    record {
      part = map_push numbered_method_of c.loop-own.done.items c.push.new.self.items c.in_ok-found.found.part (number_method site x)
          (number_methods text (length c.body.new.self.texts.items) rest) c.in_ok-push.ensures.items is_method
          ∙ ap (λ n. done ++ (number_method site x ∷ number_methods text n rest)) longer
          ∙ sym (ap (λ l. done ++ number_methods text (length before) (map method_decl_of l)) step) ∙ c.loop-own.invariant.part;
      literals = ap (λ z. z ++ literals) more ∙ append_assoc before texts literals
          ∙ sym (ap (λ l. before ++ flat_map (λ (own : OwnMethod). literals_in (stms own.method.body)) (map method_decl_of l)) step) ∙ c.loop-own.invariant.literals;
      refusal = ap (λ n. earlier_of c.earlier_of-refusal.result (first_in (methods_nodes text n (length c.body.new.self.texts.items) rest))) c.in_ok-number.ensures
          ∙ ap (λ n. earlier_of c.earlier_of-refusal.result (first_in (methods_nodes text (number + 1) n rest))) longer
          ∙ in_step c.loop-own.refusal c.earlier_of-refusal.result _ _ (method_nodes site number x) (methods_nodes text (number + 1) behind rest) c.loop-own.invariant.refusal
          (ap (λ l. methods_nodes text number (length before) (map method_decl_of l)) step) (c.earlier_of-refusal.ensures ∙ ap (earlier_of c.loop-own.refusal) is_refusal);
    }

pub returns-clause-refusal : goal.returns-clause-refusal
returns-clause-refusal c =
    in_end c.loop-own.refusal _ _ c.loop-own.invariant.refusal
    (ap (λ l. methods_nodes (text_of_tables c.args.tables.now) c.loop-own.number (length c.loop-own.literals.texts.items) (map method_decl_of l)) (drop_all c.loop-own.own-index c.args.methods.now (omega arith)))
