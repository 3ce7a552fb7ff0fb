use Rattle.std.proofs.Common.{◌≡◌, ◌+◌, ◌++◌, ◌∷◌, [], map, drop, arith, refl, ap, sym, subst, ◌∙◌, IfOk, OnOk}
use Rattle.std.proofs.lemmas.List.{drop_all}
use Rattle.ti_syntax.specs.Trees.Statements.{Stm, stms}
use Rattle.ti_syntax.specs.Trees.Statements as s
use Rattle.ti_syntax.specs.Trees.Views.{exp_of, type_tree_of, init_of, print_of, stm_of, maybe_of}
use Rattle.ti_syntax.proofs.Lemmas.{seen_block}
use Rattle.ti_lang.specs.declared.program.stmts.Stmt.{Block}
use Rattle.ti_lang.specs.Program.Types.{Foreach}
use Rattle.ti_lang.specs.Program.Statements.{numbered_stms}
use Rattle.ti_lang.specs.Program.Statements as m
use Rattle.ti_lang.specs.Program.Views.{expression_of, statement_of}
use Rattle.ti_lang.specs.Scopes.{declares, past, past_maybe, site_after, behind_maybe, behind_all}
use Rattle.ti_lang.specs.Nodes.{node, VariableName, exp_nodes, stm_nodes, maybe_stm_nodes, stms_nodes}
use Rattle.ti_lang.proofs.Lemmas.{seen_numbered_block}
use Rattle.ti_rules.specs.Mirrors.First.{earlier_of}
use Rattle.ti_names.specs.Found.{first_in}
use Rattle.ti_names.specs.Mirrors.Numbered.{number_exp, number_stm, number_maybe_stm, number_list}
use Rattle.ti_names.specs.Branched.{numbered_branches}
use Rattle.ti_names.specs.Seen.{site_of, tree_maybe, seen_maybe}
use Rattle.ti_names.proofs.Branches.{on_ok, branches, seen_if, seen_for, held_if, held_for, number_branches, behind_branches, in_branches, in_foreach}
use Rattle.ti_names.proofs.Compound.{last_site, for_value, for_first}
use Rattle.ti_names.proofs.Firsts.{in_none, in_append, in_step, in_end}
use Rattle.ti_names.proofs.Lists.{scope_length, number_stms_list}
use Rattle.ti_names.proofs.Sites.{inner_site, block_site, for_site, foreach_site}
use Rattle.ti_names.proofs.Walks.{map_push, drop_next}
use Rattle.ti_names.proofs.context.NameContext.+walk_stmt.Goals as goal

pub scoped_stmt-returns-clause-site : goal.scoped_stmt-returns-clause-site
scoped_stmt-returns-clause-site measure c =
    c.cut.ensures ∙ inner_site (site_of c.args.self.now) (site_of c.stm.new.self) c.len-len.result (stm_of c.args.stmt.now) (c.len-len.ensures
    ∙ sym (scope_length c.args.self.now.scope)) c.in_ok-stmt.ensures.site

pub block-returns-clause-site : goal.block-returns-clause-site
block-returns-clause-site measure c =
    c.cut.ensures ∙ block_site (site_of c.args.self.now) (site_of c.stms.new.self) c.len-len.result (stms (map stm_of c.args.body.now))
    (c.len-len.ensures ∙ sym (scope_length c.args.self.now.scope)) c.in_ok-body.ensures.site

pub stms-loop-stmt-preserved : goal.stms-loop-stmt-preserved
stms-loop-stmt-preserved measure c =
    let site = site_of c.loop-stmt.self in
    let after = site_of c.stm.new.self in
    let x = c.stmt-item.result in
    let ys = map statement_of c.loop-stmt.ys.items in
    let rest = map stm_of (drop (c.loop-stmt.stmt-index + 1) c.args.stmts.now) in
    let step = drop_next c.args.stmts.now c.loop-stmt.stmt-index x (omega arith) c.stmt-item.is in
    let moved : after ≡ site_after site (stm_of x) = c.in_ok-y.ensures.site in
    record {
      part = map_push statement_of c.loop-stmt.ys.items c.push.new.self.items c.in_ok-y.y.part (number_stm site (stm_of x)) (number_list after rest) c.in_ok-push.ensures.items c.in_ok-y.ensures.part
          ∙ ap (λ z. ys ++ (number_stm site (stm_of x) ∷ number_list z rest)) moved
          ∙ sym (ap (λ l. ys ++ number_list site (map stm_of l)) step) ∙ c.loop-stmt.invariant.part;
      refusal = ap (λ z. earlier_of c.earlier_of-refusal.result (first_in (stms_nodes z (stms rest)))) moved
          ∙ in_step c.loop-stmt.refusal c.earlier_of-refusal.result _ _ (stm_nodes site (stm_of x)) (stms_nodes (site_after site (stm_of x)) (stms rest)) c.loop-stmt.invariant.refusal
          (ap (λ l. stms_nodes site (stms (map stm_of l))) step) (c.earlier_of-refusal.ensures ∙ ap (earlier_of c.loop-stmt.refusal) c.in_ok-y.ensures.refusal);
      site = ap (λ z. behind_all z (stms rest)) moved ∙ sym (ap (λ l. behind_all site (stms (map stm_of l))) step) ∙ c.loop-stmt.invariant.site;
    }

pub stms-returns-clause-refusal : goal.stms-returns-clause-refusal
stms-returns-clause-refusal measure c =
    in_end c.loop-stmt.refusal _ _ c.loop-stmt.invariant.refusal (ap (λ l. stms_nodes (site_of c.loop-stmt.self) (stms (map stm_of l))) (drop_all c.loop-stmt.stmt-index c.args.stmts.now (omega arith)))

pub block-returns-clause-part : goal.block-returns-clause-part
block-returns-clause-part measure c =
    let s0 = site_of c.args.self.now in
    seen_numbered_block (Block c.in_ok-body.body.part) c.in_ok-body.body.part refl
    ∙ ap (λ z. m.Block (numbered_stms z)) c.in_ok-body.ensures.part
    ∙ sym (ap m.Block (number_stms_list s0 (map stm_of c.args.body.now)))

pub block-returns-clause-refusal : goal.block-returns-clause-refusal
block-returns-clause-refusal measure c = c.in_ok-body.ensures.refusal

-- ---- the form of each statement that holds others

pub guarded_body-returns : goal.guarded_body-returns
guarded_body-returns measure c =
    let s0 = site_of c.args.self.now in
    record {
      condition = c.in_ok-condition.ensures;
      body = c.in_ok-body.ensures.part;
      refusal = c.earlier_of.ensures ∙ (λ j. earlier_of (c.check_exp-refusal.ensures j) (c.in_ok-body.ensures.refusal j))
          ∙ sym (in_append (exp_nodes s0 (exp_of c.args.condition.now)) (stm_nodes s0 (stm_of c.args.body.now)));
      site = c.in_ok-body.ensures.site;
    }

pub if_stmt-returns : goal.if_stmt-returns
if_stmt-returns measure c =
    let head = c.args.head in
    record {
      part = held_if c.args.place head.part.condition head.part.body c.in_ok-otherwise.otherwise.part
          ∙ ap (numbered_branches c.args.place (expression_of head.part.condition) (statement_of head.part.body.value)) c.in_ok-otherwise.ensures.part;
      refusal = c.earlier_of.ensures ∙ ap (earlier_of head.refusal) c.in_ok-otherwise.ensures.refusal;
      site = c.in_ok-otherwise.ensures.site;
    }

pub foreach-returns : goal.foreach-returns
foreach-returns measure c =
    let s0 = site_of c.args.self.now in
    let at = c.args.place in
    let name = c.args.name.now in
    let domain = exp_of c.args.domain.now in
    let body = stm_of c.args.body.now in
    let declared : site_of c.declare.new.self ≡ declares s0 name Foreach = c.in_ok-variable.ensures.site in
    let is_body : statement_of c.in_ok-body.body.part.value ≡ number_stm (declares s0 name Foreach) body = c.in_ok-body.ensures.part ∙ ap (λ z. number_stm z body) declared in
    let found : c.in_ok-body.body.refusal ≡ first_in (stm_nodes (declares s0 name Foreach) body) = c.in_ok-body.ensures.refusal ∙ ap (λ z. first_in (stm_nodes z body)) declared in
    let behind_body : site_of c.scoped_stmt.new.self ≡ past (declares s0 name Foreach) body = c.in_ok-body.ensures.site ∙ ap (λ z. past z body) declared in
    record {
      part = λ j. m.Foreach at (c.in_ok-variable.ensures.number j) (c.in_ok-domain.ensures j) (is_body j);
      refusal = c.earlier_of.ensures ∙ ap (λ z. earlier_of z c.in_ok-body.body.refusal) c.earlier_of-refusal.ensures
          ∙ (λ j. earlier_of (earlier_of (c.check_variable-named.ensures j) (c.check_exp.ensures j)) (found j)) ∙ sym (in_foreach s0 at c.args.name_place name domain body);
      site = c.cut.ensures ∙ foreach_site s0 (site_of c.scoped_stmt.new.self) c.len-len.result name body (c.len-len.ensures ∙ sym (scope_length c.args.self.now.scope)) behind_body;
    }

-- ---- the commonest statements

pub stm-returns-in-Empty : goal.stm-returns-in-Empty
stm-returns-in-Empty measure c =
    let s0 = site_of c.args.self.now in
    let e : s.Empty ≡ stm_of c.args.stmt.now = sym (ap stm_of c.in-Empty.is) in
    record {
      part = ap statement_of c.clean.ensures.part ∙ ap (number_stm s0) e;
      refusal = c.clean.ensures.refusal ∙ sym in_none ∙ ap (λ z. first_in (stm_nodes s0 z)) e;
      site = ap (site_after s0) e;
    }

pub stm-returns-in-Assign : goal.stm-returns-in-Assign
stm-returns-in-Assign measure c =
    let s0 = site_of c.args.self.now in
    let e : s.Assign c.in-Assign.place (exp_of c.in-Assign.target) (init_of c.deref.result.now) ≡ stm_of c.args.stmt.now =
    ap (λ z. s.Assign c.in-Assign.place (exp_of c.in-Assign.target) (init_of z)) c.deref.ensures ∙ sym (ap stm_of c.in-Assign.is) in
    record {
      part = subst (λ z. IfOk c.assignment.result (λ r. statement_of r.part ≡ number_stm s0 z)) e c.assignment.ensures.part;
      refusal = subst (λ z. IfOk c.assignment.result (λ r. r.refusal ≡ first_in (stm_nodes s0 z))) e c.assignment.ensures.refusal;
      site = on_ok c.assignment.result (ap (site_after s0) e);
    }

pub stm-returns-in-Block : goal.stm-returns-in-Block
stm-returns-in-Block measure c =
    let s0 = site_of c.args.self.now in
    let e : s.block (map stm_of c.deref-in-Block.result.now) ≡ stm_of c.args.stmt.now =
    ap (λ l. s.block (map stm_of l)) c.deref-in-Block.ensures.value ∙ sym (seen_block c.args.stmt.now c.in-Block.body c.in-Block.is) in
    record {
      part = subst (λ z. IfOk c.block.result (λ r. statement_of r.part ≡ number_stm s0 z)) e c.block.ensures.part;
      refusal = subst (λ z. IfOk c.block.result (λ r. r.refusal ≡ first_in (stm_nodes s0 z))) e c.block.ensures.refusal;
      site = subst (λ z. OnOk c.block.result (site_of c.block.new.self ≡ site_after s0 z)) e c.block.ensures.site;
    }

-- ---- a statement, by its form

pub any_stm-returns-in-Empty : goal.any_stm-returns-in-Empty
any_stm-returns-in-Empty measure c =
    let s0 = site_of c.args.self.now in
    let e : s.Empty ≡ stm_of c.args.stmt.now = sym (ap stm_of c.in-Empty.is) in
    record {
      part = ap statement_of c.clean.ensures.part ∙ ap (number_stm s0) e;
      refusal = c.clean.ensures.refusal ∙ sym in_none ∙ ap (λ z. first_in (stm_nodes s0 z)) e;
      site = ap (site_after s0) e;
    }

pub any_stm-returns-in-Declare : goal.any_stm-returns-in-Declare
any_stm-returns-in-Declare measure c =
    let s0 = site_of c.args.self.now in
    let e : s.Declare c.in-Declare.place (type_tree_of c.in-Declare.ty) c.in-Declare.name (init_of c.deref.result.now) ≡ stm_of c.args.stmt.now =
    ap (λ z. s.Declare c.in-Declare.place (type_tree_of c.in-Declare.ty) c.in-Declare.name (init_of z)) c.deref.ensures
    ∙ sym (ap stm_of c.in-Declare.is) in
    record {
      part = subst (λ z. IfOk c.declaration.result (λ r. statement_of r.part ≡ number_stm s0 z)) e c.declaration.ensures.part;
      refusal = subst (λ z. IfOk c.declaration.result (λ r. r.refusal ≡ first_in (stm_nodes s0 z))) e c.declaration.ensures.refusal;
      site = subst (λ z. OnOk c.declaration.result (site_of c.declaration.new.self ≡ site_after s0 z)) e c.declaration.ensures.site;
    }

pub any_stm-returns-in-Assign : goal.any_stm-returns-in-Assign
any_stm-returns-in-Assign measure c =
    let s0 = site_of c.args.self.now in
    let e : s.Assign c.in-Assign.place (exp_of c.in-Assign.target) (init_of c.deref-in-Assign.result.now) ≡ stm_of c.args.stmt.now =
    ap (λ z. s.Assign c.in-Assign.place (exp_of c.in-Assign.target) (init_of z)) c.deref-in-Assign.ensures
    ∙ sym (ap stm_of c.in-Assign.is) in
    record {
      part = subst (λ z. IfOk c.assignment.result (λ r. statement_of r.part ≡ number_stm s0 z)) e c.assignment.ensures.part;
      refusal = subst (λ z. IfOk c.assignment.result (λ r. r.refusal ≡ first_in (stm_nodes s0 z))) e c.assignment.ensures.refusal;
      site = on_ok c.assignment.result (ap (site_after s0) e);
    }

pub any_stm-returns-in-Update : goal.any_stm-returns-in-Update
any_stm-returns-in-Update measure c =
    let s0 = site_of c.args.self.now in
    let e : s.Update c.in-Update.place c.in-Update.operator (exp_of c.in-Update.target) (exp_of c.in-Update.value) ≡ stm_of c.args.stmt.now = sym (ap stm_of c.in-Update.is) in
    record {
      part = subst (λ z. IfOk c.update.result (λ r. statement_of r.part ≡ number_stm s0 z)) e c.update.ensures.part;
      refusal = subst (λ z. IfOk c.update.result (λ r. r.refusal ≡ first_in (stm_nodes s0 z))) e c.update.ensures.refusal;
      site = on_ok c.update.result (ap (site_after s0) e);
    }

pub any_stm-returns-in-Step : goal.any_stm-returns-in-Step
any_stm-returns-in-Step measure c =
    let s0 = site_of c.args.self.now in
    let e : s.Step c.in-Step.place c.in-Step.operator (exp_of c.in-Step.target) ≡ stm_of c.args.stmt.now = sym (ap stm_of c.in-Step.is) in
    record {
      part = subst (λ z. IfOk c.step.result (λ r. statement_of r.part ≡ number_stm s0 z)) e c.step.ensures.part;
      refusal = subst (λ z. IfOk c.step.result (λ r. r.refusal ≡ first_in (stm_nodes s0 z))) e c.step.ensures.refusal;
      site = on_ok c.step.result (ap (site_after s0) e);
    }

pub any_stm-returns-in-Call : goal.any_stm-returns-in-Call
any_stm-returns-in-Call measure c =
    let s0 = site_of c.args.self.now in
    let e : s.Call (exp_of c.in-Call.stmt) ≡ stm_of c.args.stmt.now = sym (ap stm_of c.in-Call.is) in
    record {
      part = subst (λ z. IfOk c.call_stmt.result (λ r. statement_of r.part ≡ number_stm s0 z)) e c.call_stmt.ensures.part;
      refusal = subst (λ z. IfOk c.call_stmt.result (λ r. r.refusal ≡ first_in (stm_nodes s0 z))) e c.call_stmt.ensures.refusal;
      site = on_ok c.call_stmt.result (ap (site_after s0) e);
    }

pub any_stm-returns-in-Print : goal.any_stm-returns-in-Print
any_stm-returns-in-Print measure c =
    let s0 = site_of c.args.self.now in
    let e : s.Print c.in-Print.place (print_of c.in-Print.what) ≡ stm_of c.args.stmt.now = sym (ap stm_of c.in-Print.is) in
    record {
      part = subst (λ z. IfOk c.print_stmt.result (λ r. statement_of r.part ≡ number_stm s0 z)) e c.print_stmt.ensures.part;
      refusal = subst (λ z. IfOk c.print_stmt.result (λ r. r.refusal ≡ first_in (stm_nodes s0 z))) e c.print_stmt.ensures.refusal;
      site = subst (λ z. OnOk c.print_stmt.result (site_of c.print_stmt.new.self ≡ site_after s0 z)) e c.print_stmt.ensures.site;
    }

pub any_stm-returns-in-Barrier : goal.any_stm-returns-in-Barrier
any_stm-returns-in-Barrier measure c =
    let s0 = site_of c.args.self.now in
    let e : s.Barrier c.in-Barrier.place ≡ stm_of c.args.stmt.now = sym (ap stm_of c.in-Barrier.is) in
    record {
      part = ap statement_of c.clean-in-Barrier.ensures.part ∙ ap (number_stm s0) e;
      refusal = c.clean-in-Barrier.ensures.refusal ∙ sym in_none ∙ ap (λ z. first_in (stm_nodes s0 z)) e;
      site = ap (site_after s0) e;
    }

pub any_stm-returns-in-Break : goal.any_stm-returns-in-Break
any_stm-returns-in-Break measure c =
    let s0 = site_of c.args.self.now in
    let e : s.Break c.in-Break.place ≡ stm_of c.args.stmt.now = sym (ap stm_of c.in-Break.is) in
    record {
      part = ap statement_of c.clean-in-Break.ensures.part ∙ ap (number_stm s0) e;
      refusal = c.clean-in-Break.ensures.refusal ∙ sym in_none ∙ ap (λ z. first_in (stm_nodes s0 z)) e;
      site = ap (site_after s0) e;
    }

pub any_stm-returns-in-Continue : goal.any_stm-returns-in-Continue
any_stm-returns-in-Continue measure c =
    let s0 = site_of c.args.self.now in
    let e : s.Continue c.in-Continue.place ≡ stm_of c.args.stmt.now = sym (ap stm_of c.in-Continue.is) in
    record {
      part = ap statement_of c.clean-in-Continue.ensures.part ∙ ap (number_stm s0) e;
      refusal = c.clean-in-Continue.ensures.refusal ∙ sym in_none ∙ ap (λ z. first_in (stm_nodes s0 z)) e;
      site = ap (site_after s0) e;
    }

pub any_stm-returns-in-Return : goal.any_stm-returns-in-Return
any_stm-returns-in-Return measure c =
    let s0 = site_of c.args.self.now in
    let e : s.Return c.in-Return.place (maybe_of exp_of c.in-Return.value) ≡ stm_of c.args.stmt.now = sym (ap stm_of c.in-Return.is) in
    record {
      part = subst (λ z. IfOk c.return_stmt.result (λ r. statement_of r.part ≡ number_stm s0 z)) e c.return_stmt.ensures.part;
      refusal = subst (λ z. IfOk c.return_stmt.result (λ r. r.refusal ≡ first_in (stm_nodes s0 z))) e c.return_stmt.ensures.refusal;
      site = on_ok c.return_stmt.result (ap (site_after s0) e);
    }

pub any_stm-returns-in-Block : goal.any_stm-returns-in-Block
any_stm-returns-in-Block measure c =
    let s0 = site_of c.args.self.now in
    let e : s.block (map stm_of c.deref-in-Block.result.now) ≡ stm_of c.args.stmt.now =
    ap (λ l. s.block (map stm_of l)) c.deref-in-Block.ensures.value ∙ sym (seen_block c.args.stmt.now c.in-Block.body c.in-Block.is) in
    record {
      part = subst (λ z. IfOk c.block.result (λ r. statement_of r.part ≡ number_stm s0 z)) e c.block.ensures.part;
      refusal = subst (λ z. IfOk c.block.result (λ r. r.refusal ≡ first_in (stm_nodes s0 z))) e c.block.ensures.refusal;
      site = subst (λ z. OnOk c.block.result (site_of c.block.new.self ≡ site_after s0 z)) e c.block.ensures.site;
    }

pub any_stm-returns-in_ok-head-in-If : goal.any_stm-returns-in_ok-head-in-If
any_stm-returns-in_ok-head-in-If measure c =
    let s0 = site_of c.args.self.now in
    let at = c.in-If.place in
    let condition = exp_of c.in-If.condition in
    let body = stm_of c.in-If.then.value in
    let otherwise = tree_maybe c.in-If.otherwise in
    let head = c.in_ok-head-in-If.head in
    let e : stm_of c.args.stmt.now ≡ branches at condition body otherwise = seen_if c.args.stmt.now at c.in-If.condition c.in-If.then c.in-If.otherwise c.in-If.is in
    let moved : site_of c.guarded_body.new.self ≡ past s0 body = c.in_ok-head-in-If.ensures.site ∙ ap (λ z. past s0 (stm_of z)) c.deref-in-If.ensures in
    let is_body : statement_of head.part.body.value ≡ number_stm s0 body = c.in_ok-head-in-If.ensures.body ∙ ap (λ z. number_stm s0 (stm_of z)) c.deref-in-If.ensures in
    let found : head.refusal ≡ earlier_of (first_in (exp_nodes s0 condition)) (first_in (stm_nodes s0 body)) =
    c.in_ok-head-in-If.ensures.refusal ∙ ap (λ z. first_in (exp_nodes s0 condition ++ stm_nodes s0 (stm_of z))) c.deref-in-If.ensures ∙ in_append (exp_nodes s0 condition) (stm_nodes s0 body) in
    let part = (λ j. numbered_branches at (c.in_ok-head-in-If.ensures.condition j) (is_body j) (number_maybe_stm (moved j) otherwise))
    ∙ sym (number_branches s0 at condition body otherwise) ∙ ap (number_stm s0) (sym e) in
    let refusal = (λ j. earlier_of (found j) (first_in (maybe_stm_nodes (moved j) otherwise))) ∙ sym (in_branches s0 at condition body otherwise) ∙ ap (λ z. first_in (stm_nodes s0 z)) (sym e) in
    let site = ap (λ z. past_maybe z otherwise) moved ∙ sym (behind_branches s0 at condition body otherwise) ∙ ap (site_after s0) (sym e) in
    record {
      part = subst (λ z. IfOk c.if_stmt.result (λ r. statement_of r.part ≡ z)) part c.if_stmt.ensures.part;
      refusal = subst (λ z. IfOk c.if_stmt.result (λ r. r.refusal ≡ z)) refusal c.if_stmt.ensures.refusal;
      site = subst (λ z. OnOk c.if_stmt.result (site_of c.if_stmt.new.self ≡ z)) site c.if_stmt.ensures.site;
    }

pub any_stm-returns-in_ok-head-in-While : goal.any_stm-returns-in_ok-head-in-While
any_stm-returns-in_ok-head-in-While measure c =
    let s0 = site_of c.args.self.now in
    let at = c.in-While.place in
    let condition = exp_of c.in-While.condition in
    let head = c.in_ok-head-in-While.head in
    let e : s.While at condition (stm_of c.in-While.body.value) ≡ stm_of c.args.stmt.now = sym (ap stm_of c.in-While.is) in
    let is_body : statement_of head.part.body.value ≡ number_stm s0 (stm_of c.in-While.body.value) = c.in_ok-head-in-While.ensures.body ∙ ap (λ z. number_stm s0 (stm_of z)) c.deref-in-While.ensures in
    record {
      part = (λ j. m.While at (c.in_ok-head-in-While.ensures.condition j) (is_body j)) ∙ ap (number_stm s0) e;
      refusal = c.in_ok-head-in-While.ensures.refusal ∙ ap (λ z. first_in (exp_nodes s0 condition ++ stm_nodes s0 (stm_of z))) c.deref-in-While.ensures ∙ ap (λ z. first_in (stm_nodes s0 z)) e;
      site = c.in_ok-head-in-While.ensures.site ∙ ap (λ z. past s0 (stm_of z)) c.deref-in-While.ensures ∙ ap (site_after s0) e;
    }

pub any_stm-returns-in_ok-body-in-For : goal.any_stm-returns-in_ok-body-in-For
any_stm-returns-in_ok-body-in-For measure c =
    let s0 = site_of c.args.self.now in
    let at = c.in-For.place in
    let first = tree_maybe c.in-For.first in
    let condition = maybe_of exp_of c.in-For.condition in
    let update = tree_maybe c.in-For.update in
    let body = stm_of c.in-For.body.value in
    let s1 = site_of c.maybe_stm.new.self in
    let s2 = site_of c.maybe_inner.new.self in
    let e : s.For at first condition update body ≡ stm_of c.args.stmt.now = sym (seen_for c.args.stmt.now at c.in-For.first c.in-For.condition c.in-For.update c.in-For.body c.in-For.is) in
    let to1 = c.in_ok-first-in-For.ensures.site in
    let to2 = c.in_ok-update-in-For.ensures.site in
    let is_body : statement_of c.in_ok-body-in-For.body.part.value ≡ number_stm s2 body = c.in_ok-body-in-For.ensures.part ∙ ap (λ z. number_stm s2 (stm_of z)) c.deref-in-For.ensures in
    let found : c.in_ok-body-in-For.body.refusal ≡ first_in (stm_nodes s2 body) = c.in_ok-body-in-For.ensures.refusal ∙ ap (λ z. first_in (stm_nodes s2 (stm_of z))) c.deref-in-For.ensures in
    let last : s2 ≡ past_maybe (behind_maybe s0 first) update = last_site at first condition update body s0 s1 s2 to1 to2 in
    let behind_body : site_of c.scoped_stmt.new.self ≡ past (past_maybe (behind_maybe s0 first) update) body = c.in_ok-body-in-For.ensures.site ∙ (λ j. past (last j) (stm_of (c.deref-in-For.ensures j))) in
    record {
      part = held_for at c.in_ok-first-in-For.first.part c.in_ok-condition-in-For.condition c.in_ok-update-in-For.update.part c.in_ok-body-in-For.body.part
          ∙ for_value at first condition update body s0 s1 s2 to1 to2
          (seen_maybe c.in_ok-first-in-For.first.part) (maybe_of expression_of c.in_ok-condition-in-For.condition)
          (seen_maybe c.in_ok-update-in-For.update.part) (statement_of c.in_ok-body-in-For.body.part.value)
          c.in_ok-first-in-For.ensures.part c.in_ok-condition-in-For.ensures c.in_ok-update-in-For.ensures.part is_body
          ∙ ap (number_stm s0) e;
      refusal = c.earlier_of-in-For.ensures ∙ ap (λ z. earlier_of z c.in_ok-body-in-For.body.refusal) (c.earlier_of.ensures ∙ ap (λ z. earlier_of z c.in_ok-update-in-For.update.refusal) c.earlier_of-refusal.ensures)
          ∙ for_first at first condition update body s0 s1 s2 to1 to2
          c.in_ok-first-in-For.first.refusal c.check_maybe.result c.in_ok-update-in-For.update.refusal c.in_ok-body-in-For.body.refusal
          c.in_ok-first-in-For.ensures.refusal c.check_maybe.ensures c.in_ok-update-in-For.ensures.refusal found
          ∙ ap (λ z. first_in (stm_nodes s0 z)) e;
      site = c.cut.ensures ∙ for_site s0 (site_of c.scoped_stmt.new.self) c.len-len.result first update body (c.len-len.ensures ∙ sym (scope_length c.args.self.now.scope)) behind_body
          ∙ ap (site_after s0) e;
    }

pub any_stm-returns-in-Foreach : goal.any_stm-returns-in-Foreach
any_stm-returns-in-Foreach measure c =
    let s0 = site_of c.args.self.now in
    let e : s.Foreach c.in-Foreach.place c.in-Foreach.name_place c.in-Foreach.name (exp_of c.in-Foreach.domain)
    (stm_of c.deref-in-Foreach.result.now) ≡ stm_of c.args.stmt.now =
    ap (λ z. s.Foreach c.in-Foreach.place c.in-Foreach.name_place c.in-Foreach.name (exp_of c.in-Foreach.domain) (stm_of z))
    c.deref-in-Foreach.ensures ∙ sym (ap stm_of c.in-Foreach.is) in
    record {
      part = subst (λ z. IfOk c.foreach.result (λ r. statement_of r.part ≡ number_stm s0 z)) e c.foreach.ensures.part;
      refusal = subst (λ z. IfOk c.foreach.result (λ r. r.refusal ≡ first_in (stm_nodes s0 z))) e c.foreach.ensures.refusal;
      site = subst (λ z. OnOk c.foreach.result (site_of c.foreach.new.self ≡ site_after s0 z)) e c.foreach.ensures.site;
    }
