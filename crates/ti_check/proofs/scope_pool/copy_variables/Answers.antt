use Rattle.std.proofs.Common.{◌≡◌, map, take, IfOk, ap, sym, ◌∙◌, subst}
use Rattle.ti_lang.specs.Program.Scope.{in_scope_of}
use Rattle.ti_check.proofs.Copies.{front_and_rest}
use Rattle.ti_check.proofs.scope_pool.copy_variables.Goals as goal

pub returns : goal.returns
returns c =
    let count = c.common_prefix-count.result in
    let same = ap (λ l. map in_scope_of (take count l)) (sym c.deref.ensures.value) ∙ c.common_prefix-count.ensures.same in
    subst (λ l. IfOk c.append_copies.result (λ v. map in_scope_of v.items ≡ l))
    (front_and_rest in_scope_of c.truncate.new.self.items c.args.unused.items c.args.variables.now count
    c.common_prefix-count.ensures.within_second c.truncate.ensures.items same)
    c.append_copies.ensures
