use Rattle.std.proofs.Common.{◌≡◌, ◌∙◌, ◌<◌, ◌+◌, ℕ, List, [], ◌∷◌, ◌++◌, map, take, length, get_or, ap, sym, refl}
use Rattle.std.specs.List.{list_any}
use Rattle.std.proofs.lemmas.List.{take_more}
use Rattle.ti_syntax.specs.declared.tree.classes.Modifier.{Modifier}
use Rattle.ti_lang.specs.Members.{is_static, is_static_word}
use Rattle.ti_names.specs.declared.method_decls.MethodDecl.{MethodDecl}
use Rattle.ti_names.specs.MethodDecl.{method_decl_of}
use Rattle.ti_names.specs.Mirrors.Tables.{static_table}
use Rattle.ti_names.proofs.method_decls.statics.Goals as goal

statics_last : (xs : List MethodDecl) (own : MethodDecl) → static_table (map method_decl_of (xs ++ own ∷ [])) ≡ static_table (map method_decl_of xs) ++ is_static (method_decl_of own).method ∷ []
statics_last [] own = refl
statics_last (x ∷ xs) own = ap (λ found. is_static (method_decl_of x).method ∷ found) (statics_last xs own)

-- the table of one method more
statics_more : (ms : List MethodDecl) (i : ℕ) (own : MethodDecl) → i < length ms → own ≡ get_or ms i own
    → static_table (map method_decl_of (take i ms)) ++ is_static (method_decl_of own).method ∷ [] ≡ static_table (map method_decl_of (take (i + 1) ms))
statics_more ms i own lt at =
    sym (ap (λ os. static_table (map method_decl_of os)) (take_more ms i own lt ∙ ap (λ o. take i ms ++ o ∷ []) (sym at)) ∙ statics_last (take i ms) own)

pub loop-own-preserved : goal.loop-own-preserved
loop-own-preserved c =
    let own = c.own-item.result in
    let told : c.has_static.result ≡ is_static (method_decl_of own).method = c.has_static.ensures ∙ ap (list_any (λ (m : Modifier). is_static_word m.word)) c.deref.ensures.value in
    c.in_ok-push.ensures.items ∙ (λ j. c.loop-own.invariant j ++ told j ∷ []) ∙ statics_more c.args.methods.now c.loop-own.own-index own c.loop-own-test.true c.own-item.is
