use Rattle.std.proofs.Common.{◌≡◌, ◌∙◌, ℕ, List, [], ap, codes, Result, Ok, Err, IfOk}
use Rattle.ti_lang.specs.Members.{with_name}
use Rattle.ti_names.specs.declared.spelling.NameTable.{NameTable}
use Rattle.ti_names.proofs.spelling.NameTable.built_in.Goals as goal

-- a word more than known ones
one_more : {before after : List (List ℕ)} (known : List (List ℕ)) (word : List ℕ) → after ≡ with_name before word → before ≡ known → after ≡ with_name known word
one_more known word e f = e ∙ ap (λ names. with_name names word) f

last_one : {E : Type 0} {before : List (List ℕ)} (known : List (List ℕ)) (word : List ℕ) (r : Result NameTable E) → before ≡ known → IfOk r (λ t. t.spelled.items ≡ with_name before word)
    → IfOk r (λ t. t.spelled.items ≡ with_name known word)
last_one known word (Ok t) e f = one_more known word f e
last_one known word (Err x) e f = f

pub returns : goal.returns
returns c =
    let size = one_more [] (codes "size") c.in_ok-names.ensures c.new.ensures.items in
    let min = one_more _ (codes "min") c.in_ok-names-2.ensures size in
    let max = one_more _ (codes "max") c.in_ok-names-3.ensures min in
    let contains = one_more _ (codes "contains") c.in_ok-names-4.ensures max in
    let domain = one_more _ (codes "domain") c.in_ok-names-5.ensures contains in
    let restrict = one_more _ (codes "restrict") c.in_ok-names-6.ensures domain in
    let translate = one_more _ (codes "translate") c.in_ok-names-7.ensures restrict in
    let slice = one_more _ (codes "slice") c.in_ok-names-8.ensures translate in
    let copy = one_more _ (codes "copy") c.in_ok-names-9.ensures slice in
    let exchange = one_more _ (codes "exchange") c.in_ok-names-10.ensures copy in
    last_one _ (codes "delete") c.with-11.result exchange c.with-11.ensures
