use Rattle.std.proofs.Common.{sym, ap, ◌∙◌, ◌≡◌, is_some, true, false, Bool, Option, None, Some, Bor, refl, ℕ, List, arith, [], ◌∷◌, ◌++◌, length}
use Rattle.std.specs.Map.{lookup}
use Rattle.std.specs.Option.{option_copied}
use Rattle.std.specs.Str.{bytes_eq}
use Rattle.ti_names.specs.Mirrors.Tables.{with_indices, with_new_name}
use Rattle.ti_names.proofs.TableLookups.{names_kept, names_more, table_more}
use Rattle.ti_names.proofs.spelling.NameTable.with.Goals as goal

some_copied : (o : Option (Bor ℕ)) → is_some (option_copied o) ≡ is_some o
some_copied None = refl
some_copied (Some n) = refl

-- whether the table has a name
has_name : (names : List (List ℕ)) (table : List (List ℕ × ℕ)) (name : List ℕ) (found : Option (Bor ℕ)) (b : Bool) → table ≡ with_indices 0 names → option_copied found ≡ lookup (bytes_eq name) table
    → is_some found ≡ b → is_some (lookup (bytes_eq name) (with_indices 0 names)) ≡ b
has_name names table name found b told got is = ap (λ t. is_some (lookup (bytes_eq name) t)) (sym told) ∙ ap is_some (sym got) ∙ some_copied found ∙ is

pub returns-then-is_some : goal.returns-then-is_some
returns-then-is_some c =
    names_kept c.args.self.spelled.items c.args.name.now
    (has_name c.args.self.spelled.items c.args.self.numbers c.args.name.now c.get.result true c.args.self.told c.get.ensures (sym c.is_some.ensures ∙ c.if-is_some.true))

pub returns : goal.returns
returns c =
    let names = c.args.self.spelled.items in
    let name = c.args.name.now in
    let lacks = has_name names c.args.self.numbers name c.get.result false c.args.self.told c.get.ensures (sym c.is_some.ensures ∙ c.if-is_some.false) in
    let bytes : c.new.result ≡ name = c.new.ensures ∙ c.in_ok-bytes.ensures.items_if_clones_equal (λ x y e. e) in
    c.in_ok-push.ensures.items ∙ ap (λ z. names ++ z ∷ []) bytes ∙ names_more names name lacks

pub invariant_of-result : goal.invariant_of-result
invariant_of-result c =
    let names = c.args.self.spelled.items in
    let name = c.args.name.now in
    let lacks = has_name names c.args.self.numbers name c.get.result false c.args.self.told c.get.ensures (sym c.is_some.ensures ∙ c.if-is_some.false) in
    let bytes : c.new.result ≡ name = c.new.ensures ∙ c.in_ok-bytes.ensures.items_if_clones_equal (λ x y e. e) in
    let items : c.push.new.self.items ≡ names ++ name ∷ [] = c.in_ok-push.ensures.items ∙ ap (λ z. names ++ z ∷ []) bytes in
    let number : c.in_ok-number.number ≡ length names = omega (arith, c.in_ok-number.ensures, c.len.ensures, c.args.self.spelled.ok.0) in
    let added : c.add.new.self ≡ with_new_name c.args.self.numbers name c.in_ok-number.number = c.in_ok-add.ensures in
    record { told = added ∙ (λ j. with_new_name (c.args.self.told j) name (number j)) ∙ table_more names name lacks ∙ ap (with_indices 0) (sym items) }
