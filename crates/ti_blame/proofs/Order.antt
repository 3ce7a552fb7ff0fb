-- Keys that compare equal are equal, and the order of keys is total.
use Rattle.std.proofs.Common.{◌≡◌, ℕ, Bool, true, false, List, refl, ap, sym, ◌∙◌}
use Rattle.std.specs.BTreeMap.{is_at}
use Rattle.std.specs.Cmp.{IsTotalOrder}
use Rattle.std.specs.Ordering.{nat_cmp, ordering_then}
use Rattle.std.proofs.lemmas.Cmp.{then_total, on_total, nat_cmp_total, eq_by_cmp_equiv}
use Rattle.std.proofs.lemmas.Map.Lookups.{CmpEqualImpliesEq, exact_pairs, exact_unsigned}
use Rattle.std.proofs.lemmas.Map.Views.{tells_apart}
use Rattle.ti_blame.specs.declared.mark.MarkKind.{MarkKind}
use Rattle.ti_blame.specs.declared.mark.MarkKind.TheVariants as kind
use Rattle.ti_blame.specs.declared.mark.Mark.{Mark}
use Rattle.ti_blame.specs.declared.mark.MarkKey.{MarkKey}
use Rattle.ti_blame.specs.Keys.{rank, kind_of, key_of, mark_at, key_cmp}

pub names_total : IsTotalOrder key_cmp
names_total = then_total (on_total (λ n. n.line) nat_cmp_total) (then_total (on_total (λ n. n.col) nat_cmp_total) (on_total (λ n. n.rank) nat_cmp_total))

name_from : ℕ × (ℕ × ℕ) → MarkKey
name_from p = record { line = p.0; col = p.1.0; rank = p.1.1 }

pub names_exact : CmpEqualImpliesEq key_cmp
unfolding name_from
names_exact a b h =
    ap name_from (exact_pairs nat_cmp (λ (p q : ℕ × ℕ). ordering_then (nat_cmp p.0 q.0) (nat_cmp p.1 q.1)) exact_unsigned
    (exact_pairs nat_cmp nat_cmp exact_unsigned exact_unsigned) (a.line, (a.col, a.rank)) (b.line, (b.col, b.rank)) h)

-- names that compare alike are one
pub same_name : (a b : MarkKey) → is_at (key_cmp a) b ≡ true → a ≡ b
same_name a b h = tells_apart names_exact a b h

pub flip_name : (a b : MarkKey) → is_at (key_cmp a) b ≡ is_at (key_cmp b) a
flip_name a b = (eq_by_cmp_equiv names_total).symm a b

pub name_itself : (a : MarkKey) → is_at (key_cmp a) a ≡ true
name_itself a = (eq_by_cmp_equiv names_total).refl a

-- a mark is that of its name
of_rank : (k : MarkKind) → kind_of (rank k) ≡ k
of_rank kind.Method = refl
of_rank kind.Result = refl
of_rank kind.Variable = refl

pub mark_itself : (m : Mark) → mark_at (key_of m) ≡ m
mark_itself m = ap (λ (k : MarkKind). record m { kind = k }) (of_rank m.kind)

pub same_mark : (m n : Mark) → is_at (key_cmp (key_of m)) (key_of n) ≡ true → m ≡ n
same_mark m n h = sym (mark_itself m) ∙ ap mark_at (same_name (key_of m) (key_of n) h) ∙ mark_itself n
