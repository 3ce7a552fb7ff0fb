-- The search for the byte at a position.
use Rattle.std.proofs.Common.{◌≡◌, ◌≤◌, ◌<◌, ◌+◌, ◌==◌, ◌&&◌, ℕ, Bool, true, false, List, length, arith, refl, sym, ap, ap₂, ◌∙◌}
use Rattle.std.proofs.lemmas.Bool.{eq-eqb, eqb-true}
use borrow.Author.Count.{below_more}
use Rattle.ti_base.specs.declared.place.Place.{Place}
use Rattle.ti_base.specs.Places.{place_of}
use Rattle.ti_lex.specs.TokenSpans.{IsNoPosition}

-- none of the first n bytes is at the position
pub record NoneBefore (text : List ℕ) (n : ℕ) (place : Place) : Type 0 where
  pub none : (k : ℕ) → k < n → place_of text k ≡ place → ⊥

both_of : (a b : Bool) → (a && b) ≡ true → (a ≡ true) × (b ≡ true)
both_of true b h = (refl, h)
both_of false b h = absurd (cc)

-- two numbers each decide whether two positions are equal
pub same_decides : (p q : Place) (b : Bool) → b ≡ ((p.line == q.line) && (p.col == q.col)) → (b ≡ true → p ≡ q) × (b ≡ false → p ≡ q → ⊥)
same_decides p q b is = (λ t. same (sym is ∙ t), λ f e. other (sym is ∙ f) e)
  where
    same : ((p.line == q.line) && (p.col == q.col)) ≡ true → p ≡ q
    same t = let e = both_of (p.line == q.line) (p.col == q.col) t in
        let l : p.line ≡ q.line = eqb-true p.line q.line e.0 in
        let k : p.col ≡ q.col = eqb-true p.col q.col e.1 in λ j. record { line = l j; col = k j }

    other : ((p.line == q.line) && (p.col == q.col)) ≡ false → p ≡ q → ⊥
    other f e = let t : ((p.line == q.line) && (p.col == q.col)) ≡ true = ap₂ (λ a b. a && b) (eq-eqb p.line q.line (ap (λ (z : Place). z.line) e)) (eq-eqb p.col q.col (ap (λ (z : Place). z.col) e)) in
        let apart : true ≡ false = sym t ∙ f in absurd (cc)

pub none_before : (text : List ℕ) (place : Place) → NoneBefore text 0 place
none_before text place = record { none = λ k below is. absurd (omega arith) }

pub one_more : (text : List ℕ) (n : ℕ) (place : Place) → NoneBefore text n place → (place_of text n ≡ place → ⊥) → NoneBefore text (n + 1) place
one_more text n place before here = record { none = below_more (λ k. place_of text k ≡ place → ⊥) n before.none here }

pub no_position : (text : List ℕ) (n : ℕ) (place : Place) → NoneBefore text (n + 1) place → length text ≤ n → IsNoPosition text place
no_position text n place before whole = λ k within is. before.none k (omega arith) is
