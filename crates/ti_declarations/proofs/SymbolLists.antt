-- Symbols, one after the other.
use Rattle.std.proofs.Common.{◌≡◌, ◌<◌, ℕ, List, [], ◌∷◌, ◌++◌, All, length, slice_index_or, subst, sym, arith}
use Rattle.std.proofs.lemmas.List.Elements.{All-append}
use Rattle.ti_lsp.specs.declared.symbol.Symbol.{Symbol}
use Rattle.ti_lsp.specs.Symbols.{IsSymbolOf}

only : (text : List ℕ) (s : Symbol) → IsSymbolOf text s → All (IsSymbolOf text) (s ∷ [])
only text s is k d below =
    let first : 0 ≡ k = omega arith in
    subst (λ (n : ℕ). IsSymbolOf text (slice_index_or (s ∷ []) n d)) first is

pub one_more : (text : List ℕ) (symbols : List Symbol) (s : Symbol) → All (IsSymbolOf text) symbols → IsSymbolOf text s
    → All (IsSymbolOf text) (symbols ++ s ∷ [])
one_more text symbols s are is = All-append (IsSymbolOf text) symbols (s ∷ []) are (only text s is)
