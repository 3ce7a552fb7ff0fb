-- What is known of the name at an offset of a source.
use Rattle.std.specs.Prelude.{ℕ, List}
use Rattle.ti_lex.specs.TokenSpans.{EndsToken}
use Rattle.ti_lsp.specs.declared.name.KnownName.{KnownName}
use Rattle.ti_lsp.specs.Names.{IsKnownAt}

-- the name is at the offset, and it and the name in the declaration are tokens of the same spelling
pub record IsKnownToken (text : List ℕ) (offset : ℕ) (name : KnownName) : Type 0 where
  pub is_known : IsKnownAt text offset name
  pub token : EndsToken text name.start name.end
  pub declared_token : EndsToken text name.declared_start name.declared_end
