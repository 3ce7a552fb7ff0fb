-- A token kind with the index of a variant is proved to be that variant.
use Rattle.std.proofs.Common.{◌≡◌, true, refl}
use Rattle.ti_syntax.specs.declared.token.TokenKind.{TokenKind}
use Rattle.ti_syntax.specs.declared.token.TokenKind.TheVariants as k
use Rattle.ti_syntax.specs.Tokens.{same_kind}

pub less_is : (a : TokenKind) → same_kind a k.Less ≡ true → a ≡ k.Less
less_is k.Less h = refl
less_is _ h = cc

pub greater_is : (a : TokenKind) → same_kind a k.Greater ≡ true → a ≡ k.Greater
greater_is k.Greater h = refl
greater_is _ h = cc

pub paren_is : (a : TokenKind) → same_kind a k.LeftParen ≡ true → a ≡ k.LeftParen
paren_is k.LeftParen h = refl
paren_is _ h = cc

pub close_is : (a : TokenKind) → same_kind a k.RightParen ≡ true → a ≡ k.RightParen
close_is k.RightParen h = refl
close_is _ h = cc

pub bracket_is : (a : TokenKind) → same_kind a k.LeftBracket ≡ true → a ≡ k.LeftBracket
bracket_is k.LeftBracket h = refl
bracket_is _ h = cc

pub shut_is : (a : TokenKind) → same_kind a k.RightBracket ≡ true → a ≡ k.RightBracket
shut_is k.RightBracket h = refl
shut_is _ h = cc

pub comma_is : (a : TokenKind) → same_kind a k.Comma ≡ true → a ≡ k.Comma
comma_is k.Comma h = refl
comma_is _ h = cc

pub dot_is : (a : TokenKind) → same_kind a k.Dot ≡ true → a ≡ k.Dot
dot_is k.Dot h = refl
dot_is _ h = cc

pub colon_is : (a : TokenKind) → same_kind a k.Colon ≡ true → a ≡ k.Colon
colon_is k.Colon h = refl
colon_is _ h = cc
