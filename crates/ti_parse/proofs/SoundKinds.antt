-- A token kind with the index of a variant is proved to be that variant, for the kinds of statements and classes.
use Rattle.std.proofs.Common.{◌≡◌, true, refl}
use Rattle.std.proofs.lemmas.Bool.{false≢true}
use Rattle.ti_syntax.specs.declared.token.TokenKind.{TokenKind}
use Rattle.ti_syntax.specs.declared.token.TokenKind.TheVariants as k
use Rattle.ti_syntax.specs.Tokens.{same_kind}

pub assign_is : (a : TokenKind) → same_kind a k.Assign ≡ true → a ≡ k.Assign
assign_is k.Assign h = refl
assign_is _ h = absurd (false≢true h)

pub plus_is : (a : TokenKind) → same_kind a k.Plus ≡ true → a ≡ k.Plus
plus_is k.Plus h = refl
plus_is _ h = absurd (false≢true h)

pub semicolon_is : (a : TokenKind) → same_kind a k.Semicolon ≡ true → a ≡ k.Semicolon
semicolon_is k.Semicolon h = refl
semicolon_is _ h = absurd (false≢true h)

pub brace_is : (a : TokenKind) → same_kind a k.LeftBrace ≡ true → a ≡ k.LeftBrace
brace_is k.LeftBrace h = refl
brace_is _ h = absurd (false≢true h)

pub brace_shut_is : (a : TokenKind) → same_kind a k.RightBrace ≡ true → a ≡ k.RightBrace
brace_shut_is k.RightBrace h = refl
brace_shut_is _ h = absurd (false≢true h)

pub else_is : (a : TokenKind) → same_kind a k.KeywordElse ≡ true → a ≡ k.KeywordElse
else_is k.KeywordElse h = refl
else_is _ h = absurd (false≢true h)

pub println_is : (a : TokenKind) → same_kind a k.KeywordPrintln ≡ true → a ≡ k.KeywordPrintln
println_is k.KeywordPrintln h = refl
println_is _ h = absurd (false≢true h)

pub class_is : (a : TokenKind) → same_kind a k.KeywordClass ≡ true → a ≡ k.KeywordClass
class_is k.KeywordClass h = refl
class_is _ h = absurd (false≢true h)
