-- Token kinds: their indices, and the spelling of reserved words, operators and punctuation marks.
use Rattle.std.specs.Prelude.{ℕ, Bool, ◌==◌, List, Option, Some, None, codes}
use Rattle.ti_syntax.specs.declared.token.TokenKind.{TokenKind}
use Rattle.ti_syntax.specs.declared.token.TokenKind.TheVariants as k

-- the index of the variant, unique among the variants
abbrev pub code : TokenKind → ℕ
code k.KeywordBoolean = 0
code k.KeywordBreak = 1
code k.KeywordBroadcast = 2
code k.KeywordClass = 3
code k.KeywordContinue = 4
code k.KeywordDomain = 5
code k.KeywordElse = 6
code k.KeywordFalse = 7
code k.KeywordFinal = 8
code k.KeywordFor = 9
code k.KeywordForeach = 10
code k.KeywordIf = 11
code k.KeywordInt = 12
code k.KeywordLocal = 13
code k.KeywordLong = 14
code k.KeywordNew = 15
code k.KeywordNull = 16
code k.KeywordPoint = 17
code k.KeywordPrintln = 18
code k.KeywordPrivate = 19
code k.KeywordProtected = 20
code k.KeywordPublic = 21
code k.KeywordRectDomain = 22
code k.KeywordReturn = 23
code k.KeywordSharedRegion = 24
code k.KeywordSingle = 25
code k.KeywordStatic = 26
code k.KeywordString = 27
code k.KeywordSystem = 28
code k.KeywordThis = 29
code k.KeywordTi = 30
code k.KeywordTrue = 31
code k.KeywordVoid = 32
code k.KeywordWhile = 33
code k.Plus = 34
code k.Minus = 35
code k.Star = 36
code k.Slash = 37
code k.Percent = 38
code k.ShiftLeft = 39
code k.ShiftRight = 40
code k.UnsignedShiftRight = 41
code k.Less = 42
code k.LessEqual = 43
code k.Greater = 44
code k.GreaterEqual = 45
code k.Equal = 46
code k.NotEqual = 47
code k.Ampersand = 48
code k.Bar = 49
code k.Caret = 50
code k.Tilde = 51
code k.Exclamation = 52
code k.AndAnd = 53
code k.OrOr = 54
code k.Assign = 55
code k.PlusAssign = 56
code k.MinusAssign = 57
code k.StarAssign = 58
code k.SlashAssign = 59
code k.PercentAssign = 60
code k.AmpersandAssign = 61
code k.BarAssign = 62
code k.CaretAssign = 63
code k.ShiftLeftAssign = 64
code k.ShiftRightAssign = 65
code k.UnsignedShiftRightAssign = 66
code k.PlusPlus = 67
code k.MinusMinus = 68
code k.LeftParen = 69
code k.RightParen = 70
code k.LeftBracket = 71
code k.RightBracket = 72
code k.LeftBrace = 73
code k.RightBrace = 74
code k.Semicolon = 75
code k.Comma = 76
code k.Dot = 77
code k.Colon = 78
code k.End = 79
code (k.Name _) = 80
code (k.Dim _) = 81
code (k.Int _) = 82
code (k.LongInt _) = 83
code (k.Str _) = 84

-- whether two kinds are the same variant, whatever their values
abbrev pub same_kind : TokenKind → TokenKind → Bool
same_kind a b = code a == code b

-- the spelling of a reserved word; None for other kinds
abbrev pub word_of : TokenKind → Option (List ℕ)
word_of k.KeywordBoolean = Some (codes "boolean")
word_of k.KeywordBreak = Some (codes "break")
word_of k.KeywordBroadcast = Some (codes "broadcast")
word_of k.KeywordClass = Some (codes "class")
word_of k.KeywordContinue = Some (codes "continue")
word_of k.KeywordDomain = Some (codes "Domain")
word_of k.KeywordElse = Some (codes "else")
word_of k.KeywordFalse = Some (codes "false")
word_of k.KeywordFinal = Some (codes "final")
word_of k.KeywordFor = Some (codes "for")
word_of k.KeywordForeach = Some (codes "foreach")
word_of k.KeywordIf = Some (codes "if")
word_of k.KeywordInt = Some (codes "int")
word_of k.KeywordLocal = Some (codes "local")
word_of k.KeywordLong = Some (codes "long")
word_of k.KeywordNew = Some (codes "new")
word_of k.KeywordNull = Some (codes "null")
word_of k.KeywordPoint = Some (codes "Point")
word_of k.KeywordPrintln = Some (codes "println")
word_of k.KeywordPrivate = Some (codes "private")
word_of k.KeywordProtected = Some (codes "protected")
word_of k.KeywordPublic = Some (codes "public")
word_of k.KeywordRectDomain = Some (codes "RectDomain")
word_of k.KeywordReturn = Some (codes "return")
word_of k.KeywordSharedRegion = Some (codes "SharedRegion")
word_of k.KeywordSingle = Some (codes "single")
word_of k.KeywordStatic = Some (codes "static")
word_of k.KeywordString = Some (codes "String")
word_of k.KeywordSystem = Some (codes "System")
word_of k.KeywordThis = Some (codes "this")
word_of k.KeywordTi = Some (codes "Ti")
word_of k.KeywordTrue = Some (codes "true")
word_of k.KeywordVoid = Some (codes "void")
word_of k.KeywordWhile = Some (codes "while")
word_of _ = None

-- the spelling of an operator or a punctuation mark; None for other kinds
abbrev pub sign_of : TokenKind → Option (List ℕ)
sign_of k.Plus = Some (codes "+")
sign_of k.Minus = Some (codes "-")
sign_of k.Star = Some (codes "*")
sign_of k.Slash = Some (codes "/")
sign_of k.Percent = Some (codes "%")
sign_of k.ShiftLeft = Some (codes "<<")
sign_of k.ShiftRight = Some (codes ">>")
sign_of k.UnsignedShiftRight = Some (codes ">>>")
sign_of k.Less = Some (codes "<")
sign_of k.LessEqual = Some (codes "<=")
sign_of k.Greater = Some (codes ">")
sign_of k.GreaterEqual = Some (codes ">=")
sign_of k.Equal = Some (codes "==")
sign_of k.NotEqual = Some (codes "!=")
sign_of k.Ampersand = Some (codes "&")
sign_of k.Bar = Some (codes "|")
sign_of k.Caret = Some (codes "^")
sign_of k.Tilde = Some (codes "~")
sign_of k.Exclamation = Some (codes "!")
sign_of k.AndAnd = Some (codes "&&")
sign_of k.OrOr = Some (codes "||")
sign_of k.Assign = Some (codes "=")
sign_of k.PlusAssign = Some (codes "+=")
sign_of k.MinusAssign = Some (codes "-=")
sign_of k.StarAssign = Some (codes "*=")
sign_of k.SlashAssign = Some (codes "/=")
sign_of k.PercentAssign = Some (codes "%=")
sign_of k.AmpersandAssign = Some (codes "&=")
sign_of k.BarAssign = Some (codes "|=")
sign_of k.CaretAssign = Some (codes "^=")
sign_of k.ShiftLeftAssign = Some (codes "<<=")
sign_of k.ShiftRightAssign = Some (codes ">>=")
sign_of k.UnsignedShiftRightAssign = Some (codes ">>>=")
sign_of k.PlusPlus = Some (codes "++")
sign_of k.MinusMinus = Some (codes "--")
sign_of k.LeftParen = Some (codes "(")
sign_of k.RightParen = Some (codes ")")
sign_of k.LeftBracket = Some (codes "[")
sign_of k.RightBracket = Some (codes "]")
sign_of k.LeftBrace = Some (codes "{")
sign_of k.RightBrace = Some (codes "}")
sign_of k.Semicolon = Some (codes ";")
sign_of k.Comma = Some (codes ",")
sign_of k.Dot = Some (codes ".")
sign_of k.Colon = Some (codes ":")
sign_of _ = None
