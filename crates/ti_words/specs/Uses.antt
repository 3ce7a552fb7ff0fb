-- How command-line arguments are uses of options.
use Rattle.std.specs.Prelude.{ℕ, Bool, true, not, ◌==◌, ◌&&◌, ◌++◌, if◌then◌else◌}
use Rattle.std.specs.Prelude.{List, [], ◌∷◌, codes, find, Option, Some, None, option_map}
use Rattle.std.specs.List.{list_any}
use Rattle.std.specs.Str.{bytes_eq}

-- an argument, as its bytes
abbrev pub Word : Type 0
Word = List ℕ

-- one use of an option: its name and its value
pub record OptionUse : Type 0 where
  pub name : Word
  pub value : Word

-- what one argument is: an option whose value is the next argument, an option with its value or without one, an argument that doesn't
-- begin with `-`, or one that can't occur on the command line
pub data ArgKind : Type 0 where
  awaits : Word → ArgKind
  gives : OptionUse → ArgKind
  plain : Word → ArgKind
  wrong : ArgKind

-- `--` and the name of an option
abbrev pub with_dashes : Word → Word
with_dashes name = 45 ∷ 45 ∷ name

-- what follows a prefix in an argument, if it has the prefix
abbrev pub strip_front : Word → Word → Option Word
strip_front [] word = Some word
strip_front (x ∷ xs) [] = None
strip_front (x ∷ xs) (y ∷ ys) = if x == y then strip_front xs ys else None

-- the option with this name and this non-empty value; `other` if there is none
abbrev pub option_with_value : Word → Option Word → ArgKind → ArgKind
option_with_value name None other = other
option_with_value name (Some []) other = other
option_with_value name (Some (byte ∷ bytes)) other = gives (record { name = name; value = byte ∷ bytes })

-- the option with this name, as `--NAME` or `--NAME=VALUE`; `other` if the argument is neither
abbrev pub as_setting : Word → Word → ArgKind → ArgKind
as_setting name word other =
    if bytes_eq word (with_dashes name) then awaits name else option_with_value name (strip_front (with_dashes name ++ 61 ∷ []) word) other

-- the option with this name that has no value, as `--NAME`; `other` if the argument isn't this
abbrev pub as_report : Word → Word → ArgKind → ArgKind
as_report name word other =
    if bytes_eq word (with_dashes name) then gives (record { name = name; value = codes "true" }) else other

-- what an argument is that begins with `-`
abbrev pub dashed_piece : Word → ArgKind
dashed_piece word =
    as_setting (codes "mode") word (as_setting (codes "procs") word (as_setting (codes "workers") word (as_setting (codes "fuel") word
    (as_setting (codes "seed") word (as_setting (codes "against") word (as_report (codes "trace") word (as_report (codes "stats") word
    (as_report (codes "races") word wrong))))))))

-- what an argument is
abbrev pub piece_of : Word → ArgKind
piece_of [] = wrong
piece_of (byte ∷ bytes) = if byte == 45 then dashed_piece (byte ∷ bytes) else plain (byte ∷ bytes)

-- the uses with one more before them
abbrev pub and_uses : OptionUse → Option (List OptionUse) → Option (List OptionUse)
and_uses first = option_map (λ uses. first ∷ uses)

-- the uses of options that the arguments are: each option with a value has it, and an argument that is neither an option nor a value is
-- the source file
abbrev pub option_uses : List ArgKind → Option (List OptionUse)
option_uses [] = Some []
option_uses (gives use_of ∷ rest) = and_uses use_of (option_uses rest)
option_uses (plain file ∷ rest) = and_uses (record { name = codes "FILE"; value = file }) (option_uses rest)
option_uses (awaits name ∷ plain value ∷ rest) = and_uses (record { name = name; value = value }) (option_uses rest)
option_uses _ = None

-- one of the uses is of the option with this name
abbrev pub is_used : Word → List OptionUse → Bool
is_used name uses = list_any (λ u. bytes_eq u.name name) uses

-- no option is used twice
abbrev pub is_each_once : List OptionUse → Bool
is_each_once [] = true
is_each_once (first ∷ rest) = not (is_used first.name rest) && is_each_once rest

-- the value of the option with this name
abbrev pub value_of : Word → List OptionUse → Option Word
value_of name uses = option_map (λ u. u.value) (find (λ u. bytes_eq u.name name) uses)
