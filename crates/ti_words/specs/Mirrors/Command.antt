-- Mirrors the code, for contracts of private functions: the command as it is declared to `clap`, and the check of each argument.
use Rattle.std.specs.Prelude.{Bool, true, false, ◌||◌, List, [], ◌∷◌, Option, Some, None, codes}
use Rattle.std.specs.List.{fold, list_all}
use Rattle.std.specs.Str.{bytes_eq}
use Rattle.clap.specs.Simple.{App, new_app, new_rule, with_rule}
use Rattle.clap.specs.Walk.{Rule}
use Rattle.clap.specs.declared.builder.action.ArgAction.TheVariants.{Set, SetTrue}
use Rattle.clap.specs.declared.parser.matches.ValueSource.{ValueSource}
use Rattle.clap.specs.declared.parser.matches.ValueSource.TheVariants.{CommandLine, DefaultValue}
use Rattle.ti_words.specs.Uses.{ArgKind, Word, awaits, gives, plain, wrong, strip_front, piece_of}

-- the argument can occur on the command line
abbrev pub can_stand : ArgKind → Bool
can_stand wrong = false
can_stand (awaits name) = true
can_stand (gives use_of) = true
can_stand (plain word) = true

-- each argument can occur on the command line
abbrev pub all_stand : List Word → Bool
all_stand = list_all (λ word. can_stand (piece_of word))

-- something non-empty is left
abbrev pub is_left : Option Word → Bool
is_left None = false
is_left (Some []) = false
is_left (Some (byte ∷ bytes)) = true

-- the argument is this option, or begins with `front` and has a non-empty value after it
abbrev pub is_setting : Word → Word → Word → Bool
is_setting flag front word = bytes_eq word flag || is_left (strip_front front word)

-- the value comes from the command line
abbrev pub is_from_words : Option ValueSource → Bool
is_from_words None = false
is_from_words (Some DefaultValue) = false
is_from_words (Some CommandLine) = true

-- an option with a value
abbrev pub setting_rule : Word → Rule
setting_rule name = record (new_rule name) { long = Some name; action = Some Set }

-- an option without a value
abbrev pub report_rule : Word → Rule
report_rule name = record (new_rule name) { long = Some name; action = Some SetTrue }

-- an option with or without a value
abbrev pub flag_rule : Bool → Word → Rule
flag_rule true name = setting_rule name
flag_rule false name = report_rule name

-- the positional argument
abbrev pub file_rule : Rule
file_rule = record (new_rule (codes "FILE")) { action = Some Set }

-- the command without options
abbrev pub bare : App
bare = record (new_app (codes "titan")) { top = record (new_app (codes "titan")).top { no_binary_name = true; disable_help_flag = true } }

-- a command with these options
abbrev pub with_flags : Bool → App → List Word → App
with_flags has_value = fold (λ app name. with_rule app (flag_rule has_value name))

-- the command with all options
abbrev pub titan : App
titan =
    let settings = with_flags true bare (codes "mode" ∷ codes "procs" ∷ codes "workers" ∷ codes "fuel" ∷ codes "seed" ∷ codes "against"
    ∷ []) in
    with_rule (with_flags false settings (codes "trace" ∷ codes "stats" ∷ codes "races" ∷ [])) file_rule
