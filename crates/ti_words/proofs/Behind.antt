-- The test of the code for arguments that can occur on the command line agrees with the specification.
use Rattle.std.proofs.Common.{◌≡◌, ◌≢◌, ◌∙◌, ◌==◌, ◌||◌, Bool, cond, true, false, refl, sym, ap, arith, [], ◌∷◌, ◌++◌, Option, Some, None, option_map, codes}
use Rattle.std.specs.Prelude.{MatchOption}
use Rattle.std.specs.Borrow.{Bor}
use Rattle.std.specs.Str.{bytes_eq}
use Rattle.std.proofs.lemmas.Bool.Decides.{nat_tests}
use Rattle.ti_words.specs.Uses.{ArgKind, Word, as_report, as_setting, awaits, strip_front, with_dashes, dashed_piece, gives, option_with_value, wrong}
use Rattle.ti_words.specs.Mirrors.Command.{can_stand, is_left, is_setting}
use Rattle.ti_words.proofs.Views.{behind_is, front}

behind_at : (p r : Word) → strip_front p (p ++ r) ≡ Some r
behind_at [] r = refl
behind_at (x ∷ p) r = go (x == x) (grind (arith, nat_tests)) (behind_at p r)
  where
    go : (b : Bool) → b ≡ true → strip_front p (p ++ r) ≡ Some r → cond b (strip_front p (p ++ r)) None ≡ Some r
    go true e next = next
    go false e next = cc

-- what the strip of a prefix answers
pub behind_from : (p s : Word) (r : Option (Bor Word)) → MatchOption r ((rest : Word) → s ≢ p ++ rest) (λ x. s ≡ p ++ x.now) → option_map (λ t. t.now) r ≡ strip_front p s
behind_from p s None h = go (strip_front p s) refl
  where
    go : (o : Option Word) → strip_front p s ≡ o → None ≡ o
    go None e = refl
    go (Some r) e = absurd (h r (behind_is p s r e))
behind_from p s (Some x) h = sym (ap (strip_front p) h ∙ behind_at p x.now)

setting_stands : (name word : Word) (piece : ArgKind) → can_stand (as_setting name word piece) ≡ (is_setting (with_dashes name) (front name) word || can_stand piece)
setting_stands name word piece = go (bytes_eq word (with_dashes name)) (strip_front (front name) word)
  where
    go : (b : Bool) (o : Option Word) → can_stand (cond b (awaits name) (option_with_value name o piece)) ≡ ((b || is_left o) || can_stand piece)
    go true o = refl
    go false None = refl
    go false (Some []) = refl
    go false (Some (x ∷ xs)) = refl

report_stands : (name word : Word) (piece : ArgKind) → can_stand (as_report name word piece) ≡ (bytes_eq word (with_dashes name) || can_stand piece)
report_stands name word piece = go (bytes_eq word (with_dashes name))
  where
    go : (b : Bool) → can_stand (cond b (gives (record { name = name; value = codes "true" })) piece) ≡ (b || can_stand piece)
    go true = refl
    go false = refl

-- the same tests, taken together from the left
from_left : (a b c d e f g h i : Bool) → (a || (b || (c || (d || (e || (f || (g || (h || (i || false))))))))) ≡ ((((((((a || b) || c) || d) || e) || f) || g) || h) || i)
from_left true b c d e f g h i = refl
from_left false true c d e f g h i = refl
from_left false false true d e f g h i = refl
from_left false false false true e f g h i = refl
from_left false false false false true f g h i = refl
from_left false false false false false true g h i = refl
from_left false false false false false false true h i = refl
from_left false false false false false false false true i = refl
from_left false false false false false false false false true = refl
from_left false false false false false false false false false = refl

-- the tests of a word, each with those before it
abbrev setting_of : Word → Word → Bool
setting_of name = is_setting (with_dashes name) (front name)

abbrev pub first_two : Word → Bool
first_two word = setting_of (codes "mode") word || setting_of (codes "procs") word

abbrev pub first_three : Word → Bool
first_three word = first_two word || setting_of (codes "workers") word

abbrev pub first_four : Word → Bool
first_four word = first_three word || setting_of (codes "fuel") word

abbrev pub first_five : Word → Bool
first_five word = first_four word || setting_of (codes "seed") word

abbrev pub all_settings : Word → Bool
all_settings word = first_five word || setting_of (codes "against") word

abbrev pub and_trace : Word → Bool
and_trace word = all_settings word || bytes_eq word (codes "--trace")

abbrev pub and_stats : Word → Bool
and_stats word = and_trace word || bytes_eq word (codes "--stats")

-- whether a word can stand that begins with `-`
pub argument_stands : (word : Word) → can_stand (dashed_piece word) ≡ (and_stats word || bytes_eq word (codes "--races"))
argument_stands word =
    setting_stands (codes "mode") word _
    ∙ (ap (λ b. setting_of (codes "mode") word || b) (setting_stands (codes "procs") word _
    ∙ ap (λ b. setting_of (codes "procs") word || b) (setting_stands (codes "workers") word _
    ∙ ap (λ b. setting_of (codes "workers") word || b) (setting_stands (codes "fuel") word _
    ∙ ap (λ b. setting_of (codes "fuel") word || b) (setting_stands (codes "seed") word _
    ∙ ap (λ b. setting_of (codes "seed") word || b) (setting_stands (codes "against") word _
    ∙ ap (λ b. setting_of (codes "against") word || b) (report_stands (codes "trace") word _
    ∙ ap (λ b. bytes_eq word (codes "--trace") || b) (report_stands (codes "stats") word _
    ∙ ap (λ b. bytes_eq word (codes "--stats") || b) (report_stands (codes "races") word wrong))))))))
    ∙ from_left (setting_of (codes "mode") word) (setting_of (codes "procs") word) (setting_of (codes "workers") word)
    (setting_of (codes "fuel") word) (setting_of (codes "seed") word) (setting_of (codes "against") word) (bytes_eq word (codes "--trace"))
    (bytes_eq word (codes "--stats")) (bytes_eq word (codes "--races")))

-- the first test holds and is the answer, or the second is
pub or_first : (a b v : Bool) → a ≡ true → v ≡ a → v ≡ (a || b)
or_first true b v e f = f
or_first false b v e f = cc

pub or_second : (a b v : Bool) → a ≡ false → v ≡ b → v ≡ (a || b)
or_second true b v e f = cc
or_second false b v e f = f
