-- How much work is left: each silent step that costs no tick makes it less, or uses up answers.
use Rattle.std.proofs.Common.{◌≡◌, ℕ, zero, suc, ◌+◌, ◌≤◌, Option, Some, None, List, [], ◌∷◌, ◌++◌, slice_get, find, Bool, true, false, cond, ◌&&◌, ◌==◌, if◌then◌else◌, arith}
use Rattle.ti_lang.specs.Program.Statements.{NumberedStm, MaybeNumbered, NoStm, SomeStm, NumberedStms, Nil, Cons, numbered_stms}
use Rattle.ti_lang.specs.Program.Statements as s
use Rattle.ti_lang.specs.Program.Classes.{NumberedMethod, ProgramView}
use Rattle.ti_lang.specs.Members.{only_if}
use Rattle.ti_lang.specs.Typing.Declared.{instance_method}
use Rattle.ti_lang.specs.Meaning.Processes.{Loop, While, Foreach, ContItem, Do, End, Before, Behind, Receive, CopyAll, TakeAll, Frame, all_before}

abbrev mutual
  pub size : NumberedStm → ℕ
  size (s.Block body) = sizes body + 2
  size (s.If at c x) = size x + 1
  size (s.IfElse at c x y) = size x + size y + 1
  size (s.While at c body) = size body + 3
  size (s.For at first c update body) = size_maybe first + size_maybe update + size body + 6
  size (s.Foreach at variable domain body) = size body + 3
  -- a copy may stand for it
  size (s.Call x) = 2
  size _ = 1

  pub size_maybe : MaybeNumbered → ℕ
  size_maybe NoStm = 0
  size_maybe (SomeStm x) = size x

  pub sizes : NumberedStms → ℕ
  sizes Nil = 0
  sizes (Cons x rest) = size x + sizes rest

abbrev pub loop_size : Loop → ℕ
loop_size (While at c update body) = size_maybe update + size body + 3
loop_size (Foreach at variable domain points body) = size body + 3

abbrev pub update_size : Loop → ℕ
update_size (While at c update body) = size_maybe update
update_size (Foreach at variable domain points body) = 0

-- what a piece of work weighs
abbrev pub weight_of : ContItem → ℕ
weight_of (Do x) = size x
weight_of (End x) = 1
weight_of (Before loop) = 1
weight_of (Behind loop) = update_size loop + 2
weight_of (Receive receiver held) = 1
weight_of (CopyAll at to from points) = 1
weight_of (TakeAll at grid procs) = 1

abbrev pub weigh : List ContItem → ℕ
weigh [] = 0
weigh (w ∷ ws) = weight_of w + weigh ws

abbrev pub weigh_all : List Frame → ℕ
weigh_all [] = 0
weigh_all (f ∷ fs) = weigh f.left + weigh_all fs + 2

-- how much the turns of its loops may bring back
abbrev pub need : ContItem → ℕ
need (Do x) = size x
need (Before loop) = loop_size loop
need (Behind loop) = loop_size loop
need _ = 0

abbrev pub needs : List ContItem → ℕ
needs [] = 0
needs (w ∷ ws) = need w + needs ws

abbrev pub needs_all : List Frame → ℕ
needs_all [] = 0
needs_all (f ∷ fs) = needs f.left + needs_all fs

-- no piece needs more than b
abbrev pub Fits : ℕ → List ContItem → Type 0
Fits b [] = Unit {0}
Fits b (w ∷ ws) = (need w ≤ b) × Fits b ws

abbrev pub FitsAll : ℕ → List Frame → Type 0
FitsAll b [] = Unit {0}
FitsAll b (f ∷ fs) = Fits b f.left × FitsAll b fs

abbrev pub method_size : NumberedMethod → ℕ
method_size m = sizes (numbered_stms m.body) + 3

-- no method is larger than b
abbrev pub AllFit : ℕ → List NumberedMethod → Type 0
AllFit b [] = Unit {0}
AllFit b (m ∷ ms) = (method_size m ≤ b) × AllFit b ms

abbrev pub MethodsFit : ℕ → ProgramView → Type 0
MethodsFit b program = AllFit b program.methods

-- nor is this one, if there is one
abbrev pub OneFits : ℕ → Option NumberedMethod → Type 0
OneFits b None = Unit {0}
OneFits b (Some m) = method_size m ≤ b

pub fits_needs : (b : ℕ) (ws : List ContItem) → needs ws ≤ b → Fits b ws
fits_needs b [] h = tt
fits_needs b (w ∷ ws) h = (omega arith, fits_needs b ws (omega arith))

pub fits_all_needs : (b : ℕ) (fs : List Frame) → needs_all fs ≤ b → FitsAll b fs
fits_all_needs b [] h = tt
fits_all_needs b (f ∷ fs) h = (fits_needs b f.left (omega arith), fits_all_needs b fs (omega arith))

-- the sizes of all methods
abbrev pub most : List NumberedMethod → ℕ
most [] = 0
most (m ∷ ms) = method_size m + most ms

pub fits_most : (b : ℕ) (ms : List NumberedMethod) → most ms ≤ b → AllFit b ms
fits_most b [] h = tt
fits_most b (m ∷ ms) h = (omega arith, fits_most b ms (omega arith))

pub at_fits : (b : ℕ) (ms : List NumberedMethod) (k : ℕ) → AllFit b ms → OneFits b (slice_get ms k)
at_fits b [] k f = tt
at_fits b (m ∷ ms) zero f = f.0
at_fits b (m ∷ ms) (suc k) f = at_fits b ms k f.1

pub found_fits : (b : ℕ) (test : NumberedMethod → Bool) (ms : List NumberedMethod) → AllFit b ms → OneFits b (find test ms)
found_fits b test [] f = tt
found_fits b test (m ∷ ms) f = by_test (test m) (found_fits b test ms f.1)
  where
    by_test : (yes : Bool) → OneFits b (find test ms) → OneFits b (cond yes (Some m) (find test ms))
    by_test true h = f.0
    by_test false h = h

only_fits : (b : ℕ) (test : NumberedMethod → Bool) (o : Option NumberedMethod) → OneFits b o → OneFits b (only_if test o)
only_fits b test None h = tt
only_fits b test (Some m) h = by_test (test m)
  where
    by_test : (yes : Bool) → OneFits b (if yes then Some m else None)
    by_test true = h
    by_test false = tt

pub instance_fits : (b : ℕ) (program : ProgramView) (class name : ℕ) → MethodsFit b program → OneFits b (instance_method program class name)
unfolding instance_method
instance_fits b program class name f = only_fits b _ (find (λ (m : NumberedMethod). (m.class == class) && (m.name == name)) program.methods) (found_fits b _ program.methods f)

-- ---- lists of work

pub weigh_append : (xs ys : List ContItem) → weigh (xs ++ ys) ≡ weigh xs + weigh ys
weigh_append [] ys = omega arith
weigh_append (x ∷ xs) ys = omega (arith, weigh_append xs ys)

pub fits_append : (b : ℕ) (xs ys : List ContItem) → Fits b xs → Fits b ys → Fits b (xs ++ ys)
fits_append b [] ys f g = g
fits_append b (x ∷ xs) ys f g = (f.0, fits_append b xs ys f.1 g)

pub weigh_before : (ss : NumberedStms) (ws : List ContItem) → weigh (all_before ss ws) ≡ sizes ss + weigh ws
weigh_before Nil ws = omega arith
weigh_before (Cons x ss) ws = omega (arith, weigh_before ss ws)

pub fits_before : (b : ℕ) (ss : NumberedStms) (ws : List ContItem) → sizes ss ≤ b → Fits b ws → Fits b (all_before ss ws)
fits_before b Nil ws h f = f
fits_before b (Cons x ss) ws h f = (omega arith, fits_before b ss ws (omega arith) f)
