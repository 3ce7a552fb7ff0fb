-- A checked program breaks no rule of single values, and its results are single where they are marked so.
use Rattle.std.proofs.Common.{◌≡◌, ℕ, List, [], ◌∷◌, flat_map, refl}
use Rattle.std.proofs.Math.Bool.{Bool-set}
use Rattle.std.proofs.Math.Logic.{∥∥₁_elim}
use Rattle.ti_syntax.specs.Trees.Classes.{TextTree, ResultTree}
use Rattle.ti_lang.specs.Program.Classes.{NumberedResult, NumberedMethod, ProgramView}
use Rattle.ti_lang.specs.Program.Classes as c
use Rattle.ti_lang.specs.Members.{OwnMethod}
use Rattle.ti_lang.specs.Scopes.{Site}
use Rattle.ti_lang.specs.Numbering.{NumbersType, known, NumbersResult, void, typed, NumbersMethod, method, NumbersMethods, IsNumbered}
use Rattle.ti_lang.specs.Numbering as number
use Rattle.ti_rules.specs.SingleRules.{method_single_refusals}
use Rattle.ti_rules.specs.ProgramRefusals.{IsChecked}
use Rattle.ti_align.proofs.Alignment.Fine.{none_both}
use Rattle.ti_align.proofs.Alignment.Fitting.{Marked, FineMethods}

abbrev AllMarked : List NumberedMethod → Type 0
AllMarked [] = Unit {0}
AllMarked (m ∷ ms) = Marked m.result × AllMarked ms

marked_prop : (r : NumberedResult) → IsProp (Marked r)
marked_prop c.Void = hlevel
marked_prop (c.Typed t) = Bool-set _ _

all_prop : (ms : List NumberedMethod) → IsProp (AllMarked ms)
all_prop [] = hlevel
all_prop (m ∷ ms) = hlevel (marked_prop m.result, all_prop ms)

result_marked : (text : TextTree) (r : ResultTree) (q : NumberedResult) → NumbersResult text r q → Marked q
result_marked text r q void = tt
result_marked text r q (typed (known b)) = refl

method_marked : (site : Site) (own : OwnMethod) (m : NumberedMethod) → NumbersMethod site own m → Marked m.result
method_marked site own m (method {result = q} r ps b) = result_marked site.text own.method.result q r

methods_marked : (text : TextTree) (n before : ℕ) (owns : List OwnMethod) (ms : List NumberedMethod) → NumbersMethods text n before owns ms → AllMarked ms
methods_marked text n before owns ms number.none = tt
methods_marked text n before owns ms (number.more {own = own} {method = m} {rest = rest} {methods = others} e x xs) =
    (method_marked _ own m x, methods_marked text _ _ rest others xs)

all_fine : (p : ProgramView) (ms : List NumberedMethod) → flat_map (method_single_refusals p) ms ≡ [] → AllMarked ms → FineMethods p ms
all_fine p [] h k = tt
all_fine p (m ∷ ms) h k = let both = none_both (method_single_refusals p m) _ h in ((both.0, k.0), all_fine p ms both.1 k.1)

pub checked_fine : (p : ProgramView) → IsChecked p → FineMethods p p.methods
checked_fine p c =
    all_fine p p.methods c.unbroken.single (∥∥₁_elim c.numbered (all_prop p.methods) (λ n. methods_marked n.0 0 0 _ p.methods n.2.methods))
