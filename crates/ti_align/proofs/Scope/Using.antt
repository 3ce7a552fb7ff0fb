-- Each variable that a process uses next is found in its innermost frame.
use Rattle.std.proofs.Common.{◌≡◌, Bool, true, ◌&&◌, Option, Some, None, List, [], ◌∷◌, ap, ap₂}
use Rattle.ti_lang.specs.Program.Types.{Declaration, Typed, Foreach, VariableUse}
use Rattle.ti_lang.specs.Program.Expressions.{NumberedExp, NumberedExps, NumberedRange, NumberedRanges, numbered_ranges}
use Rattle.ti_lang.specs.Program.Expressions as e
use Rattle.ti_lang.specs.Program.Statements.{NumberedDims, NumberedInit, NumberedPrint, NumberedStm}
use Rattle.ti_lang.specs.Program.Statements as s
use Rattle.ti_lang.specs.Program.Classes.{NumberedMethod, ProgramView}
use Rattle.ti_lang.specs.Meaning.Processes.{Variable, Receiver, Nowhere, Declared, Assigned, Updated, While, Foreach, ContItem, Do, Before, Receive, Frame}
use Rattle.ti_rules.specs.ProgramRefusals.{IsChecked}
use Rattle.ti_rules.specs.Mirrors.Literals.{LiteralsFit}
use Rattle.ti_align.specs.Mirrors.Fitting.{IsWritten, AreWritten, IsRangeWritten, AreRangesWritten}
use Rattle.ti_align.specs.Scoped.{Names, KnownAs, ExpScoped, ExpsScoped, RangeScoped, RangesScoped, OptionScoped, DimsScoped, InitScoped, PrintScoped, is_among, ReceiverScoped, StmUses, WorkUses, FirstUses, FramesUse}
use Rattle.ti_align.proofs.Scope.Scoped.{StmScoped}
use Rattle.ti_align.proofs.Scope.Found.{Holds, Among}
use Rattle.ti_align.proofs.Scope.Reaching.{WorkStands, WorksStand}
use Rattle.ti_align.proofs.Scope.Keeping.{ProgramStands, FramesStand}
use Rattle.ti_align.proofs.Scope.Suiting.{program_stands}
use Rattle.ti_align.proofs.TextTypes.Programs.{checked_fits}

-- ---- more names

module _ (names others : Names) (more : Among names others) where
  known_in : (v : VariableUse) (d : Declaration) → KnownAs names v d → KnownAs others v d
  known_in v (Typed is_single type) k = more v k
  known_in v Foreach k = tt

  mutual
    pub exp_in : (x : NumberedExp) → ExpScoped names x → ExpScoped others x
    exp_in (e.Variable at v) k = known_in v v.declared k
    exp_in (e.Call at method args) k = exps_in args k
    exp_in (e.OwnCall at method args) k = exps_in args k
    exp_in (e.Point at parts) k = exps_in parts k
    exp_in (e.Rect at ranges) k = ranges_in ranges k
    exp_in (e.Unary at op x) k = exp_in x k
    exp_in (e.Binary at op x y) k = (exp_in x k.0, exp_in y k.1)
    exp_in (e.Cast at to x) k = exp_in x k
    exp_in (e.Select at x name) k = exp_in x k
    exp_in (e.Member at x name args) k = (exp_in x k.0, exps_in args k.1)
    exp_in (e.Index at x parts) k = (exp_in x k.0, exps_in parts k.1)
    exp_in _ k = tt

    exps_in : (xs : NumberedExps) → ExpsScoped names xs → ExpsScoped others xs
    exps_in e.NoExp k = tt
    exps_in (e.MoreExp x rest) k = (exp_in x k.0, exps_in rest k.1)

    range_in : (r : NumberedRange) → RangeScoped names r → RangeScoped others r
    range_in (e.Plain low high) k = (exp_in low k.0, exp_in high k.1)
    range_in (e.Stepped low high step) k = (exp_in low k.0, exp_in high k.1, exp_in step k.2)

    ranges_in : (rs : NumberedRanges) → RangesScoped names rs → RangesScoped others rs
    ranges_in e.NoRange k = tt
    ranges_in (e.MoreRange r rest) k = (range_in r k.0, ranges_in rest k.1)

  option_in : (o : Option NumberedExp) → OptionScoped names o → OptionScoped others o
  option_in None k = tt
  option_in (Some x) k = exp_in x k

  dims_in : (d : NumberedDims) → DimsScoped names d → DimsScoped others d
  dims_in (s.Domain x) k = exp_in x k
  dims_in (s.Ranges ranges) k = ranges_in (numbered_ranges ranges) k

  init_in : (value : NumberedInit) → InitScoped names value → InitScoped others value
  init_in (s.Value x) k = exp_in x k
  init_in (s.NewRegion at) k = tt
  init_in (s.NewObject at region class) k = option_in region k
  init_in (s.NewGrid at region element dims_at dims) k = (option_in region k.0, dims_in dims k.1)
  init_in (s.Broadcast at x root) k = (exp_in x k.0, exp_in root k.1)

  print_in : (what : NumberedPrint) → PrintScoped names what → PrintScoped others what
  print_in s.Nothing k = tt
  print_in (s.Text literal) k = tt
  print_in (s.Expression x) k = exp_in x k
  print_in (s.TextAndExpression literal x) k = exp_in x k

  stm_in : (x : NumberedStm) → StmScoped names x → StmUses others x
  stm_in (s.Declare at type variable value) k = init_in value k
  stm_in (s.Assign at target value) k = (exp_in target k.0, init_in value k.1)
  stm_in (s.Update at op target x) k = (exp_in target k.0, exp_in x k.1)
  stm_in (s.Step at op target) k = exp_in target k
  stm_in (s.Call x) k = exp_in x k
  stm_in (s.Print at what) k = print_in what k
  stm_in (s.Return at value) k = option_in value k
  stm_in (s.If at c x) k = exp_in c k.0
  stm_in (s.IfElse at c x y) k = exp_in c k.0
  stm_in (s.Foreach at variable domain body) k = exp_in domain k.0
  stm_in _ k = tt

  receiver_in : (r : Receiver) → ReceiverScoped names r → ReceiverScoped others r
  receiver_in Nowhere k = tt
  receiver_in (Declared at v) k = tt
  receiver_in (Assigned at target) k = exp_in target k
  receiver_in (Updated at op target) k = exp_in target k

  work_in : (p : ProgramView) (m : NumberedMethod) (base : Names) (w : ContItem) → WorkStands p m names base w → WorkUses others w
  work_in p m base (Do x) k = stm_in x k.0
  work_in p m base (Before (While at c update body)) k = option_in c k.0
  work_in p m base (Receive receiver h) k = receiver_in receiver k
  work_in p m base _ k = tt

-- ---- processes

works_use : (p : ProgramView) (m : NumberedMethod) (names base : Names) (vs : List Variable) (ws : List ContItem) → Holds names vs → WorksStand p m names base ws → FirstUses vs ws
works_use p m names base vs [] h k = tt
works_use p m names base vs (w ∷ left) h k = work_in names (λ v. is_among v vs) h p m base w k.0

pub frames_use : (p : ProgramView) (fs : List Frame) → FramesStand p fs → FramesUse fs
frames_use p [] k = tt
frames_use p (f ∷ fs) k = works_use p f.method k.0.0 k.0.1 f.variables f.left k.0.2 k.0.4

-- the methods of a checked program stand in their scope
pub checked_stands : (p : ProgramView) → IsChecked p → LiteralsFit p → ProgramStands p
checked_stands p c l = program_stands p c (checked_fits p c l).methods

-- ---- expressions that are written so

-- a variable with a type is among the names
abbrev pub known_as : Names → VariableUse → Declaration → Bool
known_as names v (Typed is_single type) = names v
known_as names v Foreach = true

module _ (uses : VariableUse → Bool) (names : Names) where
  -- the variables that are used, and known
  abbrev pub both_known : VariableUse → Bool
  both_known v = uses v && known_as names v v.declared

  known_both : (v : VariableUse) (d : Declaration) → uses v ≡ true → KnownAs names v d → (uses v && known_as names v d) ≡ true
  known_both v (Typed is_single type) h k = ap₂ (λ a b. a && b) h k
  known_both v Foreach h k = ap (λ a. a && true) h

  mutual
    pub written_both : (x : NumberedExp) → IsWritten uses x → ExpScoped names x → IsWritten both_known x
    written_both (e.Variable at v) h k = known_both v v.declared h k
    written_both (e.Point at parts) h k = (h.0, all_both parts h.1 k)
    written_both (e.Rect at ranges) h k = (h.0, ranges_both ranges h.1 k)
    written_both (e.Unary at op x) h k = written_both x h k
    written_both (e.Binary at op x y) h k = (written_both x h.0 k.0, written_both y h.1 k.1)
    written_both (e.Cast at to x) h k = (h.0, written_both x h.1 k)
    written_both (e.Select at x name) h k = written_both x h k
    written_both (e.Member at x name args) h k = (written_both x h.0 k.0, all_both args h.1 k.1)
    written_both (e.Index at x parts) h k = (written_both x h.0 k.0, all_both parts h.1 k.1)
    written_both _ h k = h

    pub all_both : (xs : NumberedExps) → AreWritten uses xs → ExpsScoped names xs → AreWritten both_known xs
    all_both e.NoExp h k = tt
    all_both (e.MoreExp x rest) h k = (written_both x h.0 k.0, all_both rest h.1 k.1)

    range_both : (r : NumberedRange) → IsRangeWritten uses r → RangeScoped names r → IsRangeWritten both_known r
    range_both (e.Plain low high) h k = (written_both low h.0 k.0, written_both high h.1 k.1)
    range_both (e.Stepped low high step) h k = (written_both low h.0 k.0, written_both high h.1 k.1, written_both step h.2 k.2)

    ranges_both : (rs : NumberedRanges) → AreRangesWritten uses rs → RangesScoped names rs → AreRangesWritten both_known rs
    ranges_both e.NoRange h k = tt
    ranges_both (e.MoreRange r rest) h k = (range_both r h.0 k.0, ranges_both rest h.1 k.1)
