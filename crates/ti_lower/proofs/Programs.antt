-- Proves that the code of a program whose methods meet the premises follows it.
use Rattle.std.proofs.Common.{◌≡◌, inl, ℕ, zero, suc, ◌+◌, ◌==◌, ◌≤◌, false, map, slice_get, List, [], ◌∷◌, Option, Some, None, refl, ap, sym, ◌∙◌, subst, arith}
use Rattle.std.specs.Option.{option_map_or}
use Rattle.ti_base.specs.declared.place.Place.{Place}
use Rattle.ti_base.specs.Rects.{points_of}
use Rattle.ti_lang.specs.Meaning.Collectives.{team}
use Rattle.ti_lang.specs.Meaning.Copies.{count_up, element_at}
use Rattle.ti_base.specs.declared.entry.Answer.{Answer}
use Rattle.ti_base.specs.declared.entry.Next.{Next}
use Rattle.ti_lang.specs.Program.Statements.{numbered_stms}
use Rattle.ti_lang.specs.Program.Classes.{NumberedMethod, ProgramView}
use Rattle.ti_lang.specs.Program.Scope.{this_of}
use Rattle.ti_lang.specs.Meaning.Processes.{RunConfig, Process, Nowhere, begin, frame_of, all_before}
use Rattle.ti_lang.specs.Meaning.Steps.{end_of}
use Rattle.ti_lang.specs.Meaning.NextStep.{After, IsNext}
use Rattle.ti_code.specs.Effects.{LocalState}
use Rattle.ti_code.specs.declared.code.MethodCode.{MethodCode}
use Rattle.ti_code.specs.Programs.{Code}
use Rattle.ti_code.specs.Machine.{Machine, receiver_depth, first}
use Rattle.ti_rules.specs.ProgramRefusals.{IsChecked}
use Rattle.ti_code.specs.Follows.{Runs, here, Fit, HasNext, Follows}
use Rattle.ti_lower_expr.specs.Slots.{SlotsHold, none}
use Rattle.ti_lower_expr.specs.Methods.{receiver_in, receivers_of, this_names, push_param_names, names_in_method}
use Rattle.ti_lower.specs.Programs.{method_code, end_in, methods_code, program_code}
use Rattle.ti_lower_expr.proofs.Lemmas.{same_number}
use Rattle.ti_lower.proofs.Bodies.{begins_at}
use Rattle.ti_lower.proofs.Premises.{MethodFine, MainFine}
use Rattle.ti_lower.proofs.PremisesChecked.{checked_fine}
use Rattle.ti_lower.proofs.Teams.{team_points}
use Rattle.ti_lower.proofs.Following.{Top, Below, bottom, Result, proc, machine, follows_from}

-- ---- the methods of the code

method_there : (program : ProgramView) (n k : ℕ) (ms : List NumberedMethod) (m : NumberedMethod) → slice_get ms k ≡ Some m
    → slice_get (methods_code program n ms) k ≡ Some (method_code program (end_in (n + k == program.main) m) m)
method_there program n k [] m e = absurd (never e)
  where
    never : ◌≡◌ {A = Option NumberedMethod} None (Some m) → ⊥
    never e = cc
method_there program n zero (x ∷ ms) m e =
    let same : x ≡ m = some_same e in
    let number : n ≡ n + 0 = omega arith in
    ap (λ y. Some (method_code program (end_in (n == program.main) y) y)) same ∙ ap (λ k. Some (method_code program (end_in (k == program.main) m) m)) number
  where
    some_same : Some x ≡ Some m → x ≡ m
    some_same e = cc
method_there program n (suc k) (x ∷ ms) m e =
    let number : (n + 1) + k ≡ n + suc k = omega arith in
    method_there program (n + 1) k ms m e ∙ ap (λ k. Some (method_code program (end_in (k == program.main) m) m)) number

receivers_there : (program : ProgramView) (n : ℕ) (ms : List NumberedMethod) → map receiver_depth (methods_code program n ms) ≡ map receiver_in ms
receivers_there program n [] = refl
receivers_there program n (m ∷ ms) = ap (λ l. receiver_in m ∷ l) (receivers_there program (n + 1) ms)

-- ---- programs

-- all methods are fine, and `main` among them
pub record IsProgramFine (program : ProgramView) : Type 0 where
  pub main_fine : MainFine program
  pub methods : (k : ℕ) (m : NumberedMethod) → slice_get program.methods k ≡ Some m → MethodFine program m

module _ (program : ProgramView) (z : IsProgramFine program) (procs fuel number : ℕ) (some : 1 ≤ procs) where
  abbrev s : RunConfig
  s = record { program = program; procs = procs; fuel = fuel }

  abbrev code : Code
  code = program_code program

  abbrev m0 : Machine
  m0 = first code procs fuel number

  abbrev end : Place
  end = z.main_fine.main.end

  team_is : points_of (team procs) ≡ map element_at (count_up 0 procs)
  team_is = team_points procs some

  receivers_same : map receiver_depth code.methods ≡ receivers_of program
  receivers_same = receivers_there program 0 program.methods

  bodies : (k : ℕ) (m : NumberedMethod) → slice_get program.methods k ≡ Some m → (k == program.main) ≡ false → slice_get code.methods k ≡ Some (method_code program None m)
  bodies k m e other =
      let number : 0 + k ≡ k = omega arith in
      method_there program 0 k program.methods m e ∙ ap (λ j. Some (method_code program (end_in (j == program.main) m) m)) number ∙ ap (λ b. Some (method_code program (end_in b m) m)) other

  main_code : slice_get code.methods program.main ≡ Some (method_code program (Some end) z.main_fine.main)
  main_code =
      let number : 0 + program.main ≡ program.main = omega arith in
      method_there program 0 program.main program.methods z.main_fine.main z.main_fine.is_there
      ∙ ap (λ j. Some (method_code program (end_in (j == program.main) z.main_fine.main) z.main_fine.main)) number
      ∙ ap (λ b. Some (method_code program (end_in b z.main_fine.main) z.main_fine.main)) (same_number program.main program.main refl)

  abbrev origin : LocalState
  origin = record { at = 0; slots = []; stack = [] }

  abbrev outermost : Top code s number end m0 receivers_same bodies z.methods team_is
  outermost = record { method = z.main_fine.main; this_id = None; receiver = Nowhere; below = []; under = [] }

  abbrev p0 : Process
  p0 = proc code s number end m0 receivers_same bodies z.methods team_is outermost 0 [] (all_before (numbered_stms z.main_fine.main.body) []) []

  begins : begin s number ≡ p0
  begins = ap (λ o. record {
    setting = s;
    number = number;
    spent = 0;
    frames = option_map_or (λ (main : NumberedMethod). frame_of main None [] Nowhere ∷ []) o [];
    wait = None;
    answers = [];
  })
      z.main_fine.is_there

  starts : m0 ≡ machine code s number end m0 receivers_same bodies z.methods team_is outermost 0 origin
  starts = ap (λ o. record { procs = procs; fuel = fuel; number = number; spent = 0; frames = option_map_or (λ (m : MethodCode). record { instrs = m.instrs; state = origin } ∷ []) o [] }) main_code

  no_names : SlotsHold None (names_in_method z.main_fine.main) [] [] []
  no_names = subst (λ ps. SlotsHold None (push_param_names ps (this_names (this_of z.main_fine.main))) [] [] []) (sym z.main_fine.is_bare)
      (subst (λ t. SlotsHold None (this_names t) [] [] []) (sym z.main_fine.is_static) (none refl))

  alike : Result code s number end m0 receivers_same bodies z.methods team_is [] p0
  alike = inl (
    outermost,
    0,
    [],
    all_before (numbered_stms z.main_fine.main.body) [],
    [],
    refl,
    record {
      before = 0;
      state = origin;
      at = begins_at program z.main_fine.main None number procs [] [] (z.methods program.main z.main_fine.main z.main_fine.is_there) no_names;
      paid = refl;
      fed = omega arith;
      runs = λ more. subst (λ m. Runs code m0 more m more) starts here;
      fresh = inl refl;
      waiting = subst (λ b. Below code s number end m0 receivers_same bodies z.methods team_is b Nowhere [] []) (sym z.main_fine.gives_nothing) bottom;
    },
  )

  ends : end_of program ≡ end
  ends = ap (λ o. option_map_or (λ (main : NumberedMethod). main.end) o (record { line = 0; col = 0 })) z.main_fine.is_there

  -- the code follows: after any answers it has next what the process has
  pub has_next : (rs : List Answer) (q : Process) (n : Next) → Fit (begin s number) rs → After (begin s number) rs q → IsNext q n → HasNext code m0 rs n
  has_next rs q n fit a is =
      follows_from code s number end m0 receivers_same bodies z.methods team_is ends p0 rs q n alike (subst (λ p. Fit p rs) begins fit) (subst (λ p. After p rs q) begins a) is

-- for each number of processes, all ticks, each process and all answers
pub program_follows : (program : ProgramView) → IsProgramFine program → Follows (program_code program) program
program_follows program z procs fuel number a b c d e rs q n fit after is = has_next program z procs fuel number a rs q n fit after is

-- the code of a program that breaks no rule follows it
pub checked_follows : (program : ProgramView) → IsChecked program → Follows (program_code program) program
checked_follows program c =
    let fine = checked_fine program c in
    program_follows program (record { main_fine = fine.1; methods = fine.0 })
