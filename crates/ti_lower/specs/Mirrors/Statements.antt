-- Code with that of statements appended. The target of a forward jump is known only after what it jumps over, so code is generated in two
-- passes: each pass notes the targets in order, and the second one knows those that the first one noted.
use Rattle.std.specs.Prelude.{ℕ, ◌+◌, ◌-◌, true, false, List, [], ◌∷◌, ◌++◌, length, drop, set, get_or, pos, Option, None, Some}
use Rattle.ti_base.specs.declared.place.Place.{Place}
use Rattle.ti_base.specs.declared.action.CollKind.TheVariants as coll
use Rattle.ti_base.specs.declared.value.Value.TheVariants as v
use Rattle.ti_lang.specs.Program.Types.{ValueType}
use Rattle.ti_lang.specs.Program.Expressions.{NumberedExp}
use Rattle.ti_lang.specs.Program.Expressions as e
use Rattle.ti_lang.specs.Program.Statements.{NumberedStm, MaybeNumbered, NoStm, SomeStm, NumberedStms, Nil, Cons}
use Rattle.ti_lang.specs.Program.Statements as s
use Rattle.ti_lang.specs.Program.Classes.{ProgramView}
use Rattle.ti_lang.specs.Meaning.Processes.{Declared, Assigned, Updated}
use Rattle.ti_lang.specs.Meaning.Statements.{declared_as, one_more}
use Rattle.ti_code.specs.declared.instr.Instr.{Instr}
use Rattle.ti_code.specs.declared.instr.Instr.TheVariants as i
use Rattle.ti_lower_expr.specs.Slots.{Name, Of, Point}
use Rattle.ti_lower.specs.StmtCode.{LoopTargets, break_code, continue_code}
use Rattle.ti_lower.specs.Mirrors.Positions.{Where}
use Rattle.ti_lower.specs.Mirrors.Values.{value_on, init_on, stands_on, print_on, returned_on}

-- The code of a method as far as it is generated: the names of the slots, the instructions, and the targets of the forward jumps.
pub record CodeBuilder : Type 0 where
  pub names : List Name
  pub code : List Instr
  pub targets : List ℕ

-- With this code instead.
abbrev pub with_code : CodeBuilder → List Instr → CodeBuilder
with_code w code = record w { code = code }

-- Reserves an entry for a jump's target, which is noted once it is reached.
abbrev pub with_label : CodeBuilder → CodeBuilder
with_label w = record w { targets = w.targets ++ 0 ∷ [] }

abbrev pub bind_label : ℕ → CodeBuilder → CodeBuilder
bind_label k w = record w { targets = set w.targets k (length w.code) }

-- Keeps the n oldest slots.
abbrev pub cut : ℕ → CodeBuilder → CodeBuilder
cut n w = record w { names = drop (length w.names - n) w.names }

-- Keeps the n oldest slots, and emits the instruction for it.
abbrev pub trim_slots : ℕ → CodeBuilder → CodeBuilder
trim_slots n w = with_code (cut n w) (w.code ++ i.Trim n ∷ [])

-- What is jumped over leaves n slots, and target k is reached.
abbrev pub close_branch : ℕ → ℕ → CodeBuilder → CodeBuilder
close_branch k n w = bind_label k (cut n w)

module _ (program : ProgramView) (this : Option ℕ) (result : ValueType) (known : List ℕ) where
  abbrev pub where_in : CodeBuilder → Where
  where_in w = record { program = program; this = this; names = w.names }

  -- Target k, if it is known.
  abbrev pub target_at : ℕ → ℕ
  target_at k = get_or known k 0

  abbrev pub condition_on : Option NumberedExp → CodeBuilder → List Instr
  condition_on None w = w.code ++ i.Const (v.Bool true) ∷ []
  condition_on (Some c) w = value_on (where_in w) c w.code

  -- The labels of a loop whose targets are numbered from k on.
  abbrev pub loop_labels : ℕ → ℕ → Option LoopTargets
  loop_labels k n = Some (record { again = target_at k; kept = n; exit = target_at (k + 2); left = n; walks = false })

  abbrev pub walk_labels : ℕ → ℕ → Option LoopTargets
  walk_labels k n = Some (record { again = target_at k; kept = n + 1; exit = target_at k + 4; left = n; walks = true })

  -- Before the first iteration of a loop.
  abbrev pub loop_begun : Place → CodeBuilder → CodeBuilder
  loop_begun p w =
      with_code (with_label (with_label (with_label w))) (w.code ++ i.Jump (target_at (length w.targets + 1)) ∷ i.Tick p ∷ [])

  abbrev pub walk_begun : Place → ℕ → CodeBuilder → CodeBuilder
  walk_begun p variable w = record {
    names = Point variable ∷ w.names;
    code = w.code ++ i.Jump (target_at (length w.targets) + 1) ∷ i.Tick p ∷ [];
    targets = w.targets ++ 0 ∷ [];
  }

  -- After the body and the update of a loop whose targets are numbered from k on and whose code begins at this position.
  abbrev pub loop_ended : ℕ → ℕ → Option NumberedExp → CodeBuilder → CodeBuilder
  loop_ended k at c w = bind_label (k + 2) (with_code w (condition_on c w ++ i.JumpIf (at + 1) ∷ []))

  abbrev pub walk_ended : ℕ → ℕ → CodeBuilder → CodeBuilder
  walk_ended n at w = with_code w (w.code ++ i.Trim n ∷ i.Next n (length w.code + 3) ∷ i.Jump (at + 1) ∷ i.Pop ∷ [])

  -- The code of an `if` before its branches, with a target reserved.
  abbrev pub branch_test : NumberedExp → CodeBuilder → CodeBuilder
  branch_test c w = with_code (with_label w) (value_on (where_in w) c w.code ++ i.JumpIfNot (target_at (length w.targets)) ∷ [])

  -- Between two branches.
  abbrev pub otherwise : ℕ → ℕ → CodeBuilder → CodeBuilder
  otherwise k n w = bind_label k (with_code (cut n w) (w.code ++ i.Jump (target_at (k + 1)) ∷ []))

  -- An `if` without `else`, and one with it, given how their branches extend the code.
  abbrev pub branch_on : NumberedExp → (CodeBuilder → CodeBuilder) → CodeBuilder → CodeBuilder
  branch_on c inner w = close_branch (length w.targets) (length w.names) (inner (branch_test c w))

  abbrev pub branches_on : NumberedExp → (CodeBuilder → CodeBuilder) → (CodeBuilder → CodeBuilder) → CodeBuilder → CodeBuilder
  branches_on c inner other w =
      close_branch (length w.targets + 1) (length w.names)
      (other (otherwise (length w.targets) (length w.names) (inner (with_label (branch_test c w)))))

  -- Loops, given how their bodies and updates extend the code.
  abbrev pub turn_on : Place → (Option LoopTargets → CodeBuilder → CodeBuilder) → CodeBuilder → CodeBuilder
  turn_on p body w = close_branch (length w.targets) (length w.names) (body (loop_labels (length w.targets) (length w.names)) (loop_begun p w))

  abbrev pub turns_on : Place → Option NumberedExp → (Option LoopTargets → CodeBuilder → CodeBuilder) → (CodeBuilder → CodeBuilder) → CodeBuilder → CodeBuilder
  turns_on p c body update w =
      loop_ended (length w.targets) (length w.code) c (close_branch (length w.targets + 1) (length w.names) (update (turn_on p body w)))

  abbrev pub walked_on : Place → ℕ → (Option LoopTargets → CodeBuilder → CodeBuilder) → CodeBuilder → CodeBuilder
  walked_on p x body w =
      walk_ended (length w.names) (length w.code)
      (close_branch (length w.targets) (length w.names) (body (walk_labels (length w.targets) (length w.names)) (walk_begun p x w)))

  abbrev mutual
    pub stm_on : NumberedStm → Option LoopTargets → CodeBuilder → CodeBuilder
    stm_on s.Empty l w = w
    stm_on (s.Declare p type variable value) l w = record {
      names = Of (declared_as type variable) ∷ w.names;
      code = init_on (where_in w) (Declared p (declared_as type variable)) value w.code;
      targets = w.targets;
    }
    stm_on (s.Assign p place value) l w = with_code w (init_on (where_in w) (Assigned p place) value w.code)
    stm_on (s.Update p op place x) l w = with_code w (init_on (where_in w) (Updated p op place) (s.Value x) w.code)
    stm_on (s.Step p op place) l w = with_code w (init_on (where_in w) (Updated p (one_more op) place) (s.Value (e.Int p (pos 1))) w.code)
    stm_on (s.Print p what) l w = with_code w (print_on (where_in w) p what w.code)
    stm_on (s.Barrier p) l w = with_code w (w.code ++ i.Arrive coll.Barrier p ∷ i.Depart p ∷ [])
    stm_on (s.Block body) l w = trim_slots (length w.names) (stms_on body l w)
    stm_on (s.If p c x) l w = branch_on c (stm_on x l) w
    stm_on (s.IfElse p c x y) l w = branches_on c (stm_on x l) (stm_on y l) w
    stm_on (s.While p c body) l w = turns_on p (Some c) (stm_on body) (λ v. v) w
    stm_on (s.For p first c update body) l w =
        trim_slots (length w.names) (turns_on p c (stm_on body) (maybe_on update l) (maybe_on first l w))
    stm_on (s.Foreach p x domain body) l w = walked_on p x (stm_on body) (with_code w (value_on (where_in w) domain w.code))
    stm_on (s.Break p) l w = with_code w (w.code ++ break_code l w.names (length w.code))
    stm_on (s.Continue p) l w = with_code w (w.code ++ continue_code l w.names (length w.code))
    stm_on (s.Return p value) l w = with_code w (returned_on (where_in w) p result value w.code)
    stm_on (s.Call x) l w = with_code w (stands_on (where_in w) x w.code)

    pub stms_on : NumberedStms → Option LoopTargets → CodeBuilder → CodeBuilder
    stms_on Nil l w = w
    stms_on (Cons x rest) l w = stms_on rest l (stm_on x l w)

    pub maybe_on : MaybeNumbered → Option LoopTargets → CodeBuilder → CodeBuilder
    maybe_on NoStm l = λ w. w
    maybe_on (SomeStm x) l = stm_on x l
