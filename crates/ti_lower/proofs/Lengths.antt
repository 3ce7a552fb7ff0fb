-- Proves that the length of code doesn't depend on the targets of jumps.
use Rattle.std.proofs.Common.{◌≡◌, ℕ, ◌+◌, Bool, true, false, List, [], ◌∷◌, ◌++◌, length, Option, Some, None, refl, ap, sym, ◌∙◌}
use Rattle.ti_base.specs.declared.place.Place.{Place}
use Rattle.ti_lang.specs.Program.Types.{ValueType}
use Rattle.ti_lang.specs.Program.Classes.{ProgramView}
use Rattle.ti_lang.specs.Program.Expressions.{NumberedExp}
use Rattle.ti_lang.specs.Program.Statements.{NumberedStm, MaybeNumbered, NoStm, SomeStm, NumberedStms, Nil, Cons}
use Rattle.ti_lang.specs.Program.Statements as s
use Rattle.ti_code.specs.declared.instr.Instr.{Instr}
use Rattle.ti_code.specs.declared.instr.Instr.TheVariants as i
use Rattle.ti_code.specs.Leading.{pc_after}
use Rattle.ti_lower_expr.specs.Slots.{Name}
use Rattle.ti_lower_expr.specs.Coding.{code_of}
use Rattle.ti_lower_expr.proofs.Lemmas.{behind_both}
use Rattle.ti_lower.specs.StmtCode.{LoopTargets, unknown, pop_domain, names_after, break_code, continue_code, condition_code, loop_code, walk_code, stm_code, stms_code, maybe_code}

-- the innermost loop walks over a domain
abbrev pub walks_in : Option LoopTargets → Bool
walks_in None = false
walks_in (Some l) = l.walks

drop_length : (a b : Bool) (x y : Instr) (at : ℕ) → a ≡ b → pc_after at (pop_domain a ++ x ∷ []) ≡ pc_after at (pop_domain b ++ y ∷ [])
drop_length a b x y at e = length_of a x y at ∙ ap (λ c. pc_after at (pop_domain c ++ y ∷ [])) e
  where
    length_of : (a : Bool) (x y : Instr) (at : ℕ) → pc_after at (pop_domain a ++ x ∷ []) ≡ pc_after at (pop_domain a ++ y ∷ [])
    length_of true x y at = refl
    length_of false x y at = refl

break_length : (l m : Option LoopTargets) (names : List Name) (at : ℕ) → walks_in l ≡ walks_in m → pc_after at (break_code l names at) ≡ pc_after at (break_code m names at)
break_length None None names at e = refl
break_length None (Some m) names at e = drop_length false m.walks (i.Jump (at + 1 + 1)) (i.Jump m.exit) (at + 1) e
break_length (Some l) None names at e = drop_length l.walks false (i.Jump l.exit) (i.Jump (at + 1 + 1)) (at + 1) e
break_length (Some l) (Some m) names at e = drop_length l.walks m.walks (i.Jump l.exit) (i.Jump m.exit) (at + 1) e

continue_length : (l m : Option LoopTargets) (names : List Name) (at : ℕ) → pc_after at (continue_code l names at) ≡ pc_after at (continue_code m names at)
continue_length None None names at = refl
continue_length None (Some m) names at = refl
continue_length (Some l) None names at = refl
continue_length (Some l) (Some m) names at = refl

-- where a loop's next turn, its test and its end are
abbrev pub again_at : (Option LoopTargets → ℕ → List Instr) → Bool → ℕ → ℕ
again_at body walks at = pc_after (at + 1 + 1) (body (unknown walks) (at + 1 + 1))

abbrev pub test_at : (Option LoopTargets → ℕ → List Instr) → (ℕ → List Instr) → ℕ → ℕ
test_at body update at = pc_after (again_at body false at) (update (again_at body false at))

module _ (program : ProgramView) (this : Option ℕ) (result : ValueType) where
  abbrev pub exit_at : List Name → Option NumberedExp → (Option LoopTargets → ℕ → List Instr) → (ℕ → List Instr) → ℕ → ℕ
  exit_at names c body update at = pc_after (test_at body update at) (condition_code program this names c (test_at body update at)) + 1

  -- a body is as long wherever its jumps lead
  abbrev pub IsSteady : Bool → (Option LoopTargets → ℕ → List Instr) → Type 0
  IsSteady walks body = (l : LoopTargets) (at : ℕ) → l.walks ≡ walks → pc_after at (body (Some l) at) ≡ pc_after at (body (unknown walks) at)

  pub loop_length : (p : Place) (names : List Name) (c : Option NumberedExp) (body : Option LoopTargets → ℕ → List Instr) (update : ℕ → List Instr) (at : ℕ) → IsSteady false body
      → pc_after at (loop_code program this p names c body update at) ≡ exit_at names c body update at
  loop_length p names c body update at steady =
      let again = again_at body false at in
      let test = test_at body update at in
      let labels : LoopTargets = record { again = again; kept = length names; exit = exit_at names c body update at; left = length names; walks = false } in
      let changes = update again in
      let tests = condition_code program this names c test in
      behind_both (at + 1 + 1) (body (Some labels) (at + 1 + 1)) (changes ++ (tests ++ i.JumpIf (at + 1) ∷ []))
      ∙ (ap (λ n. pc_after n (changes ++ (tests ++ i.JumpIf (at + 1) ∷ []))) (steady labels (at + 1 + 1) refl)
      ∙ (behind_both again changes (tests ++ i.JumpIf (at + 1) ∷ []) ∙ behind_both test tests (i.JumpIf (at + 1) ∷ [])))

  pub walk_length : (p : Place) (names : List Name) (body : Option LoopTargets → ℕ → List Instr) (at : ℕ) → IsSteady true body
      → pc_after at (walk_code program this p names body at) ≡ again_at body true at + 1 + 1 + 1 + 1
  walk_length p names body at steady =
      let again = again_at body true at in
      let labels : LoopTargets = record { again = again; kept = length names + 1; exit = again + 1 + 1 + 1 + 1; left = length names; walks = true } in
      let tail = i.Trim (length names) ∷ i.Next (length names) (again + 1 + 1 + 1) ∷ i.Jump (at + 1) ∷ i.Pop ∷ [] in
      behind_both (at + 1 + 1) (body (Some labels) (at + 1 + 1)) tail ∙ ap (λ n. pc_after n tail) (steady labels (at + 1 + 1) refl)

  abbrev stm : NumberedStm → Option LoopTargets → List Name → ℕ → List Instr
  stm = stm_code program this result

  -- two loops whose updates are as long
  updates_length : (p : Place) (names : List Name) (c : Option NumberedExp) (body : Option LoopTargets → ℕ → List Instr) (x y : ℕ → List Instr) (at : ℕ) → IsSteady false body
      → ((n : ℕ) → pc_after n (x n) ≡ pc_after n (y n)) → pc_after at (loop_code program this p names c body x at) ≡ pc_after at (loop_code program this p names c body y at)
  updates_length p names c body x y at steady same =
      loop_length p names c body x at steady
      ∙ (ap (λ n. pc_after n (condition_code program this names c n) + 1) (same (again_at body false at)) ∙ sym (loop_length p names c body y at steady))

  mutual
    pub same_length : (x : NumberedStm) (l m : Option LoopTargets) (names : List Name) (at : ℕ) → walks_in l ≡ walks_in m → pc_after at (stm x l names at) ≡ pc_after at (stm x m names at)
    same_length (s.Block body) l m names at e =
        behind_both at (stms_code program this result body l names at) (i.Trim (length names) ∷ [])
        ∙ (ap (λ n. n + 1) (all_length body l m names at e) ∙ sym (behind_both at (stms_code program this result body m names at) (i.Trim (length names) ∷ [])))
    same_length (s.If p c x) l m names at e =
        let first = code_of program this names c at in
        let start = pc_after at first + 1 in
        behind_both at first (i.JumpIfNot (pc_after start (stm x l names start)) ∷ stm x l names start)
        ∙ (same_length x l m names start e ∙ sym (behind_both at first (i.JumpIfNot (pc_after start (stm x m names start)) ∷ stm x m names start)))
    same_length (s.IfElse p c x y) l m names at e =
        let first = code_of program this names c at in
        let start = pc_after at first + 1 in
        let inner = λ (k : Option LoopTargets). stm x k names start in
        let else_at = λ (k : Option LoopTargets). pc_after start (inner k) + 1 in
        let other = λ (k : Option LoopTargets). stm y k names (else_at k) in
        let whole : (k : Option LoopTargets) → pc_after at (stm (s.IfElse p c x y) k names at) ≡ pc_after (else_at k) (other k) =
        λ k. behind_both at first (i.JumpIfNot (else_at k) ∷ (inner k ++ i.Jump (pc_after (else_at k) (other k)) ∷ other k))
        ∙ behind_both start (inner k) (i.Jump (pc_after (else_at k) (other k)) ∷ other k) in
        whole l ∙ (same_length y l m names (else_at l) e ∙ (ap (λ n. pc_after (n + 1) (stm y m names (n + 1))) (same_length x l m names start e) ∙ sym (whole m)))
    same_length (s.For p NoStm c update body) l m names at e =
        let loop = λ (k : Option LoopTargets). loop_code program this p names c (λ q from. stm body q names from) (λ from. maybe_code program this result update k names from) at in
        behind_both at (loop l) (i.Trim (length names) ∷ [])
        ∙ (ap (λ n. n + 1) (updates_length p names c (λ q from. stm body q names from)
        (λ from. maybe_code program this result update l names from) (λ from. maybe_code program this result update m names from) at
        (λ k from z. same_length body (Some k) (unknown false) names from z) (λ n. maybe_length update l m names n e)) ∙ sym (behind_both at (loop m) (i.Trim (length names) ∷ [])))
    same_length (s.For p (SomeStm first) c update body) l m names at e =
        let inner = names_after first names in
        let before = λ (k : Option LoopTargets). stm first k names at in
        let loop = λ (k : Option LoopTargets) (from : ℕ). loop_code program this p inner c (λ q from. stm body q inner from) (λ from. maybe_code program this result update k inner from) from in
        let whole : (k : Option LoopTargets) → pc_after at (stm (s.For p (SomeStm first) c update body) k names at) ≡ pc_after (pc_after at (before k)) (loop k (pc_after at (before k))) + 1 =
        λ k. behind_both at (before k) (loop k (pc_after at (before k)) ++ i.Trim (length names) ∷ [])
        ∙ behind_both (pc_after at (before k)) (loop k (pc_after at (before k))) (i.Trim (length names) ∷ []) in
        whole l ∙ (ap (λ n. pc_after n (loop l n) + 1) (same_length first l m names at e)
        ∙ (ap (λ n. n + 1) (updates_length p inner c (λ q from. stm body q inner from)
        (λ from. maybe_code program this result update l inner from) (λ from. maybe_code program this result update m inner from)
        (pc_after at (before m))
        (λ k from z. same_length body (Some k) (unknown false) inner from z) (λ n. maybe_length update l m inner n e)) ∙ sym (whole m)))
    same_length (s.Break p) l m names at e = break_length l m names at e
    same_length (s.Continue p) l m names at e = continue_length l m names at
    same_length (s.Return p None) l m names at e = refl
    same_length (s.Return p (Some x)) l m names at e = refl
    same_length x l m names at e = refl

    pub maybe_length : (x : MaybeNumbered) (l m : Option LoopTargets) (names : List Name) (at : ℕ) → walks_in l ≡ walks_in m
        → pc_after at (maybe_code program this result x l names at) ≡ pc_after at (maybe_code program this result x m names at)
    maybe_length NoStm l m names at e = refl
    maybe_length (SomeStm x) l m names at e = same_length x l m names at e

    pub all_length : (xs : NumberedStms) (l m : Option LoopTargets) (names : List Name) (at : ℕ) → walks_in l ≡ walks_in m
        → pc_after at (stms_code program this result xs l names at) ≡ pc_after at (stms_code program this result xs m names at)
    all_length Nil l m names at e = refl
    all_length (Cons x rest) l m names at e =
        let first = λ (k : Option LoopTargets). stm x k names at in
        let more = λ (k : Option LoopTargets). stms_code program this result rest k (names_after x names) (pc_after at (first k)) in
        behind_both at (first l) (more l)
        ∙ (all_length rest l m (names_after x names) (pc_after at (first l)) e
        ∙ (ap (λ n. pc_after n (stms_code program this result rest m (names_after x names) n)) (same_length x l m names at e) ∙ sym (behind_both at (first m) (more m))))

  pub body_steady : (body : NumberedStm) (names : List Name) (walks : Bool) → IsSteady walks (λ q from. stm body q names from)
  body_steady body names walks l at e = same_length body (Some l) (unknown walks) names at e
