-- Proves that the second pass over a method, which knows the targets that the first one noted, emits its code.
use Rattle.std.proofs.Common.{◌≡◌, ◌∙◌, refl, sym, ap, subst, ℕ, ◌+◌, ◌-◌, Bool, true, false, List, [], ◌∷◌, ◌++◌, length, drop, set, get_or, append_assoc, arith, Option, Some, None, pos}
use Rattle.std.proofs.Math.Seq.{set-append_seam, get_or-append_seam}
use Rattle.std.proofs.lemmas.List.{length-append, append-nil, drop_at}
use Rattle.ti_base.specs.declared.place.Place.{Place}
use Rattle.ti_base.specs.declared.action.CollKind.TheVariants as coll
use Rattle.ti_lang.specs.Program.Types.{ValueType}
use Rattle.ti_lang.specs.Program.Classes.{ProgramView, NumberedMethod}
use Rattle.ti_lang.specs.Program.Scope.{this_of}
use Rattle.ti_lang.specs.Program.Expressions.{NumberedExp}
use Rattle.ti_lang.specs.Program.Expressions as exp
use Rattle.ti_lang.specs.Program.Statements.{NumberedStm, MaybeNumbered, NoStm, SomeStm, NumberedStms, Nil, Cons, numbered_stms}
use Rattle.ti_lang.specs.Program.Statements as s
use Rattle.ti_lang.specs.Typing.Declared.{result_type}
use Rattle.ti_lang.specs.Meaning.Processes.{Declared, Assigned, Updated}
use Rattle.ti_lang.specs.Meaning.Statements.{declared_as, one_more}
use Rattle.ti_code.specs.declared.instr.Instr.{Instr}
use Rattle.ti_code.specs.declared.instr.Instr.TheVariants as i
use Rattle.ti_code.specs.Leading.{pc_after}
use Rattle.ti_lower_expr.specs.Slots.{Name, Of, Point}
use Rattle.ti_lower_expr.specs.Methods.{names_in_method}
use Rattle.ti_lower_expr.specs.Coding.{code_of}
use Rattle.ti_lower_expr.proofs.Lemmas.{behind_both, length_behind}
use Rattle.ti_lower.specs.StmtCode.{LoopTargets, unknown, names_after, break_code, continue_code, condition_code, loop_code, walk_code, stm_code, stms_code, maybe_code}
use Rattle.ti_lower.specs.Programs.{body_code}
use Rattle.ti_lower.specs.Mirrors.Statements.{CodeBuilder, with_code, with_label, cut, trim_slots, close_branch, where_in, condition_on, loop_labels, walk_labels, loop_begun, walk_begun, branch_test, otherwise, branch_on, branches_on, turns_on, walked_on, stm_on, stms_on, maybe_on}
use Rattle.ti_lower.specs.Mirrors.Positions.{Where}
use Rattle.ti_lower.specs.Mirrors.Values.{value_on, init_on, stands_on, print_on, returned_on}
use Rattle.ti_lower.specs.Mirrors.Methods.{body_on}
use Rattle.ti_lower.proofs.Lengths.{walks_in, loop_length, walk_length, same_length, maybe_length, body_steady}
use Rattle.ti_lower.proofs.Laid.{init_is, stands_is, print_is, returned_is}

-- ---- names

-- more names of slots, on these
abbrev Longer : List Name → List Name → Type 0
Longer more names = (p : List Name) × (more ≡ p ++ names)

cut_longer : (more names : List Name) → Longer more names → drop (length more - length names) more ≡ names
cut_longer more names (p, is) =
    ap (λ z. drop (length z - length names) z) is
    ∙ drop_at p names (length (p ++ names) - length names) (let l = length-append p names in omega (arith, l))

longer_after : (x : NumberedStm) (names : List Name) → Longer (names_after x names) names
longer_after (s.Declare p type variable value) names = (Of (declared_as type variable) ∷ [], refl)
longer_after _ names = ([], refl)

longer_both : (a b c : List Name) → Longer a b → Longer b c → Longer a c
longer_both a b c (p, is) (q, it) = (p ++ q, is ∙ ap (λ z. p ++ z) it ∙ sym (append_assoc p q c))

-- the names behind statements, and behind one that may not be there
abbrev names_behind : NumberedStms → List Name → List Name
names_behind Nil names = names
names_behind (Cons x rest) names = names_behind rest (names_after x names)

longer_behind : (xs : NumberedStms) (names : List Name) → Longer (names_behind xs names) names
longer_behind Nil names = ([], refl)
longer_behind (Cons x rest) names = longer_both (names_behind rest (names_after x names)) (names_after x names) names (longer_behind rest (names_after x names)) (longer_after x names)

abbrev names_maybe : MaybeNumbered → List Name → List Name
names_maybe NoStm names = names
names_maybe (SomeStm x) names = names_after x names

longer_maybe : (x : MaybeNumbered) (names : List Name) → Longer (names_maybe x names) names
longer_maybe NoStm names = ([], refl)
longer_maybe (SomeStm x) names = longer_after x names

-- ---- targets

module _ (program : ProgramView) (this : Option ℕ) (result : ValueType) where
  abbrev S : NumberedStm → Bool → List Name → ℕ → List Instr
  S x b = stm_code program this result x (unknown b)

  abbrev mutual
    -- where the forward jumps of a statement lead, in the order in which they are noted, within a loop that walks over a domain or not
    targets_of : NumberedStm → Bool → List Name → ℕ → List ℕ
    targets_of (s.If p c x) b names at =
        let start = pc_after at (code_of program this names c at) + 1 in
        pc_after start (S x b names start) ∷ targets_of x b names start
    targets_of (s.IfElse p c x y) b names at =
        let start = pc_after at (code_of program this names c at) + 1 in
        let else_at = pc_after start (S x b names start) + 1 in
        else_at ∷ pc_after else_at (S y b names else_at) ∷ targets_of x b names start ++ targets_of y b names else_at
    targets_of (s.While p c body) b names at =
        let again = pc_after (at + 1 + 1) (S body false names (at + 1 + 1)) in
        again ∷ again ∷ (pc_after again (condition_code program this names (Some c) again) + 1) ∷ targets_of body false names (at + 1 + 1) ++ []
    targets_of (s.For p NoStm c update body) b names at =
        let again = pc_after (at + 1 + 1) (S body false names (at + 1 + 1)) in
        let test = pc_after again (maybe_code program this result update (unknown b) names again) in
        again ∷ test ∷ (pc_after test (condition_code program this names c test) + 1) ∷ targets_of body false names (at + 1 + 1) ++ targets_maybe update b names again
    targets_of (s.For p (SomeStm first) c update body) b names at =
        let from = pc_after at (S first b names at) in
        let inner = names_after first names in
        let again = pc_after (from + 1 + 1) (S body false inner (from + 1 + 1)) in
        let test = pc_after again (maybe_code program this result update (unknown b) inner again) in
        targets_of first b names at
        ++ (again ∷ test ∷ (pc_after test (condition_code program this inner c test) + 1) ∷ targets_of body false inner (from + 1 + 1) ++ targets_maybe update b inner again)
    targets_of (s.Foreach p x domain body) b names at =
        let from = pc_after at (code_of program this names domain at) in
        pc_after (from + 1 + 1) (S body true (Point x ∷ names) (from + 1 + 1)) ∷ targets_of body true (Point x ∷ names) (from + 1 + 1)
    targets_of (s.Block body) b names at = targets_all body b names at
    targets_of other b names at = []

    targets_all : NumberedStms → Bool → List Name → ℕ → List ℕ
    targets_all Nil b names at = []
    targets_all (Cons x rest) b names at = targets_of x b names at ++ targets_all rest b (names_after x names) (pc_after at (S x b names at))

    targets_maybe : MaybeNumbered → Bool → List Name → ℕ → List ℕ
    targets_maybe NoStm b names at = []
    targets_maybe (SomeStm x) b names at = targets_of x b names at

-- ---- what is known

module _ (program : ProgramView) (this : Option ℕ) (result : ValueType) (known : List ℕ) where
  -- these targets are known, from a number on
  abbrev Known : ℕ → List ℕ → Type 0
  Known n [] = Unit {0}
  Known n (t ∷ ts) = (get_or known n 0 ≡ t) × Known (n + 1) ts

  known_front : (n : ℕ) (ts us : List ℕ) → Known n (ts ++ us) → Known n ts
  known_front n [] us k = tt
  known_front n (t ∷ ts) us (is, k) = (is, known_front (n + 1) ts us k)

  known_rest : (n : ℕ) (ts us : List ℕ) → Known n (ts ++ us) → Known (n + length ts) us
  known_rest n [] us k = subst (λ m. Known m us) (omega arith) k
  known_rest n (t ∷ ts) us (is, k) = subst (λ m. Known m us) (omega arith) (known_rest (n + 1) ts us k)

  -- what is written makes of the first code the second one, with these slots, up to this instruction, with these targets more, and where they
  -- are known this code more
  record Drafts (w v : CodeBuilder) (names : List Name) (size : ℕ) (ts : List ℕ) (code : List Instr) : Type 0 where
    names_are : v.names ≡ names
    size_is : length v.code ≡ size
    targets_are : v.targets ≡ w.targets ++ ts
    code_is : Known (length w.targets) ts → v.code ≡ w.code ++ code

  sized : (w v : CodeBuilder) (names : List Name) (m n : ℕ) (ts : List ℕ) (code : List Instr) → m ≡ n → Drafts w v names m ts code → Drafts w v names n ts code
  sized w v names m n ts code e d = record { names_are = d.names_are; size_is = d.size_is ∙ e; targets_are = d.targets_are; code_is = d.code_is }

  leaf : (w : CodeBuilder) (names : List Name) (at : ℕ) (f : List Name → ℕ → List Instr) (c : List Instr) → w.names ≡ names → length w.code ≡ at
      → c ≡ w.code ++ f w.names (length w.code) → Drafts w (with_code w c) names (pc_after at (f names at)) [] (f names at)
  leaf w names at f c e h p =
      let is : c ≡ w.code ++ f names at = p ∙ ap (λ ns. w.code ++ f ns (length w.code)) e ∙ ap (λ k. w.code ++ f names k) h in
      record {
        names_are = e;
        size_is = ap length is ∙ length_behind w.code (f names at) ∙ ap (λ k. pc_after k (f names at)) h;
        targets_are = sym (append-nil w.targets);
        code_is = λ k. is;
      }

  -- one after the other
  both : (w v u : CodeBuilder) (names1 names2 : List Name) (size1 size2 : ℕ) (ts us : List ℕ) (a b : List Instr) → Drafts w v names1 size1 ts a → Drafts v u names2 size2 us b
      → Drafts w u names2 size2 (ts ++ us) (a ++ b)
  both w v u names1 names2 size1 size2 ts us a b d f = record {
    names_are = f.names_are;
    size_is = f.size_is;
    targets_are = f.targets_are ∙ ap (λ z. z ++ us) d.targets_are ∙ append_assoc w.targets ts us;
    code_is = λ k.
        let long : length w.targets + length ts ≡ length v.targets = sym (ap length d.targets_are ∙ length-append w.targets ts) in
        f.code_is (subst (λ n. Known n us) long (known_rest (length w.targets) ts us k)) ∙ ap (λ z. z ++ b) (d.code_is (known_front (length w.targets) ts us k)) ∙ append_assoc w.code a b;
  }

  -- slots that go again
  fewer : (w v : CodeBuilder) (more names : List Name) (n size : ℕ) (ts : List ℕ) (code : List Instr) → length names ≡ n → Longer more names → Drafts w v more size ts code
      → Drafts w (cut n v) names size ts code
  fewer w v more names n size ts code e l d = record {
    names_are = ap (λ z. drop (length z - n) z) d.names_are ∙ ap (λ k. drop (length more - k) more) (sym e) ∙ cut_longer more names l;
    size_is = d.size_is;
    targets_are = d.targets_are;
    code_is = d.code_is;
  }

  recoded : (w v : CodeBuilder) (names : List Name) (size : ℕ) (ts : List ℕ) (a b : List Instr) → a ≡ b → Drafts w v names size ts a → Drafts w v names size ts b
  recoded w v names size ts a b e d =
      record { names_are = d.names_are; size_is = d.size_is; targets_are = d.targets_are; code_is = λ k. d.code_is k ∙ ap (λ z. w.code ++ z) e }

  -- ---- lists

  four : {A : Type 0} (a b c d : List A) → ((a ++ b) ++ c) ++ d ≡ a ++ (b ++ (c ++ d))
  four a b c d = append_assoc (a ++ b) c d ∙ append_assoc a b (c ++ d)

  one_more_long : (xs : List ℕ) (n : ℕ) → length (xs ++ n ∷ []) ≡ length xs + 1
  one_more_long xs n = length-append xs (n ∷ [])

  longer_code : (xs : List Instr) (x : Instr) → length (xs ++ x ∷ []) ≡ length xs + 1
  longer_code xs x = length-append xs (x ∷ [])

  -- the target of a number is set, behind these
  set_first : (ts us : List ℕ) (n : ℕ) → set ((ts ++ 0 ∷ []) ++ us) (length ts) n ≡ ts ++ n ∷ us
  set_first ts us n = ap (λ z. set z (length ts) n) (append_assoc ts (0 ∷ []) us) ∙ set-append_seam ts 0 us n

  set_second : (ts us : List ℕ) (m n : ℕ) → set (ts ++ m ∷ 0 ∷ us) (length ts + 1) n ≡ ts ++ m ∷ n ∷ us
  set_second ts us m n =
      ap (λ z. set z (length ts + 1) n) (sym (append_assoc ts (m ∷ []) (0 ∷ us))) ∙ ap (λ k. set ((ts ++ m ∷ []) ++ 0 ∷ us) k n) (sym (one_more_long ts m))
      ∙ set-append_seam (ts ++ m ∷ []) 0 us n ∙ append_assoc ts (m ∷ []) (n ∷ us)

  set_third : (ts us : List ℕ) (l m n : ℕ) → set (ts ++ l ∷ m ∷ 0 ∷ us) (length ts + 2) n ≡ ts ++ l ∷ m ∷ n ∷ us
  set_third ts us l m n =
      let long : length ts + 2 ≡ length (ts ++ l ∷ m ∷ []) = sym (length-append ts (l ∷ m ∷ [])) in
      ap (λ z. set z (length ts + 2) n) (sym (append_assoc ts (l ∷ m ∷ []) (0 ∷ us))) ∙ ap (λ k. set ((ts ++ l ∷ m ∷ []) ++ 0 ∷ us) k n) long
      ∙ set-append_seam (ts ++ l ∷ m ∷ []) 0 us n ∙ append_assoc ts (l ∷ m ∷ []) (n ∷ us)

  -- ---- branches

  -- an expression behind what is written
  moved : (w : CodeBuilder) (names : List Name) (at : ℕ) (c : NumberedExp) → w.names ≡ names → length w.code ≡ at
      → w.code ++ code_of program this w.names c (length w.code) ≡ w.code ++ code_of program this names c at
  moved w names at c e h = ap (λ ns. w.code ++ code_of program this ns c (length w.code)) e ∙ ap (λ k. w.code ++ code_of program this names c k) h

  moved_long : (w : CodeBuilder) (names : List Name) (at : ℕ) (c : NumberedExp) → w.names ≡ names → length w.code ≡ at
      → length (w.code ++ code_of program this w.names c (length w.code)) ≡ pc_after at (code_of program this names c at)
  moved_long w names at c e h =
      ap length (moved w names at c e h) ∙ length_behind w.code (code_of program this names c at) ∙ ap (λ k. pc_after k (code_of program this names c at)) h

  abbrev test_on : NumberedExp → CodeBuilder → CodeBuilder
  test_on = branch_test program this result known

  tested_long : (w : CodeBuilder) (names : List Name) (at : ℕ) (c : NumberedExp) → w.names ≡ names → length w.code ≡ at
      → length (test_on c w).code ≡ pc_after at (code_of program this names c at) + 1
  tested_long w names at c e h =
      longer_code (w.code ++ code_of program this w.names c (length w.code)) (i.JumpIfNot (get_or known (length w.targets) 0)) ∙ ap (λ k. k + 1) (moved_long w names at c e h)

  branch_drafts : (c : NumberedExp) (f : CodeBuilder → CodeBuilder) (w : CodeBuilder) (names more : List Name) (at size : ℕ) (ts : List ℕ) (inner : List Instr)
      → w.names ≡ names → length w.code ≡ at → Longer more names → Drafts (test_on c w) (f (test_on c w)) more size ts inner
      → Drafts w (branch_on program this result known c f w) names size (size ∷ ts) (code_of program this names c at ++ i.JumpIfNot size ∷ inner)
  branch_drafts c f w names more at size ts inner e h l d =
      let k = length w.targets in
      let g = get_or known k 0 in
      let first = code_of program this names c at in
      record {
        names_are = (fewer (test_on c w) (f (test_on c w)) more names (length w.names) size ts inner (sym (ap length e)) l d).names_are;
        size_is = d.size_is;
        targets_are = ap (λ z. set z k (length (f (test_on c w)).code)) d.targets_are ∙ set_first w.targets ts (length (f (test_on c w)).code) ∙ ap (λ n. w.targets ++ n ∷ ts) d.size_is;
        code_is = λ (is, rest).
            d.code_is (subst (λ n. Known n ts) (sym (one_more_long w.targets 0)) rest)
            ∙ ap (λ z. (z ++ i.JumpIfNot g ∷ []) ++ inner) (moved w names at c e h) ∙ four w.code first (i.JumpIfNot g ∷ []) inner
            ∙ ap (λ t. w.code ++ (first ++ i.JumpIfNot t ∷ inner)) is;
      }

  abbrev both_tested : NumberedExp → CodeBuilder → CodeBuilder
  both_tested c w = with_label (test_on c w)

  abbrev between : CodeBuilder → CodeBuilder → CodeBuilder
  between w v = otherwise program this result known (length w.targets) (length w.names) v

  branches_drafts : (c : NumberedExp) (f g : CodeBuilder → CodeBuilder) (w : CodeBuilder) (names more others : List Name) (at size end : ℕ) (ts us : List ℕ) (inner other : List Instr)
      → w.names ≡ names → length w.code ≡ at → Longer more names → Longer others names → Drafts (both_tested c w) (f (both_tested c w)) more size ts inner
      → Drafts (between w (f (both_tested c w))) (g (between w (f (both_tested c w)))) others end us other
      → Drafts w (branches_on program this result known c f g w) names end ((size + 1) ∷ end ∷ ts ++ us)
      (code_of program this names c at ++ i.JumpIfNot (size + 1) ∷ (inner ++ i.Jump end ∷ other))
  branches_drafts c f g w names more others at size end ts us inner other e h l m d b =
      let k = length w.targets in
      let a = both_tested c w in
      let v = f a in
      let o = between w v in
      let u = g o in
      let first = code_of program this names c at in
      let jump = i.Jump (get_or known (k + 1) 0) in
      let else_at : length (v.code ++ jump ∷ []) ≡ size + 1 = longer_code v.code jump ∙ ap (λ n. n + 1) d.size_is in
      let noted : v.targets ≡ (w.targets ++ 0 ∷ []) ++ 0 ∷ ts = d.targets_are ∙ append_assoc (w.targets ++ 0 ∷ []) (0 ∷ []) ts in
      let told : o.targets ≡ w.targets ++ (size + 1) ∷ 0 ∷ ts =
      ap (λ z. set z k (length (v.code ++ jump ∷ []))) noted ∙ set_first w.targets (0 ∷ ts) (length (v.code ++ jump ∷ [])) ∙ ap (λ n. w.targets ++ n ∷ 0 ∷ ts) else_at in
      let all : u.targets ≡ w.targets ++ (size + 1) ∷ 0 ∷ (ts ++ us) = b.targets_are ∙ ap (λ z. z ++ us) told ∙ append_assoc w.targets ((size + 1) ∷ 0 ∷ ts) us in
      let begun : k + 1 + 1 ≡ length a.targets = sym (one_more_long (w.targets ++ 0 ∷ []) 0 ∙ ap (λ n. n + 1) (one_more_long w.targets 0)) in
      let half : k + 1 + 1 + length ts ≡ length o.targets =
      let t = ap length told ∙ length-append w.targets ((size + 1) ∷ 0 ∷ ts) in omega (arith, t) in
      record {
        names_are = (fewer o u others names (length w.names) end us other (sym (ap length e)) m b).names_are;
        size_is = b.size_is;
        targets_are = ap (λ z. set z (k + 1) (length u.code)) all ∙ set_second w.targets (ts ++ us) (size + 1) (length u.code) ∙ ap (λ n. w.targets ++ (size + 1) ∷ n ∷ (ts ++ us)) b.size_is;
        code_is = λ (is, (it, rest)).
            b.code_is (subst (λ n. Known n us) half (known_rest (k + 1 + 1) ts us rest))
            ∙ ap (λ z. (z ++ jump ∷ []) ++ other) (d.code_is (subst (λ n. Known n ts) begun (known_front (k + 1 + 1) ts us rest)))
            ∙ ap (λ z. ((((z ++ i.JumpIfNot (get_or known k 0) ∷ []) ++ inner) ++ jump ∷ []) ++ other)) (moved w names at c e h)
            ∙ four ((w.code ++ first) ++ i.JumpIfNot (get_or known k 0) ∷ []) inner (jump ∷ []) other
            ∙ four w.code first (i.JumpIfNot (get_or known k 0) ∷ []) (inner ++ jump ∷ other)
            ∙ ap (λ t. w.code ++ (first ++ i.JumpIfNot t ∷ (inner ++ jump ∷ other))) is
            ∙ ap (λ t. w.code ++ (first ++ i.JumpIfNot (size + 1) ∷ (inner ++ i.Jump t ∷ other))) it;
      }

  -- ---- loops

  condition_is : (c : Option NumberedExp) (w : CodeBuilder) (names : List Name) (at : ℕ) → w.names ≡ names → length w.code ≡ at
      → condition_on program this result known c w ≡ w.code ++ condition_code program this names c at
  condition_is None w names at e h = refl
  condition_is (Some c) w names at e h = moved w names at c e h

  abbrev loop_label : (again kept exit : ℕ) → Option LoopTargets
  loop_label again kept exit = Some (record { again = again; kept = kept; exit = exit; left = kept; walks = false })

  abbrev walk_label : (again kept exit left : ℕ) → Option LoopTargets
  walk_label again kept exit left = Some (record { again = again; kept = kept; exit = exit; left = left; walks = true })

  abbrev begun : Place → CodeBuilder → CodeBuilder
  begun = loop_begun program this result known

  abbrev guessed : CodeBuilder → Option LoopTargets
  guessed w = loop_labels program this result known (length w.targets) (length w.names)

  abbrev turned : Place → (Option LoopTargets → CodeBuilder → CodeBuilder) → CodeBuilder → CodeBuilder
  turned p B w = close_branch (length w.targets) (length w.names) (B (guessed w) (begun p w))

  turns_drafts : (p : Place) (c : Option NumberedExp) (B : Option LoopTargets → CodeBuilder → CodeBuilder) (U : CodeBuilder → CodeBuilder) (w : CodeBuilder) (names more others : List Name)
      (at again test : ℕ) (tb tu : List ℕ) (body : Option LoopTargets → List Instr) (update : List Instr)
      → w.names ≡ names → length w.code ≡ at → Longer more names → Longer others names
      → Drafts (begun p w) (B (guessed w) (begun p w)) more again tb (body (guessed w))
      → ((v : CodeBuilder) → v.names ≡ names → length v.code ≡ again → Drafts v (U v) others test tu update)
      → Drafts w (turns_on program this result known p c B U w) names (pc_after test (condition_code program this names c test) + 1)
      (again ∷ test ∷ (pc_after test (condition_code program this names c test) + 1) ∷ tb ++ tu)
      (i.Jump test ∷ i.Tick p ∷ body (loop_label again (length names) (pc_after test (condition_code program this names c test) + 1))
      ++ (update ++ (condition_code program this names c test ++ i.JumpIf (at + 1) ∷ [])))
  turns_drafts p c B U w names more others at again test tb tu body update e h l m d du =
      let k = length w.targets in
      let n = length w.names in
      let a = begun p w in
      let v = B (guessed w) a in
      let v1 = close_branch k n v in
      let dv = fewer a v more names n again tb (body (guessed w)) (sym (ap length e)) l d in
      let b = du v1 dv.names_are dv.size_is in
      let u = U v1 in
      let u1 = close_branch (k + 1) n u in
      let bu = fewer v1 u others names n test tu update (sym (ap length e)) m b in
      let cond = condition_code program this names c test in
      let exit = pc_after test cond + 1 in
      let last = condition_on program this result known c u1 ++ i.JumpIf (length w.code + 1) ∷ [] in
      let jt = i.Jump (get_or known (k + 1) 0) ∷ i.Tick p ∷ [] in
      let long : length last ≡ exit =
      longer_code (condition_on program this result known c u1) (i.JumpIf (length w.code + 1))
      ∙ ap (λ j. j + 1) (ap length (condition_is c u1 names test bu.names_are bu.size_is) ∙ length_behind u1.code cond ∙ ap (λ j. pc_after j cond) bu.size_is) in
      let told : v.targets ≡ (w.targets ++ 0 ∷ []) ++ 0 ∷ 0 ∷ tb = d.targets_are ∙ four (w.targets ++ 0 ∷ []) (0 ∷ []) (0 ∷ []) tb in
      let first : v1.targets ≡ w.targets ++ again ∷ 0 ∷ 0 ∷ tb =
      ap (λ z. set z k (length v.code)) told ∙ set_first w.targets (0 ∷ 0 ∷ tb) (length v.code) ∙ ap (λ j. w.targets ++ j ∷ 0 ∷ 0 ∷ tb) d.size_is in
      let all : u.targets ≡ w.targets ++ again ∷ 0 ∷ 0 ∷ (tb ++ tu) = b.targets_are ∙ ap (λ z. z ++ tu) first ∙ append_assoc w.targets (again ∷ 0 ∷ 0 ∷ tb) tu in
      let second : u1.targets ≡ w.targets ++ again ∷ test ∷ 0 ∷ (tb ++ tu) =
      ap (λ z. set z (k + 1) (length u.code)) all ∙ set_second w.targets (0 ∷ (tb ++ tu)) again (length u.code) ∙ ap (λ j. w.targets ++ again ∷ j ∷ 0 ∷ (tb ++ tu)) b.size_is in
      let begins : k + 1 + 1 + 1 ≡ length a.targets =
      sym (one_more_long ((w.targets ++ 0 ∷ []) ++ 0 ∷ []) 0 ∙ ap (λ j. j + 1) (one_more_long (w.targets ++ 0 ∷ []) 0 ∙ ap (λ j. j + 1) (one_more_long w.targets 0))) in
      let half : k + 1 + 1 + 1 + length tb ≡ length v1.targets =
      let t = ap length first ∙ length-append w.targets (again ∷ 0 ∷ 0 ∷ tb) in omega (arith, t) in
      let third : k + 2 ≡ k + 1 + 1 = omega arith in
      record {
        names_are = bu.names_are;
        size_is = long;
        targets_are = ap (λ z. set z (k + 2) (length last)) second ∙ set_third w.targets (tb ++ tu) again test (length last) ∙ ap (λ j. w.targets ++ again ∷ test ∷ j ∷ (tb ++ tu)) long;
        code_is = λ (is, (it, (ix, rest))).
            let real = loop_label again (length names) exit in
            let labels : guessed w ≡ real =
            ap (λ j. loop_label j n (get_or known (k + 2) 0)) is ∙ ap (λ j. loop_label again j (get_or known (k + 2) 0)) (ap length e)
            ∙ ap (λ j. loop_label again (length names) j) (ap (λ j. get_or known j 0) third ∙ ix) in
            let ends = i.JumpIf (length w.code + 1) ∷ [] in
            ap (λ z. z ++ ends) (condition_is c u1 names test bu.names_are bu.size_is)
            ∙ ap (λ z. (z ++ cond) ++ ends) (b.code_is (subst (λ j. Known j tu) half (known_rest (k + 1 + 1 + 1) tb tu rest)))
            ∙ ap (λ z. ((z ++ update) ++ cond) ++ ends) (d.code_is (subst (λ j. Known j tb) begins (known_front (k + 1 + 1 + 1) tb tu rest)))
            ∙ append_assoc (((w.code ++ jt) ++ body (guessed w)) ++ update) cond ends
            ∙ four (w.code ++ jt) (body (guessed w)) update (cond ++ ends)
            ∙ append_assoc w.code jt (body (guessed w) ++ (update ++ (cond ++ ends)))
            ∙ ap (λ j. w.code ++ (i.Jump j ∷ i.Tick p ∷ body (guessed w) ++ (update ++ (cond ++ ends)))) it
            ∙ ap (λ ls. w.code ++ (i.Jump test ∷ i.Tick p ∷ body ls ++ (update ++ (cond ++ ends)))) labels
            ∙ ap (λ j. w.code ++ (i.Jump test ∷ i.Tick p ∷ body real ++ (update ++ (cond ++ i.JumpIf (j + 1) ∷ [])))) h;
      }

  abbrev walk_guessed : CodeBuilder → Option LoopTargets
  walk_guessed w = walk_labels program this result known (length w.targets) (length w.names)

  abbrev walk_start : Place → ℕ → CodeBuilder → CodeBuilder
  walk_start = walk_begun program this result known

  walk_drafts : (p : Place) (x : ℕ) (B : Option LoopTargets → CodeBuilder → CodeBuilder) (w : CodeBuilder) (names more : List Name) (at again : ℕ) (tb : List ℕ) (body : Option LoopTargets → List Instr)
      → w.names ≡ names → length w.code ≡ at → Longer more names
      → Drafts (walk_start p x w) (B (walk_guessed w) (walk_start p x w)) more again tb (body (walk_guessed w))
      → Drafts w (walked_on program this result known p x B w) names (again + 1 + 1 + 1 + 1) (again ∷ tb)
      (i.Jump (again + 1) ∷ i.Tick p ∷ body (walk_label again (length names + 1) (again + 1 + 1 + 1 + 1) (length names))
      ++ i.Trim (length names) ∷ i.Next (length names) (again + 1 + 1 + 1) ∷ i.Jump (at + 1) ∷ i.Pop ∷ [])
  walk_drafts p x B w names more at again tb body e h l d =
      let k = length w.targets in
      let n = length w.names in
      let a = walk_start p x w in
      let v = B (walk_guessed w) a in
      let v1 = close_branch k n v in
      let dv = fewer a v more names n again tb (body (walk_guessed w)) (sym (ap length e)) l d in
      let jt = i.Jump (get_or known k 0 + 1) ∷ i.Tick p ∷ [] in
      let tail = λ (m t s : ℕ). i.Trim m ∷ i.Next m t ∷ i.Jump (s + 1) ∷ i.Pop ∷ [] in
      let three : length v.code + 3 ≡ again + 1 + 1 + 1 = let t = d.size_is in omega (arith, t) in
      let four_more : get_or known k 0 + 4 ≡ get_or known k 0 + 1 + 1 + 1 + 1 = omega arith in
      record {
        names_are = dv.names_are;
        size_is =
            length-append v.code (tail n (length v.code + 3) (length w.code)) ∙ ap (λ j. j + 4) d.size_is ∙ (let t : again + 4 ≡ again + 1 + 1 + 1 + 1 = omega arith in t);
        targets_are = ap (λ z. set z k (length v.code)) d.targets_are ∙ set_first w.targets tb (length v.code) ∙ ap (λ j. w.targets ++ j ∷ tb) d.size_is;
        code_is = λ (is, rest).
            let real = walk_label again (length names + 1) (again + 1 + 1 + 1 + 1) (length names) in
            let labels : walk_guessed w ≡ real =
            ap (λ j. walk_label (get_or known k 0) (n + 1) j n) four_more ∙ ap (λ j. walk_label j (n + 1) (j + 1 + 1 + 1 + 1) n) is
            ∙ ap (λ j. walk_label again (j + 1) (again + 1 + 1 + 1 + 1) j) (ap length e) in
            ap (λ z. z ++ tail n (length v.code + 3) (length w.code)) (d.code_is (subst (λ j. Known j tb) (sym (one_more_long w.targets 0)) rest))
            ∙ append_assoc (w.code ++ jt) (body (walk_guessed w)) (tail n (length v.code + 3) (length w.code))
            ∙ append_assoc w.code jt (body (walk_guessed w) ++ tail n (length v.code + 3) (length w.code))
            ∙ ap (λ j. w.code ++ (i.Jump (j + 1) ∷ i.Tick p ∷ body (walk_guessed w) ++ tail n (length v.code + 3) (length w.code))) is
            ∙ ap (λ ls. w.code ++ (i.Jump (again + 1) ∷ i.Tick p ∷ body ls ++ tail n (length v.code + 3) (length w.code))) labels
            ∙ ap (λ m. w.code ++ (i.Jump (again + 1) ∷ i.Tick p ∷ body real ++ tail m (length v.code + 3) (length w.code))) (ap length e)
            ∙ ap (λ t. w.code ++ (i.Jump (again + 1) ∷ i.Tick p ∷ body real ++ tail (length names) t (length w.code))) three
            ∙ ap (λ s. w.code ++ (i.Jump (again + 1) ∷ i.Tick p ∷ body real ++ tail (length names) (again + 1 + 1 + 1) s)) h;
      }

  -- the end of a scope
  trim_drafts : (w v : CodeBuilder) (names more : List Name) (size : ℕ) (ts : List ℕ) (code : List Instr) → w.names ≡ names → Longer more names → Drafts w v more size ts code
      → Drafts w (trim_slots (length w.names) v) names (size + 1) ts (code ++ i.Trim (length names) ∷ [])
  trim_drafts w v names more size ts code e l d = record {
    names_are = (fewer w v more names (length w.names) size ts code (sym (ap length e)) l d).names_are;
    size_is = longer_code v.code (i.Trim (length w.names)) ∙ ap (λ j. j + 1) d.size_is;
    targets_are = d.targets_are;
    code_is = λ k.
        ap (λ z. z ++ i.Trim (length w.names) ∷ []) (d.code_is k) ∙ append_assoc w.code code (i.Trim (length w.names) ∷ [])
        ∙ ap (λ n. w.code ++ (code ++ i.Trim n ∷ [])) (ap length e);
  }

  -- ---- statements

  abbrev on : NumberedStm → Option LoopTargets → CodeBuilder → CodeBuilder
  on = stm_on program this result known

  abbrev of : NumberedStm → Option LoopTargets → List Name → ℕ → List Instr
  of = stm_code program this result

  abbrev W : CodeBuilder → Where
  W = where_in program this result known

  abbrev plain : NumberedStm → Bool → List Name → ℕ → List Instr
  plain = S program this result

  abbrev T : NumberedStm → Bool → List Name → ℕ → List ℕ
  T = targets_of program this result

  abbrev all_of : NumberedStms → Option LoopTargets → List Name → ℕ → List Instr
  all_of = stms_code program this result

  abbrev maybe_of : MaybeNumbered → Option LoopTargets → List Name → ℕ → List Instr
  maybe_of = maybe_code program this result

  same_size : (x : NumberedStm) (l : Option LoopTargets) (b : Bool) (names : List Name) (at : ℕ) → walks_in l ≡ b → pc_after at (of x l names at) ≡ pc_after at (plain x b names at)
  same_size x l b names at e = same_length program this result x l (unknown b) names at e

  leafwise : (x : NumberedStm) (l : Option LoopTargets) (b : Bool) (w : CodeBuilder) (names : List Name) (at : ℕ) (c : List Instr) → walks_in l ≡ b → w.names ≡ names → length w.code ≡ at
      → c ≡ w.code ++ of x l w.names (length w.code) → Drafts w (with_code w c) names (pc_after at (plain x b names at)) [] (of x l names at)
  leafwise x l b w names at c eb e h p =
      sized w (with_code w c) names (pc_after at (of x l names at)) (pc_after at (plain x b names at)) [] (of x l names at) (same_size x l b names at eb)
      (leaf w names at (λ ns from. of x l ns from) c e h p)

  still : (w : CodeBuilder) (names : List Name) (at : ℕ) → w.names ≡ names → length w.code ≡ at → Drafts w w names at [] []
  still w names at e h = record { names_are = e; size_is = h; targets_are = sym (append-nil w.targets); code_is = λ k. sym (append-nil w.code) }

  two_long : (xs : List Instr) (a b : Instr) (at : ℕ) → length xs ≡ at → length (xs ++ a ∷ b ∷ []) ≡ at + 1 + 1
  two_long xs a b at h = let t = length-append xs (a ∷ b ∷ []) in omega (arith, t, h)

  abbrev loop_of : Place → List Name → Option NumberedExp → NumberedStm → MaybeNumbered → Option LoopTargets → ℕ → List Instr
  loop_of p names c body update l at = loop_code program this p names c (λ m from. of body m names from) (λ from. maybe_of update l names from) at

  -- the targets of a loop
  abbrev loop_targets : List Name → Option NumberedExp → NumberedStm → MaybeNumbered → Bool → ℕ → List ℕ
  loop_targets names c body update b at =
      let again = pc_after (at + 1 + 1) (plain body false names (at + 1 + 1)) in
      let test = pc_after again (maybe_of update (unknown b) names again) in
      again ∷ test ∷ (pc_after test (condition_code program this names c test) + 1) ∷ T body false names (at + 1 + 1) ++ targets_maybe program this result update b names again

  -- a loop with its update
  for_drafts : (p : Place) (c : Option NumberedExp) (update : MaybeNumbered) (body : NumberedStm) (l : Option LoopTargets) (b : Bool) (w : CodeBuilder) (names : List Name) (at : ℕ)
      → walks_in l ≡ b → w.names ≡ names → length w.code ≡ at
      → Drafts (begun p w) (on body (guessed w) (begun p w)) (names_after body names) (pc_after (at + 1 + 1) (plain body false names (at + 1 + 1))) (T body false names (at + 1 + 1))
      (of body (guessed w) names (at + 1 + 1))
      → ((v : CodeBuilder) (from : ℕ) → v.names ≡ names → length v.code ≡ from
      → Drafts v (maybe_on program this result known update l v) (names_maybe update names) (pc_after from (maybe_of update (unknown b) names from))
      (targets_maybe program this result update b names from) (maybe_of update l names from))
      → Drafts w (turns_on program this result known p c (on body) (maybe_on program this result known update l) w) names (pc_after at (loop_of p names c body update (unknown b) at))
      (loop_targets names c body update b at) (loop_of p names c body update l at)
  for_drafts p c update body l b w names at eb e h db du =
      let again = pc_after (at + 1 + 1) (plain body false names (at + 1 + 1)) in
      let test = pc_after again (maybe_of update (unknown b) names again) in
      let cond = λ (t : ℕ). condition_code program this names c t in
      let exit = pc_after test (cond test) + 1 in
      let u = turns_on program this result known p c (on body) (maybe_on program this result known update l) w in
      let changes = maybe_of update l names again in
      let form = λ (t : ℕ). i.Jump t ∷ i.Tick p ∷ of body (loop_label again (length names) (pc_after t (cond t) + 1)) names (at + 1 + 1)
      ++ (changes ++ (cond t ++ i.JumpIf (at + 1) ∷ [])) in
      sized w u names exit (pc_after at (loop_of p names c body update (unknown b) at)) (loop_targets names c body update b at) (loop_of p names c body update l at)
      (sym (loop_length program this result p names c (λ m from. of body m names from) (λ from. maybe_of update (unknown b) names from) at (body_steady program this result body names false)))
      (recoded w u names exit (loop_targets names c body update b at) (form test) (loop_of p names c body update l at)
      (ap form (sym (maybe_length program this result update l (unknown b) names again eb)))
      (turns_drafts p c (on body) (maybe_on program this result known update l) w names (names_after body names) (names_maybe update names) at again test (T body false names (at + 1 + 1))
      (targets_maybe program this result update b names again) (λ ls. of body ls names (at + 1 + 1)) changes e h (longer_after body names) (longer_maybe update names) db
      (λ v n m. du v again n m)))

  begun_long : (p : Place) (w : CodeBuilder) (at : ℕ) → length w.code ≡ at → length (begun p w).code ≡ at + 1 + 1
  begun_long p w at h = two_long w.code (i.Jump (get_or known (length w.targets + 1) 0)) (i.Tick p) at h

  mutual
    stm_drafts : (x : NumberedStm) (l : Option LoopTargets) (b : Bool) (w : CodeBuilder) (names : List Name) (at : ℕ) → walks_in l ≡ b → w.names ≡ names → length w.code ≡ at
        → Drafts w (on x l w) (names_after x names) (pc_after at (plain x b names at)) (T x b names at) (of x l names at)
    stm_drafts s.Empty l b w names at eb e h = still w names at e h
    stm_drafts (s.Declare p type variable value) l b w names at eb e h =
        let r = Declared p (declared_as type variable) in
        let d = leafwise (s.Declare p type variable value) l b w names at (init_on (W w) r value w.code) eb e h (init_is (W w) r value w.code) in
        record { names_are = ap (λ z. Of (declared_as type variable) ∷ z) e; size_is = d.size_is; targets_are = d.targets_are; code_is = d.code_is }
    stm_drafts (s.Assign p t value) l b w names at eb e h =
        leafwise (s.Assign p t value) l b w names at (init_on (W w) (Assigned p t) value w.code) eb e h (init_is (W w) (Assigned p t) value w.code)
    stm_drafts (s.Update p op t x) l b w names at eb e h =
        leafwise (s.Update p op t x) l b w names at (init_on (W w) (Updated p op t) (s.Value x) w.code) eb e h (init_is (W w) (Updated p op t) (s.Value x) w.code)
    stm_drafts (s.Step p op t) l b w names at eb e h =
        let one = s.Value (exp.Int p (pos 1)) in
        leafwise (s.Step p op t) l b w names at (init_on (W w) (Updated p (one_more op) t) one w.code) eb e h (init_is (W w) (Updated p (one_more op) t) one w.code)
    stm_drafts (s.Call x) l b w names at eb e h = leafwise (s.Call x) l b w names at (stands_on (W w) x w.code) eb e h (stands_is (W w) x w.code)
    stm_drafts (s.Print p what) l b w names at eb e h = leafwise (s.Print p what) l b w names at (print_on (W w) p what w.code) eb e h (print_is (W w) p what w.code)
    stm_drafts (s.Barrier p) l b w names at eb e h =
        leafwise (s.Barrier p) l b w names at (w.code ++ i.Arrive coll.Barrier p ∷ i.Depart p ∷ []) eb e h refl
    stm_drafts (s.Break p) l b w names at eb e h = leafwise (s.Break p) l b w names at (w.code ++ break_code l w.names (length w.code)) eb e h refl
    stm_drafts (s.Continue p) l b w names at eb e h = leafwise (s.Continue p) l b w names at (w.code ++ continue_code l w.names (length w.code)) eb e h refl
    stm_drafts (s.Return p value) l b w names at eb e h =
        leafwise (s.Return p value) l b w names at (returned_on (W w) p result value w.code) eb e h (returned_is (W w) p result value l w.code)
    stm_drafts (s.Block body) l b w names at eb e h =
        let all = all_of body (unknown b) names at in
        let v = stms_on program this result known body l w in
        sized w (trim_slots (length w.names) v) names (pc_after at all + 1) (pc_after at (plain (s.Block body) b names at)) (targets_all program this result body b names at)
        (of (s.Block body) l names at) (sym (behind_both at all (i.Trim (length names) ∷ [])))
        (trim_drafts w v names (names_behind body names) (pc_after at all) (targets_all program this result body b names at) (all_of body l names at) e (longer_behind body names)
        (stms_drafts body l b w names at eb e h))
    stm_drafts (s.If p c x) l b w names at eb e h =
        let first = code_of program this names c at in
        let start = pc_after at first + 1 in
        let inner = of x l names start in
        let size = pc_after start (plain x b names start) in
        let v = branch_on program this result known c (on x l) w in
        sized w v names size (pc_after at (plain (s.If p c x) b names at)) (size ∷ T x b names start) (of (s.If p c x) l names at)
        (sym (behind_both at first (i.JumpIfNot size ∷ plain x b names start)))
        (recoded w v names size (size ∷ T x b names start) (first ++ i.JumpIfNot size ∷ inner) (of (s.If p c x) l names at)
        (ap (λ t. first ++ i.JumpIfNot t ∷ inner) (sym (same_size x l b names start eb)))
        (branch_drafts c (on x l) w names (names_after x names) at size (T x b names start) inner e h (longer_after x names)
        (stm_drafts x l b (test_on c w) names start eb e (tested_long w names at c e h))))
    stm_drafts (s.IfElse p c x y) l b w names at eb e h =
        let first = code_of program this names c at in
        let start = pc_after at first + 1 in
        let inner = of x l names start in
        let size = pc_after start (plain x b names start) in
        let else_at = size + 1 in
        let other = of y l names else_at in
        let end = pc_after else_at (plain y b names else_at) in
        let a = both_tested c w in
        let v = on x l a in
        let o = between w v in
        let u = branches_on program this result known c (on x l) (on y l) w in
        let dx = stm_drafts x l b a names start eb e (tested_long w names at c e h) in
        let named = (fewer a v (names_after x names) names (length w.names) size (T x b names start) inner (sym (ap length e)) (longer_after x names) dx).names_are in
        let long : length o.code ≡ else_at = longer_code v.code (i.Jump (get_or known (length w.targets + 1) 0)) ∙ ap (λ n. n + 1) dx.size_is in
        let dy = stm_drafts y l b o names else_at eb named long in
        let ts = else_at ∷ end ∷ T x b names start ++ T y b names else_at in
        sized w u names end (pc_after at (plain (s.IfElse p c x y) b names at)) ts (of (s.IfElse p c x y) l names at)
        (sym (behind_both at first (i.JumpIfNot else_at ∷ (plain x b names start ++ i.Jump end ∷ plain y b names else_at))
        ∙ behind_both start (plain x b names start) (i.Jump end ∷ plain y b names else_at)))
        (recoded w u names end ts (first ++ i.JumpIfNot else_at ∷ (inner ++ i.Jump end ∷ other)) (of (s.IfElse p c x y) l names at)
        (ap (λ t. first ++ i.JumpIfNot else_at ∷ (inner ++ i.Jump t ∷ other)) (sym (same_size y l b names else_at eb))
        ∙ ap (λ j. first ++ i.JumpIfNot (j + 1) ∷ (inner ++ i.Jump (pc_after (j + 1) (of y l names (j + 1))) ∷ of y l names (j + 1))) (sym (same_size x l b names start eb)))
        (branches_drafts c (on x l) (on y l) w names (names_after x names) (names_after y names) at size end (T x b names start) (T y b names else_at) inner other e h
        (longer_after x names) (longer_after y names) dx dy))
    stm_drafts (s.While p c body) l b w names at eb e h =
        let again = pc_after (at + 1 + 1) (plain body false names (at + 1 + 1)) in
        let cond = condition_code program this names (Some c) again in
        let ts = again ∷ again ∷ (pc_after again cond + 1) ∷ T body false names (at + 1 + 1) ++ [] in
        sized w (on (s.While p c body) l w) names (pc_after again cond + 1) (pc_after at (plain (s.While p c body) b names at)) ts (of (s.While p c body) l names at)
        (sym (loop_length program this result p names (Some c) (λ m from. of body m names from) (λ from. []) at (body_steady program this result body names false)))
        (turns_drafts p (Some c) (on body) (λ v. v) w names (names_after body names) names at again again (T body false names (at + 1 + 1)) [] (λ ls. of body ls names (at + 1 + 1)) []
        e h (longer_after body names) ([], refl)
        (stm_drafts body (guessed w) false (begun p w) names (at + 1 + 1) refl e (begun_long p w at h)) (λ v n m. still v names again n m))
    stm_drafts (s.For p NoStm c update body) l b w names at eb e h =
        let loop = loop_of p names c body update (unknown b) at in
        let u = turns_on program this result known p c (on body) (maybe_on program this result known update l) w in
        sized w (trim_slots (length w.names) u) names (pc_after at loop + 1) (pc_after at (plain (s.For p NoStm c update body) b names at)) (loop_targets names c body update b at)
        (of (s.For p NoStm c update body) l names at) (sym (behind_both at loop (i.Trim (length names) ∷ [])))
        (trim_drafts w u names names (pc_after at loop) (loop_targets names c body update b at) (loop_of p names c body update l at) e ([], refl)
        (for_drafts p c update body l b w names at eb e h
        (stm_drafts body (guessed w) false (begun p w) names (at + 1 + 1) refl e (begun_long p w at h)) (λ z from n m. maybe_drafts update l b z names from eb n m)))
    stm_drafts (s.For p (SomeStm first) c update body) l b w names at eb e h =
        let before = of first l names at in
        let from = pc_after at (plain first b names at) in
        let inner = names_after first names in
        let loop = loop_of p inner c body update (unknown b) from in
        let v = on first l w in
        let u = turns_on program this result known p c (on body) (maybe_on program this result known update l) v in
        let trim = i.Trim (length names) ∷ [] in
        let ts = T first b names at ++ loop_targets inner c body update b from in
        let df = stm_drafts first l b w names at eb e h in
        let dt = for_drafts p c update body l b v inner from eb df.names_are df.size_is
        (stm_drafts body (guessed v) false (begun p v) inner (from + 1 + 1) refl df.names_are (begun_long p v from df.size_is)) (λ z k n m. maybe_drafts update l b z inner k eb n m) in
        sized w (trim_slots (length w.names) u) names (pc_after from loop + 1) (pc_after at (plain (s.For p (SomeStm first) c update body) b names at)) ts
        (of (s.For p (SomeStm first) c update body) l names at)
        (sym (behind_both at (plain first b names at) (loop ++ trim) ∙ behind_both from loop trim))
        (recoded w (trim_slots (length w.names) u) names (pc_after from loop + 1) ts ((before ++ loop_of p inner c body update l from) ++ trim) (of (s.For p (SomeStm first) c update body) l names at)
        (append_assoc before (loop_of p inner c body update l from) trim
        ∙ ap (λ k. before ++ (loop_of p inner c body update l k ++ trim)) (sym (same_size first l b names at eb)))
        (trim_drafts w u names inner (pc_after from loop) ts (before ++ loop_of p inner c body update l from) e (longer_after first names)
        (both w v u inner inner from (pc_after from loop) (T first b names at) (loop_targets inner c body update b from) before (loop_of p inner c body update l from) df dt)))
    stm_drafts (s.Foreach p x domain body) l b w names at eb e h =
        let first = code_of program this names domain at in
        let from = pc_after at first in
        let inner = Point x ∷ names in
        let again = pc_after (from + 1 + 1) (plain body true inner (from + 1 + 1)) in
        let o = with_code w (value_on (W w) domain w.code) in
        let u = walked_on program this result known p x (on body) o in
        let walk = walk_code program this p names (λ m z. of body m inner z) from in
        let d = leaf w names at (λ ns z. code_of program this ns domain z) (value_on (W w) domain w.code) e h refl in
        let db = stm_drafts body (walk_guessed o) true (walk_start p x o) inner (from + 1 + 1) refl (ap (λ z. Point x ∷ z) d.names_are)
        (two_long o.code (i.Jump (get_or known (length o.targets) 0 + 1)) (i.Tick p) from d.size_is) in
        sized w u names (again + 1 + 1 + 1 + 1) (pc_after at (plain (s.Foreach p x domain body) b names at)) (again ∷ T body true inner (from + 1 + 1))
        (of (s.Foreach p x domain body) l names at)
        (sym (behind_both at first walk ∙ walk_length program this result p names (λ m z. of body m inner z) from (body_steady program this result body inner true)))
        (both w o u names names from (again + 1 + 1 + 1 + 1) [] (again ∷ T body true inner (from + 1 + 1)) first walk d
        (walk_drafts p x (on body) o names (names_after body inner) from again (T body true inner (from + 1 + 1)) (λ ls. of body ls inner (from + 1 + 1)) d.names_are d.size_is
        (longer_both (names_after body inner) inner names (longer_after body inner) (Point x ∷ [], refl)) db))

    maybe_drafts : (x : MaybeNumbered) (l : Option LoopTargets) (b : Bool) (w : CodeBuilder) (names : List Name) (at : ℕ) → walks_in l ≡ b → w.names ≡ names → length w.code ≡ at
        → Drafts w (maybe_on program this result known x l w) (names_maybe x names) (pc_after at (maybe_of x (unknown b) names at)) (targets_maybe program this result x b names at)
        (maybe_of x l names at)
    maybe_drafts NoStm l b w names at eb e h = still w names at e h
    maybe_drafts (SomeStm x) l b w names at eb e h = stm_drafts x l b w names at eb e h

    stms_drafts : (xs : NumberedStms) (l : Option LoopTargets) (b : Bool) (w : CodeBuilder) (names : List Name) (at : ℕ) → walks_in l ≡ b → w.names ≡ names → length w.code ≡ at
        → Drafts w (stms_on program this result known xs l w) (names_behind xs names) (pc_after at (all_of xs (unknown b) names at)) (targets_all program this result xs b names at)
        (all_of xs l names at)
    stms_drafts Nil l b w names at eb e h = still w names at e h
    stms_drafts (Cons x rest) l b w names at eb e h =
        let from = pc_after at (plain x b names at) in
        let ns = names_after x names in
        let v = on x l w in
        let u = stms_on program this result known rest l v in
        let dx = stm_drafts x l b w names at eb e h in
        let dr = stms_drafts rest l b v ns from eb dx.names_are dx.size_is in
        let ts = T x b names at ++ targets_all program this result rest b ns from in
        sized w u (names_behind rest ns) (pc_after from (all_of rest (unknown b) ns from)) (pc_after at (all_of (Cons x rest) (unknown b) names at)) ts (all_of (Cons x rest) l names at)
        (sym (behind_both at (plain x b names at) (all_of rest (unknown b) ns from)))
        (recoded w u (names_behind rest ns) (pc_after from (all_of rest (unknown b) ns from)) ts (of x l names at ++ all_of rest l ns from) (all_of (Cons x rest) l names at)
        (ap (λ k. of x l names at ++ all_of rest l ns k) (sym (same_size x l b names at eb)))
        (both w v u ns (names_behind rest ns) from (pc_after from (all_of rest (unknown b) ns from)) (T x b names at) (targets_all program this result rest b ns from)
        (of x l names at) (all_of rest l ns from) dx dr))

  -- what was noted is known
  known_from : (before xs : List ℕ) → known ≡ before ++ xs → Known (length before) xs
  known_from before [] e = tt
  known_from before (x ∷ xs) e = (
    ap (λ z. get_or z (length before) 0) e ∙ get_or-append_seam before x xs 0,
    subst (λ n. Known n xs) (one_more_long before x) (known_from (before ++ x ∷ []) xs (e ∙ sym (append_assoc before (x ∷ []) xs))),
  )

-- ---- methods

-- the code of a method's body, written with the targets that were noted without any
pub written_twice : (program : ProgramView) (m : NumberedMethod) → (body_on program m (body_on program m []).targets).code ++ i.Return ∷ [] ≡ body_code program m
written_twice program m =
    let this = this_of m in
    let result = result_type m in
    let xs = numbered_stms m.body in
    let w : CodeBuilder = record { names = names_in_method m; code = []; targets = [] } in
    let first = stms_drafts program this result [] xs None false w (names_in_method m) 0 refl refl refl in
    let known = (body_on program m []).targets in
    let second = stms_drafts program this result known xs None false w (names_in_method m) 0 refl refl refl in
    ap (λ z. z ++ i.Return ∷ [])
    (second.code_is (subst (λ z. Known program this result known 0 z) first.targets_are (known_from program this result known [] known refl)))
