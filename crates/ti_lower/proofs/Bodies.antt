-- Proves facts on the code of whole methods.
use Rattle.std.proofs.Common.{◌≡◌, inl, ℕ, ◌+◌, Bool, true, false, length, slice_get, List, [], ◌∷◌, ◌++◌, Option, Some, None, refl, ap, sym, ◌∙◌, subst, arith}
use Rattle.std.proofs.lemmas.List.{append_assoc, length-append}
use Rattle.ti_base.specs.declared.place.Place.{Place}
use Rattle.ti_base.specs.declared.value.Id.{Id}
use Rattle.ti_base.specs.declared.entry.Answer.{Answer}
use Rattle.ti_lang.specs.Program.Types.{ValueType, VariableUse}
use Rattle.ti_lang.specs.Program.Statements.{NumberedStm, NumberedStms, Nil, Cons, numbered_stms}
use Rattle.ti_lang.specs.Program.Statements as s
use Rattle.ti_lang.specs.Program.Classes.{NumberedMethod, ProgramView}
use Rattle.ti_lang.specs.Program.Scope.{this_of}
use Rattle.ti_lang.specs.Typing.Declared.{result_type}
use Rattle.ti_lang.specs.Typing.Kinds.{is_void}
use Rattle.ti_lang.specs.Meaning.Held.{Held}
use Rattle.ti_lang.specs.Meaning.Processes.{Variable, all_before}
use Rattle.ti_lang.specs.Meaning.Turns.{turns_at}
use Rattle.ti_code.specs.declared.instr.Instr.{Instr}
use Rattle.ti_code.specs.declared.instr.Instr.TheVariants as i
use Rattle.ti_code.specs.Effects.{LocalState, Who}
use Rattle.ti_code.specs.Leading.{ExecutesTo, next_effect, CodeAt, pc_after}
use Rattle.ti_lower_expr.specs.Slots.{Name, Of, SlotsHold}
use Rattle.ti_lower_expr.specs.Methods.{push_param_names, this_names, names_in_method}
use Rattle.ti_lower.specs.Programs.{in_main, body_code, instrs_in}
use Rattle.ti_lower.specs.StmtCode.{names_after, stm_code, stms_code}
use Rattle.ti_lower_expr.proofs.Lemmas.{front_stands, rest_stands}
use Rattle.ti_lang.specs.Meaning.Calls.{parameters_of}
use Rattle.ti_lower.proofs.Cutting.{Bare}
use Rattle.ti_lower.proofs.Premises.{IsReturn, EndOf, IsEnded, MethodFine}
use Rattle.ti_lower.proofs.Longer.{main_effect, main_leads, main_instr}
use Rattle.ti_lower.proofs.Standing as standing
use Rattle.ti_lower.proofs.Working.{StmFine, StmsFine, Left, returns, last, some, Mark, nowhere, do_one}

-- ---- a list of instructions stands in itself

seam : (front : List Instr) (x : Instr) (xs : List Instr) → slice_get (front ++ x ∷ xs) (length front) ≡ Some x
seam [] x xs = refl
seam (y ∷ front) x xs = seam front x xs

pub stands_behind : (c front is : List Instr) (at : ℕ) → c ≡ front ++ is → at ≡ length front → CodeAt c at is
stands_behind c front [] at e z = tt
stands_behind c front (x ∷ is) at e z = (
  ap (λ n. slice_get c n) z ∙ (ap (λ l. slice_get l (length front)) e ∙ seam front x is),
  stands_behind c (front ++ x ∷ []) is (at + 1) (e ∙ sym (append_assoc front (x ∷ []) is)) (omega (arith, z, length-append front (x ∷ []))),
)

-- ---- at its end, a method returns or the run ends

pub in_effect : (o : Option Place) (w : Who) (c : List Instr) (s : LocalState) (rs : List Answer) → next_effect w (instrs_in o c) s rs ≡ next_effect w c s rs
in_effect None w c s rs = refl
in_effect (Some end) w c s rs = main_effect end w c s rs

pub in_leads : (o : Option Place) (w : Who) (c : List Instr) (s t : LocalState) (rs rest : List Answer) → ExecutesTo w c s rs t rest → ExecutesTo w (instrs_in o c) s rs t rest
in_leads None w c s t rs rest k = k
in_leads (Some end) w c s t rs rest k = main_leads end w c s t rs rest k

pub in_instr : (o : Option Place) (c : List Instr) (at : ℕ) (x : Instr) → ((end : Place) → in_main end x ≡ x) → slice_get c at ≡ Some x → slice_get (instrs_in o c) at ≡ Some x
in_instr None c at x same e = e
in_instr (Some end) c at x same e = main_instr end c at x e ∙ ap Some (same end)

-- ---- it does the work of the method

module _ (c : List Instr) (program : ProgramView) (this : Option ℕ) (result : ValueType) where
  unmarked_rest : (ns : List Name) (xs : NumberedStms) → Mark c program this result None ns [] (all_before xs [])
  unmarked_rest ns Nil = nowhere
  unmarked_rest ns (Cons x xs) = do_one (unmarked_rest ns xs)

  void_left : is_void result ≡ true → (ns : List Name) (xs : NumberedStms) (at : ℕ) → StmsFine program this result xs ns → CodeAt c at (stms_code program this result xs None ns at ++ i.Return ∷ [])
      → Left c program this result None ns [] (all_before xs []) at
  void_left e ns Nil at z st = returns e st.0
  void_left e ns (Cons x xs) at z st =
      let one = stm_code program this result x None ns at in
      let others = stms_code program this result xs None (names_after x ns) (pc_after at one) in
      let stands = subst (λ is. CodeAt c at is) (append_assoc one others (i.Return ∷ [])) st in
      some z.0 (unmarked_rest ns xs) (front_stands c at one (others ++ i.Return ∷ []) stands)
      (void_left e (names_after x ns) xs (pc_after at one) z.1 (rest_stands c at one (others ++ i.Return ∷ []) stands))

  last_left : (ns : List Name) (x : NumberedStm) (at : ℕ) → IsReturn x → StmFine program this result x ns
      → CodeAt c at (stm_code program this result x None ns at) → Left c program this result None ns [] (all_before (Cons x Nil) []) at
  last_left ns (s.Return p (Some x)) at k z st = last z st
  last_left ns x at k z st = elim k [ ]

  valued_left : (ns : List Name) (x : NumberedStm) (xs : NumberedStms) (at : ℕ) → EndOf x xs → StmsFine program this result (Cons x xs) ns
      → CodeAt c at (stms_code program this result (Cons x xs) None ns at ++ i.Return ∷ [])
      → Left c program this result None ns [] (all_before (Cons x xs) []) at
  valued_left ns x Nil at k z st =
      let one = stm_code program this result x None ns at in
      last_left ns x at k z.0 (front_stands c at one [] (front_stands c at (one ++ []) (i.Return ∷ []) st))
  valued_left ns x (Cons y ys) at k z st =
      let one = stm_code program this result x None ns at in
      let others = stms_code program this result (Cons y ys) None (names_after x ns) (pc_after at one) in
      let stands = subst (λ is. CodeAt c at is) (append_assoc one others (i.Return ∷ [])) st in
      some z.0 (unmarked_rest ns (Cons y ys)) (front_stands c at one (others ++ i.Return ∷ []) stands)
      (valued_left (names_after x ns) y ys (pc_after at one) k z.1 (rest_stands c at one (others ++ i.Return ∷ []) stands))

  body_left : (b : Bool) → is_void result ≡ b → (ns : List Name) (xs : NumberedStms) (at : ℕ) → IsEnded b xs
      → StmsFine program this result xs ns → CodeAt c at (stms_code program this result xs None ns at ++ i.Return ∷ [])
      → Left c program this result None ns [] (all_before xs []) at
  body_left true e ns xs at k z st = void_left e ns xs at z st
  body_left false e ns Nil at k z st = elim k [ ]
  body_left false e ns (Cons x xs) at k z st = valued_left ns x xs at k z st

no_turns : (xs : NumberedStms) → turns_at (all_before xs []) ≡ []
no_turns Nil = refl
no_turns (Cons x xs) = no_turns xs

-- `this` and parameters alone
param_bare : (ps : List VariableUse) (ns : List Name) → Bare ns → Bare (push_param_names ps ns)
param_bare [] ns z = z
param_bare (p ∷ ps) ns z = param_bare ps (Of p ∷ ns) z

this_bare : (t : Option ℕ) → Bare (this_names t)
this_bare None = tt
this_bare (Some class) = tt

-- a frame at its begin
pub begins_at : (program : ProgramView) (m : NumberedMethod) (th : Option Id) (number procs : ℕ) (ps : List Variable) (slots : List Held) → MethodFine program m → SlotsHold th (names_in_method m) ps [] slots
    → standing.At (body_code program m) program m th number procs (all_before (numbered_stms m.body) []) ps (record { at = 0; slots = slots; stack = [] })
begins_at program m th number procs ps slots z h =
    let xs = numbered_stms m.body in
    let c = body_code program m in inl (
      None,
      names_in_method m,
      subst (λ ts. SlotsHold th (names_in_method m) ps ts slots) (sym (no_turns xs)) h,
      body_left c program (this_of m) (result_type m) (is_void (result_type m)) refl (names_in_method m) xs 0 z.ended z.stms (stands_behind c [] c 0 refl refl),
      param_bare (parameters_of m.params) (this_names (this_of m)) (this_bare (this_of m)),
    )
