-- What lives, of what is there: all that lies in no region that is gone.
use Rattle.std.proofs.Common.{◌≡◌, ℕ, ◌+◌, ◌==◌, Bool, true, false, cond, count_by, if◌then◌else◌, Option, Some, None, List, [], ◌∷◌, refl, ap, sym, ◌∙◌, subst, arith}
use Rattle.std.proofs.lemmas.List.Sums.{sum_by-cons}
use Rattle.ti_base.specs.declared.value.Id.{Id}
use Rattle.ti_base.specs.declared.action.Action.{Action}
use Rattle.ti_base.specs.declared.action.Action.TheVariants as act
use Rattle.ti_base.specs.declared.action.Deposit.{Deposit}
use Rattle.ti_base.specs.declared.action.Deposit.TheVariants as deposit
use Rattle.ti_base.specs.Cells.{Grid}
use Rattle.ti_lang.specs.Program.Types.{ValueType, Declaration, Typed, Foreach}
use Rattle.ti_lang.specs.Program.Types as t
use Rattle.ti_lang.specs.Program.Classes.{NumberedMethod, ProgramView}
use Rattle.ti_lang.specs.Program.Scope.{ScopeContents, method_scope}
use Rattle.ti_lang.specs.Typing.Kinds.{is_void}
use Rattle.ti_lang.specs.Meaning.Held.{Held, Plain, referent_of}
use Rattle.ti_lang.specs.Meaning.Comp.{Wanted}
use Rattle.ti_lang.specs.Meaning.Processes.{Variable, ContItem, Do, End, Before, Behind, Receive, CopyAll, TakeAll, Frame, Wait, Process}
use Rattle.ti_lang.specs.Meaning.Steps.{lies_in, named_in}
use Rattle.ti_lang.specs.Meaning.Histories.{History}
use Rattle.ti_lang.specs.Meaning.RegionsOf.{is_gone}
use Rattle.ti_align.specs.HeapTyping.{HeapTyping, with_owner, Grows, IsGridOf, IsOf, HoldsOf, VariablesFit, ThisFits, DepositFits}
use Rattle.ti_align.specs.Existing.{OperandsExist}
use Rattle.ti_align.specs.Mirrors.ContItem.{WorksFit}
use Rattle.ti_align.specs.Mirrors.Processes.{FramesFit, NextFits, ProcessFits}
use Rattle.ti_align.specs.Heap.{FieldsStorable}
use Rattle.ti_align.specs.Dangling.{used_by, deposited_by, Lives, IfNamedLives}
use Rattle.ti_align.proofs.Runs.Vars.{true_false, if_false}
use Rattle.ti_align.proofs.RunTypes.Operating.{none_some}
use Rattle.ti_align.proofs.RunTypes.Computing.{of_stays}
use Rattle.ti_align.proofs.RunTypes.Stated.{stored_value}
use Rattle.ti_align.proofs.Runs.Given.{HoldsNothing, AllFree}

-- ---- things

-- of what is there, what lives after this history
abbrev pub living : History → HeapTyping → HeapTyping
living h w = record {
  owner = w.owner;
  class_at = λ id. if is_gone id.region h then None else w.class_at id;
  grid_at = λ id. if is_gone id.region h then None else w.grid_at id;
  element_at = w.element_at;
  is_made = w.is_made;
}

unless_gone : {A : Type 0} → (gone : Bool) (o : Option A) (a : A) → (if gone then None else o) ≡ Some a → (gone ≡ false) × (o ≡ Some a)
unless_gone true o a z = absurd (none_some a z)
unless_gone false o a z = (refl, z)

-- what lives is there
pub living_there : (h : History) (w : HeapTyping) → Grows (living h w) w
living_there h w = record {
  owner = refl;
  classes = λ id c z. (unless_gone (is_gone id.region h) (w.class_at id) c z).1;
  grids = λ id g z. (unless_gone (is_gone id.region h) (w.grid_at id) g z).1;
  elements = λ id type z. z;
  regions = λ r z. z;
}

-- what lives goes on to live where no region goes
pub living_grows : (h k : History) (u w : HeapTyping) → ((r : ℕ) → is_gone r h ≡ false → is_gone r k ≡ false) → Grows u w → Grows (living h u) (living k w)
living_grows h k u w f g = record {
  owner = g.owner;
  classes = λ id c z. let y = unless_gone (is_gone id.region h) (u.class_at id) c z in if_false (is_gone id.region k) None (w.class_at id) (f id.region y.0) ∙ g.classes id c y.1;
  grids = λ id x z. let y = unless_gone (is_gone id.region h) (u.grid_at id) x z in if_false (is_gone id.region k) None (w.grid_at id) (f id.region y.0) ∙ g.grids id x y.1;
  elements = g.elements;
  regions = g.regions;
}

-- ---- values

module _ (h : History) (w : HeapTyping) where
  class_lives : (id : Id) (c : ℕ) → (living h w).class_at id ≡ Some c → Lives h id
  class_lives id c z = (unless_gone (is_gone id.region h) (w.class_at id) c z).0

  grid_lives : (id : Id) (g : Grid) → (living h w).grid_at id ≡ Some g → Lives h id
  grid_lives id g z = (unless_gone (is_gone id.region h) (w.grid_at id) g z).0

  -- what a value names lives
  pub value_lives : (type : ValueType) (x : Held) → is_void type ≡ false → IsOf (living h w) type x → IfNamedLives h (referent_of x)
  value_lives (t.Class c l) x v k = subst (λ y. IfNamedLives h (referent_of y)) (sym k.1) (by k.0 k.2)
    where
      by : (o : Option Id) → ((id : Id) → o ≡ Some id → (living h w).class_at id ≡ Some c) → IfNamedLives h o
      by None f = tt
      by (Some id) f = class_lives id c (f id refl)
  value_lives (t.Grid e n l) x v k = subst (λ y. IfNamedLives h (referent_of y)) (sym k.1) (by k.0 k.2)
    where
      by : (o : Option Id) → ((id : Id) → o ≡ Some id → IsGridOf (living h w) e n id) → IfNamedLives h o
      by None f = tt
      by (Some id) f = let g = f id refl in grid_lives id g.0 g.1
  value_lives t.Null x v k = subst (λ y. IfNamedLives h (referent_of y)) (sym k) tt
  value_lives t.Void x v k = absurd (true_false v)
  value_lives _ x v k = subst (λ y. IfNamedLives h (referent_of y)) (sym k.1) tt

  pub grid_living : (e : ValueType) (n : ℕ) (id : Id) → Lives h id → IsGridOf w e n id → IsGridOf (living h w) e n id
  grid_living e n id l k = (k.0, if_false (is_gone id.region h) None (w.grid_at id) l ∙ k.1, k.2, k.3, k.4, k.5)

  -- a value that names only what lives
  pub of_living : (type : ValueType) (x : Held) → IsOf w type x → (is_void type ≡ false → IfNamedLives h (referent_of x)) → IsOf (living h w) type x
  of_living (t.Class c l) x k f = (k.0, k.1, (λ id z. if_false (is_gone id.region h) None (w.class_at id) (subst (IfNamedLives h) (ap referent_of k.1 ∙ z) (f refl)) ∙ k.2 id z), k.3)
  of_living (t.Grid e n l) x k f = (k.0, k.1, (λ id z. grid_living e n id (subst (IfNamedLives h) (ap referent_of k.1 ∙ z) (f refl)) (k.2 id z)), k.3)
  of_living _ x k f = k

-- ---- actions

module _ (h : History) (w : HeapTyping) where
  -- where what an action names is among what lives, all of it lives
  pub used_lives : (p : ProgramView) (a : Action) (wanted : Wanted) → OperandsExist p (living h w) a wanted → IfNamedLives h (used_by a)
  used_lives p (act.GetField obj field) wanted k = class_lives h w obj k.1.0 k.1.1
  used_lives p (act.PutField obj field value) wanted k = class_lives h w obj k.1.0 k.1.1
  used_lives p (act.GetElem grid at) wanted k = grid_lives h w grid k.2.0 k.2.1
  used_lives p (act.PutElem grid at value) wanted k = grid_lives h w grid k.2.0 k.2.1
  used_lives p (act.MakeView grid how) wanted k = grid_lives h w grid k.2.0 k.2.1
  used_lives p (act.DomainOf grid) wanted k = grid_lives h w grid k.2.0 k.2.1
  used_lives p _ wanted k = tt

  pub field_lives : (p : ProgramView) (obj : Id) (field : ℕ) (value : _) (wanted : Wanted) → FieldsStorable p
      → OperandsExist p (living h w) (act.PutField obj field value) wanted → IfNamedLives h (referent_of (Plain value))
  field_lives p obj field value wanted f k = value_lives h (with_owner obj.owner w) k.0 (Plain value) (stored_value k.0 (f k.1.0 field k.0 k.1.2)) k.2

  pub element_lives : (p : ProgramView) (grid : Id) (at : _) (value : _) (wanted : Wanted) → OperandsExist p (living h w) (act.PutElem grid at value) wanted → IfNamedLives h (referent_of (Plain value))
  element_lives p grid at value wanted k = value_lives h (with_owner grid.owner w) k.0 (Plain value) (stored_value k.0 k.2.4) k.4

  pub deposit_lives : (type : ValueType) (given : Deposit) → DepositFits (living h w) type given → IfNamedLives h (deposited_by given)
  deposit_lives type (deposit.One value) k = value_lives h w type (Plain value) k.1 k.0
  deposit_lives type deposit.Nothing k = tt
  deposit_lives type (deposit.Count n) k = tt

-- ---- where a region goes

sum_zero : (a b : ℕ) → a + b ≡ 0 → (a ≡ 0) × (b ≡ 0)
sum_zero a b h = (omega (arith, h), omega (arith, h))

count_zero : (b : Bool) → ◌≡◌ {A = ℕ} (cond b 1 0) 0 → b ≡ false
count_zero true h = cc
count_zero false h = refl

-- what names nothing in the region that goes
module _ (h k : History) (w : HeapTyping) (r : ℕ) (left : (n : ℕ) → is_gone n h ≡ false → (n == r) ≡ false → is_gone n k ≡ false) where
  named_left : (o : Option Id) → lies_in r o ≡ false → IfNamedLives h o → IfNamedLives k o
  named_left None n f = tt
  named_left (Some id) n f = left id.region f n

  value_left : (type : ValueType) (x : Held) → lies_in r (referent_of x) ≡ false → IsOf (living h w) type x → IsOf (living k w) type x
  value_left type x n f = of_living k w type x (of_stays (living h w) w type x (living_there h w) f) (λ v. named_left (referent_of x) n (value_lives h w type x v f))

  held_left : (d : Declaration) (x : Held) → lies_in r (referent_of x) ≡ false → HoldsOf (living h w) d x → HoldsOf (living k w) d x
  held_left (Typed l type) x n f = value_left type x n f
  held_left Foreach x n f = absurd f

  variables_left : (xs : List Variable) → count_by (λ (x : Variable). lies_in r (referent_of x.held)) xs ≡ 0 → VariablesFit (living h w) xs → VariablesFit (living k w) xs
  variables_left [] z f = tt
  variables_left (x ∷ xs) z f =
      let y = sum_zero (cond (lies_in r (referent_of x.held)) 1 0) (count_by (λ (x : Variable). lies_in r (referent_of x.held)) xs)
      (sym (sum_by-cons (λ (x : Variable). cond (lies_in r (referent_of x.held)) 1 0) x xs) ∙ z) in
      (held_left x.named.declared x.held (count_zero (lies_in r (referent_of x.held)) y.0) f.0, variables_left xs y.1 f.1)

  this_left : (m : NumberedMethod) (this : Option Id) → lies_in r this ≡ false → ThisFits (living h w) m this → ThisFits (living k w) m this
  this_left m this n f = λ c o id z.
      let y = unless_gone (is_gone id.region h) (w.class_at id) c (f c o id z) in
      if_false (is_gone id.region k) None (w.class_at id) (left id.region y.0 (subst (λ x. lies_in r x ≡ false) z n)) ∙ y.1

  works_left : (p : ProgramView) (m : NumberedMethod) (s : ScopeContents) (xs : List ContItem) → HoldsNothing xs → WorksFit p m s (living h w) xs → WorksFit p m s (living k w) xs
  works_left p m s [] n f = tt
  works_left p m s (Do x ∷ xs) n f = (f.0, works_left p m s xs n f.1)
  works_left p m s (End x ∷ xs) n f = (f.0, works_left p m s xs n f.1)
  works_left p m s (Before loop ∷ xs) n f = (f.0, works_left p m s xs n f.1)
  works_left p m s (Behind loop ∷ xs) n f = (f.0, works_left p m s xs n f.1)
  works_left p m s (Receive receiver held ∷ xs) n f = absurd n
  works_left p m s (CopyAll at to from points ∷ xs) n f = absurd n
  works_left p m s (TakeAll at grid procs ∷ xs) n f = absurd n

  frames_left : (p : ProgramView) (fs : List Frame) → named_in r fs ≡ 0 → AllFree fs → FramesFit p (living h w) fs → FramesFit p (living k w) fs
  frames_left p [] z a f = tt
  frames_left p (g ∷ fs) z a f =
      let counted : ℕ = count_by (λ (x : Variable). lies_in r (referent_of x.held)) g.variables in
      let y = sum_zero (counted + (if lies_in r g.this then 1 else 0)) (named_in r fs) z in
      let v = sum_zero counted (if lies_in r g.this then 1 else 0) y.0 in (
        (
          variables_left g.variables v.0 f.0.0,
          this_left g.method g.this (this_zero (lies_in r g.this) v.1) f.0.1,
          works_left p g.method (method_scope g.method) g.left a.0 f.0.2,
        ),
        f.1,
        frames_left p fs y.1 a.1 f.2,
      )
    where
      this_zero : (b : Bool) → ◌≡◌ {A = ℕ} (if b then 1 else 0) 0 → b ≡ false
      this_zero true h = cc
      this_zero false h = refl

  -- a process that waits
  pub process_left : (G : ValueType → Type 0) (pr : Process) (wait : Wait) → pr.wait ≡ Some wait → named_in r pr.frames ≡ 0
      → AllFree pr.frames → ProcessFits (living h w) G pr → ProcessFits (living k w) G pr
  process_left G pr wait z c a f = (
    frames_left pr.setting.program pr.frames c a f.0,
    subst (λ o. NextFits (living k w) G pr o pr.frames) (sym z) (subst (λ o. NextFits (living h w) G pr o pr.frames) z f.1),
  )
