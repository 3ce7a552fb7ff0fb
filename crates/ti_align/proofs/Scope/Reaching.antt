-- Work in whose scope each variable is that it uses, whatever jumps it makes.
use Rattle.std.proofs.Common.{◌≡◌, Bool, true, false, ◌⊎◌, inl, inr, Some, List, [], ◌∷◌, ◌++◌, refl, ap, sym, ◌∙◌}
use Rattle.ti_lang.specs.Program.Types.{VariableUse}
use Rattle.ti_lang.specs.Program.Statements.{NumberedStm, MaybeNumbered, NumberedStms, Nil, Cons, numbered_stms}
use Rattle.ti_lang.specs.Program.Statements as s
use Rattle.ti_lang.specs.Program.Classes.{NumberedMethod, ProgramView}
use Rattle.ti_lang.specs.Typing.Kinds.{is_void}
use Rattle.ti_lang.specs.Typing.Declared.{result_type}
use Rattle.ti_lang.specs.Meaning.Held.{Held}
use Rattle.ti_lang.specs.Meaning.Processes.{Variable, Receiver, Nowhere, Declared, Assigned, Updated, Loop, While, Foreach, ContItem, Do, End, Before, Behind, Receive, CopyAll, TakeAll, all_before}
use Rattle.ti_lang.specs.Meaning.Scoping.{without_variables}
use Rattle.ti_lang.specs.Meaning.Calls.{parameters_of}
use Rattle.ti_lang.specs.Meaning.Performing.{declared_alone, declared_in}
use Rattle.ti_lang.specs.Meaning.Jumps.{has_mark, from_mark, past_mark, variables_at_mark}
use Rattle.ti_rules.specs.TypeRules.{ends_with_return}
use Rattle.ti_align.specs.Scoped.{Names, OptionScoped, ReceiverScoped}
use Rattle.ti_align.proofs.Scope.Scoped.{is_one, with_all, StmScoped, MaybeScoped, StmsScoped}
use Rattle.ti_align.proofs.Scope.Found.{Holds, Among, Apart, holds_some, holds_without, among_with}
use Rattle.ti_align.proofs.Scope.Suited.{StmSuits, MaybeSuits, StmsSuit}

-- ---- receivers

-- the receiver is a new variable
abbrev pub declares : Receiver → Bool
declares (Declared at v) = true
declares receiver = false

-- the names when a value has gone to its receiver
abbrev pub with_received : Names → Receiver → Names
with_received names (Declared at v) = with_all (v ∷ []) names
with_received names receiver = names

-- ---- work

-- the names behind a piece of work, and behind a loop's mark those that are in scope at each of its turns
abbrev pub behind : Names → Names → ContItem → Names
behind names base (Do x) = with_all (declared_alone x) names
behind names base (Behind loop) = base
behind names base (Receive receiver h) = with_received names receiver
behind names base w = names

-- the variables that leave
abbrev pub leaving : ContItem → List VariableUse
leaving (End x) = declared_in x
leaving w = []

-- from what is in scope behind a piece of work to the next one: the names, and those that stay up to the next mark
pub record Leads (after : Names) (gone : List VariableUse) (base next outer : Names) : Type 0 where
  pub known : Among next after
  pub apart : Apart next gone
  pub base_stays : Among outer base
  pub within : Among outer next

module _ (p : ProgramView) (m : NumberedMethod) where
  abbrev pub StmStands : Names → NumberedStm → Type 0
  StmStands names x = StmScoped names x × StmSuits p m x

  abbrev pub MaybeStands : Names → MaybeNumbered → Type 0
  MaybeStands names x = MaybeScoped names x × MaybeSuits p m x

  abbrev pub StmsStand : Names → NumberedStms → Type 0
  StmsStand names xs = StmsScoped names xs × StmsSuit p m xs

  abbrev pub LoopStands : Names → Loop → Type 0
  LoopStands names (While at c update body) = OptionScoped names c × MaybeStands names update × StmStands names body
  LoopStands names (Foreach at variable domain points body) = StmStands names body

  -- a piece of work with these names in scope, of which some are in scope at the next mark
  abbrev pub WorkStands : Names → Names → ContItem → Type 0
  WorkStands names base (Do x) = StmStands names x
  WorkStands names base (Before loop) = LoopStands names loop
  WorkStands names base (Behind loop) = LoopStands base loop
  WorkStands names base (Receive receiver h) = ReceiverScoped names receiver
  WorkStands names base w = Unit {0}

  -- the work that is left
  abbrev pub WorksStand : Names → Names → List ContItem → Type 0
  WorksStand names base [] = Unit {0}
  WorksStand names base (w ∷ left) =
      WorkStands names base w × ((next : Names) × (outer : Names) × Leads (behind names base w) (leaving w) base next outer × WorksStand next outer left)

  -- work before which these variables are in scope
  abbrev pub Standing : List Variable → List ContItem → Type 0
  Standing vs works = (names : Names) × (base : Names) × Holds names vs × Among base names × WorksStand names base works

  -- the same where a value is to go to a receiver first
  abbrev pub Awaiting : List Variable → Receiver → List ContItem → Type 0
  Awaiting vs receiver works =
      (names : Names) × (base : Names) × Holds names vs × Among base names × ReceiverScoped names receiver
      × ((next : Names) × (outer : Names) × Leads (with_received names receiver) [] base next outer × WorksStand next outer works)

  -- ---- values come

  pub received : (vs : List Variable) (receiver : Receiver) (h : Held) (works : List ContItem) → Awaiting vs receiver works → Standing vs (Receive receiver h ∷ works)
  received vs receiver h works k = (k.0, k.1, k.2, k.3, (k.4, k.5))

  pub not_received : (vs : List Variable) (receiver : Receiver) (works : List ContItem) → declares receiver ≡ false → Awaiting vs receiver works → Standing vs works
  not_received vs receiver works d k = (k.5.0, k.5.1, holds_some k.5.0 k.0 vs (same k.0 receiver k.5.0 d k.5.2.known) k.2, k.5.2.within, k.5.3)
    where
      same : (names : Names) (r : Receiver) (next : Names) → declares r ≡ false → Among next (with_received names r) → Among next names
      same names Nowhere next d a = a
      same names (Assigned at target) next d a = a
      same names (Updated at op target) next d a = a
      same names (Declared at v) next d a = absurd (cc)

  -- where no value goes anywhere
  pub awaits_nothing : (vs : List Variable) (works : List ContItem) → Standing vs works → Awaiting vs Nowhere works
  awaits_nothing vs works k = (k.0, k.1, k.2, k.3, tt, (k.0, k.1, record { known = λ v z. z; apart = λ v z. refl; base_stays = λ v z. z; within = k.3 }, k.4))

  -- ---- jumps

  pub from_stands : (names base : Names) (left : List ContItem) (vs : List Variable) → Holds base vs → WorksStand names base left → Standing (variables_at_mark left vs) (from_mark left)
  from_stands names base [] vs h k = (base, base, h, λ v z. z, tt)
  from_stands names base (Behind loop ∷ left) vs h k = (base, base, h, λ v z. z, k)
  from_stands names base (End x ∷ left) vs h k =
      let l = k.1.2 in
      from_stands k.1.0 k.1.1 left (without_variables (declared_in x) vs) (holds_without k.1.1 (declared_in x) vs (λ v z. l.apart v (l.within v z)) (holds_some k.1.1 base vs l.base_stays h)) k.1.3
  from_stands names base (Do x ∷ left) vs h k = from_stands k.1.0 k.1.1 left vs (holds_some k.1.1 base vs k.1.2.base_stays h) k.1.3
  from_stands names base (Before loop ∷ left) vs h k = from_stands k.1.0 k.1.1 left vs (holds_some k.1.1 base vs k.1.2.base_stays h) k.1.3
  from_stands names base (Receive r x ∷ left) vs h k = from_stands k.1.0 k.1.1 left vs (holds_some k.1.1 base vs k.1.2.base_stays h) k.1.3
  from_stands names base (CopyAll at to from points ∷ left) vs h k = from_stands k.1.0 k.1.1 left vs (holds_some k.1.1 base vs k.1.2.base_stays h) k.1.3
  from_stands names base (TakeAll at grid procs ∷ left) vs h k = from_stands k.1.0 k.1.1 left vs (holds_some k.1.1 base vs k.1.2.base_stays h) k.1.3

  pub past_stands : (names base : Names) (left : List ContItem) (vs : List Variable) → Holds base vs → WorksStand names base left → Standing (variables_at_mark left vs) (past_mark left)
  past_stands names base [] vs h k = (base, base, h, λ v z. z, tt)
  past_stands names base (Behind loop ∷ left) vs h k = (k.1.0, k.1.1, holds_some k.1.0 base vs k.1.2.known h, k.1.2.within, k.1.3)
  past_stands names base (End x ∷ left) vs h k =
      let l = k.1.2 in
      past_stands k.1.0 k.1.1 left (without_variables (declared_in x) vs) (holds_without k.1.1 (declared_in x) vs (λ v z. l.apart v (l.within v z)) (holds_some k.1.1 base vs l.base_stays h)) k.1.3
  past_stands names base (Do x ∷ left) vs h k = past_stands k.1.0 k.1.1 left vs (holds_some k.1.1 base vs k.1.2.base_stays h) k.1.3
  past_stands names base (Before loop ∷ left) vs h k = past_stands k.1.0 k.1.1 left vs (holds_some k.1.1 base vs k.1.2.base_stays h) k.1.3
  past_stands names base (Receive r x ∷ left) vs h k = past_stands k.1.0 k.1.1 left vs (holds_some k.1.1 base vs k.1.2.base_stays h) k.1.3
  past_stands names base (CopyAll at to from points ∷ left) vs h k = past_stands k.1.0 k.1.1 left vs (holds_some k.1.1 base vs k.1.2.base_stays h) k.1.3
  past_stands names base (TakeAll at grid procs ∷ left) vs h k = past_stands k.1.0 k.1.1 left vs (holds_some k.1.1 base vs k.1.2.base_stays h) k.1.3

  -- ---- blocks

  -- statements in order before more work, which stands wherever the names are still in scope
  pub all_stand : (names base first : Names) (xs : NumberedStms) (works left : List ContItem) → StmsStand names xs → Among base names → Among first names
      → ((after : Names) → Among base after → Among first after → WorksStand after base (works ++ left)) → WorksStand names base (all_before xs works ++ left)
  all_stand names base first Nil works left k b f g = g names b f
  all_stand names base first (Cons x rest) works left k b f g =
      let after : Names = with_all (declared_alone x) names in
      let more : Among names after = among_with names (declared_alone x) in (
        (k.0.0, k.1.0),
        (
          after,
          base,
          record { known = λ v z. z; apart = λ v z. refl; base_stays = λ v z. z; within = λ v z. more v (b v z) },
          all_stand after base first rest works left (k.0.1, k.1.1) (λ v z. more v (b v z)) (λ v z. more v (f v z)) g,
        ),
      )

-- ---- results

-- a `return` of a value
abbrev pub IsReturn : ContItem → Type 0
IsReturn (Do (s.Return at (Some x))) = Unit {0}
IsReturn w = ⊥

-- the last piece of work is such a `return`
abbrev pub Returning : List ContItem → Type 0
Returning [] = ⊥
Returning (w ∷ left) = (IsReturn w × (left ≡ [])) ⊎ Returning left

pub returning_both : (xs left : List ContItem) → Returning left → Returning (xs ++ left)
returning_both [] left r = r
returning_both (w ∷ xs) left r = inr (returning_both xs left r)

no_mark : (w : ContItem) (left : List ContItem) → IsReturn w → left ≡ [] → has_mark (w ∷ left) ≡ true → ⊥
no_mark (Do x) left i e h = absurd (none (sym (ap has_mark e) ∙ h))
  where
    none : false ≡ true → ⊥
    none e = cc
no_mark _ left i e h = i

pub returning_from : (left : List ContItem) → has_mark left ≡ true → Returning left → Returning (from_mark left)
returning_from [] h r = r
returning_from (Behind loop ∷ left) h r = r
returning_from (w ∷ left) h (inl r) = absurd (no_mark w left r.0 r.1 h)
returning_from (Do x ∷ left) h (inr r) = returning_from left h r
returning_from (End x ∷ left) h (inr r) = returning_from left h r
returning_from (Before loop ∷ left) h (inr r) = returning_from left h r
returning_from (Receive t x ∷ left) h (inr r) = returning_from left h r
returning_from (CopyAll at to from points ∷ left) h (inr r) = returning_from left h r
returning_from (TakeAll at grid procs ∷ left) h (inr r) = returning_from left h r

pub returning_past : (left : List ContItem) → has_mark left ≡ true → Returning left → Returning (past_mark left)
returning_past [] h r = r
returning_past (Behind loop ∷ left) h (inl r) = absurd r.0
returning_past (Behind loop ∷ left) h (inr r) = r
returning_past (w ∷ left) h (inl r) = absurd (no_mark w left r.0 r.1 h)
returning_past (Do x ∷ left) h (inr r) = returning_past left h r
returning_past (End x ∷ left) h (inr r) = returning_past left h r
returning_past (Before loop ∷ left) h (inr r) = returning_past left h r
returning_past (Receive t x ∷ left) h (inr r) = returning_past left h r
returning_past (CopyAll at to from points ∷ left) h (inr r) = returning_past left h r
returning_past (TakeAll at grid procs ∷ left) h (inr r) = returning_past left h r

-- ---- methods

-- the statements of a method stand in its parameters; where it has a result, the last one is a `return`
pub record MethodStands (p : ProgramView) (m : NumberedMethod) : Type 0 where
  pub scoped : StmsScoped (is_one (parameters_of m.params)) (numbered_stms m.body)
  pub suit : StmsSuit p m (numbered_stms m.body)
  pub returns : is_void (result_type m) ≡ false → ends_with_return m.body ≡ true

abbrev pub MethodsStand : ProgramView → List NumberedMethod → Type 0
MethodsStand p [] = Unit {0}
MethodsStand p (m ∷ ms) = MethodStands p m × MethodsStand p ms
