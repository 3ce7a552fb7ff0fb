-- What statements and work that break no rule of single values are like.
use Rattle.std.proofs.Common.{◌≡◌, Bool, true, false, not, ◌&&◌, ◌||◌, unwrap_or, flat_map, Option, List, [], ◌∷◌, ◌++◌, if◌then◌else◌, refl, ap, ap₂, sym, ◌∙◌, subst}
use Rattle.ti_lang.specs.Program.Statements.{NumberedStm, MaybeNumbered, NumberedStms, Nil, Cons}
use Rattle.ti_lang.specs.Program.Classes.{NumberedMethod, ProgramView}
use Rattle.ti_lang.specs.Program.Scope.{this_of}
use Rattle.ti_lang.specs.Typing.Effects.{Doings, together, kept_in_loop, doings, doings_of_maybe, doings_of_all, return_acts, jump_acts, has_global_effects}
use Rattle.ti_lang.specs.Meaning.Processes.{Loop, While, Foreach, ContItem, Do, End, Before, Behind, Receive, CopyAll, TakeAll, all_before}
use Rattle.ti_lang.specs.Meaning.Turns.{turns_at, turn_before, dims_at, dims_inside}
use Rattle.ti_rules.specs.declared.refusal.Refusal.{Refusal}
use Rattle.ti_rules.specs.StmtInContext.{StmtContext, StmtInContext, in_loop, in_foreach, loop_acts, inside, inside_maybe, inside_all}
use Rattle.ti_rules.specs.SingleRules.{has_effects, is_plain_condition, standing_single_refusals}
use Rattle.ti_align.proofs.Alignment.Slice.{jump_at, around_at, work_acts, kept_before, kept}
use Rattle.ti_align.proofs.Runs.Vars.{true_false, or_false, or_left, not_false, if_true, if_false}

-- ---- refusals

nothing_in : {A : Type 0} → (x : A) (xs : List A) → x ∷ xs ≡ [] → ⊥
nothing_in x xs e = cc

pub none_both : {A : Type 0} → (xs ys : List A) → xs ++ ys ≡ [] → (xs ≡ []) × (ys ≡ [])
none_both [] ys h = (refl, h)
none_both (x ∷ xs) ys h = absurd (nothing_in x (xs ++ ys) h)

-- where the first holds and the second's absence would break a rule, the second holds
pub kept_rule : (a b : Bool) → (a && not b) ≡ false → a ≡ true → b ≡ true
kept_rule true true h k = refl
kept_rule true false h k = absurd (true_false h)
kept_rule false b h k = absurd (true_false (sym k))

-- and where the second would break it, it doesn't hold
pub plain_rule : (a b : Bool) → (a && b) ≡ false → a ≡ true → b ≡ false
plain_rule true b h k = h
plain_rule false b h k = absurd (true_false (sym k))

-- what is wrong with statements where they stand
abbrev pub refusals_in : ProgramView → List StmtInContext → List Refusal
refusals_in p xs = flat_map (standing_single_refusals p) xs

pub both_refusals : (p : ProgramView) (xs ys : List StmtInContext) → refusals_in p (xs ++ ys) ≡ [] → (refusals_in p xs ≡ []) × (refusals_in p ys ≡ [])
both_refusals p [] ys h = (refl, h)
both_refusals p (x ∷ xs) ys h =
    let k = none_both (standing_single_refusals p x) (refusals_in p (xs ++ ys)) h in
    let m = both_refusals p xs ys k.1 in
    (ap₂ (λ a b. a ++ b) k.0 m.0, m.1)

-- a statement in which no rule is broken
abbrev pub Fine : ProgramView → StmtContext → NumberedStm → Type 0
Fine p a x = refusals_in p (inside p a x) ≡ []

abbrev pub FineMaybe : ProgramView → StmtContext → MaybeNumbered → Type 0
FineMaybe p a x = refusals_in p (inside_maybe p a x) ≡ []

abbrev pub FineAll : ProgramView → StmtContext → NumberedStms → Type 0
FineAll p a x = refusals_in p (inside_all p a x) ≡ []

-- the head, and what stands in it
pub fine_head : (p : ProgramView) (x : StmtInContext) (xs : List StmtInContext) → refusals_in p (x ∷ xs) ≡ [] → (standing_single_refusals p x ≡ []) × (refusals_in p xs ≡ [])
fine_head p x xs h = none_both (standing_single_refusals p x) (refusals_in p xs) h

-- ---- effects

and_false : (a b c : Bool) → ((a || b) && c) ≡ false → ((a && c) ≡ false) × ((b && c) ≡ false)
and_false true true c h = (h, h)
and_false true false c h = (h, refl)
and_false false true c h = (refl, h)
and_false false false c h = (refl, refl)

pub together_plain : (r j : Bool) (d e : Doings) → has_global_effects r j (together d e) ≡ false → (has_global_effects r j d ≡ false) × (has_global_effects r j e ≡ false)
together_plain r j d e h =
    let a = or_false ((d.acts || e.acts) || ((d.returns || e.returns) && r)) _ h in
    let b = or_false (d.acts || e.acts) _ a.0 in
    let c = or_false d.acts e.acts b.0 in
    let k = and_false d.returns e.returns r b.1 in
    let l = and_false d.jumps e.jumps j a.1 in
    (ap₂ (λ x y. x || y) (ap₂ (λ x y. x || y) c.0 k.0) l.0, ap₂ (λ x y. x || y) (ap₂ (λ x y. x || y) c.1 k.1) l.1)

pub together_first : (r j : Bool) (d e : Doings) → has_global_effects r j d ≡ true → has_global_effects r j (together d e) ≡ true
together_first r j d e h = not_false _ (λ k. true_false (sym h ∙ (together_plain r j d e k).0))

pub together_second : (r j : Bool) (d e : Doings) → has_global_effects r j e ≡ true → has_global_effects r j (together d e) ≡ true
together_second r j d e h = not_false _ (λ k. true_false (sym h ∙ (together_plain r j d e k).1))

jump_together : (r : Bool) (d e : Doings) → jump_acts r (together d e) ≡ false → (jump_acts r d ≡ false) × (jump_acts r e ≡ false)
jump_together r d e h =
    let b = or_false (d.acts || e.acts) _ h in
    let c = or_false d.acts e.acts b.0 in
    let k = and_false d.returns e.returns r b.1 in
    (ap₂ (λ x y. x || y) c.0 k.0, ap₂ (λ x y. x || y) c.1 k.1)

false_right : (a b : Bool) → b ≡ false → (a && b) ≡ false
false_right true b h = h
false_right false b h = refl

-- a jump out of a loop without effects has none, so its body has none
quiet_body : (r : Bool) (d : Doings) → jump_acts r d ≡ false → (j : Bool) → j ≡ false → has_global_effects r j d ≡ false
quiet_body r d h j k = ap₂ (λ x y. x || y) h (false_right d.jumps j k)

pub loop_plain : (r j : Bool) (d : Doings) → has_global_effects r j (kept_in_loop d) ≡ false → jump_acts r d ≡ false
loop_plain r j d h = (or_false (jump_acts r d) _ h).0

pub loop_effect : (r j : Bool) (d : Doings) → jump_acts r d ≡ true → has_global_effects r j (kept_in_loop d) ≡ true
loop_effect r j d h = or_left (jump_acts r d) _ h

-- an update within its loop
update_acts : (r j : Bool) (d : Doings) → d.jumps ≡ false → has_global_effects r j d ≡ true → jump_acts r d ≡ true
update_acts r j d h k = not_false _ (λ z. true_false (sym k ∙ ap₂ (λ x y. x || y) z (ap (λ x. x && j) h)))

pub update_effect : (r j : Bool) (d e : Doings) → d.jumps ≡ false → has_global_effects r j d ≡ true → jump_acts r (together d e) ≡ true
update_effect r j d e h k = not_false _ (λ z. true_false (sym (update_acts r j d h k) ∙ (jump_together r d e z).0))

-- ---- around

-- something has effects only where the loop around it has
abbrev pub Deep : Option Bool → Type 0
Deep jump = unwrap_or jump true ≡ true

abbrev pub Within : Option Bool → Bool → Type 0
Within jump b = b ≡ true → Deep jump

-- the body of a loop is within it
pub body_within : (p : ProgramView) (a : StmtContext) (update : MaybeNumbered) (body : NumberedStm) → has_effects p (in_loop p a update body) body ≡ true → loop_acts p a.method update body ≡ true
body_within p a update body h =
    not_false _ (λ z. true_false (sym h ∙
    quiet_body (return_acts p a.method) (doings p (this_of a.method) body)
    (jump_together (return_acts p a.method) (doings_of_maybe p (this_of a.method) update) (doings p (this_of a.method) body) z).1 _ z))

-- ---- work

-- a loop in which no rule is broken
abbrev pub FineLoop : ProgramView → StmtContext → Loop → Type 0
FineLoop p a (While at c update body) =
    (loop_acts p a.method update body ≡ true → is_plain_condition p a c ≡ false) × ((doings_of_maybe p (this_of a.method) update).jumps ≡ false) × FineMaybe p a update
    × Fine p (in_loop p a update body) body
FineLoop p a (Foreach at v d ps body) = Fine p (in_foreach p a v d body) body

-- work in which none is
abbrev pub OkWork : ProgramView → StmtContext → ContItem → Type 0
OkWork p a (Do x) = Fine p a x
OkWork p a (End x) = Unit {0}
OkWork p a (Before loop) = FineLoop p a loop
OkWork p a (Behind loop) = FineLoop p a loop
OkWork p a (Receive receiver held) = Unit {0}
OkWork p a (CopyAll at to from points) = Unit {0}
OkWork p a (TakeAll at grid procs) = Unit {0}

-- what is left to do breaks no rule, and what has effects stands in loops with effects alone
abbrev pub OkWorks : ProgramView → NumberedMethod → List ContItem → Type 0
OkWorks p m [] = Unit {0}
OkWorks p m (w ∷ ws) = OkWork p (around_at p m ws) w × Within (jump_at p m ws) (work_acts p m ws w) × OkWorks p m ws

-- ---- the same around

-- two lists of work say the same of what is before them
abbrev pub Agree : ProgramView → NumberedMethod → List ContItem → List ContItem → Type 0
Agree p m xs ys = (jump_at p m xs ≡ jump_at p m ys) × (turns_at xs ≡ turns_at ys) × (dims_at p (this_of m) xs ≡ dims_at p (this_of m) ys)

-- before one piece of work more
pub agree_on : (p : ProgramView) (m : NumberedMethod) (w : ContItem) (xs ys : List ContItem) → Agree p m xs ys → Agree p m (w ∷ xs) (w ∷ ys)
agree_on p m (Behind loop) xs ys e = (refl, ap (turn_before loop) e.1, ap (dims_inside p (this_of m) loop) e.2)
agree_on p m _ xs ys e = e

pub agree_before : (p : ProgramView) (m : NumberedMethod) (ws xs ys : List ContItem) → Agree p m xs ys → Agree p m (ws ++ xs) (ws ++ ys)
agree_before p m [] xs ys e = e
agree_before p m (w ∷ ws) xs ys e = agree_on p m w (ws ++ xs) (ws ++ ys) (agree_before p m ws xs ys e)

effects_agree : (p : ProgramView) (m : NumberedMethod) (x : NumberedStm) (j k : Option Bool) → j ≡ k
    → has_global_effects (return_acts p m) (unwrap_or j false) (doings p (this_of m) x) ≡ has_global_effects (return_acts p m) (unwrap_or k false) (doings p (this_of m) x)
effects_agree p m x j k e = ap (λ (o : Option Bool). has_global_effects (return_acts p m) (unwrap_or o false) (doings p (this_of m) x)) e

pub acts_agree : (p : ProgramView) (m : NumberedMethod) (xs ys : List ContItem) (w : ContItem) → jump_at p m xs ≡ jump_at p m ys → work_acts p m xs w ≡ work_acts p m ys w
acts_agree p m xs ys (Do x) e = effects_agree p m x _ _ e
acts_agree p m xs ys (End x) e = effects_agree p m x _ _ e
acts_agree p m xs ys _ e = refl

-- ---- what is kept

pub kept_on : (p : ProgramView) (m : NumberedMethod) (w : ContItem) (ws : List ContItem) → work_acts p m ws w ≡ true → kept p m (w ∷ ws) ≡ w ∷ kept p m ws
kept_on p m w ws e = if_true (work_acts p m ws w) _ _ e

pub kept_out : (p : ProgramView) (m : NumberedMethod) (w : ContItem) (ws : List ContItem) → work_acts p m ws w ≡ false → kept p m (w ∷ ws) ≡ kept p m ws
kept_out p m w ws e = if_false (work_acts p m ws w) _ _ e

-- a piece of work that is no mark
skip : (p : ProgramView) (m : NumberedMethod) (ws : List ContItem) (w : ContItem) → Agree p m (w ∷ ws) ws → Agree p m (kept p m ws) ws → Agree p m (kept p m (w ∷ ws)) (w ∷ ws)
skip p m ws w k ih = go (work_acts p m ws w) refl
  where
    go : (b : Bool) → work_acts p m ws w ≡ b → Agree p m (kept p m (w ∷ ws)) (w ∷ ws)
    go true e = subst (λ z. Agree p m z (w ∷ ws)) (sym (kept_on p m w ws e)) (agree_on p m w _ _ ih)
    go false e = subst (λ z. Agree p m z (w ∷ ws)) (sym (kept_out p m w ws e)) (ih.0 ∙ sym k.0, ih.1 ∙ sym k.1, ih.2 ∙ sym k.2)

-- the loops around work with effects are all kept
pub kept_agrees : (p : ProgramView) (m : NumberedMethod) (ws : List ContItem) → OkWorks p m ws → Deep (jump_at p m ws) → Agree p m (kept p m ws) ws
kept_agrees p m [] o d = (refl, refl, refl)
kept_agrees p m (Do x ∷ ws) o d = skip p m ws (Do x) (refl, refl, refl) (kept_agrees p m ws o.2 d)
kept_agrees p m (End x ∷ ws) o d = skip p m ws (End x) (refl, refl, refl) (kept_agrees p m ws o.2 d)
kept_agrees p m (Before loop ∷ ws) o d = skip p m ws (Before loop) (refl, refl, refl) (kept_agrees p m ws o.2 d)
kept_agrees p m (Receive receiver held ∷ ws) o d = skip p m ws (Receive receiver held) (refl, refl, refl) (kept_agrees p m ws o.2 d)
kept_agrees p m (CopyAll at to from points ∷ ws) o d = skip p m ws (CopyAll at to from points) (refl, refl, refl) (kept_agrees p m ws o.2 d)
kept_agrees p m (TakeAll at grid procs ∷ ws) o d = skip p m ws (TakeAll at grid procs) (refl, refl, refl) (kept_agrees p m ws o.2 d)
kept_agrees p m (Behind loop ∷ ws) o d =
    subst (λ z. Agree p m z (Behind loop ∷ ws)) (sym (kept_on p m (Behind loop) ws d)) (agree_on p m (Behind loop) (kept p m ws) ws (kept_agrees p m ws o.2 (o.1 d)))

pub kept_append : (p : ProgramView) (m : NumberedMethod) (ws left : List ContItem) → Agree p m (kept p m left) left → kept_before p m ws (kept p m left) ≡ kept p m (ws ++ left)
kept_append p m [] left e = refl
kept_append p m (w ∷ ws) left e =
    ap₂ (λ (b : Bool) (z : List ContItem). if b then w ∷ z else z) (acts_agree p m (ws ++ kept p m left) (ws ++ left) w (agree_before p m ws _ _ e).0) (kept_append p m ws left e)

-- none of this work has effects
abbrev pub NoneActs : ProgramView → NumberedMethod → List ContItem → List ContItem → Type 0
NoneActs p m [] left = Unit {0}
NoneActs p m (w ∷ ws) left = (work_acts p m (ws ++ left) w ≡ false) × NoneActs p m ws left

pub kept_none : (p : ProgramView) (m : NumberedMethod) (ws left : List ContItem) → NoneActs p m ws left → kept p m (ws ++ left) ≡ kept p m left
kept_none p m [] left n = refl
kept_none p m (w ∷ ws) left n = kept_out p m w (ws ++ left) n.0 ∙ kept_none p m ws left n.1

-- ---- statements before work

pub around_before : (p : ProgramView) (m : NumberedMethod) (xs : NumberedStms) (ws left : List ContItem) → around_at p m (all_before xs ws ++ left) ≡ around_at p m (ws ++ left)
around_before p m Nil ws left = refl
around_before p m (Cons x xs) ws left = around_before p m xs ws left

pub before_ok : (p : ProgramView) (m : NumberedMethod) (xs : NumberedStms) (ws left : List ContItem) → FineAll p (around_at p m (ws ++ left)) xs
    → Within (jump_at p m (ws ++ left)) (has_global_effects (return_acts p m) (unwrap_or (jump_at p m (ws ++ left)) false) (doings_of_all p (this_of m) xs))
    → OkWorks p m (ws ++ left) → OkWorks p m (all_before xs ws ++ left)
before_ok p m Nil ws left f d o = o
before_ok p m (Cons x xs) ws left f d o =
    let a = around_at p m (ws ++ left) in
    let k = both_refusals p (inside p a x) (inside_all p a xs) f in
    let e = around_before p m xs ws left in
    let both = λ (z : Bool). unwrap_or (jump_at p m (ws ++ left)) z in (
      subst (λ z. Fine p z x) (sym e) k.0,
      subst (λ (z : StmtContext). Within z.jump_has (has_effects p z x)) (sym e) (λ h. d (together_first (return_acts p m) (both false) (doings p (this_of m) x) (doings_of_all p (this_of m) xs) h)),
      before_ok p m xs ws left k.1 (λ h. d (together_second (return_acts p m) (both false) (doings p (this_of m) x) (doings_of_all p (this_of m) xs) h)) o,
    )

pub before_none : (p : ProgramView) (m : NumberedMethod) (xs : NumberedStms) (ws left : List ContItem)
    → has_global_effects (return_acts p m) (unwrap_or (jump_at p m (ws ++ left)) false) (doings_of_all p (this_of m) xs) ≡ false
    → NoneActs p m ws left → NoneActs p m (all_before xs ws) left
before_none p m Nil ws left h n = n
before_none p m (Cons x xs) ws left h n =
    let k = together_plain (return_acts p m) (unwrap_or (jump_at p m (ws ++ left)) false) (doings p (this_of m) x) (doings_of_all p (this_of m) xs) h in
    (subst (λ z. has_effects p z x ≡ false) (sym (around_before p m xs ws left)) k.0, before_none p m xs ws left k.1 n)
