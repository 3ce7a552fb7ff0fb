-- What jumps keep of variables and work.
use Rattle.std.proofs.Common.{◌≡◌, ℕ, Bool, true, false, ◌||◌, unwrap_or, Option, Some, None, List, [], ◌∷◌, refl, ap, sym, ◌∙◌}
use Rattle.ti_lang.specs.Program.Statements.{NumberedStm, MaybeNumbered, NoStm, SomeStm, NumberedStms, Nil, Cons}
use Rattle.ti_lang.specs.Program.Statements as s
use Rattle.ti_lang.specs.Program.Classes.{NumberedMethod, ProgramView}
use Rattle.ti_lang.specs.Typing.Effects.{doings, doings_of_all, doings_of_maybe, has_global_effects}
use Rattle.ti_lang.specs.Meaning.Processes.{Variable, ContItem, Do, End, Before, Behind, Receive, CopyAll, TakeAll}
use Rattle.ti_lang.specs.Meaning.Scoping.{without_variables}
use Rattle.ti_lang.specs.Meaning.Performing.{declared_alone, declared_among, declared_maybe, declared_in}
use Rattle.ti_lang.specs.Meaning.Jumps.{has_mark, from_mark, past_mark, variables_at_mark}
use Rattle.ti_align.specs.SinglePart.{singles}
use Rattle.ti_align.proofs.Alignment.Slice.{jump_at, work_acts, kept}
use Rattle.ti_align.proofs.Runs.Vars.{true_false, or_false, not_true, Plain, plain_both, without_singles, without_plain}
use Rattle.ti_align.proofs.Alignment.Fine.{together_plain, Within, OkWorks, kept_on, kept_out}

-- ---- declarations without effects

pub acting_plain : (b : Bool) → ((b || false) || false) ≡ false → b ≡ false
acting_plain true h = h
acting_plain false h = refl

pub acting_true : (b : Bool) → ((b || false) || false) ≡ true → b ≡ true
acting_true true h = refl
acting_true false h = h

plain_alone : (p : ProgramView) (t : Option ℕ) (r j : Bool) (x : NumberedStm) → has_global_effects r j (doings p t x) ≡ false → Plain (declared_alone x)
plain_alone p t r j (s.Declare at type variable value) h = ((or_false type.is_single _ (acting_plain _ h)).0, tt)
plain_alone p t r j _ h = tt

plain_among : (p : ProgramView) (t : Option ℕ) (r j : Bool) (xs : NumberedStms) → has_global_effects r j (doings_of_all p t xs) ≡ false → Plain (declared_among xs)
plain_among p t r j Nil h = tt
plain_among p t r j (Cons x xs) h =
    let e = together_plain r j (doings p t x) (doings_of_all p t xs) h in
    plain_both (declared_alone x) (declared_among xs) (plain_alone p t r j x e.0) (plain_among p t r j xs e.1)

plain_maybe : (p : ProgramView) (t : Option ℕ) (r j : Bool) (x : MaybeNumbered) → has_global_effects r j (doings_of_maybe p t x) ≡ false → Plain (declared_maybe x)
plain_maybe p t r j NoStm h = tt
plain_maybe p t r j (SomeStm x) h = plain_alone p t r j x h

-- a block or a `for` without effects declares plain variables
pub plain_in : (p : ProgramView) (t : Option ℕ) (r j : Bool) (x : NumberedStm) → has_global_effects r j (doings p t x) ≡ false → Plain (declared_in x)
plain_in p t r j (s.Block body) h = plain_among p t r j body h
plain_in p t r j (s.For at first e update body) h = plain_maybe p t r j first (together_plain r j (doings_of_maybe p t first) _ h).0
plain_in p t r j _ h = tt

-- ---- the mark

none_some : (b : Bool) → ◌≡◌ {A = Option Bool} None (Some b) → ⊥
none_some b e = cc

some_same : (a b : Bool) → ◌≡◌ {A = Option Bool} (Some a) (Some b) → a ≡ b
some_same a b e = cc

-- there is a mark where a jump can have an effect
pub marked : (p : ProgramView) (m : NumberedMethod) (ws : List ContItem) → has_mark ws ≡ true → (b : Bool) × (jump_at p m ws ≡ Some b)
marked p m [] h = absurd (true_false (sym h))
marked p m (Do x ∷ ws) h = marked p m ws h
marked p m (End x ∷ ws) h = marked p m ws h
marked p m (Before loop ∷ ws) h = marked p m ws h
marked p m (Behind loop ∷ ws) h = (_, refl)
marked p m (Receive receiver held ∷ ws) h = marked p m ws h
marked p m (CopyAll at to from points ∷ ws) h = marked p m ws h
marked p m (TakeAll at grid procs ∷ ws) h = marked p m ws h

pub unmarked : (p : ProgramView) (m : NumberedMethod) (ws : List ContItem) → has_mark ws ≡ false → jump_at p m ws ≡ None
unmarked p m [] h = refl
unmarked p m (Do x ∷ ws) h = unmarked p m ws h
unmarked p m (End x ∷ ws) h = unmarked p m ws h
unmarked p m (Before loop ∷ ws) h = unmarked p m ws h
unmarked p m (Behind loop ∷ ws) h = absurd (true_false h)
unmarked p m (Receive receiver held ∷ ws) h = unmarked p m ws h
unmarked p m (CopyAll at to from points ∷ ws) h = unmarked p m ws h
unmarked p m (TakeAll at grid procs ∷ ws) h = unmarked p m ws h

pub ok_mark : (p : ProgramView) (m : NumberedMethod) (ws : List ContItem) → OkWorks p m ws → OkWorks p m (from_mark ws)
ok_mark p m [] o = tt
ok_mark p m (Do x ∷ ws) o = ok_mark p m ws o.2
ok_mark p m (End x ∷ ws) o = ok_mark p m ws o.2
ok_mark p m (Before loop ∷ ws) o = ok_mark p m ws o.2
ok_mark p m (Behind loop ∷ ws) o = o
ok_mark p m (Receive receiver held ∷ ws) o = ok_mark p m ws o.2
ok_mark p m (CopyAll at to from points ∷ ws) o = ok_mark p m ws o.2
ok_mark p m (TakeAll at grid procs ∷ ws) o = ok_mark p m ws o.2

pub ok_past : (p : ProgramView) (m : NumberedMethod) (ws : List ContItem) → OkWorks p m ws → OkWorks p m (past_mark ws)
ok_past p m [] o = tt
ok_past p m (Do x ∷ ws) o = ok_past p m ws o.2
ok_past p m (End x ∷ ws) o = ok_past p m ws o.2
ok_past p m (Before loop ∷ ws) o = ok_past p m ws o.2
ok_past p m (Receive receiver held ∷ ws) o = ok_past p m ws o.2
ok_past p m (CopyAll at to from points ∷ ws) o = ok_past p m ws o.2
ok_past p m (TakeAll at grid procs ∷ ws) o = ok_past p m ws o.2
ok_past p m (Behind loop ∷ ws) o = o.2

-- ---- a jump without effects

not_within : (b : Bool) (o : Option Bool) → (b ≡ true → unwrap_or o true ≡ true) → o ≡ Some false → b ≡ false
not_within b o f e = not_true b (λ h. true_false (sym (f h) ∙ ap (λ x. unwrap_or x true) e))

module _ (p : ProgramView) (m : NumberedMethod) where
  out : (w : ContItem) (ws : List ContItem) → Within (jump_at p m ws) (work_acts p m ws w) → jump_at p m ws ≡ Some false → kept p m (w ∷ ws) ≡ kept p m ws
  out w ws f e = kept_out p m w ws (not_within (work_acts p m ws w) (jump_at p m ws) f e)

  pub plain_continue : (ws : List ContItem) → OkWorks p m ws → jump_at p m ws ≡ Some false → kept p m (from_mark ws) ≡ kept p m ws
  plain_continue [] o e = absurd (none_some false e)
  plain_continue (Do x ∷ ws) o e = plain_continue ws o.2 e ∙ sym (out (Do x) ws o.1 e)
  plain_continue (End x ∷ ws) o e = plain_continue ws o.2 e ∙ sym (out (End x) ws o.1 e)
  plain_continue (Before loop ∷ ws) o e = plain_continue ws o.2 e ∙ sym (out (Before loop) ws o.1 e)
  plain_continue (Behind loop ∷ ws) o e = refl
  plain_continue (Receive receiver held ∷ ws) o e = plain_continue ws o.2 e ∙ sym (out (Receive receiver held) ws o.1 e)
  plain_continue (CopyAll at to from points ∷ ws) o e = plain_continue ws o.2 e ∙ sym (out (CopyAll at to from points) ws o.1 e)
  plain_continue (TakeAll at grid procs ∷ ws) o e = plain_continue ws o.2 e ∙ sym (out (TakeAll at grid procs) ws o.1 e)

  pub plain_break : (ws : List ContItem) → OkWorks p m ws → jump_at p m ws ≡ Some false → kept p m (past_mark ws) ≡ kept p m ws
  plain_break [] o e = absurd (none_some false e)
  plain_break (Do x ∷ ws) o e = plain_break ws o.2 e ∙ sym (out (Do x) ws o.1 e)
  plain_break (End x ∷ ws) o e = plain_break ws o.2 e ∙ sym (out (End x) ws o.1 e)
  plain_break (Before loop ∷ ws) o e = plain_break ws o.2 e ∙ sym (out (Before loop) ws o.1 e)
  plain_break (Behind loop ∷ ws) o e = sym (kept_out p m (Behind loop) ws (some_same _ false e))
  plain_break (Receive receiver held ∷ ws) o e = plain_break ws o.2 e ∙ sym (out (Receive receiver held) ws o.1 e)
  plain_break (CopyAll at to from points ∷ ws) o e = plain_break ws o.2 e ∙ sym (out (CopyAll at to from points) ws o.1 e)
  plain_break (TakeAll at grid procs ∷ ws) o e = plain_break ws o.2 e ∙ sym (out (TakeAll at grid procs) ws o.1 e)

  pub plain_leaves : (ws : List ContItem) (vs : List Variable) → OkWorks p m ws → jump_at p m ws ≡ Some false → singles (variables_at_mark ws vs) ≡ singles vs
  plain_leaves [] vs o e = refl
  plain_leaves (Do x ∷ ws) vs o e = plain_leaves ws vs o.2 e
  plain_leaves (End x ∷ ws) vs o e =
      plain_leaves ws (without_variables (declared_in x) vs) o.2 e ∙ without_singles (declared_in x) vs
      ∙ without_plain (declared_in x) vs (plain_in p _ _ _ x (not_within _ (jump_at p m ws) o.1 e))
  plain_leaves (Before loop ∷ ws) vs o e = plain_leaves ws vs o.2 e
  plain_leaves (Behind loop ∷ ws) vs o e = refl
  plain_leaves (Receive receiver held ∷ ws) vs o e = plain_leaves ws vs o.2 e
  plain_leaves (CopyAll at to from points ∷ ws) vs o e = plain_leaves ws vs o.2 e
  plain_leaves (TakeAll at grid procs ∷ ws) vs o e = plain_leaves ws vs o.2 e

  -- ---- a jump with effects

  pub through : {A : Type 0} → (g : List ContItem → A) (z : A) (w : ContItem) (ws : List ContItem) → (g (w ∷ kept p m ws) ≡ g (kept p m ws)) → g (kept p m ws) ≡ z → g (kept p m (w ∷ ws)) ≡ z
  through g z w ws k ih = go (work_acts p m ws w) refl
    where
      go : (b : Bool) → work_acts p m ws w ≡ b → g (kept p m (w ∷ ws)) ≡ z
      go true e = ap g (kept_on p m w ws e) ∙ k ∙ ih
      go false e = ap g (kept_out p m w ws e) ∙ ih

  pub single_continue : (ws : List ContItem) → jump_at p m ws ≡ Some true → from_mark (kept p m ws) ≡ kept p m (from_mark ws)
  single_continue [] e = refl
  single_continue (Do x ∷ ws) e = through from_mark (kept p m (from_mark ws)) (Do x) ws refl (single_continue ws e)
  single_continue (End x ∷ ws) e = through from_mark (kept p m (from_mark ws)) (End x) ws refl (single_continue ws e)
  single_continue (Before loop ∷ ws) e = through from_mark (kept p m (from_mark ws)) (Before loop) ws refl (single_continue ws e)
  single_continue (Behind loop ∷ ws) e =
      let k = kept_on p m (Behind loop) ws (some_same _ true e) in
      ap from_mark k ∙ sym k
  single_continue (Receive receiver held ∷ ws) e = through from_mark (kept p m (from_mark ws)) (Receive receiver held) ws refl (single_continue ws e)
  single_continue (CopyAll at to from points ∷ ws) e = through from_mark (kept p m (from_mark ws)) (CopyAll at to from points) ws refl (single_continue ws e)
  single_continue (TakeAll at grid procs ∷ ws) e = through from_mark (kept p m (from_mark ws)) (TakeAll at grid procs) ws refl (single_continue ws e)

  pub single_break : (ws : List ContItem) → jump_at p m ws ≡ Some true → past_mark (kept p m ws) ≡ kept p m (past_mark ws)
  single_break [] e = refl
  single_break (Do x ∷ ws) e = through (λ z. past_mark z) (kept p m (past_mark ws)) (Do x) ws refl (single_break ws e)
  single_break (End x ∷ ws) e = through (λ z. past_mark z) (kept p m (past_mark ws)) (End x) ws refl (single_break ws e)
  single_break (Before loop ∷ ws) e = through (λ z. past_mark z) (kept p m (past_mark ws)) (Before loop) ws refl (single_break ws e)
  single_break (Behind loop ∷ ws) e = ap (λ z. past_mark z) (kept_on p m (Behind loop) ws (some_same _ true e))
  single_break (Receive receiver held ∷ ws) e = through (λ z. past_mark z) (kept p m (past_mark ws)) (Receive receiver held) ws refl (single_break ws e)
  single_break (CopyAll at to from points ∷ ws) e = through (λ z. past_mark z) (kept p m (past_mark ws)) (CopyAll at to from points) ws refl (single_break ws e)
  single_break (TakeAll at grid procs ∷ ws) e = through (λ z. past_mark z) (kept p m (past_mark ws)) (TakeAll at grid procs) ws refl (single_break ws e)

  pub single_leaves : (ws : List ContItem) (vs : List Variable) → jump_at p m ws ≡ Some true → variables_at_mark (kept p m ws) (singles vs) ≡ singles (variables_at_mark ws vs)
  single_leaves [] vs e = refl
  single_leaves (Do x ∷ ws) vs e = through (λ z. variables_at_mark z (singles vs)) (singles (variables_at_mark ws vs)) (Do x) ws refl (single_leaves ws vs e)
  single_leaves (End x ∷ ws) vs e = go (work_acts p m ws (End x)) refl (single_leaves ws (without_variables (declared_in x) vs) e)
    where
      go : (b : Bool) → work_acts p m ws (End x) ≡ b → variables_at_mark (kept p m ws) (singles (without_variables (declared_in x) vs))
          ≡ singles (variables_at_mark ws (without_variables (declared_in x) vs)) → variables_at_mark (kept p m (End x ∷ ws)) (singles vs)
          ≡ singles (variables_at_mark ws (without_variables (declared_in x) vs))
      go true k ih = ap (λ z. variables_at_mark z (singles vs)) (kept_on p m (End x) ws k) ∙ ap (variables_at_mark (kept p m ws)) (sym (without_singles (declared_in x) vs)) ∙ ih
      go false k ih =
          ap (λ z. variables_at_mark z (singles vs)) (kept_out p m (End x) ws k)
          ∙ ap (variables_at_mark (kept p m ws)) (sym (without_singles (declared_in x) vs ∙ without_plain (declared_in x) vs (plain_in p _ _ _ x k))) ∙ ih
  single_leaves (Before loop ∷ ws) vs e = through (λ z. variables_at_mark z (singles vs)) (singles (variables_at_mark ws vs)) (Before loop) ws refl (single_leaves ws vs e)
  single_leaves (Behind loop ∷ ws) vs e = ap (λ z. variables_at_mark z (singles vs)) (kept_on p m (Behind loop) ws (some_same _ true e))
  single_leaves (Receive receiver held ∷ ws) vs e = through (λ z. variables_at_mark z (singles vs)) (singles (variables_at_mark ws vs)) (Receive receiver held) ws refl (single_leaves ws vs e)
  single_leaves (CopyAll at to from points ∷ ws) vs e = through (λ z. variables_at_mark z (singles vs)) (singles (variables_at_mark ws vs)) (CopyAll at to from points) ws refl (single_leaves ws vs e)
  single_leaves (TakeAll at grid procs ∷ ws) vs e = through (λ z. variables_at_mark z (singles vs)) (singles (variables_at_mark ws vs)) (TakeAll at grid procs) ws refl (single_leaves ws vs e)
