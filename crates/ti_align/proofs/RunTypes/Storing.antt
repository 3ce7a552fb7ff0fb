-- What a receiver takes: variables and cells keep to their types.
use Rattle.std.proofs.Common.{◌≡◌, ◌⊎◌, ℕ, ℤ, ◌+◌, length, Bool, true, false, not, ◌&&◌, ◌||◌, ◌==◌, inl, inr, if◌then◌else◌, unwrap_or, option_and_then, Option, Some, List, [], ◌∷◌, refl, ap, sym, ◌∙◌, subst, arith, eqb-true}
use Rattle.std.specs.List.{list_any}
use Rattle.std.specs.Option.{option_map_or}
use Rattle.ti_base.specs.declared.place.Place.{Place}
use Rattle.ti_base.specs.declared.point.Point.{Point}
use Rattle.ti_base.specs.declared.value.Id.{Id}
use Rattle.ti_base.specs.declared.action.Action.TheVariants as act
use Rattle.ti_base.specs.declared.value.Value.{Value}
use Rattle.ti_lang.specs.Program.Types.{ValueType, Declaration, VariableUse}
use Rattle.ti_lang.specs.Program.Types as t
use Rattle.ti_lang.specs.Program.Expressions.{NumberedExp, place_of_numbered}
use Rattle.ti_lang.specs.Program.Expressions as e
use Rattle.ti_lang.specs.Program.Classes.{ProgramView}
use Rattle.ti_lang.specs.Program.Scope.{ScopeContents, this_of}
use Rattle.ti_lang.specs.Typing.Kinds.{is_local, as_global, read_through, class_of_type}
use Rattle.ti_lang.specs.Typing.Fits.{fits}
use Rattle.ti_lang.specs.Typing.TextTypes.{static_element_type}
use Rattle.ti_lang.specs.Typing.Declared.{variable_type, field_type, field_numbered, named_field_type}
use Rattle.ti_lang.specs.Typing.Expressions.{plain, operand, all_ints, index_type, select_type, operands, operand_type}
use Rattle.ti_lang.specs.Meaning.Held.{Held, Plain, referent_of, plain_of}
use Rattle.ti_lang.specs.Meaning.Comp.{ToBeDone, ValueOf, request_through, Comp, gives, asked, needed}
use Rattle.ti_lang.specs.Meaning.Literals.{point_of_numbers}
use Rattle.ti_lang.specs.Meaning.Conversions.{converted}
use Rattle.ti_lang.specs.Meaning.Operators.{apply_binary}
use Rattle.ti_lang.specs.Meaning.CellRefs.{Field, Element}
use Rattle.ti_lang.specs.Meaning.Processes.{Variable, Receiver, Nowhere, Declared, Assigned, Updated}
use Rattle.ti_lang.specs.Meaning.Scoping.{Env, same_declaration, same_variable, declared_type, zero_declared, find_variable, with_changed, without_variables, type_of, field_selected}
use Rattle.ti_lang.specs.Meaning.Evaluation.{is_own, eval, eval_numbers}
use Rattle.ti_lang.specs.Meaning.Targets.{Target, InVariable, InPart, located, held_in, stored, into}
use Rattle.ti_rules.specs.Broken.Targets.{is_foreach_use, maybe_local, hidden_field, hidden_element}
use Rattle.ti_rules.specs.Broken.Statements.{narrows}
use Rattle.ti_lang.specs.Meaning.Answers.{IsPointOf, HasForm}
use Rattle.ti_align.specs.HeapTyping.{HeapTyping, with_owner, Grows, NamesNothing, IsStorable, IsGridOf, IsOwn, IsOf, IsThingOf, DimsFine, HoldsOf, VariablesFit}
use Rattle.ti_align.specs.Existing.{SameForm, IsFieldOf}
use Rattle.ti_align.specs.Mirrors.Sound.{Sound}
use Rattle.ti_align.specs.Mirrors.Fitting.{EnvFits}
use Rattle.ti_align.specs.Heap.{FieldsFit, FieldsStorable}
use Rattle.ti_align.specs.Mirrors.ContItem.{uses_of, DeclaredFits, IsTarget, ReceiverFits}
use Rattle.ti_align.proofs.Runs.Vars.{true_false, and_left, and_right}
use Rattle.ti_align.proofs.RunTypes.Computing.{grows_not, grows_then, own_stays, grid_stays, of_stays, thing_stays, seen_from, own_of, goes_through, sound_then, sound_value, sound_asked, Names, names_thing, needed_as}
use Rattle.ti_align.proofs.RunTypes.Operating.{none_some, some_same, where_some, or_either, type_same, Seen, seen_same, converted_fine, cast_fine, operated_fine}
use Rattle.ti_align.proofs.RunTypes.Evaluating.{and_then, mapped, both_there, no_call, named_field, this_global, object_of, grid_in, ints_count, counts, Evaluates, env_stays, Numbers, zero_fine, seen_form, select_seen, own_seen, eval_fine, numbers_fine}
use Rattle.ti_align.proofs.RunTypes.Forms.{numbers_point}

-- ---- types of parts

-- a part that isn't hidden is of local type only where it's reached through a local reference, and is read as what it is
reached : (b l : Bool) → (b && not l) ≡ false → b ≡ true → l ≡ true
reached b true h z = refl
reached true false h z = absurd (true_false h)
reached false false h z = absurd (true_false (sym z))

none_local : (l : Bool) → (l && true) ≡ false → false ≡ l
none_local true h = absurd (true_false h)
none_local false h = refl

read_whole : (l : Bool) (a : ValueType) → (is_local a && not l) ≡ false → read_through l a ≡ a
read_whole true a h = refl
read_whole false (t.Class c l) h = ap (t.Class c) (none_local l h)
read_whole false (t.Grid e n l) h = ap (t.Grid e n) (none_local l h)
read_whole false t.Int h = refl
read_whole false t.Long h = refl
read_whole false t.Boolean h = refl
read_whole false (t.Pt n) h = refl
read_whole false (t.Rc n) h = refl
read_whole false (t.Dm n) h = refl
read_whole false t.Region h = refl
read_whole false t.Null h = refl
read_whole false t.Void h = refl

-- what goes into a cell
pub plain_is : (w : HeapTyping) (a : ValueType) (h : Held) → IsStorable a → IsOf w a h → IsOf w a (Plain (plain_of h))
plain_is w t.Int h s k = (k.0, ap (λ y. Plain (plain_of y)) k.1, k.2)
plain_is w t.Long h s k = (k.0, ap (λ y. Plain (plain_of y)) k.1, k.2)
plain_is w t.Boolean h s k = (k.0, ap (λ y. Plain (plain_of y)) k.1)
plain_is w (t.Pt n) h s k = (k.0, ap (λ y. Plain (plain_of y)) k.1, k.2)
plain_is w (t.Rc n) h s k = (k.0, ap (λ y. Plain (plain_of y)) k.1, k.2)
plain_is w (t.Class c l) h s k = (k.0, ap (λ y. Plain (plain_of y)) k.1, k.2, k.3)
plain_is w (t.Grid e n l) h s k = (k.0, ap (λ y. Plain (plain_of y)) k.1, k.2, k.3)
plain_is w (t.Dm n) h s k = absurd s
plain_is w t.Region h s k = absurd s
plain_is w t.Null h s k = absurd s
plain_is w t.Void h s k = absurd s

-- a value of a type that names nothing has the form of the type
pub has_form : (w : HeapTyping) (type : ValueType) (value : Value) → NamesNothing type → IsOf w type (Plain value) → HasForm type value
has_form w t.Int value n k = subst (HasForm t.Int) (sym (ap plain_of k.1)) k.2
has_form w t.Long value n k = subst (HasForm t.Long) (sym (ap plain_of k.1)) k.2
has_form w t.Boolean value n k = subst (HasForm t.Boolean) (sym (ap plain_of k.1)) tt
has_form w (t.Pt m) value n k = subst (HasForm (t.Pt m)) (sym (ap plain_of k.1)) k.2
has_form w (t.Rc m) value n k = subst (HasForm (t.Rc m)) (sym (ap plain_of k.1)) k.2
has_form w _ value n k = absurd n

-- ---- variables

-- what a variable holds is of its type, and so is what it may hold
pub held_of : (w : HeapTyping) (d : Declaration) (h : Held) → HoldsOf w d h → IsOf w (declared_type d) h
held_of w (t.Typed l a) h k = k
held_of w t.Foreach h k = absurd k

held_instead : (w : HeapTyping) (d : Declaration) (old h : Held) → HoldsOf w d old → IsOf w (declared_type d) h → HoldsOf w d h
held_instead w (t.Typed l a) old h k i = i
held_instead w t.Foreach old h k i = absurd k

held_stays : (u w : HeapTyping) (d : Declaration) (h : Held) → Grows u w → HoldsOf u d h → HoldsOf w d h
held_stays u w (t.Typed l a) h g k = of_stays u w a h g k
held_stays u w t.Foreach h g k = absurd k

pub variables_stay : (u w : HeapTyping) (xs : List Variable) → Grows u w → VariablesFit u xs → VariablesFit w xs
variables_stay u w [] g f = tt
variables_stay u w (x ∷ xs) g f = (held_stays u w x.named.declared x.held g f.0, variables_stay u w xs g f.1)

same_declared : (d c : Declaration) → same_declaration d c ≡ true → declared_type d ≡ declared_type c
same_declared (t.Typed l a) (t.Typed m b) h = type_same a b (and_right _ _ h)
same_declared t.Foreach t.Foreach h = refl
same_declared (t.Typed l a) t.Foreach h = absurd (true_false (sym h))
same_declared t.Foreach (t.Typed l a) h = absurd (true_false (sym h))

pub found_fits : (w : HeapTyping) (x : VariableUse) (xs : List Variable) → DimsFine (declared_type x.declared) → VariablesFit w xs → IsOf w (declared_type x.declared) (find_variable x xs)
found_fits w x [] d f = by x.declared d
  where
    by : (d : Declaration) → DimsFine (declared_type d) → IsOf w (declared_type d) (zero_declared d)
    by (t.Typed l a) d = zero_fine w a d
    by t.Foreach d = tt
found_fits w x (y ∷ ys) d f = by (same_variable x y.named) refl (found_fits w x ys d f.1)
  where
    by : (b : Bool) → same_variable x y.named ≡ b → IsOf w (declared_type x.declared) (find_variable x ys) → IsOf w (declared_type x.declared) (if b then y.held else find_variable x ys)
    by true z k = subst (λ a. IsOf w a y.held) (sym (same_declared x.declared y.named.declared (and_right (x.number == y.named.number) _ z))) (held_of w y.named.declared y.held f.0)
    by false z k = k

changed_fits : (w : HeapTyping) (x : VariableUse) (h : Held) (xs : List Variable) → IsOf w (declared_type x.declared) h → VariablesFit w xs → VariablesFit w (with_changed x h xs)
changed_fits w x h [] k f = tt
changed_fits w x h (y ∷ ys) k f = by (same_variable x y.named) refl (changed_fits w x h ys k f.1)
  where
    by : (b : Bool) → same_variable x y.named ≡ b → VariablesFit w (with_changed x h ys) → VariablesFit w (if b then record y { held = h } ∷ ys else y ∷ with_changed x h ys)
    by true z i = (held_instead w y.named.declared y.held h f.0 (subst (λ a. IsOf w a h) (same_declared x.declared y.named.declared (and_right (x.number == y.named.number) _ z)) k), f.1)
    by false z i = (f.0, i)

pub without_fits : (w : HeapTyping) (xs : List VariableUse) (ys : List Variable) → VariablesFit w ys → VariablesFit w (without_variables xs ys)
without_fits w xs [] f = tt
without_fits w xs (y ∷ ys) f = by (not (list_any (λ x. same_variable x y.named) xs)) (without_fits w xs ys f.1)
  where
    by : (b : Bool) → VariablesFit w (without_variables xs ys) → VariablesFit w (if b then y ∷ without_variables xs ys else without_variables xs ys)
    by true i = (f.0, i)
    by false i = i

-- ---- targets

-- A field or an element of the thing, which is of the last type, takes values of the second type, and has the first one in the text; where
-- these are local references the thing is the own one of the process.
abbrev FieldTakes : ProgramView → ValueType → ValueType → ℕ → ValueType → HeapTyping → Id → Type 0
FieldTakes p a u field through w id = IsFieldOf p w id field u × IsOwn w (is_local u) (Some id) × SameForm a u × IsThingOf w through id

abbrev ElementTakes : ValueType → ValueType → Point → ValueType → HeapTyping → Id → Type 0
ElementTakes a u index through w id = (n : ℕ) × IsGridOf w u n id × IsPointOf n index × IsOwn w (is_local u) (Some id) × SameForm a u × IsThingOf w through id

-- a target takes values of the second type
abbrev TargetFits : ProgramView → HeapTyping → ValueType → ValueType → Target → Type 0
TargetFits p w a u (InVariable x) = u ≡ declared_type x.declared
TargetFits p w a u (InPart (Field object through field)) = ((id : Id) → referent_of object ≡ Some id → FieldTakes p a u field through w id) × IsOwn w (is_local through) (referent_of object)
TargetFits p w a u (InPart (Element grid through index)) = ((id : Id) → referent_of grid ≡ Some id → ElementTakes a u index through w id) × IsOwn w (is_local through) (referent_of grid)

target_stays : (p : ProgramView) (u w : HeapTyping) (a type : ValueType) (x : Target) → Grows u w → TargetFits p u a type x → TargetFits p w a type x
target_stays p u w a type (InVariable x) g f = f
target_stays p u w a type (InPart (Field object through field)) g f = (
  (λ id z. let k = f.0 id z in (
    (k.0.0, g.classes id k.0.0 k.0.1, k.0.2),
    own_stays u w (is_local type) (Some id) g k.1,
    k.2,
    thing_stays u w through id g k.3,
  )),
  own_stays u w (is_local through) (referent_of object) g f.1,
)
target_stays p u w a type (InPart (Element grid through index)) g f = (
  (λ id z. let k = f.0 id z in (
    k.0,
    grid_stays u w type k.0 id g k.1,
    k.2,
    own_stays u w (is_local type) (Some id) g k.3,
    k.4,
    thing_stays u w through id g k.5,
  )),
  own_stays u w (is_local through) (referent_of grid) g f.1,
)

plainly : (o : Option ValueType) (u : ValueType) → operand (plain o) ≡ Some u → o ≡ Some u
plainly o u h = (no_call (plain o) u h).1

module _ (s : ScopeContents) (w : HeapTyping) (env : Env) (f : EnvFits (uses_of env.method) s w env) (g : FieldsFit env.program) where
  abbrev p : ProgramView
  p = env.program

  variable_target : (at : Place) (x : VariableUse) (u : ValueType) → IsTarget p env.method s (e.Variable at x) u → u ≡ declared_type x.declared
  variable_target at x u k = by x.declared (plainly (variable_type s x) u k.0.1) k.1
    where
      by : (d : Declaration) → variable_type s (record { number = x.number; declared = d }) ≡ Some u → is_foreach_use d ≡ false → u ≡ declared_type d
      by (t.Typed l a) z i = sym (some_same a u z)
      by t.Foreach z i = absurd (true_false i)

  index_dims : (a u : ValueType) (ts : List ValueType) (h : Held) (zs : List ℤ) (through : ValueType) (x : HeapTyping) → index_type a ts
      ≡ Some u → hidden_element (Some a) ≡ false → Seen a through → DimsFine a → IsOf x a h → Numbers (counts ts) zs
      → TargetFits p x (static_element_type through) u (InPart (Element h through (point_of_numbers zs)))
  index_dims (t.Pt n) u ts h zs through x z o e d k c = ((λ id q. absurd (none_some id (sym (ap referent_of k.1) ∙ q))), λ i. ap (λ o. is_own x.owner (referent_of o)) k.1)
  index_dims (t.Grid a n l) u ts h zs through x z o e d k c =
      let q = by ts z c in
      let own = own_of x (t.Grid a n l) h k in
      subst (λ b. TargetFits p x (static_element_type through) b (InPart (Element h through (point_of_numbers zs)))) (sym (read_whole l a o) ∙ q.0) (
        (λ id i. (
          n,
          grid_in x a n l h k id i,
          q.1,
          (λ j. subst (λ o. is_own x.owner o ≡ true) i (own (reached (is_local a) l o j))),
          seen_form (static_element_type through) a l (ap static_element_type e),
          subst (λ b. IsThingOf x b id) (sym e) (grid_in x a n l h k id i),
        )),
        λ i. own (sym (ap is_local e) ∙ i),
      )
    where
      by : (ts : List ValueType) → index_type (t.Grid a n l) ts ≡ Some u → Numbers (counts ts) zs → (read_through l a ≡ u) × IsPointOf n (point_of_numbers zs)
      by (t.Pt m ∷ []) z c =
          let q = where_some (n == m) (read_through l a) u z in
          (q.1, numbers_point zs n (c.0 ∙ plus_zero m ∙ sym (eqb-true n m q.0)) d.0 c.1)
        where
          plus_zero : (m : ℕ) → m + 0 ≡ m
          plus_zero m = omega arith
      by ts z c =
          let q = where_some (all_ints ts && (length ts == n)) (read_through l a) u z in
          (q.1, numbers_point zs n (c.0 ∙ ints_count ts (and_left (all_ints ts) (length ts == n) q.0) ∙ eqb-true (length ts) n (and_right (all_ints ts) (length ts == n) q.0)) d.0 c.1)
  index_dims _ u ts h zs through x z o e d k c = absurd (none_some u z)

  located_fine : (target : NumberedExp) (u : ValueType) → IsTarget p env.method s target u → Sound p (λ x y. TargetFits p x (type_of env target) u y) w (located env target)
  located_fine (e.Variable at x) u k = sound_value p _ w _ (variable_target at x u k)
  located_fine (e.OwnField at field) u k =
      let q = mapped as_global (option_and_then (λ c. field_type p c field) s.this_class) u (plainly _ u k.0.1) in
      let c = and_then (λ c. field_type p c field) s.this_class q.0 q.1 in
      let global : is_local q.0 ≡ false = sym (ap maybe_local q.1) ∙ k.2 in
      subst (λ b. Sound p (λ x y. TargetFits p x (type_of env (e.OwnField at field)) b y) w (located env (e.OwnField at field))) (sym (read_whole false q.0 (ap (λ b. b && true) global)) ∙ q.2)
      (sound_value p _ w _ (
        (λ id z. (
          (c.0, f.this c.0 c.1 id z, c.2),
          (λ i. absurd (true_false (sym i ∙ global))),
          seen_form _ q.0 false (own_seen env at field c.0 q.0 (sym f.this_class ∙ c.1) c.2),
          subst (λ b. IsThingOf w b id) (sym (ap (λ o. option_map_or (λ class. t.Class class false) o t.Void) (sym f.this_class
              ∙ c.1))) (f.this c.0 c.1 id z),
        )),
        λ i. absurd (true_false (sym i ∙ this_global (this_of env.method))),
      ))
  located_fine (e.Select at a name) u k =
      let q = and_then (λ x. select_type p x name) (operand_type p s a) u (plainly _ u k.0.1) in
      select q.0 q.2 (sym (ap (λ o. hidden_field p o name) q.1) ∙ k.2) (eval_fine (uses_of env.method) s w env f g a k.0.0 q.0 q.1)
    where
      select : (type : ValueType) → select_type p type name ≡ Some u → hidden_field p (Some type) name ≡ false → Evaluates w env a type
          → Sound p (λ x y. TargetFits p x (type_of env (e.Select at a name)) u y) w (located env (e.Select at a name))
      select (t.Class c l) z o k =
          let q = mapped (read_through l) (named_field_type p c name) u z in
          let i = named_field p c name q.0 q.1 in
          let number : field_selected env a name ≡ i.0 = ap (λ u. unwrap_or (option_and_then (field_numbered p name) (class_of_type u)) 0) k.seen ∙ ap (λ o. unwrap_or o 0) i.1 in
          let shown : (is_local q.0 && not l) ≡ false = sym (ap (λ o. maybe_local o && not l) q.1) ∙ o in
          sound_then p (λ x h. IsOf x (t.Class c l) h) _ w (eval env a) _ k.sound (λ x j h y.
          let own = own_of x (t.Class c l) h y in
          subst (λ m. Sound p (λ x y. TargetFits p x (type_of env (e.Select at a name)) u y) x (gives (InPart (Field h (type_of env a) m)))) (sym number)
          (sound_value p _ x _ (subst (λ b. TargetFits p x (type_of env (e.Select at a name)) b (InPart (Field h (type_of env a) i.0))) (sym (read_whole l q.0 shown) ∙ q.2) (
            (λ id r. (
              (c, object_of x c l h y id r, i.2),
              (λ j. subst (λ o. is_own x.owner o ≡ true) r
                  (own (reached (is_local q.0) l shown j))),
              seen_form _ q.0 l (select_seen p env a name c l q.0 k.seen q.1),
              subst (λ b. IsThingOf x b id) (sym k.seen) (object_of x c l h y id r),
            )),
            λ j. own (sym (ap is_local k.seen) ∙ j),
          ))))
      select _ z o k = absurd (none_some u z)
  located_fine (e.Index at a parts) u k =
      let q = both_there index_type (operand_type p s a) (operands p s parts) u (plainly _ u k.0.1) in
      let r = eval_fine (uses_of env.method) s w env f g a k.0.0.0 q.0 q.2 in
      sound_then p (λ x h. IsOf x q.0 h) _ w (eval env a) _ r.sound (λ x j h y.
      sound_then p (λ z zs. Numbers (counts q.1) zs) _ x (eval_numbers env parts) _
      (numbers_fine (uses_of env.method) s x env (env_stays (uses_of env.method) s w x env j f) g parts k.0.0.1 q.1 q.3) (λ z l zs c.
      sound_value p _ z _ (index_dims q.0 u q.1 h zs (type_of env a) z q.4 (sym (ap hidden_element q.2) ∙ k.2) r.seen r.dims (of_stays x z q.0 h l y) c)))
  located_fine _ u k = sound_value p _ w _ ((λ id z. absurd (none_some id z)), λ z. absurd (true_false (sym z)))

  -- what a target holds
  held_fine : (at : Place) (u type : ValueType) (x : Target) → DimsFine u → TargetFits p w type u x → VariablesFit w env.variables → Sound p (λ y h. IsOf y u h) w (held_in env at type x)
  held_fine at u type (InVariable x) d k v = sound_value p _ w _ (subst (λ a. IsOf w a (find_variable x env.variables)) (sym k) (found_fits w x env.variables (subst DimsFine k d) v))
  held_fine at u type (InPart (Field object through field)) d k v =
      sound_then p (λ x r. Names (FieldTakes p type u field through) through x r) _ w (needed at through object) _
      (needed_as p w at through object (FieldTakes p type u field through) k.0 k.1) (λ x j r z.
      sound_asked p _ x (request_through r at (act.GetField r.thing field) (ValueOf type)) (
        (u, z.thing.0),
        goes_through x r (act.GetField r.thing field) refl (names_thing _ through through x r refl z z.thing.3),
        (u, type, z.thing.0, refl, z.thing.2),
      ) (λ y l answer q.
      seen_from (with_owner r.thing.owner y) y.owner u _ (λ i. eqb-true r.thing.owner x.owner (z.thing.1 i) ∙ l.owner) (q u (z.thing.0.0, l.classes r.thing z.thing.0.0 z.thing.0.1, z.thing.0.2))))
  held_fine at u type (InPart (Element grid through index)) d k v =
      sound_then p (λ x r. Names (ElementTakes type u index through) through x r) _ w (needed at through grid) _ (needed_as p w at through grid (ElementTakes type u index through) k.0 k.1) (λ x j r z.
      sound_asked p _ x (request_through r at (act.GetElem r.thing index) (ValueOf type)) (
        (u, z.thing.0, z.thing.1, z.thing.2),
        goes_through x r (act.GetElem r.thing index) refl (names_thing _ through through x r refl z z.thing.5),
        (u, type, z.thing.0, z.thing.1, refl, z.thing.4),
      ) (λ y l answer q.
      seen_from (with_owner r.thing.owner y) y.owner u _ (λ i. eqb-true r.thing.owner x.owner (z.thing.3 i) ∙ l.owner) (q u z.thing.0 (grid_stays x y u z.thing.0 r.thing l z.thing.1))))

  -- what a target takes
  stored_fine : FieldsStorable p → (at : Place) (type u : ValueType) (x : Target) (h : Held) → TargetFits p w type u x
      → VariablesFit w env.variables → IsOf w u h → Sound p (λ y vs. VariablesFit y vs) w (stored env at x h)
  stored_fine d at type u (InVariable x) h k v i = sound_value p _ w _ (changed_fits w x h env.variables (subst (λ a. IsOf w a h) k i) v)
  stored_fine d at type u (InPart (Field object through field)) h k v i =
      sound_then p (λ x r. Names (FieldTakes p type u field through) through x r) _ w (needed at through object) _
      (needed_as p w at through object (FieldTakes p type u field through) k.0 k.1) (λ x j r z.
      let held = plain_is x u h (d z.thing.0.0 field u z.thing.0.2) (of_stays w x u h j i) in
      sound_then p (λ y o. Unit {0}) _ x (asked (request_through r at (act.PutField r.thing field (plain_of h)) ToBeDone)) _
      (sound_asked p _ x (request_through r at (act.PutField r.thing field (plain_of h)) ToBeDone) (
        (u, z.thing.0, seen_from x r.thing.owner u _ (λ i. sym (eqb-true r.thing.owner x.owner (z.thing.1 i))) held),
        goes_through x r (act.PutField r.thing field (plain_of h)) refl (names_thing _ through through x r refl z z.thing.3),
        refl,
      )
      (λ y l answer q. tt)) (λ y l o q.
      sound_value p _ y _ (variables_stay x y env.variables l (variables_stay w x env.variables j v))))
  stored_fine d at type u (InPart (Element grid through index)) h k v i =
      sound_then p (λ x r. Names (ElementTakes type u index through) through x r) _ w (needed at through grid) _ (needed_as p w at through grid (ElementTakes type u index through) k.0 k.1) (λ x j r z.
      let held = plain_is x u h z.thing.1.4 (of_stays w x u h j i) in
      sound_then p (λ y o. Unit {0}) _ x (asked (request_through r at (act.PutElem r.thing index (plain_of h)) ToBeDone)) _
      (sound_asked p _ x (request_through r at (act.PutElem r.thing index (plain_of h)) ToBeDone) (
        (
          u,
          z.thing.0,
          z.thing.1,
          z.thing.2,
          seen_from x r.thing.owner u _
              (λ i. sym (eqb-true r.thing.owner x.owner (z.thing.3 i))) held,
        ),
        goes_through x r (act.PutElem r.thing index (plain_of h)) refl (names_thing _ through through x r refl z z.thing.5),
        refl,
      )
      (λ y l answer q. tt)) (λ y l o q.
      sound_value p _ y _ (variables_stay x y env.variables l (variables_stay w x env.variables j v))))

grows_two : (u w x : HeapTyping) → Grows u w → Grows w x → Grows u x
grows_two u w x a b = grows_then u w x a b

grows_all : (u w x y : HeapTyping) → Grows u w → Grows w x → Grows x y → Grows u y
grows_all u w x y a b c = grows_then u x y (grows_then u w x a b) c

-- a value that an operator gives goes into a target
into_fine_update : (p : ProgramView) (w : HeapTyping) (at : Place) (r u seen : ValueType) (h : Held) → (narrows r u || fits r u) ≡ true
    → Seen u seen → IsOf w r h → Sound p (λ x k. IsOf x u k) w (converted at seen h)
into_fine_update p w at r u seen h z i k = by (or_either _ _ z)
  where
    narrow : (r u : ValueType) → narrows r u ≡ true → Seen u seen → IsOf w r h → Sound p (λ x k. IsOf x u k) w (converted at seen h)
    narrow t.Long t.Int z i k = subst (λ a. Sound p (λ x k. IsOf x t.Int k) w (converted at a h)) (sym i) (cast_fine p w at t.Int t.Long h refl k)
    narrow t.Long _ z i k = absurd (true_false (sym z))
    narrow _ _ z i k = absurd (true_false (sym z))

    by : (narrows r u ≡ true) ⊎ (fits r u ≡ true) → Sound p (λ x k. IsOf x u k) w (converted at seen h)
    by (inl z) = narrow r u z i k
    by (inr z) = converted_fine p w at r u seen h z i k

declared_fits : (d : Declaration) (type : ValueType) → DeclaredFits d type → fits type (declared_type d) ≡ true
declared_fits (t.Typed l a) type k = k
declared_fits t.Foreach type k = absurd k

declared_holds : (w : HeapTyping) (d : Declaration) (type : ValueType) (h : Held) → DeclaredFits d type → IsOf w (declared_type d) h → HoldsOf w d h
declared_holds w (t.Typed l a) type h k i = i
declared_holds w t.Foreach type h k i = absurd k

-- a value on its way to a receiver
pub into_fine : (s : ScopeContents) (w : HeapTyping) (env : Env) → EnvFits (uses_of env.method) s w env → FieldsFit env.program → FieldsStorable env.program → VariablesFit w env.variables
    → (receiver : Receiver) (type : ValueType) (right : Comp Held) → ReceiverFits env.program env.method s receiver type
    → ((u : HeapTyping) → Grows w u → Sound env.program (λ x h. IsOf x type h) u right) → Sound env.program (λ x vs. VariablesFit x vs) w (into env receiver right)
into_fine s w env f g d v Nowhere type right k r = sound_then env.program _ _ w right _ (r w (grows_not w)) (λ x j h y. sound_value env.program _ x _ (variables_stay w x env.variables j v))
into_fine s w env f g d v (Declared at variable) type right k r =
    let p = env.program in
    sound_then p (λ x h. IsOf x type h) _ w right _ (r w (grows_not w)) (λ x j h y.
    sound_then p (λ x h. IsOf x (declared_type variable.declared) h) _ x (converted at (declared_type variable.declared) h) _
    (converted_fine p x at type _ _ h (declared_fits variable.declared type k) (seen_same _) y) (λ z l i o.
    sound_value p _ z _ (declared_holds z variable.declared type i k o, variables_stay x z env.variables l (variables_stay w x env.variables j v))))
into_fine s w env f g d v (Assigned at target) type right k r =
    let p = env.program in
    let seen = (eval_fine (uses_of env.method) s w env f g target k.1.0.0 k.0 k.1.0.1).seen in
    sound_then p (λ x y. TargetFits p x (type_of env target) k.0 y) _ w (located env target) _ (located_fine s w env f g target k.0 k.1) (λ x j place y.
    sound_then p (λ x h. IsOf x type h) _ x right _ (r x j) (λ z l h o.
    sound_then p (λ x h. IsOf x k.0 h) _ z (converted at (type_of env target) h) _ (converted_fine p z at type k.0 _ h k.2 seen o) (λ a m i q.
    let fits_there = env_stays (uses_of env.method) s w a env (grows_all w x z a j l m) f in
    stored_fine s a env fits_there g d at (type_of env target) k.0 place i
    (target_stays p x a (type_of env target) k.0 place (grows_two x z a l m) y)
    (variables_stay w a env.variables (grows_all w x z a j l m) v) q)))
into_fine s w env f g d v (Updated at op target) type right k r =
    let p = env.program in
    let told = eval_fine (uses_of env.method) s w env f g target k.2.0.0 k.0 k.2.0.1 in
    sound_then p (λ x y. TargetFits p x (type_of env target) k.0 y) _ w (located env target) _ (located_fine s w env f g target k.0 k.2) (λ x j place y.
    sound_then p (λ x h. IsOf x k.0 h) _ x (held_in env (place_of_numbered target) (type_of env target) place) _
    (held_fine s x env (env_stays (uses_of env.method) s w x env j f) g (place_of_numbered target) k.0 (type_of env target) place told.dims y (variables_stay w x env.variables j v)) (λ b n old old_is.
    sound_then p (λ x h. IsOf x type h) _ b right _ (r b (grows_two w x b j n)) (λ z l h o.
    sound_then p (λ x h. IsOf x k.1 h) _ z (apply_binary at op old h) _
    (operated_fine p z at k.0 type k.1 k.0 type old h (seen_same k.0) (seen_same type) (of_stays b z k.0 old l old_is) o op k.3).0
    (λ c m new new_is.
    sound_then p (λ x h. IsOf x k.0 h) _ c (converted at (type_of env target) new) _ (into_fine_update p c at k.1 k.0 _ new k.4 told.seen new_is) (λ a q i i_is.
    let all = grows_two w b a (grows_two w x b j n) (grows_all b z c a l m q) in
    stored_fine s a env (env_stays (uses_of env.method) s w a env all f) g d at (type_of env target) k.0 place i
    (target_stays p x a (type_of env target) k.0 place (grows_two x b a n (grows_all b z c a l m q)) y)
    (variables_stay w a env.variables all v) i_is)))))
