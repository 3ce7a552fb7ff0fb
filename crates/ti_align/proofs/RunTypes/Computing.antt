-- How sound computations are put together.
use Rattle.std.proofs.Common.{◌≡◌, ℕ, Bool, true, false, inl, inr, Option, Some, None, List, [], ◌∷◌, refl, ap, sym, ◌∙◌, subst, eqb-true}
use Rattle.ti_base.specs.declared.place.Place.{Place}
use Rattle.ti_base.specs.declared.value.Id.{Id}
use Rattle.ti_base.specs.declared.fault.FaultKind.{FaultKind}
use Rattle.ti_base.specs.declared.fault.FaultKind.TheVariants.{NullRef}
use Rattle.ti_base.specs.declared.action.Action.{Action}
use Rattle.ti_base.specs.declared.entry.Answer.{Answer}
use Rattle.ti_lang.specs.Program.Types.{ValueType}
use Rattle.ti_lang.specs.Program.Types as t
use Rattle.ti_lang.specs.Program.Classes.{ProgramView}
use Rattle.ti_lang.specs.Typing.Kinds.{is_local}
use Rattle.ti_lang.specs.Meaning.Held.{Held, referent_of}
use Rattle.ti_lang.specs.Meaning.Comp.{Wanted, Request, request, Reference, needed, Comp, ◌>>=◌, bind_result, gives, guard, found_or, asked, told}
use Rattle.ti_lang.specs.Meaning.Evaluation.{is_own}
use Rattle.ti_align.specs.Dangling.{used_by}
use Rattle.ti_align.specs.HeapTyping.{HeapTyping, with_owner, Grows, IsGridOf, IsPlaced, IsOwn, IsOf, IsThingOf}
use Rattle.ti_align.proofs.Runs.Vars.{true_false}
use Rattle.ti_align.specs.Existing.{OperandsExist, GoesThrough, SuitsWanted, FitsAsked}
use Rattle.ti_align.specs.Mirrors.Sound.{ReferenceFits, Sound, value, fault, asks}

-- ---- what is there grows

pub grows_not : (w : HeapTyping) → Grows w w
grows_not w = record { owner = refl; classes = λ id c h. h; grids = λ id g h. h; elements = λ id t h. h; regions = λ r h. h }

pub grows_then : (u w x : HeapTyping) → Grows u w → Grows w x → Grows u x
grows_then u w x a b = record {
  owner = a.owner ∙ b.owner;
  classes = λ id c h. b.classes id c (a.classes id c h);
  grids = λ id g h. b.grids id g (a.grids id g h);
  elements = λ id t h. b.elements id t (a.elements id t h);
  regions = λ r h. b.regions r (a.regions r h);
}

-- for another process too
pub grows_for : (i : ℕ) (u w : HeapTyping) → Grows u w → Grows (with_owner i u) (with_owner i w)
grows_for i u w g = record { owner = refl; classes = g.classes; grids = g.grids; elements = g.elements; regions = g.regions }

pub own_stays : (u w : HeapTyping) (l : Bool) (o : Option Id) → Grows u w → IsOwn u l o → IsOwn w l o
own_stays u w l o g k z = subst (λ n. is_own n o ≡ true) g.owner (k z)

pub grid_stays : (u w : HeapTyping) (e : ValueType) (n : ℕ) (id : Id) → Grows u w → IsGridOf u e n id → IsGridOf w e n id
grid_stays u w e n id g k = (k.0, g.grids id k.0 k.1, k.2, g.elements k.0.block e k.3, k.4, k.5)

pub place_stays : (u w : HeapTyping) (r : ℕ) → Grows u w → IsPlaced u r → IsPlaced w r
place_stays u w r g (inl h) = inl h
place_stays u w r g (inr h) = inr (g.regions r h)

-- a value stays of its type
pub of_stays : (u w : HeapTyping) (type : ValueType) (h : Held) → Grows u w → IsOf u type h → IsOf w type h
of_stays u w t.Region h g k = (k.0, k.1, place_stays u w k.0 g k.2)
of_stays u w (t.Class c l) h g k = (k.0, k.1, (λ id z. g.classes id c (k.2 id z)), own_stays u w l k.0 g k.3)
of_stays u w (t.Grid e n l) h g k = (k.0, k.1, (λ id z. grid_stays u w e n id g (k.2 id z)), own_stays u w l k.0 g k.3)
of_stays u w _ h g k = k

-- so does a thing
pub thing_stays : (u w : HeapTyping) (type : ValueType) (id : Id) → Grows u w → IsThingOf u type id → IsThingOf w type id
thing_stays u w (t.Class c l) id g k = g.classes id c k
thing_stays u w (t.Grid e n l) id g k = grid_stays u w e n id g k
thing_stays u w _ id g k = absurd k

pub reference_stays : (u w : HeapTyping) (r : Reference) → Grows u w → ReferenceFits u r → ReferenceFits w r
reference_stays u w r g k = (own_stays u w (is_local r.type) (Some r.thing) g k.0, thing_stays u w r.type r.thing g k.1)

-- ---- owners

pub same_owner : (i j : ℕ) (o : Option Id) → i ≡ j → is_own i o ≡ true → is_own j o ≡ true
same_owner i j o e k = subst (λ n. is_own n o ≡ true) e k

-- what one process has another one has too, if it's the same process wherever the type is local
pub seen_from : (w : HeapTyping) (i : ℕ) (a : ValueType) (h : Held) → (is_local a ≡ true → w.owner ≡ i) → IsOf w a h → IsOf (with_owner i w) a h
seen_from w i (t.Class c l) h f k = (k.0, k.1, k.2, λ z. same_owner w.owner i k.0 (f z) (k.3 z))
seen_from w i (t.Grid e n l) h f k = (k.0, k.1, k.2, λ z. same_owner w.owner i k.0 (f z) (k.3 z))
seen_from w i _ h f k = k

-- what a value of a local type names
pub own_of : (w : HeapTyping) (a : ValueType) (h : Held) → IsOf w a h → IsOwn w (is_local a) (referent_of h)
own_of w (t.Class c l) h k z = subst (λ o. is_own w.owner o ≡ true) (sym (ap referent_of k.1)) (k.3 z)
own_of w (t.Grid e n l) h k z = subst (λ o. is_own w.owner o ≡ true) (sym (ap referent_of k.1)) (k.3 z)
own_of w _ h k z = absurd (true_false (sym z))

-- ---- actions through references

pub goes_stays : (u w : HeapTyping) (through : ValueType) (a : Action) → Grows u w → GoesThrough u through a → GoesThrough w through a
goes_stays u w through a g k = ((λ l. same_owner u.owner w.owner (used_by a) g.owner (k.0 l)), λ id z. thing_stays u w through id g (k.1 id z))

-- an action that goes through none
pub goes_alone : (w : HeapTyping) (a : Action) → used_by a ≡ None → GoesThrough w t.Void a
goes_alone w a n = ((λ z. absurd (true_false (sym z))), λ id z. absurd (not_some id (sym n ∙ z)))
  where
    not_some : (id : Id) → ◌≡◌ {A = Option Id} None (Some id) → ⊥
    not_some id z = cc

-- an action that uses what the reference names
pub goes_through : (w : HeapTyping) (r : Reference) (a : Action) → used_by a ≡ Some r.thing → ReferenceFits w r → GoesThrough w r.type a
goes_through w r a n k = ((λ l. subst (λ o. is_own w.owner o ≡ true) (sym n) (k.0 l)), λ id z. subst (IsThingOf w r.type) (same_thing r.thing id (sym n ∙ z)) k.1)
  where
    same_thing : (x y : Id) → Some x ≡ Some y → x ≡ y
    same_thing x y z = cc

-- ---- computations

module _ (p : ProgramView) where
  pub same_sound : {A : Type 0} (P : HeapTyping → A → Type 0) (w : HeapTyping) (m n : Comp A) → ((rest : List Answer) → m rest ≡ n rest) → Sound p P w m → Sound p P w n
  same_sound P w m n k (value a h e) = value a h (λ rest. sym (k rest) ∙ e rest)
  same_sound P w m n k (fault kind at e) = fault kind at (λ rest. sym (k rest) ∙ e rest)
  same_sound P w m n k (asks q z i f) = asks q (sym (k []) ∙ z) i (λ u g r t. same_sound P u (λ rest. m (r ∷ rest)) (λ rest. n (r ∷ rest)) (λ rest. k (r ∷ rest)) (f u g r t))

  pub sound_then : {A B : Type 0} (P : HeapTyping → A → Type 0) (Q : HeapTyping → B → Type 0) (w : HeapTyping) (m : Comp A) (go : A → Comp B) → Sound p P w m
      → ((u : HeapTyping) → Grows w u → (a : A) → P u a → Sound p Q u (go a)) → Sound p Q w (m >>= go)
  sound_then P Q w m go (value a h e) f = same_sound Q w (go a) (m >>= go) (λ rest. sym (ap (λ g. bind_result g go) (e rest))) (f w (grows_not w) a h)
  sound_then P Q w m go (fault kind at e) f = fault kind at (λ rest. ap (λ g. bind_result g go) (e rest))
  sound_then P Q w m go (asks q z i f) h =
      asks q (ap (λ g. bind_result g go) z) i (λ u g r t. sound_then P Q u (λ rest. m (r ∷ rest)) go (f u g r t) (λ x k a o. h x (grows_then w u x g k) a o))

  pub weaker : {A : Type 0} (P Q : HeapTyping → A → Type 0) (w : HeapTyping) (m : Comp A) → Sound p P w m → ((u : HeapTyping) → Grows w u → (a : A) → P u a → Q u a) → Sound p Q w m
  weaker P Q w m (value a h e) f = value a (f w (grows_not w) a h) e
  weaker P Q w m (fault kind at e) f = fault kind at e
  weaker P Q w m (asks q z i k) f = asks q z i (λ u g r t. weaker P Q u (λ rest. m (r ∷ rest)) (k u g r t) (λ x l a o. f x (grows_then w u x g l) a o))

  pub sound_value : {A : Type 0} (P : HeapTyping → A → Type 0) (w : HeapTyping) (a : A) → P w a → Sound p P w (gives a)
  sound_value P w a h = value a h (λ rest. refl)

  pub sound_guarded : {A : Type 0} (P : HeapTyping → A → Type 0) (w : HeapTyping) (test : Bool) (kind : FaultKind) (at : Place) (a : A) → P w a → Sound p P w (guard test kind at a)
  sound_guarded P w true kind at a h = value a h (λ rest. refl)
  sound_guarded P w false kind at a h = fault kind at (λ rest. refl)

  -- where the test holds
  pub sound_tested : {A : Type 0} (P : HeapTyping → A → Type 0) (w : HeapTyping) (test : Bool) (kind : FaultKind) (at : Place) (a : A) → (test ≡ true → P w a) → Sound p P w (guard test kind at a)
  sound_tested P w true kind at a h = value a (h refl) (λ rest. refl)
  sound_tested P w false kind at a h = fault kind at (λ rest. refl)

  pub sound_found : {A : Type 0} (P : HeapTyping → A → Type 0) (w : HeapTyping) (kind : FaultKind) (at : Place) (o : Option A) → ((a : A) → o ≡ Some a → P w a) → Sound p P w (found_or kind at o)
  sound_found P w kind at None h = fault kind at (λ rest. refl)
  sound_found P w kind at (Some a) h = value a (h a refl) (λ rest. refl)

  -- an action that goes through no reference
  pub sound_request : (P : HeapTyping → Held → Type 0) (w : HeapTyping) (at : Place) (a : Action) (wanted : Wanted) → used_by a ≡ None
      → OperandsExist p w a wanted → SuitsWanted p w a wanted → ((u : HeapTyping) → Grows w u → (r : Answer) → FitsAsked p u a wanted r
      → P u (told r)) → Sound p P w (asked (request at a wanted))
  sound_request P w at a wanted n i s f = asks (request at a wanted) refl (i, goes_alone w a n, s) (λ u g r t. value (told r) (f u g r t) (λ rest. refl))

  pub sound_asked : (P : HeapTyping → Held → Type 0) (w : HeapTyping) (q : Request) → OperandsExist p w q.action q.wanted
      × GoesThrough w q.through q.action × SuitsWanted p w q.action q.wanted
      → ((u : HeapTyping) → Grows w u → (r : Answer) → FitsAsked p u q.action q.wanted r → P u (told r)) → Sound p P w (asked q)
  sound_asked P w q i f = asks q refl i (λ u g r t. value (told r) (f u g r t) (λ rest. refl))

-- a reference that is needed: it has this type in the text, and what it names is the own one of the process where that is local
pub record Names (P : HeapTyping → Id → Type 0) (through : ValueType) (w : HeapTyping) (r : Reference) : Type 0 where
  pub type : r.type ≡ through
  pub thing : P w r.thing
  pub own : IsOwn w (is_local r.type) (Some r.thing)

-- the process, where that is local
pub names_own : (P : HeapTyping → Id → Type 0) (through : ValueType) (u w : HeapTyping) (r : Reference) → Grows u w → Names P through u r → is_local through ≡ true → r.thing.owner ≡ w.owner
names_own P through u w r g n z = eqb-true r.thing.owner u.owner (n.own (ap is_local n.type ∙ z)) ∙ g.owner

-- what it names is a thing of that type
pub names_thing : (P : HeapTyping → Id → Type 0) (through type : ValueType) (w : HeapTyping) (r : Reference) → through ≡ type → Names P through w r → IsThingOf w type r.thing → ReferenceFits w r
names_thing P through type w r e n k = (n.own, subst (λ x. IsThingOf w x r.thing) (sym (n.type ∙ e)) k)

pub needed_as : (p : ProgramView) (w : HeapTyping) (at : Place) (through : ValueType) (h : Held) (P : HeapTyping → Id → Type 0)
    → ((id : Id) → referent_of h ≡ Some id → P w id) → IsOwn w (is_local through) (referent_of h)
    → Sound p (λ u (r : Reference). Names P through u r) w (needed at through h)
needed_as p w at through h P k own =
    sound_then p (λ u id. P u id × IsOwn u (is_local through) (Some id)) (λ u r. Names P through u r) w (found_or NullRef at (referent_of h)) _
    (sound_found p _ w NullRef at (referent_of h) (λ id z. (k id z, λ l. subst (λ o. is_own w.owner o ≡ true) z (own l))))
    (λ u g id z. sound_value p _ u _ (record { type = refl; thing = z.0; own = z.1 }))
